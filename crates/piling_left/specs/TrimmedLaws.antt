-- Laws of trimmed bytes: their letters, and the loops that trim from either end. The bytes done so far and those still
-- to do are the word in the order in which it is gone through.
use Rattle.std.specs.Prelude.{ℕ, suc, ◌+◌, ◌-◌, ◌<◌, ◌≤◌, ◌≡◌, refl, get_or, set, take, drop}
use native.Mathlib.Omega.{arith}
use Rattle.std.proofs.Common.{add-one, ◌∙◌, ap, subst, subst₂, length-set, take-append-drop, take-suc, drop-cons, take-suc-set, drop-set-lt, get_or-set_same, get_or-set_other, drop_at, length-take-le, eq-eqb, ne_eqb}
use Rattle.std.proofs.Math.Decide.{ℕ_discrete, dec_lt}
use Rattle.std.proofs.Math.Path.{sym}
use mathlib.Core.List.{List, [], ◌∷◌, ◌++◌, reverse, reverse-append, reverse-reverse, append-nil, append_assoc}
use Rattle.std.proofs.Math.ListN.{length, get_or-eq_default}
use Rattle.std.proofs.Math.Seq.{drop-length, take-length}
use Rattle.std.proofs.lemmas.List.{take-set-le, set_split}
use Rattle.theory_words.specs.Filter.{filter}
use Rattle.theory_words.specs.Trim as Trim
use Rattle.theory_words.specs.Trim.{Less, Trims, keep, off}
use Rattle.spec.specs.Byte.{command_of}
use Rattle.spec.specs.Letters.{letters, alphabet}
use Rattle.spec_laws.specs.LettersLaws.{letters_filler, letters_letter}
use Rattle.piling_left.specs.Left.{total, trimmed_step, lowered, trimmed}
use Rattle.piling_left.specs.TotalLaws.{total_lowered, total_none}

-- the two cases of a byte

trimmed_kept : (n : List ℕ) (b : ℕ) (w : List ℕ) → get_or n (command_of b) 0 ≡ 0 → trimmed n (b ∷ w) ≡ b ∷ trimmed n w
unfolding trimmed
trimmed_kept n b w e =
    ap (λ t. trimmed_step t b (trimmed n w) (trimmed (lowered n (command_of b)) w))
    (eq-eqb (get_or n (command_of b) 0) 0 e)

trimmed_cut : (n : List ℕ) (b : ℕ) (w : List ℕ) → ¬ (get_or n (command_of b) 0 ≡ 0)
    → trimmed n (b ∷ w) ≡ 0 ∷ trimmed (lowered n (command_of b)) w
unfolding trimmed
trimmed_cut n b w e =
    ap (λ t. trimmed_step t b (trimmed n w) (trimmed (lowered n (command_of b)) w))
    (ne_eqb (get_or n (command_of b) 0) 0 e)

lowered_less : (n : List ℕ) (k : ℕ) → ¬ (get_or n k 0 ≡ 0) → Less (λ j. get_or n j 0) k (λ j. get_or (lowered n k) j 0)
lowered_less n k e = record {
  own = go (dec_lt k (length n));
  others = λ j d. sym (get_or-set_other n k j (get_or n k 0 - 1) 0 d);
}
  where
    go : Dec (k < length n) → get_or n k 0 ≡ suc (get_or (lowered n k) k 0)
    go (yes l) = omega (arith, e, get_or-set_same n k (get_or n k 0 - 1) 0 l)
    go (no l) = absurd (e (get_or-eq_default n 0 (omega (arith, l))))

-- the letters of trimmed bytes are the letters trimmed, where no filler is counted as a letter
pub trimmed_trims : (c n w : List ℕ) → get_or n 0 0 ≡ 0
    → Trims (alphabet c) (λ k. get_or n k 0) (letters w) (letters (trimmed n w))
unfolding trimmed letters filter
trimmed_trims c n [] z = Trim.none
trimmed_trims c n (b ∷ w) z =
    go (ℕ_discrete (get_or n (command_of b) 0) 0) (ℕ_discrete b 0) (trimmed_trims c n w)
    (trimmed_trims c (lowered n (command_of b)) w)
  where
    k : ℕ
    k = command_of b

    go : Dec (get_or n k 0 ≡ 0) → Dec (b ≡ 0)
        → (get_or n 0 0 ≡ 0 → Trims (alphabet c) (λ j. get_or n j 0) (letters w) (letters (trimmed n w)))
        → (get_or (lowered n k) 0 0 ≡ 0
        → Trims (alphabet c) (λ j. get_or (lowered n k) j 0) (letters w) (letters (trimmed (lowered n k) w)))
        → Trims (alphabet c) (λ j. get_or n j 0) (letters (b ∷ w)) (letters (trimmed n (b ∷ w)))
    go (yes e) (yes f) same less =
        rw (trimmed_kept n b w e, letters_filler b w (eq-eqb b 0 f), letters_filler b (trimmed n w) (eq-eqb b 0 f))
        (same z)
    go (yes e) (no f) same less =
        rw (trimmed_kept n b w e, letters_letter b w (ne_eqb b 0 f), letters_letter b (trimmed n w) (ne_eqb b 0 f))
        (keep e (same z))
    go (no e) (yes f) same less = absurd (e (ap (λ a. get_or n (command_of a) 0) f ∙ z))
    go (no e) (no f) same less =
        rw (
          trimmed_cut n b w e,
          letters_letter b w (ne_eqb b 0 f),
          letters_filler 0 (trimmed (lowered n k) w) refl,
        )
        (off (lowered_less n k e)
        (less (get_or-set_other n k 0 (get_or n k 0 - 1) 0 (λ d. e (ap (λ j. get_or n j 0) (sym d) ∙ z)) ∙ z)))

-- where no letter is to go, all stay
trimmed_none : (n w : List ℕ) → ((k : ℕ) → get_or n k 0 ≡ 0) → trimmed n w ≡ w
unfolding trimmed
trimmed_none n [] z = refl
trimmed_none n (b ∷ w) z = trimmed_kept n b w (z (command_of b)) ∙ ap (λ v. b ∷ v) (trimmed_none n w z)

-- of the word gone through, `done` are the bytes passed, and `todo` those left, so that all will be the goal; so many
-- more are to go
pub record Trimming (goal before word left : List ℕ) (more i : ℕ) (done todo : List ℕ) : Type 0 where
  pub count : total left ≡ more
  pub within : i ≤ length word
  pub long : length word ≡ length before
  pub state : goal ≡ done ++ trimmed left todo

module _ {goal before word left : List ℕ} {more i : ℕ} {done todo : List ℕ} (j b : ℕ) (h : j ≤ length word)
    (t : Trimming goal before word left more i done (b ∷ todo)) where
  trimming_kept : get_or left (command_of b) 0 ≡ 0 → Trimming goal before word left more j (done ++ b ∷ []) todo
  trimming_kept e = record {
    count = t.count;
    within = h;
    long = t.long;
    state =
        t.state ∙ ap (λ w. done ++ w) (trimmed_kept left b todo e)
        ∙ sym (append_assoc done (b ∷ []) (trimmed left todo));
  }

  trimming_cut : (p : ℕ) → ¬ (get_or left (command_of b) 0 ≡ 0)
      → Trimming goal before (set word p 0) (lowered left (command_of b)) (more - 1) j (done ++ 0 ∷ []) todo
  trimming_cut p e =
      let low = lowered left (command_of b) in
      record {
        count = omega (arith, t.count, total_lowered left (command_of b) e);
        within = omega (arith, h, length-set word p 0);
        long = length-set word p 0 ∙ t.long;
        state =
            t.state ∙ ap (λ w. done ++ w) (trimmed_cut left b todo e)
            ∙ sym (append_assoc done (0 ∷ []) (trimmed low todo));
      }

-- from the front

abbrev pub Fronts : (goal before word left : List ℕ) → ℕ → ℕ → Type 0
Fronts goal before word left more i = Trimming goal before word left more i (take i word) (drop i word)

pub fronts_start : (counts word : List ℕ) {all : ℕ} → total counts ≡ all
    → Fronts (trimmed counts word) word word counts all 0
fronts_start counts word e = record { count = e; within = omega arith; long = refl; state = refl }

module _ {goal before word left : List ℕ} {more i : ℕ} (t : Fronts goal before word left more i) where
  pub fronts_rest : more ≡ 0 → word ≡ goal
  fronts_rest e =
      sym (t.state ∙ ap (λ w. take i word ++ w) (trimmed_none left (drop i word) (total_none left (t.count ∙ e)))
      ∙ take-append-drop i word)

  pub fronts_end : length word ≤ i → word ≡ goal
  unfolding trimmed
  fronts_end l =
      let e : i ≡ length word = omega (arith, l, t.within) in
      sym (rw (e, take-length word, drop-length word, append-nil word) at t.state)

  module _ (l : i < length word) where
    abbrev b : ℕ
    b = get_or word i 0

    front_next : Trimming goal before word left more i (take i word) (b ∷ drop (i + 1) word)
    front_next =
        subst (λ w. Trimming goal before word left more i (take i word) w)
        (drop-cons word i 0 l ∙ ap (λ j. b ∷ drop j word) (sym (add-one i))) t

    pub fronts_kept : get_or left (command_of (get_or word i 0)) 0 ≡ 0 → Fronts goal before word left more (i + 1)
    fronts_kept e =
        subst (λ w. Trimming goal before word left more (i + 1) w (drop (i + 1) word))
        (sym (ap (λ j. take j word) (add-one i) ∙ take-suc word i 0 l))
        (trimming_kept (i + 1) b (omega arith) front_next e)

    pub fronts_cut : ¬ (get_or left (command_of (get_or word i 0)) 0 ≡ 0)
        → Fronts goal before (set word i 0) (lowered left (command_of (get_or word i 0))) (more - 1) (i + 1)
    fronts_cut e =
        subst₂ (λ v w. Trimming goal before (set word i 0) (lowered left (command_of b)) (more - 1) (i + 1) v w)
        (sym (ap (λ j. take j (set word i 0)) (add-one i) ∙ take-suc-set word i 0 l))
        (sym (drop-set-lt (i + 1) word i 0 (omega arith)))
        (trimming_cut (i + 1) b (omega arith) front_next i e)

-- from the end

abbrev pub Backs : (goal before word left : List ℕ) → ℕ → ℕ → Type 0
Backs goal before word left more i =
    Trimming goal before word left more i (reverse (drop i word)) (reverse (take i word))

pub backs_start : (counts word : List ℕ) {all : ℕ} → total counts ≡ all
    → Backs (trimmed counts (reverse word)) word word counts all (length word)
backs_start counts word e = record {
  count = e;
  within = omega arith;
  long = refl;
  state = rw (drop-length word, take-length word);
}

module _ {goal before word left : List ℕ} {more i : ℕ} (t : Backs goal before word left more i) where
  pub backs_rest : more ≡ 0 → word ≡ reverse goal
  backs_rest e =
      let s : goal ≡ reverse word =
      t.state
      ∙ ap (λ w. reverse (drop i word) ++ w)
      (trimmed_none left (reverse (take i word)) (total_none left (t.count ∙ e)))
      ∙ sym (reverse-append (take i word) (drop i word))
      ∙ ap reverse (take-append-drop i word) in
      sym (ap reverse s ∙ reverse-reverse word)

  pub backs_end : i ≤ 0 → word ≡ reverse goal
  unfolding trimmed
  backs_end l =
      let e : i ≡ 0 = omega arith in
      let s : goal ≡ reverse word = (rw (e) at t.state) ∙ append-nil (reverse word) in
      sym (ap reverse s ∙ reverse-reverse word)

  module _ (l : 0 < i) where
    abbrev a : ℕ
    a = get_or word (i - 1) 0

    last : suc (i - 1) ≡ i
    last = omega arith

    back_next : Trimming goal before word left more i (reverse (drop i word))
        (a ∷ reverse (take (i - 1) word))
    back_next =
        subst (λ w. Trimming goal before word left more i (reverse (drop i word)) w)
        (ap (λ j. reverse (take j word)) (sym last)
        ∙ ap reverse (take-suc word (i - 1) 0 (omega (arith, t.within)))
        ∙ reverse-append (take (i - 1) word) (a ∷ [])) t

    pub backs_kept : get_or left (command_of (get_or word (i - 1) 0)) 0 ≡ 0 → Backs goal before word left more (i - 1)
    backs_kept e =
        subst (λ w. Trimming goal before word left more (i - 1) w (reverse (take (i - 1) word)))
        (sym (ap reverse (drop-cons word (i - 1) 0 (omega (arith, t.within)) ∙ ap (λ j. a ∷ drop j word) last)
        ∙ reverse-append (a ∷ []) (drop i word)))
        (trimming_kept (i - 1) a (omega (arith, t.within)) back_next e)

    pub backs_cut : ¬ (get_or left (command_of (get_or word (i - 1) 0)) 0 ≡ 0)
        → Backs goal before (set word (i - 1) 0) (lowered left (command_of (get_or word (i - 1) 0))) (more - 1) (i - 1)
    backs_cut e =
        let w = set word (i - 1) 0 in
        let d : drop (i - 1) w ≡ 0 ∷ drop i word
        = ap (drop (i - 1)) (set_split word (i - 1) 0 (omega (arith, t.within)))
        ∙ drop_at (take (i - 1) word) (0 ∷ drop (suc (i - 1)) word) (i - 1)
        (length-take-le (i - 1) word (omega (arith, t.within)))
        ∙ ap (λ j. 0 ∷ drop j word) last in
        subst₂
        (λ u v. Trimming goal before w (lowered left (command_of a)) (more - 1) (i - 1) u v)
        (sym (ap reverse d ∙ reverse-append (0 ∷ []) (drop i word)))
        (sym (ap reverse (take-set-le (i - 1) word (i - 1) 0 (omega arith))))
        (trimming_cut (i - 1) a (omega (arith, t.within)) back_next (i - 1) e)
