-- Laws of undoing a plan on a piling.
use Rattle.std.specs.Prelude.{ℕ, ◌+◌, ◌-◌, ◌≤◌, ◌<◌, ◌≡◌, refl, true, false, ◌↔◌, get_or, take}
use Rattle.std.proofs.Common.{sym, ◌∙◌, ap, subst, arith, length-take, length-append, add-one, take-suc, take_at, take_all, eq-eqb, ne_eqb}
use Rattle.std.proofs.lemmas.Bool.{false≢true}
use mathlib.Core.List.{List, [], ◌∷◌, ◌++◌, reverse}
use Rattle.std.specs.List.{push}
use Rattle.std.proofs.Math.Seq.{take-append_seam, get_or-append_seam}
use Rattle.std.proofs.Math.Decide.{ℕ_discrete}
use Rattle.std.proofs.Math.ListN.{length}
use Rattle.std.proofs.lemmas.List.{length-reverse, get_or_at}
use Rattle.theory_words.specs.Filter.{filter}
use Rattle.theory_words.specs.Trace.{First}
use Rattle.theory_words.specs.Group as Group
use Rattle.theory_words.specs.Group.{Reduced, back, empty}
use Rattle.theory_words.specs.Reduce.{act}
use Rattle.theory_words.specs.ReduceLaws.{put, acts, act_is, act_falls, act_rises, act_shift, act_reduced}
use Rattle.theory_words.specs.ReduceLaws.{reduced_least}
use Rattle.spec.specs.Catalogue.{commands}
use Rattle.spec.specs.Byte.{command_of, undone}
use Rattle.spec.specs.AlphabetLaws.{command_undone}
use Rattle.spec.specs.Letters.{alphabet, letters}
use Rattle.spec_laws.specs.LettersLaws.{letters-length}
use Rattle.input_plan.specs.Lettered.{Lettered}
use Rattle.spec.specs.Plan.{passes}
use Rattle.spec_laws.specs.PlanLaws.{passing_at}
use Rattle.piling_stacks.specs.Piling.{Piled, Counted}
use Rattle.piling_stacks.specs.Push.{Facing, WithNewest}
use Rattle.spec_laws.specs.LettersLaws.{more_filler, more_letter}
use Rattle.piling_stacks.specs.PileLaws.{passes_range, facing_at}
use Rattle.piling_equal.specs.Comparing.{undone_by, undone_by_step, Undoable, Undone, Opposed}

pub tells_not : {P : Type 0} → (P → ⊥) → (false ≡ true) ↔ P
tells_not n = (λ e. absurd (false≢true e), λ p. absurd (n p))

pub tells : {P : Type 0} → P → (true ≡ true) ↔ P
tells p = (λ e. p, λ q. refl)

-- the two cases of a byte
undone_filler : (c : List ℕ) (b : ℕ) (z : List ℕ) → b ≡ 0 → undone_by c b z ≡ z
unfolding undone_by undone_by_step
undone_filler c b z e = rw (eq-eqb b 0 e)

undone_letter : (c : List ℕ) (b : ℕ) (z : List ℕ) → ¬ (b ≡ 0) → undone_by c b z ≡ act (alphabet c) (undone b) z
unfolding undone_by undone_by_step
undone_letter c b z n = rw (ne_eqb b 0 n)

-- one byte

module _ {c : List ℕ} {conflicts rows : List (List ℕ)} {heights : List ℕ} {byte spare : ℕ} {z : List ℕ}
    (u : Undoable c conflicts rows heights byte spare z) where
  pub undoable_range : ¬ (byte ≡ 0) → Lettered byte
  undoable_range n = passes_range c byte u.few u.passing n

  pub undoable_facing : ¬ (byte ≡ 0) → {letter : ℕ} → letter ≡ undone byte
      → Facing c rows heights (get_or conflicts (command_of byte - 1) []) (command_of byte - 1) letter z
  undoable_facing n e =
      rw e (rw (command_undone byte) at
      (facing_at {b = undone byte} u.table (rw (command_undone byte) (undoable_range n)) u.piled))

  pub filler_undone : byte ≡ 0 → Undone c rows heights byte spare z 1
  filler_undone e = record {
    spent = rw (undone_filler c byte z e);
    piled = λ l. rw (undone_filler c byte z e) u.piled;
    newest = λ h. absurd (omega arith);
  }

module _ (c : List ℕ) (byte spare : ℕ) (z : List ℕ) {letter : ℕ} (e : letter ≡ undone byte) (n : ¬ (byte ≡ 0)) where
  undone_acts : undone_by c byte z ≡ act (alphabet c) letter z
  undone_acts = undone_letter c byte z n ∙ ap (λ b. act (alphabet c) b z) (sym e)

  pub cut_undone : {rows : List (List ℕ)} {heights : List ℕ} → First (alphabet c) (undone letter) z
      → Piled c rows heights (act (alphabet c) letter z) → WithNewest c letter z
      → Undone c rows heights byte spare z 0
  cut_undone f p t = record {
    spent = rw undone_acts (omega (arith, act_falls (alphabet c) letter z f));
    piled = λ l. rw undone_acts p;
    newest = λ h. subst (λ b. WithNewest c b z) e t;
  }

  pub put_undone : {rows : List (List ℕ)} {heights : List ℕ} → ¬ First (alphabet c) (undone letter) z
      → (2 ≤ spare → Piled c rows heights (letter ∷ z)) → Undone c rows heights byte spare z 2
  put_undone f p = record {
    spent = rw undone_acts (omega (arith, act_rises (alphabet c) letter z f));
    piled = λ l. rw (undone_acts, act_is (alphabet c) (put f)) (p l);
    newest = λ h. absurd (omega arith);
  }

-- the bytes from place i on

module _ (c w : List ℕ) where
  infix 20 ◌≈◌
  abbrev ◌≈◌ : List ℕ → List ℕ → Type 0
  ◌≈◌ = Group.◌≈◌ (alphabet c)

  -- the word of the bytes before place i, its last letter first
  abbrev before : ℕ → List ℕ
  before i = reverse (letters (take i w))

  -- z is the word of one byte more exactly if, with that byte undone, it is the word of the others
  undone_same : (z : List ℕ) (i : ℕ) → i < length w → (z ≈ before (i + 1)) ↔ (undone_by c (get_or w i 0) z ≈ before i)
  undone_same z i l = go (ℕ_discrete (get_or w i 0) 0)
    where
      go : Dec (get_or w i 0 ≡ 0) → (z ≈ before (i + 1)) ↔ (undone_by c (get_or w i 0) z ≈ before i)
      go (yes e) = rw (undone_filler c (get_or w i 0) z e, more_filler w i l e) (λ f. f, λ f. f)
      go (no n) = rw (undone_letter c (get_or w i 0) z n, more_letter w i l n)
          (act_shift (alphabet c) (get_or w i 0) z (before i))

  undone_reduced : (b : ℕ) (z : List ℕ) → Reduced (alphabet c) z → Reduced (alphabet c) (undone_by c b z)
  undone_reduced b z r = go (ℕ_discrete b 0)
    where
      go : Dec (b ≡ 0) → Reduced (alphabet c) (undone_by c b z)
      go (yes e) = rw (undone_filler c b z e) r
      go (no n) = rw (undone_letter c b z n) (act_reduced (alphabet c) (acts (alphabet c) (undone b) z) r)

  -- no equal word is shorter
  same_short : (z : List ℕ) (i : ℕ) → Reduced (alphabet c) z → z ≈ before i → length z ≤ i
  same_short z i r e =
      omega (
        arith,
        reduced_least (alphabet c) (before i) z r (back e),
        length-reverse (letters (take i w)),
        letters-length (take i w),
        length-take i w,
      )

  -- rows and heights hold a reduced word that is `spare` letters shorter than i, and z₀ is w's word exactly if that is
  -- the word of the bytes before place i
  pub record Left (z₀ : List ℕ) (rows : List (List ℕ)) (heights : List ℕ) (spare i : ℕ) : Type 0 where
    pub word : List ℕ
    pub piled : Piled c rows heights word
    pub reduced : Reduced (alphabet c) word
    pub spared : length word + spare ≡ i
    pub same : (z₀ ≈ reverse (letters w)) ↔ (word ≈ before i)

  left_start : {rows : List (List ℕ)} {heights z₀ : List ℕ} {n : ℕ} → n ≤ length w → Counted c rows heights z₀ n
      → Reduced (alphabet c) z₀ → Left z₀ rows heights (length w - n) (length w)
  left_start {z₀ = z₀} l p r = record {
    word = z₀;
    piled = p.piled;
    reduced = r;
    spared = omega (arith, p.count);
    same = rw (take_all (length w) w (omega arith)) (λ e. e, λ e. e);
  }

  -- the byte at place i undone
  module _ {z₀ : List ℕ} {rows : List (List ℕ)} {heights : List ℕ} {spare i : ℕ} (l : i < length w)
      (q : Left z₀ rows heights spare (i + 1)) {rows' : List (List ℕ)} {heights' : List ℕ} {r : ℕ}
      (u : Undone c rows' heights' (get_or w i 0) spare q.word r) where
    same_again : (z₀ ≈ reverse (letters w)) ↔ (undone_by c (get_or w i 0) q.word ≈ before i)
    same_again =
        let s = undone_same q.word i l in
        (λ e. s.0 (q.same.0 e), λ e. q.same.1 (s.1 e))

    left_again : r ≤ spare → Left z₀ rows' heights' (spare - r) i
    left_again k = record {
      word = undone_by c (get_or w i 0) q.word;
      piled = u.piled k;
      reduced = undone_reduced (get_or w i 0) q.word q.reduced;
      spared = omega (arith, u.spent, q.spared);
      same = same_again;
    }

    -- what is left has more letters than the bytes before it
    left_over : spare < r → ¬ (z₀ ≈ reverse (letters w))
    left_over k e =
        let b = get_or w i 0 in
        let h = same_short (undone_by c b q.word) i (undone_reduced b q.word q.reduced) (same_again.0 e) in
        omega (arith, u.spent, q.spared)

  left_none : {z₀ : List ℕ} {rows : List (List ℕ)} {heights : List ℕ} {spare : ℕ} → Left z₀ rows heights spare 0
      → z₀ ≈ reverse (letters w)
  unfolding letters filter
  left_none q = q.same.1 (go q.word (omega (arith, q.spared)))
    where
      go : (z : List ℕ) → length z ≡ 0 → z ≈ []
      go [] h = empty
      go (b ∷ z) h = absurd (omega arith)

-- the loop: the bytes of rest are still to be undone, from the last to the first
pub record Undoing (w : List ℕ) (conflicts rows₀ : List (List ℕ)) (heights₀ : List ℕ) (n : ℕ) (rows : List (List ℕ))
    (heights : List ℕ) (spare : ℕ) (rest : List ℕ) : Type 0 where
  pub within : rest ≡ take (length rest) w
  pub left : (c z : List ℕ) → Opposed c w conflicts rows₀ heights₀ n z → Left c w z rows heights spare (length rest)

module _ {w : List ℕ} {conflicts rows₀ : List (List ℕ)} {heights₀ : List ℕ} {n : ℕ} where
  pub undoing_many : length w < n → (c z : List ℕ) → Opposed c w conflicts rows₀ heights₀ n z
      → ¬ (Group.◌≈◌ (alphabet c) z (reverse (letters w)))
  undoing_many l c z o e =
      let f = rw (← take_all (length w) w (omega arith)) at e in
      omega (arith, same_short c w z (length w) o.reduced f, o.counted.count)

  pub undoing_start : n ≤ length w → Undoing w conflicts rows₀ heights₀ n rows₀ heights₀ (length w - n) w
  undoing_start l = record {
    within = sym (take_all (length w) w (omega arith));
    left = λ c z o. left_start c w l o.counted o.reduced;
  }

  module _ {rows : List (List ℕ)} {heights : List ℕ} {spare : ℕ} {rest : List ℕ} (less : List ℕ)
      (byte : ℕ) (p : Undoing w conflicts rows₀ heights₀ n rows heights spare rest) (e : rest ≡ push less byte) where
    one_more : length rest ≡ length less + 1
    one_more = ap length e ∙ length-append less (byte ∷ [])

    last_place : length less < length w
    last_place = omega (arith, one_more, ap length p.within, length-take (length rest) w)

    -- the bytes of w before the place of the byte, and the byte
    both_within : less ++ byte ∷ [] ≡ take (length less) w ++ get_or w (length less) 0 ∷ []
    both_within =
        sym e ∙ p.within ∙ ap (λ k. take k w) (one_more ∙ add-one (length less))
        ∙ take-suc w (length less) 0 last_place

    less_within : less ≡ take (length less) w
    less_within =
        sym (take-append_seam less (byte ∷ [])) ∙ ap (take (length less)) both_within
        ∙ take_at (take (length less) w) (get_or w (length less) 0 ∷ []) (length less)
        (omega (arith, length-take (length less) w, last_place))

    last_byte : byte ≡ get_or w (length less) 0
    last_byte =
        sym (get_or-append_seam less byte [] 0) ∙ ap (λ k. get_or k (length less) 0) both_within
        ∙ get_or_at (take (length less) w) (get_or w (length less) 0) [] 0 (length less)
        (omega (arith, length-take (length less) w, last_place))

    pub undoing_rest : {c z : List ℕ} → Opposed c w conflicts rows₀ heights₀ n z
        → Left c w z rows heights spare (length less + 1)
    undoing_rest {c} {z} o = subst (λ j. Left c w z rows heights spare j) one_more (p.left c z o)

    pub undoing_undoable : {c z : List ℕ} (o : Opposed c w conflicts rows₀ heights₀ n z)
        → Undoable c conflicts rows heights byte spare (undoing_rest o).word
    undoing_undoable {c} o = record {
      few = o.few;
      passing = ap (passes (commands c)) last_byte ∙ passing_at (commands c) w o.passing (length less) last_place;
      table = o.table;
      piled = (undoing_rest o).piled;
      room = omega (arith, (undoing_rest o).spared, last_place, o.short);
    }

    module _ {rows' : List (List ℕ)} {heights' : List ℕ} {r : ℕ}
        (u : (c z : List ℕ) → Undoable c conflicts rows heights byte spare z
        → Undone c rows' heights' byte spare z r) where
      last_undone : {c z : List ℕ} (o : Opposed c w conflicts rows₀ heights₀ n z)
          → Undone c rows' heights' (get_or w (length less) 0) spare (undoing_rest o).word r
      last_undone {c} o =
          subst (λ b. Undone c rows' heights' b spare (undoing_rest o).word r) last_byte
          (u c (undoing_rest o).word (undoing_undoable o))

      pub undoing_again : r ≤ spare → Undoing w conflicts rows₀ heights₀ n rows' heights' (spare - r) less
      undoing_again k = record {
        within = less_within;
        left = λ c z o. left_again c w last_place (undoing_rest o) (last_undone o) k;
      }

      pub undoing_over : spare < r → (c z : List ℕ) → Opposed c w conflicts rows₀ heights₀ n z
          → ¬ (Group.◌≈◌ (alphabet c) z (reverse (letters w)))
      undoing_over k c z o = left_over c w last_place (undoing_rest o) (last_undone o) k

  pub undoing_end : {rows : List (List ℕ)} {heights : List ℕ} {spare : ℕ} {rest : List ℕ} → length rest ≡ 0
      → Undoing w conflicts rows₀ heights₀ n rows heights spare rest → (c z : List ℕ)
      → Opposed c w conflicts rows₀ heights₀ n z → Group.◌≈◌ (alphabet c) z (reverse (letters w))
  undoing_end {rows} {heights} {spare} l p c z o =
      left_none c w (subst (λ j. Left c w z rows heights spare j) l (p.left c z o))
