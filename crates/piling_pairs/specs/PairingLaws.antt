-- Laws of the loop that piles a plan byte by byte and writes its pairs.
use Rattle.std.specs.Prelude.{ℕ, ◌+◌, ◌-◌, ◌*◌, ◌≤◌, ◌<◌, ◌≡◌, refl, List, [], ◌∷◌, ◌++◌, reverse, length, get_or, take, drop, set}
use Rattle.std.proofs.Common.{arith, sym, ◌∙◌, ap, subst, append-nil, append_assoc, length-append, length-set, take_all, length-take-le}
use Rattle.std.proofs.Math.Option.{Option, none, some}
use Rattle.std.proofs.lemmas.List.{length-map, length-reverse}
use Rattle.theory_words.specs.All.{all_map}
use Rattle.theory_words.specs.Filter.{filter}
use Rattle.spec.specs.Byte.{command_of}
use Rattle.spec.specs.Catalogue.{commands}
use Rattle.spec.specs.Letters.{letters}
use Rattle.spec.specs.Pairs.{Placed, placed, bytes_of, Partner, partner, Pair, pair_after, read_from, reading, left_of}
use Rattle.spec.specs.Pairs.{numbers_of}
use Rattle.input_plan.specs.Lettered.{Lettered}
use Rattle.spec_laws.specs.PlanLaws.{passing_at}
use Rattle.spec_laws.specs.LettersLaws.{letters-length, more_filler, more_letter}
use Rattle.spec_laws.specs.TableLaws.{none-some}
use Rattle.spec_laws.specs.ReadingLaws.{numbers_append, numbers_length, reading_more, byte_filler, byte_letter}
use Rattle.spec_laws.specs.ReadingLaws.{left_word, told}
use Rattle.spec_laws.specs.PartnerLaws.{Sought, met, unmet, sought, met_length}
use Rattle.piling_stacks.specs.Piling.{Piled, Counted}
use Rattle.piling_stacks.specs.Pile.{Given, reduced}
use Rattle.piling_stacks.specs.Newest.{of_command}
use Rattle.piling_stacks.specs.PileLaws.{passes_range, facing_at}
use Rattle.piling_pairs.specs.Places.{Kept, Stepping, place_of, Stepped}
use Rattle.piling_pairs.specs.Pairing.{Noted, nothing, one, PairsOf}

-- words that are the same backwards have one length
backwards : (x y : List ℕ) → reverse y ≡ reverse x → length x ≡ length y
backwards x y e = sym (length-reverse x) ∙ ap length (sym e) ∙ length-reverse y

-- an area that starts with numbers, and past them is as it was

abbrev starts : List Pair → List ℕ → List ℕ
starts ps before = numbers_of ps ++ drop (length (numbers_of ps)) before

seam_set : (ns before : List ℕ) (e : ℕ) → length ns < length before
    → set (ns ++ drop (length ns) before) (length ns) e ≡ (ns ++ e ∷ []) ++ drop (length (ns ++ e ∷ [])) before
seam_set [] [] e h = absurd (omega arith)
seam_set [] (x ∷ before) e h = refl
seam_set (n ∷ ns) [] e h = absurd (omega arith)
seam_set (n ∷ ns) (x ∷ before) e h = ap (λ ms. n ∷ ms) (seam_set ns before e (omega arith))

-- one pair more is written behind those that stand there
starts_more : (ps : List Pair) (before : List ℕ) (p : Pair) → 2 * length ps + 1 < length before
    → set (set (starts ps before) (2 * length ps) p.earlier) (2 * length ps + 1) p.later
    ≡ starts (ps ++ p ∷ []) before
starts_more ps before p h =
    let ns = numbers_of ps in
    let e = p.earlier in
    let l = p.later in
    let k = numbers_length ps in
    let m : length (ns ++ e ∷ []) ≡ 2 * length ps + 1 = omega (arith, k, length-append ns (e ∷ [])) in
    let j : (ns ++ e ∷ []) ++ l ∷ [] ≡ numbers_of (ps ++ p ∷ []) =
    append_assoc ns (e ∷ []) (l ∷ []) ∙ sym (numbers_append ps (p ∷ [])) in
    ap (λ i. set (set (starts ps before) i e) (2 * length ps + 1) l) (sym k)
    ∙ ap (λ x. set x (2 * length ps + 1) l) (seam_set ns before e (omega arith))
    ∙ ap (λ i. set ((ns ++ e ∷ []) ++ drop (length (ns ++ e ∷ [])) before) i l) (sym m)
    ∙ seam_set (ns ++ e ∷ []) before l (omega arith)
    ∙ ap (λ x. x ++ drop (length x) before) j

noted_long : {pairs : List ℕ} {n i m : ℕ} {o : Option ℕ} {after : List ℕ} → Noted pairs n i o after m → length after ≡ length pairs
noted_long nothing = refl
noted_long {pairs} {n = n} {i = i} (one {earlier = e}) =
    length-set (set pairs (2 * n) e) (2 * n + 1) i ∙ length-set pairs (2 * n) e

-- the pairs found are written
module _ {pairs : List ℕ} (before : List ℕ) (ps : List Pair) (x : Placed) where
  noted_pairs : {n m : ℕ} {after : List ℕ} (o : Option Partner) {t : Option ℕ} → Noted pairs n x.place t after m
      → t ≡ place_of o → pairs ≡ starts ps before → n ≡ length ps
      → ((e : ℕ) → t ≡ some e → 2 * n + 1 < length before)
      → (after ≡ starts (ps ++ pair_after x o) before) × (m ≡ length (ps ++ pair_after x o))
  noted_pairs none nothing e s k r =
      (s ∙ ap (λ q. starts q before) (sym (append-nil ps)), k ∙ ap length (sym (append-nil ps)))
  noted_pairs (some q) nothing e s k r = absurd (none-some e)
  noted_pairs none (one {earlier = p}) e s k r = absurd (none-some (sym e))
  noted_pairs {n} (some q) (one {earlier = p}) e s k r =
      let new : Pair = record { earlier = q.place; later = x.place } in
      let same : p ≡ q.place = cc in (
        rw (s, k, same) (starts_more ps before new (omega (arith, r p refl))),
        omega (arith, length-append ps (new ∷ [])),
      )

-- the bytes below i are piled, with the places of the letters left, and their pairs are written
pub record Sofar (c plan pairs₀ : List ℕ) (rows : List (List ℕ)) (heights newest below pairs : List ℕ) (read n i : ℕ)
    : Type 0 where
  pub piled : Piled c rows heights (bytes_of (left_of c (take i plan)))
  pub kept : Kept newest below (left_of c (take i plan))
  pub numbers : pairs ≡ starts (reading c (take i plan)).pairs pairs₀
  pub count : n ≡ length (reading c (take i plan)).pairs
  pub seen : read ≡ length (letters (take i plan))

-- under every catalogue that the call allows
pub record Piling (plan : List ℕ) (conflicts rows₀ : List (List ℕ)) (heights₀ pairs₀ : List ℕ) (rows : List (List ℕ))
    (heights newest below pairs : List ℕ) (read n i : ℕ) : Type 0 where
  pub within : i ≤ length plan
  pub long : length pairs ≡ length pairs₀
  pub sofar : (c : List ℕ) → Given c plan conflicts rows₀ heights₀
      → Sofar c plan pairs₀ rows heights newest below pairs read n i

pub given_range : {c plan : List ℕ} {conflicts rows : List (List ℕ)} {heights : List ℕ}
    → Given c plan conflicts rows heights → (i : ℕ) → i < length plan → ¬ (get_or plan i 0 ≡ 0) → Lettered (get_or plan i 0)
given_range {c} {plan} g i l n =
    passes_range c (get_or plan i 0) g.few (passing_at (commands c) plan g.passing i l) n

module _ {plan : List ℕ} {conflicts rows₀ : List (List ℕ)} {heights₀ pairs₀ : List ℕ} where
  pub piling_start : {newest below : List ℕ} → length newest ≡ 24 → length below ≡ 1024
      → Piling plan conflicts rows₀ heights₀ pairs₀ rows₀ heights₀ newest below pairs₀ 0 0 0
  unfolding letters filter reading read_from of_command
  piling_start m w = record {
    within = omega arith;
    long = refl;
    sofar = λ c g. record {
      piled = g.blank;
      kept = record { many = m; wide = w; chain = λ i l. tt };
      numbers = refl;
      count = refl;
      seen = refl;
    };
  }

  module _ {rows : List (List ℕ)} {heights newest below pairs : List ℕ} {read n i : ℕ}
      (p : Piling plan conflicts rows₀ heights₀ pairs₀ rows heights newest below pairs read n i) where
    -- twice the pairs and the letters left are the letters read
    pub piling_letters : {c : List ℕ} → Given c plan conflicts rows₀ heights₀
        → (2 * n + length (left_of c (take i plan)) ≡ read) × (read ≤ i)
    piling_letters {c} g =
        let s = p.sofar c g in
        let t = told c plan g.passing i p.within in (
          omega (arith, t.letters, s.count, s.seen),
          omega (arith, s.seen, letters-length (take i plan), length-take-le i plan p.within),
        )

    pub piling_stepping : i < length plan → ¬ (get_or plan i 0 ≡ 0) → {c : List ℕ} → Given c plan conflicts rows₀ heights₀
        → Stepping c rows heights newest below (get_or conflicts (command_of (get_or plan i 0) - 1) [])
        (command_of (get_or plan i 0) - 1) (get_or plan i 0) i (left_of c (take i plan))
    piling_stepping l f {c} g =
        let s = p.sofar c g in
        let left = left_of c (take i plan) in
        record {
          ready = record {
            facing = facing_at g.table (given_range g i l f) s.piled;
            room = omega (arith, piling_letters g, g.short, length-map left (λ (x : Placed). x.byte));
          };
          kept = s.kept;
          later = all_map (λ x o. o.0) left (told c plan g.passing i p.within).own;
          low = omega (arith, g.short);
        }

    pub piling_filler : i < length plan → get_or plan i 0 ≡ 0
        → Piling plan conflicts rows₀ heights₀ pairs₀ rows heights newest below pairs read n (i + 1)
    piling_filler l e = record {
      within = omega arith;
      long = p.long;
      sofar = λ c g.
          let s = p.sofar c g in
          let same = reading_more c plan i l ∙ byte_filler c (placed (get_or plan i 0) i) (reading c (take i plan)) e in
          record {
            piled = subst (λ r. Piled c rows heights (bytes_of r.left)) (sym same) s.piled;
            kept = subst (λ r. Kept newest below r.left) (sym same) s.kept;
            numbers = subst (λ r. pairs ≡ starts r.pairs pairs₀) (sym same) s.numbers;
            count = subst (λ r. n ≡ length r.pairs) (sym same) s.count;
            seen = s.seen ∙ backwards (letters (take i plan)) (letters (take (i + 1) plan)) (more_filler plan i l e);
          };
    }

    -- where a letter cancels, one is left to cancel with, so that there is room for the pair
    pub piling_room : i < length plan → {c : List ℕ} → Given c plan conflicts rows₀ heights₀
        → length plan ≤ length pairs₀ → {o : Option ℕ}
        → o ≡ place_of (partner c (get_or plan i 0) (left_of c (take i plan)))
        → (e : ℕ) → o ≡ some e → 2 * n + 1 < length pairs₀
    piling_room l {c} g h {o} k e f =
        omega (arith, piling_letters g, some_left (sought c (get_or plan i 0) (left_of c (take i plan))) (sym k ∙ f))
      where
        some_left : {q : Option Partner} → Sought c (get_or plan i 0) (left_of c (take i plan)) q → place_of q ≡ some e
            → 0 < length (left_of c (take i plan))
        some_left (met m) z = omega (arith, met_length c m)
        some_left (unmet m) z = absurd (none-some z)

    pub piling_letter : (l : i < length plan) (f : ¬ (get_or plan i 0 ≡ 0)) → length plan ≤ length pairs₀
        → {rows' : List (List ℕ)} {heights' newest' below' pairs' : List ℕ} {o : Option ℕ} {m : ℕ}
        → ((c : List ℕ) (t : List Placed)
        → Stepping c rows heights newest below (get_or conflicts (command_of (get_or plan i 0) - 1) [])
        (command_of (get_or plan i 0) - 1) (get_or plan i 0) i t
        → Stepped c rows' heights' newest' below' (placed (get_or plan i 0) i) t (partner c (get_or plan i 0) t) o)
        → Noted pairs n i o pairs' m
        → Piling plan conflicts rows₀ heights₀ pairs₀ rows' heights' newest' below' pairs' (read + 1) m (i + 1)
    piling_letter l f h {rows'} {heights'} {newest'} {below'} {pairs'} {m = m} step noted = record {
      within = omega arith;
      long = noted_long noted ∙ p.long;
      sofar = λ c g.
          let s = p.sofar c g in
          let r = reading c (take i plan) in
          let x = placed (get_or plan i 0) i in
          let t = step c r.left (piling_stepping l f g) in
          let room = piling_room l g h t.tells in
          let w = noted_pairs pairs₀ r.pairs x (partner c (get_or plan i 0) r.left) noted t.tells s.numbers
          s.count room in
          let same = reading_more c plan i l ∙ byte_letter c x r f in
          record {
            piled = subst (λ y. Piled c rows' heights' (bytes_of y.left)) (sym same) t.piled;
            kept = subst (λ y. Kept newest' below' y.left) (sym same) t.kept;
            numbers = subst (λ y. pairs' ≡ starts y.pairs pairs₀) (sym same) w.0;
            count = subst (λ y. m ≡ length y.pairs) (sym same) w.1;
            seen = omega (
              arith,
              s.seen,
              length-reverse (letters (take i plan)),
              length-reverse (letters (take (i + 1) plan)),
              ap length (more_letter plan i l f),
            );
          };
    }

    -- all bytes are piled

    whole : length plan ≤ i → take i plan ≡ plan
    whole l = take_all i plan l

    pub piling_counted : length plan ≤ i → (c : List ℕ) → Given c plan conflicts rows₀ heights₀
        → Counted c rows heights (reduced c plan) (read - 2 * n)
    piling_counted l c g = record {
      piled =
          subst (Piled c rows heights) (left_word c (take i plan) ∙ ap (reduced c) (whole l)) (p.sofar c g).piled;
      count = omega (
        arith,
        (piling_letters g).0,
        length-map (left_of c (take i plan)) (λ (x : Placed). x.byte),
        ap length (left_word c (take i plan) ∙ ap (reduced c) (whole l)),
      );
    }

    pub piling_pairs : length plan ≤ i → (c : List ℕ) → Given c plan conflicts rows₀ heights₀
        → PairsOf c plan pairs₀ pairs n
    piling_pairs l c g =
        let s = p.sofar c g in
        record {
          count = subst (λ u. n ≡ length (reading c u).pairs) (whole l) s.count;
          numbers = subst (λ u. pairs ≡ starts (reading c u).pairs pairs₀) (whole l) s.numbers;
        }
