-- How many rounds settling takes, on plans of bytes: the parts that the manual words are those of the theory, and the
-- number that the loops call tells is the largest that one of them needs.
use Rattle.std.specs.Prelude.{ℕ, ◌+◌, ◌≤◌, ◌<◌, max, ◌≡◌, refl, Bool, false, ◌⊎◌, length}
use Rattle.std.proofs.Common.{arith, sym, ◌∙◌, ap, subst, inl, inr}
use mathlib.Core.List.{List, [], ◌∷◌, ◌++◌, Memᴰ}
use Rattle.theory_words.specs.All.{All, all_map, all_mem, all_by, all_along, all_left}
use Rattle.theory_words.specs.Trace as Trace
use Rattle.theory_words.specs.TraceLaws.{~_sym}
use Rattle.theory_conjugacy.specs.Part.{apexes, part}
use Rattle.theory_conjugacy.specs.Part as Part
use Rattle.theory_conjugacy.specs.HalvesLaws.{counted_along}
use Rattle.theory_conjugacy.specs.AscendingLaws.{◌∈◌, Placed, below, above, equal, placed}
use Rattle.theory_conjugacy.specs.CommandLaws.{Occurs, all_occurs, occurs_all, occurs_along, commands_few}
use Rattle.theory_conjugacy.specs.PartLaws as Theory
use Rattle.theory_conjugacy.specs.PartLaws.{part_connected, apex_occurs, part_largest}
use Rattle.theory_conjugacy.specs.PartedLaws.{others, part_parted, parted_part}
use Rattle.theory_conjugacy.specs.RoundLaws.{connected_same, connected_rounded}
use Rattle.theory_conjugacy.specs.Rounds.{part_rounds, core_rounds}
use Rattle.theory_conjugacy.specs.RoundsLaws.{part-counted, part_rounds_few, core_rounds_most, core_rounds_some}
use Rattle.theory_conjugacy.specs.RoundsLaws.{core_rounds_nil}
use Rattle.spec.specs.Table.{given}
use Rattle.spec.specs.Catalogue.{commands}
use Rattle.spec.specs.Plan.{Passing}
use Rattle.spec.specs.Byte.{command_of}
use Rattle.spec.specs.Step.{Command}
use Rattle.spec.specs.Letters.{alphabet}
use Rattle.spec.specs.Answers.{DecidedLoops}
use Rattle.spec.specs.Calls.{core_form}
use Rattle.spec.specs.Rounds.{Independent, IsPart, Settles, Needs, loops_rounds}
use Rattle.spec.specs.Loops.{Looped, apart, joined}
use Rattle.spec.specs.Demands.{Holds, Most}
use Rattle.spec_laws.specs.LettersLaws.{Commands}
use Rattle.spec_laws.specs.SwapLaws.{words_swaps, swaps_words}
use Rattle.spec_laws.specs.CoreFormLaws.{core_commands}
use Rattle.spec_laws.specs.LoopLaws.{loops_pass}
use Rattle.spec_laws.specs.SettlesLaws.{rounded_settles, settles_counted}

module _ (c : List ℕ) where
  infix 20 ◌~◌
  abbrev ◌~◌ : List ℕ → List ℕ → Type 0
  ◌~◌ = Trace.◌~◌ (alphabet c)

  -- Words and their commands

  independent_words : (x y : List ℕ) → Independent c x y → Theory.Independent (alphabet c) x y
  independent_words x y h i j o =
      all_occurs (alphabet c) (λ i. (j : ℕ) → Occurs (alphabet c) j y → (alphabet c).conf i j ≡ false) x
      (all_map (λ a k. all_occurs (alphabet c) (λ j. (alphabet c).conf (command_of a) j ≡ false) y k) x h) i o j

  words_independent : (x y : List ℕ) → Theory.Independent (alphabet c) x y → Independent c x y
  words_independent x y h =
      occurs_all (alphabet c) (λ i. All (λ b. (alphabet c).conf i (command_of b) ≡ false) y) x
      (λ i o. occurs_all (alphabet c) (λ j. (alphabet c).conf i j ≡ false) y (λ j p. h i j o p))

  mem_occurs : (y : List ℕ) {a : ℕ} → Memᴰ a y → Occurs (alphabet c) (command_of a) y
  mem_occurs y m =
      all_mem (λ a. Occurs (alphabet c) (command_of a) y) y
      (occurs_all (alphabet c) (λ k. Occurs (alphabet c) k y) y (λ k o. o)) m

  occurs_mem : (y : List ℕ) {k : ℕ} → Occurs (alphabet c) k y → (a : ℕ) × Memᴰ a y × (command_of a ≡ k)
  occurs_mem y {k} o =
      all_occurs (alphabet c) (λ k. (a : ℕ) × Memᴰ a y × (command_of a ≡ k)) y
      (all_by (λ b. (a : ℕ) × Memᴰ a y × (command_of a ≡ command_of b)) y (λ a m. (a, m, refl))) k o

  -- The parts of a word of commands

  module _ (x : List ℕ) (h : Commands (commands c) x) where
    -- the part of the theory is one
    part_is : {m : ℕ} → m ∈ apexes (alphabet c) x → IsPart c x m (part (alphabet c) m x)
    part_is {m} i =
        let g = alphabet c in
        let y = part g m x in
        let d = part_parted g m x in
        record {
          rest = others g m x;
          parted = words_swaps c d.parted h;
          apart = words_independent y (others g m x) d.apart;
          whole = λ p q e f. d.whole p q (swaps_words c e) (independent_words p q f);
          apex = occurs_mem y (apex_occurs g x i);
          largest = occurs_all g (λ k. k ≤ m) y (λ k o. part_largest g m x o);
        }

    module _ {m : ℕ} {y : List ℕ} (i : IsPart c x m y) where
      abbrev r : List ℕ
      r = i.rest

      beside : Commands (commands c) (y ++ r)
      beside = all_along (alphabet c) (Command c) (swaps_words c i.parted) h

      part_commands : Commands (commands c) y
      part_commands = all_left (Command c) y r beside

      -- and there is no other, up to swaps
      is_part : (m ∈ apexes (alphabet c) x) × (y ~ part (alphabet c) m x)
      is_part =
          let g = alphabet c in
          let (a, k, e) = i.apex in
          parted_part g x y r (record {
            parted = swaps_words c i.parted;
            apart = independent_words y r i.apart;
            whole = λ p q f d. i.whole p q (words_swaps c f part_commands) (words_independent p q d);
          }) (subst (λ k. Occurs g k y) e (mem_occurs y k)) (all_occurs g (λ k. k ≤ m) y i.largest)

      pub part_settles : (n : ℕ) × Settles c m n y
      part_settles =
          let g = alphabet c in
          let (j, e) = is_part in
          let back : (k : ℕ) → Occurs g k (part g m x) → Occurs g k y = λ k o. occurs_along g (~_sym g e) o in
          let w = connected_same g (part g m x) y back (λ k o. occurs_along g e o) (part_connected g m x) in
          let (n, u, v, o, l) = connected_rounded g m y w (back m (apex_occurs g x j)) in
          (n, rounded_settles c part_commands o)

      -- the number of the theory
      pub part_number : {n : ℕ} → Settles c m n y → n ≡ part_rounds (alphabet c) m x
      part_number {n} s =
          let g = alphabet c in
          let z = part g m x in
          let k = n + length (Part.commands g z) in
          let (j, e) = is_part in
          sym (settles_counted c part_commands s k (omega arith))
          ∙ counted_along g m k y z e ∙ part-counted g m x j k (omega arith)

      pub part_few : {n : ℕ} → Settles c m n y → (ks : List ℕ) → Holds ks y → n < length ks
      part_few s ks f =
          let g = alphabet c in
          let (j, e) = is_part in
          let l = commands_few g ks (part g m x)
          (all_occurs g (λ k. k ∈ ks) (part g m x) (all_along g (λ a. command_of a ∈ ks) e f)) in
          omega (arith, part_number s, part_rounds_few g m x j)

    needs_most : {n : ℕ} → Needs c x n → n ≤ core_rounds (alphabet c) x
    needs_most d =
        omega (arith, part_number d.part d.settles, core_rounds_most (alphabet c) x (is_part d.part).0)

    needs_few : {n : ℕ} → Needs c x n → (ks : List ℕ) → Holds ks x → n < length ks
    needs_few d ks f =
        let p : ℕ → Type 0 = λ a. command_of a ∈ ks in
        part_few d.part d.settles ks
        (all_left p d.y d.part.rest (all_along (alphabet c) p (swaps_words c d.part.parted) f))

  -- the largest number is needed
  needs_some : (x : List ℕ) → Commands (commands c) x → (x ≡ []) ⊎ Needs c x (core_rounds (alphabet c) x)
  needs_some [] h = inl refl
  needs_some (a ∷ w) h =
      let (m, i, e) = core_rounds_some (alphabet c) a w in
      let p = part_is (a ∷ w) h i in
      let (n, s) = part_settles (a ∷ w) h p in
      let k : n ≡ core_rounds (alphabet c) (a ∷ w) = part_number (a ∷ w) h p s ∙ e in
      inr (subst (Needs c (a ∷ w)) k (record { m = m; y = part (alphabet c) m (a ∷ w); part = p; settles = s }))

  rounds_most : (x y : List ℕ) → Commands (commands c) x → Commands (commands c) y
      → Most c x y (max (core_rounds (alphabet c) x) (core_rounds (alphabet c) y))
  rounds_most x y h k = record { none_more = none_more; some_needs = go (needs_some x h) (needs_some y k) }
    where
      nx : ℕ
      nx = core_rounds (alphabet c) x

      ny : ℕ
      ny = core_rounds (alphabet c) y

      n : ℕ
      n = max nx ny

      none_more : (j : ℕ) → Needs c x j ⊎ Needs c y j → j ≤ n
      none_more j (inl d) = omega (arith, needs_most x h d)
      none_more j (inr d) = omega (arith, needs_most y k d)

      nil : {z : List ℕ} → z ≡ [] → core_rounds (alphabet c) z ≡ 0
      nil e = ap (core_rounds (alphabet c)) e ∙ core_rounds_nil (alphabet c)

      first : nx ≡ n → Needs c x nx → Needs c x n ⊎ Needs c y n ⊎ ((x ≡ []) × (y ≡ []) × (n ≡ 0))
      first e d = inl (subst (Needs c x) e d)

      second : ny ≡ n → Needs c y ny → Needs c x n ⊎ Needs c y n ⊎ ((x ≡ []) × (y ≡ []) × (n ≡ 0))
      second e d = inr (inl (subst (Needs c y) e d))

      larger : {s t : Bool} → Placed nx ny s t → Needs c x nx → Needs c y ny
          → Needs c x n ⊎ Needs c y n ⊎ ((x ≡ []) × (y ≡ []) × (n ≡ 0))
      larger (below l) d f = second (omega arith) f
      larger (above l) d f = first (omega arith) d
      larger (equal l) d f = first (omega arith) d

      go : (x ≡ []) ⊎ Needs c x nx → (y ≡ []) ⊎ Needs c y ny
          → Needs c x n ⊎ Needs c y n ⊎ ((x ≡ []) × (y ≡ []) × (n ≡ 0))
      go (inl d) (inl f) = inr (inr (d, f, omega (arith, nil d, nil f)))
      go (inl d) (inr f) = second (omega (arith, nil d)) f
      go (inr d) (inl f) = first (omega (arith, nil f)) d
      go (inr d) (inr f) = larger (placed nx ny) d f

-- The number told

looped_passes : {c v w area after : List ℕ} {d : DecidedLoops} → Looped c v w area (given d) after
    → (loops_rounds c v w ≡ d.rounds) × (Passing (commands c) v × Passing (commands c) w)
looped_passes {c} {v} {w} {area} (apart e d) = (refl, loops_pass c v w area e)
looped_passes {c} {v} {w} {area} (joined e d l) = (refl, loops_pass c v w area e)

pub rounds_told : {c v w area after : List ℕ} {d : DecidedLoops} → Looped c v w area (given d) after
    → Most c (core_form c v) (core_form c w) d.rounds
unfolding loops_rounds
rounds_told {c} {v} {w} h =
    let (e, (p, q)) = looped_passes h in
    subst (Most c (core_form c v) (core_form c w)) e
    (rounds_most c (core_form c v) (core_form c w) (core_commands c v p) (core_commands c w q))

pub rounds_few : {c v w area after : List ℕ} {d : DecidedLoops} → Looped c v w area (given d) after
    → (ks js : List ℕ) → Holds ks (core_form c v) → Holds js (core_form c w)
    → (d.rounds ≡ 0) ⊎ (d.rounds < length ks) ⊎ (d.rounds < length js)
rounds_few {c} {v} {w} {d = d} h ks js f g = go (rounds_told h).some_needs
  where
    p : Passing (commands c) v × Passing (commands c) w
    p = (looped_passes h).1

    x : List ℕ
    x = core_form c v

    y : List ℕ
    y = core_form c w

    go : Needs c x d.rounds ⊎ Needs c y d.rounds ⊎ ((x ≡ []) × (y ≡ []) × (d.rounds ≡ 0))
        → (d.rounds ≡ 0) ⊎ (d.rounds < length ks) ⊎ (d.rounds < length js)
    go (inl k) = inr (inl (needs_few c x (core_commands c v p.0) k ks f))
    go (inr (inl k)) = inr (inr (needs_few c y (core_commands c w p.1) k js g))
    go (inr (inr k)) = inl k.2
