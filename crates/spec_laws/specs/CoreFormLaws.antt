-- What the core call writes is the plan's core as the manual words it over plans: pairs that swaps alone bring to the
-- ends of a plan are those that the core of its word is found by.
use Rattle.std.specs.Prelude.{ℕ, ◌≤◌, ◌≡◌, true, List, [], ◌∷◌, ◌++◌, length}
use Rattle.std.proofs.Common.{◌∙◌, subst, append-nil, append_assoc, arith, length-append}
use Rattle.theory_words.specs.All.{all_along, all_left, all_append}
use Rattle.theory_words.specs.Trace as Trace
use Rattle.theory_words.specs.Trace.{here, cons, next}
use Rattle.theory_words.specs.TraceLaws.{~_refl, ~_sym, ~-length, pick_front, pick_along}
use Rattle.theory_words.specs.Group as Group
use Rattle.theory_words.specs.Group.{undo, then, back}
use Rattle.theory_words.specs.GroupLaws.{~→≈, ≈_before, ≈_after, pick_undo, first_undo, undo_onto, undo_length}
use Rattle.theory_words.specs.Reduce.{reduce}
use Rattle.theory_words.specs.ReduceLaws.{reduced_~, reduce_reduced, reduce-≈, reduce_fixed, reduce_least}
use Rattle.theory_words.specs.ReduceLaws.{reduce-length}
use Rattle.theory_words.specs.NormalLaws.{nf-~, nf_reduced, nf_ordered, nf_fixed}
use Rattle.theory_conjugacy.specs.Turn.{Tight}
use Rattle.theory_conjugacy.specs.TurnLaws.{tight_along, turns_length}
use Rattle.theory_conjugacy.specs.ConjugateLaws.{conjugate_cores}
use Rattle.theory_conjugacy.specs.LeadInLaws.{all_undo}
use Rattle.theory_conjugacy.specs.Core.{Cores, bare, peel, lead, core}
use Rattle.theory_conjugacy.specs.CoreLaws.{cores_core, core_product, core_tight, core_reduced, core-length, core_all}
use Rattle.spec.specs.Catalogue.{commands}
use Rattle.spec.specs.Plan.{is_command, Passing}
use Rattle.spec.specs.Byte.{undone, undo_of}
use Rattle.spec.specs.Letters.{letters, alphabet, normal_form}
use Rattle.spec_laws.specs.CommandLaws.{is_command-undone}
use Rattle.spec_laws.specs.LettersLaws.{Commands, letters_commands, commands_passing}
use Rattle.spec_laws.specs.LettersLaws.{letters_same, letters-length}
use Rattle.spec.specs.Step.{Equal}
use Rattle.spec_laws.specs.StepLaws.{equal_exact, equal_words, equal_left, equal_sym, words_equal}
use Rattle.spec_laws.specs.NormalFormLaws.{normal_shortest}
use Rattle.spec.specs.Join.{Joins}
use Rattle.spec_laws.specs.JoinLaws.{joins_words, joins_passing}
use Rattle.spec.specs.Core.{none, Least, Pair, CyclicallyReduced, TakenOff, whole, pair}
use Rattle.spec_laws.specs.SwapLaws.{words_swaps, swaps_words, least_letters, least_commands, least_reduced}
use Rattle.spec.specs.Calls.{core_form}
use Rattle.spec.specs.Demands.{Shortest, IsCore}

module _ (c : List ℕ) where
  infix 20 ◌~◌ ◌≈◌
  abbrev ◌~◌ : List ℕ → List ℕ → Type 0
  ◌~◌ = Trace.◌~◌ (alphabet c)

  abbrev ◌≈◌ : List ℕ → List ℕ → Type 0
  ◌≈◌ = Group.◌≈◌ (alphabet c)

  abbrev n : ℕ
  n = commands c

  -- Pairs of plans and of words

  tight_pairs : (z : List ℕ) → Commands n z → ((a : ℕ) (s : List ℕ) → ¬ Pair c a z s) → Tight (alphabet c) z
  tight_pairs z h f a r p (q, o) =
      let g = alphabet c in
      f a (undo g q []) (words_swaps c (next (pick_front g p) (cons (pick_undo g r o))) h)

  pairs_tight : (z : List ℕ) → Tight (alphabet c) z → (a : ℕ) (s : List ℕ) → ¬ Pair c a z s
  pairs_tight z t a s w =
      let g = alphabet c in
      let (r, p, e) = pick_along g (~_sym g (swaps_words c w)) here in
      t a r p (first_undo g s (~_sym g e))

  taken_cores : {x z : List ℕ} → Commands n x → TakenOff c x z → (g : List ℕ) × Cores (alphabet c) x g z
  taken_cores h (whole {z = z} k) = ([], bare (tight_pairs z h k.no_pair) (~_refl (alphabet c) z))
  taken_cores h (pair {a = a} {s = s} p t) =
      let w = swaps_words c p in
      let (r, q, e) = pick_along (alphabet c) (~_sym (alphabet c) w) here in
      let k : Commands n (a ∷ s ++ undone a ∷ []) = all_along (alphabet c) (λ b. is_command n b ≡ true) w h in
      let (g, m) = taken_cores (all_left (λ b. is_command n b ≡ true) s (undone a ∷ []) k.1) t in
      (a ∷ g, peel q (~_sym (alphabet c) e) m)

  -- the letters of g are taken off one after the other
  taken_from : (g z : List ℕ) → CyclicallyReduced c z → TakenOff c (g ++ (z ++ undo_of g)) z
  taken_from [] z k = rw (append-nil z) (whole k)
  taken_from (a ∷ g) z k =
      let e : (g ++ (z ++ undo_of g)) ++ undone a ∷ [] ≡ g ++ (z ++ undo_of (a ∷ g)) =
      rw (undo_onto undone g (undone a ∷ []), append_assoc g, append_assoc z) in
      let p : Pair c a (a ∷ (g ++ (z ++ undo_of (a ∷ g)))) (g ++ (z ++ undo_of g)) = rw e none in
      pair p (taken_from g z k)

  -- The core of a plan

  -- its form is the core of its word, up to swaps
  pub form_~ : (v : List ℕ) → core_form c v ~ core (alphabet c) (letters v)
  unfolding core_form
  form_~ v =
      let z = core (alphabet c) (letters v) in
      rw (reduce_fixed (alphabet c) z (core_reduced (alphabet c) (letters v))) at (nf-~ (alphabet c) z)

  -- and it is no longer than the plan
  pub core_form-length : (v : List ℕ) → length (core_form c v) ≤ length v
  core_form-length v =
      let g = alphabet c in
      omega (arith, ~-length g (form_~ v), core-length g (letters v), reduce-length g (letters v), letters-length v)

  module _ (v : List ℕ) (h : Passing n v) where
    abbrev inside : List ℕ
    inside = core (alphabet c) (letters v)

    abbrev before : List ℕ
    before = lead (alphabet c) (letters v)

    inside_commands : Commands n before × Commands n inside
    inside_commands = core_all (alphabet c) (λ b. is_command n b ≡ true) (letters v) (letters_commands n v h)

    pub core_commands : Commands n (core_form c v)
    core_commands =
        all_along (alphabet c) (λ b. is_command n b ≡ true) (~_sym (alphabet c) (form_~ v)) inside_commands.1

    core_normal : normal_form c (core_form c v) ≡ core_form c v
    unfolding normal_form core_form
    core_normal =
        rw (letters_same n (core_form c v) core_commands)
        (nf_fixed (alphabet c) (core_form c v) (nf_reduced (alphabet c) inside) (nf_ordered (alphabet c) inside))

    pub core_shortest : n ≤ 127 → Shortest c (core_form c v) (core_form c v)
    core_shortest m =
        subst (Shortest c (core_form c v)) core_normal
        (normal_shortest c (core_form c v) m (commands_passing n (core_form c v) core_commands))

    -- the letters taken off, the core, and the letters undone
    abbrev product : List ℕ
    product = before ++ (core_form c v ++ undo_of before)

    product_commands : Commands n product
    product_commands =
        let p : ℕ → Type 0 = λ b. is_command n b ≡ true in
        let k = inside_commands.0 in
        let u = all_undo (alphabet c) p (λ b e. is_command-undone n b ∙ e) before [] k tt in
        all_append p before (core_form c v ++ undo_of before) k
        (all_append p (core_form c v) (undo_of before) core_commands u)

    product-≈ : letters v ≈ product
    product-≈ =
        then (core_product (alphabet c) (letters v))
        (≈_before (alphabet c) before
        (≈_after (alphabet c) (~→≈ (alphabet c) (~_sym (alphabet c) (form_~ v))) (undo_of before)))

    core_parts : Equal c v product
    core_parts =
        (equal_exact c v product h (commands_passing n product product_commands)
        ).1 (rw (letters_same n product product_commands) product-≈)

    product-length : length product ≡ length (reduce (alphabet c) (letters v))
    product-length =
        omega (
          arith,
          length-append before (core_form c v ++ undo_of before),
          length-append (core_form c v) (undo_of before),
          undo_length undone before [],
          ~-length (alphabet c) (form_~ v),
          core-length (alphabet c) (letters v),
        )

    core_least : Least c product
    core_least x e =
        let q : letters product ≈ letters v = rw (letters_same n product product_commands) (back product-≈) in
        let f = then (equal_words c e) q in
        omega (arith, product-length, reduce_least (alphabet c) (letters x) (letters v) f, letters-length x)

    any_way : (x y : List ℕ) → Equal c x v → Least c x → TakenOff c x y → Equal c y (core_form c v)
    any_way x y e l t =
        let g = alphabet c in
        let k = equal_left c e in
        let f : x ≈ letters v = rw (least_letters c x k l) at (equal_words c e) in
        let d : x ~ reduce g (letters v) =
        reduced_~ g x (reduce g (letters v)) (least_reduced c x k l) (reduce_reduced g (letters v))
        (then f (back (reduce-≈ g (letters v)))) in
        let (w, m) = taken_cores (least_commands c x k l) t in
        let i : y ~ core_form c v = next (cores_core g (letters v) d m).0 (~_sym g (form_~ v)) in
        let j : Commands n y = all_along g (λ b. is_command n b ≡ true) (~_sym g i) core_commands in
        words_equal c j core_commands (~→≈ g i)

    pub core_of : n ≤ 127 → IsCore c v (core_form c v)
    core_of m =
        record {
          product = (before, core_parts);
          reduced = reduced;
          normal = core_shortest m;
          some_way = (product, equal_sym c core_parts, core_least, taken_from before (core_form c v) reduced);
          any_way = any_way;
        }
      where
        reduced : CyclicallyReduced c (core_form c v)
        reduced =
            record {
              least = (core_shortest m).least;
              no_pair = pairs_tight (core_form c v)
                  (tight_along (alphabet c) (~_sym (alphabet c) (form_~ v)) (core_tight (alphabet c) (letters v)));
            }

  -- joined plans have cores of one length
  pub cores_long : (v w u : List ℕ) → Passing n v → Passing n w → Joins c v w u
      → length (core_form c v) ≡ length (core_form c w)
  cores_long v w u h k j =
      let g = alphabet c in
      let e = (joins_words c v w u h k (joins_passing c v w u j)).0 j in
      let t = turns_length g (conjugate_cores g (letters u) (letters v) (letters w) e) in
      omega (arith, t, ~-length g (form_~ v), ~-length g (form_~ w))
