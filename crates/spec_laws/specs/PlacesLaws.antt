-- Laws of the precedence check: which pair of places line 16 refuses, what a check that is not refused tells of its
-- plan and places, and that it says yes exactly if the first letter of each pair stays before the second.
use Rattle.std.specs.Prelude.{ℕ, ◌+◌, ◌*◌, ◌/◌, ◌≤◌, ◌<◌, ◌≡◌, refl, Bool, true, false, not, ◌||◌, ◌↔◌, ◌⊎◌, length, get_or, leb, eqb}
use Rattle.std.proofs.Common.{arith, sym, ◌∙◌, ap, true≢false, inl, inr, leb-true, leb-false, le-leb, eqb-true, eq-eqb}
use Rattle.std.proofs.Math.Bool.{or-true}
use mathlib.Core.List.{List, [], ◌∷◌, ◌++◌}
use Rattle.std.proofs.Math.Option.{Option, none, some}
use Rattle.std.proofs.lemmas.Bool.{eqb-false, not-false}
use Rattle.theory_words.specs.BoolLaws.{or_either, or_neither}
use Rattle.spec.specs.Table.{Line, line, first_of, first_line, NoneHolds, FirstHolds}
use Rattle.spec_laws.specs.TableLaws.{first_holds, none_holds, none_left, none_right, left_out}
use Rattle.spec_laws.specs.TableLaws.{none-some, none_at, some_at}
use Rattle.spec_laws.specs.SearchLaws.{FoundAt, search-none, search_all, search-some, search_found}
use Rattle.spec.specs.Catalogue.{commands, catalogue_lines}
use Rattle.spec.specs.Plan.{plan_lines, Passing}
use Rattle.spec_laws.specs.PlanLaws.{lines_pass}
use Rattle.spec.specs.Letters.{normal_form}
use Rattle.spec.specs.Calls.{plan_limit}
use Rattle.spec_laws.specs.CallLaws.{few_commands}
use Rattle.spec.specs.Loops.{lead_in_limit}
use Rattle.spec.specs.Fault.{fault_answer}
use Rattle.spec.specs.Precedence.{StaysBefore, pairs_in, faulty, places_line, pair_leads, finds_none, all_lead}
use Rattle.spec.specs.Precedence.{Faulty, FirstFaulty, precedence_lines}
use Rattle.spec_laws.specs.PairedLaws.{last_line}
use Rattle.spec_laws.specs.PrecedenceLaws.{leads_exact}

-- pair p is one of the pairs of n places
pub pair_within : (p n : ℕ) → (p < (n + 1) / 2) ↔ (2 * p < n)
pair_within p n = (λ h. omega arith, λ h. omega arith)

-- a test of several is exact if each is

or_exact : {P Q : Type 0} (s t : Bool) → (s ≡ true) ↔ P → (t ≡ true) ↔ Q → ((s || t) ≡ true) ↔ (P ⊎ Q)
or_exact {P} {Q} s t f g = (λ e. there (or_either s t e), back)
  where
    there : (s ≡ true) ⊎ (t ≡ true) → P ⊎ Q
    there (inl e) = inl (f.0 e)
    there (inr e) = inr (g.0 e)

    back : P ⊎ Q → (s || t) ≡ true
    back (inl p) = rw (f.1 p)
    back (inr q) = rw (g.1 q) (or-true s)

leb_exact : (a b : ℕ) → (leb a b ≡ true) ↔ (a ≤ b)
leb_exact a b = (leb-true a b, le-leb a b)

eqb_exact : (a b : ℕ) → (eqb a b ≡ true) ↔ (a ≡ b)
eqb_exact a b = (eqb-true a b, eq-eqb a b)

module _ (n : ℕ) (ns : List ℕ) where
  fault_exact : (p : ℕ) → 2 * p < length ns → (faulty n ns p ≡ true) ↔ Faulty n ns p
  fault_exact p h =
      let a = get_or ns (2 * p) 0 in
      let b = get_or ns (2 * p + 1) 0 in
      or_exact (leb (length ns) (2 * p + 1)) (leb n a || (leb n b || eqb a b)) (
        λ e. omega (arith, leb-true (length ns) (2 * p + 1) e),
        λ e. le-leb (length ns) (2 * p + 1) (omega arith),
      )
      (or_exact (leb n a) (leb n b || eqb a b) (leb_exact n a)
      (or_exact (leb n b) (eqb a b) (leb_exact n b) (eqb_exact a b)))

  first_faulty : (p : ℕ) → FoundAt (faulty n ns) (pairs_in ns) 0 p ↔ FirstFaulty n ns p
  first_faulty p = (
    λ f. let h = (pair_within p (length ns)).0 (omega (arith, f.high)) in
        record {
          within = h;
          is_faulty = (fault_exact p h).0 f.passes;
          none_before = λ q l w.
              true≢false (sym ((fault_exact q (omega arith)).1 w) ∙ f.before q (omega arith) l);
        },
    λ f. let h : 2 * p < length ns = f.within in
        record {
          low = omega arith;
          high = omega (arith, (pair_within p (length ns)).1 h);
          passes = (fault_exact p h).1 f.is_faulty;
          before = λ q k l. not_so (faulty n ns q) (λ e. f.none_before q l ((fault_exact q (omega arith)).0 e));
        },
  )
    where
      not_so : (t : Bool) → ¬ (t ≡ true) → t ≡ false
      not_so true w = absurd (w refl)
      not_so false w = refl

  pub faulty_exact : (l : Line) → (places_line n ns ≡ some l) ↔ ((p : ℕ) × (l ≡ line 16 0 p) × FirstFaulty n ns p)
  faulty_exact l = (
    λ e.
        let (p, s, q) = some_at 16 0 (λ i. i) (first_of (faulty n ns) (pairs_in ns) 0) e in
        (p, q, (first_faulty p).0 (search-some (faulty n ns) (pairs_in ns) 0 s)),
    λ (p, q, f). rw (search_found (faulty n ns) (pairs_in ns) 0 ((first_faulty p).1 f), q),
  )

  -- no line 16: every pair is of two places of n letters
  pub places_pass : places_line n ns ≡ none → (p : ℕ) → 2 * p < length ns
      → (2 * p + 1 < length ns) × (get_or ns (2 * p) 0 < n) × (get_or ns (2 * p + 1) 0 < n)
      × ¬ (get_or ns (2 * p) 0 ≡ get_or ns (2 * p + 1) 0)
  places_pass e p h =
      let a = get_or ns (2 * p) 0 in
      let b = get_or ns (2 * p + 1) 0 in
      let t : faulty n ns p ≡ false =
      search-none (faulty n ns) (pairs_in ns) 0 (none_at 16 0 (λ i. i) (first_of (faulty n ns) (pairs_in ns) 0) e) p
      (omega arith) (omega (arith, (pair_within p (length ns)).1 h)) in
      let (k, u) = or_neither (leb (length ns) (2 * p + 1)) (leb n a || (leb n b || eqb a b)) t in
      let (l, v) = or_neither (leb n a) (leb n b || eqb a b) u in
      let (m, w) = or_neither (leb n b) (eqb a b) v in
      (leb-false (length ns) (2 * p + 1) k, leb-false n a l, leb-false n b m, eqb-false a b w)

-- the answer

none_found : (o : Option ℕ) → (finds_none o ≡ true) ↔ (o ≡ none)
none_found none = (λ e. refl, λ e. refl)
none_found (some i) = (λ e. absurd (true≢false (sym e)), λ e. absurd (none-some (sym e)))

module _ (c z ns : List ℕ) where
  pub all_lead_lem : (all_lead c z ns ≡ true) ↔ ((p : ℕ) → 2 * p < length ns → pair_leads c z ns p ≡ true)
  all_lead_lem = (
    λ e p h.
        not-false (pair_leads c z ns p)
        (search-none fails (pairs_in ns) 0 (found.0 e) p (omega arith) (omega (arith, (pair_within p (length ns)).1 h))),
    λ f. found.1 (search_all fails (pairs_in ns) 0
        (λ p l h. ap not (f p ((pair_within p (length ns)).0 (omega arith))))),
  )
    where
      fails : ℕ → Bool
      fails p = not (pair_leads c z ns p)

      found : (all_lead c z ns ≡ true) ↔ (first_of fails (pairs_in ns) 0 ≡ none)
      found = none_found (first_of fails (pairs_in ns) 0)

  pub all_stay : places_line (length z) ns ≡ none
      → (all_lead c z ns ≡ true)
      ↔ ((p : ℕ) → 2 * p < length ns → StaysBefore c z (get_or ns (2 * p) 0) (get_or ns (2 * p + 1) 0))
  all_stay e = (λ t p h. (pair p h).0 (all_lead_lem.0 t p h), λ f. all_lead_lem.1 (λ p h. (pair p h).1 (f p h)))
    where
      pair : (p : ℕ) → 2 * p < length ns
          → (pair_leads c z ns p ≡ true) ↔ StaysBefore c z (get_or ns (2 * p) 0) (get_or ns (2 * p + 1) 0)
      pair p h =
          leads_exact c z (get_or ns (2 * p) 0) (get_or ns (2 * p + 1) 0) (places_pass (length z) ns e p h).2

-- the lines

module _ (c v : List ℕ) where
  abbrev plan : List (Option Line)
  plan = plan_lines 1 plan_limit (commands c) v

  abbrev own : List (Option Line)
  own = catalogue_lines c ++ plan

  -- the fault call tells of the plan
  fault_own : fault_answer c v [] [] ≡ first_line own
  unfolding first_of
  fault_own =
      left_out own (plan_lines 2 plan_limit (commands c) [] ++ plan_lines 3 lead_in_limit (commands c) []) (λ e. refl)

  pub fault_passes : fault_answer c v [] [] ≡ none → (commands c ≤ 24) × Passing (commands c) v
  fault_passes e =
      let q = sym fault_own ∙ e in (
        few_commands c (none_left (catalogue_lines c) plan q),
        ((lines_pass 1 plan_limit (commands c) v).0 (none_right (catalogue_lines c) plan q)).1,
      )

  module _ (ns : List ℕ) where
    abbrev places : Option Line
    places = places_line (length (normal_form c v)) ns

    pub precedence_refused : (l : Line) → FirstHolds l (precedence_lines c v ns)
        ↔ ((fault_answer c v [] [] ≡ some l) ⊎ ((fault_answer c v [] [] ≡ none) × (places ≡ some l)))
    precedence_refused l = (λ f. to ((last_line own l places).0 f), λ x. (last_line own l places).1 (back x))
      where
        to : FirstHolds l own ⊎ (NoneHolds own × (places ≡ some l))
            → (fault_answer c v [] [] ≡ some l) ⊎ ((fault_answer c v [] [] ≡ none) × (places ≡ some l))
        to (inl f) = inl (fault_own ∙ (first_holds own l).1 f)
        to (inr x) = inr (fault_own ∙ (none_holds own).1 x.0, x.1)

        back : (fault_answer c v [] [] ≡ some l) ⊎ ((fault_answer c v [] [] ≡ none) × (places ≡ some l))
            → FirstHolds l own ⊎ (NoneHolds own × (places ≡ some l))
        back (inl e) = inl ((first_holds own l).0 (sym fault_own ∙ e))
        back (inr x) = inr ((none_holds own).0 (sym fault_own ∙ x.0), x.1)

    pub precedence_passes : first_line (precedence_lines c v ns) ≡ none → places ≡ none
    precedence_passes e = ((none_holds (places ∷ [])).0 (none_right own (places ∷ []) e)).0
