-- Laws of a normal form with its pairs: it is refused for what the normal form alone is, or else by line 12, and a
-- second area for the longest plan is never refused.
use Rattle.std.specs.Prelude.{ℕ, ◌≤◌, ◌<◌, ◌≡◌, refl, Bool, true, false, List, [], ◌∷◌, ◌++◌, ◌⊎◌, ◌↔◌, length, ltb}
use Rattle.std.proofs.Common.{sym, ◌∙◌, ap, inl, inr, arith, lt-ltb, le-ltb, ltb-true}
use Rattle.std.proofs.Math.Option.{Option, none, some}
use Rattle.spec.specs.Table.{Line, line, holds, first_line, NoneHolds, FirstHolds}
use Rattle.spec_laws.specs.TableLaws.{first_early, first_late, first_holds, none_holds, none_left, none_right}
use Rattle.spec_laws.specs.TableLaws.{left_out, some_same, none-some}
use Rattle.spec.specs.Catalogue.{commands, catalogue_lines}
use Rattle.spec.specs.Plan.{plan_lines, Passing}
use Rattle.spec_laws.specs.PlanLaws.{lines_pass}
use Rattle.spec_laws.specs.CallLaws.{few_commands}
use Rattle.spec.specs.Calls.{plan_limit, area_line, normal_form_lines, pairs_line, paired_lines}

-- a plan that no line refuses is short and passes, under at most 24 commands
module _ (c v area : List ℕ) (e : first_line (normal_form_lines c v area) ≡ none) where
  abbrev plan : List (Option Line)
  plan = plan_lines 1 plan_limit (commands c) v

  early : first_line (catalogue_lines c ++ plan) ≡ none
  early = none_left (catalogue_lines c ++ plan) (area_line 0 (length v) area ∷ []) e

  pub form_few : commands c ≤ 24
  form_few = few_commands c (none_left (catalogue_lines c) plan early)

  pub form_passes : (length v ≤ plan_limit) × Passing (commands c) v
  form_passes = (lines_pass 1 plan_limit (commands c) v).0 (none_right (catalogue_lines c) plan early)

-- one line behind others
module _ (ls : List (Option Line)) (l : Line) where
  pub last_line : (o : Option Line) → FirstHolds l (ls ++ o ∷ []) ↔ (FirstHolds l ls ⊎ (NoneHolds ls × (o ≡ some l)))
  last_line o = (λ f. to (first_line ls) refl ((first_holds (ls ++ o ∷ []) l).1 f), back)
    where
      only : (o : Option Line) → first_line (o ∷ []) ≡ o
      only none = refl
      only (some k) = refl

      to : (p : Option Line) → first_line ls ≡ p → first_line (ls ++ o ∷ []) ≡ some l
          → FirstHolds l ls ⊎ (NoneHolds ls × (o ≡ some l))
      to none e h = inr ((none_holds ls).0 e, sym (only o) ∙ sym (first_late ls (o ∷ []) e) ∙ h)
      to (some m) e h = inl ((first_holds ls l).0 (e ∙ sym (first_early ls (o ∷ []) e) ∙ h))

      back : FirstHolds l ls ⊎ (NoneHolds ls × (o ≡ some l)) → FirstHolds l (ls ++ o ∷ [])
      back (inl f) = (first_holds (ls ++ o ∷ []) l).0 (first_early ls (o ∷ []) ((first_holds ls l).1 f))
      back (inr x) =
          let (n, e) = x in
          (first_holds (ls ++ o ∷ []) l).0 (first_late ls (o ∷ []) ((none_holds ls).1 n) ∙ only o ∙ e)

  -- a line that holds where one number is below another
  pub below_line : (a b : ℕ) (k : Line) → FirstHolds l (ls ++ holds (ltb a b) k ∷ [])
      ↔ (FirstHolds l ls ⊎ (NoneHolds ls × (a < b) × (l ≡ k)))
  below_line a b k = (λ f. to ((last_line (holds (ltb a b) k)).0 f), λ x. (last_line (holds (ltb a b) k)).1 (back x))
    where
      holds-some : (t : Bool) → holds t k ≡ some l → (t ≡ true) × (l ≡ k)
      holds-some true e = (refl, sym (some_same e))
      holds-some false e = absurd (none-some e)

      to : FirstHolds l ls ⊎ (NoneHolds ls × (holds (ltb a b) k ≡ some l))
          → FirstHolds l ls ⊎ (NoneHolds ls × (a < b) × (l ≡ k))
      to (inl f) = inl f
      to (inr x) = let (t, e) = holds-some (ltb a b) x.1 in inr (x.0, ltb-true a b t, e)

      back : FirstHolds l ls ⊎ (NoneHolds ls × (a < b) × (l ≡ k))
          → FirstHolds l ls ⊎ (NoneHolds ls × (holds (ltb a b) k ≡ some l))
      back (inl f) = inl f
      back (inr x) = let (n, h, e) = x in inr (n, rw (lt-ltb a b h) (ap some (sym e)))

module _ (c v area pairs : List ℕ) where
  pub paired_refused : (l : Line) → FirstHolds l (paired_lines c v area pairs)
      ↔ (FirstHolds l (normal_form_lines c v area)
      ⊎ (NoneHolds (normal_form_lines c v area) × (length pairs < length v) × (l ≡ line 12 0 1)))
  paired_refused l = below_line (normal_form_lines c v area) l (length pairs) (length v) (line 12 0 1)

  pub paired_none : first_line (paired_lines c v area pairs) ≡ none → first_line (normal_form_lines c v area) ≡ none
  paired_none e = none_left (normal_form_lines c v area) (pairs_line (length v) pairs ∷ []) e

  -- with room for the pairs of the longest plan, the lines are those of the normal form alone
  pub paired_alone : plan_limit ≤ length pairs
      → first_line (paired_lines c v area pairs) ≡ first_line (normal_form_lines c v area)
  paired_alone h =
      left_out (normal_form_lines c v area) (pairs_line (length v) pairs ∷ [])
      (λ e. rw (le-ltb (length pairs) (length v) (omega (arith, (form_passes c v area e).0))))
