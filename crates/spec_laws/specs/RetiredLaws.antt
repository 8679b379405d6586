-- Line 10 of the manual's table, retired: every part of a core is settled after N rounds. So a table with the line
-- behind refuses the same as without, and never by it; and no reason has its number.
use Rattle.std.specs.Prelude.{ℕ, ◌≤◌, ◌≡◌, true, false, ◌⊎◌}
use Rattle.std.proofs.Math.Path.{refl}
use Rattle.std.proofs.Common.{sym, ◌∙◌, inl, inr, arith}
use mathlib.Core.List.Memᴰ
use mathlib.Core.List.{List, [], ◌∷◌, ◌++◌}
use Rattle.std.proofs.Math.Option.{Option, none, some}
use Rattle.theory_words.specs.All.{All, all_append}
use Rattle.theory_conjugacy.specs.Core.{core}
use Rattle.theory_conjugacy.specs.CoreLaws.{core_all}
use Rattle.theory_conjugacy.specs.Part.{apexes}
use Rattle.theory_conjugacy.specs.AscendingLaws.{Within}
use Rattle.theory_conjugacy.specs.CommandLaws.{all_occurs}
use Rattle.theory_conjugacy.specs.PartLaws.{part_bounded}
use Rattle.theory_conjugacy.specs.RoundLaws.{part_quiet}
use Rattle.spec.specs.declared.Reason.{Reason}
use Rattle.spec.specs.declared.Reason.TheVariants.{CatalogueSize, CommandCount, Index, RecordCommand, EndlessChain}
use Rattle.spec.specs.declared.Reason.TheVariants.{OwnChain, PlanSize, PlanByte, AreaSize, Framing, PairsSize}
use Rattle.spec.specs.declared.Reason.TheVariants.{Text, Nesting, WrittenSize, Places, RecordCount}
use Rattle.spec.specs.Table.{Line, line, number_of, first_line, NoneHolds, FirstHolds}
use Rattle.spec_laws.specs.TableLaws.{left_out, none_left, none_holds, first_holds}
use Rattle.spec_laws.specs.LineLaws.{UpTo, two_up_to, first_up_to}
use Rattle.spec.specs.Catalogue.{commands, catalogue_lines}
use Rattle.spec.specs.Plan.{is_command, Passing, plan_lines}
use Rattle.spec.specs.Byte.{command_of}
use Rattle.spec.specs.Letters.{letters, alphabet}
use Rattle.spec.specs.Retired.{is_empty, unsettled, unsettled_line, unsettled_lines}
use Rattle.spec.specs.Calls.{plan_limit}
use Rattle.spec.specs.Program.{core_lines, program_lines}
use Rattle.spec_laws.specs.LettersLaws.{commands_range, letters_commands}
use Rattle.spec_laws.specs.CallLaws.{few_commands}
use Rattle.spec_laws.specs.LoopLaws.{two_pass}

module _ (c x : List ℕ) (h : All (λ a. (1 ≤ command_of a) × (command_of a ≤ commands c)) x) where
  none_unsettled : (ms : List ℕ) → Within ms (apexes (alphabet c) x) → unsettled c ms x ≡ false
  unfolding unsettled is_empty
  none_unsettled [] f = refl
  none_unsettled (m ∷ ms) f =
      let n = commands c in
      let l = part_bounded (alphabet c) n x (all_occurs (alphabet c) (λ k. (1 ≤ k) × (k ≤ n)) x h) m in
      rw (part_quiet (alphabet c) m x (f m (Memᴰ.head refl)) n l)
      (none_unsettled ms (λ k i. f k (Memᴰ.tail i)))

never_unsettled : (p : ℕ) (c v : List ℕ) → commands c ≤ 24 → Passing (commands c) v → unsettled_line p c v ≡ none
never_unsettled p c v l h =
    let n = commands c in
    let x = core (alphabet c) (letters v) in
    let k = (core_all (alphabet c) (λ b. is_command n b ≡ true) (letters v) (letters_commands n v h)).1 in
    rw (none_unsettled c x (commands_range n x l k) (apexes (alphabet c) x) (λ j i. i))

module _ (c v w : List ℕ) where
  both_settled : first_line (program_lines c v w) ≡ none → first_line (unsettled_lines c v w) ≡ none
  both_settled e =
      let (hv, hw) = two_pass c v w [] e in
      let k = few_commands c
      (none_left (catalogue_lines c) (plan_lines 1 plan_limit (commands c) v)
      (none_left (core_lines c v) (plan_lines 2 plan_limit (commands c) w) e)) in
      rw (never_unsettled 1 c v k hv, never_unsettled 2 c w k hw)

  pub plans_settled : NoneHolds (program_lines c v w) → NoneHolds (unsettled_lines c v w)
  plans_settled n =
      (none_holds (unsettled_lines c v w)).0 (both_settled ((none_holds (program_lines c v w)).1 n))

  -- a table that begins with the lines of two plans, and line 10 behind it
  module _ (ls : List (Option Line)) where
    abbrev table : List (Option Line)
    table = program_lines c v w ++ ls

    pub retired_same : first_line (table ++ unsettled_lines c v w) ≡ first_line table
    retired_same =
        left_out table (unsettled_lines c v w) (λ e. both_settled (none_left (program_lines c v w) ls e))

    pub never_ten : All (UpTo 9) ls → (p i : ℕ) → ¬ FirstHolds (line 10 p i) (table ++ unsettled_lines c v w)
    never_ten h p i f =
        let e : first_line table ≡ some (line 10 p i) =
        sym retired_same ∙ (first_holds (table ++ unsettled_lines c v w) (line 10 p i)).1 f in
        let k = all_append (UpTo 9) (program_lines c v w) ls (two_up_to 9 (omega arith) plan_limit c v w) h in
        not_ten (first_up_to 9 table k e).0
      where
        not_ten : ((1 ≤ 10) × (10 ≤ 9)) ⊎ (◌≡◌ {A = ℕ} 10 17) → ⊥
        not_ten (inl (l, h)) = omega arith
        not_ten (inr q) = omega arith

-- no reason has the number 10
pub number_unused : (r : Reason) → ¬ (number_of r ≡ 10)
number_unused CatalogueSize e = omega arith
number_unused CommandCount e = omega arith
number_unused Index e = omega arith
number_unused RecordCommand e = omega arith
number_unused EndlessChain e = omega arith
number_unused OwnChain e = omega arith
number_unused PlanSize e = omega arith
number_unused PlanByte e = omega arith
number_unused AreaSize e = omega arith
number_unused Framing e = omega arith
number_unused PairsSize e = omega arith
number_unused Text e = omega arith
number_unused Nesting e = omega arith
number_unused WrittenSize e = omega arith
number_unused Places e = omega arith
number_unused RecordCount e = omega arith
