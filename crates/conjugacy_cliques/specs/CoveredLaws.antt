-- The flagged commands are a clique exactly if the line of each of them covers the flags.
use Rattle.std.specs.Prelude.{ℕ, ◌+◌, ◌-◌, ◌<◌, ◌≡◌, refl, Bool, true, false, List, [], ◌↔◌, get_or, eqb}
use Rattle.std.proofs.Common.{arith, sym, ◌∙◌, ap, subst, below_none, below_more, eqb-true, eq-eqb}
use Rattle.std.proofs.lemmas.Bool.{false≢true}
use mathlib.Core.List.Memᴰ
use Rattle.std.specs.Int.Bits.{bit_or}
use Rattle.theory_conjugacy.specs.AscendingLaws.{◌∈◌}
use Rattle.theory_conjugacy.specs.Clique.{Clique}
use Rattle.spec.specs.Answers.{yes_no}
use Rattle.spec.specs.Conflict.{conflict}
use Rattle.spec.specs.Letters.{alphabet}
use Rattle.input_plan.specs.FaultLaws.{or_parts}
use Rattle.input_chains.specs.Conflicts.{Conflicts}
use Rattle.conjugacy_commands.specs.Flags.{Flag, set, clear, Flags}
use Rattle.conjugacy_commands.specs.FlagsLaws.{set_flag, flag_set}
use Rattle.conjugacy_cliques.specs.Covered.{missing, Covered}

-- the loop that gathers what is missing: what it has gathered is 0 as long as the flags below j are covered

pub record Gathered (line flags : List ℕ) (all j : ℕ) : Type 0 where
  pub none : all ≡ 0 → (i : ℕ) → i < j → missing (get_or flags i 0) (get_or line i 0) ≡ 0
  pub covered : ((i : ℕ) → i < j → missing (get_or flags i 0) (get_or line i 0) ≡ 0) → all ≡ 0

pub gathered_start : (line flags : List ℕ) → Gathered line flags 0 0
gathered_start line flags = record { none = λ e. below_none _; covered = λ f. refl }

module _ {line flags : List ℕ} {all j : ℕ} (g : Gathered line flags all j) where
  pub gathered_again : {f n i : ℕ} → f ≡ get_or flags j 0 → n ≡ get_or line j 0 → i ≡ j + 1
      → Gathered line flags (bit_or all (missing f n)) i
  gathered_again d e s = rw (d, e, s) (record {
    none = λ e.
        let (a, b) = or_parts all (missing (get_or flags j 0) (get_or line j 0)) e in
        below_more _ j (g.none a) b;
    covered = λ f. rw (g.covered (λ i l. f i (omega arith)), f j (omega arith));
  })

  pub gathered_end : 24 ≡ j → (eqb all 0 ≡ true) ↔ Covered line flags
  gathered_end e = (
    (λ t i l. g.none (eqb-true all 0 t) i (omega arith)),
    (λ f. eq-eqb all 0 (g.covered (λ i l. f i (omega arith)))),
  )

-- the lines of the conflicts

missing_conflict : {P : Type 0} {f : ℕ} (t : Bool) → Flag P f → missing f (yes_no t) ≡ 0 → P → t ≡ true
missing_conflict true f e p = refl
missing_conflict false (set q) e p = absurd (omega arith)
missing_conflict false (clear n) e p = absurd (n p)

conflict_missing : {P : Type 0} {f : ℕ} (t : Bool) → Flag P f → (P → t ≡ true) → missing f (yes_no t) ≡ 0
conflict_missing true (set p) h = refl
conflict_missing true (clear n) h = refl
conflict_missing false (set p) h = absurd (false≢true (h p))
conflict_missing false (clear n) h = refl

module _ {c ks flags : List ℕ} {conflicts : List (List ℕ)} (t : Conflicts c conflicts) (h : Flags ks flags) where
  -- a line covers the flags exactly if its command conflicts with each flagged one
  covered_meets : (i : ℕ) → i < 24 → Covered (get_or conflicts i []) flags → (k : ℕ) → k ∈ ks
      → conflict c (i + 1) k ≡ true
  covered_meets i l f k m =
      let (low, high) = h.within k m in
      let e : k - 1 + 1 ≡ k = omega arith in
      let d = f (k - 1) (omega arith) in
      ap (conflict c (i + 1)) (sym e)
      ∙ missing_conflict (conflict c (i + 1) (k - 1 + 1)) (h.each (k - 1) (omega arith))
      (subst (λ n. missing (get_or flags (k - 1) 0) n ≡ 0) (t.tells i (k - 1) l (omega arith)) d) (Memᴰ.cast e m)

  meets_covered : (i : ℕ) → i < 24 → ((k : ℕ) → k ∈ ks → conflict c (i + 1) k ≡ true)
      → Covered (get_or conflicts i []) flags
  meets_covered i l f j u =
      subst (λ n. missing (get_or flags j 0) n ≡ 0) (sym (t.tells i j l u))
      (conflict_missing (conflict c (i + 1) (j + 1)) (h.each j u) (f (j + 1)))

  pub all_clique : ((i : ℕ) → i < 24 → get_or flags i 0 ≡ 1 → Covered (get_or conflicts i []) flags)
      → (true ≡ true) ↔ Clique (alphabet c) ks
  all_clique f = (
    (λ e j k m n.
        let (low, high) = h.within j m in
        let d : j - 1 + 1 ≡ j = omega arith in
        let s = set_flag (h.each (j - 1) (omega arith)) (Memᴰ.cast d m) in
        ap (λ i. conflict c i k) (sym d) ∙ covered_meets (j - 1) (omega arith) (f (j - 1) (omega arith) s) k n),
    (λ q. refl),
  )

  pub no_clique : (i : ℕ) → i < 24 → ¬ (get_or flags i 0 ≡ 1 → Covered (get_or conflicts i []) flags)
      → (false ≡ true) ↔ Clique (alphabet c) ks
  no_clique i l n = (
    (λ e. absurd (false≢true e)),
    (λ q. absurd (n (λ s. meets_covered i l (λ k m. q (i + 1) k (flag_set (h.each i l) s) m)))),
  )
