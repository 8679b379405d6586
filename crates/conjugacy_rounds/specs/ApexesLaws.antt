-- The apexes of a core are the commands that are flagged and their own labels.
use Prim.Native.Nat.{ℕ, zero, suc, ◌+◌, ◌-◌, ◌<◌, ◌≤◌}
use Rattle.std.proofs.Common.{arith, add-one, ◌∙◌, drop_of_length-le, eq-eqb, eqb-true}
use Rattle.std.specs.Prelude.{◌≡◌, Bool, ◌&&◌}
use Rattle.std.proofs.Math.Path.{refl, sym, ap, subst}
use Rattle.std.proofs.Math.Bool.{true, false}
use mathlib.Core.List.{List, [], ◌∷◌, ◌++◌}
use Rattle.std.proofs.Math.ListN.{get_or, drop}
use Rattle.std.proofs.Math.Seq.{drop-cons}
use Rattle.std.proofs.Math.Dec.{eqb}
use Rattle.spec.specs.Letters.{alphabet}
use Rattle.theory_words.specs.Filter.{filter, keep_if}
use Rattle.theory_words.specs.FilterLaws.{mem_filter}
use Rattle.theory_conjugacy.specs.AscendingLaws.{◌∈◌}
use Rattle.theory_conjugacy.specs.Part.{commands, label, apexes}
use Rattle.conjugacy_commands.specs.Flags.{Flags, flagged}
use Rattle.conjugacy_commands.specs.FlagsLaws.{flags_list, flag_set}
use Rattle.conjugacy_labels.specs.Labels.{LabelsOf}
use Rattle.conjugacy_rounds.specs.Apexes.{Apex, apex_at, apexes_from, NextApex, LoneApex}

-- one command

pub apex_none : (fs labels : List ℕ) (k : ℕ) → ¬ Apex fs labels k → apex_at fs labels k ≡ []
unfolding apex_at keep_if
apex_none fs labels k n = go (eqb (get_or fs k 0) 1) refl (eqb (get_or labels k 0) (k + 1)) refl
  where
    go : (t : Bool) → eqb (get_or fs k 0) 1 ≡ t → (s : Bool) → eqb (get_or labels k 0) (k + 1) ≡ s
        → keep_if (t && s) (k + 1) [] ≡ []
    go true e true f = absurd (n (record { flagged = eqb-true (get_or fs k 0) 1 e; own = eqb-true _ (k + 1) f }))
    go true e false f = refl
    go false e s f = refl

pub apex_own : (fs labels : List ℕ) (k : ℕ) → Apex fs labels k → apex_at fs labels k ≡ (k + 1) ∷ []
unfolding apex_at keep_if
apex_own fs labels k a = rw (eq-eqb (get_or fs k 0) 1 a.flagged, eq-eqb (get_or labels k 0) (k + 1) a.own)

-- the commands from k + 1 on

pub apexes_next : (fs labels : List ℕ) (k : ℕ) → k < 24
    → apexes_from fs labels (24 - k) k ≡ apex_at fs labels k ++ apexes_from fs labels (24 - (k + 1)) (k + 1)
unfolding apexes_from
apexes_next fs labels k l =
    let e : 24 - k ≡ suc (24 - (k + 1)) = omega arith in
    ap (λ n. apexes_from fs labels n k) e

pub apexes_end : (fs labels : List ℕ) (k : ℕ) → 24 ≤ k → apexes_from fs labels (24 - k) k ≡ []
unfolding apexes_from
apexes_end fs labels k l =
    let e : 24 - k ≡ 0 = omega arith in
    ap (λ n. apexes_from fs labels n k) e

-- the search for the next apex: from k on there is none before j

pub record Searching (fs labels : List ℕ) (k j : ℕ) : Type 0 where
  pub within : j ≤ 24
  pub rest : apexes_from fs labels (24 - k) k ≡ apexes_from fs labels (24 - j) j

module _ {fs labels : List ℕ} {k j : ℕ} (s : Searching fs labels k j) where
  pub searching_again : j < 24 → ¬ Apex fs labels j → Searching fs labels k (j + 1)
  searching_again l n = record {
    within = omega arith;
    rest = s.rest ∙ apexes_next fs labels j l
        ∙ ap (λ (ms : List ℕ). ms ++ apexes_from fs labels (24 - (j + 1)) (j + 1)) (apex_none fs labels j n);
  }

  pub searching_found : j < 24 → Apex fs labels j → NextApex fs labels k j
  searching_found l a = record { within = omega arith; apex = λ h. a; rest = s.rest }

  pub searching_end : 24 ≤ j → NextApex fs labels k 24
  searching_end l = record {
    within = omega arith;
    apex = λ h. absurd (omega arith);
    rest = s.rest ∙ apexes_end fs labels j l ∙ sym (apexes_end fs labels 24 (omega arith));
  }

-- the first apex is the only one where there is none behind it
pub lone_apex : {fs labels : List ℕ} {k r : ℕ} → NextApex fs labels 0 k → k < 24 → NextApex fs labels (k + 1) r
    → 24 ≤ r → LoneApex fs labels k
lone_apex {fs} {labels} {k} {r} f l g u = record {
  apex = f.apex;
  only = λ h. f.rest ∙ apexes_next fs labels k l
      ∙ ap (λ (ms : List ℕ). ms ++ apexes_from fs labels (24 - (k + 1)) (k + 1)) (apex_own fs labels k (f.apex l))
      ∙ ap (λ (ms : List ℕ). (k + 1) ∷ ms) (g.rest ∙ apexes_end fs labels r u);
}

-- all commands

module _ (c x : List ℕ) {fs labels : List ℕ} (h : Flags (commands (alphabet c) x) fs)
    (g : LabelsOf (label (alphabet c) x) labels) where
  abbrev own : ℕ → Bool
  own j = eqb (label (alphabet c) x j) j

  filter-keep_if : (t s : Bool) (k : ℕ) (ks : List ℕ) → own k ≡ s
      → filter own (keep_if t k ks) ≡ keep_if (t && s) k [] ++ filter own ks
  unfolding filter keep_if
  filter-keep_if true true k ks e = rw e
  filter-keep_if true false k ks e = rw e
  filter-keep_if false s k ks e = refl

  from_flagged : (n k : ℕ) → n + k ≡ 24 → filter own (flagged (k + 1) (drop k fs)) ≡ apexes_from fs labels n k
  unfolding apexes_from flagged filter apex_at
  from_flagged zero k e =
      ap (λ (z : List ℕ). filter own (flagged (k + 1) z)) (drop_of_length-le fs {i = k} (omega (arith, h.many)))
  from_flagged (suc n) k e =
      let d : drop k fs ≡ get_or fs k 0 ∷ drop (k + 1) fs = rw (add-one, drop-cons fs k 0 (omega (arith, h.many))) in
      ap (λ (z : List ℕ). filter own (flagged (k + 1) z)) d
      ∙ filter-keep_if (eqb (get_or fs k 0) 1) (eqb (get_or labels k 0) (k + 1)) (k + 1)
      (flagged (k + 1 + 1) (drop (k + 1) fs))
      (ap (λ j. eqb j (k + 1)) (sym (g.each k (omega arith))))
      ∙ ap (λ (z : List ℕ). apex_at fs labels k ++ z) (from_flagged n (k + 1) (omega arith))

  pub apexes_from_lem : apexes_from fs labels 24 0 ≡ apexes (alphabet c) x
  unfolding apexes
  apexes_from_lem = sym (from_flagged 24 0 refl) ∙ ap (filter own) (flags_list h)

  pub apex_member : (k : ℕ) → k < 24 → Apex fs labels k → get_or labels k 0 ∈ apexes (alphabet c) x
  unfolding apexes
  apex_member k l a = subst (λ m. m ∈ apexes (alphabet c) x) (sym a.own)
      (mem_filter own (commands (alphabet c) x) (flag_set (h.each k l) a.flagged)
      (eq-eqb (label (alphabet c) x (k + 1)) (k + 1) (sym (g.each k l) ∙ a.own)))
