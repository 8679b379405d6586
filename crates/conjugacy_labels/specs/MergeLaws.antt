-- Laws of merging labels in an array: the loops of one relabelling, of one row and of all rows, against merge_row and
-- merge_all over the flagged commands.
use Rattle.std.specs.Prelude.{ℕ, ◌+◌, ◌<◌, ◌≤◌, min, max, ◌≡◌, refl, Bool, List, [], ◌∷◌, eqb, length, get_or, set, drop}
use Rattle.std.proofs.Common.{sym, ◌∙◌, subst, add-one, arith, below_more, eqb-true, eq-eqb, ne_eqb, length-set, drop_of_length-le, get_or-set_same, get_or-set_other, drop-cons}
use Rattle.std.proofs.Math.Path.{ap}
use Rattle.std.proofs.Math.Bool.{true, false}
use Rattle.spec.specs.Answers.{yes_no}
use Rattle.spec.specs.Conflict.{conflict}
use Rattle.spec.specs.Letters.{alphabet}
use Rattle.theory_words.specs.Filter.{keep_if}
use Rattle.theory_conjugacy.specs.Part.{relabel_step, relabel, merge_step, merge, merge_row, merge_all, labels}
use Rattle.conjugacy_commands.specs.Flags.{Flags, flagged_at, flagged}
use Rattle.conjugacy_commands.specs.FlagsLaws.{flags_list}
use Rattle.conjugacy_labels.specs.Labels.{LabelsOf}
use Rattle.conjugacy_labels.specs.Merge.{Relabelled}

-- the labels below k have been renamed, the others are as they were
pub record Relabelling (low high : ℕ) (before now : List ℕ) (k : ℕ) : Type 0 where
  pub within : k ≤ 24
  pub kept : length now ≡ length before
  pub below : (j : ℕ) → j < k → get_or now j 0 ≡ relabel_step (eqb (get_or before j 0) low) high (get_or before j 0)
  pub above : (j : ℕ) → k ≤ j → get_or now j 0 ≡ get_or before j 0

pub relabelling_start : {low high : ℕ} {before : List ℕ} → Relabelling low high before before 0
relabelling_start = record {
  within = omega arith;
  kept = refl;
  below = λ j l. absurd (omega arith);
  above = λ j l. refl;
}

pub relabelling_again : {low high : ℕ} {before now : List ℕ} {k : ℕ} (n : ℕ) → length before ≡ 24 → k < 24
    → n ≡ relabel_step (eqb (get_or now k 0) low) high (get_or now k 0) → Relabelling low high before now k
    → Relabelling low high before (set now k n) (k + 1)
relabelling_again {low} {high} {before} {now} {k} n many l e r = record {
  within = omega arith;
  kept = length-set now k n ∙ r.kept;
  below = below_more _ k (λ j h. get_or-set_other now k j n 0 (λ d. omega arith) ∙ r.below j h)
      (get_or-set_same now k n 0 (omega (arith, r.kept)) ∙ e
      ∙ ap (λ (x : ℕ). relabel_step (eqb x low) high x) (r.above k (omega arith)));
  above = λ j h. get_or-set_other now k j n 0 (λ d. omega arith) ∙ r.above j (omega arith);
}

pub relabelling_end : {low high : ℕ} {before now : List ℕ} {k : ℕ} → 24 ≤ k → Relabelling low high before now k
    → Relabelled low high before now
relabelling_end l r = record { kept = r.kept; each = λ j h. r.below j (omega arith) }

-- the labels of commands i + 1 and j + 1 become one: the smaller is renamed, or they are equal
pub united : {low high : ℕ} {lab : ℕ → ℕ} {before after : List ℕ} (i j : ℕ) → i < 24 → j < 24
    → (length before ≡ 24 → Relabelled low high before after) → low ≡ min (get_or before i 0) (get_or before j 0)
    → high ≡ max (get_or before i 0) (get_or before j 0) → LabelsOf lab before
    → LabelsOf (λ k. relabel (lab (i + 1)) (lab (j + 1)) (lab k)) after
unfolding relabel
united i j l m f d e h =
    let r = f h.many in
    record {
      many = r.kept ∙ h.many;
      each = λ k u. r.each k u ∙ rw (d, e, h.each i l, h.each j m, h.each k u);
    }

relabel_equal : (m l : ℕ) → relabel m m l ≡ l
unfolding relabel relabel_step
relabel_equal m l = go (eqb l (min m m)) refl
  where
    go : (t : Bool) → eqb l (min m m) ≡ t → relabel_step t (max m m) l ≡ l
    go true e = omega (arith, eqb-true l (min m m) e)
    go false e = refl

pub united_equal : {lab : ℕ → ℕ} {labels : List ℕ} (i j : ℕ) → i < 24 → j < 24 → get_or labels i 0 ≡ get_or labels j 0
    → LabelsOf lab labels → LabelsOf (λ k. relabel (lab (i + 1)) (lab (j + 1)) (lab k)) labels
united_equal {lab} i j l m n h =
    let e : lab (i + 1) ≡ lab (j + 1) = sym (h.each i l) ∙ n ∙ h.each j m in
    record {
      many = h.many;
      each = λ k u. h.each k u ∙ sym (rw e (relabel_equal (lab (j + 1)) (lab (k + 1))));
    }

module _ (c : List ℕ) where
  -- a pair of which the second is not flagged, or that does not conflict, or that is merged
  pub merged_none : {lab : ℕ → ℕ} {labels : List ℕ} (flags : List ℕ) (i j : ℕ) → (get_or flags j 0 ≡ 1 → ⊥)
      → LabelsOf lab labels → LabelsOf (merge_row (alphabet c) i (flagged_at flags j) lab) labels
  unfolding merge_row keep_if
  merged_none flags i j n h = rw (ne_eqb (get_or flags j 0) 1 n) h

  pub merged_apart : {lab : ℕ → ℕ} {labels : List ℕ} (flags : List ℕ) (i j : ℕ) → get_or flags j 0 ≡ 1
      → yes_no (conflict c i (j + 1)) ≡ 0
      → LabelsOf lab labels → LabelsOf (merge_row (alphabet c) i (flagged_at flags j) lab) labels
  unfolding merge_row keep_if merge merge_step
  merged_apart {lab} {labels} flags i j e z h = rw (eq-eqb (get_or flags j 0) 1 e) (go (conflict c i (j + 1)) z)
    where
      go : (t : Bool) → yes_no t ≡ 0 → LabelsOf (merge_step t (lab i) (lab (j + 1)) lab) labels
      go true f = absurd (omega arith)
      go false f = h

  pub merged_both : {labels : List ℕ} (lab : ℕ → ℕ) (flags : List ℕ) (i j : ℕ) → get_or flags j 0 ≡ 1
      → (yes_no (conflict c i (j + 1)) ≡ 0 → ⊥)
      → LabelsOf (λ k. relabel (lab i) (lab (j + 1)) (lab k)) labels
      → LabelsOf (merge_row (alphabet c) i (flagged_at flags j) lab) labels
  unfolding merge_row keep_if merge merge_step
  merged_both {labels} lab flags i j e n h = rw (eq-eqb (get_or flags j 0) 1 e) (go (conflict c i (j + 1)) n)
    where
      go : (t : Bool) → (yes_no t ≡ 0 → ⊥) → LabelsOf (merge_step t (lab i) (lab (j + 1)) lab) labels
      go true f = h
      go false f = absurd (f refl)

-- f goes along a list from its front, as merge_row and merge_all do
pub record Folds (f : List ℕ → (ℕ → ℕ) → ℕ → ℕ) : Type 0 where
  pub none : (lab : ℕ → ℕ) → f [] lab ≡ lab
  pub more : (k : ℕ) (ks : List ℕ) (lab : ℕ → ℕ) → f (k ∷ ks) lab ≡ f ks (f (k ∷ []) lab)

pub row_folds : (c : List ℕ) (i : ℕ) → Folds (merge_row (alphabet c) i)
unfolding merge_row
row_folds c i = record { none = λ lab. refl; more = λ k ks lab. refl }

pub all_folds : (c js : List ℕ) → Folds (λ is. merge_all (alphabet c) is js)
unfolding merge_all
all_folds c js = record { none = λ lab. refl; more = λ k ks lab. refl }

-- the flagged commands from j + 1 on
abbrev pub flagged_from : List ℕ → ℕ → List ℕ
flagged_from flags j = flagged (j + 1) (drop j flags)

-- f over the flagged commands from j + 1 on makes the labels told of those that f over all makes of the first labels
pub record Folding (f : List ℕ → (ℕ → ℕ) → ℕ → ℕ) (flags : List ℕ) (first : ℕ → ℕ) (now : List ℕ) (j : ℕ)
    : Type 0 where
  pub lab : ℕ → ℕ
  pub told : LabelsOf lab now
  pub leads : f (flagged_from flags j) lab ≡ f (flagged 1 flags) first

pub fold_start : {f : List ℕ → (ℕ → ℕ) → ℕ → ℕ} {flags : List ℕ} {first : ℕ → ℕ} {now : List ℕ}
    → LabelsOf first now → Folding f flags first now 0
fold_start {first = first} h = record { lab = first; told = h; leads = refl }

flagged_next : (flags : List ℕ) (j : ℕ) → j < length flags
    → flagged_from flags j ≡ keep_if (eqb (get_or flags j 0) 1) (j + 1) (flagged_from flags (j + 1))
unfolding flagged
flagged_next flags j l =
    let e : drop j flags ≡ get_or flags j 0 ∷ drop (j + 1) flags = rw (add-one, drop-cons flags j 0 l) in
    ap (flagged (j + 1)) e

flagged_end : (flags : List ℕ) (j : ℕ) → length flags ≤ j → flagged_from flags j ≡ []
unfolding flagged
flagged_end flags j l = ap (flagged (j + 1)) (drop_of_length-le flags l)

module _ {f : List ℕ → (ℕ → ℕ) → ℕ → ℕ} (folds : Folds f) (flags : List ℕ) (many : length flags ≡ 24) where
  fold_next : (j : ℕ) → j < 24 → (lab : ℕ → ℕ)
      → f (flagged_from flags j) lab ≡ f (flagged_from flags (j + 1)) (f (flagged_at flags j) lab)
  unfolding keep_if
  fold_next j l lab = rw (flagged_next flags j (omega arith)) (go (eqb (get_or flags j 0) 1))
    where
      go : (t : Bool) → f (keep_if t (j + 1) (flagged_from flags (j + 1))) lab
          ≡ f (flagged_from flags (j + 1)) (f (keep_if t (j + 1) []) lab)
      go true = folds.more (j + 1) (flagged_from flags (j + 1)) lab
      go false = ap (f (flagged_from flags (j + 1))) (sym (folds.none lab))

  pub fold_again : {first : ℕ → ℕ} {now next : List ℕ} (j : ℕ) → j < 24
      → ((lab : ℕ → ℕ) → LabelsOf lab now → LabelsOf (f (flagged_at flags j) lab) next)
      → Folding f flags first now j → Folding f flags first next (j + 1)
  fold_again j l g t = record {
    lab = f (flagged_at flags j) t.lab;
    told = g t.lab t.told;
    leads = sym (fold_next j l t.lab) ∙ t.leads;
  }

  pub fold_end : {first : ℕ → ℕ} {now : List ℕ} (j : ℕ) → 24 ≤ j → Folding f flags first now j
      → LabelsOf (f (flagged 1 flags) first) now
  fold_end {first} {now} j l t =
      let d : flagged_from flags j ≡ [] = flagged_end flags j (omega arith) in
      let e : t.lab ≡ f (flagged 1 flags) first =
      sym (folds.none t.lab) ∙ ap (λ (ks : List ℕ). f ks t.lab) (sym d) ∙ t.leads in
      subst (λ (lab : ℕ → ℕ). LabelsOf lab now) e t.told

-- the row of a command that is not flagged, and of one that is
pub row_none : (c : List ℕ) {lab : ℕ → ℕ} {labels : List ℕ} (flags : List ℕ) (i : ℕ) → (get_or flags i 0 ≡ 1 → ⊥)
    → LabelsOf lab labels → LabelsOf (merge_all (alphabet c) (flagged_at flags i) (flagged 1 flags) lab) labels
unfolding merge_all keep_if
row_none c flags i n h = rw (ne_eqb (get_or flags i 0) 1 n) h

pub row_some : (c : List ℕ) {labels : List ℕ} (lab : ℕ → ℕ) (flags : List ℕ) (i : ℕ) → get_or flags i 0 ≡ 1
    → LabelsOf (merge_row (alphabet c) (i + 1) (flagged 1 flags) lab) labels
    → LabelsOf (merge_all (alphabet c) (flagged_at flags i) (flagged 1 flags) lab) labels
unfolding merge_all keep_if
row_some c lab flags i e h = rw (eq-eqb (get_or flags i 0) 1 e) h

pub flags-labels : (c : List ℕ) {ks flags labs : List ℕ} → Flags ks flags
    → LabelsOf (merge_all (alphabet c) (flagged 1 flags) (flagged 1 flags) (λ k. k)) labs
    → LabelsOf (labels (alphabet c) ks) labs
unfolding labels
flags-labels c h t = rw (← flags_list h) t
