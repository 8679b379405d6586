-- Laws of the labels: commands with one label are connected, commands with different labels do not conflict, and a
-- label is the largest command that has it. Connected means that whatever test some pass and some do not, a pair of
-- which one passes and one does not conflicts: each merge keeps this.
use Rattle.std.specs.Prelude.{ℕ, ◌≤◌, min, max, ◌≢◌, ◌≡◌, Bool, eqb}
use Rattle.std.proofs.Math.Path.{refl, ap}
use Rattle.std.proofs.Common.{sym, ◌∙◌, subst, true≢false, eqb-true, arith}
use Rattle.std.proofs.Math.Bool.{true, false}
use mathlib.Core.List.Memᴰ
use mathlib.Core.List.{List, [], ◌∷◌}
use Rattle.std.proofs.lemmas.Bool.{eqb-false}
use Rattle.theory_words.specs.Alphabet.{Alphabet}
use Rattle.theory_conjugacy.specs.Part.{relabel, relabel_step, merge_step, merge, merge_row, merge_all, labels}
use Rattle.theory_conjugacy.specs.AscendingLaws.{◌∈◌, Placed, below, above, equal, placed, Within}

-- what relabelling makes of a label
data Relabels (i j l : ℕ) : ℕ → Type 0 where
  changed : l ≡ min i j → Relabels i j l (max i j)
  kept : l ≢ min i j → Relabels i j l l

relabels : (i j l : ℕ) → Relabels i j l (relabel i j l)
unfolding relabel relabel_step
relabels i j l = go (eqb l (min i j)) refl
  where
    go : (t : Bool) → eqb l (min i j) ≡ t → Relabels i j l (relabel_step t (max i j) l)
    go true e = changed (eqb-true l (min i j) e)
    go false e = kept (eqb-false l (min i j) e)

relabels_large : {i j l n : ℕ} → Relabels i j l n → l ≤ n
relabels_large (changed e) = omega arith
relabels_large (kept n) = omega arith

relabels_one : {i j n o : ℕ} → Relabels i j i n → Relabels i j j o → n ≡ o
relabels_one (changed e) (changed f) = refl
relabels_one (changed e) (kept f) = omega arith
relabels_one (kept e) (changed f) = omega arith
relabels_one (kept e) (kept f) = omega arith

relabels_twice : {i j l n o : ℕ} → Relabels i j l n → Relabels i j n o → o ≡ n
relabels_twice (changed e) (changed f) = refl
relabels_twice (changed e) (kept f) = refl
relabels_twice (kept e) (changed f) = omega arith
relabels_twice (kept e) (kept f) = refl

-- a new label is an old one
relabels_old : {i j l n : ℕ} (P : ℕ → Type 0) → P i → P j → P l → Relabels i j l n → P n
relabels_old {i} {j} P p q r (changed e) = go (placed i j)
  where
    go : {s t : Bool} → Placed i j s t → P (max i j)
    go (below h) = let e : j ≡ max i j = omega arith in subst P e q
    go (above h) = let e : i ≡ max i j = omega arith in subst P e p
    go (equal h) = let e : i ≡ max i j = omega arith in subst P e p
relabels_old P p q r (kept n) = r

-- labels that become one were one, or are the two
data Met (i j l m : ℕ) : Type 0 where
  alike : l ≡ m → Met i j l m
  straight : l ≡ i → m ≡ j → Met i j l m
  across : l ≡ j → m ≡ i → Met i j l m

relabels_met : {i j l m n o : ℕ} → Relabels i j l n → Relabels i j m o → n ≡ o → Met i j l m
relabels_met (changed e) (changed f) h = alike (e ∙ sym f)
relabels_met {i} {j} {l} {m} (changed e) (kept f) h = go (placed i j)
  where
    go : {s t : Bool} → Placed i j s t → Met i j l m
    go (below k) = straight (omega arith) (omega arith)
    go (above k) = across (omega arith) (omega arith)
    go (equal k) = alike (omega arith)
relabels_met {i} {j} {l} {m} (kept e) (changed f) h = go (placed i j)
  where
    go : {s t : Bool} → Placed i j s t → Met i j l m
    go (below k) = across (omega arith) (omega arith)
    go (above k) = straight (omega arith) (omega arith)
    go (equal k) = alike (omega arith)
relabels_met (kept e) (kept f) h = alike h

module _ (Γ : Alphabet) where
  open Γ use {conf, conf_sym}

  -- a conflicting pair of commands with the label l, of which the first passes f and the second does not
  abbrev pub Cut : List ℕ → (ℕ → ℕ) → (ℕ → Bool) → ℕ → Type 0
  Cut ks lab f l = (i : ℕ) × (j : ℕ) × (i ∈ ks) × (j ∈ ks) × (lab i ≡ l) × (lab j ≡ l) × (conf i j ≡ true)
      × (f i ≡ true) × (f j ≡ false)

  pub record Labelled (ks : List ℕ) (lab : ℕ → ℕ) : Type 0 where
    pub whole : (f : ℕ → Bool) (i j : ℕ) → i ∈ ks → j ∈ ks → lab i ≡ lab j → f i ≡ true → f j ≡ false
        → Cut ks lab f (lab i)
    pub inside : (k : ℕ) → k ∈ ks → lab k ∈ ks
    pub own : (k : ℕ) → k ∈ ks → lab (lab k) ≡ lab k
    pub large : (k : ℕ) → k ∈ ks → k ≤ lab k

  cut_map : {ks : List ℕ} {lab : ℕ → ℕ} {f : ℕ → Bool} {l : ℕ} (g : ℕ → ℕ) → Cut ks lab f l
      → Cut ks (λ k. g (lab k)) f (g l)
  cut_map g (i, j, m, n, p, q, c, s, t) = (i, j, m, n, ap g p, ap g q, c, s, t)

  -- across a conflicting pair whose labels become one
  cut_bridge : {ks : List ℕ} {lab : ℕ → ℕ} → Labelled ks lab → (f : ℕ → Bool) (g : ℕ → ℕ) (i j p q : ℕ)
      → i ∈ ks → j ∈ ks → p ∈ ks → q ∈ ks → conf i j ≡ true → g (lab i) ≡ g (lab j)
      → lab p ≡ lab i → lab q ≡ lab j
      → f p ≡ true → f q ≡ false → Cut ks (λ k. g (lab k)) f (g (lab p))
  cut_bridge {ks} {lab} h f g i j p q mi mj mp mq c e ep eq s t = go (f i) refl (f j) refl
    where
      go : (x : Bool) → f i ≡ x → (y : Bool) → f j ≡ y → Cut ks (λ k. g (lab k)) f (g (lab p))
      go false x y z = cut_map g (h.whole f p i mp mi ep s x)
      go true x true y = subst (Cut ks (λ k. g (lab k)) f) (sym e ∙ sym (ap g ep))
          (cut_map g (h.whole f j q mj mq (sym eq) y t))
      go true x false y = (i, j, mi, mj, ap g (sym ep), sym e ∙ sym (ap g ep), c, x, y)

  relabel_labelled : {ks : List ℕ} {lab : ℕ → ℕ} → Labelled ks lab → (i j : ℕ) → i ∈ ks → j ∈ ks → conf i j ≡ true
      → Labelled ks (λ k. relabel (lab i) (lab j) (lab k))
  relabel_labelled {ks} {lab} h i j mi mj c = record {
    whole = λ f p q mp mq e s t. met f p q mp mq s t (relabels_met (r (lab p)) (r (lab q)) e);
    inside = λ k m. relabels_old (λ l. l ∈ ks) (h.inside i mi) (h.inside j mj) (h.inside k m) (r (lab k));
    own = λ k m. ap g (fixed k m) ∙ relabels_twice (r (lab k)) (r (g (lab k)));
    large = λ k m. omega (arith, h.large k m, relabels_large (r (lab k)));
  }
    where
      g : ℕ → ℕ
      g = relabel (lab i) (lab j)

      r : (l : ℕ) → Relabels (lab i) (lab j) l (g l)
      r = relabels (lab i) (lab j)

      one : g (lab i) ≡ g (lab j)
      one = relabels_one (r (lab i)) (r (lab j))

      met : (f : ℕ → Bool) (p q : ℕ) → p ∈ ks → q ∈ ks → f p ≡ true → f q ≡ false
          → Met (lab i) (lab j) (lab p) (lab q) → Cut ks (λ k. g (lab k)) f (g (lab p))
      met f p q mp mq s t (alike e) = cut_map g (h.whole f p q mp mq e s t)
      met f p q mp mq s t (straight e d) = cut_bridge h f g i j p q mi mj mp mq c one e d s t
      met f p q mp mq s t (across e d) = cut_bridge h f g j i p q mj mi mp mq (conf_sym j i ∙ c) (sym one) e d s t

      fixed : (k : ℕ) → k ∈ ks → lab (g (lab k)) ≡ g (lab k)
      fixed k m = relabels_old (λ l. lab l ≡ l) (h.own i mi) (h.own j mj) (h.own k m) (r (lab k))

  merge_labelled : {ks : List ℕ} {lab : ℕ → ℕ} → Labelled ks lab → (i j : ℕ) → i ∈ ks → j ∈ ks
      → Labelled ks (merge Γ i j lab)
  unfolding merge merge_step
  merge_labelled {ks} {lab} h i j mi mj = go (conf i j) refl
    where
      go : (t : Bool) → conf i j ≡ t → Labelled ks (merge_step t (lab i) (lab j) lab)
      go true c = relabel_labelled h i j mi mj c
      go false c = h

  row_labelled : {ks : List ℕ} {lab : ℕ → ℕ} (i : ℕ) (js : List ℕ) → i ∈ ks → Within js ks → Labelled ks lab
      → Labelled ks (merge_row Γ i js lab)
  unfolding merge_row
  row_labelled i [] mi f h = h
  row_labelled {lab = lab} i (j ∷ js) mi f h = row_labelled {lab = merge Γ i j lab} i js mi (λ k m. f k (Memᴰ.tail m))
      (merge_labelled h i j mi (f j (Memᴰ.head refl)))

  all_labelled : {ks : List ℕ} {lab : ℕ → ℕ} (is js : List ℕ) → Within is ks → Within js ks → Labelled ks lab
      → Labelled ks (merge_all Γ is js lab)
  unfolding merge_all
  all_labelled [] js f g h = h
  all_labelled {lab = lab} (i ∷ is) js f g h = all_labelled {lab = merge_row Γ i js lab} is js (λ k m. f k (Memᴰ.tail m)) g
      (row_labelled i js (f i (Memᴰ.head refl)) g h)

  start_labelled : (ks : List ℕ) → Labelled ks (λ k. k)
  start_labelled ks = record {
    whole = λ f i j m n e s t. absurd (true≢false (sym s ∙ ap f e ∙ t));
    inside = λ k m. m;
    own = λ k m. refl;
    large = λ k m. omega arith;
  }

  pub labels_labelled : (ks : List ℕ) → Labelled ks (labels Γ ks)
  unfolding labels
  labels_labelled ks = all_labelled ks ks (λ k m. m) (λ k m. m) (start_labelled ks)

  -- merging keeps equal labels equal
  merge_kept : (lab : ℕ → ℕ) (p q i j : ℕ) → lab p ≡ lab q → merge Γ i j lab p ≡ merge Γ i j lab q
  unfolding merge merge_step
  merge_kept lab p q i j e = go (conf i j)
    where
      go : (t : Bool) → merge_step t (lab i) (lab j) lab p ≡ merge_step t (lab i) (lab j) lab q
      go true = ap (relabel (lab i) (lab j)) e
      go false = e

  row_kept : (lab : ℕ → ℕ) (p q i : ℕ) (js : List ℕ) → lab p ≡ lab q → merge_row Γ i js lab p ≡ merge_row Γ i js lab q
  unfolding merge_row
  row_kept lab p q i [] e = e
  row_kept lab p q i (j ∷ js) e = row_kept (merge Γ i j lab) p q i js (merge_kept lab p q i j e)

  all_kept : (lab : ℕ → ℕ) (p q : ℕ) (is js : List ℕ) → lab p ≡ lab q
      → merge_all Γ is js lab p ≡ merge_all Γ is js lab q
  unfolding merge_all
  all_kept lab p q [] js e = e
  all_kept lab p q (i ∷ is) js e = all_kept (merge_row Γ i js lab) p q is js (row_kept lab p q i js e)

  -- and makes those of each conflicting pair equal
  merge_one : (lab : ℕ → ℕ) (i j : ℕ) → conf i j ≡ true → merge Γ i j lab i ≡ merge Γ i j lab j
  unfolding merge merge_step
  merge_one lab i j c = rw c (relabels_one (relabels (lab i) (lab j) (lab i)) (relabels (lab i) (lab j) (lab j)))

  row_one : (lab : ℕ → ℕ) {j : ℕ} (i : ℕ) (js : List ℕ) → j ∈ js → conf i j ≡ true
      → merge_row Γ i js lab i ≡ merge_row Γ i js lab j
  unfolding merge_row
  row_one lab {j} i (k ∷ js) (Memᴰ.head e) c =
      row_kept (merge Γ i k lab) i j i js (merge_one lab i k (ap (conf i) (sym e) ∙ c) ∙ ap (merge Γ i k lab) (sym e))
  row_one lab i (k ∷ js) (Memᴰ.tail m) c = row_one (merge Γ i k lab) i js m c
  row_one lab {j = j} i [] x'' c = elim x'' [ ]

  all_one : (lab : ℕ → ℕ) {i j : ℕ} (is js : List ℕ) → i ∈ is → j ∈ js → conf i j ≡ true
      → merge_all Γ is js lab i ≡ merge_all Γ is js lab j
  unfolding merge_all
  all_one lab {i} {j} (k ∷ is) js (Memᴰ.head e) n c =
      all_kept (merge_row Γ k js lab) i j is js
      (ap (merge_row Γ k js lab) e ∙ row_one lab k js n (ap (λ l. conf l j) (sym e) ∙ c))
  all_one lab (k ∷ is) js (Memᴰ.tail m) n c = all_one (merge_row Γ k js lab) is js m n c
  all_one lab {i = i} {j = j} [] js x3 n c = elim x3 [ ]

  pub labels_one : (ks : List ℕ) {i j : ℕ} → i ∈ ks → j ∈ ks → conf i j ≡ true → labels Γ ks i ≡ labels Γ ks j
  unfolding labels
  labels_one ks m n c = all_one (λ k. k) ks ks m n c
