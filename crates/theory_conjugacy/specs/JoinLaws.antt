-- Laws of the lead-ins of several parts, one after the other: what they join, which letters they have, and how many.
use Prim.Native.Nat.{ℕ, zero, suc, ◌+◌, ◌*◌, ◌≤◌}
use Rattle.std.proofs.Math.Nat.{add-mul, mul-add}
use native.Mathlib.Omega.{arith}
use Rattle.std.specs.Prelude.{◌≡◌, refl, true, ◌⊎◌, ◌≢◌}
use Rattle.std.proofs.Common.{sym, ◌∙◌, inl, inr}
use Rattle.std.proofs.Math.Path.{ap, subst}
use mathlib.Core.List.Memᴰ
use mathlib.Core.List.{List, [], ◌∷◌, ◌++◌}
use Rattle.std.proofs.Math.ListN.{length, length-append}
use Rattle.std.proofs.Math.Dec.{eqb}
use Rattle.theory_words.specs.BoolLaws.{and_both}
use Rattle.theory_words.specs.All.{All, all_append, all_map, all_mem}
use Rattle.theory_words.specs.Alphabet.{Alphabet, Word}
use Rattle.theory_words.specs.Group as Group
use Rattle.theory_words.specs.Group.{conj, then}
use Rattle.theory_words.specs.TraceLaws.{~_sym}
use Rattle.theory_words.specs.GroupLaws.{≈_of_≡, ~→≈, ≈-append, ≈-conj, conj_nil, conj-append, conj_of, conj_product}
use Rattle.theory_words.specs.FilterLaws.{filter_all}
use Rattle.theory_conjugacy.specs.Part.{commands, label, apexes, share, part}
use Rattle.theory_conjugacy.specs.AscendingLaws.{◌∈◌, Within}
use Rattle.theory_conjugacy.specs.CommandLaws.{Occurs, occurs_nil, occurs_split, occurs_all, all_occurs}
use Rattle.theory_conjugacy.specs.CommandLaws.{same_covers}
use Rattle.theory_conjugacy.specs.PartLaws.{Once, Independent, independent_swap, independent_sym, label_parting}
use Rattle.theory_conjugacy.specs.PartLaws.{shares, share_occurs, label_same, apexes_same, part-share}
use Rattle.theory_conjugacy.specs.PartLaws.{part_occurs, part_bounded}
use Rattle.theory_conjugacy.specs.Decision.{part_ring, rotated?, parts_joined?}
use Rattle.theory_conjugacy.specs.LeadIn.{part_lead, parts_lead}
use Rattle.theory_conjugacy.specs.LeadInLaws.{Apical, apical_part, part_lead_conj, parts_length, part_lead_length}
use Rattle.theory_conjugacy.specs.LeadInLaws.{part_lead_all}

module _ (Γ : Alphabet) where
  open Γ use {Letter, inv, cmd}

  infix 20 ◌≈◌
  abbrev ◌≈◌ : Word Γ → Word Γ → Type 0
  ◌≈◌ = Group.◌≈◌ Γ

  -- a word conjugates one that is independent of it to itself
  pub conj_independent : (u x : Word Γ) → Independent Γ u x → conj Γ u x ≈ x
  conj_independent u x f = conj_of Γ u x (~→≈ Γ (~_sym Γ (independent_swap Γ u x f)))

  -- products of words joined one by one
  pub product_join : (u v p g : Word Γ) {q h : Word Γ} → conj Γ u p ≈ q → conj Γ v g ≈ h → Independent Γ u g
      → Independent Γ v q → conj Γ (u ++ v) (p ++ g) ≈ (q ++ h)
  product_join u v p g {q} {h} e f i j =
      then (≈_of_≡ Γ (conj-append Γ u v (p ++ g)))
      (then (≈-conj Γ v (then (conj_product Γ u p g) (≈-append Γ e (conj_independent u g i))))
      (then (conj_product Γ v q g) (≈-append Γ (conj_independent v q j) f)))

  shares_occurs : (lab : ℕ → ℕ) (ms : List ℕ) (w : Word Γ) {k : ℕ} → Occurs Γ k (shares Γ lab ms w)
      → Occurs Γ k w × (lab k ∈ ms)
  unfolding shares
  shares_occurs lab [] w o = absurd (occurs_nil Γ o)
  shares_occurs lab (m ∷ ms) w {k} o = go (occurs_split Γ (share Γ lab m w) o) (λ p. shares_occurs lab ms w p)
    where
      go : Occurs Γ k (share Γ lab m w) ⊎ Occurs Γ k (shares Γ lab ms w)
          → (Occurs Γ k (shares Γ lab ms w) → Occurs Γ k w × (lab k ∈ ms)) → Occurs Γ k w × (lab k ∈ m ∷ ms)
      go (inl p) f = let (q, e) = share_occurs Γ lab m w p in (q, Memᴰ.head e)
      go (inr p) f = let (q, i) = f p in (q, Memᴰ.tail i)

  pub part_all : (P : Letter → Type 0) (m : ℕ) (w : Word Γ) → All P w → All P (part Γ m w)
  unfolding part share
  part_all P m w h = filter_all (λ a. eqb (label Γ w (cmd a)) m) P w h

  -- two words in which the same commands occur
  module _ (x y : Word Γ) (e : commands Γ x ≡ commands Γ y) where
    abbrev lab : ℕ → ℕ
    lab = label Γ x

    back_covers : (k : ℕ) → Occurs Γ k y → Occurs Γ k x
    back_covers = same_covers Γ y x (sym e)

    pub part_second : (m : ℕ) → part Γ m y ≡ share Γ lab m y
    part_second m = part-share Γ m y ∙ ap (λ (l : ℕ → ℕ). share Γ l m y) (sym (label_same Γ x y e))

    pub apical_second : {m : ℕ} → m ∈ apexes Γ x → Apical Γ m (part Γ m y)
    apical_second {m} i = apical_part Γ y (subst (λ (ms : List ℕ). m ∈ ms) (apexes_same Γ x y e) i)

    -- the letters of a part's lead-in belong to the part
    part_lead_home : {m : ℕ} → m ∈ apexes Γ x
        → All (λ a. Occurs Γ (cmd a) x × (lab (cmd a) ≡ m)) (part_lead Γ m (part Γ m x) (part Γ m y))
    part_lead_home {m} i = part_lead_all Γ (λ a. P (cmd a)) (λ a p. subst P (sym (Γ.cmd-inv a)) p)
        (apical_part Γ x i) (apical_second i)
        (occurs_all Γ P (part Γ m x) (λ k o. part_occurs Γ m x o))
        (occurs_all Γ P (part Γ m y) (λ k o. second k o))
      where
        P : ℕ → Type 0
        P k = Occurs Γ k x × (lab k ≡ m)

        second : (k : ℕ) → Occurs Γ k (part Γ m y) → P k
        second k o = let (p, f) = part_occurs Γ m y o in
            (back_covers k p, ap (λ (l : ℕ → ℕ). l k) (label_same Γ x y e) ∙ f)

    parts_lead_home : (ms : List ℕ) → Within ms (apexes Γ x)
        → All (λ a. Occurs Γ (cmd a) x × (lab (cmd a) ∈ ms)) (parts_lead Γ ms x y)
    unfolding parts_lead
    parts_lead_home [] f = tt
    parts_lead_home (m ∷ ms) f =
        let u = part_lead Γ m (part Γ m x) (part Γ m y) in
        let v = parts_lead Γ ms x y in
        all_append (λ a. Occurs Γ (cmd a) x × (lab (cmd a) ∈ m ∷ ms)) u v
        (all_map (λ a p. (p.0, Memᴰ.head p.1)) u (part_lead_home (f m (Memᴰ.head refl))))
        (all_map (λ a p. (p.0, Memᴰ.tail p.1)) v (parts_lead_home ms (λ k i. f k (Memᴰ.tail i))))

    -- commands of one part and of others
    homes_apart : {m : ℕ} {ms : List ℕ} (u v : Word Γ) → All (λ j. m ≢ j) ms
        → ((k : ℕ) → Occurs Γ k u → Occurs Γ k x × (lab k ≡ m))
        → ((k : ℕ) → Occurs Γ k v → Occurs Γ k x × (lab k ∈ ms))
        → Independent Γ u v
    homes_apart {m} {ms} u v n f g i j o p =
        let (oi, ei) = f i o in
        let (oj, ej) = g j p in
        label_parting Γ x i j oi oj (λ d. all_mem (λ k. m ≢ k) ms n ej (sym ei ∙ d))

    pub parts_lead_conj : (ms : List ℕ) → Once ms → Within ms (apexes Γ x) → parts_joined? Γ ms x y ≡ true
        → conj Γ (parts_lead Γ ms x y) (shares Γ lab ms x) ≈ shares Γ lab ms y
    unfolding parts_lead parts_joined? part_ring shares
    parts_lead_conj [] o f t = ≈_of_≡ Γ (conj_nil Γ [])
    parts_lead_conj (m ∷ ms) o f t =
        let i = f m (Memᴰ.head refl) in
        let g : Within ms (apexes Γ x) = λ k j. f k (Memᴰ.tail j) in
        let u = part_lead Γ m (part Γ m x) (part Γ m y) in
        let v = parts_lead Γ ms x y in
        let (s, r) = and_both (rotated? Γ (part_ring Γ m x) (part_ring Γ m y)) (parts_joined? Γ ms x y) t in
        let c : conj Γ u (share Γ lab m x) ≈ share Γ lab m y =
        rw (← part_second m, ← part-share Γ m x) (part_lead_conj Γ (apical_part Γ x i) (apical_second i) s) in
        product_join u v (share Γ lab m x) (shares Γ lab ms x) c (parts_lead_conj ms o.1 g r)
        (homes_apart u (shares Γ lab ms x) o.0 (all_occurs Γ _ u (part_lead_home i))
        (λ k p. shares_occurs lab ms x p))
        (independent_sym Γ (homes_apart (share Γ lab m y) v o.0
        (λ k p. let (q, d) = share_occurs Γ lab m y p in (back_covers k q, d))
        (all_occurs Γ _ v (parts_lead_home ms g))))

    -- how many letters a part's lead-in has where the commands are among 1 to n
    part_bound : (n : ℕ) → ((k : ℕ) → Occurs Γ k x → (1 ≤ k) × (k ≤ n)) → {m : ℕ} → m ∈ apexes Γ x
        → rotated? Γ (part_ring Γ m x) (part_ring Γ m y) ≡ true
        → length (part_lead Γ m (part Γ m x) (part Γ m y)) + length (part Γ m x) ≤ (2 * n) * length (part Γ m x)
    unfolding part_ring
    part_bound zero f {m} i t =
        let (l, h) = f m (part_occurs Γ m x (apical_part Γ x i).apex).0 in absurd (omega arith)
    part_bound (suc n) f {m} i t =
        let p = part Γ m x in
        let q = part Γ m y in
        let a = apical_part Γ x i in
        let b = apical_second i in
        let g = part_bounded Γ (suc n) x f m in
        let h = part_bounded Γ (suc n) y (λ k o. f k (back_covers k o)) m in
        let d : 2 * suc n ≡ (2 * n + 1) + 1 = omega arith in
        omega (
          arith,
          part_lead_length Γ a b (parts_length Γ a b t) n g h,
          ap (λ k. k * length p) d,
          add-mul (2 * n + 1) 1 (length p),
        )

    -- and those of several parts
    pub parts_lead_length : (n : ℕ) → ((k : ℕ) → Occurs Γ k x → (1 ≤ k) × (k ≤ n)) → (ms : List ℕ)
        → Within ms (apexes Γ x) → parts_joined? Γ ms x y ≡ true
        → length (parts_lead Γ ms x y) + length (shares Γ lab ms x) ≤ (2 * n) * length (shares Γ lab ms x)
    unfolding parts_lead parts_joined? shares
    parts_lead_length n f [] g t = omega arith
    parts_lead_length n f (m ∷ ms) g t =
        let p = share Γ lab m x in
        let u = part_lead Γ m (part Γ m x) (part Γ m y) in
        let v = parts_lead Γ ms x y in
        let s = shares Γ lab ms x in
        let (r, k) = and_both (rotated? Γ (part_ring Γ m x) (part_ring Γ m y)) (parts_joined? Γ ms x y) t in
        let b : length u + length p ≤ (2 * n) * length p =
        subst (λ (z : Word Γ). length u + length z ≤ (2 * n) * length z) (part-share Γ m x)
        (part_bound n f (g m (Memᴰ.head refl)) r) in
        let c = parts_lead_length n f ms (λ j i. g j (Memᴰ.tail i)) k in
        let d = ap (λ l. (2 * n) * l) (length-append p s) in
        omega (arith, b, c, d, length-append u v, length-append p s, mul-add (2 * n) (length p) (length s))

    -- and which letters
    pub parts_lead_all : (P : Letter → Type 0) → ((a : Letter) → P a → P (inv a)) → All P x → All P y → (ms : List ℕ)
        → Within ms (apexes Γ x) → All P (parts_lead Γ ms x y)
    unfolding parts_lead
    parts_lead_all P f h k [] g = tt
    parts_lead_all P f h k (m ∷ ms) g =
        let i = g m (Memᴰ.head refl) in
        all_append P (part_lead Γ m (part Γ m x) (part Γ m y)) (parts_lead Γ ms x y)
        (part_lead_all Γ P f (apical_part Γ x i) (apical_second i) (part_all P m x h) (part_all P m y k))
        (parts_lead_all P f h k ms (λ j o. g j (Memᴰ.tail o)))
