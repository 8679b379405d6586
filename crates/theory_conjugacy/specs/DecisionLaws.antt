-- The decision is exact: `joined?` answers true exactly where some word conjugates the first word to the second, and
-- then `lead-in` is such a word, of at most N times the letters of both where the commands are 1 to N. The first and
-- the last of these, joined_exact and lead_in_length, stand for the reader.
use Rattle.std.specs.Prelude.{ℕ, zero, suc, ◌+◌, ◌*◌, ◌≤◌, ◌≡◌, Bool, false, ◌↔◌}
use Rattle.std.proofs.Common.{mul-add, add-mul, mul-le-mul_left, mul-le-mul_right, arith, sym, ◌∙◌, ap, true≢false}
use Rattle.std.proofs.Math.Path.{refl, subst}
use Rattle.std.proofs.Math.Bool.{true}
use mathlib.Core.List.Memᴰ
use mathlib.Core.List.{List, [], ◌∷◌, ◌++◌}
use Rattle.std.proofs.Math.ListN.{length, length-append}
use Rattle.std.proofs.Math.Dec.{eqb}
use Rattle.theory_words.specs.BoolLaws.{and_both}
use Rattle.theory_words.specs.Alike.{alike?}
use Rattle.theory_words.specs.AlikeLaws.{alike_true, alike_refl}
use Rattle.theory_words.specs.All.{All}
use Rattle.theory_words.specs.Alphabet.{Alphabet, Word}
use Rattle.theory_words.specs.Trace as Trace
use Rattle.theory_words.specs.TraceLaws.{~-length}
use Rattle.theory_words.specs.Group as Group
use Rattle.theory_words.specs.Group.{undo, conj, then, back}
use Rattle.theory_words.specs.GroupLaws.{~→≈, ≈-conj, undo_length}
use Rattle.theory_words.specs.ReduceLaws.{reduce-length}
use Rattle.theory_conjugacy.specs.Turn.{Turns}
use Rattle.theory_conjugacy.specs.TurnLaws.{turns_length, filter_turns}
use Rattle.theory_conjugacy.specs.Core.{core, lead}
use Rattle.theory_conjugacy.specs.CoreLaws.{core-length, core_all}
use Rattle.theory_conjugacy.specs.ConjugateLaws.{conjugate_cores, cores_conjugate}
use Rattle.theory_conjugacy.specs.Part.{commands, label, apexes, share, part}
use Rattle.theory_conjugacy.specs.RingLaws.{turns_rotated}
use Rattle.theory_conjugacy.specs.AscendingLaws.{Within}
use Rattle.theory_conjugacy.specs.CommandLaws.{all_occurs, commands_turns}
use Rattle.theory_conjugacy.specs.PartLaws.{ascending_once, shares, label_same, apexes_same, apexes_ascending}
use Rattle.theory_conjugacy.specs.PartLaws.{apexes-~}
use Rattle.theory_conjugacy.specs.Decision.{part_ring, rotated?, parts_joined?, cores_joined?, joined?}
use Rattle.theory_conjugacy.specs.LeadIn.{parts_lead, lead_in}
use Rattle.theory_conjugacy.specs.LeadInLaws.{apical_part, settling_leads, rotated_test}
use Rattle.theory_conjugacy.specs.JoinLaws.{part_second, apical_second, parts_lead_conj, parts_lead_length}

-- the letters of a lead-in, counted
pub lead_in_bound : (n a b l s t u : ℕ) → (n ≡ 0 → s + t ≡ 0) → 2 * a + l ≤ s → 2 * b + l ≤ t → u + l ≤ (2 * n) * l
    → a + (u + b) ≤ n * (s + t)
lead_in_bound zero a b l s t u z i j k = let e = z refl in omega arith
lead_in_bound (suc n) a b l s t u z i j k =
    let c = 2 * a + 2 * b in
    let d : suc n * (c + (l + l)) ≤ suc n * (s + t) = mul-le-mul_left (suc n) (omega arith) in
    let e : 1 * c ≤ suc n * c = mul-le-mul_right c (omega arith) in
    let f : 2 * suc n ≡ suc n + suc n = omega arith in
    omega (arith, d, e, mul-add (suc n) c (l + l), mul-add (suc n) l l, ap (λ m. m * l) f, add-mul (suc n) (suc n) l)

module _ (Γ : Alphabet) where
  open Γ use {Letter, inv, cmd}

  infix 20 ◌~◌ ◌≈◌
  abbrev ◌~◌ : Word Γ → Word Γ → Type 0
  ◌~◌ = Trace.◌~◌ Γ

  abbrev ◌≈◌ : Word Γ → Word Γ → Type 0
  ◌≈◌ = Group.◌≈◌ Γ

  -- words that swaps and cyclings lead between

  turns_share : {x y : Word Γ} → Turns Γ x y → (m : ℕ) → Turns Γ (part Γ m x) (share Γ (label Γ x) m y)
  unfolding part share
  turns_share {x} s m = filter_turns Γ (λ a. eqb (label Γ x (cmd a)) m) s

  turns_part : {x y : Word Γ} → Turns Γ x y → (m : ℕ) → Turns Γ (part Γ m x) (part Γ m y)
  turns_part {x} {y} s m = rw (part_second Γ x y (commands_turns Γ s) m) (turns_share s m)

  turns_rings : {x y : Word Γ} → Turns Γ x y → (ms : List ℕ) → Within ms (apexes Γ x) → parts_joined? Γ ms x y ≡ true
  unfolding parts_joined? part_ring
  turns_rings s [] f = refl
  turns_rings {x} {y} s (m ∷ ms) f =
      let i = f m (Memᴰ.head refl) in
      let r = turns_rotated Γ m (turns_part s m) (settling_leads Γ (apical_part Γ x i))
      (settling_leads Γ (apical_second Γ x y (commands_turns Γ s) i)) in
      let t : rotated? Γ (part_ring Γ m x) (part_ring Γ m y) ≡ true = rotated_test Γ _ _ r in
      rw t (turns_rings s ms (λ k j. f k (Memᴰ.tail j)))

  pub turns_joined : {x y : Word Γ} → Turns Γ x y → cores_joined? Γ x y ≡ true
  unfolding cores_joined?
  turns_joined {x} {y} s =
      let a : alike? (commands Γ x) (commands Γ y) ≡ true =
      subst (λ (ks : List ℕ). alike? (commands Γ x) ks ≡ true) (commands_turns Γ s) (alike_refl (commands Γ x)) in
      rw a (turns_rings s (apexes Γ x) (λ k i. i))

  -- conjugate words
  pub conjugate_joined : (u v w : Word Γ) → conj Γ u v ≈ w → joined? Γ v w ≡ true
  unfolding joined?
  conjugate_joined u v w e = turns_joined (conjugate_cores Γ u v w e)

  -- what the answer true says of the cores
  pub cores_true : (x y : Word Γ) → cores_joined? Γ x y ≡ true
      → (commands Γ x ≡ commands Γ y) × (parts_joined? Γ (apexes Γ x) x y ≡ true)
  unfolding cores_joined?
  cores_true x y t =
      let (a, b) = and_both (alike? (commands Γ x) (commands Γ y)) (parts_joined? Γ (apexes Γ x) x y) t in
      (alike_true (commands Γ x) (commands Γ y) a, b)

  pub cores_lead : (x y : Word Γ) → cores_joined? Γ x y ≡ true → conj Γ (parts_lead Γ (apexes Γ x) x y) x ≈ y
  cores_lead x y t =
      let (e, p) = cores_true x y t in
      let ms = apexes Γ x in
      let u = parts_lead Γ ms x y in
      let c = parts_lead_conj Γ x y e ms (ascending_once ms (apexes_ascending Γ x)) (λ k i. i) p in
      let d : y ~ shares Γ (label Γ x) ms y = rw (label_same Γ x y e, apexes_same Γ x y e) (apexes-~ Γ y) in
      then (≈-conj Γ u (~→≈ Γ (apexes-~ Γ x))) (then c (back (~→≈ Γ d)))

  -- the lead-in joins
  pub lead_in_conj : (v w : Word Γ) → joined? Γ v w ≡ true → conj Γ (lead_in Γ v w) v ≈ w
  unfolding joined? lead_in
  lead_in_conj v w t =
      let x = core Γ v in
      let y = core Γ w in
      cores_conjugate Γ (parts_lead Γ (apexes Γ x) x y) v w (cores_lead x y t)

  -- the answer is true exactly where some word conjugates v to w
  pub joined_exact : (v w : Word Γ) → (joined? Γ v w ≡ true) ↔ ((u : Word Γ) × (conj Γ u v ≈ w))
  joined_exact v w = ((λ t. (lead_in Γ v w, lead_in_conj v w t)), (λ p. conjugate_joined p.0 v w p.1))

  -- and false exactly where none does
  pub apart_exact : (v w : Word Γ) → (joined? Γ v w ≡ false) ↔ ((u : Word Γ) → ¬ (conj Γ u v ≈ w))
  apart_exact v w = (
    (λ t u e. true≢false (sym (conjugate_joined u v w e) ∙ t)),
    (λ f. go f (joined? Γ v w) refl),
  )
    where
      go : ((u : Word Γ) → ¬ (conj Γ u v ≈ w)) → (b : Bool) → joined? Γ v w ≡ b → b ≡ false
      go f true t = absurd (f (lead_in Γ v w) (lead_in_conj v w t))
      go f false t = refl

  -- the letters of reductions, cores and lead-ins

  pub none_occur : (n : ℕ) (w : Word Γ) → All (λ a. (1 ≤ cmd a) × (cmd a ≤ n)) w → n ≡ 0 → length w ≡ 0
  none_occur n [] h e = refl
  none_occur n (a ∷ w) h e = let (l, u) = h.0 in absurd (omega arith)

  -- the length of the lead-in, before any reduction
  pub lead_in_length : (n : ℕ) (v w : Word Γ) → joined? Γ v w ≡ true → All (λ a. (1 ≤ cmd a) × (cmd a ≤ n)) v
      → All (λ a. (1 ≤ cmd a) × (cmd a ≤ n)) w → length (lead_in Γ v w) ≤ n * (length v + length w)
  unfolding joined? lead_in
  lead_in_length n v w t h k =
      let x = core Γ v in
      let y = core Γ w in
      let u = parts_lead Γ (apexes Γ x) x y in
      let g = undo Γ (lead Γ w) [] in
      let (e, p) = cores_true x y t in
      let o = (core_all Γ (λ a. (1 ≤ cmd a) × (cmd a ≤ n)) v h).1 in
      let b = parts_lead_length Γ x y e n (all_occurs Γ (λ j. (1 ≤ j) × (j ≤ n)) x o) (apexes Γ x) (λ j i. i) p in
      let c : length u + length x ≤ (2 * n) * length x =
      subst (λ l. length u + l ≤ (2 * n) * l) (sym (~-length Γ (apexes-~ Γ x))) b in
      let z : length x ≡ length y = turns_length Γ (conjugate_cores Γ (lead_in Γ v w) v w (lead_in_conj v w t)) in
      let f = lead_in_bound n (length (lead Γ v)) (length (lead Γ w)) (length x) (length v) (length w) (length u)
      (λ d. omega (arith, none_occur n v h d, none_occur n w k d))
      (omega (arith, core-length Γ v, reduce-length Γ v)) (omega (arith, core-length Γ w, reduce-length Γ w)) c in
      omega (arith, f, length-append (lead Γ v) (u ++ g), length-append u g, undo_length inv (lead Γ w) [])
