-- Laws of the lead-in from one part to another: what it joins, which letters it has, and how many.
use Prim.Native.Nat.{ℕ, suc, ◌+◌, ◌*◌, ◌-◌, ◌≤◌, ◌<◌, max}
use Rattle.std.proofs.Common.{add-mul, mul-one, mul-le-mul_left, sym, ◌∙◌, true≢false, take-append-drop, eq-eqb}
use native.Mathlib.Omega.{arith}
use Rattle.std.specs.Prelude.{◌≡◌, take, drop, eqb}
use Rattle.std.proofs.Math.Path.{refl, ap, subst}
use Rattle.std.proofs.Math.Bool.{true}
use mathlib.Core.List.{[], ◌∷◌, ◌++◌}
use Rattle.std.proofs.Math.Option.{Option, none, some}
use Rattle.std.proofs.Math.ListN.{length, length-append, length-take}
use Rattle.theory_words.specs.BoolLaws.{and_both}
use Rattle.theory_words.specs.All.{All, all_append, all_left, all_pick, all_along}
use Rattle.theory_words.specs.Alphabet.{Alphabet, Word}
use Rattle.theory_words.specs.Group as Group
use Rattle.theory_words.specs.Group.{undo, conj}
use Rattle.theory_words.specs.GroupLaws.{undo_length}
use Rattle.theory_words.specs.Normal.{lex}
use Rattle.theory_conjugacy.specs.TurnLaws.{turns_length}
use Rattle.theory_conjugacy.specs.Part.{commands, apexes, part}
use Rattle.theory_conjugacy.specs.Settle.{Rounded, ring}
use Rattle.theory_conjugacy.specs.SettleLaws.{rounded_settled}
use Rattle.theory_conjugacy.specs.Rotation.{rotation, Rotated}
use Rattle.theory_conjugacy.specs.RotationLaws.{rotation-some, rotation-none, rotation_rotated, rotated_length}
use Rattle.theory_conjugacy.specs.RingLaws.{Leads, rest, step, Under, ring_of, leads_to_turns, rings_join}
use Rattle.theory_conjugacy.specs.AscendingLaws.{◌∈◌}
use Rattle.theory_conjugacy.specs.CommandLaws.{Occurs, occurs_all, occurs_length}
use Rattle.theory_conjugacy.specs.PartLaws.{Connected, part_connected, part_largest, apex_occurs}
use Rattle.theory_conjugacy.specs.RoundLaws.{connected_rounded, rounded_bound, rounded_length}
use Rattle.theory_conjugacy.specs.Decision.{found?, settled_ring, rotated?}
use Rattle.theory_conjugacy.specs.LeadIn.{place, settling, part_lead}

-- more rounds allow more letters
more_rounds : (l j n g : ℕ) → j ≤ n → 1 ≤ l → g + j ≤ j * l → g + n ≤ n * l
more_rounds l j n g h i k =
    let d = n - j in
    let e : n ≡ j + d = omega arith in
    let f : n * l ≡ j * l + d * l = ap (λ k. k * l) e ∙ add-mul j d l in
    let b : d * 1 ≤ d * l = mul-le-mul_left d i in
    omega (arith, mul-one d)

twice_one : (n l : ℕ) → (2 * n + 1) * l ≡ n * l + n * l + l
twice_one n l =
    let e : 2 * n + 1 ≡ (n + n) + 1 = omega arith in
    omega (arith, ap (λ k. k * l) e, add-mul (n + n) 1 l, add-mul n n l)

module _ (Γ : Alphabet) where
  open Γ use {Letter, inv, cmd}

  infix 20 ◌≈◌
  abbrev ◌≈◌ : Word Γ → Word Γ → Type 0
  ◌≈◌ = Group.◌≈◌ Γ

  -- connected, and m is its largest command
  pub record Apical (m : ℕ) (p : Word Γ) : Type 0 where
    pub whole : Connected Γ p
    pub apex : Occurs Γ m p
    pub under : (k : ℕ) → Occurs Γ k p → k ≤ m

  pub apical_part : {m : ℕ} (x : Word Γ) → m ∈ apexes Γ x → Apical m (part Γ m x)
  apical_part {m} x i = record {
    whole = part_connected Γ m x;
    apex = apex_occurs Γ x i;
    under = λ k o. part_largest Γ m x o;
  }

  apical_under : {m : ℕ} {p : Word Γ} → Apical m p → Under Γ m p
  apical_under {m} {p} a = occurs_all Γ (λ k. k ≤ m) p a.under

  -- settling such a word reaches its ring
  pub settling_leads : {m : ℕ} {p : Word Γ} → Apical m p → Leads Γ m p (settling Γ m p) (settled_ring Γ m p)
  unfolding settling settled_ring
  settling_leads {m} {p} a =
      let (n, g, r, o, h) = connected_rounded Γ m p a.whole a.apex in
      ring_of Γ m o (apical_under a) (length (commands Γ p)) (omega arith)

  -- with no more than n + 1 commands
  pub settling-length : {m : ℕ} {p : Word Γ} → Apical m p → (n : ℕ) → length (commands Γ p) ≤ suc n
      → length (settling Γ m p) + n ≤ n * length p
  unfolding settling
  settling-length {m} {p} a n h =
      let (j, g, r, o, k) = connected_rounded Γ m p a.whole a.apex in
      let (e, f) = rounded_settled Γ m o (length (commands Γ p)) (omega arith) in
      let i = more_rounds (length p) j n (length g) (omega arith) (occurs_length Γ a.apex)
      (rounded_length Γ m a.apex o) in
      rw f i

  -- the letters that settling cycles, and its ring, from its rounds

  pub settling_cycled : {m n : ℕ} {p g r : Word Γ} → Connected Γ p → Occurs Γ m p → Rounded Γ m n p g r
      → settling Γ m p ≡ g
  unfolding settling
  settling_cycled {m} {p = p} h a o =
      let l = rounded_bound Γ m h a o in
      (rounded_settled Γ m o (length (commands Γ p)) (omega arith)).1

  pub settling_ring : {m n : ℕ} {p g r : Word Γ} → Connected Γ p → Occurs Γ m p → Rounded Γ m n p g r
      → settled_ring Γ m p ≡ lex Γ (length r) r
  unfolding ring settled_ring
  settling_ring {m} {p = p} h a o =
      let l = rounded_bound Γ m h a o in
      ap (λ (x : Word Γ). lex Γ (length x) x) (rounded_settled Γ m o (length (commands Γ p)) (omega arith)).0

  pub ring_length : {m : ℕ} {p : Word Γ} → Apical m p → length (settled_ring Γ m p) ≡ length p
  ring_length {m} a = sym (turns_length Γ (leads_to_turns Γ m (settling_leads a)))

  -- the test for rotations
  place_below : (r t : Word Γ) → place (rotation Γ r t) < max 1 (length r)
  unfolding place
  place_below r t = go (rotation Γ r t) refl
    where
      go : (o : Option ℕ) → rotation Γ r t ≡ o → place o < max 1 (length r)
      go none e = omega arith
      go (some i) e = (rotation-some Γ r t e).0

  pub rotated_found : (r t : Word Γ) → rotated? Γ r t ≡ true → rotation Γ r t ≡ some (place (rotation Γ r t))
  unfolding rotated? place found?
  rotated_found r t e = go (rotation Γ r t) (and_both (eqb (length r) (length t)) (found? (rotation Γ r t)) e).1
    where
      go : (o : Option ℕ) → found? o ≡ true → o ≡ some (place o)
      go none f = absurd (true≢false (sym f))
      go (some i) f = refl

  pub rotated_test : (r t : Word Γ) → Rotated Γ r t → rotated? Γ r t ≡ true
  unfolding rotated? found?
  rotated_test r t k = rw (eq-eqb (length r) (length t) (rotated_length Γ k)) (go (rotation Γ r t) refl)
    where
      go : (o : Option ℕ) → rotation Γ r t ≡ o → found? o ≡ true
      go none e = absurd (rotation-none Γ r t e k)
      go (some i) e = refl

  -- what the lead-in joins
  pub part_lead_conj : {m : ℕ} {p q : Word Γ} → Apical m p → Apical m q
      → rotated? Γ (settled_ring Γ m p) (settled_ring Γ m q) ≡ true → conj Γ (part_lead Γ m p q) p ≈ q
  unfolding part_lead
  part_lead_conj {m} {p} {q} a b t =
      rings_join Γ m (settling_leads a) (settling_leads b) (rotated_found (settled_ring Γ m p) (settled_ring Γ m q) t)

  pub parts_length : {m : ℕ} {p q : Word Γ} → Apical m p → Apical m q
      → rotated? Γ (settled_ring Γ m p) (settled_ring Γ m q) ≡ true → length p ≡ length q
  parts_length {m} {p} {q} a b t =
      let r = settled_ring Γ m p in
      let s = settled_ring Γ m q in
      sym (ring_length a) ∙ rotated_length Γ (rotation_rotated Γ r s (rotated_found r s t)) ∙ ring_length b

  -- how many letters it has, with no more than n + 1 commands in the parts
  pub part_lead_length : {m : ℕ} {p q : Word Γ} → Apical m p → Apical m q → length p ≡ length q → (n : ℕ)
      → length (commands Γ p) ≤ suc n → length (commands Γ q) ≤ suc n
      → length (part_lead Γ m p q) + (2 * n + 1) ≤ (2 * n + 1) * length p
  unfolding part_lead
  part_lead_length {m} {p} {q} a b e n h k =
      let r = settled_ring Γ m p in
      let i = place (rotation Γ r (settled_ring Γ m q)) in
      let x = settling Γ m p in
      let y = settling Γ m q in
      let j : length y + n ≤ n * length p = subst (λ l. length y + n ≤ n * l) (sym e) (settling-length b n k) in
      omega (
        arith,
        settling-length a n h,
        twice_one n (length p),
        length-append x (take i r ++ undo Γ y []),
        length-append (take i r) (undo Γ y []),
        length-take i r,
        undo_length inv y [],
        place_below r (settled_ring Γ m q),
        ring_length a,
        occurs_length Γ a.apex,
      )

  -- which letters it has
  pub leads_all : (P : Letter → Type 0) {m : ℕ} {x g r : Word Γ} → Leads Γ m x g r → All P x → All P g × All P r
  leads_all P (rest h e o u) k = (tt, all_along Γ P e k)
  leads_all P (step {a = a} {z = z} n o l) k =
      let (h, i) = all_pick Γ P o k in
      let (f, g) = leads_all P l (all_append P z (a ∷ []) i (h, tt)) in
      ((h, f), g)

  pub all_take : (P : Letter → Type 0) (i : ℕ) (w : Word Γ) → All P w → All P (take i w)
  all_take P i w h = all_left P (take i w) (drop i w) (subst (All P) (sym (take-append-drop i w)) h)

  pub all_undo : (P : Letter → Type 0) → ((a : Letter) → P a → P (inv a)) → (u v : Word Γ) → All P u → All P v
      → All P (undo Γ u v)
  all_undo P f [] v h k = k
  all_undo P f (a ∷ u) v h k = all_undo P f u (inv a ∷ v) h.1 (f a h.0, k)

  pub part_lead_all : (P : Letter → Type 0) → ((a : Letter) → P a → P (inv a)) → {m : ℕ} {p q : Word Γ}
      → Apical m p → Apical m q → All P p → All P q → All P (part_lead Γ m p q)
  unfolding part_lead
  part_lead_all P f {m} {p} {q} a b h k =
      let r = settled_ring Γ m p in
      let i = place (rotation Γ r (settled_ring Γ m q)) in
      let (g, l) = leads_all P (settling_leads a) h in
      let (g', l') = leads_all P (settling_leads b) k in
      all_append P (settling Γ m p) (take i r ++ undo Γ (settling Γ m q) []) g
      (all_append P (take i r) (undo Γ (settling Γ m q) []) (all_take P i r l)
      (all_undo P f (settling Γ m q) [] g' tt))
