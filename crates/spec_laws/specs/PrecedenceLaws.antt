-- Laws of precedence: `leads` computes that a chain of conflicting letters leads from one place to another, and that is
-- that the letter at the one stays before the letter at the other in every arrangement.
use Rattle.std.specs.Prelude.{ℕ, suc, ◌≤◌, ◌<◌, ◌≡◌, Bool, true, false, ◌||◌, ◌↔◌, length, get_or, take, drop, ltb}
use Rattle.std.proofs.Common.{le_refl, arith, sym, ◌∙◌, ltb-true, lt-ltb}
use Rattle.std.proofs.Math.Path.{refl, ap}
use mathlib.Core.List.{List, [], ◌∷◌, ◌++◌, Memᴰ}
use Rattle.theory_words.specs.BoolLaws.{and_both}
use Rattle.theory_words.specs.Trace as Trace
use Rattle.theory_words.specs.TraceLaws.{~_before}
use Rattle.theory_words.specs.Filter.{keep_if}
use Rattle.theory_words.specs.Normal.{meets}
use Rattle.theory_schedules.specs.Precedence.{raised, Leads, ends, over, past, Linked, from, later as further}
use Rattle.theory_schedules.specs.PrecedenceLaws.{linked_along, leads_behind, linked_behind}
use Rattle.theory_schedules.specs.PrecedenceLaws.{raised_leads, raised_brought}
use Rattle.spec.specs.Conflict.{conflict}
use Rattle.spec.specs.Byte.{command_of}
use Rattle.spec.specs.Letters.{alphabet}
use Rattle.spec.specs.Pairs.{Placed, places_of}
use Rattle.spec.specs.Slots.{Fits}
use Rattle.spec.specs.Precedence.{placed_from, Before, now, later, StaysBefore, Chain, link, on, leads}
use Rattle.spec_laws.specs.ArrangementLaws.{before_behind, before_once, places_distinct, stays_within}
use Rattle.spec_laws.specs.ArrangementLaws.{letter, rest, between, rest_split, rest_head, placed_alphabet}
use Rattle.spec_laws.specs.ArrangementLaws.{rearranged_~, ~_rearranged, distinct_along}

-- a letter never stays before an earlier one
pub backwards : (c z : List ℕ) (i j : ℕ) → j ≤ i → ¬ StaysBefore c z i j
backwards c z i j l s = omega (arith, (stays_within c z s).0)

module _ (c : List ℕ) where
  infix 20 ◌~◌
  abbrev ◌~◌ : List Placed → List Placed → Type 0
  ◌~◌ = Trace.◌~◌ (placed_alphabet c)

  -- commands are raised and met as over the bytes alone

  meets_placed : (k : ℕ) (ks : List ℕ) → meets (placed_alphabet c) k ks ≡ meets (alphabet c) k ks
  unfolding meets
  meets_placed k [] = refl
  meets_placed k (j ∷ js) = ap (λ t. conflict c k j || t) (meets_placed k js)

  raised_placed : (ks : List ℕ) (i : ℕ) (q : List ℕ)
      → raised (placed_alphabet c) ks (placed_from i q) ≡ raised (alphabet c) ks q
  unfolding raised placed_from
  raised_placed ks i [] = refl
  raised_placed ks i (b ∷ q) =
      raised_placed (keep_if (meets (placed_alphabet c) (command_of b) ks) (command_of b) ks) (suc i) q
      ∙ ap (λ t. raised (alphabet c) (keep_if t (command_of b) ks) q) (meets_placed (command_of b) ks)

  -- a letter that a chain leads to stands behind the first

  leads_place : {y : Placed} {k : ℕ} {t : List Placed} → Leads (placed_alphabet c) y k t
      → Memᴰ y.place (places_of t)
  leads_place (ends e) = Memᴰ.head refl
  leads_place (over e l) = Memᴰ.tail (leads_place l)
  leads_place (past l) = Memᴰ.tail (leads_place l)

  linked_before : {x y : Placed} {t : List Placed} → Linked (placed_alphabet c) x y t
      → Before x.place y.place (places_of t)
  linked_before (from l) = now (leads_place l)
  linked_before (further l) = later (linked_before l)

  module _ (z : List ℕ) where
    -- chains of places, and of letters

    chain_within : {i j : ℕ} → Chain c z i j → (i < j) × (j < length z)
    chain_within (link h l e) = (h, l)
    chain_within (on h e k) = let (l, m) = chain_within k in (omega arith, m)

    chain_rises : {ns : List ℕ} → Fits c z ns → {i j : ℕ} → Chain c z i j → get_or ns i 0 < get_or ns j 0
    chain_rises f (link h l e) = f.rising _ _ h l e
    chain_rises f (on h e k) =
        let (l, m) = chain_within k in
        omega (arith, f.rising _ _ h (omega arith) e, chain_rises f k)

    chain_leads : {i j : ℕ} → Chain c z i j
        → Leads (placed_alphabet c) (letter z j) (command_of (get_or z i 0)) (rest z (suc i))
    chain_leads {i} {j} (link h l e) =
        rw (rest_split z (suc i) j h l) (leads_behind (placed_alphabet c) (between z (suc i) j) (ends e))
    chain_leads {i} (on {k = k} h e s) =
        rw (rest_split z (suc i) k h (omega (arith, chain_within s)))
        (leads_behind (placed_alphabet c) (between z (suc i) k) (over e (chain_leads s)))

    leads_chain : {y : Placed} {k : ℕ} (n : ℕ) (w : List ℕ) → drop n z ≡ w
        → Leads (placed_alphabet c) y k (placed_from n w) → (i : ℕ) → i < n → k ≡ command_of (get_or z i 0)
        → Chain c z i y.place
    unfolding placed_from
    leads_chain n (b ∷ w) e (ends t) i l s =
        let (h, a, r) = rest_head z n e in
        link l h (rw (← s, a) t)
    leads_chain n (b ∷ w) e (over t k) i l s =
        let (h, a, r) = rest_head z n e in
        on l (rw (← s, a) t) (leads_chain {k = command_of b} (suc n) w r k n (le_refl (suc n)) (ap command_of (sym a)))
    leads_chain n (b ∷ w) e (past k) i l s =
        leads_chain (suc n) w (rest_head z n e).2 k i (omega arith) s
    leads_chain {y = y} {k = k} n [] e x4 i l s = elim x4 [ ]

    chain_stays : {i j : ℕ} → Chain c z i j → StaysBefore c z i j
    chain_stays {i} {j} k t r =
        let (l, h) = chain_within k in
        let s : Linked (placed_alphabet c) (letter z i) (letter z j) (rest z 0) =
        rw (rest_split z 0 i (omega arith) (omega arith))
        (linked_behind (placed_alphabet c) (between z 0 i) (from (chain_leads k))) in
        linked_before (linked_along (placed_alphabet c) (rearranged_~ c r) s)

    module _ (i j : ℕ) where
      -- the letter at j conflicts with what is raised from i
      abbrev reached : Bool
      reached =
          meets (alphabet c) (command_of (get_or z j 0))
          (raised (alphabet c) (command_of (get_or z i 0) ∷ []) (drop (suc i) (take j z)))

      reached_placed : (t : Bool) → reached ≡ t
          → meets (placed_alphabet c) (command_of (get_or z j 0))
          (raised (placed_alphabet c) (command_of (get_or z i 0) ∷ []) (between z (suc i) j)) ≡ t
      reached_placed t e =
          rw (raised_placed (command_of (get_or z i 0) ∷ []) (suc i) (drop (suc i) (take j z)))
          (meets_placed (command_of (get_or z j 0)) _ ∙ e)

      reached_chain : i < j → j < length z → reached ≡ true → Chain c z i j
      reached_chain l h e =
          let k : Leads (placed_alphabet c) (letter z j) (command_of (get_or z i 0)) (rest z (suc i)) =
          rw (rest_split z (suc i) j l h)
          (raised_leads (placed_alphabet c) (letter z j) (rest z (suc j)) (command_of (get_or z i 0)) (between z (suc i) j)
          (reached_placed true e)) in
          leads_chain (suc i) (drop (suc i) z) refl k i (le_refl (suc i)) refl

      -- some arrangement has j before i
      turned : (t : List Placed) → rest z 0 ~ t → Before j i (places_of t) → ¬ StaysBefore c z i j
      turned t w b s = before_once t (distinct_along c w (places_distinct 0 z)) b (s t (~_rearranged c w))

      -- one has, if the letter at j conflicts with nothing raised
      unreached : i < j → j < length z → reached ≡ false → ¬ StaysBefore c z i j
      unreached l h e =
          let p = between z 0 i in
          let q = between z (suc i) j in
          let (u, v, f) =
          raised_brought (placed_alphabet c) (letter z j) (rest z (suc j)) (letter z i) q (reached_placed false e) in
          let t : List Placed = u ++ letter z j ∷ letter z i ∷ v in
          let whole : rest z 0 ≡ p ++ (letter z i ∷ q ++ letter z j ∷ rest z (suc j)) =
          rest_split z 0 i (omega arith) (omega arith)
          ∙ ap (λ w. p ++ letter z i ∷ w) (rest_split z (suc i) j l h) in
          let w : rest z 0 ~ (p ++ t) = rw whole (~_before (placed_alphabet c) p f) in
          turned (p ++ t) w
          (before_behind p t (before_behind u (letter z j ∷ letter z i ∷ v) (now (Memᴰ.head refl))))

      stays_reached : StaysBefore c z i j → reached ≡ true
      stays_reached s = go reached refl
        where
          go : (t : Bool) → reached ≡ t → reached ≡ true
          go true e = e
          go false e = let (l, h) = stays_within c z s in absurd (unreached l h e s)

      pub leads_exact : j < length z → (leads c z i j ≡ true) ↔ StaysBefore c z i j
      unfolding leads
      leads_exact h = (
        λ e. let (l, r) = and_both (ltb i j) reached e in chain_stays (reached_chain (ltb-true i j l) h r),
        λ s. rw (lt-ltb i j (stays_within c z s).0) (stays_reached s),
      )

      pub chain_exact : StaysBefore c z i j ↔ Chain c z i j
      chain_exact = (λ s. let (l, h) = stays_within c z s in reached_chain l h (stays_reached s), chain_stays)

      -- where numbers fit, that of the first letter is the smaller
      pub stays_smaller : (ns : List ℕ) → StaysBefore c z i j → Fits c z ns → get_or ns i 0 < get_or ns j 0
      stays_smaller ns s f = chain_rises f (chain_exact.0 s)
