-- Laws of rings. A word leads to a ring by cyclings of letters other than the apex; the ring is one, whatever is cycled
-- first, and swaps and any cyclings of the word lead to a rotation of it.
use Rattle.std.specs.Prelude.{ℕ, ◌≤◌, ◌≡◌, refl, false, [], ◌∷◌, ◌++◌, length, take}
use Rattle.std.proofs.Common.{le_of_eq, arith, sym, ◌∙◌, ap, subst, append-nil, append_assoc}
use Rattle.std.proofs.Math.Decide.{ℕ_discrete}
use Rattle.std.proofs.Math.Option.{some}
use Rattle.theory_words.specs.Alphabet.{Alphabet, Word, dep}
use Rattle.theory_words.specs.All.{All, all_append, all_left, all_right, all_along, all_pick}
use Rattle.theory_words.specs.Trace as Trace
use Rattle.theory_words.specs.Trace.{Pick, here, done, cons, swap, next}
use Rattle.theory_words.specs.TraceLaws.{dep_sym, ~_refl, ~_sym, ~_before, ~_after, first_eq}
use Rattle.theory_words.specs.TraceLaws.{pick_along, pick_front, pick_same, pick_after, pick_diamond}
use Rattle.theory_words.specs.Group as Group
use Rattle.theory_words.specs.Group.{undo, conj, then, back}
use Rattle.theory_words.specs.GroupLaws.{~→≈, ≈_of_≡, ≈-conj, conj_nil, conj-append, conj-undo}
use Rattle.theory_words.specs.Normal.{Ordered, lex}
use Rattle.theory_words.specs.NormalLaws.{ordered_unique, ordered_prefix, ordered_suffix, ordered_join, lex-~}
use Rattle.theory_words.specs.NormalLaws.{lex_ordered}
use Rattle.theory_conjugacy.specs.Turn.{Turns, same, turn, also}
use Rattle.theory_conjugacy.specs.TurnLaws.{turns_pick}
use Rattle.theory_conjugacy.specs.WordLaws.{~_of_≡}
use Rattle.theory_conjugacy.specs.Settle.{Rounded, quiet, round, cycled, ring}
use Rattle.theory_conjugacy.specs.SettleLaws.{Pyramid, pyramid_along, split_~, split_free}
use Rattle.theory_conjugacy.specs.SettleLaws.{split_pyramid, rounded_settled}
use Rattle.theory_conjugacy.specs.Rotation.{rotation, Rotated, stay}
use Rattle.theory_conjugacy.specs.RotationLaws.{rotated_trans, rotated_halves, cycle_conj, rotation-conj}

module _ (Γ : Alphabet) (m : ℕ) where
  open Γ use {Letter, cmd}

  infix 20 ◌~◌ ◌≈◌
  abbrev ◌~◌ : Word Γ → Word Γ → Type 0
  ◌~◌ = Trace.◌~◌ Γ

  abbrev ◌≈◌ : Word Γ → Word Γ → Type 0
  ◌≈◌ = Group.◌≈◌ Γ

  -- no letter's command is above the apex
  abbrev pub Under : Word Γ → Type 0
  Under w = All (λ a. cmd a ≤ m) w

  -- no letter is an apex letter
  abbrev pub Free : Word Γ → Type 0
  Free w = All (λ a. ¬ (cmd a ≡ m)) w

  -- cycling the letters g, none of them an apex letter, leads from x to the ring r
  pub data Leads : Word Γ → Word Γ → Word Γ → Type 0 where
    rest : {x r : Word Γ} → Pyramid Γ m x → x ~ r → Ordered Γ r → Under r → Leads x [] r
    step : {a : Letter} {x z g r : Word Γ} → ¬ (cmd a ≡ m) → Pick Γ a x z → Leads (z ++ a ∷ []) g r
        → Leads x (a ∷ g) r

  -- the last two letters of a word, in either order
  ends_swap : {a b : Letter} (s : Word Γ) → dep Γ a b ≡ false
      → ((s ++ a ∷ []) ++ b ∷ []) ~ ((s ++ b ∷ []) ++ a ∷ [])
  ends_swap {a} {b} s d =
      next (~_of_≡ Γ (append_assoc s (a ∷ []) (b ∷ [])))
      (next (~_before Γ s (swap d)) (~_of_≡ Γ (sym (append_assoc s (b ∷ []) (a ∷ [])))))

  pub leads_along : {x y g r : Word Γ} → x ~ y → Leads x g r → Leads y g r
  leads_along e (rest h f o u) = rest (pyramid_along Γ m e h) (next (~_sym Γ e) f) o u
  leads_along e (step {a = a} n p l) =
      let (s, q, f) = pick_along Γ e p in
      step n q (leads_along (~_after Γ f (a ∷ [])) l)

  -- b cycled before a, which is independent of it, instead of after
  step_past : {a b : Letter} {y s g r : Word Γ} → dep Γ a b ≡ false → ¬ (cmd b ≡ m) → Pick Γ b y s
      → Leads ((s ++ b ∷ []) ++ a ∷ []) g r → Leads (y ++ a ∷ []) (b ∷ g) r
  step_past {a} {b} {s = s} d n p l =
      step n (pick_after Γ p (a ∷ [])) (leads_along (ends_swap s (dep_sym Γ {a = a} {b = b} d)) l)

  -- any letter but an apex letter may be cycled first
  pub leads_after : {a : Letter} {x y g r : Word Γ} → Leads x g r → ¬ (cmd a ≡ m) → Pick Γ a x y
      → (h : Word Γ) × Leads (y ++ a ∷ []) h r × (g ~ (a ∷ h))
  leads_after {a} {y = y} (rest h f o u) n p = absurd (n (h a (y, p)))
  leads_after {a} {x} {y} {r = r} (step {a = b} {z = z} {g = g} k q l) n p =
      go (Γ.same a b) (λ s o. leads_after {y = s} l n o)
    where
      go : Dec (a ≡ b)
          → ((s : Word Γ) → Pick Γ a (z ++ b ∷ []) s → (h : Word Γ) × Leads (s ++ a ∷ []) h r × (g ~ (a ∷ h)))
          → (h : Word Γ) × Leads (y ++ a ∷ []) h r × ((b ∷ g) ~ (a ∷ h))
      go (yes e) ih =
          let f : y ≡ z = pick_same Γ e p q in
          (g, rw (e, f) l, ~_of_≡ Γ (ap (λ (c : Letter). c ∷ g) (sym e)))
      go (no e) ih =
          let (d, (s, i, j)) = pick_diamond Γ e p q in
          let (h, l', f) = ih (s ++ b ∷ []) (pick_after Γ j (b ∷ [])) in
          (b ∷ h, step_past d k i l', next (cons f) (swap (dep_sym Γ {a = a} {b = b} d)))

  -- the ring is one, and so are the letters cycled, up to swaps
  pub leads_unique : {x g h r t : Word Γ} → Leads x g r → Leads x h t → (r ≡ t) × (g ~ h)
  leads_unique {r = r} {t = t} (rest h f o u) (rest k e p v) =
      (ordered_unique Γ r t (next (~_sym Γ f) e) o p, done)
  leads_unique (rest h f o u) (step {a = a} {z = z} n p l) = absurd (n (h a (z, p)))
  leads_unique (step n p l) k =
      let (h, k', f) = leads_after k n p in
      let (e, i) = leads_unique l k' in
      (e, next (cons i) (~_sym Γ f))

  -- a first half that is free of the apex cycled to the end
  pub leads_cycle : (u q : Word Γ) {g r : Word Γ} → Free u → Leads (q ++ u) g r → Leads (u ++ q) (u ++ g) r
  leads_cycle [] q {g} {r} h l = rw (append-nil q) at l
  leads_cycle (a ∷ u) q {g} {r} h l =
      let e : (q ++ a ∷ []) ++ u ≡ q ++ a ∷ u = append_assoc q (a ∷ []) u in
      let f : u ++ (q ++ a ∷ []) ≡ (u ++ q) ++ a ∷ [] = sym (append_assoc u q (a ∷ [])) in
      let k : Leads ((q ++ a ∷ []) ++ u) g r = rw e l in
      let j : Leads (u ++ (q ++ a ∷ [])) (u ++ g) r = leads_cycle u (q ++ a ∷ []) h.1 k in
      step h.0 here (rw f at j)

  -- rings

  -- the manual's ring: settled, and in normal form
  pub record Ring (r : Word Γ) : Type 0 where
    pub pyramid : Pyramid Γ m r
    pub ordered : Ordered Γ r
    pub under : Under r

  pub leads_ring : {x g r : Word Γ} → Leads x g r → Ring r
  leads_ring (rest h f o u) = record { pyramid = pyramid_along Γ m f h; ordered = o; under = u }
  leads_ring (step n p l) = leads_ring l

  pub ring_leads : {r : Word Γ} → Ring r → Leads r [] r
  ring_leads {r} k = rest k.pyramid (~_refl Γ r) k.ordered k.under

  -- a ring starts with an apex letter
  pub ring_head : {a : Letter} {r : Word Γ} → Ring (a ∷ r) → cmd a ≡ m
  ring_head {a} {r} k = k.pyramid a (r, here)

  -- an ordered word that starts with an apex letter is a ring
  pub ordered_ring : (a : Letter) (w : Word Γ) → cmd a ≡ m → Ordered Γ (a ∷ w) → Under (a ∷ w) → Ring (a ∷ w)
  ordered_ring a w e o u = record { pyramid = top; ordered = o; under = u }
    where
      top : Pyramid Γ m (a ∷ w)
      top d (r, p) = let h : cmd d ≤ m = (all_pick Γ (λ b. cmd b ≤ m) p u).0 in omega (arith, o.0 d (r, p))

  -- a rotation of a ring that starts at an apex letter is a ring
  pub ring_rotate : (p : Word Γ) (c : Letter) (q : Word Γ) → cmd c ≡ m → Ring (p ++ c ∷ q) → Ring (c ∷ q ++ p)
  ring_rotate p c q e k = ordered_ring c (q ++ p) e
      (ordered_join Γ m (c ∷ q) p (ordered_suffix Γ p (c ∷ q) k.ordered) (ordered_prefix Γ p (c ∷ q) k.ordered)
      right (λ d f. le_of_eq (sym (k.pyramid d (f.0 ++ c ∷ q, pick_after Γ f.1 (c ∷ q))))))
      (all_append (λ a. cmd a ≤ m) (c ∷ q) p right (all_left (λ a. cmd a ≤ m) p (c ∷ q) k.under))
    where
      right : Under (c ∷ q)
      right = all_right (λ a. cmd a ≤ m) p (c ∷ q) k.under

  -- an apex letter cycled

  -- a word up to its first apex letter: none is there, or the rest starts with it
  pub data Cut (w : Word Γ) : Type 0 where
    whole : Free w → Cut w
    cut : (u : Word Γ) (c : Letter) (q : Word Γ) → Free u → cmd c ≡ m → w ≡ u ++ c ∷ q → Cut w

  pub cut_at : (w : Word Γ) → Cut w
  cut_at [] = whole tt
  cut_at (a ∷ w) = go (ℕ_discrete (cmd a) m) (cut_at w)
    where
      go : Dec (cmd a ≡ m) → Cut w → Cut (a ∷ w)
      go (yes e) k = cut [] a w tt e refl
      go (no n) (whole h) = whole (n, h)
      go (no n) (cut u c q h e f) = cut (a ∷ u) c q (n, h) e (ap (λ (x : Word Γ). a ∷ x) f)

  -- a ring's first letter cycled: what follows it up to the next apex letter is cycled after it
  pub ring_turn : (a : Letter) (w : Word Γ) → Ring (a ∷ w)
      → (g : Word Γ) × (t : Word Γ) × Leads (w ++ a ∷ []) g t × Rotated Γ (a ∷ w) t
  ring_turn a w k = go (cut_at w)
    where
      go : Cut w → (g : Word Γ) × (t : Word Γ) × Leads (w ++ a ∷ []) g t × Rotated Γ (a ∷ w) t
      go (whole h) = (w ++ [], a ∷ w, leads_cycle w (a ∷ []) h (ring_leads k), stay)
      go (cut u c q h e f) =
          let k' : Ring (c ∷ q ++ a ∷ u) = ring_rotate (a ∷ u) c q e (subst (λ (x : Word Γ). Ring (a ∷ x)) f k) in
          let i : (c ∷ q ++ a ∷ []) ++ u ≡ c ∷ q ++ a ∷ u = append_assoc (c ∷ q) (a ∷ []) u in
          let j : (u ++ c ∷ q) ++ a ∷ [] ≡ u ++ (c ∷ q ++ a ∷ []) = append_assoc u (c ∷ q) (a ∷ []) in
          let l : Leads ((c ∷ q ++ a ∷ []) ++ u) [] (c ∷ q ++ a ∷ u) = rw i (ring_leads k') in
          let o : Leads (u ++ (c ∷ q ++ a ∷ [])) (u ++ []) (c ∷ q ++ a ∷ u) = leads_cycle u (c ∷ q ++ a ∷ []) h l in
          (u ++ [], c ∷ q ++ a ∷ u, rw (f, j) o, rw f (rotated_halves Γ (a ∷ u) (c ∷ q)))

  -- an apex letter that can come first in a ring is its first letter
  ring_pick : {a : Letter} {r s : Word Γ} → Ring r → cmd a ≡ m → Pick Γ a r s → r ≡ a ∷ s
  ring_pick {r = []} k e p = elim p [ ]
  ring_pick {a} {r = c ∷ r} {s} k e p =
      let f : c ≡ a = first_eq Γ {w = c ∷ r} (r, here) (s, p) (ring_head k ∙ sym e) in
      let g : r ≡ s = pick_same Γ f here p in
      cc

  pub leads_turn : {a : Letter} {x y g r : Word Γ} → Leads x g r → cmd a ≡ m → Pick Γ a x y
      → (h : Word Γ) × (t : Word Γ) × Leads (y ++ a ∷ []) h t × Rotated Γ r t
  leads_turn {a} {y = y} (step {a = b} {z = z} n q l) k p =
      let e : ¬ (a ≡ b) = λ f. n (ap cmd (sym f) ∙ k) in
      let (d, (s, i, j)) = pick_diamond Γ e p q in
      let (h, t, l', f) = leads_turn l k (pick_after Γ j (b ∷ [])) in
      (b ∷ h, t, step_past d n i l', f)
  leads_turn {a} {x} {y} {r = r} (rest h f o u) k p =
      let (s, q, e) = pick_along Γ f p in
      let c : Ring r = leads_ring (rest h f o u) in
      let i : r ≡ a ∷ s = ring_pick c k q in
      let (g, t, l, j) = ring_turn a s (subst Ring i c) in
      (g, t, leads_along (~_after Γ (~_sym Γ e) (a ∷ [])) l, subst (λ (v : Word Γ). Rotated Γ v t) (sym i) j)

  -- swaps and cyclings lead to a rotation of the ring: only the first word need settle
  pub leads_turns : {x y g r : Word Γ} → Turns Γ x y → Leads x g r
      → (h : Word Γ) × (t : Word Γ) × Leads y h t × Rotated Γ r t
  leads_turns {g = g} {r = r} (same e) l = (g, r, leads_along e l, stay)
  leads_turns {r = r} (turn {a = a} {z = z}) l = go (ℕ_discrete (cmd a) m)
    where
      go : Dec (cmd a ≡ m) → (h : Word Γ) × (t : Word Γ) × Leads (z ++ a ∷ []) h t × Rotated Γ r t
      go (yes e) = leads_turn l e here
      go (no n) = let (h, k, f) = leads_after l n here in (h, r, k, stay)
  leads_turns (also s t) l =
      let (g, r, k, i) = leads_turns s l in
      let (h, o, j, e) = leads_turns t k in
      (h, o, j, rotated_trans Γ i e)

  -- the rings of words that swaps and cyclings lead between
  pub turns_rotated : {x y g h r t : Word Γ} → Turns Γ x y → Leads x g r → Leads y h t → Rotated Γ r t
  turns_rotated {r = r} s k l =
      let (g, o, j, e) = leads_turns s k in
      subst (Rotated Γ r) (leads_unique j l).0 e

  -- settling

  pub rounded_leads : {n : ℕ} {w g r : Word Γ} → Rounded Γ m n w g r → Under w → Leads w g (lex Γ (length r) r)
  rounded_leads {w = w} (quiet s) u =
      let e : w ~ lex Γ (length w) w = ~_sym Γ (lex-~ Γ w) in
      let h : Pyramid Γ m w = pyramid_along Γ m (~_sym Γ (split_~ Γ m s)) (split_pyramid Γ m s) in
      rest h e (lex_ordered Γ w) (all_along Γ (λ a. cmd a ≤ m) e u)
  rounded_leads {w = w} (round {b = b} {p = p} {q = q} s o) u =
      let P : Letter → Type 0 = λ a. cmd a ≤ m in
      let v : Under ((b ∷ p) ++ q) = all_along Γ P (split_~ Γ m s) u in
      let v' : Under (q ++ b ∷ p) = all_append P q (b ∷ p) (all_right P (b ∷ p) q v) (all_left P (b ∷ p) q v) in
      leads_along (~_sym Γ (split_~ Γ m s)) (leads_cycle (b ∷ p) q (split_free Γ m s) (rounded_leads o v'))

  -- the ring that `settled` computes, given rounds enough
  pub ring_of : {n : ℕ} {w g r : Word Γ} → Rounded Γ m n w g r → Under w → (k : ℕ) → n ≤ k
      → Leads w (cycled Γ m k w) (ring Γ m k w)
  unfolding ring
  ring_of o u k h = let (e, f) = rounded_settled Γ m o k h in rw (e, f) (rounded_leads o u)

  -- lead-ins

  pub leads_conj : {x g r : Word Γ} → Leads x g r → conj Γ g x ≈ r
  leads_conj {x} (rest h f o u) = then (≈_of_≡ Γ (conj_nil Γ x)) (~→≈ Γ f)
  leads_conj {x} (step {a = a} {z = z} {g = g} n p l) =
      then (≈_of_≡ Γ (conj-append Γ (a ∷ []) g x))
      (then (≈-conj Γ g (cycle_conj Γ (a ∷ []) z (~→≈ Γ (pick_front Γ p)))) (leads_conj l))

  pub leads_to_turns : {x g r : Word Γ} → Leads x g r → Turns Γ x r
  leads_to_turns (rest h f o u) = same f
  leads_to_turns (step n p l) = also (turns_pick Γ p) (leads_to_turns l)

  -- two words whose rings are rotations of one another are joined: by the letters cycled of the first, the letters
  -- before the starting place, and the letters cycled of the second undone
  pub rings_join : {x y g h r t : Word Γ} {i : ℕ} → Leads x g r → Leads y h t → rotation Γ r t ≡ some i
      → conj Γ (g ++ (take i r ++ undo Γ h [])) x ≈ y
  rings_join {x} {y} {g} {h} {r} {t} {i} k l e =
      then (≈_of_≡ Γ (conj-append Γ g (take i r ++ undo Γ h []) x))
      (then (≈-conj Γ (take i r ++ undo Γ h []) (leads_conj k))
      (then (≈_of_≡ Γ (conj-append Γ (take i r) (undo Γ h []) r))
      (then (≈-conj Γ (undo Γ h []) (rotation-conj Γ r t e)) (back (conj-undo Γ h (leads_conj l))))))
