-- Conjugate cyclically reduced words are joined by cyclings, and words are conjugate exactly if their cores are.
use Rattle.std.specs.Prelude.{ℕ, zero, suc, ◌≤◌, ◌≡◌, length}
use Rattle.std.proofs.Common.{sym, ◌∙◌, ap}
use mathlib.Core.List.{[], ◌∷◌, ◌++◌, append-nil, append_assoc}
use Rattle.std.proofs.Math.ListN.{length-append}
use native.Mathlib.Omega.{arith}
use Rattle.theory_words.specs.Alphabet.{Alphabet, Word}
use Rattle.theory_words.specs.Trace as Trace
use Rattle.theory_words.specs.Trace.{Pick, First}
use Rattle.theory_words.specs.Group as Group
use Rattle.theory_words.specs.Group.{Reduced, undo, conj, keep, drop, then, back}
use Rattle.theory_words.specs.Reduce.{reduce}
use Rattle.theory_words.specs.TraceLaws.{~_refl, ~_sym, pick_front, pick_length}
use Rattle.theory_words.specs.TraceLaws.{Apart, apart_pass, Splits, early, late, pick_split}
use Rattle.theory_words.specs.GroupLaws.{~→≈, ≈_of_≡, ≈_refl, ≈_before, ≈_after, ≈-undo, undo-append, undo_length}
use Rattle.theory_words.specs.GroupLaws.{undo_onto, undo_twice, undo_right, undo_cancel, drop_back, pick_undo}
use Rattle.theory_words.specs.GroupLaws.{conj_nil, conj-append, conj-undo, conj_of, ≈-conj, ≈-conj_by}
use Rattle.theory_words.specs.ReduceLaws.{first?, reduce-≈, reduce_reduced, reduced_~, reduced_least, reduced_undo}
use Rattle.theory_words.specs.ReduceLaws.{reduced_append, reduced_pick}
use Rattle.theory_conjugacy.specs.WordLaws.{apart?, first_search}
use Rattle.theory_conjugacy.specs.Turn.{Turns, same, also, Round}
use Rattle.theory_conjugacy.specs.TurnLaws.{turns_rotate, turns_pick, round_turns, round_reduced}
use Rattle.theory_conjugacy.specs.Core.{lead, core}
use Rattle.theory_conjugacy.specs.CoreLaws.{core_round, core-conj}
use Rattle.theory_conjugacy.specs.Way.{Run, stop, step, nothing, minus, free, Way, goes}
use Rattle.theory_conjugacy.specs.WayLaws.{conj_pick, run_along, run_rotate, run_turns, way_≈, way_run}
use Rattle.theory_conjugacy.specs.WayLaws.{way_centre, way_turns}

module _ (Γ : Alphabet) where
  open Γ use {Letter, inv}

  infix 20 ◌~◌ ◌≈◌
  abbrev ◌~◌ : Word Γ → Word Γ → Type 0
  ◌~◌ = Trace.◌~◌ Γ

  abbrev ◌≈◌ : Word Γ → Word Γ → Type 0
  ◌≈◌ = Group.◌≈◌ Γ

  -- conjugating x by a makes it no longer: a comes first in x, its undo comes last, or it is independent of x
  data Moves (a : Letter) (x : Word Γ) : Type 0 where
    front : {r : Word Γ} → Pick Γ a x r → Moves a x
    end : {r : Word Γ} → Pick Γ a (undo Γ x []) r → Moves a x
    over : Apart Γ a x → Moves a x

  moves? : (a : Letter) (x : Word Γ) → Dec (Moves a x)
  moves? a x = go (first? Γ a x) (first? Γ a (undo Γ x [])) (apart? Γ a x)
    where
      none : ¬ First Γ a x → ¬ First Γ a (undo Γ x []) → ¬ Apart Γ a x → ¬ Moves a x
      none n m l (front {r = r} p) = n (r, p)
      none n m l (end {r = r} p) = m (r, p)
      none n m l (over k) = l k

      go : Dec (First Γ a x) → Dec (First Γ a (undo Γ x [])) → Dec (Apart Γ a x) → Dec (Moves a x)
      go (yes f) e k = yes (front f.1)
      go (no n) (yes f) k = yes (end f.1)
      go (no n) (no m) (yes k) = yes (over k)
      go (no n) (no m) (no l) = no (none n m l)

  -- if no first letter of u moves over x, conjugating x by u only makes it longer
  conj_reduced : (u x : Word Γ) → Reduced Γ u → Reduced Γ x → ((c : Letter) → First Γ c u → ¬ Moves c x)
      → Reduced Γ (undo Γ u [] ++ (x ++ u))
  conj_reduced u x p q n = reduced_append Γ (undo Γ u []) (x ++ u) (reduced_undo Γ u p) inner outer
    where
      inner : Reduced Γ (x ++ u)
      inner = reduced_append Γ x u q p (λ c f g. n c f (end g.1))

      outer : (c : Letter) → First Γ c (x ++ u) → ¬ First Γ c (undo Γ (undo Γ u []) [])
      outer c (r, o) g = met (rw (undo_twice Γ u) at g) (pick_split Γ x u o)
        where
          met : {r : Word Γ} → First Γ c u → Splits Γ c x u r → ⊥
          met f (early s k e) = n c f (front k)
          met f (late s k o e) = n c f (over k)

  -- and then u is empty, since the result can be cycled to x, u, u undone
  conj_stuck : (u x y : Word Γ) → Reduced Γ u → Round Γ x → Round Γ y → conj Γ u x ≈ y
      → ((c : Letter) → First Γ c u → ¬ Moves c x) → length u ≤ 0
  unfolding conj
  conj_stuck u x y p q r e n =
      let z = undo Γ u [] in
      let k : Reduced Γ (z ++ (x ++ u)) = conj_reduced u x p (round_reduced Γ x q) n in
      let d : (z ++ (x ++ u)) ≈ y = then (≈_of_≡ Γ (sym (undo_onto inv u (x ++ u)))) e in
      let f : y ~ (z ++ (x ++ u)) = ~_sym Γ (reduced_~ Γ (z ++ (x ++ u)) y k (round_reduced Γ y r) d) in
      let l : Reduced Γ (x ++ u ++ z) = r (x ++ u ++ z) (also (same f) (turns_rotate Γ z (x ++ u))) in
      let g : (x ++ u ++ z) ≈ x = then (≈_of_≡ Γ (append_assoc x u z))
      (then (≈_before Γ x (undo_right Γ u)) (≈_of_≡ Γ (append-nil x))) in
      omega (
        arith,
        reduced_least Γ x (x ++ u ++ z) l (back g),
        length-append (x ++ u) z,
        length-append x u,
        undo_length inv u [],
      )

  -- a letter's conjugation done before the rest
  conj_after : (a : Letter) (v x : Word Γ) {z y : Word Γ} → conj Γ (a ∷ []) x ≈ z → conj Γ (a ∷ v) x ≈ y
      → conj Γ v z ≈ y
  conj_after a v x d e = then (≈-conj Γ v (back d)) (then (≈_of_≡ Γ (sym (conj-append Γ (a ∷ []) v x))) e)

  -- x ends in the undo of a: conjugating by a moves it to the front
  conj_end : {a : Letter} {x : Word Γ} (s : Word Γ) → x ~ (s ++ inv a ∷ []) → conj Γ (a ∷ []) x ≈ (inv a ∷ s)
  conj_end {a} {x} s e =
      let d : (s ++ inv a ∷ [] ++ a ∷ []) ≈ s = then (≈_of_≡ Γ (append_assoc s (inv a ∷ []) (a ∷ [])))
      (then (≈_before Γ s (drop_back Γ a [])) (≈_of_≡ Γ (append-nil s))) in
      conj_of Γ (a ∷ []) x (then (≈_after Γ (~→≈ Γ e) (a ∷ [])) (then d (back drop)))

  -- and a is x undone, then a forward run
  end_undone : {a : Letter} {x : Word Γ} (s v : Word Γ) → x ~ (s ++ inv a ∷ []) → (a ∷ v) ≈ (undo Γ x [] ++ (s ++ v))
  end_undone {a} {x} s v e =
      let d : undo Γ (s ++ inv a ∷ []) (s ++ v) ≡ a ∷ undo Γ s (s ++ v) =
      undo-append inv s (inv a ∷ []) (s ++ v) ∙ ap (λ (b : Letter). b ∷ undo Γ s (s ++ v)) (Γ.inv-inv a) in
      let f : undo Γ x (s ++ v) ≈ (a ∷ v) = then (≈-undo Γ (~→≈ Γ e) (s ++ v))
      (then (≈_of_≡ Γ d) (keep (undo_cancel Γ s v))) in
      then (back f) (≈_of_≡ Γ (undo_onto inv x (s ++ v)))

  conj_over : (a : Letter) (x : Word Γ) → Apart Γ a x → conj Γ (a ∷ []) x ≈ x
  conj_over a x k = conj_of Γ (a ∷ []) x
      (then (back (~→≈ Γ (apart_pass Γ a x k []))) (keep (≈_of_≡ Γ (append-nil x))))

  way_move : {a : Letter} {x y : Word Γ} (v : Word Γ) → Round Γ x → conj Γ (a ∷ v) x ≈ y → Moves a x
      → ((z : Word Γ) → Round Γ z → conj Γ v z ≈ y → Way Γ z v y) → Way Γ x (a ∷ v) y
  way_move {a} {x} v q e (front {r = r} p) again =
      way_run Γ (step p (stop (~_refl Γ _)))
      (again (r ++ a ∷ []) (round_turns Γ (turns_pick Γ p) q) (conj_after a v x (conj_pick Γ p) e))
  way_move {a} {x} v q e (end {r = r} p) again =
      let s = undo Γ r [] in
      let d : x ~ (s ++ inv a ∷ []) = pick_undo Γ x p in
      let k : Run Γ x s (inv a ∷ s) = run_along Γ d (run_rotate Γ s (inv a ∷ [])) in
      let w = again (inv a ∷ s) (round_turns Γ (run_turns Γ k) q) (conj_after a v x (conj_end s d) e) in
      way_≈ Γ (end_undone s v d) (way_centre Γ (minus nothing) (way_run Γ k w))
  way_move {a} {x} v q e (over k) again =
      way_centre Γ (free k nothing) (again x q (conj_after a v x (conj_over a x k) e))

  way_nil : (u x y : Word Γ) → length u ≤ 0 → Round Γ x → Round Γ y → conj Γ u x ≈ y → Way Γ x u y
  way_nil [] x y h q r e =
      let d : x ≈ y = then (≈_of_≡ Γ (sym (conj_nil Γ x))) e in
      goes nothing (stop (reduced_~ Γ x y (round_reduced Γ x q) (round_reduced Γ y r) d)) (≈_refl Γ [])
  way_nil (a ∷ u) x y h q r e = absurd (omega arith)

  -- by induction on the length of u
  way_reduced : (n : ℕ) (u x y : Word Γ) → length u ≤ n → Reduced Γ u → Round Γ x → Round Γ y → conj Γ u x ≈ y
      → Way Γ x u y
  way_reduced zero u x y h p q r e = way_nil u x y h q r e
  way_reduced (suc n) u x y h p q r e = elim (first_search Γ (λ c. Moves c x) (λ c. moves? c x) u) [
    | yes k ↦
        let a : Letter = k.0 in
        let v : Word Γ = k.1.0 in
        let o : Pick Γ a u v = k.1.1 in
        let d : u ≈ (a ∷ v) = ~→≈ Γ (pick_front Γ o) in
        let s : length v ≤ n = omega (arith, pick_length Γ o) in
        way_≈ Γ d (way_move v q (then (≈-conj_by Γ (back d) x) e) k.2
        (λ z l f. way_reduced n v z y s (reduced_pick Γ o p).1 l r f))
    | no m ↦ way_nil u x y (conj_stuck u x y p q r e (λ c f i. m (c, f, i))) q r e
  ]

  -- what conjugates a cyclically reduced word to another commutes with it, then runs along forward cyclings
  pub conj_way : (u x y : Word Γ) → Round Γ x → Round Γ y → conj Γ u x ≈ y → Way Γ x u y
  conj_way u x y q r e =
      let v = reduce Γ u in
      let d : u ≈ v = back (reduce-≈ Γ u) in
      let f : conj Γ v x ≈ y = then (≈-conj_by Γ (back d) x) e in
      way_≈ Γ d (way_reduced (length v) v x y (omega arith) (reduce_reduced Γ u) q r f)

  pub conj_turns : (u x y : Word Γ) → Round Γ x → Round Γ y → conj Γ u x ≈ y → Turns Γ x y
  conj_turns u x y q r e = way_turns Γ (conj_way u x y q r e)

  -- words are conjugate exactly if cyclings lead from the one's core to the other's
  pub conjugate_cores : (u v w : Word Γ) → conj Γ u v ≈ w → Turns Γ (core Γ v) (core Γ w)
  conjugate_cores u v w e =
      let g = undo Γ (lead Γ v) [] in
      let h = lead Γ w in
      let d : conj Γ u (conj Γ g (core Γ v)) ≈ w =
      then (≈-conj Γ u (back (conj-undo Γ (lead Γ v) (core-conj Γ v)))) e in
      let f : conj Γ (g ++ (u ++ h)) (core Γ v) ≈ core Γ w =
      then (≈_of_≡ Γ (conj-append Γ g (u ++ h) (core Γ v) ∙ conj-append Γ u h (conj Γ g (core Γ v))))
      (then (≈-conj Γ h d) (core-conj Γ w)) in
      conj_turns (g ++ (u ++ h)) (core Γ v) (core Γ w) (core_round Γ v) (core_round Γ w) f

  -- and a word that conjugates the cores gives one that conjugates the words
  pub cores_conjugate : (t v w : Word Γ) → conj Γ t (core Γ v) ≈ core Γ w
      → conj Γ (lead Γ v ++ (t ++ undo Γ (lead Γ w) [])) v ≈ w
  cores_conjugate t v w e =
      let g = undo Γ (lead Γ w) [] in
      then (≈_of_≡ Γ (conj-append Γ (lead Γ v) (t ++ g) v ∙ conj-append Γ t g (conj Γ (lead Γ v) v)))
      (then (≈-conj Γ g (then (≈-conj Γ t (core-conj Γ v)) e)) (back (conj-undo Γ (lead Γ w) (core-conj Γ w))))
