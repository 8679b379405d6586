-- Laws of runs of cyclings and of the words that commute with a word for an evident reason.
use Rattle.std.proofs.Common.{sym, append-nil, append_assoc}
use Rattle.std.specs.Prelude.{[], ◌∷◌, ◌++◌}
use Rattle.theory_words.specs.Alphabet.{Alphabet, Word}
use Rattle.theory_words.specs.Trace as Trace
use Rattle.theory_words.specs.Trace.{Pick, here, next}
use Rattle.theory_words.specs.Group as Group
use Rattle.theory_words.specs.Group.{undo, conj, keep, trade, drop, then, back}
use Rattle.theory_words.specs.TraceLaws.{~_sym, ~_after, pick_front, pick_along, dep_sym}
use Rattle.theory_words.specs.TraceLaws.{Apart, apart_factors, apart_along}
use Rattle.theory_words.specs.GroupLaws.{~→≈, ≈_of_≡, ≈_refl, ≈_before, ≈_after, drop_back, ≈-undo, ≈-undo_onto}
use Rattle.theory_words.specs.GroupLaws.{undo-append, undo_after, conj_of}
use Rattle.theory_conjugacy.specs.WordLaws.{~_of_≡}
use Rattle.theory_conjugacy.specs.Turn.{Turns, same, also}
use Rattle.theory_conjugacy.specs.TurnLaws.{turns_pick}
use Rattle.theory_conjugacy.specs.Way.{Run, stop, step, Centre, nothing, itself, minus, free, Way, goes}

module _ (Γ : Alphabet) where
  open Γ use {Letter, inv}

  infix 20 ◌~◌ ◌≈◌
  abbrev ◌~◌ : Word Γ → Word Γ → Type 0
  ◌~◌ = Trace.◌~◌ Γ

  abbrev ◌≈◌ : Word Γ → Word Γ → Type 0
  ◌≈◌ = Group.◌≈◌ Γ

  -- cycling a letter is conjugating by it
  pub conj_pick : {a : Letter} {x r : Word Γ} → Pick Γ a x r → conj Γ (a ∷ []) x ≈ (r ++ a ∷ [])
  conj_pick {a} {x} p = conj_of Γ (a ∷ []) x (~→≈ Γ (~_after Γ (pick_front Γ p) (a ∷ [])))

  pub run_turns : {x f y : Word Γ} → Run Γ x f y → Turns Γ x y
  run_turns (stop e) = same e
  run_turns (step p k) = also (turns_pick Γ p) (run_turns k)

  pub run_along : {x y f z : Word Γ} → x ~ y → Run Γ y f z → Run Γ x f z
  run_along e (stop d) = stop (next e d)
  run_along e (step {a = a} p k) =
      let (s, q, f) = pick_along Γ (~_sym Γ e) p in
      step q (run_along {x = s ++ a ∷ []} (~_after Γ (~_sym Γ f) (a ∷ [])) k)

  pub run_append : {x f y g z : Word Γ} → Run Γ x f y → Run Γ y g z → Run Γ x (f ++ g) z
  run_append (stop e) l = run_along e l
  run_append (step p k) l = step p (run_append k l)

  -- cycling a whole front
  pub run_rotate : (p q : Word Γ) → Run Γ (p ++ q) p (q ++ p)
  run_rotate [] q = stop (~_of_≡ Γ (sym (append-nil q)))
  run_rotate (a ∷ p) q =
      let k : Run Γ (p ++ (q ++ a ∷ [])) p (q ++ a ∷ [] ++ p) = run_rotate p (q ++ a ∷ []) in
      let l : Run Γ (p ++ q ++ a ∷ []) p (q ++ a ∷ p) = rw (append_assoc p, ← append_assoc q (a ∷ []) p) k in
      step here l

  pub centre_append : {x m n : Word Γ} → Centre Γ x m → Centre Γ x n → Centre Γ x (m ++ n)
  centre_append nothing l = l
  centre_append {x} {n = n} (itself {m = m} k) l = rw (append_assoc x m n) (itself (centre_append k l))
  centre_append {x} {n = n} (minus {m = m} k) l = rw (← undo_after inv x m n) (minus (centre_append k l))
  centre_append (free a k) l = free a (centre_append k l)

  pub centre_along : {x y n : Word Γ} → x ~ y → Centre Γ y n → (m : Word Γ) × Centre Γ x m × (n ≈ m)
  centre_along e nothing = ([], nothing, ≈_refl Γ [])
  centre_along {x} {y} e (itself {m = n} k) =
      let (m, l, d) = centre_along e k in
      (x ++ m, itself l, then (≈_before Γ y d) (≈_after Γ (back (~→≈ Γ e)) m))
  centre_along {x} {y} e (minus {m = n} k) =
      let (m, l, d) = centre_along e k in
      (undo Γ x m, minus l, then (≈-undo_onto Γ y d) (≈-undo Γ (back (~→≈ Γ e)) m))
  centre_along e (free {a = a} i k) =
      let (m, l, d) = centre_along e k in
      (a ∷ m, free (apart_along Γ (~_sym Γ e) a i) l, keep d)

  -- over one cycling
  centre_turn : {a : Letter} {x r n : Word Γ} → Pick Γ a x r → Centre Γ (r ++ a ∷ []) n
      → (m : Word Γ) × Centre Γ x m × ((a ∷ n) ≈ (m ++ a ∷ []))
  centre_turn {a} p nothing = ([], nothing, ≈_refl Γ _)
  centre_turn {a} {x} {r} p (itself {m = n} k) =
      let (m, l, e) = centre_turn p k in
      let d : (a ∷ (r ++ a ∷ [] ++ n)) ≈ ((a ∷ r) ++ (a ∷ n)) = keep (≈_of_≡ Γ (append_assoc r (a ∷ []) n)) in
      let f : ((a ∷ r) ++ (a ∷ n)) ≈ (x ++ (a ∷ n)) = ≈_after Γ (back (~→≈ Γ (pick_front Γ p))) (a ∷ n) in
      (x ++ m, itself l, then d (then f (then (≈_before Γ x e) (≈_of_≡ Γ (sym (append_assoc x m (a ∷ [])))))))
  centre_turn {a} {x} {r} p (minus {m = n} k) =
      let (m, l, e) = centre_turn p k in
      let d : undo Γ x (a ∷ n) ≈ undo Γ r n =
      then (≈-undo Γ (~→≈ Γ (pick_front Γ p)) (a ∷ n)) (≈-undo_onto Γ r (drop_back Γ a n)) in
      let f : (a ∷ undo Γ (r ++ a ∷ []) n) ≈ undo Γ r n = then (keep (≈_of_≡ Γ (undo-append inv r (a ∷ []) n))) drop in
      (undo Γ x m, minus l, then f (then (back d) (then (≈-undo_onto Γ x e) (≈_of_≡ Γ (undo_after inv x m (a ∷ []))))))
  centre_turn {a} {x} {r} p (free {a = b} {m = n} i k) =
      let (m, l, e) = centre_turn p k in
      let (o, q) = apart_factors Γ b r (a ∷ []) i in
      let j : Apart Γ b x = apart_along Γ (~_sym Γ (pick_front Γ p)) b (q.0, o) in
      (b ∷ m, free j l, then (trade (dep_sym Γ {a = b} {b = a} q.0)) (keep e))

  pub centre_run : {x f y n : Word Γ} → Run Γ x f y → Centre Γ y n → (m : Word Γ) × Centre Γ x m × ((f ++ n) ≈ (m ++ f))
  centre_run (stop d) k =
      let (m, l, e) = centre_along d k in
      (m, l, then e (≈_of_≡ Γ (sym (append-nil m))))
  centre_run (step {a = a} {f = f} p k) l =
      let (n, o, e) = centre_run k l in
      let (m, q, d) = centre_turn p o in
      (m, q, then (keep e) (then (≈_after Γ d f) (≈_of_≡ Γ (append_assoc m (a ∷ []) f))))

  pub way_≈ : {x u v y : Word Γ} → u ≈ v → Way Γ x v y → Way Γ x u y
  way_≈ e (goes k l d) = goes k l (then e d)

  pub way_run : {x f y u z : Word Γ} → Run Γ x f y → Way Γ y u z → Way Γ x (f ++ u) z
  way_run {f = f} k (goes {m = n} {f = g} l o e) =
      let (m, p, d) = centre_run k l in
      goes p (run_append k o)
      (then (≈_before Γ f e)
      (then (≈_of_≡ Γ (sym (append_assoc f n g)))
      (then (≈_after Γ d g) (≈_of_≡ Γ (append_assoc m f g)))))

  pub way_centre : {x m u y : Word Γ} → Centre Γ x m → Way Γ x u y → Way Γ x (m ++ u) y
  way_centre {m = m} k (goes {m = n} {f = g} l o e) =
      goes (centre_append k l) o (then (≈_before Γ m e) (≈_of_≡ Γ (sym (append_assoc m n g))))

  pub way_turns : {x u y : Word Γ} → Way Γ x u y → Turns Γ x y
  way_turns (goes k l e) = run_turns l
