-- Laws of the rounds of settling: in a connected word the commands that occur in p0 become fewer with every round, so a
-- word with s commands is settled after at most s - 1 rounds. And how many letters the rounds cycle.
use Rattle.std.specs.Prelude.{ℕ, zero, suc, ◌+◌, ◌*◌, ◌≤◌, ◌<◌, ◌≡◌, Bool, true, false, ◌⊎◌, List, [], ◌∷◌, ◌++◌, length}
use Rattle.std.proofs.Common.{suc-mul, arith, sym, ◌∙◌, ap, subst, true≢false, inl, inr, length-append}
use Rattle.std.proofs.Math.Path.{refl}
use Rattle.theory_words.specs.Alphabet.{Alphabet, Word}
use Rattle.theory_words.specs.Trace as Trace
use Rattle.theory_words.specs.TraceLaws.{~_sym, ~-length}
use Rattle.theory_conjugacy.specs.Part.{commands, apexes, part}
use Rattle.theory_conjugacy.specs.Settle.{split, settled, Split, stop, up, low, Rounded, quiet, round}
use Rattle.theory_conjugacy.specs.SettleLaws.{split_~, split_splits, split_unique, split_free, split_apart}
use Rattle.theory_conjugacy.specs.SettleLaws.{split_upper, rounded_settled}
use Rattle.theory_conjugacy.specs.AscendingLaws.{◌∈◌}
use Rattle.theory_conjugacy.specs.CommandLaws.{Occurs, now, later, occurs_nil, occurs_left, occurs_right}
use Rattle.theory_conjugacy.specs.CommandLaws.{occurs_split, occurs_along, occurs_swap, occurs?, occurs_apart}
use Rattle.theory_conjugacy.specs.CommandLaws.{occurs_length, all_occurs, Covers, covers_shorter}
use Rattle.theory_conjugacy.specs.PartLaws.{Connected, Independent, part_connected, apex_occurs}

module _ (Γ : Alphabet) where
  open Γ use {Letter, cmd, conf}

  -- whether a command occurs, as a test
  occurs_test : {k : ℕ} {w : Word Γ} → Dec (Occurs Γ k w) → Bool
  occurs_test (yes o) = true
  occurs_test (no n) = false

  occurs_true : {k : ℕ} {w : Word Γ} (d : Dec (Occurs Γ k w)) → occurs_test d ≡ true → Occurs Γ k w
  unfolding occurs_test
  occurs_true (yes o) e = o
  occurs_true (no n) e = absurd (true≢false (sym e))

  occurs_false : {k : ℕ} {w : Word Γ} (d : Dec (Occurs Γ k w)) → occurs_test d ≡ false → ¬ Occurs Γ k w
  unfolding occurs_test
  occurs_false (yes o) e = absurd (true≢false e)
  occurs_false (no n) e = n

  test_true : {k : ℕ} {w : Word Γ} (d : Dec (Occurs Γ k w)) → Occurs Γ k w → occurs_test d ≡ true
  unfolding occurs_test
  test_true (yes o) p = refl
  test_true (no n) p = absurd (n p)

  test_false : {k : ℕ} {w : Word Γ} (d : Dec (Occurs Γ k w)) → ¬ Occurs Γ k w → occurs_test d ≡ false
  unfolding occurs_test
  test_false (yes o) m = absurd (m o)
  test_false (no n) m = refl

  -- being connected is a matter of the commands that occur
  pub connected_same : (v w : Word Γ) → Covers Γ w v → Covers Γ v w → Connected Γ v → Connected Γ w
  connected_same v w f g h t i j o p x y =
      let (k, l, ok, ol, c, a, b) = h t i j (g i o) (g j p) x y in
      (k, l, f k ok, f l ol, c, a, b)

  -- some command of a part of a connected word conflicts with one of the rest
  pub connected_cut : (w p q : Word Γ) → Connected Γ w → Trace.◌~◌ Γ w (p ++ q) → (i j : ℕ) → Occurs Γ i p
      → Occurs Γ j q → ¬ Occurs Γ j p → (k : ℕ) × (l : ℕ) × Occurs Γ k p × Occurs Γ l q × (conf k l ≡ true)
  connected_cut w p q h e i j o s n =
      let back = ~_sym Γ e in
      let (k, l, ok, ol, c, x, y) = h (λ k. occurs_test (occurs? Γ k p)) i j
      (occurs_along Γ back (occurs_left Γ q o)) (occurs_along Γ back (occurs_right Γ p s))
      (test_true (occurs? Γ i p) o) (test_false (occurs? Γ j p) n) in (
        k,
        l,
        occurs_true (occurs? Γ k p) x,
        other l (occurs_false (occurs? Γ l p) y) (occurs_split Γ p (occurs_along Γ e ol)),
        c,
      )
    where
      other : (l : ℕ) → ¬ Occurs Γ l p → Occurs Γ l p ⊎ Occurs Γ l q → Occurs Γ l q
      other l m (inl x) = absurd (m x)
      other l m (inr x) = x

module _ (Γ : Alphabet) (m : ℕ) where
  open Γ use {Letter, cmd, conf}

  -- what stays low behind a word that is raised whole
  split_behind : {R : List ℕ} (q : Word Γ) {t p x y : Word Γ} → Split Γ m R q [] t → Split Γ m R (q ++ p) x y
      → Covers Γ p x × Independent Γ x q
  split_behind [] {p = p} {x = x} {y = y} stop s =
      ((λ k o. occurs_along Γ (~_sym Γ (split_~ Γ m s)) (occurs_left Γ y o)), (λ i j o u. absurd (occurs_nil Γ u)))
  split_behind {R = R} (b ∷ q) {x = x} (up h k) (up i s) =
      let (f, g) = split_behind {R = cmd b ∷ R} q k s in
      (f, (λ i j o u. go i j o (occurs_apart Γ b x (split_apart Γ m b s) i o) (g i j o) u))
    where
      go : (i j : ℕ) → Occurs Γ i x → conf (cmd b) i ≡ false → (Occurs Γ j q → conf i j ≡ false) → Occurs Γ j (b ∷ q)
          → conf i j ≡ false
      go i j o a g (now e) = Γ.conf_sym i j ∙ ap (λ l. conf l i) e ∙ a
      go i j o a g (later u) = g u
  split_behind (b ∷ q) (up h k) (low i s) = absurd (true≢false (sym h ∙ i))

  -- the apex is in the second half
  split_apex : {w p q : Word Γ} → Split Γ m [] w p q → ¬ Occurs Γ m p
  split_apex {p = p} s o = all_occurs Γ (λ k. ¬ (k ≡ m)) p (split_free Γ m s) m o refl

  apex_behind : {w p q : Word Γ} → Split Γ m [] w p q → Occurs Γ m w → Occurs Γ m q
  apex_behind {p = p} {q = q} s o = go (occurs_split Γ p (occurs_along Γ (split_~ Γ m s) o))
    where
      go : Occurs Γ m p ⊎ Occurs Γ m q → Occurs Γ m q
      go (inl u) = absurd (split_apex s u)
      go (inr u) = u

  -- the next round has fewer commands in its first half
  pub split_fewer : {w p q x y : Word Γ} → Connected Γ w → Occurs Γ m w → Split Γ m [] w p q → Split Γ m [] (q ++ p) x y
      → {i : ℕ} → Occurs Γ i p → length (commands Γ x) < length (commands Γ p)
  split_fewer {w} {p} {q} {x} {y} h a s t {i} o =
      let (k, l, ok, ol, c) = connected_cut Γ w p q h (split_~ Γ m s) i m o (apex_behind s a) (split_apex s) in
      let (f, g) = split_behind q (split_upper Γ m s) t in
      covers_shorter Γ x p f k ok (λ u. true≢false (sym c ∙ g k l u ol))

  -- what a round keeps
  covers_round : {w p q : Word Γ} → Split Γ m [] w p q → Covers Γ (q ++ p) w × Covers Γ w (q ++ p)
  covers_round {p = p} {q = q} s = (
    λ k o. occurs_swap Γ p q (occurs_along Γ (split_~ Γ m s) o),
    λ k o. occurs_along Γ (~_sym Γ (split_~ Γ m s)) (occurs_swap Γ q p o),
  )

  connected_round : {w p q : Word Γ} → Split Γ m [] w p q → Connected Γ w → Connected Γ (q ++ p)
  connected_round {w} {p} {q} s h = let (f, g) = covers_round s in connected_same Γ w (q ++ p) f g h

  -- no more rounds than commands in the first half
  rounded_few : {n : ℕ} {w g r : Word Γ} → Connected Γ w → Occurs Γ m w → Rounded Γ m n w g r
      → n ≤ length (commands Γ (split Γ m [] w).0)
  rounded_few h a (quiet t) = omega arith
  rounded_few h a (round {n = n} {b = b} {p = p} {q = q} t o) =
      let i = rounded_few (connected_round t h) ((covers_round t).0 m a) o in
      let f = split_fewer h a t (split_splits Γ m [] (q ++ b ∷ p)) (now refl) in
      let l : suc n ≤ length (commands Γ (b ∷ p)) = omega arith in
      rw (split_unique Γ m t).0 l

  first_fewer : {w p q : Word Γ} → Occurs Γ m w → Split Γ m [] w p q → length (commands Γ p) < length (commands Γ w)
  first_fewer {w} {p} {q} a s = covers_shorter Γ p w
      (λ k o. occurs_along Γ (~_sym Γ (split_~ Γ m s)) (occurs_left Γ q o)) m a (split_apex s)

  -- a connected word with s commands is settled after at most s - 1 rounds
  pub rounded_bound : {n : ℕ} {w g r : Word Γ} → Connected Γ w → Occurs Γ m w → Rounded Γ m n w g r
      → n < length (commands Γ w)
  rounded_bound {w = w} h a o = omega (arith, rounded_few h a o, first_fewer a (split_splits Γ m [] w))

  abbrev Ends : Word Γ → Type 0
  Ends w = (n : ℕ) × (g : Word Γ) × (r : Word Γ) × Rounded Γ m n w g r

  ends_step : {w : Word Γ} (p q : Word Γ) → Split Γ m [] w p q → ((i : ℕ) → Occurs Γ i p → Ends (q ++ p)) → Ends w
  ends_step {w} [] q s f = (zero, [], w, quiet s)
  ends_step (b ∷ p) q s f = let (n, g, r, o) = f (cmd b) (now refl) in (suc n, b ∷ p ++ g, r, round s o)

  connected_ends : (k : ℕ) (w : Word Γ) → Connected Γ w → Occurs Γ m w
      → length (commands Γ (split Γ m [] w).0) ≤ k → Ends w
  connected_ends zero w h a f = let (p, q) = split Γ m [] w in ends_step p q (split_splits Γ m [] w)
      (λ i o. absurd (omega (arith, covers_shorter Γ [] p (λ k u. absurd (occurs_nil Γ u)) i o (occurs_nil Γ))))
  connected_ends (suc k) w h a f = let (p, q) = split Γ m [] w in let s = split_splits Γ m [] w in ends_step p q s
      (λ i o. connected_ends k (q ++ p) (connected_round s h) ((covers_round s).0 m a)
      (omega (arith, split_fewer h a s (split_splits Γ m [] (q ++ p)) o)))

  -- and it is settled
  pub connected_rounded : (w : Word Γ) → Connected Γ w → Occurs Γ m w
      → (n : ℕ) × (g : Word Γ) × (r : Word Γ) × Rounded Γ m n w g r × (n < length (commands Γ w))
  connected_rounded w h a =
      let (n, g, r, o) = connected_ends (length (commands Γ w)) w h a
      (omega (arith, first_fewer a (split_splits Γ m [] w))) in
      (n, g, r, o, rounded_bound h a o)

  rounded_quiet : {n : ℕ} {w g r : Word Γ} → Rounded Γ m n w g r → (split Γ m [] r).0 ≡ []
  rounded_quiet (quiet s) = (split_unique Γ m s).0
  rounded_quiet (round s o) = rounded_quiet o

  -- so k rounds leave nothing to cycle where no more than k + 1 commands occur
  settled_quiet : (w : Word Γ) → Connected Γ w → Occurs Γ m w → (k : ℕ) → length (commands Γ w) ≤ suc k
      → (split Γ m [] (settled Γ m k w)).0 ≡ []
  settled_quiet w h a k l =
      let (n, g, r, o, f) = connected_rounded w h a in
      rw (rounded_settled Γ m o k (omega arith)).0 (rounded_quiet o)

  -- so a part is settled after as many rounds as it has commands
  pub part_quiet : (x : Word Γ) → m ∈ apexes Γ x → (k : ℕ) → length (commands Γ (part Γ m x)) ≤ k
      → (split Γ m [] (settled Γ m k (part Γ m x))).0 ≡ []
  part_quiet x i k l = settled_quiet (part Γ m x) (part_connected Γ m x) (apex_occurs Γ x i) k (omega arith)

  -- each round cycles fewer letters than the word has
  pub rounded_length : {n : ℕ} {w g r : Word Γ} → Occurs Γ m w → Rounded Γ m n w g r → length g + n ≤ n * length w
  rounded_length a (quiet s) = omega arith
  rounded_length {w = w} a (round {n = n} {b = b} {p = p} {q = q} {g = g} s o) =
      let l : length w ≡ length (b ∷ p) + length q = ~-length Γ (split_~ Γ m s) ∙ length-append (b ∷ p) q in
      let i = rounded_length ((covers_round s).0 m a) o in
      let e : length (q ++ b ∷ p) ≡ length w = omega (arith, length-append q (b ∷ p)) in
      let j : length g + n ≤ n * length w = subst (λ x. length g + n ≤ n * x) e i in
      omega (arith, length-append (b ∷ p) g, suc-mul n (length w), occurs_length Γ (apex_behind s a))
