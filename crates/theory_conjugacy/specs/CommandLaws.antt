-- Laws of the commands that occur in a word: swaps and cyclings keep them, and words with the same commands have the
-- same list of them.
use Rattle.std.specs.Prelude.{ℕ, suc, ◌≤◌, ◌<◌, ◌≡◌, Bool, ◌⊎◌, length}
use Rattle.std.proofs.Math.Path.{refl, ap}
use Rattle.std.proofs.Common.{sym, ◌∙◌, subst, true≢false, inl, inr, arith}
use Rattle.std.proofs.Math.Bool.{true, false}
use mathlib.Core.List.Memᴰ
use mathlib.Core.List.{List, [], ◌∷◌, ◌++◌}
use Rattle.std.proofs.Math.Decide.{ℕ_discrete}
use Rattle.theory_words.specs.All.{All, all_by}
use Rattle.theory_words.specs.Alphabet.{Alphabet, Word}
use Rattle.theory_words.specs.Trace as Trace
use Rattle.theory_words.specs.Trace.{done, cons, swap, next}
use Rattle.theory_words.specs.TraceLaws.{~_sym, Apart}
use Rattle.theory_conjugacy.specs.Turn.{Turns, same, turn, also}
use Rattle.theory_words.specs.Filter.{filter, keep_if}
use Rattle.theory_conjugacy.specs.Part.{commands, by_command}
use Rattle.theory_conjugacy.specs.AscendingLaws.{◌∈◌, Ascending, insert_in, in_insert, insert_ascending}
use Rattle.theory_conjugacy.specs.AscendingLaws.{ascending_equal, within_length, within_shorter, ascending_length}

module _ (Γ : Alphabet) where
  open Γ use {Letter, cmd, conf}

  infix 20 ◌~◌
  abbrev ◌~◌ : Word Γ → Word Γ → Type 0
  ◌~◌ = Trace.◌~◌ Γ

  -- a letter of the command k stands in the word
  pub data Occurs (k : ℕ) : Word Γ → Type 0 where
    now : {a : Letter} {w : Word Γ} → k ≡ cmd a → Occurs k (a ∷ w)
    later : {a : Letter} {w : Word Γ} → Occurs k w → Occurs k (a ∷ w)

  pub occurs_nil : {k : ℕ} → Occurs k [] → ⊥
  occurs_nil o = elim o [ ]

  pub occurs_length : {k : ℕ} {w : Word Γ} → Occurs k w → 0 < length w
  occurs_length (now e) = omega arith
  occurs_length (later o) = omega arith

  pub occurs_left : {k : ℕ} {v : Word Γ} (w : Word Γ) → Occurs k v → Occurs k (v ++ w)
  occurs_left w (now e) = now e
  occurs_left w (later o) = later (occurs_left w o)

  pub occurs_right : {k : ℕ} (v : Word Γ) {w : Word Γ} → Occurs k w → Occurs k (v ++ w)
  occurs_right [] o = o
  occurs_right (a ∷ v) o = later (occurs_right v o)

  pub occurs_split : {k : ℕ} (v : Word Γ) {w : Word Γ} → Occurs k (v ++ w) → Occurs k v ⊎ Occurs k w
  occurs_split [] o = inr o
  occurs_split (a ∷ v) (now e) = inl (now e)
  occurs_split {k} (a ∷ v) {w} (later o) = go (occurs_split v o)
    where
      go : Occurs k v ⊎ Occurs k w → Occurs k (a ∷ v) ⊎ Occurs k w
      go (inl p) = inl (later p)
      go (inr p) = inr p

  pub occurs_swap : {k : ℕ} (v w : Word Γ) → Occurs k (v ++ w) → Occurs k (w ++ v)
  occurs_swap {k} v w o = go (occurs_split v o)
    where
      go : Occurs k v ⊎ Occurs k w → Occurs k (w ++ v)
      go (inl p) = occurs_right w p
      go (inr p) = occurs_left v p

  pub occurs_along : {k : ℕ} {v w : Word Γ} → v ~ w → Occurs k v → Occurs k w
  occurs_along done o = o
  occurs_along (cons e) (now h) = now h
  occurs_along (cons e) (later o) = later (occurs_along e o)
  occurs_along (swap d) (now h) = later (now h)
  occurs_along (swap d) (later (now h)) = now h
  occurs_along (swap d) (later (later o)) = later (later o)
  occurs_along (next e f) o = occurs_along f (occurs_along e o)

  pub occurs_turns : {k : ℕ} {v w : Word Γ} → Turns Γ v w → Occurs k v → Occurs k w
  occurs_turns (same e) o = occurs_along e o
  occurs_turns (turn {a = a} {z = z}) o = occurs_swap (a ∷ []) z o
  occurs_turns (also e f) o = occurs_turns f (occurs_turns e o)

  pub occurs_back : {k : ℕ} {v w : Word Γ} → Turns Γ v w → Occurs k w → Occurs k v
  occurs_back (same e) o = occurs_along (~_sym Γ e) o
  occurs_back (turn {a = a} {z = z}) o = occurs_swap z (a ∷ []) o
  occurs_back (also e f) o = occurs_back e (occurs_back f o)

  pub occurs? : (k : ℕ) (w : Word Γ) → Dec (Occurs k w)
  occurs? k [] = no occurs_nil
  occurs? k (a ∷ w) = go (ℕ_discrete k (cmd a)) (occurs? k w)
    where
      not_both : ¬ (k ≡ cmd a) → ¬ Occurs k w → ¬ Occurs k (a ∷ w)
      not_both n m (now e) = n e
      not_both n m (later o) = m o

      go : Dec (k ≡ cmd a) → Dec (Occurs k w) → Dec (Occurs k (a ∷ w))
      go (yes e) d = yes (now e)
      go (no n) (yes o) = yes (later o)
      go (no n) (no m) = no (not_both n m)

  -- a letter whose command conflicts with none that occurs is independent of the word
  pub apart_occurs : (c : Letter) (w : Word Γ) → ((k : ℕ) → Occurs k w → conf (cmd c) k ≡ false) → Apart Γ c w
  apart_occurs c [] f = tt
  apart_occurs c (a ∷ w) f = (f (cmd a) (now refl), apart_occurs c w (λ k o. f k (later o)))

  pub occurs_apart : (c : Letter) (w : Word Γ) → Apart Γ c w → (k : ℕ) → Occurs k w → conf (cmd c) k ≡ false
  occurs_apart c (a ∷ w) h k (now e) = ap (conf (cmd c)) e ∙ h.0
  occurs_apart c (a ∷ w) h k (later o) = occurs_apart c w h.1 k o
  occurs_apart c [] h k x'' = elim x'' [ ]

  pub all_occurs : (P : ℕ → Type 0) (w : Word Γ) → All (λ a. P (cmd a)) w → (k : ℕ) → Occurs k w → P k
  all_occurs P (a ∷ w) h k (now e) = subst P (sym e) h.0
  all_occurs P (a ∷ w) h k (later o) = all_occurs P w h.1 k o
  all_occurs P [] h k x'' = elim x'' [ ]

  pub occurs_all : (P : ℕ → Type 0) (w : Word Γ) → ((k : ℕ) → Occurs k w → P k) → All (λ a. P (cmd a)) w
  occurs_all P [] f = tt
  occurs_all P (a ∷ w) f = (f (cmd a) (now refl), occurs_all P w (λ k o. f k (later o)))

  -- of a word filtered, the commands that pass
  pub occurs_filter : (f : ℕ → Bool) {k : ℕ} {w : Word Γ} → Occurs k w → f k ≡ true → Occurs k (by_command Γ f w)
  unfolding filter keep_if
  occurs_filter f {k} (now {a = a} {w = w} e) t = go (f (cmd a)) (ap f (sym e) ∙ t)
    where
      go : (s : Bool) → s ≡ true → Occurs k (keep_if s a (by_command Γ f w))
      go true h = now e
      go false h = absurd (true≢false (sym h))
  occurs_filter f {k} (later {a = a} {w = w} o) t = go (f (cmd a)) (occurs_filter f o t)
    where
      go : (s : Bool) → Occurs k (by_command Γ f w) → Occurs k (keep_if s a (by_command Γ f w))
      go true p = later p
      go false p = p

  pub filter_occurs : (f : ℕ → Bool) {k : ℕ} (w : Word Γ) → Occurs k (by_command Γ f w) → Occurs k w × (f k ≡ true)
  unfolding filter keep_if
  filter_occurs f [] o = absurd (occurs_nil o)
  filter_occurs f {k} (a ∷ w) o = go (f (cmd a)) refl o (λ p. filter_occurs f w p)
    where
      go : (s : Bool) → f (cmd a) ≡ s → Occurs k (keep_if s a (by_command Γ f w))
          → (Occurs k (by_command Γ f w) → Occurs k w × (f k ≡ true)) → Occurs k (a ∷ w) × (f k ≡ true)
      go true e (now h) g = (now h, ap f h ∙ e)
      go true e (later p) g = let (q, t) = g p in (later q, t)
      go false e p g = let (q, t) = g p in (later q, t)

  -- tests that agree on the commands that occur filter alike
  pub filter_same : (f g : ℕ → Bool) (w : Word Γ) → ((k : ℕ) → Occurs k w → f k ≡ g k)
      → by_command Γ f w ≡ by_command Γ g w
  unfolding filter
  filter_same f g [] h = refl
  filter_same f g (a ∷ w) h =
      let e : f (cmd a) ≡ g (cmd a) = h (cmd a) (now refl) in
      let i : by_command Γ f w ≡ by_command Γ g w = filter_same f g w (λ k o. h k (later o)) in
      rw (e, i)

  -- the list of the commands
  pub commands_ascending : (w : Word Γ) → Ascending (commands Γ w)
  unfolding commands
  commands_ascending [] = tt
  commands_ascending (a ∷ w) = insert_ascending (cmd a) (commands Γ w) (commands_ascending w)

  pub occurs_in : {k : ℕ} {w : Word Γ} → Occurs k w → k ∈ commands Γ w
  unfolding commands
  occurs_in (now {w = w} e) = insert_in (commands Γ w) (inl e)
  occurs_in (later {w = w} o) = insert_in (commands Γ w) (inr (occurs_in o))

  pub in_occurs : {k : ℕ} (w : Word Γ) → k ∈ commands Γ w → Occurs k w
  unfolding commands
  in_occurs [] m = absurd (Memᴰ.not-nil m)
  in_occurs {k} (a ∷ w) m = go (in_insert (commands Γ w) m) (λ n. in_occurs w n)
    where
      go : (k ≡ cmd a) ⊎ (k ∈ commands Γ w) → (k ∈ commands Γ w → Occurs k w) → Occurs k (a ∷ w)
      go (inl e) f = now e
      go (inr n) f = later (f n)

  abbrev pub Covers : Word Γ → Word Γ → Type 0
  Covers w v = (k : ℕ) → Occurs k v → Occurs k w

  pub commands_same : (v w : Word Γ) → Covers w v → Covers v w → commands Γ v ≡ commands Γ w
  commands_same v w f g = ascending_equal (commands Γ v) (commands Γ w) (commands_ascending v) (commands_ascending w)
      (λ k m. occurs_in (f k (in_occurs v m))) (λ k m. occurs_in (g k (in_occurs w m)))

  pub commands_turns : {v w : Word Γ} → Turns Γ v w → commands Γ v ≡ commands Γ w
  commands_turns {v} {w} e = commands_same v w (λ k o. occurs_turns e o) (λ k o. occurs_back e o)

  pub same_covers : (v w : Word Γ) → commands Γ v ≡ commands Γ w → Covers w v
  same_covers v w e k o = in_occurs w (subst (λ ks. k ∈ ks) e (occurs_in o))

  -- a command that occurs in w alone: v has fewer
  pub covers_shorter : (v w : Word Γ) → Covers w v → (k : ℕ) → Occurs k w → ¬ Occurs k v
      → length (commands Γ v) < length (commands Γ w)
  covers_shorter v w f k o n =
      within_shorter (commands Γ v) (commands Γ w) (commands_ascending v)
      (λ j m. occurs_in (f j (in_occurs v m))) k (occurs_in o) (λ m. n (in_occurs v m))

  -- no more than a list holds that holds all of them
  pub commands_few : (ks : List ℕ) (w : Word Γ) → ((k : ℕ) → Occurs k w → k ∈ ks)
      → length (commands Γ w) ≤ length ks
  commands_few ks w f = within_length (commands Γ w) ks (commands_ascending w) (λ k m. f k (in_occurs w m))

  -- no more than n commands occur if all are among 1 to n
  pub commands_bounded : (n : ℕ) (w : Word Γ) → ((k : ℕ) → Occurs k w → (1 ≤ k) × (k ≤ n))
      → length (commands Γ w) ≤ n
  commands_bounded n w f =
      let h = ascending_length 1 (suc n) (commands Γ w) (commands_ascending w) (omega arith)
      (all_by (λ k. 1 ≤ k) (commands Γ w) (λ k m. (f k (in_occurs w m)).0))
      (all_by (λ k. k < suc n) (commands Γ w) (λ k m. let l = (f k (in_occurs w m)).1 in omega arith)) in
      omega arith
