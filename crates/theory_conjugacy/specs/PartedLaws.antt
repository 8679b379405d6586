-- The part of a word, by its properties: the rest is independent of it, and it is not two words that are independent of
-- each other.
use Prim.Native.Nat.{ℕ, ◌≤◌}
use Rattle.std.proofs.Common.{arith, sym, ◌∙◌, subst, true≢false, inl, inr, eqb-true, eq-eqb}
use Rattle.std.specs.Prelude.{◌≡◌, true, false, not, ◌⊎◌, eqb}
use Rattle.std.proofs.Math.Path.{refl}
use Rattle.std.proofs.Math.Bool.{Bool}
use mathlib.Core.List.{[], ◌∷◌, ◌++◌, append-nil}
use Rattle.std.proofs.lemmas.Bool.{eqb-false, not-true}
use Rattle.theory_words.specs.Alphabet.{Alphabet, Word}
use Rattle.theory_words.specs.Trace as Trace
use Rattle.theory_words.specs.Trace.{done, cons, next}
use Rattle.theory_words.specs.TraceLaws.{~_sym, apart_pass}
use Rattle.theory_words.specs.Filter.{filter}
use Rattle.theory_words.specs.FilterLaws.{filter_kept, filter_left, filter-append, filter_whole, filter-~}
use Rattle.theory_conjugacy.specs.Part.{label, apexes, by_command, share, part}
use Rattle.theory_conjugacy.specs.AscendingLaws.{◌∈◌}
use Rattle.theory_conjugacy.specs.CommandLaws.{Occurs, now, later, occurs_nil, occurs_left, occurs_along}
use Rattle.theory_conjugacy.specs.CommandLaws.{apart_occurs, occurs_all, occurs_filter, filter_occurs}
use Rattle.theory_conjugacy.specs.PartLaws.{Connected, Independent, label_parting, label_apex, apex_occurs}
use Rattle.theory_conjugacy.specs.PartLaws.{occurs_part, part_largest, part_connected}
use Rattle.theory_conjugacy.specs.RoundLaws.{connected_cut}

module _ (Γ : Alphabet) where
  open Γ use {Letter, cmd, conf, conf_refl}

  infix 20 ◌~◌
  abbrev ◌~◌ : Word Γ → Word Γ → Type 0
  ◌~◌ = Trace.◌~◌ Γ

  -- x is y and a rest r
  pub record Parted (x y r : Word Γ) : Type 0 where
    pub parted : x ~ (y ++ r)
    pub apart : Independent Γ y r
    pub whole : (p q : Word Γ) → y ~ (p ++ q) → Independent Γ p q → (p ≡ []) ⊎ (q ≡ [])

  -- a test that parts the commands of w into independent ones
  abbrev Parts : (ℕ → Bool) → Word Γ → Type 0
  Parts f w = (i j : ℕ) → Occurs Γ i w → Occurs Γ j w → f i ≡ true → f j ≡ false → conf i j ≡ false

  -- parts w
  filter_parts : (f : ℕ → Bool) (w : Word Γ) → Parts f w → w ~ (by_command Γ f w ++ by_command Γ (λ k. not (f k)) w)
  unfolding filter
  filter_parts f [] h = done
  filter_parts f (a ∷ w) h = go (f (cmd a)) refl (filter_parts f w (λ i j o p. h i j (later o) (later p)))
    where
      p : Word Γ
      p = by_command Γ f w

      q : Word Γ
      q = by_command Γ (λ k. not (f k)) w

      go : (t : Bool) → f (cmd a) ≡ t → w ~ (p ++ q)
          → (a ∷ w) ~ (by_command Γ f (a ∷ w) ++ by_command Γ (λ k. not (f k)) (a ∷ w))
      go true e k = rw (filter_kept (λ b. f (cmd b)) a w e, filter_left (λ b. not (f (cmd b))) a w (rw e refl)) (cons k)
      go false e k = rw (filter_left (λ b. f (cmd b)) a w e, filter_kept (λ b. not (f (cmd b))) a w (rw e refl))
          (next (cons k) (apart_pass Γ a p (apart_occurs Γ a p (λ i o.
          let (o', t) = filter_occurs Γ f w o in Γ.conf_sym (cmd a) i ∙ h i (cmd a) (later o') (now refl) t e)) q))

  filter_apart : (f : ℕ → Bool) (w : Word Γ) → Parts f w
      → Independent Γ (by_command Γ f w) (by_command Γ (λ k. not (f k)) w)
  filter_apart f w h i j o p =
      let (oi, s) = filter_occurs Γ f w o in
      let (oj, t) = filter_occurs Γ (λ k. not (f k)) w p in
      h i j oi oj s (not-true (f j) t)

  -- whether a command has a label
  abbrev labelled : Word Γ → ℕ → ℕ → Bool
  labelled x l k = eqb (label Γ x k) l

  labelled_parts : (x : Word Γ) (l : ℕ) (w : Word Γ) → ((k : ℕ) → Occurs Γ k w → Occurs Γ k x) → Parts (labelled x l) w
  labelled_parts x l w f i j o p s t = label_parting Γ x i j (f i o) (f j p)
      (λ e. eqb-false (label Γ x j) l t (sym e ∙ eqb-true (label Γ x i) l s))

  connected_whole : (w p q : Word Γ) → Connected Γ w → w ~ (p ++ q) → Independent Γ p q → (p ≡ []) ⊎ (q ≡ [])
  connected_whole w [] q h e f = inl refl
  connected_whole w (a ∷ p) [] h e f = inr refl
  connected_whole w (a ∷ p) (b ∷ q) h e f =
      let n : ¬ Occurs Γ (cmd b) (a ∷ p) = λ o. true≢false (sym (conf_refl (cmd b)) ∙ f (cmd b) (cmd b) o (now refl)) in
      let (k, l, ok, ol, c) = connected_cut Γ w (a ∷ p) (b ∷ q) h e (cmd a) (cmd b) (now refl) (now refl) n in
      absurd (true≢false (sym c ∙ f k l ok ol))

  -- the letters whose command has another label
  abbrev pub others : ℕ → Word Γ → Word Γ
  others m x = by_command Γ (λ k. not (labelled x m k)) x

  pub part_parted : (m : ℕ) (x : Word Γ) → Parted x (part Γ m x) (others m x)
  unfolding part share
  part_parted m x =
      let h = labelled_parts x m x (λ k o. o) in
      record {
        parted = filter_parts (labelled x m) x h;
        apart = filter_apart (labelled x m) x h;
        whole = λ p q. connected_whole (part Γ m x) p q (part_connected Γ m x);
      }

  module _ {m : ℕ} (x y r : Word Γ) (h : Parted x y r) (a : Occurs Γ m y) where
    abbrev l : ℕ
    l = label Γ x m

    within : (k : ℕ) → Occurs Γ k y → Occurs Γ k x
    within k o = occurs_along Γ (~_sym Γ h.parted) (occurs_left Γ r o)

    -- all commands of y have one label
    passes : (k : ℕ) → Occurs Γ k y → labelled x l k ≡ true
    passes k o =
        go (h.whole (by_command Γ f y) (by_command Γ (λ k. not (f k)) y) (filter_parts f y s) (filter_apart f y s))
      where
        f : ℕ → Bool
        f = labelled x l

        s : Parts f y
        s = labelled_parts x l y within

        other : (t : Bool) → f k ≡ t → by_command Γ (λ k. not (f k)) y ≡ [] → t ≡ true
        other true e d = refl
        other false e d = absurd (occurs_nil Γ (subst (Occurs Γ k) d (occurs_filter Γ (λ k. not (f k)) o (rw e refl))))

        go : (by_command Γ f y ≡ []) ⊎ (by_command Γ (λ k. not (f k)) y ≡ []) → f k ≡ true
        go (inl d) = absurd (occurs_nil Γ (subst (Occurs Γ m) d (occurs_filter Γ f a (eq-eqb l l refl))))
        go (inr d) = other (f k) refl d

    -- and none of the rest has it
    labelled_part : part Γ l x ~ y
    unfolding part share
    labelled_part = go (connected_whole (part Γ l x) y z (part_connected Γ l x) e
        (λ i j o p. h.apart i j o (filter_occurs Γ f r p).0))
      where
        f : ℕ → Bool
        f = labelled x l

        z : Word Γ
        z = by_command Γ f r

        e : part Γ l x ~ (y ++ z)
        e = rw (
          filter-append (λ b. f (cmd b)) y r,
          filter_whole (λ b. f (cmd b)) y (occurs_all Γ (λ k. f k ≡ true) y passes),
        ) at (filter-~ Γ (λ b. f (cmd b)) h.parted)

        go : (y ≡ []) ⊎ (z ≡ []) → part Γ l x ~ y
        go (inl d) = absurd (occurs_nil Γ (subst (Occurs Γ m) d a))
        go (inr d) = rw (d, append-nil y) at e

    -- a word with these properties is the part of its largest command
    pub parted_part : ((k : ℕ) → Occurs Γ k y → k ≤ m) → (m ∈ apexes Γ x) × (y ~ part Γ m x)
    parted_part g =
        let i = label_apex Γ (within m a) in
        let low = g l (occurs_along Γ labelled_part (apex_occurs Γ x i)) in
        let high = part_largest Γ l x (occurs_part Γ (within m a) refl) in
        let e : l ≡ m = omega arith in
        subst (λ k. (k ∈ apexes Γ x) × (y ~ part Γ k x)) e (i, ~_sym Γ labelled_part)
