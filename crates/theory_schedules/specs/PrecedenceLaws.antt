-- Laws of Precedence: swaps keep every chain. A letter that conflicts with what is raised is one that a chain leads to;
-- swaps bring one that does not before the letter that the chain would start from.
use Rattle.std.specs.Prelude.{ℕ, ◌≡◌, Bool, ◌⊎◌}
use Rattle.std.proofs.Math.Path.{refl}
use Rattle.std.proofs.Common.{sym, ◌∙◌, subst, true≢false, inl, inr}
use Rattle.std.proofs.Math.Bool.{true, false}
use mathlib.Core.List.Memᴰ
use mathlib.Core.List.{List, [], ◌∷◌, ◌++◌, append_assoc, Memᴰ}
use Rattle.theory_words.specs.BoolLaws.{or_either, or_neither}
use Rattle.theory_words.specs.Alphabet.{Alphabet, Word}
use Rattle.theory_words.specs.Trace as Trace
use Rattle.theory_words.specs.Trace.{cons, swap, next}
use Rattle.theory_words.specs.TraceLaws.{~_sym, Apart, apart_append, apart_pass}
use Rattle.theory_words.specs.Filter.{keep_if}
use Rattle.theory_words.specs.FilterLaws.{keep_if_cases}
use Rattle.theory_words.specs.Normal.{meets}
use Rattle.theory_schedules.specs.Precedence.{raised, Leads, ends, over, past, Linked, from, later}

module _ (Γ : Alphabet) where
  open Γ use {Letter, cmd, conf}

  infix 20 ◌~◌
  abbrev ◌~◌ : Word Γ → Word Γ → Type 0
  ◌~◌ = Trace.◌~◌ Γ

  -- swaps keep every chain: the two letters of a swap are not both in it, next to each other

  leads_along : {b : Letter} {k : ℕ} {v w : Word Γ} → v ~ w → Leads Γ b k v → Leads Γ b k w
  leads_along (cons e) (ends t) = ends t
  leads_along (cons {a = a} e) (over t l) = over t (leads_along {k = cmd a} e l)
  leads_along {k = k} (cons e) (past l) = past (leads_along {k = k} e l)
  leads_along (swap d) (ends t) = past (ends t)
  leads_along (swap d) (over t (ends s)) = absurd (true≢false (sym s ∙ d))
  leads_along (swap d) (over t (over s l)) = absurd (true≢false (sym s ∙ d))
  leads_along (swap d) (over t (past l)) = past (over t l)
  leads_along (swap d) (past (ends t)) = ends t
  leads_along (swap d) (past (over t l)) = over t (past l)
  leads_along (swap d) (past (past l)) = past (past l)
  leads_along (next e f) l = leads_along f (leads_along e l)
  leads_along {b = b} {k = k} Trace.done l = elim l [ ]

  pub linked_along : {a b : Letter} {v w : Word Γ} → v ~ w → Linked Γ a b v → Linked Γ a b w
  linked_along (cons e) (from l) = from (leads_along e l)
  linked_along (cons e) (later l) = later (linked_along e l)
  linked_along (swap d) (from (ends t)) = absurd (true≢false (sym t ∙ d))
  linked_along (swap d) (from (over t l)) = absurd (true≢false (sym t ∙ d))
  linked_along (swap d) (from (past l)) = later (from l)
  linked_along (swap d) (later (from l)) = from (past l)
  linked_along (swap d) (later (later l)) = later (later l)
  linked_along (next e f) l = linked_along f (linked_along e l)
  linked_along {a = a} {b = b} Trace.done l = elim l [ ]

  -- chains in a word behind another

  pub leads_behind : {b : Letter} {k : ℕ} (q : Word Γ) {w : Word Γ} → Leads Γ b k w → Leads Γ b k (q ++ w)
  leads_behind [] l = l
  leads_behind (a ∷ q) l = past (leads_behind q l)

  pub linked_behind : {a b : Letter} (p : Word Γ) {w : Word Γ} → Linked Γ a b w → Linked Γ a b (p ++ w)
  linked_behind [] l = l
  linked_behind (c ∷ p) l = later (linked_behind p l)

  -- a command that meets some commands conflicts with one of them
  meets_one : (k : ℕ) (ks : List ℕ) → meets Γ k ks ≡ true → (j : ℕ) × Memᴰ j ks × (conf j k ≡ true)
  unfolding meets
  meets_one k [] e = absurd (true≢false (sym e))
  meets_one k (j ∷ js) e = go (or_either (conf k j) (meets Γ k js) e) (meets_one k js)
    where
      go : (conf k j ≡ true) ⊎ (meets Γ k js ≡ true)
          → (meets Γ k js ≡ true → (i : ℕ) × Memᴰ i js × (conf i k ≡ true))
          → (i : ℕ) × Memᴰ i (j ∷ js) × (conf i k ≡ true)
      go (inl s) ih = (j, Memᴰ.head refl, Γ.conf_sym j k ∙ s)
      go (inr s) ih = let (i, m, t) = ih s in (i, Memᴰ.tail m, t)

  -- a letter that conflicts with none of the commands ks is independent of the word h
  abbrev Covers : List ℕ → Word Γ → Type 0
  Covers ks h = (c : Letter) → meets Γ (cmd c) ks ≡ false → Apart Γ c h

  covers_more : (c : Letter) (ks : List ℕ) (h : Word Γ) → Covers ks h → Covers (cmd c ∷ ks) (h ++ c ∷ [])
  unfolding meets
  covers_more c ks h k d e =
      let (s, t) = or_neither (conf (cmd d) (cmd c)) (meets Γ (cmd d) ks) e in
      apart_append Γ d h (c ∷ []) (k d t) (s, tt)

  -- swaps of w bring b before the word h
  abbrev pub Brought : Letter → Word Γ → Word Γ → Type 0
  Brought b h w = (u : Word Γ) × (v : Word Γ) × (w ~ (u ++ (b ∷ h ++ v)))

  module _ (b : Letter) (r : Word Γ) where
    -- what is raised is led to

    raised_one : (ks : List ℕ) (q : Word Γ) → meets Γ (cmd b) (raised Γ ks q) ≡ true
        → (k : ℕ) × Memᴰ k ks × Leads Γ b k (q ++ b ∷ r)
    unfolding raised
    raised_one ks [] e = let (k, m, t) = meets_one (cmd b) ks e in (k, m, ends t)
    raised_one ks (c ∷ q) e =
        let (k, m, l) = raised_one (keep_if (meets Γ (cmd c) ks) (cmd c) ks) q e in
        go l (keep_if_cases (meets Γ (cmd c) ks) (cmd c) ks m)
      where
        go : {k : ℕ} → Leads Γ b k (q ++ b ∷ r) → ((k ≡ cmd c) × (meets Γ (cmd c) ks ≡ true)) ⊎ Memᴰ k ks
            → (j : ℕ) × Memᴰ j ks × Leads Γ b j (c ∷ q ++ b ∷ r)
        go l (inl (s, t)) =
            let (j, m, f) = meets_one (cmd c) ks t in
            (j, m, over f (subst (λ i. Leads Γ b i (q ++ b ∷ r)) s l))
        go {k} l (inr m) = (k, m, past l)

    pub raised_leads : (k : ℕ) (q : Word Γ) → meets Γ (cmd b) (raised Γ (k ∷ []) q) ≡ true
        → Leads Γ b k (q ++ b ∷ r)
    raised_leads k q e =
        let (j, m, l) = raised_one (k ∷ []) q e in
        subst (λ i. Leads Γ b i (q ++ b ∷ r)) (Memᴰ.eq_of_singleton m) l

    -- what is not raised slides before h, and what is raised is kept behind it
    kept_brought : (q : Word Γ) (ks : List ℕ) (h : Word Γ) → Covers ks h → meets Γ (cmd b) (raised Γ ks q) ≡ false
        → Brought b h (h ++ (q ++ b ∷ r))
    unfolding raised keep_if
    kept_brought [] ks h k e = ([], r, ~_sym Γ (apart_pass Γ b h (k b e) r))
    kept_brought (c ∷ q) ks h k e = go (meets Γ (cmd c) ks) refl e (kept_brought q)
      where
        go : (t : Bool) → meets Γ (cmd c) ks ≡ t → meets Γ (cmd b) (raised Γ (keep_if t (cmd c) ks) q) ≡ false
            → ((ks : List ℕ) (h : Word Γ) → Covers ks h → meets Γ (cmd b) (raised Γ ks q) ≡ false
            → Brought b h (h ++ (q ++ b ∷ r)))
            → Brought b h (h ++ (c ∷ q ++ b ∷ r))
        go true s e ih =
            let (u, v, f) = ih (cmd c ∷ ks) (h ++ c ∷ []) (covers_more c ks h k) e in
            (u, c ∷ v, simp append_assoc at f)
        go false s e ih =
            let (u, v, f) = ih ks h k e in
            (c ∷ u, v, next (~_sym Γ (apart_pass Γ c h (k c s) (q ++ b ∷ r))) (cons f))

    -- if b conflicts with nothing raised from a, it can stand before a
    pub raised_brought : (a : Letter) (q : Word Γ) → meets Γ (cmd b) (raised Γ (cmd a ∷ []) q) ≡ false
        → Brought b (a ∷ []) (a ∷ q ++ b ∷ r)
    unfolding meets
    raised_brought a q e =
        kept_brought q (cmd a ∷ []) (a ∷ [])
        (λ c s. ((or_neither (conf (cmd c) (cmd a)) false s).0, tt)) e
