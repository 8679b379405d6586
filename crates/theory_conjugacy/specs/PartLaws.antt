-- Laws of the parts: each is connected and has its label as its largest command, different parts are independent, words
-- with the same commands have the same labels, and a word is the product of its parts, up to swaps.
use Rattle.std.specs.Prelude.{ℕ, ◌≤◌, ◌≡◌, Bool, ◌≢◌, length}
use Rattle.std.proofs.Math.Path.{refl, sym, ap, subst}
use Rattle.std.proofs.Common.{◌∙◌, arith}
use Rattle.std.proofs.Math.Bool.{true, false}
use mathlib.Core.List.Memᴰ
use mathlib.Core.List.{List, [], ◌∷◌, ◌++◌, append-nil}
use Rattle.std.proofs.Math.Dec.{eqb}
use borrow.Author.Tests.{eqb-true, eq-eqb, ne_eqb}
use Rattle.std.proofs.Math.Decide.{ℕ_discrete}
use Rattle.theory_words.specs.All.{All, all_map}
use Rattle.theory_words.specs.Alphabet.{Alphabet, Word}
use Rattle.theory_words.specs.Trace as Trace
use Rattle.theory_words.specs.Trace.{done, cons, next}
use Rattle.theory_words.specs.TraceLaws.{~_refl, ~_before, Apart, apart_pass}
use Rattle.theory_words.specs.Filter.{filter}
use Rattle.theory_words.specs.FilterLaws.{filter_kept, filter_left, mem_filter, filter_mem}
use Rattle.theory_conjugacy.specs.Part.{commands, labels, label, apexes, share, part}
use Rattle.theory_conjugacy.specs.AscendingLaws.{◌∈◌, Ascending, filter_ascending}
use Rattle.theory_conjugacy.specs.CommandLaws.{Occurs, now, later, occurs_in, in_occurs, commands_ascending}
use Rattle.theory_conjugacy.specs.CommandLaws.{apart_occurs, occurs_filter, filter_occurs, commands_bounded}
use Rattle.theory_conjugacy.specs.LabelLaws.{labels_labelled, labels_one}

-- no number stands twice
abbrev pub Once : List ℕ → Type 0
Once [] = Unit {0}
Once (k ∷ ks) = All (λ j. k ≢ j) ks × Once ks

pub ascending_once : (ks : List ℕ) → Ascending ks → Once ks
ascending_once [] a = tt
ascending_once (k ∷ ks) a = (all_map (λ j l e. omega arith) ks a.0, ascending_once ks a.1)

module _ (Γ : Alphabet) where
  open Γ use {Letter, cmd, conf}

  infix 20 ◌~◌
  abbrev ◌~◌ : Word Γ → Word Γ → Type 0
  ◌~◌ = Trace.◌~◌ Γ

  -- whatever test some commands of w pass and some do not: a pair of which one passes and one does not conflicts
  abbrev pub Connected : Word Γ → Type 0
  Connected w = (f : ℕ → Bool) (i j : ℕ) → Occurs Γ i w → Occurs Γ j w → f i ≡ true → f j ≡ false
      → (p : ℕ) × (q : ℕ) × Occurs Γ p w × Occurs Γ q w × (conf p q ≡ true) × (f p ≡ true) × (f q ≡ false)

  -- no command of v conflicts with one of w
  abbrev pub Independent : Word Γ → Word Γ → Type 0
  Independent v w = (i j : ℕ) → Occurs Γ i v → Occurs Γ j w → conf i j ≡ false

  pub independent_swap : (v w : Word Γ) → Independent v w → (v ++ w) ~ (w ++ v)
  independent_swap [] w f = subst (λ (x : Word Γ). w ~ x) (sym (append-nil w)) (~_refl Γ w)
  independent_swap (a ∷ v) w f = next (cons (independent_swap v w (λ i j o p. f i j (later o) p)))
      (apart_pass Γ a w (apart_occurs Γ a w (λ k o. f (cmd a) k (now refl) o)) v)

  pub independent_sym : {v w : Word Γ} → Independent v w → Independent w v
  independent_sym f i j o p = Γ.conf_sym i j ∙ f j i p o

  pub share_occurs : (lab : ℕ → ℕ) (m : ℕ) {k : ℕ} (w : Word Γ) → Occurs Γ k (share Γ lab m w)
      → Occurs Γ k w × (lab k ≡ m)
  unfolding share
  share_occurs lab m {k} w o = let (p, t) = filter_occurs Γ (λ k. eqb (lab k) m) w o in (p, eqb-true (lab k) m t)

  pub occurs_share : (lab : ℕ → ℕ) {m k : ℕ} {w : Word Γ} → Occurs Γ k w → lab k ≡ m → Occurs Γ k (share Γ lab m w)
  unfolding share
  occurs_share lab {m} {k} o e = occurs_filter Γ (λ j. eqb (lab j) m) o (eq-eqb (lab k) m e)

  -- the shares of some labels, one after the other
  unfoldable pub shares : (ℕ → ℕ) → List ℕ → Word Γ → Word Γ
  shares lab [] w = []
  shares lab (m ∷ ms) w = share Γ lab m w ++ shares lab ms w

  -- labels that conflicting commands of w have in common
  abbrev pub Parting : (ℕ → ℕ) → Word Γ → Type 0
  Parting lab w = (i j : ℕ) → Occurs Γ i w → Occurs Γ j w → lab i ≢ lab j → conf i j ≡ false

  share_other : (lab : ℕ → ℕ) (m : ℕ) (a : Letter) (w : Word Γ) → lab (cmd a) ≢ m
      → share Γ lab m (a ∷ w) ≡ share Γ lab m w
  unfolding share
  share_other lab m a w n = filter_left (λ b. eqb (lab (cmd b)) m) a w (ne_eqb (lab (cmd a)) m n)

  shares_other : (lab : ℕ → ℕ) (ms : List ℕ) (a : Letter) (w : Word Γ) → All (λ m. lab (cmd a) ≢ m) ms
      → shares lab ms (a ∷ w) ≡ shares lab ms w
  unfolding shares
  shares_other lab [] a w h = refl
  shares_other lab (m ∷ ms) a w h = rw (share_other lab m a w h.0, shares_other lab ms a w h.1)

  -- a letter goes to its share
  shares-cons : (lab : ℕ → ℕ) (ms : List ℕ) (a : Letter) (w : Word Γ) → Parting lab (a ∷ w) → Once ms
      → lab (cmd a) ∈ ms → (a ∷ shares lab ms w) ~ shares lab ms (a ∷ w)
  unfolding shares share
  shares-cons lab [] a w f h i = absurd (Memᴰ.not-nil i)
  shares-cons lab (m ∷ ms) a w f h i = go (ℕ_discrete (lab (cmd a)) m) i (λ j. shares-cons lab ms a w f h.1 j)
    where
      x : Word Γ
      x = share Γ lab m w

      front : lab (cmd a) ≡ m → (a ∷ x ++ shares lab ms w) ≡ shares lab (m ∷ ms) (a ∷ w)
      front e = rw (
        filter_kept (λ b. eqb (lab (cmd b)) m) a w (eq-eqb (lab (cmd a)) m e),
        shares_other lab ms a w (all_map (λ j n d. n (sym e ∙ d)) ms h.0),
      )

      apart : lab (cmd a) ≢ m → Apart Γ a x
      apart n = apart_occurs Γ a x (λ k o. let (p, e) = share_occurs lab m w o in
          f (cmd a) k (now refl) (later p) (λ d. n (d ∙ e)))

      rest : lab (cmd a) ≢ m → lab (cmd a) ∈ m ∷ ms → lab (cmd a) ∈ ms
      rest n (Memᴰ.head e) = absurd (n e)
      rest n (Memᴰ.tail j) = j

      go : Dec (lab (cmd a) ≡ m) → lab (cmd a) ∈ m ∷ ms
          → (lab (cmd a) ∈ ms → (a ∷ shares lab ms w) ~ shares lab ms (a ∷ w))
          → (a ∷ x ++ shares lab ms w) ~ (share Γ lab m (a ∷ w) ++ shares lab ms (a ∷ w))
      go (yes e) j g = subst (λ (z : Word Γ). (a ∷ x ++ shares lab ms w) ~ z) (front e) (~_refl Γ _)
      go (no n) j g = subst (λ (z : Word Γ). (a ∷ x ++ shares lab ms w) ~ (z ++ shares lab ms (a ∷ w)))
          (sym (share_other lab m a w n))
          (next (apart_pass Γ a x (apart n) (shares lab ms w)) (~_before Γ x (g (rest n j))))

  shares_nil : (lab : ℕ → ℕ) (ms : List ℕ) → shares lab ms [] ≡ []
  unfolding shares share filter
  shares_nil lab [] = refl
  shares_nil lab (m ∷ ms) = shares_nil lab ms

  -- a word is the product of its shares, in any order of the labels
  pub shares-~ : (lab : ℕ → ℕ) (ms : List ℕ) → Once ms → (w : Word Γ) → Parting lab w
      → ((k : ℕ) → Occurs Γ k w → lab k ∈ ms) → w ~ shares lab ms w
  shares-~ lab ms h [] f i = subst (λ (z : Word Γ). [] ~ z) (sym (shares_nil lab ms)) done
  shares-~ lab ms h (a ∷ w) f i =
      next (cons (shares-~ lab ms h w (λ j k o p. f j k (later o) (later p)) (λ k o. i k (later o))))
      (shares-cons lab ms a w f h (i (cmd a) (now refl)))

  -- labels of a word
  pub label_same : (v w : Word Γ) → commands Γ v ≡ commands Γ w → label Γ v ≡ label Γ w
  unfolding label
  label_same v w e = ap (labels Γ) e

  pub apexes_same : (v w : Word Γ) → commands Γ v ≡ commands Γ w → apexes Γ v ≡ apexes Γ w
  unfolding apexes label
  apexes_same v w e = ap (λ (ks : List ℕ). filter (λ k. eqb (labels Γ ks k) k) ks) e

  pub part-share : (m : ℕ) (w : Word Γ) → part Γ m w ≡ share Γ (label Γ w) m w
  unfolding part
  part-share m w = refl

  pub part_occurs : (m : ℕ) {k : ℕ} (w : Word Γ) → Occurs Γ k (part Γ m w) → Occurs Γ k w × (label Γ w k ≡ m)
  unfolding part
  part_occurs m w o = share_occurs (label Γ w) m w o

  -- no part has more than n commands where all are among 1 to n
  pub part_bounded : (n : ℕ) (w : Word Γ) → ((k : ℕ) → Occurs Γ k w → (1 ≤ k) × (k ≤ n)) → (m : ℕ)
      → length (commands Γ (part Γ m w)) ≤ n
  part_bounded n w f m = commands_bounded Γ n (part Γ m w) (λ k o. f k (part_occurs m w o).0)

  pub occurs_part : {m k : ℕ} {w : Word Γ} → Occurs Γ k w → label Γ w k ≡ m → Occurs Γ k (part Γ m w)
  unfolding part
  occurs_part {w = w} o e = occurs_share (label Γ w) o e

  pub part_connected : (m : ℕ) (w : Word Γ) → Connected (part Γ m w)
  unfolding label
  part_connected m w f i j o p s t =
      let (oi, ei) = part_occurs m w o in
      let (oj, ej) = part_occurs m w p in
      let (k, l, mk, ml, ek, el, c, x, y) =
      (labels_labelled Γ (commands Γ w)).whole f i j (occurs_in Γ oi) (occurs_in Γ oj)
      (ei ∙ sym ej) s t in
      (k, l, occurs_part (in_occurs Γ w mk) (ek ∙ ei), occurs_part (in_occurs Γ w ml) (el ∙ ei), c, x, y)

  pub label_parting : (w : Word Γ) → Parting (label Γ w) w
  unfolding label
  label_parting w i j o p n = go (conf i j) refl
    where
      go : (t : Bool) → conf i j ≡ t → t ≡ false
      go true c = absurd (n (labels_one Γ (commands Γ w) (occurs_in Γ o) (occurs_in Γ p) c))
      go false c = refl

  -- the label of a part is its largest command
  pub part_largest : (m : ℕ) {k : ℕ} (w : Word Γ) → Occurs Γ k (part Γ m w) → k ≤ m
  unfolding label
  part_largest m {k} w o =
      let (p, e) = part_occurs m w o in
      let h : k ≤ label Γ w k = (labels_labelled Γ (commands Γ w)).large k (occurs_in Γ p) in
      subst (λ l. k ≤ l) e h

  pub apex_occurs : {m : ℕ} (w : Word Γ) → m ∈ apexes Γ w → Occurs Γ m (part Γ m w)
  unfolding apexes
  apex_occurs {m} w i =
      let (j, t) = filter_mem (λ k. eqb (label Γ w k) k) (commands Γ w) i in
      occurs_part (in_occurs Γ w j) (eqb-true (label Γ w m) m t)

  pub label_apex : {k : ℕ} {w : Word Γ} → Occurs Γ k w → label Γ w k ∈ apexes Γ w
  unfolding apexes label
  label_apex {k} {w} o =
      let h = labels_labelled Γ (commands Γ w) in
      mem_filter (λ k. eqb (label Γ w k) k) (commands Γ w) (h.inside k (occurs_in Γ o))
      (eq-eqb (label Γ w (label Γ w k)) (label Γ w k) (h.own k (occurs_in Γ o)))

  pub apexes_ascending : (w : Word Γ) → Ascending (apexes Γ w)
  unfolding apexes
  apexes_ascending w = filter_ascending (λ k. eqb (label Γ w k) k) (commands Γ w) (commands_ascending Γ w)

  -- a word is the product of its parts
  pub parts_~ : (ms : List ℕ) (w : Word Γ) → Once ms → ((k : ℕ) → Occurs Γ k w → label Γ w k ∈ ms)
      → w ~ shares (label Γ w) ms w
  parts_~ ms w h f = shares-~ (label Γ w) ms h w (label_parting w) f

  pub apexes-~ : (w : Word Γ) → w ~ shares (label Γ w) (apexes Γ w) w
  apexes-~ w = parts_~ (apexes Γ w) w (ascending_once (apexes Γ w) (apexes_ascending w)) (λ k o. label_apex o)
