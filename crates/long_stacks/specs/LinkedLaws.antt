-- Laws of one linked stack: a blank or a letter on top, and that writing at earlier places leaves it as it is.
use Rattle.std.specs.Prelude.{ℕ, ◌-◌, ◌<◌, ◌≤◌, ◌≡◌, refl, length, get_or, set}
use Rattle.std.proofs.Common.{arith, sym, subst, get_or-set_other}
use Rattle.std.proofs.Math.Numerals.{unary_clauses}
use mathlib.Core.List.{List, ◌∷◌, nil≢cons, head-eq_of_cons-eq, tail-eq_of_cons-eq}
use Rattle.long_stacks.specs.Linked.{Linked, bottom, blank, letter, height}

module _ (word under link : List ℕ) (i : ℕ) where
  -- the stack has a letter on top, at place p, and a rest below it
  pub record Topped (p : ℕ) (bs : List ℕ) : Type 0 where
    pub inside : p < length word
    pub filled : ¬ (get_or word p 0 ≡ 0)
    pub rest : List ℕ
    pub beads : bs ≡ get_or word p 0 ∷ rest
    pub below : Linked word under link i (get_or link p 0) (get_or under p 0) rest

module _ {word under link : List ℕ} {i : ℕ} where
  pub linked_unblank : {t m : ℕ} {ds bs : List ℕ} → ds ≡ 0 ∷ bs → Linked word under link i t m ds
      → Linked word under link i t m bs
  linked_unblank e bottom = absurd (nil≢cons e)
  linked_unblank {t} {m} e (blank r) = subst (Linked word under link i t m) (tail-eq_of_cons-eq e) r
  linked_unblank e (letter l h o r) = absurd (o (head-eq_of_cons-eq e))

  -- no mark is higher than the stack
  linked_low : {t m : ℕ} {bs : List ℕ} → Linked word under link i t m bs → m ≤ height bs
  linked_low bottom = omega arith
  linked_low (blank r) = omega (arith, linked_low r)
  linked_low (letter l h o r) = omega arith

  -- where a letter is on top the mark is the height
  pub linked_letter : {t m b : ℕ} {ds bs : List ℕ} → ds ≡ b ∷ bs → ¬ (b ≡ 0) → Linked word under link i t m ds
      → m ≡ height ds
  linked_letter e n bottom = absurd (nil≢cons e)
  linked_letter e n (blank r) = absurd (n (sym (head-eq_of_cons-eq e)))
  linked_letter e n (letter l h o r) = refl

  -- where the mark is the height a letter is on top
  pub linked_topped : {t m : ℕ} {bs : List ℕ} → m ≡ height bs → Linked word under link i t m bs
      → (1 ≤ t) × Topped word under link i (t - 1) bs
  linked_topped e bottom = absurd (omega arith)
  linked_topped e (blank r) = absurd (omega (arith, linked_low r))
  linked_topped e (letter {bs = bs} l h o r) =
      (omega arith, simp unary_clauses (record { inside = h; filled = o; rest = bs; beads = refl; below = r }))

  pub linked_earlier : {t m : ℕ} {bs : List ℕ} (j : ℕ) → j ≤ i → Linked word under link i t m bs
      → Linked word under link j t m bs
  linked_earlier j n bottom = bottom
  linked_earlier j n (blank r) = blank (linked_earlier j n r)
  linked_earlier j n (letter {p = p} l h o r) =
      let k : j ≤ p = omega arith in
      letter k h o (linked_earlier j n r)

  pub linked_write : {t m : ℕ} {bs : List ℕ} (p u v : ℕ) → p < i → Linked word under link i t m bs
      → Linked word (set under p u) (set link p v) i t m bs
  linked_write p u v n bottom = bottom
  linked_write p u v n (blank r) = blank (linked_write p u v n r)
  linked_write p u v n (letter {p = q} {bs = bs} l h o r) =
      let d : ¬ (q ≡ p) = λ e. omega arith in
      let s : Linked word (set under p u) (set link p v) i (get_or (set link p v) q 0) (get_or (set under p u) q 0) bs
      = rw (get_or-set_other link p q v 0 d, get_or-set_other under p q u 0 d) (linked_write p u v n r) in
      letter l h o s
