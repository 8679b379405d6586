-- What a letter puts on the stack of each command: its byte on its own, a blank on those that conflict with it, and
-- nothing on the others. The line of its conflicts tells how many beads that are.
use Rattle.std.specs.Prelude.{ℕ, ◌+◌, ◌≤◌, Bool, true, false, ◌≡◌, refl, List, [], ◌∷◌, length}
use Rattle.std.proofs.Common.{arith, true≢false, sym, ◌∙◌, ap}
use Rattle.theory_words.specs.Stack.{mark}
use Rattle.theory_words.specs.StackLaws.{Marked, marked}
use Rattle.theory_words.specs.StackLaws as Stack
use Rattle.spec.specs.Conflict.{conflict}
use Rattle.spec.specs.Answers.{yes_no}
use Rattle.spec.specs.AlphabetLaws.{conflict_refl, conflict_sym}
use Rattle.spec.specs.Byte.{command_of}
use Rattle.spec.specs.Letters.{alphabet}

-- what a letter b of command k + 1 puts on the stack of command i + 1: the number of beads, and the beads
pub data Meets (k b : ℕ) : ℕ → ℕ → List ℕ → Type 0 where
  aside : {i : ℕ} → ¬ (i ≡ k) → Meets k b i 0 []
  own : Meets k b k 1 (b ∷ [])
  other : {i : ℕ} → ¬ (i ≡ k) → Meets k b i 1 (0 ∷ [])

pub meets_length : {k b i n : ℕ} {m : List ℕ} → Meets k b i n m → length m ≡ n
meets_length (aside o) = refl
meets_length own = refl
meets_length (other o) = refl

pub meets_one : {k b i n : ℕ} {m : List ℕ} → Meets k b i n m → n ≤ 1
meets_one (aside o) = omega arith
meets_one own = omega arith
meets_one (other o) = omega arith

-- the line of command k + 1 tells how many
pub meets_line : (c : List ℕ) (k b j n : ℕ) → command_of b ≡ k + 1 → n ≡ yes_no (conflict c (k + 1) (j + 1))
    → Meets k b j n (mark (alphabet c) 0 (j + 1) b)
meets_line c k b j n e f = go (marked (alphabet c) 0 (j + 1) b)
  where
    count : (t : Bool) → conflict c (j + 1) (command_of b) ≡ t → n ≡ yes_no t
    count t q = f ∙ ap yes_no (conflict_sym c (k + 1) (j + 1) ∙ ap (conflict c (j + 1)) (sym e) ∙ q)

    go : {m : List ℕ} → Marked (alphabet c) 0 (j + 1) b m → Meets k b j n m
    go (Stack.apart q) =
        let clash : j ≡ k → conflict c (j + 1) (j + 1) ≡ false
        = λ s. ap (λ (i : ℕ). conflict c (j + 1) (i + 1)) s ∙ ap (conflict c (j + 1)) (sym e) ∙ q in
        rw (count false q) (aside (λ s. true≢false (sym (conflict_refl c (j + 1)) ∙ clash s)))
    go (Stack.own q) =
        let s : j ≡ k = omega arith in
        rw (count true (ap (conflict c (j + 1)) q ∙ conflict_refl c (j + 1)), s) own
    go (Stack.other q o) = rw (count true q) (other (λ s. o (e ∙ ap (λ (i : ℕ). i + 1) (sym s))))
