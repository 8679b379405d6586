-- Laws of a plan's word: products, undoing and length, and that its letters are commands if the plan passes.
use Rattle.std.specs.Prelude.{ℕ, ◌+◌, ◌≤◌, ◌<◌, ◌≡◌, Bool, true, false, not, length, get_or, take, eqb}
use Rattle.std.proofs.Common.{sym, ◌∙◌, ap, arith, add-one, take-suc, eqb-true, eq-eqb, ne_eqb}
use mathlib.Core.List.{List, [], ◌∷◌, ◌++◌, reverse, reverse-append, append-nil}
use Rattle.std.proofs.lemmas.Bool.{not-true}
use Rattle.theory_words.specs.BoolLaws.{true_same}
use Rattle.theory_words.specs.All.{All, all_map}
use Rattle.theory_words.specs.Group.{undo_by}
use Rattle.theory_words.specs.Filter.{filter}
use Rattle.theory_words.specs.FilterLaws.{keep_if_all, filter_kept, filter_left, filter-append, filter-length}
use Rattle.theory_words.specs.FilterLaws.{filter_undo, filter_whole}
use Rattle.spec.specs.Plan.{is_command, Passing}
use Rattle.spec.specs.Byte.{undone, command_of}
use Rattle.spec.specs.AlphabetLaws.{undone-undone, undone_zero}
use Rattle.spec_laws.specs.CommandLaws.{command_nonzero, command_passes, passes_command, command_range}
use Rattle.spec.specs.Letters.{letters}

-- every letter is a command or undo
abbrev pub Commands : ℕ → List ℕ → Type 0
Commands n = All (λ b. is_command n b ≡ true)

-- no filler
abbrev letter? : ℕ → Bool
letter? b = not (eqb b 0)

-- the two cases of a plan's first byte
pub letters_filler : (b : ℕ) (v : List ℕ) → eqb b 0 ≡ true → letters (b ∷ v) ≡ letters v
unfolding letters
letters_filler b v e = filter_left letter? b v (ap not e)

pub letters_letter : (b : ℕ) (v : List ℕ) → eqb b 0 ≡ false → letters (b ∷ v) ≡ b ∷ letters v
unfolding letters
letters_letter b v e = filter_kept letter? b v (ap not e)

pub letters-append : (v w : List ℕ) → letters (v ++ w) ≡ letters v ++ letters w
unfolding letters
letters-append v w = filter-append letter? v w

pub letters-length : (v : List ℕ) → length (letters v) ≤ length v
unfolding letters
letters-length v = filter-length letter? v

pub letters_commands : (n : ℕ) (v : List ℕ) → Passing n v → Commands n (letters v)
unfolding letters filter
letters_commands n [] h = tt
letters_commands n (b ∷ v) h =
    keep_if_all (λ a. is_command n a ≡ true) (letter? b) b (letters v)
    (λ e. passes_command n b h.0 (not-true (eqb b 0) e)) (letters_commands n v h.1)

-- the commands of such a word are among 1 to N
pub commands_range : (n : ℕ) (x : List ℕ) → n ≤ 24 → Commands n x → All (λ a. (1 ≤ command_of a) × (command_of a ≤ n)) x
commands_range n x l h = all_map (λ a e. command_range n a (omega arith) e) x h

-- a word of commands passes, and it is its own word
pub commands_passing : (n : ℕ) (v : List ℕ) → Commands n v → Passing n v
commands_passing n [] h = tt
commands_passing n (b ∷ v) h = (command_passes n b h.0, commands_passing n v h.1)

pub letters_same : (n : ℕ) (v : List ℕ) → Commands n v → letters v ≡ v
unfolding letters
letters_same n v h = filter_whole letter? v (all_map (λ b e. ap not (command_nonzero n b e)) v h)

filler_undone : (b : ℕ) → eqb (undone b) 0 ≡ eqb b 0
filler_undone b = true_same _ _ (λ e. ap (λ a. eqb a 0) (sym (undone-undone b)) ∙ turn (undone b) e) (turn b)
  where
    turn : (a : ℕ) → eqb a 0 ≡ true → eqb (undone a) 0 ≡ true
    turn a e = let z = eqb-true a 0 e in eq-eqb (undone a) 0 (undone_zero a (omega arith) ∙ z)

-- the word of an undone plan is the undone word
pub letters-undone : (u v : List ℕ) → letters (undo_by undone u v) ≡ undo_by undone (letters u) (letters v)
unfolding letters
letters-undone u v = filter_undo letter? undone (λ b. ap not (filler_undone b)) u v

-- one byte more: a plan's word backwards is as it was, or has the byte before it
module _ (v : List ℕ) (i : ℕ) (l : i < length v) where
  letters_more : letters (take (i + 1) v) ≡ letters (take i v) ++ letters (get_or v i 0 ∷ [])
  letters_more = rw add-one (ap letters (take-suc v i 0 l) ∙ letters-append (take i v) (get_or v i 0 ∷ []))

  pub more_filler : get_or v i 0 ≡ 0 → reverse (letters (take (i + 1) v)) ≡ reverse (letters (take i v))
  unfolding letters filter
  more_filler e =
      rw (letters_more, letters_filler (get_or v i 0) [] (eq-eqb (get_or v i 0) 0 e), append-nil (letters (take i v)))

  pub more_letter : ¬ (get_or v i 0 ≡ 0)
      → reverse (letters (take (i + 1) v)) ≡ get_or v i 0 ∷ reverse (letters (take i v))
  unfolding letters filter
  more_letter n =
      rw (
        letters_more,
        letters_letter (get_or v i 0) [] (ne_eqb (get_or v i 0) 0 n),
        reverse-append (letters (take i v)) (get_or v i 0 ∷ []),
      )
