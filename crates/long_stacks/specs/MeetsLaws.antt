-- What a letter does to one stack: when it is put on the stacks, and when it is cut off.
use Rattle.std.specs.Prelude.{ℕ, ◌+◌, ◌<◌, ◌≤◌, ◌≡◌, refl, length, get_or}
use Rattle.std.proofs.Common.{arith, add-one, le_refl, length-append, get_or-set_same, get_or-set_other}
use mathlib.Core.List.{List, ◌∷◌, ◌++◌, tail-eq_of_cons-eq}
use Rattle.array_counts.specs.MeetsLaws.{Meets, aside, own, other, meets_length}
use Rattle.long_stacks.specs.Linked.{Linked, blank, letter, height}
use Rattle.long_stacks.specs.LinkedLaws.{linked_unblank, linked_letter, linked_topped}
use Rattle.long_stacks.specs.LinkedLaws.{linked_earlier, linked_write}
use Rattle.long_stacks.specs.Moves.{Written, Put, Cut}
use Rattle.long_stacks.specs.declared.LinkedStacks.{LinkedStacks}

-- a stack with a letter's beads on it is higher by their number
pub meets_height : {k b j n : ℕ} {m : List ℕ} (bs : List ℕ) → Meets k b j n m → height (m ++ bs) ≡ height bs + n
meets_height {m = m} bs t = omega (arith, length-append m bs, meets_length t)

-- the uppermost letter of one stack written over
module _ {n : ℕ} {s s' : LinkedStacks n} {word under link : List ℕ} {i k t m : ℕ} (w : Written s k t m s') where
  written_other : {j : ℕ} {bs : List ℕ} → ¬ (j ≡ k)
      → Linked word under link i (get_or s.tops j 0) (get_or s.marks j 0) bs
      → Linked word under link i (get_or s'.tops j 0) (get_or s'.marks j 0) bs
  written_other {j} o r =
      rw (w.top, w.mark, get_or-set_other s.tops k j t 0 o, get_or-set_other s.marks k j m 0 o) r

  written_own : {bs : List ℕ} → k < length s.tops → k < length s.marks → Linked word under link i t m bs
      → Linked word under link i (get_or s'.tops k 0) (get_or s'.marks k 0) bs
  written_own g h r = rw (w.top, w.mark, get_or-set_same s.tops k t 0 g, get_or-set_same s.marks k m 0 h) r

module _ {n : ℕ} {s s' : LinkedStacks n} {word line : List ℕ} {p k : ℕ} (u : Put s line p k s')
    (within : p < length word) (unders : length word ≤ length s.under) (links : length word ≤ length s.link)
    (topped : k < length s.tops) (marked : k < length s.marks) where
  -- a stack of later places is as it was
  put_kept : {t m : ℕ} {bs : List ℕ} → Linked word s.under s.link (p + 1) t m bs
      → Linked word s'.under s'.link p t m bs
  put_kept r = rw (u.unders, u.links) (linked_earlier p (omega arith) (linked_write p _ _ (omega arith) r))

  -- the stack of its own command
  put_own : {bs : List ℕ} → ¬ (get_or word p 0 ≡ 0) → get_or s'.heights k 0 ≡ height (get_or word p 0 ∷ bs)
      → Linked word s.under s.link (p + 1) (get_or s.tops k 0) (get_or s.marks k 0) bs
      → Linked word s'.under s'.link p (get_or s'.tops k 0) (get_or s'.marks k 0) (get_or word p 0 ∷ bs)
  put_own {bs} o e r =
      let l : get_or s'.link p 0 ≡ get_or s.tops k 0 = rw u.links (get_or-set_same s.link p _ 0 (omega arith)) in
      let m : get_or s'.under p 0 ≡ get_or s.marks k 0 = rw u.unders (get_or-set_same s.under p _ 0 (omega arith)) in
      let b : Linked word s'.under s'.link p (get_or s'.link p 0) (get_or s'.under p 0) bs = rw (l, m) (put_kept r) in
      written_own u.written topped marked (rw (add-one p, e) (letter (le_refl p) within o b))

  -- one stack, when the letter at place p is put on
  pub meets_put : {j n : ℕ} {m bs : List ℕ} → Meets k (get_or word p 0) j n m → ¬ (get_or word p 0 ≡ 0)
      → get_or s'.heights j 0 ≡ height (m ++ bs)
      → Linked word s.under s.link (p + 1) (get_or s.tops j 0) (get_or s.marks j 0) bs
      → Linked word s'.under s'.link p (get_or s'.tops j 0) (get_or s'.marks j 0) (m ++ bs)
  meets_put (aside d) o e r = written_other u.written d (put_kept r)
  meets_put own o e r = put_own o e r
  meets_put (other d) o e r = blank (written_other u.written d (put_kept r))

module _ {n : ℕ} {s s' : LinkedStacks n} {word line : List ℕ} {i k : ℕ} (u : Cut s line k s')
    (topped : k < length s.tops) (marked : k < length s.marks) where
  cut_written : {b j n : ℕ} {m bs : List ℕ} → Meets k b j n m → ¬ (b ≡ 0)
      → Linked word s.under s.link i (get_or s.tops j 0) (get_or s.marks j 0) (m ++ bs)
      → Linked word s.under s.link i (get_or s'.tops j 0) (get_or s'.marks j 0) bs
  cut_written (aside d) o r = written_other u.written d r
  cut_written own o r =
      let z = (linked_topped (linked_letter refl o r) r).1 in
      written_own u.written topped marked (rw (tail-eq_of_cons-eq z.beads) z.below)
  cut_written (other d) o r = written_other u.written d (linked_unblank refl r)

  -- one stack, when the letter b on top of the stack of command k + 1 is cut off
  pub meets_cut : {b j n : ℕ} {m bs : List ℕ} → Meets k b j n m → ¬ (b ≡ 0)
      → Linked word s.under s.link i (get_or s.tops j 0) (get_or s.marks j 0) (m ++ bs)
      → Linked word s'.under s'.link i (get_or s'.tops j 0) (get_or s'.marks j 0) bs
  meets_cut t o r = rw (u.unders, u.links) (cut_written t o r)
