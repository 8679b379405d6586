-- What putting a letter on the stacks, or cutting one off, does to the arrays. No word and no catalogue here.
use Rattle.std.specs.Prelude.{ℕ, ◌+◌, ◌-◌, ◌<◌, ◌≤◌, ◌≡◌, List, length, get_or, set}
use Rattle.array_counts.specs.Heights.{Both, Changed}
use Rattle.long_stacks.specs.declared.LinkedStacks.{LinkedStacks}

-- the uppermost letter of the stack of command k + 1 is at place t - 1 and has mark m, or there is none
pub record Written {n : ℕ} (s : LinkedStacks n) (k t m : ℕ) (s' : LinkedStacks n) : Type 0 where
  pub top : s'.tops ≡ set s.tops k t
  pub mark : s'.marks ≡ set s.marks k m

-- place p is free for a letter of command k + 1
pub record Puttable {n : ℕ} (s : LinkedStacks n) (line : List ℕ) (p k : ℕ) : Type 0 where
  pub within : k < 24
  pub low : p < 50176
  pub unders : p < length s.under
  pub links : p < length s.link
  pub sums : Both (λ h n. h + n < 65536) s.heights line

-- each stack is higher by the line's number, and the letter at place p is on top of the stack of command k + 1
pub record Put {n : ℕ} (s : LinkedStacks n) (line : List ℕ) (p k : ℕ) (s' : LinkedStacks n) : Type 0 where
  pub unders : s'.under ≡ set s.under p (get_or s.marks k 0)
  pub links : s'.link ≡ set s.link p (get_or s.tops k 0)
  pub written : Written s k (p + 1) (get_or s'.heights k 0) s'
  pub lifted : Changed ◌+◌ line s.heights s'.heights

-- the stack of command k + 1 has a letter, and each stack is at least as high as the line's number
pub record Cuttable {n : ℕ} (s : LinkedStacks n) (line : List ℕ) (k : ℕ) : Type 0 where
  pub within : k < 24
  pub some : 1 ≤ get_or s.tops k 0
  pub low : get_or s.tops k 0 ≤ 50176
  pub unders : get_or s.tops k 0 ≤ length s.under
  pub links : get_or s.tops k 0 ≤ length s.link
  pub differences : Both (λ h n. n ≤ h) s.heights line

-- each stack is lower by the line's number, and the uppermost letter of the stack of command k + 1 is off
pub record Cut {n : ℕ} (s : LinkedStacks n) (line : List ℕ) (k : ℕ) (s' : LinkedStacks n) : Type 0 where
  pub unders : s'.under ≡ s.under
  pub links : s'.link ≡ s.link
  pub written : let q = get_or s.tops k 0 - 1 in Written s k (get_or s.link q 0) (get_or s.under q 0) s'
  pub lowered : Changed ◌-◌ line s.heights s'.heights
