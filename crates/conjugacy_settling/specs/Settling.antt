-- What the settling of a word asks and gives.
use Rattle.std.specs.Prelude.{ℕ, ◌+◌, ◌≤◌, ◌≡◌, List, ◌++◌, length, take}
use Rattle.theory_words.specs.All.{All}
use Rattle.input_chains.specs.Conflicts.{Conflicts}
use Rattle.input_plan.specs.Lettered.{Lettered}
use Rattle.spec.specs.Letters.{alphabet}
use Rattle.theory_conjugacy.specs.CommandLaws.{Occurs}
use Rattle.theory_conjugacy.specs.PartLaws.{Connected}
use Rattle.theory_conjugacy.specs.Settle.{Rounded}
use Rattle.theory_conjugacy.specs.LeadIn.{settling}
use Rattle.conjugacy_settling.specs.declared.Settled.{Settled}

-- the word is connected and the apex occurs in it, there is room for it in `high`, and `out` has room from place `at`
-- on for the letters that settling cycles
pub record Settleable (c : List ℕ) (apex : ℕ) (word : List ℕ) (conflicts : List (List ℕ)) (high out : List ℕ) (at : ℕ)
    : Type 0 where
  pub letters : All Lettered word
  pub table : Conflicts c conflicts
  pub connected : Connected (alphabet c) word
  pub apex_occurs : Occurs (alphabet c) apex word
  pub upper : length word ≤ length high
  pub room : at + length (settling (alphabet c) apex word) ≤ length out

-- the word is settled as word' after just the rounds told, and the letters that they cycle stand up to the end told
pub record Ended (c : List ℕ) (apex : ℕ) (word word' out out' : List ℕ) (at : ℕ) (r : Settled) : Type 0 where
  pub letters : List ℕ
  pub rounded : Rounded (alphabet c) apex r.rounds word letters word'
  pub written : take r.end out' ≡ take at out ++ letters
  pub ends : r.end ≡ at + length letters
