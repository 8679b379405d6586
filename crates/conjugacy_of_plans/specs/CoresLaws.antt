-- The core of a plan, and the letters taken off in front: what is lent of them.
use Rattle.std.specs.Prelude.{ℕ, ◌≡◌, List, length, take}
use Rattle.std.proofs.Common.{sym, length-take-le}
use Rattle.piling_core_letters.specs.CoreLetters.{CoreLetters}
use Rattle.conjugacy_by_cores.specs.CoreAndLead.{CoreAndLead}

module _ {c v core lead : List ℕ} {n m : ℕ} (k : CoreLetters c v core lead n m) where
  pub core_and_lead : CoreAndLead c v (take n core) (take m lead)
  core_and_lead = record { core = k.core; off = k.off }

  pub core_count : n ≡ length (take n core)
  core_count = sym (length-take-le n core k.within)

  pub lead_count : m ≡ length (take m lead)
  lead_count = sym (length-take-le m lead k.fits)
