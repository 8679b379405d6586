-- Commands that all conflict with each other: a clique of the conflict graph.
use Rattle.std.specs.Prelude.{ℕ, ◌≡◌, true, List}
use Rattle.theory_words.specs.Alphabet.{Alphabet}
use Rattle.theory_conjugacy.specs.AscendingLaws.{◌∈◌}

-- every two of them conflict
abbrev pub Clique : Alphabet → List ℕ → Type 0
Clique Γ ks = (j k : ℕ) → j ∈ ks → k ∈ ks → Γ.conf j k ≡ true
