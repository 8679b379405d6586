-- A word with one apex is its only part.
use Rattle.std.specs.Prelude.{ℕ, true, ◌≡◌}
use Rattle.std.proofs.Common.{subst}
use mathlib.Core.List.Memᴰ
use mathlib.Core.List.{List, [], ◌∷◌}
use Rattle.std.proofs.Math.Dec.{eqb}
use borrow.Author.Tests.{eq-eqb}
use Rattle.theory_words.specs.Alphabet.{Alphabet, Word}
use Rattle.theory_words.specs.FilterLaws.{filter_whole}
use Rattle.theory_conjugacy.specs.AscendingLaws.{◌∈◌}
use Rattle.theory_conjugacy.specs.CommandLaws.{Occurs, occurs_all}
use Rattle.theory_conjugacy.specs.Part.{label, apexes, share, part}
use Rattle.theory_conjugacy.specs.PartLaws.{label_apex}

module _ (Γ : Alphabet) where
  open Γ use {Letter, cmd}

  pub part_whole : (m : ℕ) (w : Word Γ) → apexes Γ w ≡ m ∷ [] → part Γ m w ≡ w
  unfolding part share
  part_whole m w e = filter_whole (λ a. eqb (label Γ w (cmd a)) m) w
      (occurs_all Γ (λ k. eqb (label Γ w k) m ≡ true) w (λ k o. eq-eqb (label Γ w k) m (own k o)))
    where
      own : (k : ℕ) → Occurs Γ k w → label Γ w k ≡ m
      own k o = Memᴰ.eq_of_singleton (subst (λ (ms : List ℕ). label Γ w k ∈ ms) e (label_apex Γ o))
