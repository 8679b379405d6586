-- Reduction and the normal form bring in no letter: what holds of every letter of a word holds of theirs.
use mathlib.Core.List.{[], ◌∷◌}
use Rattle.theory_words.specs.Alphabet.{Alphabet, Word}
use Rattle.theory_words.specs.All.{All, all_pick, all_along}
use Rattle.theory_words.specs.TraceLaws.{~_sym}
use Rattle.theory_words.specs.Reduce.{reduce}
use Rattle.theory_words.specs.ReduceLaws.{Act, cut, put, acts}
use Rattle.theory_words.specs.Normal.{nf}
use Rattle.theory_words.specs.NormalLaws.{nf-~}

module _ (Γ : Alphabet) (P : Γ.Letter → Type 0) where
  pub all_act : {a : Γ.Letter} {w r : Word Γ} → Act Γ a w r → P a → All P w → All P r
  all_act (cut p) h k = (all_pick Γ P p k).1
  all_act (put n) h k = (h, k)

  pub all_reduce : (w : Word Γ) → All P w → All P (reduce Γ w)
  unfolding reduce
  all_reduce [] h = tt
  all_reduce (a ∷ w) h = all_act (acts Γ a (reduce Γ w)) h.0 (all_reduce w h.1)

  pub all_nf : (w : Word Γ) → All P w → All P (nf Γ w)
  all_nf w h = all_along Γ P (~_sym Γ (nf-~ Γ w)) (all_reduce w h)
