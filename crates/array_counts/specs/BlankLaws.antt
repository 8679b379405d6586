-- The blank heights are 24, and each is 0.
use Rattle.std.specs.Prelude.{ℕ, ◌<◌, ◌≡◌, refl, length, get_or}
use Rattle.std.proofs.lemmas.List.{get_or-replicate}
use Rattle.array_counts.specs.Blank.{blank_heights}

pub blank_zero : (i : ℕ) → i < 24 → get_or blank_heights i 0 ≡ 0
unfolding blank_heights
blank_zero i l = get_or-replicate 24 i 0 0 l

pub blank_many : length blank_heights ≡ 24
unfolding blank_heights
blank_many = refl
