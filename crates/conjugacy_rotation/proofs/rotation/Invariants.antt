-- The rings agree from none of the places passed; from the next they agree up to the blocks that are left, of the letters
-- before the end of the ring and then of those past it. Assumes nothing.
use Rattle.std.proofs.Common.{ℕ, ◌≡◌, ◌-◌, ◌<◌, length, max, take, drop, None}
use Rattle.std.specs.Iterator.Adapters.{zip_first, zip_second}
use Rattle.std.specs.Slice.Iter.{chunks_rest, chunks_size}
use Rattle.theory_conjugacy.specs.Rotation.{rotate}
use Rattle.conjugacy_rotation.specs.Blocks.{Agreed}
use Rattle.conjugacy_rotation.proofs.rotation.Given as goal

abbrev pub invariant-starts : goal.invariant-starts
invariant-starts l =
    (l.found ≡ None) × (l.i-end ≡ max 1 (length l.ring)) × ((k : ℕ) → k < l.i → rotate k l.ring ≡ l.other → ⊥)

abbrev pub invariant-loop-a : goal.invariant-loop-a
invariant-loop-a l =
    let a = zip_first l.a-iterator in
    let b = zip_second l.a-iterator in
    (chunks_size a ≡ 64) × (chunks_size b ≡ 64)
    × Agreed (drop l.i l.ring) (take (length l.ring - l.i) l.other) (chunks_rest a) (chunks_rest b)

abbrev pub invariant-loop-a-2 : goal.invariant-loop-a-2
invariant-loop-a-2 l =
    let a = zip_first l.a-iterator in
    let b = zip_second l.a-iterator in
    (chunks_size a ≡ 64) × (chunks_size b ≡ 64)
    × Agreed (take l.i l.ring) (drop (length l.ring - l.i) l.other) (chunks_rest a) (chunks_rest b)
