-- For the reader, and cited by no other file: small catalogues of either edition and the line of the manual's table
-- that refuses each, computed from the definitions.
use Rattle.std.specs.Prelude.{ℕ, ◌≡◌, refl, true, false, List, [], ◌∷◌, replicate}
use Rattle.std.proofs.Math.Option.{Option, none, some}
use Rattle.spec.specs.Table.{Line, line, first_line, first_of}
use Rattle.spec.specs.Catalogue.{ends, follow, chain, stands, catalogue_lines}
use Rattle.spec.specs.Conflict.{names, conflict_by, conflict}
use Rattle.spec.specs.Editions.{wide_heads, wide_records, rewritten}
use Rattle.spec.specs.Cases.{K}

abbrev line_for : List ℕ → Option Line
line_for c = first_line (catalogue_lines c)

too_short : line_for (0 ∷ []) ≡ some (line 1 0 0)
unfolding first_of
too_short = refl

-- line 5 is decided before line 6: command 1 stands in its own chain, and the chain of command 2 doesn't end
endless_first : line_for (2 ∷ 2 ∷ 1 ∷ 2 ∷ 1 ∷ 0 ∷ 1 ∷ 2 ∷ []) ≡ some (line 5 0 3)
unfolding first_of ends follow stands
endless_first = refl

-- line 3 is decided before line 4: record 1 has command 0 and a next index above R
index_first : line_for (2 ∷ 1 ∷ 0 ∷ 0 ∷ 0 ∷ 2 ∷ []) ≡ some (line 3 0 5)
unfolding first_of
index_first = refl

head_above : line_for (1 ∷ 0 ∷ 1 ∷ []) ≡ some (line 3 0 2)
unfolding first_of
head_above = refl

-- a record whose next is itself is refused only where a chain reaches it
loop_unreached : line_for (2 ∷ 1 ∷ 0 ∷ 0 ∷ 1 ∷ 1 ∷ []) ≡ none
unfolding first_of ends follow stands
loop_unreached = refl

loop_reached : line_for (2 ∷ 1 ∷ 0 ∷ 1 ∷ 1 ∷ 1 ∷ []) ≡ some (line 5 0 3)
unfolding first_of ends follow stands
loop_reached = refl

own_chain : line_for (1 ∷ 1 ∷ 1 ∷ 1 ∷ 0 ∷ []) ≡ some (line 6 0 2)
unfolding first_of ends follow stands
own_chain = refl

abbrev shared : List ℕ
shared = 3 ∷ 2 ∷ 1 ∷ 2 ∷ 0 ∷ 2 ∷ 2 ∷ 3 ∷ 0 ∷ []

-- two chains may share a tail
shared_tail : line_for shared ≡ none
unfolding first_of ends follow stands
shared_tail = refl

-- N = 25 in a catalogue of the wrong size
size_first : line_for (25 ∷ 0 ∷ []) ≡ some (line 1 0 0)
unfolding first_of
size_first = refl

-- the manual's catalogue K
K_passes : line_for K ≡ none
unfolding first_of ends follow stands
K_passes = refl

K-conflict : (conflict K 3 2 ≡ true) × (conflict K 1 3 ≡ false)
unfolding conflict_by names follow stands
K-conflict = (refl, refl)

K_chains : (chain K 0 ≡ []) × (chain K 1 ≡ 2 ∷ []) × (chain K 4 ≡ []) × (chain K 5 ≡ [])
unfolding follow
K_chains = (refl, refl, refl, refl)

-- The second edition

second_short : line_for (128 ∷ []) ≡ some (line 1 0 0)
unfolding first_of
second_short = refl

second_empty : line_for (128 ∷ 0 ∷ 0 ∷ []) ≡ none
unfolding first_of
second_empty = refl

-- N = 25 in a catalogue of the right size
second_count : line_for (153 ∷ 0 ∷ 0 ∷ replicate 50 0) ≡ some (line 2 0 0)
unfolding first_of
second_count = refl

-- N = 24 and R = 1,025 in a catalogue of the right size
second_most : line_for (152 ∷ 1 ∷ 4 ∷ replicate 3123 0) ≡ some (line 17 0 1)
unfolding first_of
second_most = refl

-- line 2 is decided before line 17
second_count_first : line_for (153 ∷ 1 ∷ 4 ∷ replicate 3125 0) ≡ some (line 2 0 0)
unfolding first_of
second_count_first = refl

-- an index of 256 is refused at its low byte
second_head_above : line_for (129 ∷ 1 ∷ 0 ∷ 0 ∷ 1 ∷ 1 ∷ 0 ∷ 0 ∷ []) ≡ some (line 3 0 3)
unfolding first_of
second_head_above = refl

second_next_above : line_for (129 ∷ 1 ∷ 0 ∷ 0 ∷ 0 ∷ 1 ∷ 0 ∷ 1 ∷ []) ≡ some (line 3 0 6)
unfolding first_of
second_next_above = refl

second_record : line_for (129 ∷ 1 ∷ 0 ∷ 0 ∷ 0 ∷ 2 ∷ 0 ∷ 0 ∷ []) ≡ some (line 4 0 5)
unfolding first_of
second_record = refl

second_endless : line_for (130 ∷ 1 ∷ 0 ∷ 0 ∷ 0 ∷ 1 ∷ 0 ∷ 1 ∷ 1 ∷ 0 ∷ []) ≡ some (line 5 0 5)
unfolding first_of ends follow stands
second_endless = refl

second_own : line_for (129 ∷ 1 ∷ 0 ∷ 1 ∷ 0 ∷ 1 ∷ 0 ∷ 0 ∷ []) ≡ some (line 6 0 3)
unfolding first_of ends follow stands
second_own = refl

-- K, written in the second edition
K-rewritten : rewritten K
    ≡ 132 ∷ 3 ∷ 0 ∷ 1 ∷ 0 ∷ 2 ∷ 0 ∷ 3 ∷ 0 ∷ 0 ∷ 0 ∷ 2 ∷ 0 ∷ 0 ∷ 3 ∷ 0 ∷ 0 ∷ 4 ∷ 0 ∷ 0 ∷ []
unfolding wide_heads wide_records
K-rewritten = refl

K-rewritten_passes : line_for (rewritten K) ≡ none
unfolding first_of ends follow stands wide_heads wide_records
K-rewritten_passes = refl

K-rewritten_chains : (chain (rewritten K) 0 ≡ []) × (chain (rewritten K) 1 ≡ 2 ∷ []) × (chain (rewritten K) 2 ≡ 3 ∷ [])
    × (chain (rewritten K) 3 ≡ 4 ∷ []) × (chain (rewritten K) 4 ≡ []) × (chain (rewritten K) 5 ≡ [])
unfolding follow wide_heads wide_records
K-rewritten_chains = (refl, refl, refl, refl, refl, refl)
