-- For the reader, and cited by no other file: the starred cases hold, the definitions of the calls compute each row of
-- the table.
use Rattle.std.specs.Prelude.{ℕ, ◌≤◌, ◌≡◌, refl, true, false, List, [], ◌∷◌, ◌++◌, length, drop}
use Rattle.std.proofs.Math.Option.{none}
use Rattle.std.proofs.Common.{arith}
use Rattle.std.proofs.Math.Decide.{ℕ_discrete}
use Rattle.theory_words.specs.Alike.{agree_step, agree}
use Rattle.theory_words.specs.Reduce.{without_step, without, act_step, act, reduce}
use Rattle.theory_words.specs.Normal.{meets, firsts, least_step, least, rest, lex_step, lex, nf}
use Rattle.theory_words.specs.Filter.{keep_if, filter}
use Rattle.theory_conjugacy.specs.Core as Core
use Rattle.theory_conjugacy.specs.Core.{without_last, between, pair_step, pair, peels_step, peels, core}
use Rattle.theory_conjugacy.specs.Part.{insert_step, insert, relabel_step, relabel, merge_step}
use Rattle.theory_conjugacy.specs.Part.{merge, merge_row, merge_all, labels, label, apexes, share, part}
use Rattle.theory_conjugacy.specs.Part as Part
use Rattle.theory_conjugacy.specs.Settle.{hit, put, split, settled_step, settled, ring, counted_step, counted}
use Rattle.theory_conjugacy.specs.Rounds.{part_rounds, most_rounds, core_rounds}
use Rattle.theory_conjugacy.specs.Rotation.{search_step, search, rotation}
use Rattle.theory_conjugacy.specs.Decision.{found?, settled_ring, part_ring, rotated?, parts_joined?}
use Rattle.theory_conjugacy.specs.Decision.{cores_joined?, joined?}
use Rattle.theory_schedules.specs.Precedence.{raised}
use Rattle.spec.specs.Table.{given, first_line, first_of}
use Rattle.spec_laws.specs.TableLaws.{none_holds}
use Rattle.spec.specs.Catalogue.{ends, follow, stands}
use Rattle.spec.specs.Conflict.{names, conflict_by}
use Rattle.spec.specs.Plan.{is_command, passes}
use Rattle.spec.specs.Byte.{undone}
use Rattle.spec.specs.Letters.{letters, alphabet, normal_form}
use Rattle.spec.specs.Pairs.{partner, read_byte, read_from, reading}
use Rattle.spec.specs.Calls.{core_form}
use Rattle.spec.specs.Slots.{above, slots_after, different}
use Rattle.spec.specs.Precedence.{leads}
use Rattle.spec.specs.Join.{Joins}
use Rattle.spec.specs.Rounds.{loops_rounds}
use Rattle.spec.specs.Loops.{lead_in_room, loops_lines, apart, joined}
use Rattle.spec.specs.Loops.{check_answer, check_area0, check_area1}
use Rattle.spec_laws.specs.DemandsMet.{demand_3}
use Rattle.spec.specs.Cases.{K, undo1, undo2, room, Yields, StarredCases}
use Rattle.spec.specs.Cases as row

infixr 20 ◌&◌
◌&◌ : {A B : Type 0} → A → B → A × B
a & b = (a, b)

-- a row of two joined loops, from what is computed: the check says that u is a lead-in
joined-row : (v w u z : List ℕ) (r : ℕ) → first_line (loops_lines K v w (room v w)) ≡ none
    → joined? (alphabet K) (letters v) (letters w) ≡ true → loops_rounds K v w ≡ r → normal_form K u ≡ u
    → length u ≤ lead_in_room K v w
    → check_answer K v w u (v ++ u) (u ++ w) ≡ given (record { yes = true; vu = length z; uw = length z })
    → check_area0 K v w u (v ++ u) (u ++ w) ≡ z ++ drop (length z) (v ++ u)
    → check_area1 K v w u (v ++ u) (u ++ w) ≡ z ++ drop (length z) (u ++ w)
    → Yields (row.joined v w u z r)
joined-row v w u z r e d q n s k a0 a1 =
    let j : Joins K v w u = (demand_3.check K v w u (v ++ u) (u ++ w) _ k).0 refl in (
      (none_holds (loops_lines K v w (room v w))).0 e,
      rw (← q) (joined e d (record { normal = n; joins = j; short = s })),
      k,
      a0,
      a1,
    )

apart-row : (v w : List ℕ) (r : ℕ) → first_line (loops_lines K v w (room v w)) ≡ none
    → joined? (alphabet K) (letters v) (letters w) ≡ false → loops_rounds K v w ≡ r → Yields (row.apart v w r)
apart-row v w r e d q = ((none_holds (loops_lines K v w (room v w))).0 e, rw (← q) (apart e d))

pub starred_hold : StarredCases
unfolding first_of without_step without act_step act reduce meets firsts least_step least rest
    lex_step lex nf ends follow stands names conflict_by is_command passes undone letters normal_form ℕ_discrete
    Core.undone without_last between pair_step pair peels_step peels core core_form insert_step insert
    relabel_step relabel merge_step Part.commands merge merge_row merge_all labels label apexes share part hit
    put split settled_step settled ring counted_step counted part_rounds most_rounds core_rounds loops_rounds
    agree_step agree search_step search rotation found? settled_ring part_ring rotated? parts_joined? cores_joined?
    joined? keep_if filter partner read_byte read_from reading above slots_after different raised leads
starred_hold =
    (refl, refl)
    & (refl, refl)
    & (refl, refl)
    & (refl, refl)
    & (refl, refl)
    & (refl, refl)
    & (refl, refl)
    & (refl, refl)
    & refl
    & joined-row (1 ∷ 2 ∷ []) (2 ∷ 1 ∷ []) (1 ∷ []) (1 ∷ 2 ∷ 1 ∷ []) 1 refl refl refl refl (omega arith) refl refl refl
    & joined-row (1 ∷ 2 ∷ []) (2 ∷ 1 ∷ []) (undo2 ∷ []) (1 ∷ []) 1 refl refl refl refl (omega arith) refl refl refl
    & apart-row (1 ∷ []) (undo1 ∷ []) 0 refl refl refl
    & apart-row (1 ∷ 2 ∷ 1 ∷ undo2 ∷ []) (1 ∷ 1 ∷ []) 1 refl refl refl
    & joined-row (1 ∷ 2 ∷ 3 ∷ 4 ∷ []) (1 ∷ 2 ∷ 3 ∷ 4 ∷ []) [] (1 ∷ 2 ∷ 3 ∷ 4 ∷ []) 3
    refl refl refl refl (omega arith) refl refl refl
    & apart-row (1 ∷ []) (1 ∷ 2 ∷ 3 ∷ 4 ∷ []) 3 refl refl refl
    & joined-row [] [] [] [] 0 refl refl refl refl (omega arith) refl refl refl
    & (refl, refl)
    & (refl, refl, refl)
    & (refl, refl, refl)
    & (refl, refl, refl)
    & (refl, refl, refl)
    & (refl, refl, refl)
    & (refl, refl, refl)
    & (refl, refl, refl)
    & (refl, refl, refl)
    & (refl, refl, refl)
    & (refl, refl, refl)
    & refl
    & refl
    & refl
    & refl
    & refl
    & refl
    & refl
    & tt
