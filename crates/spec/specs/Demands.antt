-- What was bought: the demands, as statements without proofs. The contract of each call says that the call, on any
-- bytes, answers what its definition says (Calls, Slots, Precedence, Loops) and leaves its areas as that says; here
-- stands what that is worth, over steps (Step), their order (Order), pairs (Core), lead-ins (Join), slots (Slots),
-- arrangements (Precedence), rounds (Rounds) and bits (Bits) alone, and that no input reached the line that is retired
-- (Retired). The crate spec_laws proves each demand as one value (DemandsMet), the crate loops_framing that of the
-- program's input.
use Rattle.std.specs.Prelude.{ℕ, ◌+◌, ◌*◌, ◌^◌, ◌≤◌, ◌<◌, ◌≡◌, Bool, true, false, ◌↔◌, ◌⊎◌, length, take, drop, get_or}
use mathlib.Core.List.{List, [], ◌++◌, Memᴰ}
use Rattle.std.proofs.Math.Option.{Option, none, some}
use Rattle.std.specs.Int.Bits.{bit_and}
use Rattle.theory_words.specs.All.{All}
use Rattle.spec.specs.declared.Reason.{Reason}
use Rattle.spec.specs.Table.{Line, line, number_of, Answer, refused, given, first_line, or_else, or_kept}
use Rattle.spec.specs.Table.{NoneHolds, FirstHolds}
use Rattle.spec.specs.Catalogue.{commands, count_line, catalogue_lines}
use Rattle.spec.specs.Plan.{plan_lines}
use Rattle.spec.specs.Conflict.{Names, conflict, Conflicting}
use Rattle.spec.specs.Byte.{command_of, undone, undo_of}
use Rattle.spec.specs.Step.{Command, Equal}
use Rattle.spec.specs.Order.{Earlier}
use Rattle.spec.specs.Join.{Joins}
use Rattle.spec.specs.Core.{Swaps, Least, CyclicallyReduced, TakenOff}
use Rattle.spec.specs.Answers.{yes_no, FormCounts, SlotCounts, DecidedLoops, CheckedLeadIn}
use Rattle.spec.specs.Pairs.{pair_numbers, Accounts}
use Rattle.spec.specs.Calls.{plan_limit, normal_form_answer, normal_form_area, core_form, core_answer, core_area}
use Rattle.spec.specs.Calls.{catalogue_answer, catalogue_table, normal_form_lines, equal_lines, equal_answer}
use Rattle.spec.specs.Calls.{paired_lines, paired_answer, paired_area, paired_numbers}
use Rattle.spec.specs.Letters.{normal_form}
use Rattle.spec.specs.Slots.{Fits, Numbered, slots_lines, slots_answer, slots_area, slots_numbers}
use Rattle.spec.specs.Precedence.{StaysBefore, Chain, FirstFaulty, places_line, precedence_lines, precedence_answer}
use Rattle.spec.specs.Rounds.{IsPart, Settles, Needs}
use Rattle.spec.specs.Bits.{Within, Gathered}
use Rattle.spec.specs.Loops.{loops_lines, Looped, LeadIn, check_lines, check_answer}
use Rattle.spec.specs.Retired.{unsettled_lines}
use Rattle.spec.specs.Fault.{fault_lines, fault_answer}
use Rattle.spec.specs.Notation.{Items, Text, Wrong, plan_of, size_of, nesting_of}
use Rattle.spec.specs.WriteOut.{items_of, text_line, nesting_line, text_fault}
use Rattle.spec.specs.WriteOut.{write_out_lines, write_out_answer, write_out_area}
use Rattle.spec.specs.Framing.{Framed, well_framed, catalogue_of, plan1_of, plan2_of}
use Rattle.spec.specs.Listing.{Printed}
use Rattle.spec.specs.Program.{program_lines, program_answer}
use Rattle.spec.specs.Editions.{rewritten, SayTheSame, SameAnswers}

-- Demand 1. A call with the lines ls and the result a is refused exactly by the first line that holds, and gives its
-- result exactly if none does; a refusal leaves what was lent as it was.
pub record Demand1 : Type 1 where
  pub refused_exactly : {A : Type 0} (ls : List (Option Line)) (a : A) (l : Line)
      → (or_else (first_line ls) a ≡ refused l) ↔ FirstHolds l ls
  pub given_exactly : {A : Type 0} (ls : List (Option Line)) (a : A)
      → (or_else (first_line ls) a ≡ given a) ↔ NoneHolds ls
  pub untouched : {A : Type 0} (ls : List (Option Line)) (new old : A) {l : Line} → FirstHolds l ls
      → or_kept (first_line ls) new old ≡ old

-- Reading a catalogue. The answer to one that is not refused is N, at most 24, and in the lent table number j of row i
-- is 1 if commands i + 1 and j + 1 conflict and else 0. The test of two commands is exact.
pub record CatalogueDemand : Type 0 where
  pub number : (c : List ℕ) (n : ℕ) → catalogue_answer c ≡ given n → (n ≡ commands c) × (n ≤ 24)
  pub table : (c : List ℕ) (t : List (List ℕ)) (n : ℕ) → catalogue_answer c ≡ given n → (i j : ℕ) → i < 24 → j < 24
      → get_or (get_or (catalogue_table c t) i []) j 0 ≡ yes_no (conflict c (i + 1) (j + 1))
  pub conflicts : (c : List ℕ) (a b : ℕ) → (conflict c a b ≡ true) ↔ Conflicting c a b

-- The two editions of the catalogue. A catalogue of the first edition (byte 0 below 128) and its writing in the second
-- pass together, or are refused by lines of the same number; where they pass, they have the same N and name the same
-- pairs. Two catalogues that name the same pairs, of whichever editions, have the same conflicts. Where both pass and
-- have the same N, two plans are equal under one exactly if they are under the other, and every call is promised the
-- same answer and areas; of two joined loops the lead-in is as free under one as under the other. So each demand on
-- plans and loops speaks of both editions.
pub record EditionsDemand : Type 0 where
  pub passes : (c : List ℕ) → get_or c 0 0 < 128
      → NoneHolds (catalogue_lines (rewritten c)) ↔ NoneHolds (catalogue_lines c)
  pub refused : (c : List ℕ) → get_or c 0 0 < 128 → (l : Line) → FirstHolds l (catalogue_lines c)
      → (k : Line) × FirstHolds k (catalogue_lines (rewritten c)) × (k.number ≡ l.number)
  pub says_the_same : (c : List ℕ) → get_or c 0 0 < 128 → NoneHolds (catalogue_lines c)
      → SayTheSame c (rewritten c)
  pub conflicts : (c d : List ℕ) → ((a b : ℕ) → Names c a b ↔ Names d a b)
      → (a b : ℕ) → conflict c a b ≡ conflict d a b
  pub equal : (c d v w : List ℕ) → SayTheSame c d → Equal c v w ↔ Equal d v w
  pub answers : (c d : List ℕ) → SayTheSame c d → SameAnswers c d

-- z has the effect of v, is no longer than any plan that has it, and is the first of those of its length
pub record Shortest (c v z : List ℕ) : Type 0 where
  pub equal : Equal c z v
  pub least : Least c z
  pub first : (x : List ℕ) → Equal c x v → length x ≡ length z → (x ≡ z) ⊎ Earlier z x

-- Demand 2. Two plans that are not refused are called equal exactly if a chain of steps joins them. Of a plan that is
-- not refused, the first L bytes of the area are the shortest equal plan and, of those, the first in the order.
pub record Demand2 : Type 0 where
  pub equal : (c v w : List ℕ) (b : Bool) → equal_answer c v w ≡ given b → (b ≡ true) ↔ Equal c v w
  pub normal_form : (c v area : List ℕ) (l : ℕ) → normal_form_answer c v area ≡ given l
      → (length (take l (normal_form_area c v area)) ≡ l) × Shortest c v (take l (normal_form_area c v area))

-- What cancelled. A normal form call with a second area is refused exactly for what one without is, or else by line 12,
-- for an area of fewer numbers than the plan has bytes. Where it is not refused, its length and its first area are
-- those of the call without, and the second area starts with the M pairs told, two numbers each: what the reading from
-- left to right finds, in its order. Past them it is as it was. That reading accounts for every letter of the plan.
pub record PairsDemand : Type 0 where
  pub refused_alike : (c v area pairs : List ℕ) (l : Line) → FirstHolds l (paired_lines c v area pairs)
      ↔ (FirstHolds l (normal_form_lines c v area)
      ⊎ (NoneHolds (normal_form_lines c v area) × (length pairs < length v) × (l ≡ line 12 0 1)))
  pub form_alike : (c v area pairs : List ℕ) (k : FormCounts) → paired_answer c v area pairs ≡ given k
      → (normal_form_answer c v area ≡ given k.length) × (paired_area c v area pairs ≡ normal_form_area c v area)
  pub pairs : (c v area pairs : List ℕ) (k : FormCounts) → paired_answer c v area pairs ≡ given k
      → (length (take (2 * k.pairs) (paired_numbers c v area pairs)) ≡ 2 * k.pairs)
      × (take (2 * k.pairs) (paired_numbers c v area pairs) ≡ pair_numbers c v)
      × (drop (2 * k.pairs) (paired_numbers c v area pairs) ≡ drop (2 * k.pairs) pairs) × Accounts c v

-- Slots. A slots call is refused exactly for what a normal form call is, or else by line 9 for a second area of fewer
-- numbers than the plan has bytes. Where it is not refused, its length and its first area are those of the normal form
-- call, and the second area starts with a slot for each letter: these fit, each is the smallest that fits, and no other
-- numbers that fit use fewer slots. Past them the second area is as it was.
pub record SlotsDemand : Type 0 where
  pub refused_alike : (c v area numbers : List ℕ) (l : Line) → FirstHolds l (slots_lines c v area numbers)
      ↔ (FirstHolds l (normal_form_lines c v area)
      ⊎ (NoneHolds (normal_form_lines c v area) × (length numbers < length v) × (l ≡ line 9 0 1)))
  pub form_alike : (c v area numbers : List ℕ) (k : SlotCounts) → slots_answer c v area numbers ≡ given k
      → (normal_form_answer c v area ≡ given k.length) × (slots_area c v area numbers ≡ normal_form_area c v area)
  pub slots : (c v area numbers : List ℕ) (k : SlotCounts) → slots_answer c v area numbers ≡ given k
      → (length (take k.length (slots_numbers c v area numbers)) ≡ k.length)
      × Numbered c (take k.length (slots_area c v area numbers)) (take k.length (slots_numbers c v area numbers))
      k.in_use
      × (drop k.length (slots_numbers c v area numbers) ≡ drop k.length numbers)

-- Precedence. A precedence check is refused exactly for what the fault call tells of its plan, or else by line 16, and
-- that exactly at the first faulty pair. Where it is not refused, it says yes exactly if the first letter of each pair
-- stays before the second in every arrangement of the normal form. One letter stays before another exactly if a chain
-- of conflicting letters leads from it to the other, and never before an earlier one; so it has the smaller slot.
pub record PrecedenceDemand : Type 0 where
  pub refused_alike : (c v ns : List ℕ) (l : Line) → FirstHolds l (precedence_lines c v ns)
      ↔ ((fault_answer c v [] [] ≡ some l)
      ⊎ ((fault_answer c v [] [] ≡ none) × (places_line (length (normal_form c v)) ns ≡ some l)))
  pub faulty : (n : ℕ) (ns : List ℕ) (l : Line)
      → (places_line n ns ≡ some l) ↔ ((p : ℕ) × (l ≡ line 16 0 p) × FirstFaulty n ns p)
  pub form : (c v : List ℕ) → fault_answer c v [] [] ≡ none → Shortest c v (normal_form c v)
  pub precedence : (c v ns : List ℕ) (b : Bool) → precedence_answer c v ns ≡ given b
      → (b ≡ true) ↔ ((p : ℕ) → 2 * p < length ns
      → StaysBefore c (normal_form c v) (get_or ns (2 * p) 0) (get_or ns (2 * p + 1) 0))
  pub chain : (c z : List ℕ) (i j : ℕ) → StaysBefore c z i j ↔ Chain c z i j
  pub backwards : (c z : List ℕ) (i j : ℕ) → j ≤ i → ¬ StaysBefore c z i j
  pub smaller : (c z ns : List ℕ) (i j : ℕ) → StaysBefore c z i j → Fits c z ns → get_or ns i 0 < get_or ns j 0

-- z is the core of v: v is equal to some g, z, undo of g; z is cyclically reduced, and a normal form; it is left when
-- pairs are taken off some shortest plan of v's effect, and what is left of any of them, in any way, has its effect
pub record IsCore (c v z : List ℕ) : Type 0 where
  pub product : (g : List ℕ) × Equal c v (g ++ (z ++ undo_of g))
  pub reduced : CyclicallyReduced c z
  pub normal : Shortest c z z
  pub some_way : (x : List ℕ) × Equal c x v × Least c x × TakenOff c x z
  pub any_way : (x y : List ℕ) → Equal c x v → Least c x → TakenOff c x y → Equal c y z

-- The core call. Of a plan that is not refused, the first L bytes of the area are its core.
pub record CoreDemand : Type 0 where
  pub core : (c v area : List ℕ) (l : ℕ) → core_answer c v area ≡ given l
      → (length (take l (core_area c v area)) ≡ l) × IsCore c v (take l (core_area c v area))

-- an answer o to two loops is exact: a length says that some plan u of any length joins them, nothing that none does
pub record Exact (c v w : List ℕ) (o : Option ℕ) : Type 0 where
  pub joined : ((l : ℕ) × (o ≡ some l)) ↔ ((u : List ℕ) × Joins c v w u)
  pub apart : (o ≡ none) ↔ ((u : List ℕ) → ¬ Joins c v w u)

-- Demand 3. A loops call is refused exactly by the first line that holds, and then leaves the area as it was; one that
-- is not refused answers exactly. With each joined pair comes a lead-in: it joins v to w, is a normal form, has at most
-- N(n + m) letters and fills the first L bytes of the area, which past them is as it was. Apart leaves all of it as it
-- was. A lead-in check that is not refused says yes exactly if u joins v to w.
pub record Demand3 : Type 0 where
  pub refused_exactly : {c v w area after : List ℕ} {a : Answer DecidedLoops} → Looped c v w area a after → (l : Line)
      → (a ≡ refused l) ↔ FirstHolds l (loops_lines c v w area)
  pub refused_untouched : {c v w area after : List ℕ} {l : Line} → Looped c v w area (refused l) after → after ≡ area
  pub loops : {c v w area after : List ℕ} {d : DecidedLoops} → Looped c v w area (given d) after
      → Exact c v w d.lead_in
  pub lead_in : {c v w area after : List ℕ} {d : DecidedLoops} {l : ℕ} → Looped c v w area (given d) after
      → d.lead_in ≡ some l → (length (take l after) ≡ l) × LeadIn c v w (take l after) × (drop l after ≡ drop l area)
  pub apart_untouched : {c v w area after : List ℕ} {d : DecidedLoops} → Looped c v w area (given d) after
      → d.lead_in ≡ none → after ≡ area
  pub check : (c v w u area0 area1 : List ℕ) (k : CheckedLeadIn) → check_answer c v w u area0 area1 ≡ given k
      → (k.yes ≡ true) ↔ Joins c v w u

-- the list ks holds every command of x
abbrev pub Holds : List ℕ → List ℕ → Type 0
Holds ks x = All (λ a. Memᴰ (command_of a) ks) x

-- n is the largest number of rounds that a part of x or of y needs; 0 where both are empty
pub record Most (c x y : List ℕ) (n : ℕ) : Type 0 where
  pub none_more : (k : ℕ) → Needs c x k ⊎ Needs c y k → k ≤ n
  pub some_needs : Needs c x n ⊎ Needs c y n ⊎ ((x ≡ []) × (y ≡ []) × (n ≡ 0))

-- How many rounds. A part of a word of commands needs a number of rounds, and no other. That is smaller than the length
-- of every list that holds its commands: a part with s commands never needs more than s - 1 rounds. The number told
-- with joined and with apart alike is the largest that a part of either core needs, and 0 where both cores are empty;
-- so it is 0 or smaller than the number of commands that occur in one of the cores.
pub record RoundsDemand : Type 0 where
  pub ends : {c x y : List ℕ} {m : ℕ} → All (Command c) x → IsPart c x m y → (n : ℕ) × Settles c m n y
  pub one_number : {c x y : List ℕ} {m n k : ℕ} → All (Command c) x → IsPart c x m y → Settles c m n y
      → Settles c m k y → n ≡ k
  pub few : {c x y : List ℕ} {m n : ℕ} → All (Command c) x → IsPart c x m y → Settles c m n y → (ks : List ℕ)
      → Holds ks y → n < length ks
  pub told : {c v w area after : List ℕ} {d : DecidedLoops} → Looped c v w area (given d) after
      → Most c (core_form c v) (core_form c w) d.rounds
  pub told_few : {c v w area after : List ℕ} {d : DecidedLoops} → Looped c v w area (given d) after
      → (ks js : List ℕ) → Holds ks (core_form c v) → Holds js (core_form c w)
      → (d.rounds ≡ 0) ⊎ (d.rounds < length ks) ⊎ (d.rounds < length js)

-- The set test. Just one number gathers 24 numbers, and it is below 2 ^ 24. Take row i of a catalogue's table with its
-- ones gathered, and any 24 numbers with those from low to high gathered, as a set of commands: the two share no bit
-- exactly if command i + 1 conflicts with no command in the set.
pub record SetTestDemand : Type 0 where
  pub some_number : (low high : ℕ) (s : List ℕ) → (n : ℕ) × Gathered low high s n
  pub one_number : {low high n m : ℕ} {s : List ℕ} → Gathered low high s n → Gathered low high s m → n ≡ m
  pub fits : {low high n : ℕ} {s : List ℕ} → Gathered low high s n → n < 2 ^ 24
  pub shares_none : (c : List ℕ) (t : List (List ℕ)) (n : ℕ) → catalogue_answer c ≡ given n → (i : ℕ) → i < 24
      → {a b low high : ℕ} {s : List ℕ} → Gathered 1 1 (get_or (catalogue_table c t) i []) a → Gathered low high s b
      → (bit_and a b ≡ 0) ↔ ((j : ℕ) → Within low high s j → conflict c (i + 1) (j + 1) ≡ false)

-- the fault of catalogue c and plans v, w, u, where there is one, is what a call with the lines ls is refused for; where
-- there is none, the call is refused for an area, by line 9, or not at all
pub record Explains (c v w u : List ℕ) (ls : List (Option Line)) : Type 0 where
  pub refuses : (l : Line) → fault_answer c v w u ≡ some l → FirstHolds l ls
  pub else_area : fault_answer c v w u ≡ none → (l : Line) → FirstHolds l ls → l.number ≡ 9

-- The fault call tells exactly the first of lines 1 to 8 and 17 that holds, of the catalogue or of plan 1, 2 or 3, and
-- so it explains each refusal of each call, with empty plans where the call has fewer (PairsDemand has line 12,
-- PrecedenceDemand line 16).
pub record FaultDemand : Type 0 where
  pub exactly : (c v w u : List ℕ) (l : Line) → (fault_answer c v w u ≡ some l) ↔ FirstHolds l (fault_lines c v w u)
  pub among : (c v w u : List ℕ) (l : Line) → fault_answer c v w u ≡ some l
      → (((1 ≤ l.number) × (l.number ≤ 8)) ⊎ (l.number ≡ 17)) × (l.plan ≤ 3)
  pub catalogue : (c : List ℕ) → Explains c [] [] [] (catalogue_lines c)
  pub form : (c v area : List ℕ) → Explains c v [] [] (normal_form_lines c v area)
  pub slots : (c v area numbers : List ℕ) → Explains c v [] [] (slots_lines c v area numbers)
  pub equal : (c v w : List ℕ) → Explains c v w [] (equal_lines c v w)
  pub loops : (c v w area : List ℕ) → Explains c v w [] (loops_lines c v w area)
  pub check : (c v w u area0 area1 : List ℕ) → Explains c v w u (check_lines c v w u area0 area1)

-- The notation. A text has one reading at most. Line 13 refuses it at place i exactly if it is wrong there, and does
-- not exactly if it has a reading, which the call then takes; line 14 does not exactly if its brackets nest 8 deep at
-- most. A plan has the length that its size tells. Of a text that is not refused, the first L bytes of the area are the
-- plan that it writes out, and past them the area is as it was; lines 7 and 8 let that plan pass. What is told as wrong
-- with a catalogue and a text is what the call is refused for; where nothing is, it is refused for the area or not at
-- all.
pub record NotationDemand : Type 0 where
  pub one_reading : (s : List ℕ) (t u : Items) → Text s t → Text s u → t ≡ u
  pub wrong : (s : List ℕ) (i : ℕ) → (text_line s ≡ some (line 13 1 i)) ↔ Wrong s i
  pub text : (s : List ℕ) → (text_line s ≡ none) ↔ ((t : Items) × Text s t)
  pub taken : (s : List ℕ) (t : Items) → Text s t → items_of s ≡ t
  pub nesting : (s : List ℕ) (t : Items) → Text s t → (nesting_line s ≡ none) ↔ (nesting_of t ≤ 8)
  pub size : (t : Items) → length (plan_of t) ≡ size_of t
  pub write_out : (c s area : List ℕ) (l : ℕ) → write_out_answer c s area ≡ given l
      → (t : Items) × Text s t × (length (take l (write_out_area c s area)) ≡ l)
      × (take l (write_out_area c s area) ≡ plan_of t) × (drop l (write_out_area c s area) ≡ drop l area)
      × NoneHolds (plan_lines 1 plan_limit (commands c) (plan_of t))
  pub fault : (c s area : List ℕ) (l : Line) → text_fault c s ≡ some l → FirstHolds l (write_out_lines c s area)
  pub else_area : (c s area : List ℕ) → text_fault c s ≡ none → (l : Line) → FirstHolds l (write_out_lines c s area)
      → l ≡ line 9 0 0

-- The program's input is computed to be well framed exactly if it is some catalogue and two plans, well framed, and
-- then those are the parts that are computed.
pub record FramingDemand : Type 0 where
  pub parts : (s : List ℕ) → well_framed s ≡ true → Framed s (catalogue_of s) (plan1_of s) (plan2_of s)
  pub whole : {s c v w : List ℕ} → Framed s c v w
      → (well_framed s ≡ true) × (c ≡ catalogue_of s) × (v ≡ plan1_of s) × (w ≡ plan2_of s)

-- The program. What it prints to an input that is not refused says joined exactly if some u joins the two plans; the
-- number behind it is that of the letters in the core of either.
pub record ProgramDemand : Type 0 where
  pub verdict : (s text : List ℕ) (o : Option ℕ) → program_answer s ≡ given o → Printed (program_answer s) text
      → ((l : ℕ) × Printed (given (some l)) text) ↔ ((u : List ℕ) × Joins (catalogue_of s) (plan1_of s) (plan2_of s) u)
  pub either_core : (s : List ℕ) (l : ℕ) → program_answer s ≡ given (some l)
      → (l ≡ length (core_form (catalogue_of s) (plan1_of s))) × (l ≡ length (core_form (catalogue_of s) (plan2_of s)))

-- Line 10, retired. Where no line refuses two plans, no part of either core is unsettled after N rounds. Line 10 stood
-- behind the lines of the loops call and of the program; put back there, it refuses no bytes as catalogue and plans. So
-- each input is refused by the line that refused it before, or by none as before. No refusal has its number any more.
pub record RetiredDemand : Type 0 where
  pub settled : (c v w : List ℕ) → NoneHolds (program_lines c v w) → NoneHolds (unsettled_lines c v w)
  pub loops : (c v w area : List ℕ) (p i : ℕ)
      → ¬ FirstHolds (line 10 p i) (loops_lines c v w area ++ unsettled_lines c v w)
  pub program : (c v w : List ℕ) (p i : ℕ) → ¬ FirstHolds (line 10 p i) (program_lines c v w ++ unsettled_lines c v w)
  pub loops_same : (c v w area : List ℕ)
      → first_line (loops_lines c v w area ++ unsettled_lines c v w) ≡ first_line (loops_lines c v w area)
  pub program_same : (c v w : List ℕ)
      → first_line (program_lines c v w ++ unsettled_lines c v w) ≡ first_line (program_lines c v w)
  pub unused : (r : Reason) → ¬ (number_of r ≡ 10)

-- What the manual says of all plans: with at most 24 commands each differs from its undo, and all shortest plans of
-- one effect differ by swaps alone.
pub record PlansDemand : Type 0 where
  pub undo_differs : (c : List ℕ) (b : ℕ) → count_line c ≡ none → Command c b → ¬ (undone b ≡ b)
  pub swaps_alone : (c x y : List ℕ) → Equal c x y → Least c x → Least c y → Swaps c x y
