-- For the reader, and cited by no other file: the demands are met, each is a value of its statement in the crate spec.
use Rattle.std.specs.Prelude.{ℕ, ◌+◌, ◌*◌, ◌≤◌, ◌<◌, ◌≡◌, refl, Bool, true, false, List, [], ◌∷◌, ◌++◌, ◌↔◌, length, take, drop, get_or, ltb}
use Rattle.std.proofs.Common.{sym, ◌∙◌, ap, subst, inl, arith, take_at, drop_at}
use Rattle.std.proofs.Math.Option.{Option, none, some}
use Rattle.std.specs.Int.Bits.{bit_and}
use Rattle.std.proofs.Math.Seq.{take-append_seam, drop-append_seam}
use Rattle.theory_words.specs.Alike.{alike?}
use Rattle.theory_words.specs.AlikeLaws.{alike_exact}
use Rattle.spec.specs.Table.{Line, line, Answer, refused, given, first_line, or_else, or_kept, NoneHolds, FirstHolds}
use Rattle.spec_laws.specs.TableLaws.{none_holds, first_holds, none_left, none_right, none-some, some_same}
use Rattle.spec_laws.specs.LineLaws.{holds_up_to}
use Rattle.spec.specs.Catalogue.{commands, catalogue_lines}
use Rattle.spec.specs.Conflict.{conflict}
use Rattle.spec_laws.specs.ConflictLaws.{conflict_exact, rows_tell, conflict_same}
use Rattle.spec_laws.specs.EditionLaws.{rewritten_passes, rewritten_refused, rewritten_same}
use Rattle.spec_laws.specs.SameLaws.{same_equal, same_answers}
use Rattle.spec.specs.Plan.{plan_lines, Passing}
use Rattle.spec_laws.specs.PlanLaws.{lines_pass, passing_append}
use Rattle.spec.specs.Letters.{normal_form}
use Rattle.spec_laws.specs.NormalFormLaws.{normal_shortest, equal_normal}
use Rattle.spec_laws.specs.CommandLaws.{command_differs}
use Rattle.spec_laws.specs.SwapLaws.{swaps_alone}
use Rattle.spec_laws.specs.CoreFormLaws.{core_of}
use Rattle.spec_laws.specs.SearchLaws.{given_not}
use Rattle.spec.specs.Step.{Equal}
use Rattle.spec.specs.Demands.{Demand1, Demand2, Demand3, Shortest, Exact, IsCore}
use Rattle.spec.specs.Demands.{CatalogueDemand, PairsDemand, CoreDemand, RoundsDemand, FaultDemand, ProgramDemand}
use Rattle.spec.specs.Demands.{EditionsDemand, SlotsDemand, PrecedenceDemand, SetTestDemand, RetiredDemand, PlansDemand}
use Rattle.spec.specs.Calls.{plan_limit, area_line, area_after, normal_form_lines, normal_form_answer, normal_form_area}
use Rattle.spec.specs.Calls.{catalogue_answer, catalogue_table, core_form, core_answer, core_area, equal_lines, equal_answer}
use Rattle.spec.specs.Calls.{paired_lines, paired_counts, paired_answer, paired_area, paired_numbers}
use Rattle.spec.specs.Answers.{yes_no, FormCounts, SlotCounts, DecidedLoops, CheckedLeadIn}
use Rattle.spec.specs.Pairs.{reading, pair_numbers, Accounts}
use Rattle.spec_laws.specs.ReadingLaws.{numbers_length, accounts}
use Rattle.spec_laws.specs.PairedLaws.{form_few, form_passes, paired_refused, paired_none}
use Rattle.spec.specs.Slots.{slots, Numbered, slots_lines, slot_counts, slots_answer, slots_area, slots_numbers}
use Rattle.spec_laws.specs.SlotsLaws.{slots_length, numbered, slots_refused, slots_none}
use Rattle.spec.specs.Precedence.{StaysBefore, all_lead, precedence_lines, precedence_answer}
use Rattle.spec_laws.specs.PrecedenceLaws.{chain_exact, backwards, stays_smaller}
use Rattle.spec_laws.specs.PlacesLaws.{faulty_exact, all_stay, fault_passes}
use Rattle.spec_laws.specs.PlacesLaws.{precedence_refused, precedence_passes}
use Rattle.spec.specs.Loops.{lead_in_room, loops_lines, Looped, refuses, apart, joined, LeadIn}
use Rattle.spec.specs.Loops.{check_lines, check_result, check_answer}
use Rattle.spec.specs.Retired.{unsettled_lines}
use Rattle.spec_laws.specs.RetiredLaws.{plans_settled, retired_same, never_ten, number_unused}
use Rattle.spec.specs.Bits.{Within, Gathered}
use Rattle.spec_laws.specs.BitsLaws.{gathered_once, gathered_fits, share_none}
use Rattle.spec_laws.specs.GatherLaws.{gathered_some}
use Rattle.spec_laws.specs.RoundsLaws.{part_settles, part_number, part_few, rounds_told, rounds_few}
use Rattle.spec.specs.Fault.{fault_lines, fault_answer}
use Rattle.spec_laws.specs.FaultLaws.{catalogue_explained, form_explained, equal_explained, loops_explained}
use Rattle.spec_laws.specs.FaultLaws.{slots_explained, check_explained, fault_numbered}
use Rattle.spec_laws.specs.VerdictLaws.{verdict_printed, verdict_cores}
use Rattle.spec_laws.specs.LoopLaws.{loops_pass, none_joins, check_pass}
use Rattle.spec.specs.Join.{Joins}
use Rattle.spec_laws.specs.JoinLaws.{joins_check}
use Rattle.spec_laws.specs.CallLaws.{answer_refused, answer_given, counted_few, few_commands}

-- Demand 1

refused_exactly : {A : Type 0} (ls : List (Option Line)) (a : A) (l : Line)
    → (or_else (first_line ls) a ≡ refused l) ↔ FirstHolds l ls
refused_exactly ls a l = (
  λ e. (first_holds ls l).0 ((answer_refused (first_line ls) a l).0 e),
  λ f. (answer_refused (first_line ls) a l).1 ((first_holds ls l).1 f),
)

given_exactly : {A : Type 0} (ls : List (Option Line)) (a : A) → (or_else (first_line ls) a ≡ given a) ↔ NoneHolds ls
given_exactly ls a = (
  λ e. (none_holds ls).0 (answer_given (first_line ls) a a e).0,
  λ n. rw ((none_holds ls).1 n),
)

refused_untouched : {A : Type 0} (ls : List (Option Line)) (new old : A) {l : Line} → FirstHolds l ls
    → or_kept (first_line ls) new old ≡ old
refused_untouched ls new old {l} f = rw ((first_holds ls l).1 f)

pub demand_1 : Demand1
demand_1 = record { refused_exactly = refused_exactly; given_exactly = given_exactly; untouched = refused_untouched }

-- Reading a catalogue

catalogue_number : (c : List ℕ) (n : ℕ) → catalogue_answer c ≡ given n → (n ≡ commands c) × (n ≤ 24)
catalogue_number c n e =
    let (none-refuses, same) = answer_given (first_line (catalogue_lines c)) (commands c) n e in
    (sym same, omega (arith, same, few_commands c none-refuses))

catalogue_table_lem : (c : List ℕ) (t : List (List ℕ)) (n : ℕ) → catalogue_answer c ≡ given n → (i j : ℕ) → i < 24 → j < 24
    → get_or (get_or (catalogue_table c t) i []) j 0 ≡ yes_no (conflict c (i + 1) (j + 1))
catalogue_table_lem c t n e i j h l =
    rw (answer_given (first_line (catalogue_lines c)) (commands c) n e).0 (rows_tell c i j h l)

pub demand_catalogue : CatalogueDemand
demand_catalogue =
    record { number = catalogue_number; table = catalogue_table_lem; conflicts = conflict_exact }

-- The two editions

pub demand_editions : EditionsDemand
demand_editions =
    record {
      passes = rewritten_passes;
      refused = rewritten_refused;
      says_the_same = rewritten_same;
      conflicts = conflict_same;
      equal = same_equal;
      answers = same_answers;
    }

-- Demand 2

equal_demand : (c v w : List ℕ) (b : Bool) → equal_answer c v w ≡ given b → (b ≡ true) ↔ Equal c v w
equal_demand c v w b e = (
  λ t. same.1 ((alike_exact (normal_form c v) (normal_form c w)).0 (told.1 ∙ t)),
  λ q. sym told.1 ∙ (alike_exact (normal_form c v) (normal_form c w)).1 (same.0 q),
)
  where
    told : (first_line (equal_lines c v w) ≡ none) × (alike? (normal_form c v) (normal_form c w) ≡ b)
    told = answer_given (first_line (equal_lines c v w)) (alike? (normal_form c v) (normal_form c w)) b e

    same : (Equal c v w) ↔ (normal_form c v ≡ normal_form c w)
    same =
        let ps : List (Option Line) = catalogue_lines c ++ plan_lines 1 plan_limit (commands c) v in
        let q : first_line (plan_lines 2 plan_limit (commands c) w) ≡ none =
        none_right ps (plan_lines 2 plan_limit (commands c) w) told.0 in
        let p : first_line (plan_lines 1 plan_limit (commands c) v) ≡ none =
        none_right (catalogue_lines c) (plan_lines 1 plan_limit (commands c) v)
        (none_left ps (plan_lines 2 plan_limit (commands c) w) told.0) in
        equal_normal c v w ((lines_pass 1 plan_limit (commands c) v).0 p).1
        ((lines_pass 2 plan_limit (commands c) w).0 q).1

-- a plan whose normal form or core is given passes, under at most 24 commands
form_given : (c v area : List ℕ) → first_line (normal_form_lines c v area) ≡ none
    → (commands c ≤ 127) × Passing (commands c) v
form_given c v area e = (omega (arith, form_few c v area e), (form_passes c v area e).1)

-- numbers written to the start of an area, and past them the area as it was
written : (ns area : List ℕ) {l : ℕ} → length ns ≡ l
    → (take l (ns ++ drop (length ns) area) ≡ ns) × (drop l (ns ++ drop (length ns) area) ≡ drop l area)
written ns area {l} e = (
  take_at ns (drop (length ns) area) l e,
  drop_at ns (drop (length ns) area) l e ∙ ap (λ n. drop n area) e,
)

-- the first L bytes of an area are what was written there
written_first : (ls : List (Option Line)) (z area : List ℕ) (l : ℕ) (P : List ℕ → Type 0)
    → or_else (first_line ls) (length z) ≡ given l → (first_line ls ≡ none → P z)
    → (length (take l (area_after (first_line ls) z area)) ≡ l) × P (take l (area_after (first_line ls) z area))
written_first ls z area l P e f =
    let (none-refuses, long) = answer_given (first_line ls) (length z) l e in
    let t : take l (area_after (first_line ls) z area) ≡ z =
    rw none-refuses (written z area long).0 in
    rw t (long, f none-refuses)

normal_form_demand : (c v area : List ℕ) (l : ℕ) → normal_form_answer c v area ≡ given l
    → (length (take l (normal_form_area c v area)) ≡ l) × Shortest c v (take l (normal_form_area c v area))
normal_form_demand c v area l e =
    written_first (normal_form_lines c v area) (normal_form c v) area l (Shortest c v) e
    (λ n. let (few, passing) = form_given c v area n in normal_shortest c v few passing)

pub demand_2 : Demand2
demand_2 = record { equal = equal_demand; normal_form = normal_form_demand }

-- What cancelled

paired_form : (c v area pairs : List ℕ) (k : FormCounts) → paired_answer c v area pairs ≡ given k
    → (normal_form_answer c v area ≡ given k.length) × (paired_area c v area pairs ≡ normal_form_area c v area)
paired_form c v area pairs k e =
    let (none-refuses, same) = answer_given (first_line (paired_lines c v area pairs)) (paired_counts c v) k e in
    rw (none-refuses, paired_none c v area pairs none-refuses) (ap (λ x. given x.length) same, refl)

paired_numbers_lem : (c v area pairs : List ℕ) (k : FormCounts) → paired_answer c v area pairs ≡ given k
    → (length (take (2 * k.pairs) (paired_numbers c v area pairs)) ≡ 2 * k.pairs)
    × (take (2 * k.pairs) (paired_numbers c v area pairs) ≡ pair_numbers c v)
    × (drop (2 * k.pairs) (paired_numbers c v area pairs) ≡ drop (2 * k.pairs) pairs) × Accounts c v
paired_numbers_lem c v area pairs k e =
    let (none-refuses, same) = answer_given (first_line (paired_lines c v area pairs)) (paired_counts c v) k e in
    let n = numbers_length (reading c v).pairs ∙ ap (λ x. 2 * x.pairs) same in
    let (t, d) = written (pair_numbers c v) pairs n in
    let passing = (form_passes c v area (paired_none c v area pairs none-refuses)).1 in
    rw none-refuses (ap length t ∙ n, t, d, accounts c v passing)

pub demand_pairs : PairsDemand
demand_pairs = record { refused_alike = paired_refused; form_alike = paired_form; pairs = paired_numbers_lem }

-- Slots

slots_form : (c v area numbers : List ℕ) (k : SlotCounts) → slots_answer c v area numbers ≡ given k
    → (normal_form_answer c v area ≡ given k.length) × (slots_area c v area numbers ≡ normal_form_area c v area)
slots_form c v area numbers k e =
    let (none-refuses, same) = answer_given (first_line (slots_lines c v area numbers)) (slot_counts c v) k e in
    rw (none-refuses, slots_none c v area numbers none-refuses) (ap (λ x. given x.length) same, refl)

slots_numbers_lem : (c v area numbers : List ℕ) (k : SlotCounts) → slots_answer c v area numbers ≡ given k
    → (length (take k.length (slots_numbers c v area numbers)) ≡ k.length)
    × Numbered c (take k.length (slots_area c v area numbers)) (take k.length (slots_numbers c v area numbers))
    k.in_use
    × (drop k.length (slots_numbers c v area numbers) ≡ drop k.length numbers)
slots_numbers_lem c v area numbers k e =
    let (none-refuses, same) = answer_given (first_line (slots_lines c v area numbers)) (slot_counts c v) k e in
    let z = normal_form c v in
    let l = ap (λ x. x.length) same in
    let n = slots_length c z ∙ l in
    let (t, d) = written (slots c z) numbers n in
    rw (none-refuses, (written z area l).0, t)
    (n, subst (Numbered c z (slots c z)) (ap (λ x. x.in_use) same) (numbered c z), d)

pub demand_slots : SlotsDemand
demand_slots = record { refused_alike = slots_refused; form_alike = slots_form; slots = slots_numbers_lem }

-- Precedence

precedence_form : (c v : List ℕ) → fault_answer c v [] [] ≡ none → Shortest c v (normal_form c v)
precedence_form c v e = let (few, passing) = fault_passes c v e in normal_shortest c v (omega arith) passing

precedence_demand : (c v ns : List ℕ) (b : Bool) → precedence_answer c v ns ≡ given b
    → (b ≡ true) ↔ ((p : ℕ) → 2 * p < length ns
    → StaysBefore c (normal_form c v) (get_or ns (2 * p) 0) (get_or ns (2 * p + 1) 0))
precedence_demand c v ns b e =
    let z = normal_form c v in
    let (none-refuses, same) = answer_given (first_line (precedence_lines c v ns)) (all_lead c z ns) b e in
    let stay = all_stay c z ns (precedence_passes c v ns none-refuses) in
    (λ t. stay.0 (same ∙ t), λ f. sym same ∙ stay.1 f)

pub demand_precedence : PrecedenceDemand
demand_precedence =
    record {
      refused_alike = precedence_refused;
      faulty = faulty_exact;
      form = precedence_form;
      precedence = precedence_demand;
      chain = chain_exact;
      backwards = backwards;
      smaller = λ c z ns i j. stays_smaller c z i j ns;
    }

-- The core call

core_demand : (c v area : List ℕ) (l : ℕ) → core_answer c v area ≡ given l
    → (length (take l (core_area c v area)) ≡ l) × IsCore c v (take l (core_area c v area))
core_demand c v area l e =
    written_first (normal_form_lines c v area) (core_form c v) area l (IsCore c v) e
    (λ n. let (few, passing) = form_given c v area n in core_of c v passing few)

pub demand_core : CoreDemand
demand_core = record { core = core_demand }

-- Demand 3

loops-refused : {c v w area after : List ℕ} {a : Answer DecidedLoops} → Looped c v w area a after → (l : Line)
    → (a ≡ refused l) ↔ FirstHolds l (loops_lines c v w area)
loops-refused {c} {v} {w} {area} (refuses {l = k} e) l = (
  λ q. let s : some k ≡ some l = cc in (first_holds (loops_lines c v w area) l).0 (e ∙ s),
  λ f. let s : some k ≡ some l = sym e ∙ (first_holds (loops_lines c v w area) l).1 f in cc,
)
loops-refused {c} {v} {w} {area} (apart e d) l = (
  λ q. absurd (given_not q),
  λ f. absurd (none-some (sym e ∙ (first_holds (loops_lines c v w area) l).1 f)),
)
loops-refused {c} {v} {w} {area} (joined e d u) l = (
  λ q. absurd (given_not q),
  λ f. absurd (none-some (sym e ∙ (first_holds (loops_lines c v w area) l).1 f)),
)

refusal_untouched : {c v w area after : List ℕ} {l : Line} → Looped c v w area (refused l) after → after ≡ area
refusal_untouched (refuses e) = refl

apart_untouched : {c v w area after : List ℕ} {d : DecidedLoops} → Looped c v w area (given d) after
    → d.lead_in ≡ none → after ≡ area
apart_untouched (apart e d) q = refl
apart_untouched (joined e d l) q = absurd (none-some (sym q))

loops_demand : {c v w area after : List ℕ} {d : DecidedLoops} → Looped c v w area (given d) after
    → Exact c v w d.lead_in
loops_demand {c} {v} {w} {area} (apart e d) =
    let no : (u : List ℕ) → ¬ Joins c v w u = none_joins c v w (loops_pass c v w area e) d in
    record {
      joined = (λ h. absurd (none-some h.1), λ h. absurd (no h.0 h.1));
      apart = (λ h. no, λ h. refl);
    }
loops_demand (joined {u = u} e d l) =
    record {
      joined = (λ h. (u, l.joins), λ h. (length u, refl));
      apart = (λ h. absurd (none-some (sym h)), λ h. absurd (h u l.joins));
    }

lead_in_demand : {c v w area after : List ℕ} {d : DecidedLoops} {l : ℕ} → Looped c v w area (given d) after
    → d.lead_in ≡ some l → (length (take l after) ≡ l) × LeadIn c v w (take l after) × (drop l after ≡ drop l area)
lead_in_demand (apart e d) q = absurd (none-some q)
lead_in_demand {area = area} (joined {u = u} e d h) q =
    rw (← some_same q, take-append_seam u (drop (length u) area), drop-append_seam u (drop (length u) area))
    (refl, h, refl)

check_demand : (c v w u area0 area1 : List ℕ) (k : CheckedLeadIn) → check_answer c v w u area0 area1 ≡ given k
    → (k.yes ≡ true) ↔ Joins c v w u
check_demand c v w u area0 area1 k e = (
  λ t. joins.1 (equal.1 ((alike_exact vu uw).0 (ap (λ x. x.yes) told.1 ∙ t))),
  λ j. sym (ap (λ x. x.yes) told.1) ∙ (alike_exact vu uw).1 (equal.0 (joins.0 j)),
)
  where
    vu : List ℕ
    vu = normal_form c (v ++ u)

    uw : List ℕ
    uw = normal_form c (u ++ w)

    told : (first_line (check_lines c v w u area0 area1) ≡ none) × (check_result c v w u ≡ k)
    told = answer_given (first_line (check_lines c v w u area0 area1)) (check_result c v w u) k e

    pass : (Passing (commands c) v × Passing (commands c) w) × Passing (commands c) u
    pass = check_pass c v w u area0 area1 told.0

    joins : (Joins c v w u) ↔ (Equal c (v ++ u) (u ++ w))
    joins = joins_check c v w u pass.0.0 pass.0.1 pass.1

    equal : (Equal c (v ++ u) (u ++ w)) ↔ (vu ≡ uw)
    equal =
        equal_normal c (v ++ u) (u ++ w)
        (passing_append (commands c) v u pass.0.0 pass.1)
        (passing_append (commands c) u w pass.1 pass.0.1)

pub demand_3 : Demand3
demand_3 =
    record {
      refused_exactly = loops-refused;
      refused_untouched = refusal_untouched;
      loops = loops_demand;
      lead_in = lead_in_demand;
      apart_untouched = apart_untouched;
      check = check_demand;
    }

-- How many rounds

pub demand_rounds : RoundsDemand
demand_rounds =
    record {
      ends = λ {c} {x} h i. part_settles c x h i;
      one_number = λ {c} {x} h i s t. part_number c x h i s ∙ sym (part_number c x h i t);
      few = λ {c} {x} h i s ks f. part_few c x h i s ks f;
      told = rounds_told;
      told_few = rounds_few;
    }

-- The set test

row_clear : (c : List ℕ) (t : List (List ℕ)) (n : ℕ) → catalogue_answer c ≡ given n → (i : ℕ) → i < 24
    → {a b low high : ℕ} {s : List ℕ} → Gathered 1 1 (get_or (catalogue_table c t) i []) a → Gathered low high s b
    → (bit_and a b ≡ 0) ↔ ((j : ℕ) → Within low high s j → conflict c (i + 1) (j + 1) ≡ false)
row_clear c t n e i h {low = low} {high = high} {s = s} g f = (
  λ z j w. none_met j w (conflict c (i + 1) (j + 1)) (number j w.0) ((share_none g f).0 z j),
  λ o. (share_none g f).1 (λ j v w. omega (arith, v.1, number j w.0, ap yes_no (o j w))),
)
  where
    number : (j : ℕ) → j < 24 → get_or (get_or (catalogue_table c t) i []) j 0 ≡ yes_no (conflict c (i + 1) (j + 1))
    number j l = catalogue_table_lem c t n e i j h l

    none_met : (j : ℕ) → Within low high s j → (x : Bool) → get_or (get_or (catalogue_table c t) i []) j 0 ≡ yes_no x
        → (Within 1 1 (get_or (catalogue_table c t) i []) j → Within low high s j → ⊥) → x ≡ false
    none_met j w false q o = refl
    none_met j w true q o = absurd (o (w.0, omega arith, omega arith) w)

pub demand_set_test : SetTestDemand
demand_set_test =
    record {
      some_number = λ low high s. gathered_some;
      one_number = λ g h. gathered_once g h;
      fits = gathered_fits;
      shares_none = row_clear;
    }

-- The fault call

pub demand_fault : FaultDemand
demand_fault =
    record {
      exactly = λ c v w u l. first_holds (fault_lines c v w u) l;
      among = fault_numbered;
      catalogue = catalogue_explained;
      form = form_explained;
      slots = slots_explained;
      equal = equal_explained;
      loops = loops_explained;
      check = check_explained;
    }

-- The program

pub demand_program : ProgramDemand
demand_program = record { verdict = verdict_printed; either_core = verdict_cores }

-- Line 10, retired

loops_settled : (c v w area : List ℕ) (p i : ℕ)
    → ¬ FirstHolds (line 10 p i) (loops_lines c v w area ++ unsettled_lines c v w)
loops_settled c v w area =
    never_ten c v w (area_line 0 (lead_in_room c v w) area ∷ []) (
      holds_up_to 9 (line 9 0 0) (inl (omega arith, omega arith), omega arith) (ltb (length area) (lead_in_room c v w)),
      tt,
    )

pub demand_retired : RetiredDemand
demand_retired =
    record {
      settled = plans_settled;
      loops = loops_settled;
      program = λ c v w. never_ten c v w [] tt;
      loops_same = λ c v w area. retired_same c v w (area_line 0 (lead_in_room c v w) area ∷ []);
      program_same = λ c v w. retired_same c v w [];
      unused = number_unused;
    }

-- What the manual says of all plans

pub demand_plans : PlansDemand
demand_plans =
    record {
      undo_differs = λ c b e. command_differs (commands c) b (omega (arith, counted_few c e));
      swaps_alone = swaps_alone;
    }
