-- Catalogues that say the same, of whichever editions: under either the same plans are equal, and every call is
-- promised the same answer and areas.
use Prim.Native.Nat.{ℕ, suc, ◌*◌, ◌+◌, ◌≤◌, max}
use Rattle.std.specs.Prelude.{◌≡◌, Bool, not, ◌&&◌, ◌↔◌, length, get_or, take, drop, eqb}
use Rattle.std.proofs.Math.Path.{refl, ap, ap₂, fun_ext}
use Rattle.std.proofs.Common.{sym, ◌∙◌, subst, arith}
use Rattle.std.proofs.Math.Bool.{true, false}
use mathlib.Core.List.{List, [], ◌∷◌, ◌++◌, map}
use Rattle.std.proofs.Math.Option.{Option, none, some}
use Rattle.std.proofs.Math.Dec.{ltb}
use Rattle.theory_words.specs.Alike.{alike?}
use Rattle.theory_words.specs.Normal.{nf, meets}
use Rattle.theory_conjugacy.specs.Core.{core}
use Rattle.theory_conjugacy.specs.Decision.{joined?}
use Rattle.theory_conjugacy.specs.Rounds.{core_rounds}
use Rattle.theory_schedules.specs.Precedence.{raised}
use Rattle.spec.specs.Table.{Line, first_line, first_of, Answer, given, or_else, or_kept, NoneHolds}
use Rattle.spec.specs.Catalogue.{commands, catalogue_lines}
use Rattle.spec.specs.Conflict.{names, conflict_by}
use Rattle.spec_laws.specs.ConflictLaws.{pairs_same, conflict_same}
use Rattle.spec.specs.Plan.{is_command, plan_lines, Passing}
use Rattle.spec.specs.Byte.{command_of, undone}
use Rattle.spec.specs.Letters.{letters, alphabet_by, alphabet, normal_form}
use Rattle.spec.specs.Step.{Command, Step, swap, pair_in, pair_out, filler_in, filler_out, later, Equal, stay, step}
use Rattle.spec.specs.Answers.{yes_no, FormCounts, SlotCounts, DecidedLoops, CheckedLeadIn}
use Rattle.spec.specs.Pairs.{Placed, placed, Partner, partner_step, partner, left_after, pair_after, Reading}
use Rattle.spec.specs.Pairs.{read_byte_step, read_byte, read_from, reading, numbers_of}
use Rattle.spec.specs.Calls.{plan_limit, area_line, area_after, conflict_rows, core_form, numbers, normal_form_lines}
use Rattle.spec.specs.Calls.{pairs_line, paired_lines, paired_counts}
use Rattle.spec.specs.Slots.{Slotted, slotted, above_step, above, slots_after, slots, different, slots_lines, slot_counts}
use Rattle.spec.specs.Precedence.{leads, pairs_in, pair_leads, finds_none, all_lead, places_line, precedence_lines}
use Rattle.spec.specs.Rounds.{loops_rounds}
use Rattle.spec.specs.Loops.{loops_lines, LeadIn, Looped, refuses, apart, joined, lead_in_limit, check_lines}
use Rattle.spec.specs.Loops.{check_result}
use Rattle.spec.specs.Program.{joined_step, program_lines}
use Rattle.spec.specs.WriteOut.{items_of, text_line, nesting_line, above_line, written_line, text_lines, write_out_lines}
use Rattle.spec.specs.Notation.{plan_of, size_of}
use Rattle.spec.specs.Fault.{fault_lines}
use Rattle.spec.specs.Editions.{SayTheSame, SameAnswers}

-- two lists of as many lines, of which none holds, are the same
none_same : (ls ks : List (Option Line)) → length ls ≡ length ks → NoneHolds ls → NoneHolds ks → ls ≡ ks
none_same [] [] e h k = refl
none_same [] (o ∷ ks) e h k = absurd (omega arith)
none_same (o ∷ ls) [] e h k = absurd (omega arith)
none_same (o ∷ ls) (p ∷ ks) e h k = ap₂ ◌∷◌ (h.0 ∙ sym k.0) (none_same ls ks (omega arith) h.1 k.1)

-- the same lines and the same result give the same answer, and leave the same area
answer_same : {A : Type 0} {ls ks : List (Option Line)} {a b : A} → ls ≡ ks → a ≡ b
    → or_else (first_line ls) a ≡ or_else (first_line ks) b
answer_same e f = ap₂ (λ ls a. or_else (first_line ls) a) e f

area_same : {ls ks : List (Option Line)} {x y : List ℕ} (area : List ℕ) → ls ≡ ks → x ≡ y
    → area_after (first_line ls) x area ≡ area_after (first_line ks) y area
area_same area e f = ap₂ (λ ls x. area_after (first_line ls) x area) e f

same_sym : {c d : List ℕ} → SayTheSame c d → SayTheSame d c
same_sym s =
    record {
      passes = s.passes_too;
      passes_too = s.passes;
      commands = sym s.commands;
      pairs = λ a b. ((s.pairs a b).1, (s.pairs a b).0);
    }

module _ {c d : List ℕ} (s : SayTheSame c d) where
  -- What a call takes of a catalogue: its lines and N

  lines_same : catalogue_lines c ≡ catalogue_lines d
  lines_same = none_same (catalogue_lines c) (catalogue_lines d) refl s.passes s.passes_too

  by_lines : {A : Type 0} (f : List (Option Line) → ℕ → A) → f (catalogue_lines c) (commands c)
      ≡ f (catalogue_lines d) (commands d)
  by_lines f = ap₂ f lines_same s.commands

  -- and the pairs it names

  by_names : {A : Type 0} (f : (ℕ → ℕ → Bool) → A) → f (names c) ≡ f (names d)
  by_names f = ap f (pairs_same c d s.pairs)

  rows_same : conflict_rows c ≡ conflict_rows d
  unfolding conflict_rows
  rows_same = by_names (λ p. map (λ a. map (λ b. yes_no (conflict_by p a b)) numbers) numbers)

  form_same : (v : List ℕ) → normal_form c v ≡ normal_form d v
  unfolding normal_form
  form_same v = by_names (λ p. nf (alphabet_by p) (letters v))

  core_same : (v : List ℕ) → core_form c v ≡ core_form d v
  unfolding core_form
  core_same v = by_names (λ p. nf (alphabet_by p) (core (alphabet_by p) (letters v)))

  joined_same : (v w : List ℕ) → joined? (alphabet c) (letters v) (letters w)
      ≡ joined? (alphabet d) (letters v) (letters w)
  joined_same v w = by_names (λ p. joined? (alphabet_by p) (letters v) (letters w))

  rounds_same : (v w : List ℕ) → loops_rounds c v w ≡ loops_rounds d v w
  unfolding loops_rounds
  rounds_same v w = ap₂ max (of v) (of w)
    where
      of : (v : List ℕ) → core_rounds (alphabet c) (core_form c v) ≡ core_rounds (alphabet d) (core_form d v)
      of v = by_names (λ p. core_rounds (alphabet_by p) (core_form c v)) ∙ ap (core_rounds (alphabet d)) (core_same v)

  -- The reading of a plan, with its pairs

  partner_same : (b : ℕ) (t : List Placed) → partner c b t ≡ partner d b t
  unfolding partner
  partner_same b [] = refl
  partner_same b (x ∷ t) =
      ap₂ (λ k o. partner_step (eqb x.byte (undone b)) k x t o)
      (conflict_same c d s.pairs (command_of b) (command_of x.byte)) (partner_same b t)

  byte_same : (x : Placed) (r : Reading) → read_byte c x r ≡ read_byte d x r
  unfolding read_byte
  byte_same x r = go (eqb x.byte 0)
    where
      go : (t : Bool) → read_byte_step t c x r ≡ read_byte_step t d x r
      go true = refl
      go false =
          let f : Option Partner → Reading =
          λ p. record { left = left_after x r.left p; pairs = r.pairs ++ pair_after x p } in
          ap f (partner_same x.byte r.left)

  read_same : (i : ℕ) (v : List ℕ) (r : Reading) → read_from c i v r ≡ read_from d i v r
  unfolding read_from
  read_same i [] r = refl
  read_same i (b ∷ v) r =
      read_same (suc i) v (read_byte c (placed b i) r) ∙ ap (read_from d (suc i) v) (byte_same (placed b i) r)

  reading_same : (v : List ℕ) → reading c v ≡ reading d v
  unfolding reading
  reading_same v = read_same 0 v (record { left = []; pairs = [] })

  -- Slots

  above_same : (k : ℕ) (t : List Slotted) → above c k t ≡ above d k t
  unfolding above
  above_same k [] = refl
  above_same k (x ∷ t) =
      ap₂ (λ b n. above_step b x.slot n) (conflict_same c d s.pairs k x.command) (above_same k t)

  after_same : (t : List Slotted) (z : List ℕ) → slots_after c t z ≡ slots_after d t z
  unfolding slots_after
  after_same t [] = refl
  after_same t (b ∷ z) =
      let k = command_of b in
      ap (λ n. n ∷ slots_after c (slotted k n ∷ t) z) (above_same k t)
      ∙ ap (λ l. above d k t ∷ l) (after_same (slotted k (above d k t) ∷ t) z)

  slots_same : (v : List ℕ) → slots c (normal_form c v) ≡ slots d (normal_form d v)
  slots_same v = ap (slots c) (form_same v) ∙ after_same [] (normal_form d v)

  -- Precedence

  leads_same : (z : List ℕ) (i j : ℕ) → leads c z i j ≡ leads d z i j
  unfolding leads
  leads_same z i j =
      by_names (λ p. ltb i j && meets (alphabet_by p) (command_of (get_or z j 0))
      (raised (alphabet_by p) (command_of (get_or z i 0) ∷ []) (drop (suc i) (take j z))))

  all_same : (v ns : List ℕ) → all_lead c (normal_form c v) ns ≡ all_lead d (normal_form d v) ns
  all_same v ns =
      ap (λ z. all_lead c z ns) (form_same v)
      ∙ ap (λ (f : ℕ → Bool). finds_none (first_of (λ p. not (f p)) (pairs_in ns) 0)) (fun_ext leading)
    where
      leading : (p : ℕ) → pair_leads c (normal_form d v) ns p ≡ pair_leads d (normal_form d v) ns p
      leading p = leads_same (normal_form d v) (get_or ns (2 * p) 0) (get_or ns (2 * p + 1) 0)

  -- Equal plans

  command_over : (a : ℕ) → Command c a → Command d a
  command_over a h = subst (λ n. is_command n a ≡ true) s.commands h

  step_over : {v w : List ℕ} → Step c v w → Step d v w
  step_over (swap {a = a} {b = b} h k e) =
      swap (command_over a h) (command_over b k) (sym (conflict_same c d s.pairs (command_of a) (command_of b)) ∙ e)
  step_over (pair_in {a = a} h) = pair_in (command_over a h)
  step_over (pair_out {a = a} h) = pair_out (command_over a h)
  step_over filler_in = filler_in
  step_over filler_out = filler_out
  step_over (later e) = later (step_over e)

  equal_over : {v w : List ℕ} → Equal c v w → Equal d v w
  equal_over (stay {v = v} h) = stay (subst (λ n. Passing n v) s.commands h)
  equal_over (step {v = v} h e f) = step (subst (λ n. Passing n v) s.commands h) (step_over e) (equal_over f)

  -- Loops

  loops_same : (v w area : List ℕ) → loops_lines c v w area ≡ loops_lines d v w area
  loops_same v w area =
      by_lines (λ ls n. ls ++ plan_lines 1 plan_limit n v ++ plan_lines 2 plan_limit n w
      ++ area_line 0 (n * (length v + length w)) area ∷ [])

  lead_over : {v w u : List ℕ} → LeadIn c v w u → LeadIn d v w u
  lead_over {v} {w} {u} l =
      record {
        normal = sym (form_same u) ∙ l.normal;
        joins = equal_over l.joins;
        short = subst (λ n. length u ≤ n * (length v + length w)) s.commands l.short;
      }

  looped_over : {v w area after : List ℕ} {a : Answer DecidedLoops} → Looped c v w area a after
      → Looped d v w area a after
  looped_over {v} {w} {area} (refuses e) = refuses (ap first_line (sym (loops_same v w area)) ∙ e)
  looped_over {v} {w} {area} (apart e j) =
      subst (λ n. Looped d v w area (given (record { lead_in = none; rounds = n })) area) (sym (rounds_same v w))
      (apart (ap first_line (sym (loops_same v w area)) ∙ e) (sym (joined_same v w) ∙ j))
  looped_over {v} {w} {area} (joined {u = u} e j l) =
      subst (λ n. Looped d v w area (given (record { lead_in = some (length u); rounds = n }))
      (u ++ drop (length u) area)) (sym (rounds_same v w))
      (joined (ap first_line (sym (loops_same v w area)) ∙ e) (sym (joined_same v w) ∙ j) (lead_over l))

  -- The lines of the other calls

  form_lines : (v area : List ℕ) → normal_form_lines c v area ≡ normal_form_lines d v area
  form_lines v area = by_lines (λ ls n. ls ++ plan_lines 1 plan_limit n v ++ area_line 0 (length v) area ∷ [])

  paired_lines_lem : (v area ns : List ℕ) → paired_lines c v area ns ≡ paired_lines d v area ns
  paired_lines_lem v area ns = ap (λ ls. ls ++ pairs_line (length v) ns ∷ []) (form_lines v area)

  slots_lines_lem : (v area ns : List ℕ) → slots_lines c v area ns ≡ slots_lines d v area ns
  slots_lines_lem v area ns = ap (λ ls. ls ++ area_line 1 (length v) ns ∷ []) (form_lines v area)

  precedence_lines_lem : (v ns : List ℕ) → precedence_lines c v ns ≡ precedence_lines d v ns
  precedence_lines_lem v ns =
      by_lines (λ ls n. ls ++ plan_lines 1 plan_limit n v ++ places_line (length (normal_form c v)) ns ∷ [])
      ∙ ap (λ z. catalogue_lines d ++ plan_lines 1 plan_limit (commands d) v ++ places_line (length z) ns ∷ [])
      (form_same v)

  two_lines_lem : (v w : List ℕ) → program_lines c v w ≡ program_lines d v w
  two_lines_lem v w = by_lines (λ ls n. ls ++ plan_lines 1 plan_limit n v ++ plan_lines 2 plan_limit n w)

  fault_lines_lem : (v w u : List ℕ) → fault_lines c v w u ≡ fault_lines d v w u
  fault_lines_lem v w u =
      by_lines (λ ls n. ls ++ plan_lines 1 plan_limit n v ++ plan_lines 2 plan_limit n w ++ plan_lines 3 lead_in_limit n u)

  check_lines_lem : (v w u area0 area1 : List ℕ) → check_lines c v w u area0 area1 ≡ check_lines d v w u area0 area1
  check_lines_lem v w u area0 area1 =
      ap (λ ls. ls ++ area_line 0 (length v + length u) area0 ∷ area_line 1 (length u + length w) area1 ∷ [])
      (fault_lines_lem v w u)

  text_lines_lem : (t : List ℕ) → text_lines c t ≡ text_lines d t
  text_lines_lem t = by_lines (λ ls n. ls ++ text_line t ∷ nesting_line t ∷ above_line n t ∷ written_line t ∷ [])

  write_lines : (t area : List ℕ) → write_out_lines c t area ≡ write_out_lines d t area
  write_lines t area = ap (λ ls. ls ++ area_line 0 (size_of (items_of t)) area ∷ []) (text_lines_lem t)

  -- what the calls with several counts give

  paired_counts_lem : (v : List ℕ) → paired_counts c v ≡ paired_counts d v
  paired_counts_lem v =
      let f : List ℕ → Reading → FormCounts = λ z r. record { length = length z; pairs = length r.pairs } in
      ap₂ f (form_same v) (reading_same v)

  slot_counts_lem : (v : List ℕ) → slot_counts c v ≡ slot_counts d v
  slot_counts_lem v =
      let f : List ℕ → List ℕ → SlotCounts = λ z ns. record { length = length z; in_use = different ns } in
      ap₂ f (form_same v) (slots_same v)

  check_result_lem : (v w u : List ℕ) → check_result c v w u ≡ check_result d v w u
  check_result_lem v w u =
      let f : List ℕ → List ℕ → CheckedLeadIn =
      λ x y. record { yes = alike? x y; vu = length x; uw = length y } in
      ap₂ f (form_same (v ++ u)) (form_same (u ++ w))

pub same_equal : (c d v w : List ℕ) → SayTheSame c d → Equal c v w ↔ Equal d v w
same_equal c d v w s = (equal_over s, equal_over (same_sym s))

pub same_answers : (c d : List ℕ) → SayTheSame c d → SameAnswers c d
same_answers c d s =
    record {
      catalogue = answer_same (lines_same s) s.commands;
      table = λ t. ap₂ (λ ls rows. or_kept (first_line ls) rows t) (lines_same s) (rows_same s);
      form = λ v area. (
        answer_same (form_lines s v area) (ap length (form_same s v)),
        area_same area (form_lines s v area) (form_same s v),
      );
      paired = λ v area ns. (
        answer_same (paired_lines_lem s v area ns) (paired_counts_lem s v),
        area_same area (paired_lines_lem s v area ns) (form_same s v),
        area_same ns (paired_lines_lem s v area ns) (ap (λ r. numbers_of r.pairs) (reading_same s v)),
      );
      slots = λ v area ns. (
        answer_same (slots_lines_lem s v area ns) (slot_counts_lem s v),
        area_same area (slots_lines_lem s v area ns) (form_same s v),
        area_same ns (slots_lines_lem s v area ns) (slots_same s v),
      );
      precedence = λ v ns. answer_same (precedence_lines_lem s v ns) (all_same s v ns);
      core = λ v area. (
        answer_same (form_lines s v area) (ap length (core_same s v)),
        area_same area (form_lines s v area) (core_same s v),
      );
      equal = λ v w. answer_same (two_lines_lem s v w) (ap₂ alike? (form_same s v) (form_same s w));
      loops = λ v w area after a. (looped_over s, looped_over (same_sym s));
      check = λ v w u area0 area1. (
        answer_same (check_lines_lem s v w u area0 area1) (check_result_lem s v w u),
        area_same area0 (check_lines_lem s v w u area0 area1) (form_same s (v ++ u)),
        area_same area1 (check_lines_lem s v w u area0 area1) (form_same s (u ++ w)),
      );
      fault = λ v w u. ap first_line (fault_lines_lem s v w u);
      write_out = λ t area. (
        answer_same (write_lines s t area) refl,
        ap (λ ls. area_after (first_line ls) (plan_of (items_of t)) area) (write_lines s t area),
      );
      fault_of_text = λ t. ap first_line (text_lines_lem s t);
      program = λ v w.
          answer_same (two_lines_lem s v w) (ap₂ joined_step (joined_same s v w) (ap length (core_same s v)));
    }
