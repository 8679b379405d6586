-- Joining two plans: what each step asks follows from the plans and the rows, and the word in the row is a lead-in.
use Rattle.std.specs.Prelude.{ℕ, zero, suc, ◌+◌, ◌*◌, ◌≤◌, ◌≡◌, refl, List, [], ◌++◌, length, take, None, Some}
use Rattle.std.proofs.lemmas.Option.{MatchOption-at_some, MatchOption-at_none}
use Rattle.std.proofs.Common.{arith, mul-le-mul_right, mul-add, sym, ◌∙◌, ap, subst, subst₂, append_assoc, length-take}
use Rattle.theory_words.specs.TraceLaws.{~_sym}
use Rattle.theory_words.specs.GroupLaws.{undo_length}
use Rattle.theory_conjugacy.specs.TurnLaws.{round_~}
use Rattle.theory_conjugacy.specs.CoreLaws.{core_round}
use Rattle.spec.specs.Catalogue.{commands}
use Rattle.array_row.specs.Area.{StartsWith}
use Rattle.array_row.specs.AreaLaws.{starts_length, starts_area}
use Rattle.spec.specs.Byte.{undone, undo_of}
use Rattle.spec.specs.Letters.{letters, alphabet, normal_form}
use Rattle.spec_laws.specs.LettersLaws.{letters-length, commands_passing}
use Rattle.spec.specs.Rounds.{loops_rounds}
use Rattle.spec.specs.Loops.{lead_in_room}
use Rattle.long_reduction.specs.Reducing.{Given}
use Rattle.long_form.specs.Forming.{Formable}
use Rattle.array_row.specs.Row.{Appended}
use Rattle.array_row.specs.RowLaws.{appended_take, appended_length}
use Rattle.conjugacy_settled_parts.specs.PartOf.{Cyclic}
use Rattle.conjugacy_of_parts.specs.declared.Outcome.{Outcome}
use Rattle.conjugacy_of_cores.specs.Pair.{Coreable, CoresJoined, cores_rounds, CoresOutcome}
use Rattle.input_checks.specs.Passed.{Passed}
use Rattle.conjugacy_by_cores.specs.ThroughLaws.{through, through_count}
use Rattle.conjugacy_by_cores.specs.CoreAndLead.{CoreAndLead}
use Rattle.conjugacy_by_cores.specs.CoreAndLeadLaws.{off_length, off_commands, no_letters, through_joined}
use Rattle.conjugacy_by_cores.specs.CoreAndLeadLaws.{through_commands, through_room, through_short}
use Rattle.conjugacy_by_cores.specs.CoreAndLeadLaws.{through_lead_in, cores_joined_plans, cores_rounds_plans}
use Rattle.conjugacy_by_cores.specs.Join.{Plans, Cores, word_room, WordJoined, WordOutcome}
use Rattle.conjugacy_by_cores.specs.Join.{PlansOutcome, joined, apart}

-- a plan's core is cyclically reduced
pub core_cyclic : {c : List ℕ} {conflicts : List (List ℕ)} {v x g : List ℕ} → Passed c conflicts v
    → CoreAndLead c v x g → Cyclic c conflicts x
core_cyclic {c} {v = v} p k = record {
  table = p.table;
  few = p.few;
  letters = (off_commands c k p.passing).1;
  round = round_~ (alphabet c) (~_sym (alphabet c) k.core) (core_round (alphabet c) (letters v));
  short = omega (arith, off_length c k, letters-length v, p.short);
}

-- room for the letters taken off and what as many rounds as commands cycle
lead_and_cycled_fit : (n g x h y : ℕ) → (n ≡ 0 → (2 * g + x) + (2 * h + y) ≡ 0)
    → g + n * (x + y) ≤ n * ((2 * g + x) + (2 * h + y))
lead_and_cycled_fit zero g x h y z = let e = z refl in omega arith
lead_and_cycled_fit (suc n) g x h y z =
    let d = 2 * g + 2 * h in
    let e : (2 * g + x) + (2 * h + y) ≡ d + (x + y) = omega arith in
    let f : 1 * d ≤ suc n * d = mul-le-mul_right d (omega arith) in
    omega (arith, f, mul-add (suc n) d (x + y), ap (λ m. suc n * m) e)

module _ {c : List ℕ} {conflicts : List (List ℕ)} {v w x g y h : List ℕ}
    (k : Cores c conflicts v w x g y h) where
  abbrev p : Plans c conflicts v w
  p = k.plans

  -- the row and the way from core to core
  module _ (row : List ℕ) (r : word_room c x g y h ≤ length row) where
    lead_and_cycled_room : length g + commands c * (length x + length y) ≤ length row
    lead_and_cycled_room =
        let e = lead_and_cycled_fit (commands c) (length g) (length x) (length h) (length y) (no_letters c k) in
        omega (arith, e, r)

    pub lead_room : 0 + length g ≤ length row
    lead_room = omega (arith, lead_and_cycled_room)

    pub join_coreable : {row' : List ℕ} {at : ℕ} → Appended row 0 g row' at → Coreable c conflicts x y row' at
    join_coreable a = record {
      first = core_cyclic p.first k.first;
      second = core_cyclic p.second k.second;
      room =
          let l = lead_and_cycled_room in
          omega (arith, a.ends, l, appended_length a (omega (arith, a.ends, l)));
    }

    pub join_short : {row' : List ℕ} {at end : ℕ} {row'' : List ℕ} → Appended row 0 g row' at
        → CoresJoined c x y row' at row'' end → end + length h ≤ length row
    join_short a j =
        let s = through_room c k j.conjugator in
        omega (arith, a.ends, j.ends, s, through_count (alphabet c) g j.word h, r)

  -- the outcome, where there is no lead-in
  pub join_stop : (before : List ℕ) (at : ℕ) (after : List ℕ) {o : Outcome}
      → CoresOutcome c x y before at after o → o.end ≡ None → WordOutcome c v w after o
  join_stop before at after (a, b) e =
      (rw e (sym (cores_joined_plans c k) ∙ MatchOption-at_none _ _ e a), b ∙ cores_rounds_plans c k)

  -- the word in the row
  pub join_word : {row row' row'' row''' : List ℕ} {at end last : ℕ} → Appended row 0 g row' at → at ≤ length row
      → CoresJoined c x y row' at row'' end → Appended row'' end (undo_of h) row''' last
      → end + length h ≤ length row'' → WordJoined c v w row''' last
  join_word {row} {row'} {row''} {row'''} {at} {end} {last} a m j b f =
      let u = j.word in
      let t = through (alphabet c) g u h in
      let e : take last row''' ≡ t =
      appended_take b (omega (arith, b.ends, undo_length undone h []))
      ∙ ap (λ (z : List ℕ). z ++ undo_of h) (j.written ∙ ap (λ (z : List ℕ). z ++ u) (appended_take a m))
      ∙ append_assoc g u (undo_of h) in
      let s = through_short c k j.conjugator in
      let q : last ≡ length t =
      omega (arith, a.ends, j.ends, b.ends, undo_length undone h [], through_count (alphabet c) g u h) in
      record {
        joined = through_joined c k j.conjugator;
        count = q ∙ ap length (sym e);
        letters = rw e (through_commands c k j.conjugator);
        short = omega (arith, q, s);
        lead_in = rw e (through_lead_in c k j.conjugator);
      }

-- what the way from core to core tells
pub cores_joined : (c x y before : List ℕ) (at : ℕ) (after : List ℕ) {o : Outcome} {end : ℕ}
    → CoresOutcome c x y before at after o → o.end ≡ Some end
    → CoresJoined c x y before at after end × (o.rounds ≡ cores_rounds c x y)
cores_joined c x y before at after {end = end} (d, m) e = (MatchOption-at_some _ _ end e d, m)

-- the word in the row put in normal form

pub word_joined : (c v w row : List ℕ) {o : Outcome} {end : ℕ} → WordOutcome c v w row o → o.end ≡ Some end
    → WordJoined c v w row end × (o.rounds ≡ loops_rounds c v w)
word_joined c v w row {end = end} (d, m) e = (MatchOption-at_some _ _ end e d, m)

pub word_stop : (c v w row area : List ℕ) {o : Outcome} → WordOutcome c v w row o → o.end ≡ None
    → PlansOutcome c v w area o area
word_stop c v w row area (d, m) e =
    subst₂ (λ s n. PlansOutcome c v w area (record { end = s; rounds = n }) area) (sym e) (sym m)
    (apart (MatchOption-at_none _ _ e d))

module _ {c : List ℕ} {conflicts : List (List ℕ)} {v w : List ℕ} (p : Plans c conflicts v w)
    {row : List ℕ} {end : ℕ} (d : WordJoined c v w row end) where
  pub word_fits : end ≤ length row
  word_fits = omega (arith, d.count, length-take end row)

  pub word_given : Given c conflicts (take end row)
  word_given =
      let e : lead_in_room c v w ≤ 24 * (length v + length w) =
      mul-le-mul_right (length v + length w) p.first.few in
      record {
        table = p.first.table;
        few = p.first.few;
        passing = commands_passing (commands c) (take end row) d.letters;
        short = omega (arith, d.count, d.short, p.first.short, p.second.short);
      }

  pub word_formable : {area : List ℕ} → lead_in_room c v w ≤ length area
      → Formable 50176 c conflicts (take end row) area
  word_formable f = record {
    given = word_given;
    short = word_given.short;
    fits = omega (arith, d.count, d.short, letters-length (take end row));
  }

  pub word_outcome : {area after : List ℕ} {r m : ℕ} → StartsWith (normal_form c (take end row)) area after r
      → m ≡ loops_rounds c v w → PlansOutcome c v w area (record { end = Some r; rounds = m }) after
  word_outcome {area} {after} {r} {m} o e =
      subst (λ i. PlansOutcome c v w area (record { end = Some r; rounds = i }) after) (sym e)
      (subst₂ (λ l a. PlansOutcome c v w area (record { end = Some l; rounds = loops_rounds c v w }) a)
      (sym (starts_length o)) (sym (starts_area o)) (joined d.joined d.lead_in))
