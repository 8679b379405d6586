-- The numbers of the lines that a catalogue or a plan can be refused by.
use Rattle.std.specs.Prelude.{ℕ, ◌≤◌, ◌≡◌, refl, Bool, true, false, not, ◌||◌, List, [], ◌∷◌, ◌++◌, ◌⊎◌, length, ltb, eqb}
use Rattle.std.proofs.Common.{subst, inl, inr, arith}
use Rattle.std.proofs.Math.Option.{Option, none, some}
use Rattle.theory_words.specs.All.{All, all_append}
use Rattle.spec.specs.Table.{Line, line, holds, first_of, line_at, first_line}
use Rattle.spec_laws.specs.TableLaws.{some_same, none-some}
use Rattle.spec.specs.Layout.{layout}
use Rattle.spec.specs.Catalogue.{commands, records, head_place, command_place, next_place, head, command, next, ends}
use Rattle.spec.specs.Catalogue.{chain, stands, or_if, size_line, count_line, head_line, next_line, record_line}
use Rattle.spec.specs.Catalogue.{records_line, endless_line, own_line, catalogue_lines}
use Rattle.spec.specs.Plan.{first_bad, plan_lines}

-- a number from 1 to k or 17, of the catalogue or of plan 1, 2 or 3
abbrev pub Numbered : ℕ → Line → Type 0
Numbered k l = (((1 ≤ l.number) × (l.number ≤ k)) ⊎ (l.number ≡ 17)) × (l.plan ≤ 3)

-- a line that, if it holds, has such a number
abbrev pub UpTo : ℕ → Option Line → Type 0
UpTo k o = (l : Line) → o ≡ some l → Numbered k l

pub holds_up_to : (k : ℕ) (l : Line) → Numbered k l → (t : Bool) → UpTo k (holds t l)
holds_up_to k l h true m e = subst (Numbered k) (some_same e) h
holds_up_to k l h false m e = absurd (none-some e)

found_up_to : (k n p : ℕ) (f : ℕ → ℕ) → 1 ≤ n → n ≤ k → p ≤ 3 → (o : Option ℕ) → UpTo k (line_at n p f o)
found_up_to k n p f i j h none l e = absurd (none-some e)
found_up_to k n p f i j h (some a) l e = holds_up_to k (line n p (f a)) (inl (i, j), h) true l e

or_up_to : (k : ℕ) (o q : Option Line) → UpTo k o → UpTo k q → UpTo k (or_if o q)
or_up_to k none q h i = i
or_up_to k (some l) q h i = h

pub plan_up_to : (k p : ℕ) → 8 ≤ k → p ≤ 3 → (limit n : ℕ) (v : List ℕ) → All (UpTo k) (plan_lines p limit n v)
plan_up_to k p h i limit n v = (
  holds_up_to k (line 7 p 0) (inl (omega arith, omega arith), i) (ltb limit (length v)),
  (found_up_to k 8 p (λ a. a) (omega arith) h i (first_bad n v), tt),
)

catalogue_up_to : (k : ℕ) → 6 ≤ k → (c : List ℕ) → All (UpTo k) (catalogue_lines c)
catalogue_up_to k h c =
    (size, (count, (most, (or_up_to k (head_line c) (next_line c) heads nexts, (named, (endless, (own, tt)))))))
  where
    found : (n : ℕ) (f : ℕ → ℕ) (o : Option ℕ) → 1 ≤ n → n ≤ 6 → UpTo k (line_at n 0 f o)
    found n f o i j = found_up_to k n 0 f i (omega arith) (omega arith) o

    size : UpTo k (size_line c)
    size =
        holds_up_to k (line 1 0 0) (inl (omega arith, omega arith), omega arith)
        (ltb (length c) (layout c).start || not (eqb (length c) (layout c).size))

    count : UpTo k (count_line c)
    count = holds_up_to k (line 2 0 0) (inl (omega arith, omega arith), omega arith) (ltb 24 (commands c))

    most : UpTo k (records_line c)
    most = holds_up_to k (line 17 0 1) (inr refl, omega arith) (ltb 1024 (records c))

    heads : UpTo k (head_line c)
    heads =
        found 3 (head_place c) (first_of (λ a. ltb (records c) (head c a)) (commands c) 1) (omega arith) (omega arith)

    nexts : UpTo k (next_line c)
    nexts =
        found 3 (next_place c) (first_of (λ j. ltb (records c) (next c j)) (records c) 1) (omega arith) (omega arith)

    named : UpTo k (record_line c)
    named =
        let o = first_of (λ j. eqb (command c j) 0 || ltb (commands c) (command c j)) (records c) 1 in
        found 4 (command_place c) o (omega arith) (omega arith)

    endless : UpTo k (endless_line c)
    endless =
        let o = first_of (λ a. not (ends c (records c) (head c a))) (commands c) 1 in
        found 5 (head_place c) o (omega arith) (omega arith)

    own : UpTo k (own_line c)
    own =
        let o = first_of (λ a. stands a (chain c a)) (commands c) 1 in
        found 6 (head_place c) o (omega arith) (omega arith)

-- the lines of a catalogue and two plans
pub two_up_to : (k : ℕ) → 8 ≤ k → (limit : ℕ) (c v w : List ℕ)
    → All (UpTo k) (catalogue_lines c ++ plan_lines 1 limit (commands c) v ++ plan_lines 2 limit (commands c) w)
two_up_to k h limit c v w =
    let n = commands c in
    all_append (UpTo k) (catalogue_lines c ++ plan_lines 1 limit n v) (plan_lines 2 limit n w)
    (all_append (UpTo k) (catalogue_lines c) (plan_lines 1 limit n v) (catalogue_up_to k (omega arith) c)
    (plan_up_to k 1 h (omega arith) limit n v))
    (plan_up_to k 2 h (omega arith) limit n w)

pub first_up_to : (k : ℕ) {l : Line} (ls : List (Option Line)) → All (UpTo k) ls → first_line ls ≡ some l → Numbered k l
first_up_to k [] h e = absurd (none-some e)
first_up_to k (none ∷ ls) h e = first_up_to k ls h.1 e
first_up_to k {l} (some m ∷ ls) h e = h.0 l e
