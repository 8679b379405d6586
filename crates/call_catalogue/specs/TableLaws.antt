-- Rows that hold the conflicts of a catalogue are the table that the call is to lend back, and so the call answers.
use Rattle.std.specs.Prelude.{ℕ, zero, suc, ◌+◌, ◌<◌, ◌≡◌, refl, List, [], ◌∷◌, map, length, get_or, Ok}
use Rattle.std.proofs.Common.{arith, ◌∙◌, ap}
use Rattle.std.proofs.Math.Option.{none}
use Rattle.spec.specs.Table.{first_line}
use Rattle.spec.specs.Answers.{yes_no}
use Rattle.spec.specs.Catalogue.{commands, catalogue_lines}
use Rattle.spec.specs.Conflict.{conflict}
use Rattle.spec.specs.Calls.{catalogue_table, numbers, conflict_rows}
use Rattle.spec_laws.specs.ConflictLaws.{count}
use Rattle.spec_laws.specs.SearchLaws.{passed_line}
use Rattle.input_chains.specs.Conflicts.{Conflicts}
use Rattle.input_conflicts.specs.Reading.{Reading}

-- a list that is known place by place
counted : {A : Type 0} (d : A) (f : ℕ → A) (l : List A) (a n : ℕ) → length l ≡ n
    → ((i : ℕ) → i < n → get_or l i d ≡ f (i + a)) → l ≡ map f (count a n)
unfolding count
counted d f [] a zero e h = refl
counted d f [] a (suc n) e h = absurd (omega (arith, e))
counted d f (x ∷ l) a zero e h = absurd (omega (arith, e))
counted d f (x ∷ l) a (suc n) e h =
    let z : 0 + a ≡ a = omega arith in
    let p : x ≡ f a = h 0 (omega arith) ∙ ap f z in
    let q : l ≡ map f (count (suc a) n) = counted d f l (suc a) n (omega (arith, e)) later in
    cc
  where
    later : (i : ℕ) → i < n → get_or l i d ≡ f (i + suc a)
    later i g =
        let s : suc i + a ≡ i + suc a = omega arith in
        h (suc i) (omega arith) ∙ ap f s

of_numbers : {A : Type 0} (d : A) (f : ℕ → A) (l : List A) → length l ≡ 24
    → ((i : ℕ) → i < 24 → get_or l i d ≡ f (i + 1)) → l ≡ map f numbers
unfolding numbers count
of_numbers d f l e h = counted d f l 1 24 e h

conflicts_rows : (c : List ℕ) (rows : List (List ℕ)) → Conflicts c rows → rows ≡ conflict_rows c
unfolding conflict_rows
conflicts_rows c rows k = of_numbers [] (λ a. map (λ b. yes_no (conflict c a b)) numbers) rows k.tall row
  where
    row : (i : ℕ) → i < 24 → get_or rows i [] ≡ map (λ b. yes_no (conflict c (i + 1) b)) numbers
    row i h =
        of_numbers 0 (λ b. yes_no (conflict c (i + 1) b)) (get_or rows i []) (k.wide i h)
        (λ j g. k.tells i j h g)

-- the check passed, and the rows are handed over
pub read_table : {c : List ℕ} {rows : List (List ℕ)} {n : ℕ} → Reading c rows (Ok n) → (table : List (List ℕ))
    → rows ≡ catalogue_table c table
read_table {c} {rows} d table =
    let e : first_line (catalogue_lines c) ≡ none = passed_line (first_line (catalogue_lines c)) (commands c) d.answer in
    rw e (conflicts_rows c rows (d.conflicts e))
