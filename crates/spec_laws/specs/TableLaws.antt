-- Laws of the table: the first line that holds, in lists put together from the lines of several checks.
use Rattle.std.specs.Prelude.{ℕ, ◌≡◌, refl, List, [], ◌∷◌, ◌++◌, ◌↔◌}
use Rattle.std.proofs.Common.{sym, ◌∙◌, arith}
use Rattle.std.proofs.Math.Option.{Option, none, some}
use Rattle.spec.specs.Table.{Line, line, first_line, line_at, NoneHolds, FirstHolds, now, later}

pub some_same : {A : Type 0} {a b : A} → some a ≡ some b → a ≡ b
some_same e = cc

pub none-some : {A : Type 0} {a : A} → none ≡ some a → ⊥
none-some e = let z : ◌≡◌ {A = ℕ} 0 1 = cc in omega arith

-- a line for something found, where nothing was
pub none_at : (n p : ℕ) (f : ℕ → ℕ) (o : Option ℕ) → line_at n p f o ≡ none → o ≡ none
none_at n p f none e = refl
none_at n p f (some i) e = absurd (none-some (sym e))

-- and where something was
pub some_at : (n p : ℕ) (f : ℕ → ℕ) (o : Option ℕ) {l : Line} → line_at n p f o ≡ some l
    → (i : ℕ) × (o ≡ some i) × (l ≡ line n p (f i))
some_at n p f none e = absurd (none-some e)
some_at n p f (some i) e = (i, refl, sym (some_same e))

-- the first line that holds in two lists, one after the other
pub first_early : (xs ys : List (Option Line)) {l : Line} → first_line xs ≡ some l → first_line (xs ++ ys) ≡ some l
first_early [] ys e = absurd (none-some e)
first_early (none ∷ xs) ys e = first_early xs ys e
first_early (some k ∷ xs) ys e = e

pub first_late : (xs ys : List (Option Line)) → first_line xs ≡ none → first_line (xs ++ ys) ≡ first_line ys
first_late [] ys e = refl
first_late (none ∷ xs) ys e = first_late xs ys e
first_late (some k ∷ xs) ys e = absurd (none-some (sym e))

pub none_left : (xs ys : List (Option Line)) → first_line (xs ++ ys) ≡ none → first_line xs ≡ none
none_left [] ys e = refl
none_left (none ∷ xs) ys e = none_left xs ys e
none_left (some k ∷ xs) ys e = e

pub none_right : (xs ys : List (Option Line)) → first_line (xs ++ ys) ≡ none → first_line ys ≡ none
none_right [] ys e = e
none_right (none ∷ xs) ys e = none_right xs ys e
none_right (some k ∷ xs) ys e = absurd (none-some (sym e))

-- what holds first in both together, where none of the second holds
pub first_left : (xs ys : List (Option Line)) {l : Line} → first_line ys ≡ none → first_line (xs ++ ys) ≡ some l
    → first_line xs ≡ some l
first_left [] ys n e = absurd (none-some (sym n ∙ e))
first_left (none ∷ xs) ys n e = first_left xs ys n e
first_left (some k ∷ xs) ys n e = e

-- lines can be left out at the end if none of them holds where none before them does
pub left_out : (xs ys : List (Option Line)) → (first_line xs ≡ none → first_line ys ≡ none)
    → first_line (xs ++ ys) ≡ first_line xs
left_out [] ys h = h refl
left_out (none ∷ xs) ys h = left_out xs ys h
left_out (some k ∷ xs) ys h = refl

pub none_holds : (ls : List (Option Line)) → (first_line ls ≡ none) ↔ NoneHolds ls
none_holds [] = (λ e. tt, λ n. refl)
none_holds (none ∷ ls) = (λ e. (refl, (none_holds ls).0 e), λ n. (none_holds ls).1 n.1)
none_holds (some l ∷ ls) = (λ e. absurd (none-some (sym e)), λ n. n.0)

pub first_holds : (ls : List (Option Line)) (l : Line) → (first_line ls ≡ some l) ↔ FirstHolds l ls
first_holds ls l = (there ls, back)
  where
    there : (ls : List (Option Line)) → first_line ls ≡ some l → FirstHolds l ls
    there [] e = absurd (none-some e)
    there (none ∷ ls) e = later (there ls e)
    there (some k ∷ ls) e = let h : k ≡ l = cc in rw h now

    back : {ls : List (Option Line)} → FirstHolds l ls → first_line ls ≡ some l
    back now = refl
    back (later f) = back f
