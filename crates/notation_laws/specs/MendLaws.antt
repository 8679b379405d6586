-- Where the scanner stops, no ending could mend the text any more, and up to there some ending could: line 13 of the
-- table is exact.
use Rattle.std.specs.Prelude.{ℕ, suc, ◌+◌, ◌-◌, ◌≤◌, ◌<◌, ◌≡◌, refl, Bool, true, false, ◌&&◌, List, [], ◌∷◌, ◌++◌, ◌↔◌, ◌⊎◌, length, take, drop, eqb}
use Rattle.std.proofs.Common.{sym, ◌∙◌, ap, true≢false, append_assoc, inl, inr, arith, take-add, le-leb}
use Rattle.std.proofs.Math.Option.{none, some}
use Rattle.std.proofs.lemmas.List.{length-map}
use Rattle.spec.specs.Table.{line, line_at}
use Rattle.spec_laws.specs.TableLaws.{none-some, some_same}
use Rattle.spec.specs.Notation.{Token, blank, opening, closing, minus, digit, other, token_of}
use Rattle.spec.specs.Notation.{Items, empty, tokens, Text, Mendable, Wrong}
use Rattle.spec.specs.Scanner.{Begun, free, sign, closed, count, Bracket, State, state, start, finish}
use Rattle.spec.specs.Scanner.{may_end, may_begin, is_free, may_digit, allowed, with_digit, close, next}
use Rattle.spec.specs.Scanner.{Outcome, says, wrong, run_step, run, wrong_left}
use Rattle.spec.specs.WriteOut.{text_line}
use Rattle.notation_laws.specs.FollowLaws.{text_says}
use Rattle.notation_laws.specs.BuildLaws.{says_text, wrong-says, passed}

-- s is read to its end
abbrev Says : State → List Token → Type 0
Says σ s = (t : Items) × (run σ s ≡ says t)

-- Whether a text is read to its end depends neither on the items before it nor on how many bytes are left

data Like : Begun → Begun → Type 0 where
  frees : Like free free
  signs : Like sign sign
  numbers : {u u' : Bool} {v l l' : ℕ} → Like (Begun.number u v l) (Begun.number u' v l')
  groups : {u u' : Bool} {g g' : Items} → Like (closed u g) (closed u' g')
  counts : {u u' : Bool} {g g' : Items} {n : ℕ} → Like (count u g n) (count u' g' n)

like_itself : (b : Begun) → Like b b
like_itself free = frees
like_itself sign = signs
like_itself (Begun.number u v l) = numbers
like_itself (closed u g) = groups
like_itself (count u g n) = counts

record Tested (b b' : Begun) : Type 0 where
  ends : may_end b ≡ may_end b'
  begins : may_begin b ≡ may_begin b'
  frees : is_free b ≡ is_free b'
  digits : (d : ℕ) → may_digit b d ≡ may_digit b' d

tested : {b b' : Begun} → Like b b' → Tested b b'
tested frees = record { ends = refl; begins = refl; frees = refl; digits = λ d. refl }
tested signs = record { ends = refl; begins = refl; frees = refl; digits = λ d. refl }
tested numbers = record { ends = refl; begins = refl; frees = refl; digits = λ d. refl }
tested groups = record { ends = refl; begins = refl; frees = refl; digits = λ d. refl }
tested counts = record { ends = refl; begins = refl; frees = refl; digits = λ d. refl }

like_digit : {b b' : Begun} → Like b b' → (d l l' : ℕ) → Like (with_digit b d l) (with_digit b' d l')
like_digit frees d l l' = numbers
like_digit signs d l l' = numbers
like_digit numbers d l l' = numbers
like_digit groups d l l' = counts
like_digit counts d l l' = counts

record Alike (σ σ' : State) : Type 0 where
  begun : Like σ.begun σ'.begun
  around : length σ.around ≡ length σ'.around

alike_itself : (σ : State) → Alike σ σ
alike_itself σ = record { begun = like_itself σ.begun; around = refl }

alike_close : {σ σ' : State} → Alike σ σ' → (os os' : List Bracket) → length os ≡ length os'
    → Alike (close σ os) (close σ' os')
alike_close a [] [] e = a
alike_close a [] (o' ∷ os') e = absurd (omega arith)
alike_close a (o ∷ os) [] e = absurd (omega arith)
alike_close a (o ∷ os) (o' ∷ os') e = record { begun = groups; around = omega arith }

alike_next : {σ σ' : State} → Alike σ σ' → (x : Token) (l l' : ℕ) → Alike (next σ x l) (next σ' x l')
alike_next a blank l l' = record { begun = frees; around = a.around }
alike_next a opening l l' = record { begun = frees; around = ap suc a.around }
alike_next {σ} {σ'} a closing l l' = alike_close a σ.around σ'.around a.around
alike_next a minus l l' = record { begun = signs; around = a.around }
alike_next a (digit d) l l' = record { begun = like_digit a.begun d l l'; around = a.around }
alike_next a other l l' = a

abbrev allows : State → Token → Bool
allows σ x = allowed σ.begun (length σ.around) x

alike_allows : {σ σ' : State} → Alike σ σ' → (x : Token) → allows σ x ≡ allows σ' x
alike_allows a blank = (tested a.begun).ends
alike_allows a opening = (tested a.begun).begins
alike_allows a closing = rw ((tested a.begun).ends, a.around)
alike_allows a minus = (tested a.begun).frees
alike_allows a (digit d) = (tested a.begun).digits d
alike_allows a other = refl

-- one token, and then the rest
step : (σ : State) (x : Token) (s : List Token) → allows σ x ≡ true → Says (next σ x (suc (length s))) s
    → Says σ (x ∷ s)
unfolding run
step σ x s m w = (w.0, rw m w.1)

unstep : (σ : State) (x : Token) (s : List Token) → Says σ (x ∷ s)
    → (allows σ x ≡ true) × Says (next σ x (suc (length s))) s
unfolding run
unstep σ x s w =
    let l = suc (length s) in
    let (m, e) = passed (allows σ x) (run (next σ x l) s) l w.1 in
    (m, (w.0, e))

alike_says : (s : List Token) {σ σ' : State} → Alike σ σ' → Says σ s → Says σ' s
unfolding run
alike_says [] {σ} {σ'} a w =
    let done = σ.before (finish σ.begun empty) in
    let (m, h) = passed (may_end σ.begun && eqb (length σ.around) 0) (says done) 0 w.1 in
    (σ'.before (finish σ'.begun empty), rw (← (tested a.begun).ends, ← a.around, m))
alike_says (x ∷ s) {σ} {σ'} a w =
    let l = suc (length s) in
    let (m, v) = unstep σ x s w in
    step σ' x s (sym (alike_allows a x) ∙ m) (alike_says s (alike_next a x l l) v)

-- the same with any number of bytes left
says_token : (σ : State) (x : Token) (l : ℕ) (s : List Token) → allows σ x ≡ true → Says (next σ x l) s
    → Says σ (x ∷ s)
says_token σ x l s m w = step σ x s m (alike_says s (alike_next (alike_itself σ) x l (suc (length s))) w)

says_rest : (σ : State) (x : Token) (l : ℕ) (s : List Token) → Says σ (x ∷ s)
    → (allows σ x ≡ true) × Says (next σ x l) s
says_rest σ x l s w =
    let (m, v) = unstep σ x s w in
    (m, alike_says s (alike_next (alike_itself σ) x (suc (length s)) l) v)

-- From every state some ending is read: all brackets closed, after a digit where only a minus has begun

closings : List Bracket → List ℕ
closings [] = []
closings (o ∷ os) = 41 ∷ closings os

closings_close : (os : List Bracket) (b : Begun) (f : Items → Items) → may_end b ≡ true
    → Says (state b f os) (tokens (closings os))
unfolding run token_of closings
closings_close [] b f m = (f (finish b empty), rw m)
closings_close (o ∷ os) b f m =
    let (t, e) = closings_close os (closed o.undone (f (finish b empty))) o.before refl in
    (t, rw (m, le-leb 1 (suc (length os)) (omega arith)) e)

mend : (b : Begun) (f : Items → Items) (os : List Bracket) → (e : List ℕ) × Says (state b f os) (tokens e)
unfolding run token_of
mend free f os = (closings os, closings_close os free f refl)
mend sign f os =
    let l = suc (length (tokens (closings os))) in
    (49 ∷ closings os, closings_close os (Begun.number true 1 l) f refl)
mend (Begun.number u v l) f os = (closings os, closings_close os (Begun.number u v l) f refl)
mend (closed u g) f os = (closings os, closings_close os (closed u g) f refl)
mend (count u g n) f os = (closings os, closings_close os (count u g n) f refl)

-- from a state, no ending is read after place i of s, and up to there one is
record Fails (σ : State) (s : List ℕ) (i : ℕ) : Type 0 where
  within : i ≤ length s
  before : (e : List ℕ) × Says σ (tokens (take i s ++ e))
  beyond : i < length s → (e : List ℕ) → ¬ Says σ (tokens (take (suc i) s ++ e))

-- the scanner stops because a later token is wrong, or because this one is
stopped : (p : Bool) (a : Outcome) (k l : ℕ) → run_step p a (wrong k) ≡ wrong l
    → ((p ≡ true) × (a ≡ wrong l)) ⊎ ((p ≡ false) × (k ≡ l))
stopped true a k l e = inl (refl, e)
stopped false a k l e = inr (refl, cc)

fails_here : (x : ℕ) (s : List ℕ) (σ : State) → allows σ (token_of x) ≡ false → Fails σ (x ∷ s) 0
fails_here x s σ m =
    record {
      within = omega arith;
      before = mend σ.begun σ.before σ.around;
      beyond = λ h e w. true≢false (sym (says_rest σ (token_of x) 0 (tokens e) w).0 ∙ m);
    }

fails_later : (x : ℕ) (s : List ℕ) (σ : State) (l i : ℕ) → allows σ (token_of x) ≡ true
    → Fails (next σ (token_of x) l) s i → Fails σ (x ∷ s) (suc i)
fails_later x s σ l i m r =
    record {
      within = omega (arith, r.within);
      before = let (e, w) = r.before in (e, says_token σ (token_of x) l (tokens (take i s ++ e)) m w);
      beyond = λ h e w. r.beyond (omega arith) e (says_rest σ (token_of x) l (tokens (take (suc i) s ++ e)) w).1;
    }

fails_end : (σ : State) → Fails σ [] 0
fails_end σ =
    record {
      within = omega arith;
      before = mend σ.begun σ.before σ.around;
      beyond = λ h. absurd (omega arith);
    }

fails : (s : List ℕ) (σ : State) (l : ℕ) → run σ (tokens s) ≡ wrong l → (i : ℕ) × (i + l ≡ length s) × Fails σ s i
unfolding run
fails [] σ l e =
    let done = σ.before (finish σ.begun empty) in
    elim (stopped (may_end σ.begun && eqb (length σ.around) 0) (says done) 0 l e) [
      | inl h ↦ absurd (wrong-says (sym h.1))
      | inr h ↦ (0, omega (arith, h.1), fails_end σ)
    ]
fails (x ∷ s) σ l e =
    let y = token_of x in
    let k = suc (length (tokens s)) in
    elim (stopped (allows σ y) (run (next σ y k) (tokens s)) k l e) [
      | inl h ↦
          let (i, n, r) = fails s (next σ y k) l h.1 in
          (suc i, omega arith, fails_later x s σ k i h.0 r)
      | inr h ↦ (0, omega (arith, h.1, length-map s token_of), fails_here x s σ h.0)
    ]

-- The same of a text's bytes

mends : {s : List ℕ} {i : ℕ} → Fails start s i → Mendable (take i s)
mends {s} {i} r = let (e, w) = r.before in (e, w.0, says_text (take i s ++ e) w.1)

run-wrong : (s : List ℕ) (l : ℕ) → run start (tokens s) ≡ wrong l → (i : ℕ) × (i + l ≡ length s) × Wrong s i
run-wrong s l h =
    let (i, n, r) = fails s start l h in (
      i,
      n,
      record {
        within = r.within;
        before = mends r;
        beyond = λ k m. r.beyond k m.0 (m.1, text_says (take (suc i) s ++ m.0) m.2);
        no_text = λ t p. wrong-says (sym h ∙ text_says s p);
      },
    )

mendable_left : (a b : List ℕ) → Mendable (a ++ b) → Mendable a
mendable_left a b (e, t, p) = (b ++ e, t, rw append_assoc at p)

not_before : (s : List ℕ) (i j : ℕ) → Wrong s i → Wrong s j → i < j → ⊥
not_before s i j p q h =
    let e : j ≡ suc i + (j - suc i) = omega arith in
    let m : Mendable (take (suc i + (j - suc i)) s) = rw e at q.before in
    p.beyond (omega (arith, q.within))
    (mendable_left (take (suc i) s) (take (j - suc i) (drop (suc i) s)) (rw take-add at m))

-- a text is wrong at one place only
wrong_once : (s : List ℕ) (i j : ℕ) → Wrong s i → Wrong s j → i ≡ j
wrong_once s i j p q =
    let a : i < j → ⊥ = not_before s i j p q in
    let b : j < i → ⊥ = not_before s j i q p in
    omega arith

pub wrong_exact : (s : List ℕ) (i : ℕ) → (text_line s ≡ some (line 13 1 i)) ↔ Wrong s i
wrong_exact s i = go (run start (tokens s)) refl
  where
    go : (o : Outcome) → run start (tokens s) ≡ o
        → (line_at 13 1 (λ l. length s - l) (wrong_left o) ≡ some (line 13 1 i)) ↔ Wrong s i
    go (says t) e = (λ h. absurd (none-some h), λ w. absurd (w.no_text t (says_text s e)))
    go (wrong l) e =
        let (j, n, w) = run-wrong s l e in
        let k : j ≡ length s - l = omega arith in (
          λ h. rw (k ∙ ap (λ x. x.place) (some_same h)) at w,
          λ v. let q : length s - l ≡ i = sym k ∙ wrong_once s j i w v in rw q,
        )

pub text_exact : (s : List ℕ) → (text_line s ≡ none) ↔ ((t : Items) × Text s t)
text_exact s = go (run start (tokens s)) refl
  where
    go : (o : Outcome) → run start (tokens s) ≡ o
        → (line_at 13 1 (λ l. length s - l) (wrong_left o) ≡ none) ↔ ((t : Items) × Text s t)
    go (says t) e = (λ h. (t, says_text s e), λ p. refl)
    go (wrong l) e = (λ h. absurd (none-some (sym h)), λ p. absurd (wrong-says (sym e ∙ text_says s p.1)))
