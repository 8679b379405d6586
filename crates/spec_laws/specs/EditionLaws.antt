-- A catalogue of the first edition and its writing in the second have the same heads and records. So they pass together
-- or are refused by lines of the same number, and have the same chains.
use Prim.Native.Nat.{ℕ, zero, suc, ◌+◌, ◌*◌, ◌-◌, ◌≤◌, ◌<◌}
use Rattle.std.proofs.Common.{arith, sym, ◌∙◌, subst, length-drop, take-append-drop, drop_of_length-le, length-take-le, take_all, get_or-append-add, leb-true, leb-false}
use Rattle.std.specs.Prelude.{◌≡◌, Bool, true, false, not, ◌||◌, ◌↔◌, take, drop, leb, ltb, eqb}
use Rattle.std.proofs.Math.Path.{refl, ap, ap₂}
use mathlib.Core.List.{List, [], ◌∷◌, ◌++◌, Memᴰ}
use Rattle.std.proofs.Math.Option.{Option, none, some}
use Rattle.std.proofs.Math.ListN.{length, length-append, get_or-append}
use Rattle.spec.specs.Table.{Line, line, holds, first_of, found_step, line_at, first_line, NoneHolds, FirstHolds}
use Rattle.spec_laws.specs.TableLaws.{some_same, none-some, none_holds, first_holds}
use Rattle.spec_laws.specs.LayoutLaws.{first_layout, second_layout, size_wrong, size_right}
use Rattle.spec.specs.Layout.{Layout, byte_at, pair_at, first_edition, second_edition, layout}
use Rattle.spec.specs.Catalogue.{commands, records, head_place, command_place, next_place, within, head_step, head}
use Rattle.spec.specs.Catalogue.{command, next, ends, follow, chain, stands, or_if, size_line}
use Rattle.spec.specs.Catalogue.{head_line, next_line, index_line, record_line, endless_line, own_line, catalogue_lines}
use Rattle.spec_laws.specs.CommandLaws.{within-true}
use Rattle.spec.specs.Editions.{wide_heads, wide_records, rewritten, SayTheSame}

-- Catalogues with the same heads and records

-- record 0 is none
record SameRecords (c d : List ℕ) : Type 0 where
  pub commands : commands c ≡ commands d
  pub records : records c ≡ records d
  pub heads : (a : ℕ) → head c a ≡ head d a
  pub named : (j : ℕ) → command c (suc j) ≡ command d (suc j)
  pub nexts : (j : ℕ) → next c (suc j) ≡ next d (suc j)

same_refl : (c : List ℕ) → SameRecords c c
same_refl c =
    record {
      commands = refl;
      records = refl;
      heads = λ a. refl;
      named = λ j. refl;
      nexts = λ j. refl;
    }

-- the same is found from 1 on by tests that agree there
first_alike : (p q : ℕ → Bool) → ((i : ℕ) → p (suc i) ≡ q (suc i)) → (n s : ℕ)
    → first_of p n (suc s) ≡ first_of q n (suc s)
unfolding first_of
first_alike p q h zero s = refl
first_alike p q h (suc n) s = ap₂ (λ t o. found_step t (suc s) o) (h s) (first_alike p q h n (suc s))

-- The numbers of lines

-- the number of a line that holds
abbrev number : Option Line → Option ℕ
number none = none
number (some l) = some l.number

at_number : (k : ℕ) (f g : ℕ → ℕ) (o : Option ℕ) → number (line_at k 0 f o) ≡ number (line_at k 0 g o)
at_number k f g none = refl
at_number k f g (some i) = refl

or_number : (o p q r : Option Line) → number o ≡ number p → number q ≡ number r → number (or_if o q) ≡ number (or_if p r)
or_number none none q r e f = f
or_number none (some l) q r e f = absurd (none-some e)
or_number (some k) none q r e f = absurd (none-some (sym e))
or_number (some k) (some l) q r e f = e

-- the lines of two lists have the same numbers, one by one
abbrev SameNumbers : List (Option Line) → List (Option Line) → Type 0
SameNumbers [] [] = Unit {0}
SameNumbers [] (p ∷ ps) = ⊥
SameNumbers (o ∷ os) [] = ⊥
SameNumbers (o ∷ os) (p ∷ ps) = (number o ≡ number p) × SameNumbers os ps

first_number : (os ps : List (Option Line)) → SameNumbers os ps → number (first_line os) ≡ number (first_line ps)
first_number [] [] n = refl
first_number [] (p ∷ ps) n = absurd n
first_number (o ∷ os) [] n = absurd n
first_number (none ∷ os) (none ∷ ps) n = first_number os ps n.1
first_number (none ∷ os) (some l ∷ ps) n = absurd (none-some n.0)
first_number (some k ∷ os) (none ∷ ps) n = absurd (none-some (sym n.0))
first_number (some k ∷ os) (some l ∷ ps) n = n.0

module _ {c d : List ℕ} (s : SameRecords c d) where
  ends_alike : (n i : ℕ) → ends c n i ≡ ends d n i
  unfolding ends
  ends_alike zero zero = refl
  ends_alike zero (suc i) = refl
  ends_alike (suc n) zero = refl
  ends_alike (suc n) (suc i) = ends_alike n (next c (suc i)) ∙ ap (ends d n) (s.nexts i)

  follow_alike : (n i : ℕ) → follow c n i ≡ follow d n i
  unfolding follow
  follow_alike zero i = refl
  follow_alike (suc n) zero = refl
  follow_alike (suc n) (suc i) =
      ap₂ ◌∷◌ (s.named i) (follow_alike n (next c (suc i)) ∙ ap (follow d n) (s.nexts i))

  chain_alike : (a : ℕ) → chain c a ≡ chain d a
  chain_alike a = ap₂ (follow c) s.records (s.heads a) ∙ follow_alike (records d) (head d a)

  -- a line that searches either catalogue by the same rule
  found_alike : (k : ℕ) (place : List ℕ → ℕ → ℕ) (bad : List ℕ → ℕ → Bool) (most : List ℕ → ℕ)
      → most c ≡ most d → ((i : ℕ) → bad c (suc i) ≡ bad d (suc i))
      → number (line_at k 0 (place c) (first_of (bad c) (most c) 1))
      ≡ number (line_at k 0 (place d) (first_of (bad d) (most d) 1))
  found_alike k place bad most e h =
      at_number k (place c) (place d) (first_of (bad c) (most c) 1)
      ∙ ap (λ o. number (line_at k 0 (place d) o))
      (ap (λ n. first_of (bad c) n 1) e ∙ first_alike (bad c) (bad d) h (most d) 0)

  index_alike : number (index_line c) ≡ number (index_line d)
  index_alike =
      or_number (head_line c) (head_line d) (next_line c) (next_line d)
      (found_alike 3 head_place (λ x a. ltb (records x) (head x a)) commands s.commands
      (λ a. ap₂ ltb s.records (s.heads (suc a))))
      (found_alike 3 next_place (λ x j. ltb (records x) (next x j)) records s.records
      (λ j. ap₂ ltb s.records (s.nexts j)))

  record_alike : number (record_line c) ≡ number (record_line d)
  record_alike =
      found_alike 4 command_place (λ x j. eqb (command x j) 0 || ltb (commands x) (command x j)) records s.records
      (λ j. ap₂ (λ n k. eqb k 0 || ltb n k) s.commands (s.named j))

  endless_alike : number (endless_line c) ≡ number (endless_line d)
  endless_alike =
      found_alike 5 head_place (λ x a. not (ends x (records x) (head x a))) commands s.commands
      (λ a. ap not (ap₂ (ends c) s.records (s.heads (suc a)) ∙ ends_alike (records d) (head d (suc a))))

  own_alike : number (own_line c) ≡ number (own_line d)
  own_alike =
      found_alike 6 head_place (λ x a. stands a (chain x a)) commands s.commands
      (λ a. ap (stands (suc a)) (chain_alike (suc a)))

  -- where the sizes of both are right, the same line refuses both, or none does
  lines_alike : size_line c ≡ none → size_line d ≡ none
      → number (first_line (catalogue_lines c)) ≡ number (first_line (catalogue_lines d))
  lines_alike e f = first_number (catalogue_lines c) (catalogue_lines d) (
    ap number (e ∙ sym f),
    (
      ap (λ n. number (holds (ltb 24 n) (line 2 0 0))) s.commands,
      (
        ap (λ r. number (holds (ltb 1024 r) (line 17 0 1))) s.records,
        (index_alike, (record_alike, (endless_alike, (own_alike, tt)))),
      ),
    ),
  )

-- What stands where in the writing

-- a list put in front of another shifts what stands there
behind : (x y : List ℕ) (i j : ℕ) → i ≡ length x + j → byte_at (x ++ y) i ≡ byte_at y j
behind x y i j e = ap (byte_at (x ++ y)) e ∙ get_or-append-add x y j 0

pair_behind : (x y : List ℕ) (i j : ℕ) → i ≡ length x + j → pair_at (x ++ y) i ≡ pair_at y j
pair_behind x y i j e = ap₂ (λ a b. a + 256 * b) (behind x y i j e) (behind x y (i + 1) (j + 1) (omega arith))

pair_before : (x y : List ℕ) (i : ℕ) → i + 1 < length x → pair_at (x ++ y) i ≡ pair_at x i
pair_before x y i h =
    ap₂ (λ a b. a + 256 * b) (get_or-append x y 0 i (omega arith)) (get_or-append x y 0 (i + 1) h)

-- how long the writings of heads and of records are; half a record does not become a whole one
heads_length : (hs : List ℕ) → length (wide_heads hs) ≡ 2 * length hs
unfolding wide_heads
heads_length [] = refl
heads_length (h ∷ hs) = omega (arith, heads_length hs)

records_length : (rs : List ℕ) (r : ℕ) → (length (wide_records rs) ≡ 3 * r) ↔ (length rs ≡ 2 * r)
unfolding wide_records
records_length [] r = (λ e. omega arith, λ e. omega arith)
records_length (k ∷ []) r = (λ e. absurd (omega arith), λ e. absurd (omega arith))
records_length (k ∷ i ∷ rs) zero = (λ e. absurd (omega arith), λ e. absurd (omega arith))
records_length (k ∷ i ∷ rs) (suc r) = (
  λ e. omega (arith, (records_length rs r).0 (omega arith)),
  λ e. omega (arith, (records_length rs r).1 (omega arith)),
)

-- what stands in them
head_at : (hs : List ℕ) (i : ℕ) → pair_at (wide_heads hs) (2 * i) ≡ byte_at hs i
unfolding wide_heads
head_at [] i = refl
head_at (h ∷ hs) zero = omega arith
head_at (h ∷ hs) (suc i) = pair_behind (h ∷ 0 ∷ []) (wide_heads hs) (2 * suc i) (2 * i) (omega arith) ∙ head_at hs i

command_at : (rs : List ℕ) (j : ℕ) → byte_at (wide_records rs) (3 * j) ≡ byte_at rs (2 * j)
unfolding wide_records
command_at [] j = refl
command_at (k ∷ []) zero = refl
command_at (k ∷ []) (suc j) =
    behind (k ∷ []) [] (3 * suc j) (3 * j + 2) (omega arith)
    ∙ sym (behind (k ∷ []) [] (2 * suc j) (2 * j + 1) (omega arith))
command_at (k ∷ i ∷ rs) zero = refl
command_at (k ∷ i ∷ rs) (suc j) =
    behind (k ∷ i ∷ 0 ∷ []) (wide_records rs) (3 * suc j) (3 * j) (omega arith)
    ∙ command_at rs j
    ∙ sym (behind (k ∷ i ∷ []) rs (2 * suc j) (2 * j) (omega arith))

next_at : (rs : List ℕ) (j : ℕ) → pair_at (wide_records rs) (3 * j + 1) ≡ byte_at rs (2 * j + 1)
unfolding wide_records
next_at [] j = refl
next_at (k ∷ []) j =
    pair_behind (k ∷ []) [] (3 * j + 1) (3 * j) (omega arith)
    ∙ sym (behind (k ∷ []) [] (2 * j + 1) (2 * j) (omega arith))
next_at (k ∷ i ∷ rs) zero = omega arith
next_at (k ∷ i ∷ rs) (suc j) =
    pair_behind (k ∷ i ∷ 0 ∷ []) (wide_records rs) (3 * suc j + 1) (3 * j + 1) (omega arith)
    ∙ next_at rs j
    ∙ sym (behind (k ∷ i ∷ []) rs (2 * suc j + 1) (2 * j + 1) (omega arith))

-- heads of a number that agree where it is a command
head_when : (t : Bool) {x y : ℕ} → (t ≡ true → x ≡ y) → head_step t x ≡ head_step t y
head_when true f = f refl
head_when false f = refl

-- N, R, the heads hs and the records rs, in the first edition and in the second
module _ (n r : ℕ) (hs rs : List ℕ) where
  abbrev c : List ℕ
  c = n ∷ r ∷ hs ++ rs

  abbrev d : List ℕ
  d = (128 + n) ∷ r ∷ 0 ∷ wide_heads hs ++ wide_records rs

  module _ (low : n < 128) (long : length hs ≡ n) where
    -- each is laid out as its first byte tells
    by_layouts : (f g : Layout → ℕ) → f (first_edition c) ≡ g (second_edition d) → f (layout c) ≡ g (layout d)
    by_layouts f g e =
        sym (ap f (first_layout c low)) ∙ e ∙ ap g (second_layout d (omega arith))

    count_same : 128 + n - 128 ≡ n
    count_same = omega arith

    head_same : (a : ℕ) → 1 ≤ a → a ≤ n → byte_at c (1 + a) ≡ pair_at d (1 + 2 * a)
    head_same zero h k = absurd (omega arith)
    head_same (suc i) h k =
        behind (n ∷ r ∷ []) (hs ++ rs) (1 + suc i) i (omega arith)
        ∙ get_or-append hs rs 0 i (omega arith)
        ∙ sym (head_at hs i)
        ∙ sym (pair_before (wide_heads hs) (wide_records rs) (2 * i) (omega (arith, heads_length hs)))
        ∙ sym (pair_behind ((128 + n) ∷ r ∷ 0 ∷ []) (wide_heads hs ++ wide_records rs) (1 + 2 * suc i) (2 * i)
        (omega arith))

    heads_same : (a : ℕ) → head_step (within 1 n a) (byte_at c (1 + a))
        ≡ head_step (within 1 (128 + n - 128) a) (pair_at d (1 + 2 * a))
    heads_same a =
        rw count_same (head_when (within 1 n a) (λ t. let w = within-true 1 n a t in head_same a w.0 w.1))

    command_same : (j : ℕ) → byte_at c (n + 2 * suc j) ≡ byte_at d (2 * (128 + n - 128) + 3 * suc j)
    command_same j =
        behind (n ∷ r ∷ hs) rs (n + 2 * suc j) (2 * j) (omega arith)
        ∙ sym (command_at rs j)
        ∙ sym (behind ((128 + n) ∷ r ∷ 0 ∷ wide_heads hs) (wide_records rs) (2 * (128 + n - 128) + 3 * suc j) (3 * j)
        (omega (arith, heads_length hs)))

    next_same : (j : ℕ) → byte_at c (n + 2 * suc j + 1) ≡ pair_at d (2 * (128 + n - 128) + 3 * suc j + 1)
    next_same j =
        behind (n ∷ r ∷ hs) rs (n + 2 * suc j + 1) (2 * j + 1) (omega arith)
        ∙ sym (next_at rs j)
        ∙ sym (pair_behind ((128 + n) ∷ r ∷ 0 ∷ wide_heads hs) (wide_records rs) (2 * (128 + n - 128) + 3 * suc j + 1)
        (3 * j + 1) (omega (arith, heads_length hs)))

    writings_alike : SameRecords c d
    writings_alike =
        let headIn : Layout → ℕ → ℕ = λ l a. head_step (within 1 l.commands a) (l.index_at (l.head_place a)) in
        let nextIn : Layout → ℕ → ℕ = λ l j. l.index_at (l.command_place j + 1) in
        record {
          commands = by_layouts (λ l. l.commands) (λ l. l.commands) (sym count_same);
          records = by_layouts (λ l. l.records) (λ l. l.records) (omega arith);
          heads = λ a. by_layouts (λ l. headIn l a) (λ l. headIn l a) (heads_same a);
          named =
              λ j. by_layouts (λ l. byte_at c (l.command_place (suc j))) (λ l. byte_at d (l.command_place (suc j)))
              (command_same j);
          nexts = λ j. by_layouts (λ l. nextIn l (suc j)) (λ l. nextIn l (suc j)) (next_same j);
        }

-- The size

module _ (n r : ℕ) (rest : List ℕ) (low : n < 128) where
  abbrev hs : List ℕ
  hs = take n rest

  abbrev rs : List ℕ
  rs = drop n rest

  -- the right number of bytes for heads and records is so in the writing
  whole : length rest ≡ n + 2 * r → length (wide_heads hs ++ wide_records rs) ≡ 2 * n + 3 * r
  whole e =
      let l : length hs ≡ n = length-take-le n rest (omega arith) in
      let k : length rs ≡ 2 * r = omega (arith, length-drop n rest) in
      omega (arith, length-append (wide_heads hs) (wide_records rs), heads_length hs, (records_length rs r).1 k)

  -- and no other is: fewer bytes than heads leave none for records
  part : length (wide_heads hs ++ wide_records rs) ≡ 2 * n + 3 * r → length rest ≡ n + 2 * r
  unfolding wide_records
  part e = go (leb n (length rest)) refl
    where
      size : 2 * length hs + length (wide_records rs) ≡ 2 * n + 3 * r
      size = omega (arith, length-append (wide_heads hs) (wide_records rs), heads_length hs)

      go : (t : Bool) → leb n (length rest) ≡ t → length rest ≡ n + 2 * r
      go true t =
          let h : n ≤ length rest = leb-true n (length rest) t in
          let l : length hs ≡ n = length-take-le n rest h in
          let k : length rs ≡ 2 * r = (records_length rs r).0 (omega (arith, size)) in
          omega (arith, length-drop n rest)
      go false t =
          let h : length rest < n = leb-false n (length rest) t in
          let l : hs ≡ rest = take_all n rest (omega arith) in
          let k : rs ≡ [] = drop_of_length-le rest {i = n} (omega arith) in
          absurd (omega (arith, size, ap length l, ap (λ x. length (wide_records x)) k))

  first_size : (size_line (n ∷ r ∷ rest) ≡ none) ↔ (length rest ≡ n + 2 * r)
  first_size =
      let c : List ℕ = n ∷ r ∷ rest in
      let e = ap (λ l. l.size) (first_layout c low) in (
        λ h. omega (arith, e, (size_right c).0 h),
        λ h. (size_right c).1 (omega (arith, e)),
      )

  second_size : (size_line (rewritten (n ∷ r ∷ rest)) ≡ none) ↔ (length rest ≡ n + 2 * r)
  second_size =
      let d : List ℕ = rewritten (n ∷ r ∷ rest) in
      let e = ap (λ l. l.size) (second_layout d (omega arith)) in (
        λ h. part (omega (arith, e, (size_right d).0 h)),
        λ h. (size_right d).1 (omega (arith, e, whole h)),
      )

  long_alike : length rest ≡ n + 2 * r → SameRecords (n ∷ r ∷ rest) (rewritten (n ∷ r ∷ rest))
  long_alike e =
      subst (λ x. SameRecords (n ∷ r ∷ x) (rewritten (n ∷ r ∷ rest))) (take-append-drop n rest)
      (writings_alike n r hs rs low (length-take-le n rest (omega arith)))

-- A catalogue of the first edition and its writing in the second

rewritten_size : (c : List ℕ) → byte_at c 0 < 128 → (size_line (rewritten c) ≡ none) ↔ (size_line c ≡ none)
rewritten_size [] h = (λ e. e, λ e. e)
rewritten_size (n ∷ []) h = (λ e. e, λ e. e)
rewritten_size (n ∷ r ∷ c) h = (
  λ e. (first_size n r c h).1 ((second_size n r c h).0 e),
  λ e. (second_size n r c h).1 ((first_size n r c h).0 e),
)

rewritten_alike : (c : List ℕ) → byte_at c 0 < 128 → size_line c ≡ none → SameRecords c (rewritten c)
rewritten_alike [] h e = same_refl []
rewritten_alike (n ∷ []) h e = same_refl (n ∷ [])
rewritten_alike (n ∷ r ∷ c) h e = long_alike n r c h ((first_size n r c h).0 e)

module _ (c : List ℕ) (low : byte_at c 0 < 128) where
  -- a wrong size is line 1 of both
  rewritten-number : number (first_line (catalogue_lines c)) ≡ number (first_line (catalogue_lines (rewritten c)))
  rewritten-number = go (size_line c) refl
    where
      wrong : (x : List ℕ) → (size_line x ≡ none → ⊥) → number (first_line (catalogue_lines x)) ≡ some 1
      wrong x n = rw (size_wrong x (λ e. n ((size_right x).1 e)))

      go : (o : Option Line) → size_line c ≡ o
          → number (first_line (catalogue_lines c)) ≡ number (first_line (catalogue_lines (rewritten c)))
      go none e = lines_alike (rewritten_alike c low e) e ((rewritten_size c low).1 e)
      go (some l) e =
          let n : size_line c ≡ none → ⊥ = λ f. none-some (sym f ∙ e) in
          wrong c n ∙ sym (wrong (rewritten c) (λ f. n ((rewritten_size c low).0 f)))

  pub rewritten_refused : (l : Line) → FirstHolds l (catalogue_lines c)
      → (k : Line) × FirstHolds k (catalogue_lines (rewritten c)) × (k.number ≡ l.number)
  rewritten_refused l h = go (first_line (catalogue_lines (rewritten c))) refl
    where
      told : number (first_line (catalogue_lines (rewritten c))) ≡ some l.number
      told = sym rewritten-number ∙ ap number ((first_holds (catalogue_lines c) l).1 h)

      go : (o : Option Line) → first_line (catalogue_lines (rewritten c)) ≡ o
          → (k : Line) × FirstHolds k (catalogue_lines (rewritten c)) × (k.number ≡ l.number)
      go none e = absurd (none-some (sym (ap number e) ∙ told))
      go (some k) e = (k, (first_holds (catalogue_lines (rewritten c)) k).0 e, some_same (sym (ap number e) ∙ told))

  pub rewritten_passes : NoneHolds (catalogue_lines (rewritten c)) ↔ NoneHolds (catalogue_lines c)
  rewritten_passes = (
    λ h. (none_holds (catalogue_lines c)).0 (none_numbered _ (rewritten-number ∙ ap number (back (rewritten c) h))),
    λ h. (none_holds (catalogue_lines (rewritten c))).0 (none_numbered _ (sym rewritten-number ∙ ap number (back c h))),
  )
    where
      none_numbered : (o : Option Line) → number o ≡ none → o ≡ none
      none_numbered none e = refl
      none_numbered (some l) e = absurd (none-some (sym e))

      back : (x : List ℕ) → NoneHolds (catalogue_lines x) → first_line (catalogue_lines x) ≡ none
      back x h = (none_holds (catalogue_lines x)).1 h

  pub rewritten_same : NoneHolds (catalogue_lines c) → SayTheSame c (rewritten c)
  rewritten_same h =
      let s = rewritten_alike c low h.0 in
      record {
        passes = h;
        passes_too = rewritten_passes.1 h;
        commands = s.commands;
        pairs = λ a b. (
          subst (Memᴰ b) (chain_alike s a),
          subst (Memᴰ b) (sym (chain_alike s a)),
        );
      }
