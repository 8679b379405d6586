-- Laws of the reading of a plan: one byte more of it, the word left without the places, and that it accounts for every
-- letter.
use Prim.Native.Nat.{ℕ, zero, suc, ◌+◌, ◌*◌, ◌≤◌, ◌<◌}
use native.Mathlib.Omega.{arith}
use Rattle.std.proofs.Math.Numerals.{add-one}
use Rattle.std.proofs.Math.Decide.{ℕ_discrete, dec_lt}
use Rattle.std.specs.Prelude.{◌≡◌, Bool, false, not, ◌&&◌, take, eqb, ltb}
use Rattle.std.proofs.Math.Path.{refl, ap}
use Rattle.std.proofs.Common.{sym, ◌∙◌, subst, length-append, take-suc, take_all, eq-eqb, ne_eqb, lt-ltb, le-ltb}
use Rattle.std.proofs.Math.Bool.{true}
use mathlib.Core.List.{List, [], ◌∷◌, ◌++◌, reverse, reverse_aux, append-nil}
use Rattle.std.proofs.Math.Option.{Option}
use Rattle.std.proofs.Math.ListN.{length, get_or, length-reverse, length-map, get_or-eq_default}
use Rattle.std.proofs.Math.Seq.{length-take-le}
use Rattle.theory_words.specs.All.{All, all_map, all_append, all_reverse}
use Rattle.theory_words.specs.Filter.{filter}
use Rattle.theory_words.specs.TraceLaws.{~_sym, ~-length}
use Rattle.theory_words.specs.Trace.{next}
use Rattle.theory_words.specs.Reduce.{act, reduce}
use Rattle.theory_words.specs.ReduceLaws.{reduce_back_~}
use Rattle.theory_words.specs.NormalLaws.{nf-~}
use Rattle.theory_words.specs.LetterLaws.{all_reduce}
use Rattle.spec.specs.Catalogue.{commands}
use Rattle.spec.specs.Plan.{is_command, Passing}
use Rattle.spec.specs.Letters.{letters, alphabet, normal_form}
use Rattle.spec.specs.Answers.{yes_no}
use Rattle.spec.specs.Core.{Swaps}
use Rattle.spec_laws.specs.PlanLaws.{passing_at}
use Rattle.spec_laws.specs.CommandLaws.{passes_command}
use Rattle.spec_laws.specs.LettersLaws.{letters_filler, letters_letter, letters_commands, more_filler}
use Rattle.spec_laws.specs.LettersLaws.{more_letter}
use Rattle.spec_laws.specs.SwapLaws.{words_swaps}
use Rattle.spec.specs.Pairs.{Placed, placed, bytes_of, places_of, Partner, Pair, Reading, left_after, pair_after}
use Rattle.spec.specs.Pairs.{read_letter, read_byte_step, read_byte, read_from, reading, left_of, numbers_of, count, IsPair, Accounts}
use Rattle.spec_laws.specs.PartnerLaws.{Met, Sought, met, unmet, sought, left_acts}
use Rattle.spec_laws.specs.PartnerLaws.{met_split, met_all, met_count, met_length}

-- pairs as numbers

pub numbers_append : (ps qs : List Pair) → numbers_of (ps ++ qs) ≡ numbers_of ps ++ numbers_of qs
numbers_append [] qs = refl
numbers_append (p ∷ ps) qs = ap (λ ns. p.earlier ∷ p.later ∷ ns) (numbers_append ps qs)

pub numbers_length : (ps : List Pair) → length (numbers_of ps) ≡ 2 * length ps
numbers_length [] = refl
numbers_length (p ∷ ps) = omega (arith, numbers_length ps)

count-append : (i : ℕ) (ms ns : List ℕ) → count i (ms ++ ns) ≡ count i ms + count i ns
count-append i [] ns = omega arith
count-append i (m ∷ ms) ns = omega (arith, count-append i ms ns)

module _ (c : List ℕ) where
  -- the two cases of a byte

  pub byte_filler : (x : Placed) (r : Reading) → x.byte ≡ 0 → read_byte c x r ≡ r
  unfolding read_byte
  byte_filler x r e = ap (λ t. read_byte_step t c x r) (eq-eqb x.byte 0 e)

  pub byte_letter : (x : Placed) (r : Reading) → ¬ (x.byte ≡ 0) → read_byte c x r ≡ read_letter c x r
  unfolding read_byte
  byte_letter x r n = ap (λ t. read_byte_step t c x r) (ne_eqb x.byte 0 n)

  from_append : (i : ℕ) (u v : List ℕ) (r : Reading)
      → read_from c i (u ++ v) r ≡ read_from c (i + length u) v (read_from c i u r)
  unfolding read_from
  from_append i [] v r = ap (λ j. read_from c j v r) (omega arith)
  from_append i (b ∷ u) v r =
      from_append (suc i) u v (read_byte c (placed b i) r)
      ∙ ap (λ j. read_from c j v (read_from c (suc i) u (read_byte c (placed b i) r))) (omega arith)

  -- the reading of one byte more
  pub reading_more : (v : List ℕ) (i : ℕ) → i < length v
      → reading c (take (i + 1) v) ≡ read_byte c (placed (get_or v i 0) i) (reading c (take i v))
  unfolding reading read_from
  reading_more v i l =
      let b = get_or v i 0 in
      let start : Reading = record { left = []; pairs = [] } in
      rw add-one
      (ap (λ u. read_from c 0 u start) (take-suc v i 0 l)
      ∙ from_append 0 (take i v) (b ∷ []) start
      ∙ ap (λ j. read_byte c (placed b j) (reading c (take i v))) (omega (arith, length-take-le i v (omega arith))))

  -- without the places, the letters left are the plan's word reduced from left to right
  read_acts : (b i : ℕ) (x : List ℕ) (r : Reading) → bytes_of r.left ≡ reduce (alphabet c) x
      → bytes_of (read_letter c (placed b i) r).left ≡ reduce (alphabet c) (b ∷ x)
  unfolding reduce
  read_acts b i x r e = left_acts c b i r.left ∙ ap (act (alphabet c) b) e

  left_from : (i : ℕ) (v x : List ℕ) (r : Reading) → bytes_of r.left ≡ reduce (alphabet c) x
      → bytes_of (read_from c i v r).left ≡ reduce (alphabet c) (reverse_aux (letters v) x)
  unfolding read_from letters filter
  left_from i [] x r e = e
  left_from i (b ∷ v) x r e = go (ℕ_discrete b 0) (left_from (suc i) v)
    where
      y : Placed
      y = placed b i

      go : Dec (b ≡ 0)
          → ((x : List ℕ) (r : Reading) → bytes_of r.left ≡ reduce (alphabet c) x
          → bytes_of (read_from c (suc i) v r).left ≡ reduce (alphabet c) (reverse_aux (letters v) x))
          → bytes_of (read_from c (suc i) v (read_byte c y r)).left
          ≡ reduce (alphabet c) (reverse_aux (letters (b ∷ v)) x)
      go (yes z) ih = rw (byte_filler y r z, letters_filler b v (eq-eqb b 0 z)) (ih x r e)
      go (no n) ih =
          rw (byte_letter y r n, letters_letter b v (ne_eqb b 0 n))
          (ih (b ∷ x) (read_letter c y r) (read_acts b i x r e))

  pub left_word : (v : List ℕ) → bytes_of (left_of c v) ≡ reduce (alphabet c) (reverse (letters v))
  unfolding reading reduce
  left_word v = left_from 0 v [] (record { left = []; pairs = [] }) refl

  -- in the plan's order they are the normal form, up to swaps
  pub left_swaps : (v : List ℕ) → Passing (commands c) v
      → Swaps c (reverse (bytes_of (left_of c v))) (normal_form c v)
  unfolding normal_form
  left_swaps v h =
      let g = alphabet c in
      let e : reverse (bytes_of (left_of c v)) ≡ reverse (reduce g (reverse (letters v))) = ap reverse (left_word v) in
      rw e
      (words_swaps c (next (reduce_back_~ g (letters v)) (~_sym g (nf-~ g (letters v))))
      (all_reverse P (reduce g (reverse (letters v)))
      (all_reduce g P (reverse (letters v)) (all_reverse P (letters v) (letters_commands (commands c) v h)))))
    where
      P : ℕ → Type 0
      P b = is_command (commands c) b ≡ true

  pub left_length : (v : List ℕ) → length (left_of c v) ≡ length (normal_form c v)
  unfolding normal_form
  left_length v =
      let g = alphabet c in
      omega (
        arith,
        length-map (left_of c v) (λ (x : Placed). x.byte),
        ap length (left_word v),
        length-reverse (reduce g (reverse (letters v))),
        ~-length g (next (reduce_back_~ g (letters v)) (~_sym g (nf-~ g (letters v)))),
      )

-- how often place j should be told when the bytes below i are read
abbrev due : List ℕ → ℕ → ℕ → ℕ
due v i j = yes_no (ltb j i && not (eqb (get_or v j 0) 0))

pub data Stands (i j : ℕ) : Type 0 where
  below : j < i → Stands i j
  same : i ≡ j → Stands i j
  above : i < j → Stands i j

stands : (i j : ℕ) → Stands i j
stands i j = go (dec_lt j i) (ℕ_discrete i j)
  where
    go : Dec (j < i) → Dec (i ≡ j) → Stands i j
    go (yes l) e = below l
    go (no n) (yes e) = same e
    go (no n) (no m) = above (omega (arith, n, m))

none_more : (s : Bool) (n : ℕ) → n ≡ n + yes_no (s && false)
none_more true n = omega arith
none_more false n = omega arith

one_more : (s : Bool) → yes_no s ≡ 0 + yes_no (s && true)
one_more true = refl
one_more false = refl

-- the byte at place i adds one there, if it is a letter
due_more : (v : List ℕ) (i j : ℕ) → due v (i + 1) j ≡ due v i j + yes_no (not (eqb (get_or v i 0) 0) && eqb i j)
due_more v i j = go (stands i j)
  where
    go : Stands i j → due v (i + 1) j ≡ due v i j + yes_no (not (eqb (get_or v i 0) 0) && eqb i j)
    go (below l) =
        rw (lt-ltb j (i + 1) (omega arith), lt-ltb j i l, ne_eqb i j (λ e. omega arith))
        (none_more (not (eqb (get_or v i 0) 0)) (yes_no (not (eqb (get_or v j 0) 0))))
    go (same e) =
        rw (← e, lt-ltb i (i + 1) (omega arith), le-ltb i i (omega arith), eq-eqb i i refl)
        (one_more (not (eqb (get_or v i 0) 0)))
    go (above l) =
        rw (le-ltb j (i + 1) (omega arith), le-ltb j i (omega arith), ne_eqb i j (λ e. omega arith))
        (none_more (not (eqb (get_or v i 0) 0)) 0)

due_filler : (v : List ℕ) (i j : ℕ) → get_or v i 0 ≡ 0 → due v (i + 1) j ≡ due v i j
due_filler v i j e = due_more v i j ∙ rw (eq-eqb (get_or v i 0) 0 e) (omega arith)

due_letter : (v : List ℕ) (i j : ℕ) → ¬ (get_or v i 0 ≡ 0) → due v (i + 1) j ≡ due v i j + yes_no (eqb i j)
due_letter v i j n = due_more v i j ∙ rw (ne_eqb (get_or v i 0) 0 n)

due_all : (v : List ℕ) (i : ℕ) → due v (length v) i ≡ yes_no (not (eqb (get_or v i 0) 0))
due_all v i = go (dec_lt i (length v))
  where
    go : Dec (i < length v) → due v (length v) i ≡ yes_no (not (eqb (get_or v i 0) 0))
    go (yes l) = rw (lt-ltb i (length v) l)
    go (no n) = rw (le-ltb i (length v) (omega (arith, n)), get_or-eq_default v 0 {n = i} (omega (arith, n)))

-- what the reading of the bytes below i has told
pub record Told (c v : List ℕ) (i : ℕ) (r : Reading) : Type 0 where
  pub own : All (λ x. (x.place < i) × (get_or v x.place 0 ≡ x.byte)) r.left
  pub each : All (IsPair c v) r.pairs
  pub once : (j : ℕ) → count j (numbers_of r.pairs) + count j (places_of r.left) ≡ due v i j
  pub letters : 2 * length r.pairs + length r.left ≡ length (letters (take i v))

module _ (c v : List ℕ) (h : Passing (commands c) v) {i : ℕ} (l : i < length v) where
  abbrev b : ℕ
  b = get_or v i 0

  abbrev Own : ℕ → Placed → Type 0
  Own n x = (x.place < n) × (get_or v x.place 0 ≡ x.byte)

  own_more : (t : List Placed) → All (Own i) t → All (Own (i + 1)) t
  own_more t k = all_map (λ x o. (omega arith, o.1)) t k

  told_filler : {r : Reading} → b ≡ 0 → Told c v i r → Told c v (i + 1) r
  told_filler {r} e t =
      record {
        own = own_more r.left t.own;
        each = t.each;
        once = λ j. t.once j ∙ sym (due_filler v i j e);
        letters =
            omega (
              arith,
              t.letters,
              length-reverse (letters (take i v)),
              length-reverse (letters (take (i + 1) v)),
              ap length (more_filler v i l e),
            );
      }

  -- the pair that b makes with the letter that it meets
  met_pair : {p : ℕ} {s : List Placed} → ¬ (b ≡ 0) → All (Own i) (left_of c (take i v))
      → Met c b (left_of c (take i v)) p s → IsPair c v (record { earlier = p; later = i })
  met_pair {p} n k m =
      let ((lower, kept), rest) = met_all c (Own i) m k in
      let (newer, older, e, f) = met_split c m in
      record {
        order = lower;
        within = l;
        command = passes_command (commands c) b (passing_at (commands c) v h i l) (ne_eqb b 0 n);
        undo = kept;
        newer = newer;
        older = older;
        left = e ∙ ap (λ a. newer ++ placed a p ∷ older) (sym kept);
        free = f;
      }

  told_letter : {r : Reading} → r.left ≡ left_of c (take i v) → ¬ (b ≡ 0) → Told c v i r
      → Told c v (i + 1) (read_letter c (placed b i) r)
  told_letter {r} k n t = go (sought c b r.left)
    where
      x : Placed
      x = placed b i

      longer : length (letters (take (i + 1) v)) ≡ suc (length (letters (take i v)))
      longer =
          omega (
            arith,
            length-reverse (letters (take i v)),
            length-reverse (letters (take (i + 1) v)),
            ap length (more_letter v i l n),
          )

      go : {o : Option Partner} → Sought c b r.left o
          → Told c v (i + 1) (record { left = left_after x r.left o; pairs = r.pairs ++ pair_after x o })
      go (met {q = q} m) =
          let p = q.place in
          let new : Pair = record { earlier = p; later = i } in
          record {
            own = own_more q.rest (met_all c (Own i) m t.own).1;
            each = all_append (IsPair c v) r.pairs (new ∷ []) t.each
                (met_pair n (subst (All (Own i)) k t.own) (subst (λ y. Met c b y p q.rest) k m), tt);
            once = λ j.
                omega (
                  arith,
                  ap (count j) (numbers_append r.pairs (new ∷ [])),
                  count-append j (numbers_of r.pairs) (p ∷ i ∷ []),
                  met_count c m j,
                  t.once j,
                  due_letter v i j n,
                );
            letters =
                omega (arith, t.letters, longer, length-append r.pairs (new ∷ []), met_length c m);
          }
      go (unmet m) =
          record {
            own = ((omega arith, refl), own_more r.left t.own);
            each = rw (append-nil r.pairs) t.each;
            once = λ j. rw (append-nil r.pairs) (omega (arith, t.once j, due_letter v i j n));
            letters = rw (append-nil r.pairs) (omega (arith, t.letters, longer));
          }

module _ (c v : List ℕ) (h : Passing (commands c) v) where
  -- of the bytes below i
  pub told : (i : ℕ) → i ≤ length v → Told c v i (reading c (take i v))
  unfolding reading read_from letters filter
  told zero l =
      record {
        own = tt;
        each = tt;
        once = λ j. rw (le-ltb j 0 (omega arith));
        letters = refl;
      }
  told (suc i) l = rw (← add-one, reading_more c v i l) (go (told i (omega arith)) (ℕ_discrete b 0))
    where
      b : ℕ
      b = get_or v i 0

      go : Told c v i (reading c (take i v)) → Dec (b ≡ 0)
          → Told c v (i + 1) (read_byte c (placed b i) (reading c (take i v)))
      go t (yes e) = rw (byte_filler c (placed b i) (reading c (take i v)) e) (told_filler c v h l e t)
      go t (no n) = rw (byte_letter c (placed b i) (reading c (take i v)) n) (told_letter c v h l refl n t)

  -- the reading of the whole plan accounts for every letter
  pub accounts : Accounts c v
  accounts =
      let whole : take (length v) v ≡ v = take_all (length v) v (omega arith) in
      let t : Told c v (length v) (reading c v) =
      subst (λ u. Told c v (length v) (reading c u)) whole (told (length v) (omega arith))
      in
      record {
        left = left_swaps c v h;
        own = all_map (λ x o. o.1) (left_of c v) t.own;
        each = t.each;
        once = λ i. t.once i ∙ due_all v i;
        letters = omega (arith, t.letters, left_length c v, ap (λ u. length (letters u)) whole);
      }
