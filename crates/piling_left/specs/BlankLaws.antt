-- Laws of blanking: without the letters at the places of its pairs a plan has just the letters left, in order. The
-- plan is read byte by byte, as its reading is.
use Prim.Native.Nat.{ℕ, suc, ◌+◌, ◌-◌, ◌<◌, ◌≤◌}
use Rattle.std.proofs.Common.{arith, add-one, ◌∙◌, drop-cons, eq-eqb, ne_eqb}
use Rattle.std.proofs.Math.Decide.{ℕ_discrete}
use Rattle.std.specs.Prelude.{◌≡◌, Bool, true, false, eqb}
use Rattle.std.proofs.Math.Path.{refl, sym, ap, subst, subst₂}
use mathlib.Core.List.{List, [], ◌∷◌, ◌++◌, reverse, reverse_aux, reverse-append, append-nil, append_assoc}
use Rattle.std.proofs.Math.Option.{Option, some}
use Rattle.std.proofs.Math.ListN.{length, get_or, set, drop, length-set, length-append}
use Rattle.std.proofs.lemmas.List.{set-append_left}
use Rattle.std.proofs.Math.Seq.{set_at, drop-length, append_snoc}
use Rattle.theory_words.specs.All.{All, all_map, all_append, all_right}
use Rattle.theory_words.specs.Filter.{filter}
use Rattle.spec.specs.Letters.{letters}
use Rattle.spec_laws.specs.LettersLaws.{letters_filler, letters_letter}
use Rattle.spec.specs.Pairs.{Placed, placed, bytes_of, Partner, partner, Pair, Reading, left_after, pair_after}
use Rattle.spec.specs.Pairs.{read_byte, read_from, reading, left_of, numbers_of, pair_numbers}
use Rattle.spec_laws.specs.PartnerLaws.{Met, at, behind, Sought, met, unmet, sought}
use Rattle.spec_laws.specs.ReadingLaws.{numbers_append, byte_filler, byte_letter, left_word}
use Rattle.piling_stacks.specs.Pile.{reduced}
use Rattle.piling_left.specs.Left.{blanked}

blanked-length : (w ps : List ℕ) → length (blanked w ps) ≡ length w
unfolding blanked
blanked-length w [] = refl
blanked-length w (p ∷ ps) = blanked-length (set w p 0) ps ∙ length-set w p 0

blanked_then : (w ps qs : List ℕ) → blanked w (ps ++ qs) ≡ blanked (blanked w ps) qs
unfolding blanked
blanked_then w [] qs = refl
blanked_then w (p ∷ ps) qs = blanked_then (set w p 0) ps qs

-- bytes behind the places
blanked_after : (w v ps : List ℕ) → All (λ p. p < length w) ps → blanked (w ++ v) ps ≡ blanked w ps ++ v
unfolding blanked
blanked_after w v [] h = refl
blanked_after w v (p ∷ ps) h =
    ap (λ u. blanked u ps) (set-append_left w v p 0 h.0)
    ∙ blanked_after (set w p 0) v ps (all_map (λ q l. omega (arith, l, length-set w p 0)) ps h.1)

-- the loop that blanks: the places from i on are left

pub record Blanking (before places word : List ℕ) (i : ℕ) : Type 0 where
  pub within : i ≤ length places
  pub long : length word ≡ length before
  pub state : blanked before places ≡ blanked word (drop i places)

pub blanking_start : (word places : List ℕ) → Blanking word places word 0
blanking_start word places = record { within = omega arith; long = refl; state = refl }

module _ {before places word : List ℕ} {i : ℕ} (t : Blanking before places word i) where
  pub blanking_again : i < length places → Blanking before places (set word (get_or places i 0) 0) (i + 1)
  unfolding blanked
  blanking_again l = record {
    within = omega arith;
    long = length-set word (get_or places i 0) 0 ∙ t.long;
    state =
        t.state
        ∙ ap (blanked word) (drop-cons places i 0 l ∙ ap (λ j. get_or places i 0 ∷ drop j places) (sym (add-one i)));
  }

  pub blanking_end : length places ≤ i → word ≡ blanked before places
  unfolding blanked
  blanking_end l =
      let e : i ≡ length places = omega (arith, l, t.within) in
      sym (t.state ∙ ap (λ j. blanked word (drop j places)) e ∙ ap (blanked word) (drop-length places))

-- the letters of bytes with their places, the first byte at place i

unfoldable standing_step : Bool → Placed → List Placed → List Placed
standing_step true x t = t
standing_step false x t = x ∷ t

unfoldable standing : ℕ → List ℕ → List Placed
standing i [] = []
standing i (b ∷ w) = standing_step (eqb b 0) (placed b i) (standing (suc i) w)

standing_filler : (i b : ℕ) (w : List ℕ) → b ≡ 0 → standing i (b ∷ w) ≡ standing (suc i) w
unfolding standing standing_step
standing_filler i b w e = ap (λ t. standing_step t (placed b i) (standing (suc i) w)) (eq-eqb b 0 e)

standing_letter : (i b : ℕ) (w : List ℕ) → ¬ (b ≡ 0) → standing i (b ∷ w) ≡ placed b i ∷ standing (suc i) w
unfolding standing standing_step
standing_letter i b w n = ap (λ t. standing_step t (placed b i) (standing (suc i) w)) (ne_eqb b 0 n)

standing_bytes : (i : ℕ) (w : List ℕ) → bytes_of (standing i w) ≡ letters w
unfolding standing letters filter
standing_bytes i [] = refl
standing_bytes i (b ∷ w) = go (ℕ_discrete b 0) (standing_bytes (suc i) w)
  where
    go : Dec (b ≡ 0) → bytes_of (standing (suc i) w) ≡ letters w → bytes_of (standing i (b ∷ w)) ≡ letters (b ∷ w)
    go (yes e) ih = rw (standing_filler i b w e, letters_filler b w (eq-eqb b 0 e)) ih
    go (no n) ih = rw (standing_letter i b w n, letters_letter b w (ne_eqb b 0 n)) (ap (λ (v : List ℕ). b ∷ v) ih)

step_append : (t : Bool) (x : Placed) (u v : List Placed) → standing_step t x (u ++ v) ≡ standing_step t x u ++ v
unfolding standing_step
step_append true x u v = refl
step_append false x u v = refl

standing-append : (i : ℕ) (u v : List ℕ) → standing i (u ++ v) ≡ standing i u ++ standing (i + length u) v
unfolding standing
standing-append i [] v = ap (λ j. standing j v) (omega arith)
standing-append i (b ∷ u) v =
    ap (standing_step (eqb b 0) (placed b i))
    (standing-append (suc i) u v ∙ ap (λ j. standing (suc i) u ++ standing j v) (omega arith))
    ∙ step_append (eqb b 0) (placed b i) (standing (suc i) u) (standing (i + length (b ∷ u)) v)

-- their places are those of the bytes
abbrev Between : ℕ → ℕ → Placed → Type 0
Between i j x = (i ≤ x.place) × (x.place < j)

step_all : (P : Placed → Type 0) (t : Bool) (x : Placed) (u : List Placed) → P x → All P u
    → All P (standing_step t x u)
unfolding standing_step
step_all P true x u p h = h
step_all P false x u p h = (p, h)

standing_between : (i : ℕ) (w : List ℕ) → All (Between i (i + length w)) (standing i w)
unfolding standing
standing_between i [] = tt
standing_between i (b ∷ w) =
    step_all (Between i (i + length (b ∷ w))) (eqb b 0) (placed b i) (standing (suc i) w) (omega arith, omega arith)
    (all_map (λ x h. (omega (arith, h), omega (arith, h))) (standing (suc i) w) (standing_between (suc i) w))

standing_at : (i : ℕ) (w : List ℕ) (l : List Placed) (x : Placed) (r : List Placed) → standing i w ≡ l ++ x ∷ r
    → Between i (i + length w) x
standing_at i w l x r e =
    let P = Between i (i + length w) in
    (all_right P l (x ∷ r) (subst (All P) e (standing_between i w))).0

-- a filler in place of one of them
standing-set : (i : ℕ) (w : List ℕ) (l : List Placed) (x : Placed) (r : List Placed) → standing i w ≡ l ++ x ∷ r
    → standing i (set w (x.place - i) 0) ≡ l ++ r
unfolding standing
standing-set i [] l x r e = absurd (omega (arith, ap length e, length-append l (x ∷ r)))
standing-set i (b ∷ w) l x r e = go (ℕ_discrete b 0) l e (standing-set (suc i) w)
  where
    -- it stands behind the first byte
    behind : (m : List Placed) → standing (suc i) w ≡ m ++ x ∷ r
        → set (b ∷ w) (x.place - i) 0 ≡ b ∷ set w (x.place - suc i) 0
    behind m f =
        let k : x.place - i ≡ suc (x.place - suc i) = omega (arith, standing_at (suc i) w m x r f) in
        ap (λ j. set (b ∷ w) j 0) k

    go : Dec (b ≡ 0) → (l : List Placed) → standing i (b ∷ w) ≡ l ++ x ∷ r
        → ((l : List Placed) (x : Placed) (r : List Placed) → standing (suc i) w ≡ l ++ x ∷ r
        → standing (suc i) (set w (x.place - suc i) 0) ≡ l ++ r)
        → standing i (set (b ∷ w) (x.place - i) 0) ≡ l ++ r
    go (yes z) l e ih =
        let f = sym (standing_filler i b w z) ∙ e in
        ap (standing i) (behind l f) ∙ standing_filler i b (set w (x.place - suc i) 0) z ∙ ih l x r f
    go (no n) [] e ih =
        let f = sym (standing_letter i b w n) ∙ e in
        let k : x.place - i ≡ 0 = omega (arith, ap (λ t. (get_or t 0 x).place) f) in
        ap (λ j. standing i (set (b ∷ w) j 0)) k ∙ standing_filler i 0 w refl ∙ ap (drop 1) f
    go (no n) (y ∷ l) e ih =
        let f = sym (standing_letter i b w n) ∙ e in
        let g = ap (drop 1) f in
        ap (standing i) (behind l g) ∙ standing_letter i b (set w (x.place - suc i) 0) n
        ∙ ap (λ t. placed b i ∷ t) (ih l x r g) ∙ ap (λ z. z ∷ (l ++ r)) (ap (λ t. get_or t 0 y) f)

-- the letters left stand where the pairs of the bytes u read so far are blanked
record Stood (u : List ℕ) (r : Reading) : Type 0 where
  low : All (λ p. p < length u) (numbers_of r.pairs)
  stands : standing 0 (blanked u (numbers_of r.pairs)) ≡ reverse r.left

module _ (c : List ℕ) where
  -- the letter met, between the newer ones and the older ones
  met_parts : {b p : ℕ} {t s : List Placed} → Met c b t p s
      → (x : Placed) × (newer : List Placed) × (older : List Placed) × (x.place ≡ p) × (t ≡ newer ++ x ∷ older)
      × (s ≡ newer ++ older)
  met_parts (at {x = x} {t = t} e) = (x, [], t, refl, refl, refl)
  met_parts (behind {x = y} d m) =
      let (x, newer, older, e, f, g) = met_parts m in
      (x, y ∷ newer, older, e, ap (λ z. y ∷ z) f, ap (λ z. y ∷ z) g)

  module _ (u : List ℕ) (b : ℕ) (r : Reading) (s : Stood u r) where
    abbrev ps : List ℕ
    ps = numbers_of r.pairs

    abbrev w : List ℕ
    w = blanked u ps

    abbrev y : Placed
    y = placed b (length u)

    low_more : All (λ p. p < length (u ++ b ∷ [])) ps
    low_more = all_map (λ p l. omega (arith, l, length-append u (b ∷ []))) ps s.low

    more : blanked (u ++ b ∷ []) ps ≡ w ++ b ∷ []
    more = blanked_after u (b ∷ []) ps s.low

    long : length w ≡ length u
    long = blanked-length u ps

    stood_filler : b ≡ 0 → Stood (u ++ b ∷ []) r
    unfolding standing
    stood_filler e = record {
      low = low_more;
      stands =
          ap (standing 0) more ∙ standing-append 0 w (b ∷ [])
          ∙ ap (λ t. standing 0 w ++ t) (standing_filler (0 + length w) b [] e)
          ∙ append-nil (standing 0 w) ∙ s.stands;
    }

    stood_put : ¬ (b ≡ 0) → Stood (u ++ b ∷ []) (record { left = y ∷ r.left; pairs = r.pairs ++ [] })
    unfolding standing
    stood_put n = rw (append-nil r.pairs) (record {
      low = low_more;
      stands =
          ap (standing 0) more ∙ standing-append 0 w (b ∷ [])
          ∙ ap (λ t. standing 0 w ++ t) (standing_letter (0 + length w) b [] n)
          ∙ ap (λ t. t ++ placed b (0 + length w) ∷ []) s.stands
          ∙ ap (λ j. reverse r.left ++ placed b j ∷ []) (omega (arith, long))
          ∙ sym (reverse-append (y ∷ []) r.left);
    })

    -- the bytes with fillers at the places of one pair more
    more_pair : (p : ℕ) → p < length u → blanked (u ++ b ∷ []) (ps ++ p ∷ length u ∷ []) ≡ set w p 0 ++ 0 ∷ []
    unfolding blanked
    more_pair p l =
        blanked_then (u ++ b ∷ []) ps (p ∷ length u ∷ [])
        ∙ ap (λ v. set (set v p 0) (length u) 0) more
        ∙ ap (λ v. set v (length u) 0) (set-append_left w (b ∷ []) p 0 (omega (arith, l, long)))
        ∙ set_at (set w p 0) b [] 0 (length u) (length-set w p 0 ∙ long)

    stood_cut : (q : Partner) → Met c b r.left q.place q.rest
        → Stood (u ++ b ∷ []) (record { left = q.rest; pairs = r.pairs ++ pair_after y (some q) })
    unfolding standing
    stood_cut q m =
        let (x, newer, older, e, f, g) = met_parts m in
        let p = q.place in
        let pair : Pair = record { earlier = p; later = length u } in
        let parts : standing 0 w ≡ reverse older ++ x ∷ reverse newer
        = s.stands ∙ ap reverse f ∙ reverse-append newer (x ∷ older)
        ∙ ap (λ t. t ++ reverse newer) (reverse-append (x ∷ []) older)
        ∙ append_snoc (reverse older) x (reverse newer) in
        let k = length-append u (b ∷ []) in
        let l : p < length u = omega (arith, standing_at 0 w (reverse older) x (reverse newer) parts, e, long) in
        let cut : standing 0 (set w p 0) ≡ reverse q.rest
        = ap (λ j. standing 0 (set w j 0)) (omega (arith, e))
        ∙ standing-set 0 w (reverse older) x (reverse newer) parts
        ∙ sym (ap reverse g ∙ reverse-append newer older) in
        let numbers = numbers_append r.pairs (pair ∷ []) in
        let v : List ℕ = u ++ b ∷ [] in
        record {
          low =
              subst (All (λ i. i < length v)) (sym numbers)
              (all_append (λ i. i < length v) ps (p ∷ length u ∷ []) low_more
              (omega (arith, l, k), (omega (arith, k), tt)));
          stands =
              ap (λ qs. standing 0 (blanked v qs)) numbers
              ∙ ap (standing 0) (more_pair p l) ∙ standing-append 0 (set w p 0) (0 ∷ [])
              ∙ ap (λ t. standing 0 (set w p 0) ++ t) (standing_filler (0 + length (set w p 0)) 0 [] refl)
              ∙ append-nil (standing 0 (set w p 0)) ∙ cut;
        }

    stood_byte : Stood (u ++ b ∷ []) (read_byte c y r)
    stood_byte = go (ℕ_discrete b 0) (sought c b r.left)
      where
        go : Dec (b ≡ 0) → Sought c b r.left (partner c b r.left) → Stood (u ++ b ∷ []) (read_byte c y r)
        go (yes e) o = rw (byte_filler c y r e) (stood_filler e)
        go (no n) o = rw (byte_letter c y r n) (put_or_cut o)
          where
            put_or_cut : {o : Option Partner} → Sought c b r.left o
                → Stood (u ++ b ∷ []) (record { left = left_after y r.left o; pairs = r.pairs ++ pair_after y o })
            put_or_cut (met {q = q} m) = stood_cut q m
            put_or_cut (unmet m) = stood_put n

  stood_from : (u v : List ℕ) (r : Reading) → Stood u r → Stood (u ++ v) (read_from c (length u) v r)
  unfolding read_from
  stood_from u [] r s = subst (λ w. Stood w r) (sym (append-nil u)) s
  stood_from u (b ∷ v) r s =
      let d = read_byte c (placed b (length u)) r in
      let k : length (u ++ b ∷ []) ≡ suc (length u) = omega (arith, length-append u (b ∷ [])) in
      subst₂ (λ w i. Stood w (read_from c i v d)) (append_assoc u (b ∷ []) v) k
      (stood_from (u ++ b ∷ []) v d (stood_byte u b r s))

  stood : (v : List ℕ) → Stood v (reading c v)
  unfolding reading standing blanked
  stood v = stood_from [] v (record { left = []; pairs = [] }) (record { low = tt; stands = refl })

  pub pairs_low : (v : List ℕ) → All (λ p. p < length v) (pair_numbers c v)
  pairs_low v = (stood v).low

  pub blanked_left : (v : List ℕ) → letters (blanked v (pair_numbers c v)) ≡ reverse (reduced c v)
  blanked_left v =
      sym (standing_bytes 0 (blanked v (pair_numbers c v)))
      ∙ ap bytes_of (stood v).stands
      ∙ map_reverse (left_of c v)
      ∙ ap reverse (left_word c v)
    where
      map_onto : (t s : List Placed) → bytes_of (reverse_aux t s) ≡ reverse_aux (bytes_of t) (bytes_of s)
      map_onto [] s = refl
      map_onto (x ∷ t) s = map_onto t (x ∷ s)

      map_reverse : (t : List Placed) → bytes_of (reverse t) ≡ reverse (bytes_of t)
      map_reverse t = map_onto t []
