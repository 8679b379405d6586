-- Laws of framing: an input computes to well framed exactly if it is some catalogue and two plans, well framed, and
-- these are its parts.
use Rattle.std.specs.Prelude.{ℕ, suc, ◌+◌, ◌*◌, ◌-◌, ◌≤◌, ◌<◌, ◌≡◌, refl, Bool, true, false, ◌&&◌, List, [], ◌∷◌, ◌++◌, length, get_or, take, drop, leb, eqb, Some, None}
use Rattle.std.proofs.Common.{arith, add-zero, sym, ◌∙◌, ap, ap₂, append_assoc, append-nil, length-append, length-drop, take-append-drop, length-take-le, drop-cons, drop-drop, get_or-take, get_or-drop, le-leb, leb-true, eq-eqb, ne_eqb, eqb-true}
use Rattle.std.proofs.Math.ListN.{get_or-append}
use Rattle.std.proofs.Math.Seq.{drop-length, take-append_seam, drop-append_seam}
use Rattle.std.proofs.lemmas.Bool.{lt-leb}
use Rattle.theory_words.specs.BoolLaws.{and_both}
use Rattle.loops_framing.specs.declared.Places.{Places}
use Rattle.spec.specs.Layout.{byte_at, is_second, layout_step}
use Rattle.spec_laws.specs.LayoutLaws.{start_within}
use Rattle.spec.specs.Framing.{catalogue_length, Counted, counted, Framed, count_at, plan_at, plan_end, second_place}
use Rattle.spec.specs.Framing.{well_framed, catalogue_of, plan1_of, plan2_of}
use Rattle.loops_framing.specs.Frame.{frame_step, frame}

-- What the code's tests tell

pub long_badly : (s : List ℕ) → 8192 < length s → None ≡ frame s
long_badly s h = simp (lt-leb (length s) 8192 h)

and_right : (b : Bool) → (b && false) ≡ false
and_right true = refl
and_right false = refl

module _ (s : List ℕ) {first second end : ℕ} (f : first ≡ catalogue_length s) (g : second ≡ plan_end s first)
    (h : end ≡ plan_end s second) where
  second_place_lem : second ≡ second_place s
  second_place_lem = g ∙ ap (plan_end s) f

  ends : end ≡ plan_end s (second_place s)
  ends = h ∙ ap (plan_end s) second_place_lem

  pub other_badly : (end ≡ length s → ⊥) → None ≡ frame s
  other_badly d =
      let t : eqb (plan_end s (second_place s)) (length s) ≡ false = ne_eqb _ _ (λ e. d (ends ∙ e)) in
      simp (t, and_right (leb (length s) 8192))

  pub whole_well : length s ≤ 8192 → end ≡ length s → Some (record { first = first; second = second }) ≡ frame s
  whole_well l e =
      let t : eqb (plan_end s (second_place s)) (length s) ≡ true = eq-eqb _ _ (sym ends ∙ e) in
      simp (t, le-leb _ _ l, f, second_place_lem)

-- A plan behind its count, by places and by lists

module _ (s : List ℕ) (i : ℕ) where
  -- what stands at place i on, of a plan that ends within the input
  pub counted_here : plan_end s i ≤ length s
      → (x : List ℕ) × Counted (plan_at s i) x × (drop i s ≡ x ++ drop (plan_end s i) s)
  counted_here h = (get_or s i 0 ∷ get_or s (i + 1) 0 ∷ plan_at s i, counted size, two ∙ ap (λ r. a ∷ b ∷ r) rest)
    where
      a : ℕ
      a = get_or s i 0

      b : ℕ
      b = get_or s (i + 1) 0

      size : length (plan_at s i) ≡ count_at s i
      size = length-take-le (count_at s i) (drop (i + 2) s) (omega (arith, length-drop (i + 2) s))

      two : drop i s ≡ a ∷ b ∷ drop (i + 2) s
      two =
          let e : suc i ≡ i + 1 = omega arith in
          let f : suc (i + 1) ≡ i + 2 = omega arith in
          let k : i + 1 < length s = omega arith in
          drop-cons s i 0 (omega arith)
          ∙ ap (λ n. a ∷ drop n s) e
          ∙ ap (λ r. a ∷ r) (drop-cons s (i + 1) 0 k)
          ∙ ap (λ n. a ∷ b ∷ drop n s) f

      rest : drop (i + 2) s ≡ plan_at s i ++ drop (plan_end s i) s
      rest =
          sym (take-append-drop (count_at s i) (drop (i + 2) s))
          ∙ ap (λ r. plan_at s i ++ r) (drop-drop (count_at s i) (i + 2) s)

  pub counted_there : {v x q : List ℕ} → Counted v x → drop i s ≡ x ++ q
      → (plan_at s i ≡ v) × (plan_end s i ≡ i + length x) × (drop (plan_end s i) s ≡ q)
  counted_there {q = q} (counted {low = l} {high = h} {v = v} e) d = (
    ap₂ take size rest ∙ take-append_seam v q,
    omega (arith, size),
    sym (drop-drop (count_at s i) (i + 2) s) ∙ ap₂ drop size rest ∙ drop-append_seam v q,
  )
    where
      low : get_or s i 0 ≡ l
      low =
          ap (λ n. get_or s n 0) (sym (add-zero i))
          ∙ sym (get_or-drop i s 0 0)
          ∙ ap (λ r. get_or r 0 0) d

      high : get_or s (i + 1) 0 ≡ h
      high = sym (get_or-drop i s 1 0) ∙ ap (λ r. get_or r 1 0) d

      size : count_at s i ≡ length v
      size = ap₂ (λ a b. a + 256 * b) low high ∙ sym e

      rest : drop (i + 2) s ≡ v ++ q
      rest = sym (drop-drop 2 i s) ∙ ap (drop 2) d

-- The length of a catalogue, from its first bytes alone

module _ (c d : List ℕ) where
  size_step : (t : Bool) → ((i : ℕ) → i < (layout_step t c).start → byte_at d i ≡ byte_at c i)
      → (layout_step t d).size ≡ (layout_step t c).size
  size_step false e = ap₂ (λ n r. 2 + n + 2 * r) (e 0 (omega arith)) (e 1 (omega arith))
  size_step true e = omega (arith, e 0 (omega arith), e 1 (omega arith), e 2 (omega arith))

  length_same : ((i : ℕ) → i < catalogue_length c → byte_at d i ≡ byte_at c i) → catalogue_length d ≡ catalogue_length c
  length_same e =
      let h = start_within c in
      let f : is_second d ≡ is_second c = ap (leb 128) (e 0 (omega (arith, h))) in
      ap (λ (t : Bool). (layout_step t d).size) f ∙ size_step (is_second c) (λ i l. e i (omega (arith, h)))

-- Well framed, by computing and by lists

-- a well framed input ends where its second plan does
pub well_ends : (s : List ℕ) → well_framed s ≡ true → plan_end s (second_place s) ≡ length s
well_ends s t =
    eqb-true (plan_end s (second_place s)) (length s)
    (and_both (leb (length s) 8192) (eqb (plan_end s (second_place s)) (length s)) t).1

pub framed_parts : (s : List ℕ) → well_framed s ≡ true → Framed s (catalogue_of s) (plan1_of s) (plan2_of s)
framed_parts s t = record {
  first = x.0;
  second = y.0;
  bytes =
      sym (take-append-drop (catalogue_length s) s)
      ∙ ap (λ r. catalogue_of s ++ r) x.2
      ∙ sym (append_assoc (catalogue_of s) x.0 (drop (second_place s) s))
      ∙ ap (λ r. catalogue_of s ++ x.0 ++ r) last;
  catalogue =
      length-take-le (catalogue_length s) s (omega (arith, end))
      ∙ sym (length_same s (catalogue_of s) (λ i h. get_or-take (catalogue_length s) s i 0 h));
  plan1 = x.1;
  plan2 = y.1;
  limit = leb-true (length s) 8192 tests.0;
}
  where
    tests : (leb (length s) 8192 ≡ true) × (eqb (plan_end s (second_place s)) (length s) ≡ true)
    tests = and_both (leb (length s) 8192) (eqb (plan_end s (second_place s)) (length s)) t

    end : plan_end s (second_place s) ≡ length s
    end = well_ends s t

    x : (x : List ℕ) × Counted (plan1_of s) x × (drop (catalogue_length s) s ≡ x ++ drop (second_place s) s)
    x = counted_here s (catalogue_length s) (omega (arith, end))

    y : (y : List ℕ) × Counted (plan2_of s) y × (drop (second_place s) s ≡ y ++ drop (plan_end s (second_place s)) s)
    y = counted_here s (second_place s) (omega (arith, end))

    last : drop (second_place s) s ≡ y.0
    last = y.2 ∙ ap (λ n. y.0 ++ drop n s) end ∙ ap (λ r. y.0 ++ r) (drop-length s) ∙ append-nil y.0

pub framed_well : {s c v w : List ℕ} → Framed s c v w
    → (well_framed s ≡ true) × (catalogue_of s ≡ c) × (plan1_of s ≡ v) × (plan2_of s ≡ w)
framed_well {s} {c} {v} {w} f = (
  ap₂ (λ a b. a && b) (le-leb (length s) 8192 f.limit) (eq-eqb (plan_end s (second_place s)) (length s) end),
  ap₂ take start rest ∙ take-append_seam c (x ++ y),
  first.0,
  second.0,
)
  where
    x : List ℕ
    x = f.first

    y : List ℕ
    y = f.second

    rest : s ≡ c ++ (x ++ y)
    rest = f.bytes ∙ append_assoc c x y

    at : (i : ℕ) → i < length c → get_or s i 0 ≡ get_or c i 0
    at i h = ap (λ r. get_or r i 0) rest ∙ get_or-append c (x ++ y) 0 i h

    start : catalogue_length s ≡ length c
    start = length_same c s (λ i h. at i (omega (arith, f.catalogue))) ∙ sym f.catalogue

    first : (plan1_of s ≡ v) × (second_place s ≡ catalogue_length s + length x) × (drop (second_place s) s ≡ y)
    first = counted_there s (catalogue_length s) f.plan1 (ap₂ drop start rest ∙ drop-append_seam c (x ++ y))

    second : (plan2_of s ≡ w) × (plan_end s (second_place s) ≡ second_place s + length y)
        × (drop (plan_end s (second_place s)) s ≡ [])
    second = counted_there s (second_place s) f.plan2 (first.2 ∙ sym (append-nil y))

    end : plan_end s (second_place s) ≡ length s
    end =
        omega (
          arith,
          first.1,
          second.1,
          start,
          ap length rest,
          length-append c (x ++ y),
          length-append x y,
        )

-- What a frame tells

step_badly : (t : Bool) (s : List ℕ) → None ≡ frame_step t s → t ≡ false
step_badly true s e = cc
step_badly false s e = refl

step_well : (t : Bool) (s : List ℕ) (p : Places) → Some p ≡ frame_step t s
    → (t ≡ true) × (p ≡ record { first = catalogue_length s; second = second_place s })
step_well true s p e = (refl, cc)
step_well false s p e = absurd cc

pub badly_tells : (s : List ℕ) → None ≡ frame s → well_framed s ≡ false
badly_tells s e = step_badly (well_framed s) s e

-- the places of a well framed input, by what lies between them
pub record Cut (s : List ℕ) (p : Places) : Type 0 where
  pub well : well_framed s ≡ true
  pub first : p.first ≡ catalogue_length s
  pub second : p.second ≡ p.first + 2 + count_at s p.first
  pub end : length s ≡ p.second + 2 + count_at s p.second

pub well_tells : (s : List ℕ) (p : Places) → Some p ≡ frame s → Cut s p
well_tells s p e = record {
  well = told.0;
  first = first;
  second = second ∙ ap (plan_end s) (sym first);
  end = sym (well_ends s told.0) ∙ ap (plan_end s) (sym second);
}
  where
    told : (well_framed s ≡ true) × (p ≡ record { first = catalogue_length s; second = second_place s })
    told = step_well (well_framed s) s p e

    first : p.first ≡ catalogue_length s
    first = ap (λ q. q.first) told.1

    second : p.second ≡ second_place s
    second = ap (λ q. q.second) told.1

module _ (s : List ℕ) (p : Places) (l : Cut s p) where
  -- the three parts, as the program cuts them
  pub cut_catalogue : take p.first s ≡ catalogue_of s
  cut_catalogue = ap (λ n. take n s) l.first

  pub cut_plan1 : take (p.second - (p.first + 2)) (drop (p.first + 2) s) ≡ plan1_of s
  cut_plan1 =
      let n : p.second - (p.first + 2) ≡ count_at s p.first = omega (arith, l.second) in
      ap (λ k. take k (drop (p.first + 2) s)) n ∙ ap (plan_at s) l.first

  pub cut_plan2 : take (length s - (p.second + 2)) (drop (p.second + 2) s) ≡ plan2_of s
  cut_plan2 =
      let n : length s - (p.second + 2) ≡ count_at s p.second = omega (arith, l.end) in
      ap (λ k. take k (drop (p.second + 2) s)) n
      ∙ ap (plan_at s) (l.second ∙ ap (plan_end s) l.first)
