-- The lead-in of one part: the rings of both parts can be found, the way from one to the other has room, and what is
-- written is the lead-in.
use Prim.Native.Nat.{ℕ, suc, ◌+◌, ◌*◌, ◌-◌, ◌≤◌, max}
use Rattle.std.proofs.Common.{arith, mul-add, add-mul, sym, ◌∙◌, subst, length-take, length-take-le, take-take, take_at}
use Rattle.std.specs.Prelude.{◌≡◌, false, Option, None, Some}
use Rattle.std.proofs.Math.Path.{ap}
use mathlib.Core.List.{List, [], ◌∷◌, ◌++◌, append_assoc, append-nil}
use Rattle.std.proofs.Math.ListN.{length, take, length-append}
use Rattle.theory_words.specs.Group.{undo}
use Rattle.spec.specs.Catalogue.{commands}
use Rattle.spec.specs.Letters.{alphabet}
use Rattle.theory_conjugacy.specs.AscendingLaws.{◌∈◌}
use Rattle.theory_conjugacy.specs.Part.{apexes, part}
use Rattle.theory_conjugacy.specs.PartLaws.{apexes_same}
use Rattle.theory_conjugacy.specs.Rotation.{rotation}
use Rattle.theory_conjugacy.specs.Decision.{part_ring, rotated?, parts_joined?}
use Rattle.theory_conjugacy.specs.LeadIn.{place, settling, part_lead, parts_lead}
use Rattle.theory_conjugacy.specs.LeadInLaws.{apical_part, ring_length}
use Rattle.theory_conjugacy.specs.Rounds.{most_rounds}
use Rattle.conjugacy_settled_parts.specs.declared.Ends.{Ends}
use Rattle.conjugacy_settled_parts.specs.PartOf.{PartOf}
use Rattle.conjugacy_settled_parts.specs.PartOfLaws.{apex_some, apex_cycled}
use Rattle.conjugacy_ring.specs.Ring.{Rung}
use Rattle.conjugacy_of_parts.specs.Parts.{RingsRoom, RingsJoined, RingsOutcome}
use Rattle.conjugacy_of_parts.specs.Parts.{Partable, PartsJoined, both_rounds, PartsOutcome}

-- a ring that is lent

module _ {c x : List ℕ} {apex : ℕ} {ring out out' : List ℕ} {at : ℕ} {e : Ends}
    (h : Rung c x apex ring out out' at e) where
  pub rung_count : e.letters ≡ length (take e.letters ring)
  rung_count = h.count ∙ ap length (sym h.ring)

  pub rung_fits : e.letters ≤ length ring
  rung_fits = omega (arith, rung_count, length-take e.letters ring)

-- room for both settlings, and for the ring behind them
behind_first : (n l m i at r : ℕ) → i + n ≤ n * l → at + suc n * (l + m) ≤ r → at + i + suc n * m ≤ r
behind_first n l m i at r a k =
    let e : suc n ≡ 1 + n = omega arith in
    omega (arith, mul-add (suc n) l m, ap (λ j. j * l) e, add-mul 1 n l)

behind_both : (n l m i j at r : ℕ) → i + n ≤ n * l → j + n ≤ n * m → at + suc n * (l + m) ≤ r → at + i + j + l ≤ r
behind_both n l m i j at r a b k =
    let e : suc n ≡ 1 + n = omega arith in
    omega (arith, mul-add (suc n) l m, ap (λ j. j * l) e, add-mul 1 n l, ap (λ j. j * m) e, add-mul 1 n m)

module _ {c : List ℕ} {conflicts : List (List ℕ)} {x y : List ℕ} {apex : ℕ} {one two row : List ℕ} {at : ℕ}
    (k : Partable c conflicts x y apex one two row at) where
  abbrev p : List ℕ
  p = part (alphabet c) apex x

  abbrev q : List ℕ
  q = part (alphabet c) apex y

  part_apex : apex ∈ apexes (alphabet c) y
  part_apex = subst (λ (ms : List ℕ). apex ∈ ms) (apexes_same (alphabet c) x y k.two.same) k.apical

  -- the commands but one: so many rounds settle either part
  abbrev less : ℕ
  less = commands c - 1

  commands-less : commands c ≡ suc less
  commands-less = omega (arith, apex_some k.two.first k.apical)

  first_cycled : length (settling (alphabet c) apex p) + less ≤ less * length p
  first_cycled = apex_cycled k.two.first k.apical less commands-less

  second_cycled : length (settling (alphabet c) apex q) + less ≤ less * length q
  second_cycled = apex_cycled k.two.second part_apex less commands-less

  whole_room : at + suc less * (length p + length q) ≤ length row
  whole_room = subst (λ m. at + m * (length p + length q) ≤ length row) commands-less k.room

  pub part_first : PartOf c conflicts x apex one row at
  part_first = record {
    core = k.two.first;
    apical = k.apical;
    letters = k.one;
    room = omega (arith, k.room, mul-add (commands c) (length p) (length q));
  }

  -- behind what settling the first cycles
  module _ {ring row' : List ℕ} {ends : Ends} (f : Rung c x apex ring row row' at ends)
      (same : length row' ≡ length row) where
    first_room : ends.cycled + suc less * length q ≤ length row'
    first_room =
        let w = behind_first less (length p) (length q) (length (settling (alphabet c) apex p)) at (length row)
        first_cycled whole_room in
        omega (arith, w, f.end)

    pub part_second : PartOf c conflicts y apex two row' ends.cycled
    part_second = record {
      core = k.two.second;
      apical = part_apex;
      letters = k.other;
      room = subst (λ m. ends.cycled + m * length q ≤ length row') (sym commands-less) first_room;
    }

    -- the way from ring to ring
    module _ {other row'' : List ℕ} {last : Ends} (g : Rung c y apex other row' row'' ends.cycled last)
        (kept : length row'' ≡ length row') where
      first_length : length (take ends.letters ring) ≡ length p
      unfolding part_ring
      first_length = ap length f.ring ∙ ring_length (alphabet c) (apical_part (alphabet c) x k.apical)

      pub rings_room : RingsRoom (take ends.letters ring) row'' ends.cycled last.cycled
      rings_room =
          let w = behind_both less (length p) (length q) (length (settling (alphabet c) apex p))
          (length (settling (alphabet c) apex q)) at (length row) first_cycled second_cycled whole_room in
          record {
            ordered = omega (arith, g.end);
            room = omega (arith, w, f.end, g.end, first_length);
          }

      -- what stands before the letters cycled is as it was
      begins : take ends.cycled row'' ≡ take ends.cycled row'
      begins =
          let n : length (take ends.cycled row') ≡ ends.cycled
          = length-take-le ends.cycled row' (omega (arith, first_room)) in
          sym (take-take ends.cycled last.cycled row'' (omega (arith, g.end)))
          ∙ ap (take ends.cycled) g.cycled
          ∙ take_at (take ends.cycled row') (settling (alphabet c) apex q) ends.cycled n

      pub way_cycled : take last.cycled row'' ≡ take ends.cycled row'' ++ settling (alphabet c) apex q
      way_cycled = g.cycled ∙ ap (λ (z : List ℕ). z ++ settling (alphabet c) apex q) (sym begins)

      -- the same with the rings themselves
      outcome_of_rings : (after : List ℕ) (o : Option ℕ)
          → RingsOutcome c (take ends.letters ring) (take last.letters other) (settling (alphabet c) apex q) row''
          ends.cycled after o
          → RingsOutcome c (part_ring (alphabet c) apex x) (part_ring (alphabet c) apex y)
          (settling (alphabet c) apex q) row'' ends.cycled after o
      outcome_of_rings after o h = rw (← f.ring, ← g.ring) h

      -- it is the lead-in of the part
      part_joined : (after : List ℕ) (end : ℕ)
          → RingsJoined c (part_ring (alphabet c) apex x) (part_ring (alphabet c) apex y) (settling (alphabet c) apex q)
          row'' ends.cycled after end
          → PartsJoined c x y (apex ∷ []) row at after end
      unfolding parts_joined? parts_lead part_lead part_ring
      part_joined after end h =
          let r = part_ring (alphabet c) apex x in
          let t = part_ring (alphabet c) apex y in
          let u = settling (alphabet c) apex p in
          let w : List ℕ =
          take (place (rotation (alphabet c) r t)) r ++ undo (alphabet c) (settling (alphabet c) apex q) [] in
          let e : parts_lead (alphabet c) (apex ∷ []) x y ≡ u ++ w = append-nil (u ++ w) in
          record {
            joined = rw h.joined;
            written = h.written ∙ ap (λ (z : List ℕ). z ++ w) (begins ∙ f.cycled) ∙ append_assoc (take at row) u w
                ∙ ap (λ (z : List ℕ). take at row ++ z) (sym e);
            ends = omega (arith, h.ends, f.end, ap length e, length-append u w);
          }

      part_apart : rotated? (alphabet c) (part_ring (alphabet c) apex x) (part_ring (alphabet c) apex y) ≡ false
          → parts_joined? (alphabet c) (apex ∷ []) x y ≡ false
      unfolding parts_joined?
      part_apart h = rw h

      -- the larger number of rounds is that of both parts
      part-counted : {m : ℕ} → m ≡ max ends.rounds last.rounds → m ≡ both_rounds c (apex ∷ []) x y
      unfolding most_rounds
      part-counted e = omega (arith, f.rounds, g.rounds)

      pub part_outcome : (after : List ℕ) {n : ℕ} → n ≡ max ends.rounds last.rounds → (o : Option ℕ)
          → RingsOutcome c (take ends.letters ring) (take last.letters other) (settling (alphabet c) apex q) row''
          ends.cycled after o
          → PartsOutcome c x y (apex ∷ []) row at after (record { end = o; rounds = n })
      part_outcome after e (Some end) h =
          (part_joined after end (outcome_of_rings after (Some end) h), part-counted e)
      part_outcome after e None h = (part_apart (outcome_of_rings after None h), part-counted e)
