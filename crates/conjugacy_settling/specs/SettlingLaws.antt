-- Laws of the loop of rounds: its invariant.
use Rattle.std.specs.Prelude.{ℕ, ◌+◌, ◌<◌, ◌≤◌, ◌≡◌, refl, List, [], ◌∷◌, ◌++◌, length, take}
use native.Mathlib.Omega.{arith}
use Rattle.std.proofs.Math.Path.{sym}
use Rattle.std.proofs.Common.{◌∙◌, ap, append-nil, append_assoc, length-append, length-take-le}
use Rattle.std.proofs.Math.Seq.{take-length}
use Rattle.std.proofs.lemmas.List.{take-append-le}
use Rattle.theory_words.specs.All.{All}
use Rattle.input_plan.specs.Lettered.{Lettered}
use Rattle.spec.specs.Letters.{alphabet}
use Rattle.theory_conjugacy.specs.Settle.{raise, Split, stop, Rounded}
use Rattle.theory_conjugacy.specs.SettleLaws.{raise-append, split_length, split_all, split_upper, split_append}
use Rattle.theory_conjugacy.specs.SettleLaws.{rounded_none, rounded_next}
use Rattle.theory_conjugacy.specs.RoundLaws.{connected_rounded}
use Rattle.theory_conjugacy.specs.LeadInLaws.{settling_cycled}
use Rattle.array_sets.specs.Sets.{Marks, Meeting, empty}
use Rattle.array_sets.specs.SetsLaws.{empty_meeting}
use Rattle.array_sets.specs.MarksLaws.{marks_none}
use Rattle.array_row.specs.Row.{Appended}
use Rattle.array_row.specs.RowLaws.{appended_take}
use Rattle.array_row.specs.AreaLaws.{starts_length, starts_fits, starts_take}
use Rattle.conjugacy_settling.specs.declared.Halves.{Halves}
use Rattle.conjugacy_settling.specs.Halving.{Splittable, Halved}
use Rattle.conjugacy_settling.specs.Settling.{Settleable, Ended}

length_zero : (w : List ℕ) → length w ≡ 0 → w ≡ []
length_zero [] e = refl
length_zero (b ∷ w) e = absurd (omega arith)

-- so many rounds lead to the word that `ups` and then `lows` are, of which all of `ups` has gone up; `done` are the
-- letters that they cycle, and `more` those that the rounds left cycle
pub record Reached (c : List ℕ) (apex : ℕ) (word₀ : List ℕ) (conflicts : List (List ℕ)) (out₀ : List ℕ) (at : ℕ)
    (raised lows ups out : List ℕ) (end rounds : ℕ) : Type 0 where
  pub letters : All Lettered lows
  pub meeting : Meeting conflicts raised
  pub marks : Marks raised (raise (alphabet c) [] ups)
  pub up : Split (alphabet c) apex [] ups [] ups
  pub done : List ℕ
  pub written : take end out ≡ take at out₀ ++ done
  pub ended : end ≡ at + length done
  pub few : rounds ≤ length done
  pub left : ℕ
  pub more : List ℕ
  pub last : List ℕ
  pub onward : Rounded (alphabet c) apex left (ups ++ lows) more last
  pub whole : Rounded (alphabet c) apex (rounds + left) word₀ (done ++ more) last

pub record Rounds (word₀ : List ℕ) (apex : ℕ) (conflicts : List (List ℕ)) (high₀ out₀ : List ℕ) (at : ℕ)
    (word raised : List ℕ) (lower : ℕ) (high : List ℕ) (upper : ℕ) (out : List ℕ) (end rounds : ℕ) : Type 0 where
  pub same_word : length word ≡ length word₀
  pub same_high : length high ≡ length high₀
  pub same_out : length out ≡ length out₀
  pub count : upper + lower ≡ length word₀
  pub reached : (c : List ℕ) → Settleable c apex word₀ conflicts high₀ out₀ at
      → Reached c apex word₀ conflicts out₀ at raised (take lower word) (take upper high) out end rounds

-- the letters that are low stand at the start of the word, and there is room to cycle them
pub record Lows (low : ℕ) (word : List ℕ) (end : ℕ) (out : List ℕ) : Type 0 where
  pub fits : low ≤ length word
  pub many : low ≡ length (take low word)
  pub room : 0 < low → end + low ≤ length out

module _ {word₀ : List ℕ} {apex : ℕ} {conflicts : List (List ℕ)} {high₀ out₀ : List ℕ} {at : ℕ} where
  pub rounds_start : {raised : List ℕ} → raised ≡ empty
      → Rounds word₀ apex conflicts high₀ out₀ at word₀ raised (length word₀) high₀ 0 out₀ at 0
  unfolding raise
  rounds_start e = record {
    same_word = refl;
    same_high = refl;
    same_out = refl;
    count = omega arith;
    reached = λ c g.
        let (n, z, r, o, l) = connected_rounded (alphabet c) apex word₀ g.connected g.apex_occurs in
        let f : 0 + n ≡ n = omega arith in
        record {
          letters = rw (take-length word₀) g.letters;
          meeting = rw e empty_meeting;
          marks = rw e marks_none;
          up = stop;
          done = [];
          written = sym (append-nil (take at out₀));
          ended = omega arith;
          few = omega arith;
          left = n;
          more = z;
          last = r;
          onward = rw (take-length word₀) o;
          whole = rw f o;
        };
  }

  module _ {word raised high out : List ℕ} {lower upper end rounds : ℕ}
      (r : Rounds word₀ apex conflicts high₀ out₀ at word raised lower high upper out end rounds) where
    lows_length : length (take lower word) ≡ lower
    lows_length = length-take-le lower word (omega (arith, r.count, r.same_word))

    pub rounds_splittable : {c : List ℕ} → Settleable c apex word₀ conflicts high₀ out₀ at
        → Splittable c (raise (alphabet c) [] (take upper high)) (take lower word) conflicts raised high upper
    rounds_splittable {c} g =
        let t = r.reached c g in
        record {
          letters = t.letters;
          table = g.table;
          meeting = t.meeting;
          marks = t.marks;
          room = omega (arith, lows_length, r.count, r.same_high, g.upper);
        }

    -- each round cycles a letter at least
    pub rounds_few : {c : List ℕ} → Settleable c apex word₀ conflicts high₀ out₀ at → rounds ≤ end
    rounds_few {c} g = let t = r.reached c g in omega (arith, t.few, t.ended)

    module _ {low raised' high' : List ℕ} {ends : Halves}
        (f : (c R : List ℕ) → Splittable c R (take lower word) conflicts raised high upper
        → Halved c apex R (take lower word) conflicts high upper low raised' high' ends) where
      -- the letters that were low are split, and so the whole word is
      module _ {c : List ℕ} (g : Settleable c apex word₀ conflicts high₀ out₀ at) where
        abbrev h : Halved c apex (raise (alphabet c) [] (take upper high)) (take lower word) conflicts high upper low
            raised' high' ends
        h = f c (raise (alphabet c) [] (take upper high)) (rounds_splittable g)

        abbrev ups : List ℕ
        ups = take upper high ++ h.q

        split_whole : Split (alphabet c) apex [] (take upper high ++ take lower word) h.p ups
        split_whole = split_append (alphabet c) apex (r.reached c g).up h.halves

        pub rounds_count : ends.high + ends.low ≡ length word₀
        rounds_count = omega (
          arith,
          split_length (alphabet c) apex h.halves,
          h.lower.ends,
          h.upper.ends,
          lows_length,
          r.count,
        )

        high_taken : take ends.high high' ≡ ups
        high_taken = appended_take h.upper (omega (arith, rounds_count, r.same_high, g.upper))

        -- the letters that are low stand at the start of the word, whatever stands past them
        rounds_low : (z : List ℕ) → take ends.low (low ++ z) ≡ h.p
        rounds_low z = take-append-le ends.low low z (starts_fits h.lower) ∙ starts_take h.lower

        some_low : 0 < ends.low → ¬ (h.p ≡ [])
        some_low l e = omega (arith, h.lower.ends, ap length e)

        -- what is low is among the letters that there is room for
        rounds_room : 0 < ends.low → end + ends.low ≤ length out
        rounds_room l =
            let Γ = alphabet c in
            let t = r.reached c g in
            let d = settling_cycled Γ g.connected g.apex_occurs t.whole in
            let (k, z, i, j, o) = rounded_next Γ apex t.onward split_whole (some_low l) in
            omega (
              arith,
              g.room,
              r.same_out,
              t.ended,
              h.lower.ends,
              ap length d,
              length-append t.done t.more,
              ap length j,
              length-append h.p z,
            )

        pub rounds_lows : (z : List ℕ) → Lows ends.low (low ++ z) end out
        rounds_lows z = record {
          fits = omega (arith, starts_fits h.lower, length-append low z);
          many = starts_length h.lower ∙ ap length (sym (rounds_low z));
          room = rounds_room;
        }

      pub rounds_done : ends.low ≡ 0 → (c : List ℕ) → Settleable c apex word₀ conflicts high₀ out₀ at
          → Ended c apex word₀ (take (length word₀) high') out₀ out at (record { end = end; rounds = rounds })
      rounds_done e c g =
          let t = r.reached c g in
          let y = length_zero (h g).p (sym (starts_length (h g).lower) ∙ e) in
          let (i, j, k) = rounded_none (alphabet c) apex t.onward (rw y at (split_whole g)) in
          let n : rounds + t.left ≡ rounds = omega (arith, i) in
          let d : t.done ++ t.more ≡ t.done = ap (λ (u : List ℕ). t.done ++ u) j ∙ append-nil t.done in
          let a : ends.high ≡ length word₀ = omega (arith, rounds_count g, e) in
          record {
            letters = t.done;
            rounded = rw (← a, high_taken g) (rw (n, d, k) at t.whole);
            written = t.written;
            ends = t.ended;
          }

      pub rounds_again : {out' : List ℕ} {end' : ℕ} (z : List ℕ) → 0 < ends.low → length (low ++ z) ≡ length word
          → length high' ≡ length high → length out' ≡ length out → ends.high + ends.low ≡ length word₀
          → Appended out end (take ends.low (low ++ z)) out' end'
          → Rounds word₀ apex conflicts high₀ out₀ at (low ++ z) raised' ends.low high' ends.high out' end'
          (rounds + 1)
      rounds_again {out'} {end'} z l a b d n x = record {
        same_word = a ∙ r.same_word;
        same_high = b ∙ r.same_high;
        same_out = d ∙ r.same_out;
        count = n;
        reached = λ c g. go c g (r.reached c g);
      }
        where
          go : (c : List ℕ) → Settleable c apex word₀ conflicts high₀ out₀ at
              → Reached c apex word₀ conflicts out₀ at raised (take lower word) (take upper high) out end rounds
              → Reached c apex word₀ conflicts out₀ at raised' (take ends.low (low ++ z)) (take ends.high high')
              out' end' (rounds + 1)
          go c g t =
              let Γ = alphabet c in
              let p = (h g).p in
              let u = high_taken g in
              let v = rounds_low g z in
              let (k, y, i, j, o) = rounded_next Γ apex t.onward (split_whole g) (some_low g l) in
              let e : end' ≡ end + length p = x.ends ∙ ap (λ (s : List ℕ). end + length s) v in
              let w : take end' out' ≡ take end out ++ p
              = appended_take x (omega (arith, e, (h g).lower.ends, rounds_room g l))
              ∙ ap (λ (s : List ℕ). take end out ++ s) v in
              let m : rounds + t.left ≡ rounds + 1 + k = omega arith in
              let q : t.done ++ t.more ≡ (t.done ++ p) ++ y
              = ap (λ (s : List ℕ). t.done ++ s) j ∙ sym (append_assoc t.done p y) in
              record {
                letters = rw v (split_all Γ apex Lettered (h g).halves t.letters);
                meeting = (h g).meeting;
                marks = rw (u, raise-append Γ [] (take upper high) (h g).q) (h g).marks;
                up = rw u (split_upper Γ apex (split_whole g));
                done = t.done ++ p;
                written = w ∙ ap (λ (s : List ℕ). s ++ p) t.written ∙ append_assoc (take at out₀) t.done p;
                ended = omega (arith, length-append t.done p, t.ended, e);
                few = omega (arith, length-append t.done p, t.few, (h g).lower.ends);
                left = k;
                more = y;
                last = t.last;
                onward = rw (u, v) o;
                whole = rw (← m, ← q) t.whole;
              }
