-- Gathering number by number, from the last on; so some number gathers any 24.
use Rattle.std.specs.Prelude.{ℕ, zero, suc, ◌-◌, ◌*◌, ◌^◌, ◌<◌, ◌≤◌, ◌≡◌, refl, List, ◌↔◌, ◌⊎◌, get_or}
use Rattle.std.proofs.Common.{arith, sym, inl, inr}
use Rattle.std.proofs.Math.Decide.{ℕ_discrete, dec_le}
use Rattle.std.specs.Int.Bits.{bit_or}
use Rattle.spec.specs.Bits.{Bit, Within, Gathered}
use Rattle.spec_laws.specs.BitsLaws.{or_bit, none_of_zero, power_bit}

-- n gathers the numbers of s from index k on
pub record Gathering (low high : ℕ) (s : List ℕ) (k n : ℕ) : Type 0 where
  pub bit : (j : ℕ) → Bit n j ↔ ((k ≤ j) × Within low high s j)

module _ {low high : ℕ} {s : List ℕ} where
  pub gathering_start : {k : ℕ} → 24 ≤ k → Gathering low high s k 0
  gathering_start l = record { bit = λ j. (λ e. absurd (none_of_zero j e), λ h. absurd (omega (arith, h.0, h.1.0))) }

  pub gathering_end : {n : ℕ} → Gathering low high s 0 n → Gathered low high s n
  gathering_end g = record { bit = λ j. (λ e. ((g.bit j).0 e).1, λ w. (g.bit j).1 (omega arith, w)) }

  module _ {k n : ℕ} (g : Gathering low high s k n) (some : 0 < k) where
    -- the number before k, or one that is gathered
    from : (j : ℕ) → (k - 1 ≤ j) × Within low high s j → (j ≡ k - 1) ⊎ Bit n j
    from j (l, w) = go (ℕ_discrete j (k - 1))
      where
        go : Dec (j ≡ k - 1) → (j ≡ k - 1) ⊎ Bit n j
        go (yes e) = inl e
        go (no o) = inr ((g.bit j).1 (omega arith, w))

    later : (j : ℕ) → Bit n j → (k - 1 ≤ j) × Within low high s j
    later j e = let (l, w) = (g.bit j).0 e in (omega arith, w)

    -- that number is gathered, by its bit b
    pub gathering_in : {b : ℕ} → b ≡ 1 * 2 ^ (k - 1) → Within low high s (k - 1)
        → Gathering low high s (k - 1) (bit_or n b)
    gathering_in {b} p w =
        record { bit = λ j. (λ e. to j ((or_bit n b j).0 e), λ h. (or_bit n b j).1 (back j (from j h))) }
      where
        own : (j : ℕ) → Bit b j ↔ (j ≡ k - 1)
        own j = rw p (power_bit (k - 1) j)

        to : (j : ℕ) → Bit n j ⊎ Bit b j → (k - 1 ≤ j) × Within low high s j
        to j (inl e) = later j e
        to j (inr e) = let i = (own j).0 e in (omega arith, rw i w)

        back : (j : ℕ) → (j ≡ k - 1) ⊎ Bit n j → Bit n j ⊎ Bit b j
        back j (inl i) = inr ((own j).1 i)
        back j (inr e) = inl e

    -- that number is left out
    pub gathering_out : ¬ Within low high s (k - 1) → Gathering low high s (k - 1) n
    gathering_out o = record { bit = λ j. (later j, λ h. back j h.1 (from j h)) }
      where
        back : (j : ℕ) → Within low high s j → (j ≡ k - 1) ⊎ Bit n j → Bit n j
        back j w (inl i) = absurd (o (rw (sym i) w))
        back j w (inr e) = e

    -- that number is gathered or left out
    gathering_on : k ≤ 24 → (m : ℕ) × Gathering low high s (k - 1) m
    gathering_on l = go (dec_le low (get_or s (k - 1) 0)) (dec_le (get_or s (k - 1) 0) high)
      where
        go : Dec (low ≤ get_or s (k - 1) 0) → Dec (get_or s (k - 1) 0 ≤ high) → (m : ℕ) × Gathering low high s (k - 1) m
        go (yes p) (yes q) = (bit_or n (1 * 2 ^ (k - 1)), gathering_in refl (omega arith, p, q))
        go (yes p) (no q) = (n, gathering_out (λ w. q w.2))
        go (no p) (yes q) = (n, gathering_out (λ w. p w.1))
        go (no p) (no q) = (n, gathering_out (λ w. p w.1))

  -- the last j numbers gathered
  last_gathered : (j : ℕ) → j ≤ 24 → (n : ℕ) × Gathering low high s (24 - j) n
  last_gathered zero l = (0, gathering_start (omega arith))
  last_gathered (suc j) l =
      let (n, g) = last_gathered j (omega arith) in
      let (m, h) = gathering_on g (omega arith) (omega arith) in
      let e : 24 - j - 1 ≡ 24 - suc j = omega arith in
      (m, rw e at h)

  pub gathered_some : (n : ℕ) × Gathered low high s n
  gathered_some = let (n, g) = last_gathered 24 (omega arith) in (n, gathering_end g)
