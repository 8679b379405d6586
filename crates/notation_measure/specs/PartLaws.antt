-- The measure of what stands first in a sequence: a blank, a command or a group.
use Rattle.std.specs.Prelude.{ℕ, ◌+◌, ◌*◌, ◌-◌, ◌≤◌, ◌≡◌, Bool, true, List, ltb}
use Rattle.std.proofs.Common.{mul-le-mul, arith, ◌∙◌}
use Rattle.std.specs.Prelude as rust
use Rattle.std.proofs.Math.Path.{sym, ap}
use Rattle.std.proofs.Math.ListN.{length, drop}
use Rattle.spec.specs.Table.{found_step}
use Rattle.spec.specs.Notation.{tokens, size_of, first, first_above}
use Rattle.notation_laws.specs.Here.{Here, goes_on, is_blank, number_of}
use Rattle.notation_laws.specs.FirstLaws.{found_first}
use Rattle.notation_laws.specs.TokensLaws.{tokens_left}
use Rattle.notation_parts.specs.declared.Number.{Number}
use Rattle.notation_parts.specs.PlaceLaws.{goes_within}
use Rattle.notation_parts.specs.StepLaws.{moved, step_blank, Plain, step_command, number_high}
use Rattle.notation_parts.specs.GroupLaws.{group_small, Counted, counted_says, counted_behind, counted_within}
use Rattle.notation_measure.specs.declared.Measure.{Measure}
use Rattle.notation_measure.specs.Measured.{capped, Measured, Part, Grouped, CommandNumber, Commanded}
use Rattle.notation_measure.specs.CappedLaws.{capped_low, capped_left, capped_times}

pub command_number : (s : List ℕ) (at : ℕ) {d : ℕ} → Here (drop at (tokens s)) d → {from : ℕ} → Plain s at from
    → CommandNumber (drop from (tokens s))
command_number s at h p =
    let k = step_command s at h p in
    record { small = k.small; high = k.high; digit_first = k.digit_first }

module _ (n : ℕ) (s : List ℕ) (at : ℕ) {d : ℕ} (h : Here (drop at (tokens s)) d) where
  pub item_blank : goes_on (drop at (tokens s)) ≡ true → is_blank (drop at (tokens s)) ≡ true
      → Part n s at d h (record { size = 0; above = rust.None; end = at + 1 })
  item_blank g b =
      let (k, e, f) = step_blank s at h b in
      let z : size_of h.says ≡ 0 + size_of k.says = omega (arith, ap size_of f) in
      record {
        behind = k;
        same_rest = e;
        low = omega arith;
        size = ap capped z;
        above = sym (ap (first_above n) f);
        within = omega (arith, goes_within s at g);
      }

  -- a command
  module _ {from : ℕ} (p : Plain s at from) where
    pub item_command : (r : Measure) {l : ℕ} → Commanded n s from l r → l ≡ length s - from → Part n s at d h r
    unfolding size_of first_above
    item_command r {l} m w =
        let k = step_command s at h p in
        let v = (number_of (drop from (tokens s))).value in
        let z : size_of h.says ≡ r.size + size_of k.behind.says =
        omega (arith, m.size, ap size_of k.begins) in
        let x : l ≡ length (drop from (tokens s)) = omega (arith, tokens_left s from) in
        let o = first_above n k.behind.says in
        record {
          behind = moved (sym m.left) k.behind;
          same_rest = k.same_rest;
          low = omega (arith, m.size);
          size = ap capped z;
          above = ap (first_above n) k.begins
              ∙ sym (ap (λ a. first a o) m.above
              ∙ sym (found_first (ltb n v) l o)
              ∙ ap (λ y. found_step (ltb n v) y o) x);
          within = m.within;
        }

-- a group
module _ (n : ℕ) (s : List ℕ) (at : ℕ) {d : ℕ} (h : Here (drop at (tokens s)) d) {u : Bool} {p : ℕ} {q : Number}
    (g : Counted s u p d q h.rest h.says) {m : Measure}
    (k : Measured n s p (d - 1) g.first.inner m) where
  -- the multiple fits
  pub group_room : q.value * m.size ≤ 255 * 1025
  group_room =
      let z = drop (g.end + 1) (tokens s) in
      let a = number_high z (group_small s g.first g.end g.left) in
      let v : q.value ≤ 255 = omega (arith, g.count.value, a) in
      let w : m.size ≤ 1025 = omega (arith, k.size, capped_low (size_of g.first.inner.says)) in
      mul-le-mul v w

  pub item_group : (r : Measure) → Grouped m q.value q.end r → Part n s at d h r
  unfolding size_of first_above
  item_group r e =
      let i = size_of g.first.inner.says in
      let t = size_of g.first.behind.says in
      let z : r.size ≡ capped (q.value * i) =
      e.size ∙ ap (λ x. capped (q.value * x)) k.size ∙ capped_times q.value i in
      record {
        behind = moved (ap (λ x. drop x (tokens s)) (sym e.end)) (counted_behind g);
        same_rest = g.first.same_rest;
        low = omega (arith, e.size);
        size = ap (λ x. capped (size_of x)) (counted_says g)
            ∙ sym (ap (λ x. capped (x + t)) z ∙ capped_left (q.value * i) t);
        above = ap (first_above n) (counted_says g)
            ∙ sym (ap (λ x. first x (first_above n g.first.behind.says)) (e.above ∙ k.above));
        within = omega (arith, e.end, counted_within g);
      }
