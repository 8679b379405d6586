-- The measure of a sequence part by part, as the loop of `items` meets them.
use Rattle.std.specs.Prelude.{ℕ, ◌+◌, ◌≤◌, ◌<◌, ◌≡◌, refl, false, List, length, drop}
use Rattle.std.proofs.Common.{arith, ◌∙◌}
use Rattle.std.specs.Prelude as rust
use Rattle.std.proofs.Math.Path.{sym, ap}
use Rattle.spec.specs.Notation.{tokens, size_of, first, first_above}
use Rattle.notation_laws.specs.Here.{Here, goes_on}
use Rattle.notation_laws.specs.HereLaws.{here_over}
use Rattle.notation_laws.specs.FirstLaws.{first_assoc, first_alone}
use Rattle.notation_parts.specs.StepLaws.{moved}
use Rattle.notation_measure.specs.declared.Measure.{Measure}
use Rattle.notation_measure.specs.Measured.{told_above, capped, Measured, Part, Joined}
use Rattle.notation_measure.specs.CappedLaws.{capped_low, capped_left, capped_right}

-- the measure `all` is that of all parts from place `at` up to the place all .end
pub record Sofar (n : ℕ) (s : List ℕ) (at d : ℕ) (all : Measure) : Type 0 where
  pub part : (h : Here (drop at (tokens s)) d) → Part n s at d h all
  pub onward : at ≤ all.end

module _ (n : ℕ) (s : List ℕ) (at d : ℕ) where
  pub parts_start : at ≤ length s → Sofar n s at d (record { size = 0; above = rust.None; end = at })
  parts_start l =
      record {
        part = λ h.
            let z : size_of h.says ≡ 0 + size_of h.says = omega arith in
            record {
              behind = h;
              same_rest = refl;
              low = omega arith;
              size = ap capped z;
              above = refl;
              within = l;
            };
        onward = omega arith;
      }

  module _ {all : Measure} (g : Sofar n s at d all) where
    -- one part more
    pub parts_again : (i r : Measure) → ((h : Here (drop all.end (tokens s)) d) → Part n s all.end d h i)
        → all.end < i.end → Joined all i r → Sofar n s at d r
    parts_again i r p l j =
        record {
          part = λ h.
              let a = g.part h in
              let b = p a.behind in
              let t = size_of b.behind.says in
              let u = first_above n b.behind.says in
              let z : all.size + (i.size + t) ≡ all.size + i.size + t = omega arith in
              record {
                behind = moved (ap (λ e. drop e (tokens s)) (sym j.end)) b.behind;
                same_rest = b.same_rest ∙ a.same_rest;
                low = omega (arith, j.size, capped_low (all.size + i.size));
                size = a.size
                    ∙ sym (capped_right all.size (size_of a.behind.says))
                    ∙ ap (λ x. capped (all.size + x)) b.size
                    ∙ capped_right all.size (i.size + t)
                    ∙ ap capped z
                    ∙ sym (capped_left (all.size + i.size) t)
                    ∙ ap (λ x. capped (x + t)) (sym j.size);
                above = a.above
                    ∙ ap (first (told_above all.above)) b.above
                    ∙ first_assoc (told_above all.above) (told_above i.above) u
                    ∙ ap (λ x. first x u) (sym j.above);
                within = omega (arith, j.end, b.within);
              };
          onward = omega (arith, j.end, g.onward);
        }

    -- all of it
    pub parts_end : goes_on (drop all.end (tokens s)) ≡ false → (h : Here (drop at (tokens s)) d)
        → Measured n s at d h all
    unfolding size_of first_above
    parts_end o h =
        let a = g.part h in
        let (e, f) = here_over a.behind o in
        let z : capped (all.size + size_of a.behind.says) ≡ all.size =
        omega (arith, a.low, ap size_of f) in
        record {
          size = sym (a.size ∙ z);
          above = sym (a.above ∙ ap (λ t. first (told_above all.above) (first_above n t)) f
              ∙ first_alone (told_above all.above));
          left = sym e ∙ a.same_rest;
          onward = g.onward;
          within = a.within;
        }
