-- One step of a reader of sequences, at a place of a text: what a sequence begins with there, and where it goes on.
use Rattle.std.specs.Prelude.{ℕ, ◌+◌, ◌≤◌, ◌<◌, ◌≡◌, true, false, List, [], ◌∷◌, length, drop}
use Rattle.std.proofs.Common.{arith, sym, ◌∙◌, ap, subst, drop-drop}
use Rattle.spec.specs.Answers.{yes_no}
use Rattle.spec.specs.Notation.{Token, blank, opening, closing, minus, digit, other, tokens}
use Rattle.spec.specs.Notation.{Reads, sequence}
use Rattle.notation_laws.specs.Ended.{NoDigit}
use Rattle.notation_laws.specs.Here.{Here, goes_on, is_blank, is_opening, is_minus, past_minus, number_of}
use Rattle.notation_laws.specs.Here.{SmallNumber, CommandFirst, GroupFirst}
use Rattle.notation_laws.specs.EndedLaws.{digits_bounds}
use Rattle.notation_laws.specs.AboveLaws.{digits_shorter}
use Rattle.notation_laws.specs.TokensLaws.{tokens_left}
use Rattle.notation_laws.specs.HereLaws.{here_space, here_command, here_group, digits_from_lem}
use Rattle.notation_parts.specs.Numbers.{NumberRead}
use Rattle.notation_parts.specs.declared.Number.{Number}

-- a sequence that stands at the start of the same tokens, said in another way
abbrev pub moved : {s t : List Token} {d : ℕ} → s ≡ t → Here s d → Here t d
moved e h =
    record {
      rest = h.rest;
      says = h.says;
      reads = subst (λ x. Reads sequence x h.rest h.says) e h.reads;
      ended = h.ended;
      shallow = h.shallow;
    }

-- at place `at` a sequence goes on with an item without brackets, whose digits begin at `from`
pub record Plain (s : List ℕ) (at from : ℕ) : Type 0 where
  pub place : from ≡ at + yes_no (is_minus (drop at (tokens s)))
  pub goes : goes_on (drop at (tokens s)) ≡ true
  pub no_blank : is_blank (drop at (tokens s)) ≡ false
  pub no_bracket : is_opening (drop from (tokens s)) ≡ false

module _ (s : List ℕ) (at : ℕ) {d : ℕ} (h : Here (drop at (tokens s)) d) where
  pub step_blank : is_blank (drop at (tokens s)) ≡ true
      → (g : Here (drop (at + 1) (tokens s)) d) × (g.rest ≡ h.rest) × (g.says ≡ h.says)
  step_blank b =
      subst (λ z. (g : Here z d) × (g.rest ≡ h.rest) × (g.says ≡ h.says)) (drop-drop 1 at (tokens s))
      (here_space h b)

  module _ {from : ℕ} (f : from ≡ at + yes_no (is_minus (drop at (tokens s)))) where
    behind_minus : past_minus (drop at (tokens s)) ≡ drop from (tokens s)
    behind_minus =
        drop-drop (yes_no (is_minus (drop at (tokens s)))) at (tokens s) ∙ ap (λ k. drop k (tokens s)) (sym f)

    -- an item in brackets is a group
    pub step_group : is_opening (drop from (tokens s)) ≡ true
        → GroupFirst (is_minus (drop at (tokens s))) (drop (from + 1) (tokens s)) h.rest h.says d
    step_group o =
        subst (λ z. GroupFirst (is_minus (drop at (tokens s))) z h.rest h.says d)
        (ap (drop 1) behind_minus ∙ drop-drop 1 from (tokens s))
        (here_group h (ap is_opening behind_minus ∙ o))

  -- one without brackets is a command
  module _ {from : ℕ} (p : Plain s at from) where
    pub step_command : CommandFirst (is_minus (drop at (tokens s))) (drop from (tokens s)) h.rest h.says d
    step_command =
        let e = behind_minus p.place in
        subst (λ z. CommandFirst (is_minus (drop at (tokens s))) z h.rest h.says d) e
        (here_command h p.goes p.no_blank (ap is_opening e ∙ p.no_bracket))

-- numbers

pub number_high : (z : List Token) → SmallNumber z → (number_of z).value ≤ 255
number_high [] h = omega arith
number_high (blank ∷ z) h = omega arith
number_high (opening ∷ z) h = omega arith
number_high (closing ∷ z) h = omega arith
number_high (minus ∷ z) h = omega arith
number_high (digit d ∷ z) (m, k, p, e) = omega (arith, ap (λ n. n.value) (digits_from_lem p e), (digits_bounds p).1)
number_high (other ∷ z) h = omega arith

number_shorter : (z : List Token) → SmallNumber z → (NoDigit z → ⊥) → length (number_of z).rest < length z
number_shorter [] w h = absurd (h tt)
number_shorter (blank ∷ z) w h = absurd (h tt)
number_shorter (opening ∷ z) w h = absurd (h tt)
number_shorter (closing ∷ z) w h = absurd (h tt)
number_shorter (minus ∷ z) w h = absurd (h tt)
number_shorter (digit d ∷ z) (m, k, p, e) h =
    omega (arith, ap (λ n. length n.rest) (digits_from_lem p e), digits_shorter p)
number_shorter (other ∷ z) w h = absurd (h tt)

-- a number whose first digit stands here ends further on, and stands within the text
module _ (s : List ℕ) (at : ℕ) (w : SmallNumber (drop at (tokens s))) (n : NoDigit (drop at (tokens s)) → ⊥) where
  pub number_onward : (r : Number) → NumberRead s (number_of (drop at (tokens s))) at r → at < r.end
  number_onward r h =
      omega (
        arith,
        number_shorter (drop at (tokens s)) w n,
        ap length h.left,
        tokens_left s at,
        tokens_left s r.end,
      )

  pub number_within : at < length s
  number_within = omega (arith, number_shorter (drop at (tokens s)) w n, tokens_left s at)
