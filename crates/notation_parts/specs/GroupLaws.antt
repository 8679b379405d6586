-- A group at a place of a text: where its brackets close, its count, and what stands behind it.
use Rattle.std.specs.Prelude.{ℕ, ◌+◌, ◌≤◌, ◌<◌, ◌≡◌, Bool, List, length, drop}
use Rattle.std.proofs.Common.{arith, sym, ◌∙◌, ap, subst, drop-drop}
use Rattle.spec.specs.Notation.{Token, Items, group, tokens}
use Rattle.notation_laws.specs.Here.{Here, number_of, SmallNumber, GroupFirst}
use Rattle.notation_laws.specs.TokensLaws.{tokens_left}
use Rattle.notation_parts.specs.Numbers.{NumberRead}
use Rattle.notation_parts.specs.StepLaws.{moved}
use Rattle.notation_parts.specs.declared.Number.{Number}

-- what stands in the brackets ends at place `end`
module _ (s : List ℕ) {u : Bool} {z r : List Token} {t : Items} {d : ℕ} (g : GroupFirst u z r t d) (end : ℕ)
    (left : drop end (tokens s) ≡ g.inner.rest) where
  pub group_within : end < length s
  group_within = omega (arith, tokens_left s end, ap length (left ∙ g.closes))

  group_outer : drop (end + 1) (tokens s) ≡ g.outer
  group_outer = sym (drop-drop 1 end (tokens s)) ∙ ap (drop 1) (left ∙ g.closes)

  pub group_small : SmallNumber (drop (end + 1) (tokens s))
  group_small = subst SmallNumber (sym group_outer) g.small

-- a sequence that says t begins with a group, whose inside begins at place p; q is its count, as it was read
pub record Counted (s : List ℕ) (u : Bool) (p d : ℕ) (q : Number) (r : List Token) (t : Items) : Type 0 where
  pub first : GroupFirst u (drop p (tokens s)) r t d
  pub end : ℕ
  pub left : drop end (tokens s) ≡ first.inner.rest
  pub count : NumberRead s (number_of (drop (end + 1) (tokens s))) (end + 1) q

module _ {s : List ℕ} {u : Bool} {p d : ℕ} {q : Number} {r : List Token} {t : Items} (g : Counted s u p d q r t) where
  pub counted_outer : drop (g.end + 1) (tokens s) ≡ g.first.outer
  counted_outer = group_outer s g.first g.end g.left

  pub counted_says : t ≡ group u g.first.inner.says q.value g.first.behind.says
  counted_says =
      g.first.begins
      ∙ ap (λ n. group u g.first.inner.says n g.first.behind.says)
      (sym (g.count.value ∙ ap (λ z. (number_of z).value) counted_outer))

  abbrev pub counted_behind : Here (drop q.end (tokens s)) d
  counted_behind = moved (sym (g.count.left ∙ ap (λ z. (number_of z).rest) counted_outer)) g.first.behind

  pub counted_within : q.end ≤ length s
  counted_within = g.count.within (omega (arith, group_within s g.first g.end g.left))
