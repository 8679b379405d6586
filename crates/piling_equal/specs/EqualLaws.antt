-- The piling of a plan v beside a plan w that is undone on it: what is asked, and what it tells of their normal forms.
use Rattle.std.specs.Prelude.{ℕ, ◌+◌, ◌≤◌, ◌<◌, ◌≡◌, refl, Bool, List, [], ◌∷◌, reverse, ◌↔◌, length, ltb}
use Rattle.std.proofs.Common.{arith, lt-ltb, le-ltb}
use Rattle.std.proofs.Math.Path.{sym}
use Rattle.std.proofs.Math.Bool.{true, false}
use Rattle.std.proofs.lemmas.List.{reverse-reverse}
use Rattle.theory_words.specs.Group.{◌≈◌, then, back}
use Rattle.theory_words.specs.GroupLaws.{≈-reverse}
use Rattle.theory_words.specs.ReduceLaws.{reduce-≈, reduce_reduced}
use Rattle.theory_words.specs.NormalLaws.{nf_complete, nf_sound}
use Rattle.spec.specs.Letters.{letters, alphabet, normal_form}
use Rattle.piling_stacks.specs.Piling.{Counted}
use Rattle.piling_stacks.specs.Pile.{reduced}
use Rattle.piling_equal.specs.Comparing.{Opposed, chosen, shorter, longer}
use Rattle.input_checks.specs.Passed.{Passed}

pub passed_opposed : {c w : List ℕ} {conflicts rows : List (List ℕ)} {heights : List ℕ} {n : ℕ} (v : List ℕ)
    → Passed c conflicts w → Counted c rows heights (reduced c v) n
    → Opposed c w conflicts rows heights n (reduced c v)
passed_opposed {c} v p q = record {
  few = p.few;
  passing = p.passing;
  short = p.short;
  table = p.table;
  counted = q;
  reduced = reduce_reduced (alphabet c) (reverse (letters v));
}

pub same_normal : (c v w : List ℕ)
    → (◌≈◌ (alphabet c) (reduced c v) (reverse (letters w))) ↔ (normal_form c v ≡ normal_form c w)
unfolding normal_form
same_normal c v w =
    let e = reduce-≈ (alphabet c) (reverse (letters v)) in (
      λ f. nf_complete (alphabet c) (rw (reverse-reverse (letters v), reverse-reverse (letters w)) at
          (≈-reverse (alphabet c) (then (back e) f))),
      λ f. then e (≈-reverse (alphabet c) (nf_sound (alphabet c) (letters v) (letters w) f)),
    )

-- the shorter of two plans and the longer

module _ (v w : List ℕ) where
  module _ (l : length w < length v) where
    pub shorter_second : shorter v w ≡ w
    unfolding shorter
    shorter_second = rw (lt-ltb (length w) (length v) l)

    pub longer_first : longer v w ≡ v
    unfolding longer
    longer_first = rw (lt-ltb (length w) (length v) l)

  module _ (l : length v ≤ length w) where
    pub shorter_first : shorter v w ≡ v
    unfolding shorter
    shorter_first = rw (le-ltb (length w) (length v) l)

    pub longer_second : longer v w ≡ w
    unfolding longer
    longer_second = rw (le-ltb (length w) (length v) l)

  pub longer_passed : {c : List ℕ} {conflicts : List (List ℕ)} → Passed c conflicts v → Passed c conflicts w
      → Passed c conflicts (longer v w)
  unfolding longer
  longer_passed {c} {conflicts} p q = go (ltb (length w) (length v))
    where
      go : (b : Bool) → Passed c conflicts (chosen b v w)
      go true = p
      go false = q

  -- their normal forms are the same exactly if those of the two plans are
  pub chosen_normal : (c : List ℕ)
      → (normal_form c (shorter v w) ≡ normal_form c (longer v w)) ↔ (normal_form c v ≡ normal_form c w)
  unfolding shorter longer
  chosen_normal c = go (ltb (length w) (length v))
    where
      go : (b : Bool)
          → (normal_form c (chosen b w v) ≡ normal_form c (chosen b v w)) ↔ (normal_form c v ≡ normal_form c w)
      go true = (λ e. sym e, λ e. sym e)
      go false = (λ e. e, λ e. e)

-- two words with no letter are the same
pub both_empty : (v w : List ℕ) → length v + length w ≡ 0 → v ≡ w
both_empty [] [] e = refl
both_empty [] (b ∷ w) e = absurd (omega arith)
both_empty (a ∷ v) w e = absurd (omega arith)
