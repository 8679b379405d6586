-- Laws of what is left of a plan: blanked and trimmed, its letters are those that the taking off of pairs leaves.
use Rattle.std.specs.Prelude.{ℕ, ◌<◌, ◌≡◌, List, [], ◌∷◌, ◌++◌, reverse, length, take}
use Rattle.std.proofs.Common.{arith, sym, ◌∙◌, ap, subst, append-nil, length-append}
use Rattle.std.proofs.lemmas.List.{take-append-le}
use Rattle.theory_words.specs.All.{All, all_along, all_left, all_reverse}
use Rattle.theory_words.specs.Trace.{◌~◌}
use Rattle.theory_words.specs.Group.{undo}
use Rattle.theory_words.specs.Trim.{tally, Trims}
use Rattle.theory_words.specs.TrimLaws.{trims_same, trims_both}
use Rattle.theory_words.specs.FilterLaws.{filter-reverse}
use Rattle.theory_conjugacy.specs.Core.{Cores}
use Rattle.theory_conjugacy.specs.CoreLaws.{cores_product}
use Rattle.array_row.specs.Area.{StartsWith}
use Rattle.array_row.specs.AreaLaws.{starts_take}
use Rattle.spec.specs.Letters.{letters, alphabet}
use Rattle.input_plan.specs.Lettered.{Lettered}
use Rattle.piling_stacks.specs.Pile.{reduced}
use Rattle.piling_left.specs.Left.{blanked, trimmed, Tallied, Closed, TakenOff, Known, Left}
use Rattle.piling_left.specs.BlankLaws.{pairs_low, blanked_left}
use Rattle.piling_left.specs.TallyLaws.{tally_lettered}
use Rattle.piling_left.specs.TrimmedLaws.{trimmed_trims}

letters-reverse : (w : List ℕ) → letters (reverse w) ≡ reverse (letters w)
unfolding letters
letters-reverse w = filter-reverse _ w

-- trimmed in front and behind
pub off_both : {off counts : List ℕ} (word : List ℕ) → Tallied off counts
    → TakenOff off word (reverse (trimmed counts (reverse (trimmed counts word))))
off_both {off} {counts} word t c z h k =
    let p = cores_product (alphabet c) k in
    let front = trimmed counts word in
    rw (letters-reverse (trimmed counts (reverse front)))
    (trims_both (alphabet c) off z p (trims word)
    (subst (λ x. Trims (alphabet c) (tally (alphabet c) off) x (letters (trimmed counts (reverse front))))
    (letters-reverse front) (trims (reverse front))))
  where
    lettered : All Lettered off
    lettered =
        all_left Lettered off (z ++ undo (alphabet c) off [])
        (all_along (alphabet c) Lettered (cores_product (alphabet c) k) h)

    trims : (w : List ℕ) → Trims (alphabet c) (tally (alphabet c) off) (letters w) (letters (trimmed counts w))
    trims w =
        trims_same (alphabet c) (t.each c) (trimmed_trims c counts w (t.each c 0 ∙ tally_lettered c off lettered))

-- no letter to take off
pub off_none : (off word : List ℕ) → length off ≡ 0 → TakenOff off word word
off_none [] word e c z h k =
    subst (◌~◌ (alphabet c) (letters word)) (append-nil z) (cores_product (alphabet c) k)
off_none (a ∷ off) word e c z h k = absurd (omega arith)

module _ {c plan places off z : List ℕ} (k : Known c plan places off z) where
  pub known_low : All (λ p. p < length plan) places
  known_low = subst (All (λ p. p < length plan)) (sym k.numbers) (pairs_low c plan)

  pub known_left : {first word last : List ℕ} {n : ℕ} → first ≡ blanked plan places → TakenOff off first word
      → Closed word last n → Left c z last n
  known_left {first} e t d =
      let w : letters first ≡ reverse (reduced c plan) =
      ap letters e ∙ ap (λ ps. letters (blanked plan ps)) k.numbers ∙ blanked_left c plan in
      record {
        letters =
            subst (λ x. ◌~◌ (alphabet c) x z) (sym d.letters)
            (t c z
            (subst (All Lettered) (sym w) (all_reverse Lettered (reduced c plan) k.lettered))
            (subst (λ x. Cores (alphabet c) x off z) (sym w) k.cores));
        fits = d.fits;
      }

  -- of the plan copied
  pub known_copied : {before after : List ℕ} {n : ℕ} → StartsWith plan before after n
      → Known c (take n after) places off z
  known_copied s = subst (λ (v : List ℕ). Known c v places off z) (sym (starts_take s)) k

-- other bytes behind
pub left_behind : {c z last : List ℕ} {n : ℕ} (rest : List ℕ) → Left c z last n → Left c z (last ++ rest) n
left_behind {c} {z} {last} {n} rest l = record {
  letters = subst (λ x. ◌~◌ (alphabet c) x z) (sym (take-append-le n last rest l.fits)) l.letters;
  fits = omega (arith, l.fits, length-append last rest);
}
