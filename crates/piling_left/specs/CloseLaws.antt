-- The loop that moves the letters of a word up to its start: those of the first i bytes stand at the start, and the
-- bytes from i on are as they were.
use Rattle.std.specs.Prelude.{ℕ, ◌+◌, ◌<◌, ◌≤◌, ◌≡◌, refl, List, [], ◌∷◌, reverse, length, get_or, set, take, drop}
use Rattle.std.proofs.Common.{arith, add-one, sym, ◌∙◌, ap, length-set, take_all, take-suc-set, drop-set-lt, drop-drop, get_or-drop}
use Rattle.std.proofs.lemmas.List.{reverse-append, reverse-reverse, take-set-le}
use Rattle.theory_words.specs.Filter.{filter}
use Rattle.spec.specs.Letters.{letters}
use Rattle.spec_laws.specs.LettersLaws.{more_filler, more_letter}
use Rattle.piling_left.specs.Left.{Closed}

pub record Closing (before word : List ℕ) (n i : ℕ) : Type 0 where
  pub few : n ≤ i
  pub within : i ≤ length word
  pub long : length word ≡ length before
  pub done : reverse (take n word) ≡ reverse (letters (take i before))
  pub rest : drop i word ≡ drop i before

pub closing_start : (word : List ℕ) → Closing word word 0 0
unfolding letters filter
closing_start word = record { few = omega arith; within = omega arith; long = refl; done = refl; rest = refl }

module _ {before word : List ℕ} {n i : ℕ} (t : Closing before word n i) where
  pub closing_end : length word ≤ i → Closed before word n
  closing_end l = record {
    letters =
        sym (reverse-reverse (take n word)) ∙ ap reverse t.done ∙ reverse-reverse (letters (take i before))
        ∙ ap letters (take_all i before (omega (arith, t.long, l)));
    fits = omega (arith, t.few, t.within);
  }

  module _ (l : i < length word) where
    abbrev b : ℕ
    b = get_or word i 0

    same : b ≡ get_or before i 0
    same =
        let at : (w : List ℕ) → get_or w i 0 ≡ get_or (drop i w) 0 0
        = λ w. ap (λ j. get_or w j 0) (omega arith) ∙ sym (get_or-drop i w 0 0) in
        at word ∙ ap (λ w. get_or w 0 0) t.rest ∙ sym (at before)

    rest_more : drop (i + 1) (set word n b) ≡ drop (i + 1) before
    rest_more =
        drop-set-lt (i + 1) word n b (omega (arith, t.few))
        ∙ sym (drop-drop 1 i word) ∙ ap (drop 1) t.rest ∙ drop-drop 1 i before

    pub closing_filler : get_or word i 0 ≡ 0 → Closing before (set word n (get_or word i 0)) n (i + 1)
    closing_filler e = record {
      few = omega (arith, t.few);
      within = omega (arith, length-set word n b);
      long = length-set word n b ∙ t.long;
      done =
          ap reverse (take-set-le n word n b (omega arith)) ∙ t.done
          ∙ sym (more_filler before i (omega (arith, t.long)) (sym same ∙ e));
      rest = rest_more;
    }

    pub closing_letter : ¬ (get_or word i 0 ≡ 0) → Closing before (set word n (get_or word i 0)) (n + 1) (i + 1)
    closing_letter e = record {
      few = omega (arith, t.few);
      within = omega (arith, length-set word n b);
      long = length-set word n b ∙ t.long;
      done =
          ap reverse (ap (λ j. take j (set word n b)) (add-one n) ∙ take-suc-set word n b (omega (arith, t.few)))
          ∙ reverse-append (take n word) (b ∷ [])
          ∙ ap (λ w. b ∷ w) t.done
          ∙ ap (λ a. a ∷ reverse (letters (take i before))) same
          ∙ sym (more_letter before i (omega (arith, t.long)) (λ f. e (same ∙ f)));
      rest = rest_more;
    }
