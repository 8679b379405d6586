-- From a piling that is peeled to the core's letters: what is known of the plan, and what its letters left are.
use Rattle.std.specs.Prelude.{ℕ, ◌*◌, ◌≤◌, ◌≡◌, List, [], ◌∷◌, reverse, length, take, drop}
use Rattle.std.proofs.Common.{arith, sym, ◌∙◌, ap, length-append, length-take, take_at, length-take-le}
use Rattle.std.proofs.lemmas.List.{length-reverse}
use Rattle.theory_words.specs.Trace.{◌~◌, done, next}
use Rattle.theory_words.specs.TraceLaws.{~-length}
use Rattle.theory_words.specs.ReduceLaws.{reduce_back_reduced, reduce_back_~}
use Rattle.theory_conjugacy.specs.Core.{core, lead}
use Rattle.theory_conjugacy.specs.CoreLaws.{core-length, cores_length}
use Rattle.spec.specs.Letters.{letters, alphabet}
use Rattle.spec.specs.Pairs.{reading, pair_numbers}
use Rattle.spec_laws.specs.LettersLaws.{letters-length}
use Rattle.spec_laws.specs.ReadingLaws.{numbers_length, accounts}
use Rattle.input_checks.specs.Passed.{Passed}
use Rattle.piling_stacks.specs.Pile.{reduced}
use Rattle.piling_stacks.specs.PileLaws.{reduced-length}
use Rattle.piling_pairs.specs.Pairing.{PairsOf}
use Rattle.piling_equal.specs.PassedLaws.{passed_lettered, reduced_word}
use Rattle.piling_core.specs.Peeling.{Peeled}
use Rattle.piling_core.specs.PeeledLaws.{peeled_core}
use Rattle.piling_left.specs.Left.{Known, Left}
use Rattle.piling_core_letters.specs.CoreLetters.{CoreLetters}

module _ {c plan before after : List ℕ} {n : ℕ} (q : PairsOf c plan before after n) where
  numbers_count : length (pair_numbers c plan) ≡ 2 * n
  numbers_count = omega (arith, numbers_length (reading c plan).pairs, q.count)

  pub pairs_fit : 2 * n ≤ length after
  pairs_fit =
      omega (
        arith,
        numbers_count,
        ap length q.numbers,
        length-append (pair_numbers c plan) (drop (length (pair_numbers c plan)) before),
      )

  pub pairs_count : 2 * n ≡ length (take (2 * n) after)
  pairs_count = sym (length-take-le (2 * n) after pairs_fit)

  pairs_numbers : take (2 * n) after ≡ pair_numbers c plan
  pairs_numbers =
      ap (take (2 * n)) q.numbers
      ∙ take_at (pair_numbers c plan) (drop (length (pair_numbers c plan)) before) (2 * n) numbers_count

  module _ {conflicts : List (List ℕ)} (p : Passed c conflicts plan) where
    pub pairs_few : 2 * n ≤ 1024
    pairs_few = omega (arith, (accounts c plan p.passing).letters, letters-length plan, p.short, q.count)

    module _ {rows : List (List ℕ)} {lead heights at lead' : List ℕ} {m : ℕ} {z : List ℕ}
        (d : Peeled c rows (reverse (reduced c plan)) lead heights at lead' m z) where
      pub peeled_known : Known c plan (take (2 * n) after) (take m lead') z
      peeled_known = record {
        numbers = pairs_numbers;
        cores = d.cores;
        lettered = passed_lettered p;
        short =
            omega (
              arith,
              cores_length (alphabet c) d.cores,
              length-reverse (reduced c plan),
              reduced-length c plan,
              p.short,
            );
      }

module _ {c : List ℕ} {rows : List (List ℕ)} {x lead heights at lead' : List ℕ} {m : ℕ} {z : List ℕ}
    (d : Peeled c rows x lead heights at lead' m z) where
  pub peeled_count : m ≡ length (take m lead')
  peeled_count = omega (arith, cores_length (alphabet c) d.cores, d.count)

  pub peeled_fits : m ≤ length lead'
  peeled_fits = omega (arith, peeled_count, length-take m lead')

pub peeled_letters : {c : List ℕ} (plan : List ℕ) {rows : List (List ℕ)} {lead heights at lead' : List ℕ} {m : ℕ}
    {z area : List ℕ} {n : ℕ} → Peeled c rows (reverse (reduced c plan)) lead heights at lead' m z → Left c z area n
    → CoreLetters c plan area lead' n m
peeled_letters {c} plan d l =
    let (e, f) =
    peeled_core d (reduce_back_reduced (alphabet c) (letters plan)) (letters plan) (reduced_word c plan) in
    record {
      core = next l.letters e;
      within = l.fits;
      off = f;
      fits = peeled_fits d;
    }

-- where no letter is left of a plan its core has none, and none is taken off

no_letter : (c x : List ℕ) → length x ≡ 0 → ◌~◌ (alphabet c) [] x
no_letter c [] e = done
no_letter c (b ∷ x) e = absurd (omega arith)

pub none_letters : (c plan : List ℕ) {area lead : List ℕ} → length (reduced c plan) ≡ 0
    → CoreLetters c plan area lead 0 0
none_letters c plan e =
    let w = letters plan in
    let l = ~-length (alphabet c) (reduce_back_~ (alphabet c) w) in
    let k = core-length (alphabet c) w in
    record {
      core = no_letter c (core (alphabet c) w) (omega (arith, e, l, k, length-reverse (reduced c plan)));
      within = omega arith;
      off = no_letter c (lead (alphabet c) w) (omega (arith, e, l, k, length-reverse (reduced c plan)));
      fits = omega arith;
    }

pub empty_letters : (c plan : List ℕ) {area lead : List ℕ} → length plan ≡ 0 → CoreLetters c plan area lead 0 0
empty_letters c plan e = none_letters c plan (omega (arith, e, reduced-length c plan))
