-- Laws of the loop that counts the letters of each command.
use Rattle.std.specs.Prelude.{ℕ, suc, ◌+◌, ◌<◌, ◌≤◌, ◌≡◌, Bool, true, false, length, get_or, set, take, replicate, eqb}
use native.Mathlib.Omega.{arith}
use Rattle.std.proofs.Common.{add-one, sym, ◌∙◌, subst, length-set, take-suc, take_all, get_or-set_same, get_or-set_other, length-take-le, eq-eqb, ne_eqb}
use Rattle.std.proofs.Math.Decide.{ℕ_discrete, dec_lt}
use Rattle.std.proofs.Math.Path.{refl, ap}
use mathlib.Core.List.{List, [], ◌∷◌, ◌++◌}
use Rattle.std.proofs.lemmas.List.{get_or-replicate}
use Rattle.std.proofs.Math.ListN.{get_or-eq_default}
use Rattle.theory_words.specs.All.{All}
use Rattle.theory_words.specs.Trim.{tally, tally_step}
use Rattle.spec.specs.Byte.{command_of}
use Rattle.spec.specs.Letters.{alphabet}
use Rattle.input_plan.specs.Lettered.{Lettered}
use Rattle.piling_left.specs.Left.{total, Tallied}
use Rattle.piling_left.specs.TotalLaws.{total_raised}

step_length : (t : Bool) (n m : ℕ) → n ≤ m → tally_step t n ≤ suc m
step_length true n m h = omega arith
step_length false n m h = omega arith

step_step : (s t : Bool) (n : ℕ) → tally_step s (tally_step t n) ≡ tally_step t (tally_step s n)
step_step true true n = refl
step_step true false n = refl
step_step false true n = refl
step_step false false n = refl

module _ (c : List ℕ) where
  tally-length : (w : List ℕ) (k : ℕ) → tally (alphabet c) w k ≤ length w
  unfolding tally
  tally-length [] k = omega arith
  tally-length (a ∷ w) k = step_length (eqb (command_of a) k) (tally (alphabet c) w k) (length w) (tally-length w k)

  -- one letter more behind
  tally_more : (w : List ℕ) (b k : ℕ)
      → tally (alphabet c) (w ++ b ∷ []) k ≡ tally_step (eqb (command_of b) k) (tally (alphabet c) w k)
  unfolding tally
  tally_more [] b k = refl
  tally_more (a ∷ w) b k =
      ap (tally_step (eqb (command_of a) k)) (tally_more w b k)
      ∙ step_step (eqb (command_of a) k) (eqb (command_of b) k) (tally (alphabet c) w k)

  -- letters are of no command 0
  pub tally_lettered : (w : List ℕ) → All Lettered w → tally (alphabet c) w 0 ≡ 0
  unfolding tally
  tally_lettered [] h = refl
  tally_lettered (a ∷ w) h =
      ap (λ t. tally_step t (tally (alphabet c) w 0)) (ne_eqb (command_of a) 0 (λ e. omega (arith, e, h.0)))
      ∙ tally_lettered w h.1

abbrev zeros : List ℕ
zeros = replicate 128 0

zeros_at : (k : ℕ) → get_or zeros k 0 ≡ 0
zeros_at k = go (dec_lt k 128)
  where
    go : Dec (k < 128) → get_or zeros k 0 ≡ 0
    go (yes l) = get_or-replicate 128 k 0 0 l
    go (no l) = get_or-eq_default zeros 0 {n = k} (omega (arith, l))

pub tallied_none : Tallied [] zeros
unfolding tally total
tallied_none = record { many = refl; all = refl; each = λ c k. zeros_at k }

module _ (word : List ℕ) (i : ℕ) {counts : List ℕ} (t : Tallied (take i word) counts) (l : i < length word) where
  abbrev b : ℕ
  b = get_or word i 0

  pub tallied_low : length word < 65536 → get_or counts (command_of (get_or word i 0)) 0 + 1 < 65536
  tallied_low h =
      omega (
        arith,
        t.each [] (command_of b),
        tally-length [] (take i word) (command_of b),
        length-take-le i word (omega arith),
      )

  pub tallied_again : Tallied (take (i + 1) word)
      (set counts (command_of (get_or word i 0)) (get_or counts (command_of (get_or word i 0)) 0 + 1))
  tallied_again = record {
    many = length-set counts (command_of b) (get_or counts (command_of b) 0 + 1) ∙ t.many;
    all = omega (
      arith,
      total_raised counts (command_of b) (omega (arith, t.many)),
      t.all,
      length-take-le i word (omega arith),
      length-take-le (i + 1) word (omega arith),
    );
    each = λ c k.
        go c k (ℕ_discrete k (command_of b))
        ∙ sym (ap (λ w. tally (alphabet c) w k) (ap (λ j. take j word) (add-one i) ∙ take-suc word i 0 l)
        ∙ tally_more c (take i word) b k);
  }
    where
      go : (c : List ℕ) (k : ℕ) → Dec (k ≡ command_of b)
          → get_or (set counts (command_of b) (get_or counts (command_of b) 0 + 1)) k 0
          ≡ tally_step (eqb (command_of b) k) (tally (alphabet c) (take i word) k)
      go c k (yes e) =
          rw (
            e,
            eq-eqb (command_of b) (command_of b) refl,
            get_or-set_same counts (command_of b) (get_or counts (command_of b) 0 + 1) 0 (omega (arith, t.many)),
          )
          (omega (arith, t.each c (command_of b)))
      go c k (no e) =
          rw (
            ne_eqb (command_of b) k (λ f. e (sym f)),
            get_or-set_other counts (command_of b) k (get_or counts (command_of b) 0 + 1) 0 e,
          )
          (t.each c k)

pub tallied_whole : (word : List ℕ) (i : ℕ) {counts : List ℕ} → Tallied (take i word) counts → length word ≤ i
    → Tallied word counts
tallied_whole word i {counts} t l = subst (λ w. Tallied w counts) (take_all i word l) t
