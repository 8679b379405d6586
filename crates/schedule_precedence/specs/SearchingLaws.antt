-- Laws of the loops over pairs of places.
use Rattle.std.specs.Prelude.{ℕ, Some, None, ◌+◌, ◌*◌, ◌/◌, ◌<◌, ◌≤◌, ◌≡◌, Bool, true, false, not, List, length}
use Rattle.std.proofs.Common.{arith, sym, ◌∙◌, ap}
use Rattle.std.proofs.Math.Decide.{dec_lt}
use Rattle.std.proofs.Math.Option.{none}
use Rattle.spec.specs.Table.{line_at}
use Rattle.spec.specs.Precedence.{pairs_in, faulty, pair_leads, finds_none, all_lead, places_line}
use Rattle.spec_laws.specs.SearchLaws.{Searching, search_start, search_again, search_hit, search_end}
use Rattle.spec_laws.specs.PlacesLaws.{pair_within, places_pass}
use Rattle.schedule_chains.specs.Following.{Followable}
use Rattle.schedule_precedence.specs.Searching.{FirstPair, found, nowhere}

-- the pairs of n places, as a search counts them

pub pair_below : (n p : ℕ) → 2 * p < n → p < 0 + (n + 1) / 2
pair_below n p h = omega (arith, (pair_within p n).1 h)

module _ {l : ℕ} {ns : List ℕ} {p : ℕ} (s : Searching (faulty l ns) (pairs_in ns) 0 p) where
  pub first_found : 2 * p < length ns → faulty l ns p ≡ true → FirstPair l ns (Some p)
  first_found h e = found h (ap (line_at 16 0 (λ q. q)) (search_hit (faulty l ns) s (pair_below (length ns) p h) e))

  pub first_nowhere : 0 + (length ns + 1) / 2 ≤ p → FirstPair l ns None
  first_nowhere h = nowhere (ap (line_at 16 0 (λ q. q)) (search_end (faulty l ns) s h))

-- no pair is faulty, so the last place is a pair's second
places_even : (l : ℕ) (ns : List ℕ) → places_line l ns ≡ none → (length ns + 1) / 2 ≤ length ns / 2
places_even l ns e = go (dec_lt (2 * (length ns / 2)) (length ns))
  where
    go : Dec (2 * (length ns / 2) < length ns) → (length ns + 1) / 2 ≤ length ns / 2
    go (yes h) = absurd (omega (arith, (places_pass l ns e (length ns / 2) h).0))
    go (no h) = omega arith

-- the loop over the pairs: those before p stay in order
pub record Leading (word : List ℕ) (conflicts : List (List ℕ)) (places : List ℕ) (p : ℕ) : Type 0 where
  pub so_far : (c : List ℕ) → Followable c word conflicts
      → Searching (λ q. not (pair_leads c word places q)) (pairs_in places) 0 p

pub leading_start : {word : List ℕ} {conflicts : List (List ℕ)} {places : List ℕ} → Leading word conflicts places 0
leading_start {word} {places = places} = record {
  so_far = λ c g. search_start (λ q. not (pair_leads c word places q)) (pairs_in places) 0;
}

module _ {word : List ℕ} {conflicts : List (List ℕ)} {places : List ℕ} {p : ℕ}
    (s : Leading word conflicts places p) where
  module _ (h : 2 * p < length places) {t : Bool}
      (e : (c : List ℕ) → Followable c word conflicts → t ≡ pair_leads c word places p) where
    -- pair p stays in order, or it does not
    pub leading_again : not t ≡ false → Leading word conflicts places (p + 1)
    leading_again d = record {
      so_far = λ c g.
          search_again (λ q. not (pair_leads c word places q)) (s.so_far c g) (pair_below (length places) p h)
          (ap not (sym (e c g)) ∙ d);
    }

    pub leading_not : not t ≡ true → (c : List ℕ) → Followable c word conflicts → false ≡ all_lead c word places
    leading_not d c g =
        ap finds_none
        (sym (search_hit (λ q. not (pair_leads c word places q)) (s.so_far c g) (pair_below (length places) p h)
        (ap not (sym (e c g)) ∙ d)))

  -- no pair is faulty, so no place is left over
  pub leading_end : (l : ℕ) → places_line l places ≡ none → length places / 2 ≤ p → (c : List ℕ)
      → Followable c word conflicts → true ≡ all_lead c word places
  leading_end l e h c g =
      ap finds_none
      (sym (search_end (λ q. not (pair_leads c word places q)) (s.so_far c g)
      (omega (arith, places_even l places e))))
