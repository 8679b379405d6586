-- Laws of the step: a letter that has cancelled with the newest of its command, and one that was put on.
use Rattle.std.specs.Prelude.{ℕ, ◌<◌, ◌≡◌, refl, List, ◌∷◌, get_or, set}
use Rattle.std.proofs.Common.{ap, subst}
use Rattle.std.proofs.Math.Option.{none, some}
use Rattle.theory_words.specs.Trace.{First}
use Rattle.theory_words.specs.Reduce.{act}
use Rattle.theory_words.specs.ReduceLaws.{cut, act_is}
use Rattle.spec.specs.Byte.{command_of, undone}
use Rattle.spec.specs.Letters.{alphabet}
use Rattle.spec.specs.Pairs.{Placed, placed, bytes_of, Partner, partner}
use Rattle.spec_laws.specs.PartnerLaws.{first_alone, met_pick, partner_met}
use Rattle.piling_stacks.specs.Piling.{Piled}
use Rattle.piling_stacks.specs.Newest.{Newest}
use Rattle.piling_pairs.specs.Places.{Stepping, Stepped}
use Rattle.piling_pairs.specs.PlacesLaws.{kept_newest, kept_uncover, kept_cover}

module _ {c : List ℕ} {rows : List (List ℕ)} {heights newest below line : List ℕ} {k letter place : ℕ}
    {t : List Placed} (s : Stepping c rows heights newest below line k letter place t) where
  -- where it cancels, newest has the place that it cancels with
  pub step_newest : (p : ℕ) → Newest (command_of letter) p t → (get_or newest k 0 ≡ p) × (p < 1024)
  step_newest p n =
      kept_newest s.kept s.ready.facing.within p (subst (λ i. Newest i p t) s.ready.facing.own n)

  pub step_cut : {rows' : List (List ℕ)} {heights' : List ℕ} (q : Partner) → partner c letter t ≡ some q
      → Newest (command_of letter) q.place t
      → Piled c rows' heights' (act (alphabet c) letter (bytes_of t))
      → Stepped c rows' heights' (set newest k (get_or below (get_or newest k 0) 0)) below (placed letter place) t
      (partner c letter t) (some (get_or newest k 0))
  step_cut q e n p =
      let m = partner_met c letter t q e in
      rw e (record {
        tells = ap some (step_newest q.place n).0;
        piled = subst (Piled c _ _) (act_is (alphabet c) (cut (met_pick c m))) p;
        kept = kept_uncover s.kept s.ready.facing.within c letter s.ready.facing.own m;
      })

  pub step_put : {rows' : List (List ℕ)} {heights' : List ℕ} → ¬ First (alphabet c) (undone letter) (bytes_of t)
      → Piled c rows' heights' (letter ∷ bytes_of t)
      → Stepped c rows' heights' (set newest k place) (set below place (get_or newest k 0)) (placed letter place) t
      (partner c letter t) none
  step_put n p =
      rw (first_alone c letter t n) (record {
        tells = refl;
        piled = p;
        kept = kept_cover s.kept s.ready.facing.within letter place s.ready.facing.own s.low s.later;
      })
