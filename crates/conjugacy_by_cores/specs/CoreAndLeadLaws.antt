-- Whether two plans are joined, and after how many rounds, from their cores up to swaps; and the lead-in, which is a
-- normal form, joins and fits.
use Prim.Native.Nat.{ℕ, ◌+◌, ◌*◌, ◌≤◌, max}
use native.Mathlib.Omega.{arith}
use Rattle.std.proofs.Common.{mul-le-mul_left, sym, ◌∙◌}
use Rattle.std.specs.Prelude.{◌≡◌, true, List, length}
use Rattle.std.proofs.Math.Path.{ap, ap₂}
use Rattle.theory_words.specs.All.{all_along}
use Rattle.theory_words.specs.Trace as Trace
use Rattle.theory_words.specs.Trace.{next}
use Rattle.theory_words.specs.TraceLaws.{~_sym, ~-length}
use Rattle.theory_words.specs.Group as Group
use Rattle.theory_words.specs.Group.{conj, then, back}
use Rattle.theory_words.specs.GroupLaws.{~→≈, ≈_of_≡, ≈-conj_by}
use Rattle.theory_words.specs.ReduceLaws.{reduce-length}
use Rattle.theory_words.specs.Normal.{nf}
use Rattle.theory_words.specs.NormalLaws.{nf-≈, nf_fixed, nf_reduced, nf_ordered, nf-length}
use Rattle.theory_conjugacy.specs.TurnLaws.{turns_length}
use Rattle.theory_conjugacy.specs.Rounds.{core_rounds}
use Rattle.theory_conjugacy.specs.RoundsLaws.{core_rounds_along}
use Rattle.theory_conjugacy.specs.CoreLaws.{core-conj, core-length, core_all}
use Rattle.theory_conjugacy.specs.ConjugateLaws.{conjugate_cores}
use Rattle.theory_conjugacy.specs.Decision.{cores_joined?, joined?}
use Rattle.theory_conjugacy.specs.DecisionLaws.{lead_in_bound, none_occur, conjugate_joined}
use Rattle.spec.specs.Catalogue.{commands}
use Rattle.spec.specs.Plan.{is_command, Passing}
use Rattle.spec_laws.specs.CommandLaws.{is_command-undone}
use Rattle.spec.specs.Letters.{letters, alphabet, normal_form}
use Rattle.spec_laws.specs.LettersLaws.{Commands, commands_range, commands_passing}
use Rattle.spec_laws.specs.LettersLaws.{letters_commands, letters-length, letters_same}
use Rattle.spec_laws.specs.NormalFormLaws.{normal_letters, normal_passing}
use Rattle.spec_laws.specs.JoinLaws.{joins_words}
use Rattle.spec_laws.specs.CoreFormLaws.{form_~}
use Rattle.spec.specs.Calls.{core_form}
use Rattle.spec.specs.Rounds.{loops_rounds}
use Rattle.spec.specs.Loops.{LeadIn, lead_in_room}
use Rattle.conjugacy_of_cores.specs.Pair.{Conjugator, cores_rounds}
use Rattle.conjugacy_by_cores.specs.CoreAndLead.{CoreAndLead}
use Rattle.conjugacy_by_cores.specs.Join.{Cores, word_room}
use Rattle.conjugacy_by_cores.specs.ThroughLaws.{cores_joined_same, through, through-conj, through_count}
use Rattle.conjugacy_by_cores.specs.ThroughLaws.{through_all}

module _ (c : List ℕ) where
  infix 20 ◌~◌ ◌≈◌
  abbrev ◌~◌ : List ℕ → List ℕ → Type 0
  ◌~◌ = Trace.◌~◌ (alphabet c)

  abbrev ◌≈◌ : List ℕ → List ℕ → Type 0
  ◌≈◌ = Group.◌≈◌ (alphabet c)

  module _ {v x g : List ℕ} (k : CoreAndLead c v x g) where
    pub off_conj : conj (alphabet c) g (letters v) ≈ x
    off_conj =
        then (≈-conj_by (alphabet c) (~→≈ (alphabet c) k.off) (letters v))
        (then (core-conj (alphabet c) (letters v)) (back (~→≈ (alphabet c) k.core)))

    rounds : core_rounds (alphabet c) x ≡ core_rounds (alphabet c) (core_form c v)
    rounds = core_rounds_along (alphabet c) (next k.core (~_sym (alphabet c) (form_~ c v)))

    pub off_length : 2 * length g + length x ≤ length (letters v)
    off_length = omega (
      arith,
      ~-length (alphabet c) k.off,
      ~-length (alphabet c) k.core,
      core-length (alphabet c) (letters v),
      reduce-length (alphabet c) (letters v),
    )

    pub off_commands : Passing (commands c) v → Commands (commands c) g × Commands (commands c) x
    off_commands h =
        let P : ℕ → Type 0 = λ b. is_command (commands c) b ≡ true in
        let (a, b) = core_all (alphabet c) P (letters v) (letters_commands (commands c) v h) in
        let along = ~_sym (alphabet c) k.off in
        (all_along (alphabet c) P along a, all_along (alphabet c) P (~_sym (alphabet c) k.core) b)

  -- two plans

  module _ {conflicts : List (List ℕ)} {v w x g y h : List ℕ} (d : Cores c conflicts v w x g y h) where
    abbrev k : CoreAndLead c v x g
    k = d.first

    abbrev l : CoreAndLead c w y h
    l = d.second

    abbrev pv : Passing (commands c) v
    pv = d.plans.first.passing

    abbrev pw : Passing (commands c) w
    pw = d.plans.second.passing

    -- with no commands there are no letters
    pub no_letters : commands c ≡ 0 → (2 * length g + length x) + (2 * length h + length y) ≡ 0
    no_letters e =
        let n = commands c in
        let r : (z : List ℕ) → Passing n z → length (letters z) ≡ 0 =
        λ z p. none_occur (alphabet c) n (letters z)
        (commands_range n (letters z) d.plans.first.few (letters_commands n z p)) e in
        omega (arith, r v pv, r w pw, off_length k, off_length l)

    pub cores_joined_plans : cores_joined? (alphabet c) x y ≡ joined? (alphabet c) (letters v) (letters w)
    cores_joined_plans = cores_joined_same (alphabet c) (letters v) (letters w) x y k.core l.core

    pub cores_rounds_plans : cores_rounds c x y ≡ loops_rounds c v w
    unfolding loops_rounds
    cores_rounds_plans = ap₂ max (rounds k) (rounds l)

    -- from a conjugator between the cores, one between the plans
    module _ {u : List ℕ} (q : Conjugator c x y u) where
      abbrev t : List ℕ
      t = through (alphabet c) g u h

      conjugates : conj (alphabet c) t (letters v) ≈ letters w
      conjugates = through-conj (alphabet c) g u h (letters v) (letters w) (off_conj k) q.conjugates (off_conj l)

      pub through_joined : joined? (alphabet c) (letters v) (letters w) ≡ true
      through_joined = conjugate_joined (alphabet c) t (letters v) (letters w) conjugates

      same_length : length x ≡ length y
      same_length =
          let e = turns_length (alphabet c) (conjugate_cores (alphabet c) t (letters v) (letters w) conjugates) in
          ~-length (alphabet c) k.core ∙ e ∙ sym (~-length (alphabet c) l.core)

      pub through_commands : Commands (commands c) t
      through_commands =
          through_all (alphabet c) (λ b. is_command (commands c) b ≡ true)
          (λ b e. is_command-undone (commands c) b ∙ e) g u h (off_commands k pv).0 q.letters (off_commands l pw).0

      pub through_room : length t ≤ word_room c x g y h
      through_room =
          let b = lead_in_bound (commands c) (length g) (length h) (length x) (2 * length g + length x)
          (2 * length h + length y) (length u) no_letters (omega arith) (omega (arith, same_length)) q.short in
          omega (arith, b, through_count (alphabet c) g u h)

      pub through_short : length t ≤ lead_in_room c v w
      through_short =
          let e : (2 * length g + length x) + (2 * length h + length y) ≤ length v + length w =
          omega (arith, off_length k, off_length l, letters-length v, letters-length w) in
          omega (arith, through_room, mul-le-mul_left (commands c) e)

      pub through_lead_in : LeadIn c v w (normal_form c t)
      unfolding normal_form
      through_lead_in =
          let pt = commands_passing (commands c) t through_commands in
          let e : letters t ≡ t = letters_same (commands c) t through_commands in
          let f : letters (normal_form c t) ≡ normal_form c t = normal_letters c t pt in
          let z : conj (alphabet c) (letters (normal_form c t)) (letters v) ≈ letters w =
          rw f (then (≈-conj_by (alphabet c) (then (nf-≈ (alphabet c) (letters t)) (≈_of_≡ (alphabet c) e)) (letters v))
          conjugates) in
          record {
            normal = ap (nf (alphabet c)) f
                ∙ nf_fixed (alphabet c) (normal_form c t) (nf_reduced (alphabet c) (letters t))
                (nf_ordered (alphabet c) (letters t));
            joins = (joins_words c v w (normal_form c t) pv pw (normal_passing c t pt)).1 z;
            short = omega (
              arith,
              nf-length (alphabet c) (letters t),
              reduce-length (alphabet c) (letters t),
              letters-length t,
              through_short,
            );
          }
