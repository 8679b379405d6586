-- `conjugacy_cliques::clique` meets its contract. The loop's invariant: the lines of the flagged commands passed cover
-- the flags. Assumes nothing.
use Rattle.std.proofs.Common.{arith, rules, get_or, length, length-append, below_more, sym, ◌∙◌, ◌∷◌, [], ◌≡◌}
use Rattle.std.proofs.lemmas.Bool.{false≢true}
use Rattle.std.proofs.lemmas.Slice.Zip.{zip_turn, zip_end}
use Rattle.conjugacy_cliques.specs.Covered.{Covered}
use Rattle.conjugacy_cliques.specs.CoveredLaws.{all_clique, no_clique}
use Rattle.conjugacy_cliques.proofs.clique.Goals as goal
use Rattle.conjugacy_cliques.proofs.clique.Goals.{else-flag-eq1-via-then-flag-eq1+else-not-covers, else-flag-eq1-via-else-flag-eq1}

pub returns-then-not-covers : goal.returns-then-not-covers
returns-then-not-covers c =
    let e = zip_turn c.args.flags.now c.args.conflicts.now _ c.into_iter-flag-iterator.result _ c.next.new.self _
    (search rules) (search rules) c.loop-flag.yielded_by _ c.in-Some.is c.next.ensures.steps in
    λ c' ks t f. no_clique t f (length c.loop-flag.yielded) (omega (arith, e.0, f.many)) (λ h.
    false≢true (sym c.if-not-covers.true ∙ c.covers.ensures.1 (rw (e.3 []) (h (sym (e.2 0) ∙ c.if-flag-eq1.true)))))

pub loop-flag-preserved : goal.loop-flag-preserved
loop-flag-preserved c =
    let e = zip_turn c.args.flags.now c.args.conflicts.now _ c.into_iter-flag-iterator.result _ c.next.new.self _
    (search rules) (search rules) c.loop-flag.yielded_by _ c.in-Some.is c.next.ensures.steps in
    let n = length c.loop-flag.yielded in
    λ i l.
    below_more (λ i. get_or c.args.flags.now i 0 ≡ 1 → Covered (get_or c.args.conflicts.now i []) c.args.flags.now) n
    c.loop-flag.invariant
    (λ s. elim c.else-flag-eq1.branch [
      | else-flag-eq1-via-then-flag-eq1+else-not-covers w ↦
          rw (← e.3 []) (w.covers.ensures.0 w.if-not-covers.false)
      | else-flag-eq1-via-else-flag-eq1 w ↦ absurd (w.if-flag-eq1.false (e.2 0 ∙ s))
    ])
    i (omega (arith, l, length-append c.loop-flag.yielded ((c.in-Some.flag, c.in-Some.line) ∷ [])))

pub returns : goal.returns
returns c =
    let e = zip_end c.args.flags.now c.args.conflicts.now _ c.into_iter-flag-iterator.result _ c.next.new.self _
    (search rules) (search rules) c.loop-flag.yielded_by c.in-None.is c.next.ensures.steps in
    λ c' ks t f. all_clique t f (λ i l. c.loop-flag.invariant i (omega (arith, e, f.many, t.tall)))
