-- `piling_pairs::Places::push` meets its contract: a letter that cancels does so with the newest of its command.
use native.Mathlib.Omega.{arith}
use mathlib.Core.Path.{refl}
use Rattle.spec.specs.Pairs.{bytes_of}
use Rattle.piling_stacks.specs.PilingLaws.{still_ready}
use Rattle.piling_pairs.specs.StepLaws.{step_newest, step_cut, step_put}
use Rattle.piling_pairs.proofs.Places.push.Goals as goal

pub uncover-requires : goal.uncover-requires
uncover-requires c =
    let (k, t, s) = c.requires in
    let (q, e, n) = (c.cancel.ensures k (bytes_of t) s.ready.facing).newest c.if-cancel.true t refl in
    (s.ready.facing.within, omega (arith, step_newest s q.place n), s.kept.many, s.kept.wide)

pub returns-then-cancel : goal.returns-then-cancel
returns-then-cancel c = λ k t s.
    let told = c.cancel.ensures k (bytes_of t) s.ready.facing in
    let (q, e, n) = told.newest c.if-cancel.true t refl in
    rw (c.uncover.ensures.place, c.uncover.ensures.newest, c.uncover.ensures.below) (step_cut s q e n (told.gone c.if-cancel.true).1)

pub put-requires : goal.put-requires
put-requires c =
    let (k, t, s) = c.requires in
    let told = c.cancel.ensures k (bytes_of t) s.ready.facing in
    (k, bytes_of t, still_ready s.ready.room s.ready.facing (told.none c.if-cancel.false).1)

pub returns : goal.returns
returns c = λ k t s.
    let (n, q) = (c.cancel.ensures k (bytes_of t) s.ready.facing).none c.if-cancel.false in
    rw (c.cover.ensures.newest, c.cover.ensures.below)
    (step_put s n (c.put.ensures k (bytes_of t) (still_ready s.ready.room s.ready.facing q)))
