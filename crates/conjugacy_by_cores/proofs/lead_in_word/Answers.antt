-- The row has room for each word appended, and the word in it is a lead-in. Assumes nothing.
use mathlib.Core.Path.{◌∙◌}
use native.Mathlib.Omega.{arith}
use Rattle.conjugacy_by_cores.specs.JoinLaws.{lead_room, join_coreable, join_short, join_stop, join_word}
use Rattle.conjugacy_by_cores.specs.JoinLaws.{cores_joined}
use Rattle.conjugacy_by_cores.specs.CoreAndLeadLaws.{cores_rounds_plans}
use Rattle.conjugacy_by_cores.proofs.lead_in_word.Goals as goal

pub append-at-requires : goal.append-at-requires
append-at-requires c = lead_room c.requires.3 c.args.row.now c.requires.4

pub join_cores-way-requires : goal.join_cores-way-requires
join_cores-way-requires c =
    (c.requires.0, join_coreable c.requires.3 c.args.row.now c.requires.4 c.append-at.ensures)

pub returns-in_default : goal.returns-in_default
returns-in_default c =
    λ k v w p r.
    let way = c.join_cores-way.ensures k (join_coreable p c.args.row.now r c.append-at.ensures) in
    join_stop p _ _ c.join_cores-way.new.row way c.in_default.is

pub append_undone-last-requires : goal.append_undone-last-requires
append_undone-last-requires c =
    let row = c.args.row.now in
    let a = c.append-at.ensures in
    let (k, v, w, p, r) = c.requires in
    let way = c.join_cores-way.ensures k (join_coreable p row r a) in
    let joined = cores_joined k _ _ _ _ _ way c.in-Some.is in
    let l = join_short p row r a joined.0 in
    omega (arith, l, c.join_cores-way.auto.row, c.append-at.auto.row)

pub returns : goal.returns
returns c =
    let row = c.args.row.now in
    let a = c.append-at.ensures in
    λ k v w p r.
    let way = c.join_cores-way.ensures k (join_coreable p row r a) in
    let (d, m) = cores_joined k _ _ _ _ _ way c.in-Some.is in
    let l = join_short p row r a d in (
      join_word p a (omega (arith, a.ends, lead_room p row r)) d c.append_undone-last.ensures
          (omega (arith, l, c.join_cores-way.auto.row, c.append-at.auto.row)),
      m ∙ cores_rounds_plans k p,
    )
