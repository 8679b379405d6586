-- `Part::push` puts the byte behind the others where there is room; a full part keeps the first 3,200, which it has.
use Rattle.std.proofs.Common.{◌∙◌, [], ◌∷◌, sym, arith, length-append, length-take-le, take, take_all, take_at}
use Rattle.std.proofs.lemmas.List.{take_more_set}
use Rattle.cases_table.proofs.part.Part.push.Goals as goal

pub returns-then-self-lt3200 : goal.returns-then-self-lt3200
returns-then-self-lt3200 c =
    let p = c.args.self.now in
    let b = c.args.b in
    let used = length-take-le p.size p.bytes (omega arith) in
    take_more_set p.bytes p.size b (omega arith)
    ∙ sym (take_all 3200 _ (omega (arith, length-append (take p.size p.bytes) (b ∷ []), used)))

pub returns-else-self-lt3200 : goal.returns-else-self-lt3200
returns-else-self-lt3200 c =
    let p = c.args.self.now in
    let used = length-take-le p.size p.bytes (omega arith) in
    sym (take_at (take p.size p.bytes) (c.args.b ∷ []) 3200 (omega (arith, p.within, used)))
