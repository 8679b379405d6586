-- What a check of one input tells: it passes, with a number, or it is refused by a line of the table.
use Rattle.std.specs.Prelude.{ℕ, Result, Ok, Err}
use Rattle.spec.specs.Table.{Answer, refused, given, line_of}
use Rattle.spec.specs.declared.Refusal.{Refusal}

abbrev pub told_checked : Result ℕ Refusal → Answer ℕ
told_checked (Ok n) = given n
told_checked (Err r) = refused (line_of r)
