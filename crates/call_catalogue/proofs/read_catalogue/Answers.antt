-- `call_catalogue::read_catalogue` meets its contract: the rows are handed over where no line refuses. Assumes nothing.
use Rattle.call_catalogue.specs.TableLaws.{read_table}
use Rattle.call_catalogue.proofs.read_catalogue.Goals as goal

pub returns-clause-table : goal.returns-clause-table
returns-clause-table c = read_table c.in_ok-commands.ensures c.args.conflicts.now
