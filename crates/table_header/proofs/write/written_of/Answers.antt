-- `written_of` meets its contract, by cases of the verdict. Assumes nothing.
use mathlib.Core.Path.{sym, ap}
use Rattle.table_header.specs.Verdict.{refusal_of}
use Rattle.table_header.specs.Write.{written_from}
use Rattle.table_header.proofs.write.written_of.Goals as goal

pub returns-in-Ok : goal.returns-in-Ok
unfolding written_from refusal_of
returns-in-Ok c = ap (written_from c.args.size) (sym c.in-Ok.is)

pub returns-in-Err : goal.returns-in-Err
unfolding written_from
returns-in-Err c = ap (written_from c.args.size) (sym c.in-Err.is)
