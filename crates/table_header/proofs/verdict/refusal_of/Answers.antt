-- `refusal_of` meets its contract, by cases of the verdict. Assumes nothing.
use mathlib.Core.Path.{sym, ap}
use Rattle.table_header.specs.Verdict.{refusal_of}
use Rattle.table_header.proofs.verdict.refusal_of.Goals as goal

pub returns-in-Ok : goal.returns-in-Ok
unfolding refusal_of
returns-in-Ok c = ap refusal_of (sym c.in-Ok.is)

pub returns-in-Err : goal.returns-in-Err
unfolding refusal_of
returns-in-Err c = ap refusal_of (sym c.in-Err.is)
