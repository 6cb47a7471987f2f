-- `shown_of` meets its contract, by cases of the verdict. Assumes nothing.
use mathlib.Core.Path.{refl}
use Rattle.table_header.specs.Verdict.{shown}
use Rattle.table_header.proofs.VerdictLaws.{accepted-not-refused}
use Rattle.table_header.proofs.verdict.shown_of.Goals as goal

pub returns-in-Ok : goal.returns-in-Ok
unfolding shown
returns-in-Ok c = record { result_value = rw c.in-Ok.is; stands = λ e. refl }

pub returns-in-Err : goal.returns-in-Err
unfolding shown
returns-in-Err c = record { result_value = rw c.in-Err.is; stands = λ e. accepted-not-refused e c.in-Err.is }
