-- `login_order` meets its contract, by cases of the check's verdict. Assumes nothing.
use mathlib.Core.Path.{sym, ◌∙◌}
use Rattle.octets.specs.Counting.{tabulate}
use Rattle.table_header.specs.Verdict.{refusal_of}
use Rattle.ibft_readings.specs.Login.{order_of, placed, login_from, login_order_of}
use Rattle.ibft_readings.proofs.login.login_order.Goals as goal

pub returns-in-Ok : goal.returns-in-Ok
unfolding login_order_of login_from order_of
returns-in-Ok c =
    rw (sym c.check.ensures.verdict-is ∙ c.in-Ok.is)
    (rw (c.of.ensures.starts, c.of.ensures.table) at c.order_of.ensures)

pub returns-in-Err : goal.returns-in-Err
unfolding login_order_of login_from placed refusal_of tabulate
returns-in-Err c =
    rw (sym c.check.ensures.verdict-is ∙ c.in-Err.is) c.none.ensures
