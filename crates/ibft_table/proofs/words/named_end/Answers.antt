-- `named_end` meets its contract: the start and the length of its kind. Assumes nothing.
use native.Mathlib.Omega.{arith}
use Rattle.ibft_table.specs.Table.{end_at}
use Rattle.ibft_table.proofs.SeatLaws.{kind-named}
use Rattle.ibft_table.proofs.words.named_end.Goals as goal

pub returns : goal.returns
unfolding end_at
returns c =
    rw (c.start_at.ensures, c.kind_of.ensures, kind-named c.args.t.now c.args.w (omega arith))
