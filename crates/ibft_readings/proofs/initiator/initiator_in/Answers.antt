-- `initiator_in` meets its contract: each field is what its read ensures. Assumes nothing.
use Rattle.ibft_readings.specs.Readings.{initiator_in}
use Rattle.ibft_readings.proofs.initiator.initiator_in.Goals as goal

pub returns : goal.returns
unfolding initiator_in
returns c =
    rw (
      c.byte_at.ensures,
      c.array_at.ensures,
      c.array_at-2.ensures,
      c.array_at-3.ensures,
      c.array_at-4.ensures,
      c.read.ensures,
    )
