-- `target_in` meets its contract: each field is what its read ensures. Assumes nothing.
use Rattle.ibft_readings.specs.Readings.{target_in}
use Rattle.ibft_readings.proofs.target.target_in.Goals as goal

pub returns : goal.returns
unfolding target_in
returns c =
    rw (
      c.byte_at.ensures,
      c.array_at.ensures,
      c.u16_at.ensures,
      c.u64_at.ensures,
      c.byte_at-2.ensures,
      c.byte_at-3.ensures,
      c.read.ensures,
      c.read-2.ensures,
      c.read-3.ensures,
      c.read-4.ensures,
      c.read-5.ensures,
    )
