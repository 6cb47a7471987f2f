-- `nic_in` meets its contract: each field is what its read ensures. Assumes nothing.
use Rattle.ibft_readings.specs.Readings.{nic_in}
use Rattle.ibft_readings.proofs.nic.nic_in.Goals as goal

pub returns : goal.returns
unfolding nic_in
returns c =
    rw (
      c.byte_at.ensures,
      c.array_at.ensures,
      c.byte_at-2.ensures,
      c.byte_at-3.ensures,
      c.array_at-2.ensures,
      c.array_at-3.ensures,
      c.array_at-4.ensures,
      c.array_at-5.ensures,
      c.u16_at.ensures,
      c.array_at-6.ensures,
      c.u16_at-2.ensures,
      c.read.ensures,
    )
