-- `read_nic` meets its contract: the Index and the fields that its slot's verdict shows. Assumes nothing.
use Rattle.ibft_readings.specs.Readings.{nic_of}
use Rattle.ibft_readings.proofs.nic.read_nic.Goals as goal

pub returns : goal.returns
unfolding nic_of
returns c =
    rw (
      c.nic_in.ensures,
      c.structure_part.ensures.result_value,
      c.index_shown.ensures,
      c.refusal_of.ensures,
      c.slot_verdict-verdict.ensures,
      c.of-slots.ensures.starts,
      c.of-slots.ensures.table,
      c.nic_slot-slot.ensures,
    )
