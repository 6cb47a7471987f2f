-- `read_initiator` meets its contract: the fields of the part that its slot's verdict shows. Assumes nothing.
use Rattle.ibft_readings.specs.Readings.{initiator_of}
use Rattle.ibft_readings.proofs.initiator.read_initiator.Goals as goal

pub returns : goal.returns
unfolding initiator_of
returns c =
    rw (
      c.initiator_in.ensures,
      c.structure_part.ensures.result_value,
      c.refusal_of.ensures,
      c.slot_verdict-verdict.ensures,
      c.of-slots.ensures.starts,
      c.of-slots.ensures.table,
    )
