-- `read_target` meets its contract: the Index and the fields that its slot's verdict shows. Assumes nothing.
use Rattle.ibft_readings.specs.Readings.{target_of}
use Rattle.ibft_readings.proofs.target.read_target.Goals as goal

pub returns : goal.returns
unfolding target_of
returns c =
    rw (
      c.target_in.ensures,
      c.structure_part.ensures.result_value,
      c.index_shown.ensures,
      c.refusal_of.ensures,
      c.slot_verdict-verdict.ensures,
      c.of-slots.ensures.starts,
      c.of-slots.ensures.table,
      c.target_slot-slot.ensures,
    )
