-- `build_contents` meets its contract: contents that are not refused are sound, each part of the plan is what its call answers,
-- and the room takes a table of its Length or it does not. Assumes nothing.
use Rattle.std.proofs.Common.{refl, arith}
use Rattle.ibft_build.proofs.ReadableLaws.{accepted-readable}
use Rattle.ibft_build.proofs.PlanLaws.{heap_is}
use Rattle.ibft_build.proofs.BuildLaws.{ends-want, ends-built}
use Rattle.ibft_build.proofs.build.build_contents.Goals as goal

pub wanted_sizes-requires : goal.wanted_sizes-requires
wanted_sizes-requires c = ((accepted-readable _ _ c.requires).short, c.entry_limit-limit.ensures.0, refl)

pub invariant_of-entries : goal.invariant_of-entries
invariant_of-entries c =
    record {
      readable = accepted-readable _ _ c.requires;
      limit_is = c.entry_limit-limit.ensures.0;
      few = c.entry_limit-limit.ensures.1;
      fields_are = c.entry_fields.ensures;
      wanted_are = c.wanted_sizes.ensures;
    }

pub invariant_of-heap : goal.invariant_of-heap
invariant_of-heap c =
    record { start_is = heap_is _ _ _ c.structure_ends-ends.ensures; sizes_are = c.heap_sizes.ensures }

pub returns-then-room-length : goal.returns-then-room-length
returns-then-room-length c =
    let a = c.args in
    ends-want a.range.now a.strings.now a.room.now c.requires (omega (arith, c.end-length.ensures))

pub returns : goal.returns
returns c =
    let a = c.args in
    ends-built a.range.now a.strings.now a.room.now c.requires _ _ c.end-length.ensures
    (omega (arith, c.if-room-length.false)) c.put_table.ensures
