-- `Plan::put_structure` meets its contract: what it starts with, its flags and fields, and its words fill the stretch. Assumes
-- nothing.
use Rattle.std.proofs.Common.{arith}
use Rattle.ibft_table_laws.proofs.LayoutLaws.{slot-fits}
use Rattle.ibft_build.proofs.StructureLaws.{structure-is}
use Rattle.ibft_build.proofs.plan.Plan.put_structure.Goals as goal

pub overflow_sub-at : goal.overflow_sub-at
overflow_sub-at c =
    let fits = slot-fits _ c.requires.2 in
    omega (arith, c.strings_at-at.ensures)

pub put_words-requires : goal.put_words-requires
put_words-requires c =
    let fits = slot-fits _ c.requires.2 in
    (omega (arith, c.strings_at-at.ensures), c.requires.2)

pub returns : goal.returns
returns c =
    let p = c.requires in
    structure-is _ _ _ _ p.2 (c.args.self.now.entries.readable.whole.images _ p.1) _ _ _ _ _ _ _ _ p.0 c.start_bytes-start.ensures
    c.put_bytes.ensures c.strings_at-at.ensures
    c.image_at.ensures.0 c.part-body.ensures.bytes c.put_bytes-2.ensures c.put_words.ensures
