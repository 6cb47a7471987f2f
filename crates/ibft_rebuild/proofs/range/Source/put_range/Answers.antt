-- `Source::put_range` meets its contract: the pieces stand behind one another. Assumes nothing.
use Rattle.std.proofs.Common.{◌≤◌, arith}
use Rattle.ibft_layout.specs.Layout.{extra_nics}
use Rattle.ibft_rebuild.proofs.RangeWriteLaws.{front-most, slot-marks-length, extras-most, images-at, counts-at, nic-entries}
use Rattle.ibft_rebuild.proofs.RangeWriteLaws.{target-entries, range-is}
use Rattle.ibft_rebuild.proofs.range.Source.put_range.Goals as goal
use Rattle.ibft_rebuild.proofs.range.Source.put_range.Goals.{After-put_entry_marks-images, After-put_images-counts}

-- where the images and the numbers of extras stand at most
images : (c : After-put_entry_marks-images) → c.put_entry_marks-images.result ≤ 33
images c =
    let s = c.args.self.now in
    images-at s.starts.now s.table.now _ _ _ c.put_front-marks.ensures.ends c.put_slot_marks-entry_marks.ensures.ends c.put_entry_marks-images.ensures.ends

counts : (c : After-put_images-counts) → c.put_images-counts.result ≤ 543
counts c =
    let s = c.args.self.now in
    counts-at s.starts.now s.table.now _ _
    (images-at s.starts.now s.table.now _ _ _ c.put_front-marks.ensures.ends c.put_slot_marks-entry_marks.ensures.ends c.put_entry_marks-images.ensures.ends)
    c.put_images-counts.ensures.ends

pub put_slot_marks-entry_marks-requires : goal.put_slot_marks-entry_marks-requires
put_slot_marks-entry_marks-requires c = omega (arith, c.put_front-marks.ensures.ends, front-most c.args.self.now.table.now)

pub put_entry_marks-images-requires : goal.put_entry_marks-images-requires
put_entry_marks-images-requires c =
    let s = c.args.self.now in (
      omega (
        arith,
        c.put_front-marks.ensures.ends,
        front-most s.table.now,
        c.put_slot_marks-entry_marks.ensures.ends,
        slot-marks-length s.starts.now s.table.now,
      ),
      omega arith,
    )

pub put_images-counts-requires : goal.put_images-counts-requires
put_images-counts-requires c = omega (arith, images (goal.at.put_images-counts-requires c).After-put_entry_marks-images)

pub overflow_add-counts : goal.overflow_add-counts
overflow_add-counts c = omega (arith, counts (goal.at.overflow_add-counts c).After-put_images-counts)

pub overflow_add-counts-2 : goal.overflow_add-counts-2
overflow_add-counts-2 c = omega (arith, counts (goal.at.overflow_add-counts-2 c).After-put_images-counts)

pub put_extras-targets-requires : goal.put_extras-targets-requires
put_extras-targets-requires c =
    (omega (arith, counts (goal.at.put_extras-targets-requires c).After-put_images-counts), omega arith, nic-entries)

pub put_extras-requires : goal.put_extras-requires
put_extras-requires c =
    let s = c.args.self.now in (
      omega (
        arith,
        counts (goal.at.put_extras-requires c).After-put_images-counts,
        c.put_extras-targets.ensures.ends,
        extras-most s.starts.now s.table.now extra_nics (omega arith),
      ),
      omega arith,
      target-entries,
    )

pub returns : goal.returns
returns c =
    range-is _ _ _ _ _ _ _ _ _ _ _ _ _ _ _ _ _ _ _ c.put_front-marks.ensures
    c.put_slot_marks-entry_marks.ensures c.put_entry_marks-images.ensures
    c.put_images-counts.ensures
    c.put_byte.ensures c.extras_in.ensures.0 c.put_byte-2.ensures
    c.extras_in-2.ensures.0 c.put_extras-targets.ensures c.put_extras.ensures
