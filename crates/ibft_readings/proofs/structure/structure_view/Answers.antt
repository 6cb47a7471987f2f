-- `structure_view` meets its contract: the part that its verdict shows, and where that is accepted, it stands within the table.
-- Assumes nothing.
use mathlib.Core.Path.{◌≡◌, ◌∙◌}
use Rattle.ibft_readings.specs.Readings.{structure_view_of, structure_view_got}
use Rattle.ibft_readings.proofs.ReadingLaws.{slot_judged, slot-accepted, structure-hidden, start-accepted, structure-within}
use Rattle.ibft_readings.proofs.structure.structure_view.Goals as goal

pub returns : goal.returns
unfolding structure_view_of structure_view_got
returns c =
    let a = c.args in
    let t = a.t.now in
    let starts = c.of-slots.ensures.starts in
    let table = c.of-slots.ensures.table in
    let k = c.slot_at-k.ensures in
    let verdict = c.slot_verdict.ensures in
    let part = c.structure_part.ensures in
    let bytes : c.structure_part.result.now ≡ structure_view_of t a.number = rw (verdict, k, starts, table) at part.result_value in
    let judged : c.slot_verdict.result ≡ slot_judged t a.number = rw (k, starts, table) at verdict in
    record {
      view-is = bytes;
      shows = λ zero.
          let accepted = slot-accepted t a.number zero in
          rw (start-accepted t a.number accepted)
          (rw (k, starts, table) at (part.stands (judged ∙ accepted) (rw (k, starts, table) (structure-within t a.number accepted))));
      refused = λ h. bytes ∙ structure-hidden t a.number h;
    }
