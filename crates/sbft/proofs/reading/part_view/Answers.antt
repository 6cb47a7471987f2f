-- `part_view` meets its contract: the stretch that the offset and the size give, which lies within the table where the reading
-- is accepted. Assumes nothing.
use mathlib.Core.Path.{◌≡◌, refl, ap, ◌∙◌}
use native.Mathlib.Omega.{arith}
use Rattle.octets.specs.Octets.{part}
use Rattle.table_header.specs.Verdict.{shown}
use Rattle.sbft.specs.Layout.{part_of, offset_of}
use Rattle.sbft.specs.Readings.{part_view_of}
use Rattle.sbft.specs.declared.layout.Part.{Part}
use Rattle.sbft.proofs.ReadingLaws.{part-accepted, part-within, view-stretch, view-none, view-beyond}
use Rattle.sbft.proofs.reading.part_view.Goals as goal

pub returns-then-k-ge-COUNT : goal.returns-then-k-ge-COUNT
returns-then-k-ge-COUNT c =
    let a = c.args in
    let beyond = c.if-k-ge-COUNT.true in
    record {
      view-is = view-beyond a.t.now a.k beyond;
      shows = λ h z. absurd (omega arith);
      refused = λ h. refl;
      beyond = λ h. refl;
    }

pub returns : goal.returns
unfolding shown
returns c =
    let a = c.args in
    let t = a.t.now in
    let k = a.k in
    let below = c.if-k-ge-COUNT.false in
    let verdict = c.part_verdict-verdict in
    let offset = c.offset_of in
    let size = ap (λ (p : Part). p.size) c.part_of.ensures in
    let view = c.shown_of.ensures in
    let stretch : c.part.result.now ≡ part t (offset_of t k) (part_of k).size = rw (offset.ensures, size) at c.part.ensures.bytes in
    let bytes : c.shown_of.result.now ≡ part_view_of t k = view.result_value ∙ rw (verdict.ensures, stretch) (view-stretch t k below) in
    record {
      view-is = bytes;
      shows = λ h z.
          let accepted = part-accepted t k z in
          let within = part-within t k accepted h in
          let shows = c.part.ensures.shows (omega arith) in
          let stands = view.stands (verdict.ensures ∙ accepted) in
          record {
            bytes = view.result_value ∙ rw (verdict.ensures, accepted) stretch;
            block = ap (λ p. p.0) stands ∙ shows.block;
            place = ap (λ p. p.1) stands ∙ shows.place ∙ omega arith;
          };
      refused = λ h. bytes ∙ view-none t k h;
      beyond = λ h. absurd (omega arith);
    }
