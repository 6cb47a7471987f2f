-- `entry_view` meets its contract: the stretch that the entry's reading gives lies within the table, and is none where that
-- is refused. Assumes nothing.
use mathlib.Core.Path.{◌≡◌, refl, sym, ap, ◌∙◌}
use mathlib.Core.Logic.{⊎_elim}
use native.Mathlib.Omega.{arith}
use Rattle.ibft_readings.specs.Readings.{entry_of, view_of}
use Rattle.ibft_readings.specs.declared.entry.EntryReading.{EntryReading}
use Rattle.ibft_readings.proofs.ReadingLaws.{view-stretch, refused-length, view-none, view-refused, entry-within}
use Rattle.ibft_readings.proofs.entry.entry_view.Goals as goal

pub returns-then-entry-ne0 : goal.returns-then-entry-ne0
returns-then-entry-ne0 c =
    let a = c.args in
    let t = a.t.now in
    let entry = c.read_entry-entry in
    let number = ap (λ (e : EntryReading). e.refusal.number) entry.ensures in
    let length = ap (λ (e : EntryReading). e.length) entry.ensures in
    let none : (entry_of t a.number).length ≡ 0 = ⊎_elim (λ z. omega arith) (λ z. omega arith) (refused-length t a.number) in
    record { view-is = sym (view-none t a.number none); shows = λ h. absurd (omega arith); refused = λ h. refl }

pub returns : goal.returns
returns c =
    let a = c.args in
    let t = a.t.now in
    let entry = c.read_entry-entry in
    let offset = ap (λ (e : EntryReading). e.offset) entry.ensures in
    let bytes : c.part.result.now ≡ view_of t a.number = c.part.ensures.bytes ∙ rw entry.ensures (view-stretch t a.number) in
    record {
      view-is = bytes;
      shows = λ h. rw (← entry.ensures) (c.part.ensures.shows (omega (arith, entry-within t a.number)));
      refused = λ h. bytes ∙ view-refused t a.number h;
    }
