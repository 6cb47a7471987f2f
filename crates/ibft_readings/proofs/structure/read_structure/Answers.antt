-- `read_structure` meets its contract, by cases of its verdict. Assumes nothing.
use mathlib.Core.Path.{◌≡◌, sym, ◌∙◌}
use Rattle.table_header.specs.Verdict.{refusal_of, Accepted, Refused}
use Rattle.ibft_readings.specs.Readings.{structure_from, structure_got, structure_of}
use Rattle.ibft_readings.proofs.ReadingLaws.{slot_judged}
use Rattle.ibft_readings.proofs.structure.read_structure.Goals as goal

pub returns-in-Ok : goal.returns-in-Ok
unfolding structure_of structure_got structure_from refusal_of
returns-in-Ok c =
    let a = c.args in
    let starts = c.of-slots.ensures.starts in
    let table = c.of-slots.ensures.table in
    let k = c.slot_at-k.ensures in
    let verdict = c.slot_verdict in
    let judged : verdict.result ≡ slot_judged a.t.now a.number = rw (k, starts, table) at verdict.ensures in
    let accepted : slot_judged a.t.now a.number ≡ Accepted = sym judged ∙ c.in-Ok.is in
    rw accepted
    (rw (c.byte_at.ensures, c.index_in.ensures, c.id_of.ensures, c.start_in-start.ensures, k, starts))

pub returns-in-Err : goal.returns-in-Err
unfolding structure_of structure_got structure_from refusal_of
returns-in-Err c =
    let a = c.args in
    let starts = c.of-slots.ensures.starts in
    let table = c.of-slots.ensures.table in
    let k = c.slot_at-k.ensures in
    let verdict = c.slot_verdict in
    let judged : verdict.result ≡ slot_judged a.t.now a.number = rw (k, starts, table) at verdict.ensures in
    let refused : slot_judged a.t.now a.number ≡ Refused c.in-Err.refusal = sym judged ∙ c.in-Err.is in
    rw refused
