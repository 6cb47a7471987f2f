-- `read_entry` meets its contract, by cases of its verdict. Assumes nothing.
use mathlib.Core.Path.{◌≡◌, sym, ◌∙◌}
use mathlib.Core.List.{List}
use Prim.Native.Nat.{ℕ}
use Rattle.ibft_table.specs.Table.{starts_of, size_in, offset_in}
use Rattle.table_header.specs.Verdict.{refusal_of, Verdict, Accepted, Refused}
use Rattle.ibft_readings.specs.Readings.{entry_called, entry_verdict, entry_from, entry_got, entry_of}
use Rattle.ibft_readings.proofs.entry.read_entry.Goals as goal

-- the verdict of a reading of the entry that callers call `number`
abbrev entry_judged : List ℕ → ℕ → Verdict
entry_judged t number = entry_verdict (starts_of t) t number (entry_called (starts_of t) number)

pub returns-in-Ok : goal.returns-in-Ok
unfolding entry_of entry_got entry_from refusal_of size_in offset_in
returns-in-Ok c =
    let a = c.args in
    let starts = c.of-slots.ensures.starts in
    let table = c.of-slots.ensures.table in
    let n = c.entry_at-n.ensures in
    let verdict = c.entry_verdict in
    let judged : verdict.result ≡ entry_judged a.t.now a.number = rw (n, starts, table) at verdict.ensures in
    let accepted : entry_judged a.t.now a.number ≡ Accepted = sym judged ∙ c.in-Ok.is in
    rw accepted
    (rw (c.u16_at-in-Ok.ensures, c.u16_at.ensures, c.string_words_at-field.ensures, n, starts))

pub returns-in-Err : goal.returns-in-Err
unfolding entry_of entry_got entry_from refusal_of
returns-in-Err c =
    let a = c.args in
    let starts = c.of-slots.ensures.starts in
    let table = c.of-slots.ensures.table in
    let n = c.entry_at-n.ensures in
    let verdict = c.entry_verdict in
    let judged : verdict.result ≡ entry_judged a.t.now a.number = rw (n, starts, table) at verdict.ensures in
    let refused : entry_judged a.t.now a.number ≡ Refused c.in-Err.refusal = sym judged ∙ c.in-Err.is in
    rw refused
