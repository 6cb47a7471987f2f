-- `Table::entry_stretch` meets its contract: the entry's two words say where its bytes stand. Assumes nothing.
use Rattle.std.proofs.Common.{sym, ap, ap₂, ◌∙◌, ℕ, ◌+◌, List}
use Rattle.octets.specs.Octets.{word16}
use Rattle.ibft_table.specs.Table.{field_in, size_in, offset_in}
use Rattle.ibft_compare.specs.Differences.{stretch}
use Rattle.ibft_compare.specs.Compare.{entry_stretch}
use Rattle.ibft_compare.proofs.table.Table.entry_stretch.Goals as goal

pub returns-then-not-holds : goal.returns-then-not-holds
unfolding entry_stretch
returns-then-not-holds c = rw (sym c.holds.ensures ∙ c.if-not-holds.true) c.no_stretch.ensures

pub returns : goal.returns
unfolding entry_stretch size_in offset_in
returns c =
    let table = c.args.self.now in
    let t = table.bytes.now in
    let words = c.string_words_at-words.ensures ∙ ap (λ (s : List ℕ). field_in s c.args.n) table.starts_are in
    rw (sym c.holds.ensures ∙ c.if-not-holds.false)
    (ap₂ stretch (c.u16_at.ensures ∙ ap (λ (i : ℕ). word16 t (i + 2)) words) (c.u16_at-2.ensures ∙ ap (word16 t) words))
