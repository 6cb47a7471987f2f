-- `Table::entry` meets its contract: the entry's two words say where its bytes stand. Assumes nothing.
use Rattle.std.proofs.Common.{ap, ap₂, ◌∙◌, ℕ, ◌+◌, List}
use Rattle.octets.specs.Octets.{word16, part}
use Rattle.ibft_table.specs.Table.{field_in, size_in, offset_in}
use Rattle.ibft_compare.proofs.table.Table.entry.Goals as goal

pub returns : goal.returns
unfolding size_in offset_in
returns c =
    let table = c.args.self.now in
    let t = table.bytes.now in
    let words = c.string_words_at-words.ensures ∙ ap (λ (s : List ℕ). field_in s c.args.n) table.starts_are in
    c.part.ensures.bytes
    ∙ ap₂ (part t) (c.u16_at-offset.ensures ∙ ap (λ (i : ℕ). word16 t (i + 2)) words) (c.u16_at-size.ensures ∙ ap (word16 t) words)
