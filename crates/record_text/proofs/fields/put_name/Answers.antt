-- `put_name` meets its contract. Assumes nothing.
use mathlib.Core.Path.{ap}
use mathlib.Core.List.{List, ◌++◌}
use Prim.Native.Nat.{ℕ}
use Rattle.octets.specs.Counting.{tabulate}
use Rattle.text.specs.Words.{word_at}
use Rattle.text.proofs.PutLaws.{puts-same, puts-append}
use Rattle.record_text.specs.Fields.{group_of, index_text, dotted, name_of}
use Rattle.record_text.proofs.fields.put_name.Goals as goal

pub returns : goal.returns
unfolding tabulate name_of
returns c =
    let f = c.args.f in
    let own = puts-same c.put_dotted.ensures (ap (λ (l : List ℕ). dotted (word_at l f.field)) c.names_of.ensures) in
    puts-same (puts-append c.put_text-kind.ensures (puts-append c.put_index-index.ensures own))
    (ap (λ (l : List ℕ). l ++ (index_text f.kind f.index ++ dotted (word_at (group_of f.kind).names f.field))) c.word_at.ensures)
