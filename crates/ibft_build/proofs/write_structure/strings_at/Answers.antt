-- `strings_at` meets its contract: they start with the first entry's. Assumes nothing.
use mathlib.Core.Path.{ap, ◌∙◌}
use Prim.Native.Nat.{ℕ}
use Rattle.ibft_layout.specs.Layout.{string_of}
use Rattle.ibft_layout.specs.declared.shape.StringShape.{StringShape}
use Rattle.ibft_build.proofs.StructureLaws.{strings-first}
use Rattle.ibft_build.proofs.write_structure.strings_at.Goals as goal

pub returns : goal.returns
returns c =
    ap (λ (s : StringShape). s.at) c.string_of.ensures ∙ ap (λ (n : ℕ). (string_of n).at) c.first_entry.ensures
    ∙ strings-first c.args.k c.requires
