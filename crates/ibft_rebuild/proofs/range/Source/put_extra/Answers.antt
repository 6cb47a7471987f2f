-- `Source::put_extra` meets its contract: an absent extra writes nothing, a present one its image and its marks. Assumes
-- nothing.
use mathlib.Core.Path.{◌≡◌}
use native.Mathlib.Omega.{arith}
use Rattle.ibft_table.specs.Table.{start_in}
use Rattle.ibft_build.proofs.StructureLaws.{entries_below}
use Rattle.ibft_rebuild.proofs.RangeWriteLaws.{image-most, extra-wrote-off, extra-wrote-on}
use Rattle.ibft_rebuild.proofs.range.Source.put_extra.Goals as goal

pub returns-then-start_in-eq0 : goal.returns-then-start_in-eq0
returns-then-start_in-eq0 c =
    let a = c.args in
    let off : start_in a.self.now.starts.now a.k ≡ 0 = omega (arith, c.start_in.ensures) in
    extra-wrote-off _ _ _ _ _ off

pub put_image-behind-requires : goal.put_image-behind-requires
put_image-behind-requires c =
    let p = c.requires in
    (omega (arith, p.0), p.1)

pub put_entry_marks-requires : goal.put_entry_marks-requires
put_entry_marks-requires c =
    let p = c.requires in
    let a = c.args in
    let put = c.put_image-behind.ensures in (
      omega (arith, p.0, put.ends, image-most a.self.now.starts.now a.self.now.table.now a.k p.1),
      omega (arith, p.2, p.3, entries_below a.k p.1),
    )

pub returns : goal.returns
returns c =
    let p = c.requires in
    let a = c.args in
    let on : start_in a.self.now.starts.now a.k ≡ 0 → ⊥ = λ z. omega (arith, c.start_in.ensures) in
    extra-wrote-on _ _ _ _ _ _ _ _ _ _ _ on p.2 p.3 c.put_image-behind.ensures c.put_entry_marks.ensures
