-- `Source::put_image` meets its contract: an absent structure's image is zeros, a present one's is what stands there.
-- Assumes nothing.
use mathlib.Core.Path.{◌≡◌, ap}
use native.Mathlib.Omega.{arith}
use Rattle.ibft_layout.specs.declared.shape.Shape.{Shape}
use Rattle.ibft_table.specs.Table.{start_in}
use Rattle.ibft_rebuild.proofs.RangeWriteLaws.{image-wrote-off, image-wrote-on}
use borrow.Author.Rules.{rules}
use Rattle.ibft_rebuild.proofs.range.Source.put_image.Goals as goal

pub returns-then-start-eq0 : goal.returns-then-start-eq0
returns-then-start-eq0 c =
    let a = c.args in
    let off : start_in a.self.now.starts.now a.k ≡ 0 = omega (arith, c.start_in-start.ensures) in
    let size = ap (λ (s : Shape). s.length) c.kind_of-size.ensures in
    image-wrote-off _ _ _ _ _ _ _ _ off size c.put_zeros.ensures (search rules)

pub returns : goal.returns
returns c =
    let a = c.args in
    let on : start_in a.self.now.starts.now a.k ≡ 0 → ⊥ = λ z. omega (arith, c.start_in-start.ensures) in
    let size = ap (λ (s : Shape). s.length) c.kind_of-size.ensures in
    image-wrote-on _ _ _ _ _ _ _ _ _ _ on c.start_in-start.ensures size c.part-image.ensures.bytes
    c.put_bytes.ensures (search rules)
