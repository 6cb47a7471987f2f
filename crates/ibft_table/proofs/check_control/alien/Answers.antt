-- `alien` meets its contract: each of the four tests alone settles it. Assumes nothing.
use mathlib.Core.Path.{◌≡◌, ap}
use mathlib.Core.Bool.{or-true}
use Prim.Native.Nat.{ℕ, ◌+◌}
use native.Mathlib.Omega.{arith}
use borrow.Author.Tests.{eq-eqb, ne_eqb}
use Rattle.octets.specs.Octets.{byte, word16, differs}
use Rattle.ibft_table.specs.Check.{alien}
use Rattle.ibft_layout.specs.declared.shape.Shape.{Shape}
use Rattle.ibft_table.proofs.check_control.alien.Goals as goal

pub returns-then-byte_at-shape : goal.returns-then-byte_at-shape
unfolding alien
returns-then-byte_at-shape c =
    λ kind e.
    let id : c.args.shape.id ≡ kind.id = ap (λ (s : Shape). s.id) e in
    simp (ne_eqb (byte c.args.t.now c.args.start) kind.id (omega arith))

pub returns-then-byte_at-shape-2 : goal.returns-then-byte_at-shape-2
unfolding alien
returns-then-byte_at-shape-2 c =
    λ kind e.
    let version : c.args.shape.version ≡ kind.version = ap (λ (s : Shape). s.version) e in
    simp (ne_eqb (byte c.args.t.now (c.args.start + 1)) kind.version (omega arith), or-true)

pub returns-then-u16_at-shape : goal.returns-then-u16_at-shape
unfolding alien
returns-then-u16_at-shape c =
    λ kind e.
    let size : c.args.shape.length ≡ kind.length = ap (λ (s : Shape). s.length) e in
    simp (ne_eqb (word16 c.args.t.now (c.args.start + 2)) kind.length (omega arith), or-true)

pub returns : goal.returns
unfolding alien
returns c =
    λ kind e.
    let a = c.args in
    let t = a.t.now in
    let id : a.shape.id ≡ kind.id = ap (λ (s : Shape). s.id) e in
    let version : a.shape.version ≡ kind.version = ap (λ (s : Shape). s.version) e in
    let size : a.shape.length ≡ kind.length = ap (λ (s : Shape). s.length) e in
    simp (
      eq-eqb (byte t a.start) kind.id (omega arith),
      eq-eqb (byte t (a.start + 1)) kind.version (omega arith),
      eq-eqb (word16 t (a.start + 2)) kind.length (omega arith),
    )
    (ap (λ (n : ℕ). differs n a.index) c.byte_at-3.ensures)
