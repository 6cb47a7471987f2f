-- `Tables::meet_string` meets its contract: the string is the same one among the entries of its structure in both tables.
-- Assumes nothing.
use mathlib.Core.Path.{◌≡◌, sym, ap, ◌∙◌}
use mathlib.Core.Logic.{⊎_elim}
use Prim.Native.Nat.{ℕ, ◌+◌, ◌≤◌}
use native.Mathlib.Omega.{arith}
use Rattle.ibft_layout.specs.Layout.{entry_count, first_entry, string_of}
use Rattle.ibft_layout.specs.Shapes.{string_shape}
use Rattle.ibft_layout.specs.declared.shape.Shape.{Shape}
use Rattle.ibft_layout.specs.declared.shape.StringShape.{StringShape}
use Rattle.ibft_layout.proofs.LayoutLaws.{first-most}
use Rattle.ibft_compare.specs.Walk.{Seat}
use Rattle.ibft_compare.proofs.PointLaws.{string-passed, string-met}
use Rattle.ibft_compare.proofs.walk.Tables.meet_string.Goals as goal

-- the entries of a slot start at 49 at most
first-low : (group slot : ℕ) → Seat group slot → first_entry slot ≤ entry_count
first-low group slot seat = first-most slot (⊎_elim (λ s. omega (arith, s.0)) (λ past. omega arith) seat)

pub overflow_add-n : goal.overflow_add-n
overflow_add-n c =
    omega (arith, c.first_entry.ensures, first-low c.args.pair.group c.args.pair.left c.requires.0.left)

-- (whichever of the two slots it is)
pub overflow_add-m : goal.overflow_add-m
overflow_add-m c =
    let p = c.args.pair in
    let l = first-low p.group p.left c.requires.0.left in
    let r = first-low p.group p.right c.requires.0.right in
    omega (arith, c.first_entry-2.ensures, l, r)

pub overflow_add-first_entry : goal.overflow_add-first_entry
overflow_add-first_entry c =
    omega (arith, c.first_entry-3.ensures, first-most c.args.pair.group (omega (arith, c.requires.0.group)))

pub then-requires : goal.then-requires
then-requires c =
    c.requires.2

pub returns-then-only_one : goal.returns-then-only_one
returns-then-only_one c =
    let a = c.args in
    string-passed a.self.now.left.bytes.now a.self.now.right.bytes.now a.pair a.met a.j _ _ _
    c.start-l.ensures
    c.start-r.ensures
    (sym c.only_one.ensures ∙ c.if-only_one.true)

pub returns : goal.returns
returns c =
    let a = c.args in
    let p = a.pair in
    let string : c.string_of-string.result ≡ string_shape (string_of (first_entry p.group + a.j)) =
    c.string_of-string.ensures ∙ ap (λ (n : ℕ). string_shape (string_of (n + a.j))) c.first_entry-3.ensures in
    string-met a.self.now.left.bytes.now a.self.now.right.bytes.now p a.met _ _ (ap (λ (k : Shape). k.id) c.kind_of-id.ensures)
    a.j (string_of (first_entry p.group + a.j)) _ _ _ _ _ _ _ _
    c.start-l.ensures
    c.start-r.ensures
    (sym c.only_one.ensures ∙ c.if-only_one.false)
    (ap (λ (x : StringShape). x.at) string)
    (ap (λ (n : ℕ). n + a.j) c.first_entry.ensures)
    (ap (λ (n : ℕ). n + a.j) c.first_entry-2.ensures)
    c.entry_differs.ensures
    c.entry_stretch.ensures
    c.entry_stretch-2.ensures
    c.then.ensures.0
