-- `holds_entry` meets its contract: the structure is absent, or one of the two words decides. Assumes nothing.
use mathlib.Core.Path.{◌≡◌, ap, ◌∙◌}
use native.Mathlib.Omega.{arith}
use borrow.Author.Tests.{eq-eqb, ne_eqb}
use Prim.Native.Nat.{ℕ, ◌+◌}
use Rattle.octets.specs.Octets.{word16, differs}
use Rattle.ibft_layout.specs.Layout.{owner_of}
use Rattle.ibft_table.specs.Table.{start_in, present_in, field_in, size_in, offset_in, holds_in}
use Rattle.ibft_table.proofs.starts.holds_entry.Goals as goal

pub returns-then-start_in-eq0 : goal.returns-then-start_in-eq0
unfolding holds_in present_in
returns-then-start_in-eq0 c =
    let a = c.args in
    let s = a.starts.now in
    let t = a.t.now in
    let owner-start = c.start_in.ensures ∙ ap (start_in s) c.owner_of.ensures in
    simp (eq-eqb (start_in s (owner_of a.n)) 0 (omega arith))

pub returns-then-u16_at-ne0 : goal.returns-then-u16_at-ne0
unfolding holds_in present_in size_in
returns-then-u16_at-ne0 c =
    let a = c.args in
    let s = a.starts.now in
    let t = a.t.now in
    let owner-start = c.start_in.ensures ∙ ap (start_in s) c.owner_of.ensures in
    let field = c.string_words_at-field.ensures in
    simp (ne_eqb (start_in s (owner_of a.n)) 0 (omega arith), ne_eqb (word16 t (field_in s a.n)) 0 (omega (arith, ap (word16 t) field)))

pub returns : goal.returns
unfolding holds_in present_in size_in offset_in
returns c =
    let a = c.args in
    let s = a.starts.now in
    let t = a.t.now in
    let owner-start = c.start_in.ensures ∙ ap (start_in s) c.owner_of.ensures in
    let field = c.string_words_at-field.ensures in
    let offset : c.u16_at-2.result ≡ word16 t (c.string_words_at-field.result + 2) = c.u16_at-2.ensures in
    simp (ne_eqb (start_in s (owner_of a.n)) 0 (omega arith), eq-eqb (word16 t (field_in s a.n)) 0 (omega (arith, ap (word16 t) field)))
    (ap (λ (x : ℕ). differs x 0) (offset ∙ ap (λ (f : ℕ). word16 t (f + 2)) field))
