-- `put_string_line` meets its contract: the entry is the string, and its words say where it stands. Assumes nothing.
use mathlib.Core.Path.{◌≡◌, sym, ap, ◌∙◌}
use Prim.Native.Nat.{ℕ, ◌+◌, ◌-◌}
use native.Mathlib.Omega.{arith}
use Rattle.ibft_layout.specs.Layout.{first_entry}
use Rattle.ibft_layout.proofs.LayoutLaws.{first-most}
use Rattle.text.proofs.PutLaws.{puts-same}
use Rattle.record_text.specs.Fields.{plain_count}
use Rattle.record_text.specs.Tell.{line_of}
use Rattle.record_text.proofs.TellLaws.{line-missing, string-gone, string-there}
use Rattle.record_text.proofs.tell.Told.put_string_line.Goals as goal

-- the entry that the code asks for
entry : (k kind n first plain : ℕ) → first ≡ first_entry k → plain ≡ plain_count kind → first + (n - plain) ≡ first_entry k + (n - plain_count kind)
entry k kind n first plain e p = rw (e, p)

pub overflow_sub-entry : goal.overflow_sub-entry
overflow_sub-entry c = omega (arith, c.requires.2, c.plain_count.ensures.0)

pub overflow_add-entry : goal.overflow_add-entry
overflow_add-entry c = omega (arith, c.first_entry.ensures, first-most c.args.k (omega (arith, c.requires.0)))

pub returns-then-not-holds_entry : goal.returns-then-not-holds_entry
returns-then-not-holds_entry c =
    let a = c.args in
    let f = a.f in
    let pre = c.requires in
    let named = entry a.k f.kind f.field _ _ c.first_entry.ensures c.plain_count.ensures.0 in
    puts-same c.put_text.ensures
    (line-missing _ _ _ _ _ (string-gone a.self.now.t.now _ a.self.now.are_its a.k pre.0 f.kind f.field pre.1 pre.2 pre.3 _ named
    (sym c.holds_entry.ensures ∙ c.if-not-holds_entry.true)))

pub returns : goal.returns
returns c =
    let a = c.args in
    let f = a.f in
    let pre = c.requires in
    let named = entry a.k f.kind f.field _ _ c.first_entry.ensures c.plain_count.ensures.0 in
    puts-same c.put_line.ensures
    (ap (line_of a.self.now.hide f.kind f.index f.field) (string-there a.self.now.t.now _ a.self.now.are_its a.k pre.0 f.kind f.field pre.1 pre.2 pre.3 _ named
    (sym c.holds_entry.ensures ∙ c.if-not-holds_entry.false) _ _ _ _ c.string_words_at-words.ensures c.u16_at-size.ensures
    c.u16_at-offset.ensures c.part.ensures.bytes))
