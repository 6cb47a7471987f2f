-- `string_verdict` meets its contract: where the entry is present, the first of its four tests that fails. Assumes nothing.
use Rattle.std.proofs.Common.{sym, ◌∙◌}
use borrow.Author.Tests.{not-true, not-false}
use Rattle.ibft_record.proofs.RefusalLaws.{string-off, string-past, string-long, string-zero, string-plain, string-alien, string-pass}
use Rattle.ibft_record.proofs.refusals_strings.string_verdict.Goals as goal

pub returns-then-not-entry_given : goal.returns-then-not-entry_given
returns-then-not-entry_given c =
    let a = c.args in sym (string-off a.range.now a.strings.now a.n (sym c.entry_given.ensures ∙ c.if-not-entry_given.true))

pub returns-then-strings-start : goal.returns-then-strings-start
returns-then-strings-start c =
    let given = sym c.entry_given.ensures ∙ c.if-not-entry_given.false in
    rw c.entry_number.ensures at c.refuse.ensures
    ∙ string-past _ _ _ given _ _ c.entry_start-start.ensures c.entry_length-length.ensures c.if-strings-start.true

pub returns-then-string-length : goal.returns-then-string-length
returns-then-string-length c =
    let given = sym c.entry_given.ensures ∙ c.if-not-entry_given.false in
    rw c.entry_number-then-string-length.ensures at c.refuse-then-string-length.ensures
    ∙ string-long _ _ _ given _ _ c.entry_start-start.ensures c.entry_length-length.ensures
    c.if-strings-start.false _ c.string_of-string.ensures c.if-string-length.true

pub returns-then-has_zero : goal.returns-then-has_zero
returns-then-has_zero c =
    let given = sym c.entry_given.ensures ∙ c.if-not-entry_given.false in
    rw c.entry_number-then-has_zero.ensures at c.refuse-then-has_zero.ensures
    ∙ string-zero _ _ _ given _ _ c.entry_start-start.ensures c.entry_length-length.ensures
    c.if-strings-start.false _ c.string_of-string.ensures c.if-string-length.false _ c.part-bytes.ensures.bytes
    (sym c.has_zero.ensures ∙ c.if-has_zero.true)

pub returns-then-not-string : goal.returns-then-not-string
returns-then-not-string c =
    let given = sym c.entry_given.ensures ∙ c.if-not-entry_given.false in
    string-plain _ _ _ given _ _ c.entry_start-start.ensures c.entry_length-length.ensures
    c.if-strings-start.false _ c.string_of-string.ensures c.if-string-length.false _ c.part-bytes.ensures.bytes
    (sym c.has_zero.ensures ∙ c.if-has_zero.false) (not-true _ c.if-not-string.true)

pub returns-then-not-is_host_name : goal.returns-then-not-is_host_name
returns-then-not-is_host_name c =
    let given = sym c.entry_given.ensures ∙ c.if-not-entry_given.false in
    rw c.entry_number-then-not-is_host_name.ensures at c.refuse-then-not-is_host_name.ensures
    ∙ string-alien _ _ _ given _ _ c.entry_start-start.ensures c.entry_length-length.ensures
    c.if-strings-start.false _ c.string_of-string.ensures c.if-string-length.false _ c.part-bytes.ensures.bytes
    (sym c.has_zero.ensures ∙ c.if-has_zero.false) (not-false _ c.if-not-string.false)
    (sym c.is_host_name.ensures ∙ c.if-not-is_host_name.true)

pub returns : goal.returns
returns c =
    let given = sym c.entry_given.ensures ∙ c.if-not-entry_given.false in
    string-pass _ _ _ given _ _ c.entry_start-start.ensures c.entry_length-length.ensures
    c.if-strings-start.false _ c.string_of-string.ensures c.if-string-length.false _ c.part-bytes.ensures.bytes
    (sym c.has_zero.ensures ∙ c.if-has_zero.false) (not-false _ c.if-not-string.false)
    (sym c.is_host_name.ensures ∙ c.if-not-is_host_name.false)
