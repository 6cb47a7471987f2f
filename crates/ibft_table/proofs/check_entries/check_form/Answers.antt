-- `check_form` meets its contract: the first of its tests that fails. Assumes nothing.
use Rattle.std.proofs.Common.{sym, ap, ◌∙◌, lt-ltb, le-ltb}
use borrow.Author.Tests.{not-true, not-false}
use Rattle.hostname.specs.Hostname.{is_host_name}
use Rattle.table_header.specs.Verdict.{first_of}
use Rattle.ibft_table.proofs.check_entries.check_form.Goals as goal

pub returns-then-string-size : goal.returns-then-string-size
unfolding first_of
returns-then-string-size c = c.refuse.ensures ∙ sym (rw (lt-ltb _ _ c.if-string-size.true))

pub returns-then-not-string : goal.returns-then-not-string
unfolding first_of
returns-then-not-string c =
    sym (rw (le-ltb _ _ c.if-string-size.false, not-true c.args.string.host c.if-not-string.true))

pub returns-then-not-is_host_name : goal.returns-then-not-is_host_name
unfolding first_of
returns-then-not-is_host_name c =
    let name = c.is_host_name.ensures ∙ ap is_host_name c.part.ensures.bytes in
    c.refuse-then-not-is_host_name.ensures
    ∙ sym (rw (
      le-ltb _ _ c.if-string-size.false,
      not-false c.args.string.host c.if-not-string.false,
      sym name ∙ c.if-not-is_host_name.true,
    ))

pub returns : goal.returns
unfolding first_of
returns c =
    let name = c.is_host_name.ensures ∙ ap is_host_name c.part.ensures.bytes in
    sym (rw (
      le-ltb _ _ c.if-string-size.false,
      not-false c.args.string.host c.if-not-string.false,
      sym name ∙ c.if-not-is_host_name.false,
    ))
