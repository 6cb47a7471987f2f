-- `check_reserved` meets its contract: the verdict of the bytes not yet looked at is that of all. Assumes nothing.
use Rattle.std.proofs.Common.{◌+◌, sym, ◌∙◌, arith}
use native.Mathlib.Numerals.{unary_clauses}
use Rattle.table_header.proofs.HeaderLaws.{reserved-stop, reserved-go, reserved-end}
use Rattle.table_header.proofs.header.check_reserved.Goals as goal

pub loop-i-init : goal.loop-i-init
loop-i-init c = simp unary_clauses

pub returns-then-byte_at-ne0 : goal.returns-then-byte_at-ne0
returns-then-byte_at-ne0 c =
    let a = c.args in
    let l = c.loop-i in
    reserved-stop a.t.now (a.start + a.first) a.count l.i (omega arith)
    (λ z. c.if-byte_at-ne0.true (c.byte_at.ensures ∙ z)) _ c.refuse.ensures ∙ l.invariant

pub loop-i-preserved : goal.loop-i-preserved
loop-i-preserved c =
    let a = c.args in
    let l = c.loop-i in
    reserved-go a.t.now (a.start + a.first) a.count l.i (omega arith) (sym c.byte_at.ensures ∙ c.if-byte_at-ne0.false)
    ∙ l.invariant

pub returns : goal.returns
returns c =
    let a = c.args in
    sym (reserved-end a.t.now (a.start + a.first) a.count c.loop-i.i (omega arith)) ∙ c.loop-i.invariant
