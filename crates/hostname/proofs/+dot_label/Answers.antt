-- `dot` and `label` meet their contracts: what follows a label is the end, one byte or more, and a label ends at the next dot.
-- Assumes nothing.
use Rattle.std.proofs.Common.{sym, ◌∙◌, arith}
use Rattle.hostname.proofs.HostnameLaws.{labels_rest, follows-end, follows-last, follows-more}
use Rattle.hostname.proofs.+dot_label.Goals as goal

pub dot-returns-then-end-at : goal.dot-returns-then-end-at
dot-returns-then-end-at t c = sym (follows-end c.args.only c.args.s.now.now c.args.at (omega arith))

pub dot-returns-then-end-at-eq1 : goal.dot-returns-then-end-at-eq1
dot-returns-then-end-at-eq1 t c = sym (follows-last c.args.only c.args.s.now.now c.args.at (omega arith))

pub dot-returns : goal.dot-returns
dot-returns t c = c.label.ensures ∙ sym (follows-more c.args.only c.args.s.now.now c.args.at (omega arith))

pub label-returns-then-not-is_label : goal.label-returns-then-not-is_label
label-returns-then-not-is_label t c =
    let a = c.args in
    let no_label = sym c.is_label.ensures ∙ c.if-not-is_label.true in
    sym (rw no_label at (labels_rest a.only a.s.now.now a.at c.first_dot.result c.first_dot.ensures.0))

pub label-returns : goal.label-returns
label-returns t c =
    let a = c.args in
    let a_label = sym c.is_label.ensures ∙ c.if-not-is_label.false in
    c.dot.ensures ∙ sym (rw a_label at (labels_rest a.only a.s.now.now a.at c.first_dot.result c.first_dot.ensures.0))
