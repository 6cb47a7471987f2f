-- `index_in` meets its contract. Assumes nothing.
use mathlib.Core.Path.{sym, ◌∙◌, ap}
use mathlib.Core.Bool.{Bool, cond}
use Rattle.std.specs.Prelude.{None, Some}
use Rattle.record_text.proofs.FieldsLaws.{index-none, index-other, index-bad, index_read, number-low}
use Rattle.record_text.proofs.fields.index_in.Goals as goal

pub returns-then-text-eq0 : goal.returns-then-text-eq0
returns-then-text-eq0 c = index-none _ _ c.if-kind-lt-FIRST_INDEXED.true c.if-text-eq0.true

pub returns-then-kind-lt-FIRST_INDEXED : goal.returns-then-kind-lt-FIRST_INDEXED
returns-then-kind-lt-FIRST_INDEXED c = index-other _ _ c.if-kind-lt-FIRST_INDEXED.true c.if-text-eq0.false

pub returns-in_err-n : goal.returns-in_err-n
returns-in_err-n c = c.from_residual.ensures ∙ index-bad _ _ c.if-kind-lt-FIRST_INDEXED.false (sym c.read_number.ensures ∙ c.in_err-n.was)

pub is_told-requires : goal.is_told-requires
is_told-requires c = number-low _ _ (sym c.read_number.ensures ∙ c.in_ok-n.was)

pub returns-then-is_told : goal.returns-then-is_told
returns-then-is_told c =
    let read = sym c.read_number.ensures ∙ c.in_ok-n.was in
    ap (λ (b : Bool). cond b (Some c.in_ok-n.n) None) (sym c.if-is_told.true) ∙ index_read _ _ c.if-kind-lt-FIRST_INDEXED.false c.in_ok-n.n _ read c.is_told.ensures

pub returns-else-is_told : goal.returns-else-is_told
returns-else-is_told c =
    let read = sym c.read_number.ensures ∙ c.in_ok-n.was in
    ap (λ (b : Bool). cond b (Some c.in_ok-n.n) None) (sym c.if-is_told.false) ∙ index_read _ _ c.if-kind-lt-FIRST_INDEXED.false c.in_ok-n.n _ read c.is_told.ensures
