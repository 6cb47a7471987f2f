-- `found_in` meets its contract. Assumes nothing.
use mathlib.Core.Path.{sym, ap, ◌∙◌}
use mathlib.Core.List.{List}
use Prim.Native.Nat.{ℕ}
use Rattle.text.specs.Words.{word_number}
use native.Mathlib.Omega.{arith}
use lib.Seq.{length-take-le}
use Rattle.octets.specs.Counting.{tabulate}
use Rattle.record_text.proofs.FieldsLaws.{index-low, found-no-kind, found-no-field, found-no-index, found-field}
use Rattle.record_text.proofs.fields.found_in.Goals as goal

pub slice_bounds-word_number-end-2 : goal.slice_bounds-word_number-end-2
slice_bounds-word_number-end-2 c = sym (length-take-le _ _ c.before_digit-letters.ensures.1)

pub returns-then-kind : goal.returns-then-kind
unfolding tabulate
returns-then-kind c = found-no-kind _ _ _ c.before_digit-letters.ensures.0 _ c.word_number-kind.ensures.0 c.if-kind.true

pub returns-then-field_count-n : goal.returns-then-field_count-n
unfolding tabulate
returns-then-field_count-n c =
    found-no-field _ _ _ c.before_digit-letters.ensures.0 _ c.word_number-kind.ensures.0 _ (c.word_number-n.ensures.0 ∙ ap (λ (l : List ℕ). word_number l c.args.own.now) c.names_of.ensures)
    (omega (arith, c.if-field_count-n.true, c.field_count.ensures.0))

pub overflow_cast-result-2 : goal.overflow_cast-result-2
overflow_cast-result-2 c = omega (arith, index-low _ _ _ (sym c.index_in.ensures ∙ c.in_ok-index.was))

pub returns : goal.returns
unfolding tabulate
returns c =
    found-field _ _ _ c.before_digit-letters.ensures.0 _ c.word_number-kind.ensures.0 _ (c.word_number-n.ensures.0 ∙ ap (λ (l : List ℕ). word_number l c.args.own.now) c.names_of.ensures)
    c.if-kind.false (omega (arith, c.if-field_count-n.false, c.field_count.ensures.0)) _
    c.part.ensures.bytes _ (sym c.index_in.ensures ∙ c.in_ok-index.was)

pub returns-in_err-index : goal.returns-in_err-index
unfolding tabulate
returns-in_err-index c =
    c.from_residual.ensures
    ∙ found-no-index _ _ _ c.before_digit-letters.ensures.0 _ c.word_number-kind.ensures.0 _ (c.word_number-n.ensures.0 ∙ ap (λ (l : List ℕ). word_number l c.args.own.now) c.names_of.ensures)
    c.if-kind.false (omega (arith, c.if-field_count-n.false, c.field_count.ensures.0)) _
    c.part.ensures.bytes (sym c.index_in.ensures ∙ c.in_err-index.was)
