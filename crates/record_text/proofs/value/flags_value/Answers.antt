-- `flags_value` meets its contract: the set that the words make, or none. Assumes nothing.
use Rattle.std.proofs.Common.{◌≡◌, sym, ap, ◌∙◌, List, ℕ, Some, arith}
use Rattle.std.specs.Prelude.{Option}
use Rattle.text.specs.Words.{read_word_set}
use Rattle.notation.specs.Value.{value_read}
use Rattle.notation.proofs.ValueLaws.{sixteen-bytes}
use Rattle.record_text.specs.Value.{set_byte}
use Rattle.record_text.proofs.value.flags_value.Goals as goal

-- what the call answered, of the names that the kind has
said : (o p : Option ℕ) (names flags text : List ℕ) → names ≡ flags → p ≡ read_word_set names text → p ≡ o
    → value_read (set_byte o) ≡ value_read (set_byte (read_word_set flags text))
said o p names flags text n e is =
    ap (λ (x : Option ℕ). value_read (set_byte x)) (sym is ∙ e ∙ ap (λ (l : List ℕ). read_word_set l text) n)

pub returns-in_err-set : goal.returns-in_err-set
unfolding value_read
returns-in_err-set c = c.from_residual.ensures ∙ said _ _ _ _ c.args.text.now c.flags_of.ensures c.read_word_set.ensures c.in_err-set.was

pub returns : goal.returns
unfolding value_read
returns c = ap Some (c.array_at.ensures ∙ sixteen-bytes _ (omega arith)) ∙ said _ _ _ _ c.args.text.now c.flags_of.ensures c.read_word_set.ensures c.in_ok-set.was
