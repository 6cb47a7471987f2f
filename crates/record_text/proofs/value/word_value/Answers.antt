-- `word_value` meets its contract: the number of the word. Assumes nothing.
use Rattle.std.proofs.Common.{ap, ◌∙◌, Some, arith}
use Rattle.notation.proofs.ValueLaws.{sixteen-bytes}
use Rattle.record_text.proofs.ValueLaws.{word_read, word-unread}
use Rattle.record_text.proofs.value.word_value.Goals as goal

pub returns-then-word_count-n : goal.returns-then-word_count-n
returns-then-word_count-n c =
    word-unread _ _ _ c.word_number-n.ensures.0 (omega (arith, c.word_count.ensures.0))

pub returns : goal.returns
returns c = ap Some (c.array_at.ensures ∙ sixteen-bytes _ (omega arith)) ∙ word_read _ _ _ c.word_number-n.ensures.0 (omega (arith, c.word_count.ensures.0))
