-- `with_word` meets its contract. Each return is a case of the word: it is not in the list, its number is too high, it is in
-- the set already, or it is added. Assumes nothing.
use Rattle.std.proofs.Common.{[], refl, sym, ◌∙◌, rules, arith}
use borrow.Author.Tests.{eqb-false}
use Rattle.text.specs.Words.{bit, with_words}
use Rattle.text.proofs.WordsLaws.{with-unknown, with-high, with-twice, with-next, bit-value, bit-fits}
use Rattle.text.proofs.words.with_word.Goals as goal

pub returns-then-word_count-k : goal.returns-then-word_count-k
returns-then-word_count-k c =
    let k = c.word_number-k in
    with-unknown c.args.list.now c.args.v _ _ _ refl k.result k.ensures.0 (omega arith)

pub returns-then-k-ge8 : goal.returns-then-k-ge8
returns-then-k-ge8 c =
    let k = c.word_number-k in
    with-high c.args.list.now c.args.v _ _ _ refl k.result k.ensures.0 c.if-k-ge8.true

pub returns-then-has_bit : goal.returns-then-has_bit
returns-then-has_bit c =
    let k = c.word_number-k in
    let there = sym c.has_bit.ensures ∙ c.if-has_bit.true in
    with-twice c.args.list.now c.args.v _ _ _ refl k.result k.ensures.0 there

pub overflow_add-result : goal.overflow_add-result
overflow_add-result c =
    let k = c.word_number-k.result in
    let free = eqb-false (bit k c.args.v) 1 (sym c.has_bit.ensures ∙ c.if-has_bit.false) in
    omega (arith, bit-value k (omega arith), bit-fits 8 k c.args.v (omega arith) (search rules) free)

pub returns : goal.returns
unfolding with_words
returns c =
    let k = c.word_number-k in
    let free = sym c.has_bit.ensures ∙ c.if-has_bit.false in
    rw (bit-value k.result (omega arith))
    (with-next c.args.list.now c.args.v _ _ [] refl k.result k.ensures.0 (omega arith) (omega arith) free)
