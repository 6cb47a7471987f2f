-- `word_number` meets its contract: it counts what `split` gives before the word. Assumes nothing.
use Rattle.std.proofs.Common.{◌≡◌, arith, rules, tests, ◌∙◌, not}
use Rattle.std.proofs.lemmas.Iterator.Consumers.{count_from_yields_List, YieldsList-at}
use Rattle.std.proofs.lemmas.Iterator.Search.{YieldsList-from_take_while}
use Rattle.std.proofs.lemmas.Iterator.Splits.{YieldsList-from_slice_split}
use Rattle.text.specs.Split.{is, same}
use Rattle.text.specs.Words.{word_number}
use Rattle.text.proofs.WordsLaws.{number-before, number-most}
use Rattle.text.proofs.words.word_number.Goals as goal

pub returns : goal.returns
returns c =
    let list = c.args.list.now in
    let word = c.args.word.now in
    let number : c.count.result ≡ word_number list word =
    count_from_yields_List c.take_while.result c.count.result c.count.ensures.ran
    (YieldsList-from_take_while _ (λ w. not (same w word))
    (YieldsList-at c.take_while.ensures.source
    (YieldsList-from_slice_split _ (is 32) list c.split.ensures.rest c.split.ensures.done c.split.ensures.closure (λ x b q k. search (rules, tests))))
    c.take_while.ensures.closure c.take_while.ensures.done (λ x b q k. search (rules, tests)))
    ∙ number-before list word in
    (number, omega (arith, number, number-most list word))
