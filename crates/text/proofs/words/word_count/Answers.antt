-- `word_count` meets its contract: it counts what `split` gives. Assumes nothing.
use Rattle.std.proofs.Common.{◌≡◌, arith, rules, tests, ap, ◌∙◌, length}
use Rattle.std.proofs.lemmas.Iterator.Consumers.{count_from_yields_List}
use Rattle.std.proofs.lemmas.Iterator.Splits.{YieldsList-from_slice_split}
use Rattle.text.specs.Split.{is}
use Rattle.text.specs.Words.{word_count}
use Rattle.text.proofs.WordsLaws.{words_cut, count-most}
use Rattle.text.proofs.words.word_count.Goals as goal

pub returns : goal.returns
returns c =
    let list = c.args.list.now in
    let count : c.count.result ≡ word_count list = count_from_yields_List c.split.result c.count.result c.count.ensures.ran (YieldsList-from_slice_split _ (is 32) list c.split.ensures.rest c.split.ensures.done c.split.ensures.closure (λ x b q k. search (rules, tests))) ∙ ap length (words_cut list) in
    (count, omega (arith, count-most list))
