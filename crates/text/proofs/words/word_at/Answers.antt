-- `word_at` meets its contract: it shows what `split` gives. Assumes nothing.
use Rattle.std.proofs.Common.{refl, rules, tests}
use Rattle.std.proofs.lemmas.Iterator.Consumers.{nth_from_yields_List}
use Rattle.std.proofs.lemmas.Iterator.Splits.{YieldsList-from_slice_split}
use Rattle.text.specs.Split.{is}
use Rattle.text.proofs.WordsLaws.{word-shown}
use Rattle.text.proofs.words.word_at.Goals as goal

pub returns : goal.returns
returns c =
    let list = c.args.list.now in
    let word = nth_from_yields_List c.nth.result c.nth.new.self c.args.n c.nth.ensures.ran (YieldsList-from_slice_split _ (is 32) list c.split.ensures.rest c.split.ensures.done c.split.ensures.closure (λ x b q k. search (rules, tests))) in
    rw c.unwrap_or.ensures (word-shown list c.args.n c.nth.result _ refl word)
