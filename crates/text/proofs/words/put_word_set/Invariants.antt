-- Whatever puts the words that are left, from here on, has put the whole set. (Said so it holds also where `at` lies past the
-- room's end and nothing is put yet.) Assumes nothing.
use Rattle.std.proofs.Common.{ℕ, List}
use Rattle.std.proofs.lemmas.Iterator.{YieldsList}
use Rattle.text.specs.Put.{Puts}
use Rattle.text.specs.Words.{chosen, listed, word_set_text}
use Rattle.text.proofs.words.put_word_set.Given as goal

abbrev pub invariant-loop-word : goal.invariant-loop-word
invariant-loop-word l =
    (words : List (List ℕ)) × YieldsList goal.iterator-loop-word.next_gives (λ x. x.now) l.word-iterator words
    × ((t : List ℕ) (end : ℕ) → Puts l.room t l.behind end (listed l.first (chosen words l.left))
    → Puts l.initial.room t l.at end (word_set_text l.list l.v))
