-- The words that are left, added to the set so far, make what all of them make. Assumes nothing.
use Rattle.std.proofs.Common.{◌≡◌, ℕ, List}
use Rattle.std.proofs.lemmas.Iterator.{YieldsList}
use Rattle.text.specs.Words.{non_empty, tokens, with_words}
use Rattle.text.proofs.words.add_words.Given as goal

abbrev pub invariant-loop-word : goal.invariant-loop-word
invariant-loop-word l =
    (words : List (List ℕ)) × YieldsList goal.iterator-loop-word.next_gives (λ x. x.now) l.word-iterator words
    × (with_words l.list l.set (non_empty words) ≡ with_words l.list l.v (tokens l.s))
