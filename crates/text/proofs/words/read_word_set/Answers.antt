-- `read_word_set` meets its contract: `none`, no words, or the words added to the empty set. Assumes nothing.
use Rattle.std.proofs.Common.{◌≡◌, Bool, List, ◌∷◌, [], ℕ, length, sym, ap, ◌∙◌, arith}
use Rattle.octets.specs.Counting.{tabulate}
use Rattle.octets.specs.Octets.{part}
use Rattle.text.specs.Split.{same, blanks, trim}
use Rattle.text.specs.Words.{no_word}
use Rattle.text.proofs.SplitLaws.{trim-part}
use Rattle.text.proofs.WordsLaws.{set-none, set-no-words, set_words}
use Rattle.text.proofs.words.read_word_set.Goals as goal

-- what is compared with `none`
compared : (s line : List ℕ) (d : Bool) → line ≡ part s (blanks s) (length (trim s)) → d ≡ same line (110 ∷ 111 ∷ 110 ∷ 101 ∷ []) → same (trim s) no_word ≡ d
unfolding tabulate
compared s line d shown e = ap (λ (l : List ℕ). same l no_word) (sym (shown ∙ trim-part s)) ∙ sym e

pub returns-then-same : goal.returns-then-same
returns-then-same c = set-none _ _ (compared _ _ _ c.trimmed.ensures.bytes c.same.ensures ∙ c.if-same.true)

pub returns-then-blanks-s : goal.returns-then-blanks-s
returns-then-blanks-s c = set-no-words _ _ (compared _ _ _ c.trimmed.ensures.bytes c.same.ensures ∙ c.if-same.false) (omega arith)

pub returns : goal.returns
returns c =
    c.add_words.ensures
    ∙ set_words _ _ (compared _ _ _ c.trimmed.ensures.bytes c.same.ensures ∙ c.if-same.false) (omega arith)
