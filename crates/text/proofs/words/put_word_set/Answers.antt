-- `put_word_set` meets its contract: the invariant says that the words that are left are all that is left to put. Assumes
-- nothing.
use Rattle.std.proofs.Common.{List, ℕ, ap, ◌∙◌, rules, tests}
use Rattle.std.specs.List.{slice_split}
use Rattle.std.proofs.lemmas.Iterator.Splits.{YieldsList-from_slice_split}
use Rattle.text.specs.Split.{is}
use Rattle.text.specs.Words.{chosen, set_text, word_set_text}
use Rattle.text.proofs.LeftLaws.{left-some, left-none}
use Rattle.text.proofs.PutLaws.{puts-append, puts-same}
use Rattle.text.proofs.WordsLaws.{words_cut, listed-end, listed-skip, listed-word, listed-text}
use Rattle.text.proofs.words.put_word_set.Goals as goal
use Rattle.text.proofs.words.put_word_set.Goals.{then-left-eq1, else-left-eq1}

pub loop-word-init : goal.loop-word-init
unfolding word_set_text
loop-word-init c =
    let list = c.args.list.now in
    let split = c.split-word-items.ensures in
    rw c.into_iter-word-iterator.ensures.into_iter_gives (
      slice_split (is 32) list,
      YieldsList-from_slice_split _ (is 32) list split.rest split.done split.closure (λ x b q k. search (rules, tests)),
      λ t end p. puts-same p (listed-text _ ∙ ap (λ (ws : List (List ℕ)). set_text (chosen ws c.args.v)) (words_cut list)),
    )

pub loop-word-preserved : goal.loop-word-preserved
loop-word-preserved c =
    let l = c.loop-word in
    let more = left-some l.invariant.1 c.in-Some.word c.next.new.self c.in-Some.ensures.steps in (
      more.0,
      more.2,
      elim c.if-left-eq1.branch [
        | then-left-eq1 w ↦
            rw (w.room-is, w.behind-is, w.first-is)
            (λ t end p. l.invariant.2 t end (puts-same (puts-append w.put_word-behind.ensures p) (listed-word l.first _ _ more.0 more.1 l.left w.if-left-eq1.true)))
        | else-left-eq1 w ↦
            rw (w.room-is, w.behind-is, w.first-is)
            (λ t end p. l.invariant.2 t end (puts-same p (listed-skip l.first _ _ more.0 more.1 l.left w.if-left-eq1.false)))
      ],
    )

pub returns : goal.returns
returns c =
    let l = c.loop-word in
    l.invariant.2 _ _
    (puts-same c.put_end.ensures (listed-end l.first _ l.left (left-none l.invariant.1 c.next.new.self c.in-None.ensures.steps)))
