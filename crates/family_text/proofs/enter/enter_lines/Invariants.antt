use Rattle.std.proofs.Common.{◌≡◌, ◌≤◌, ◌+◌, ℕ, List, length}
use Rattle.std.proofs.lemmas.Iterator.{YieldsList}
use Rattle.text.specs.Split.{pieces}
use Rattle.family_text.specs.Enter.{lines_from}
use Rattle.family_text.specs.Entering.{draft_with}
use Rattle.family_text.proofs.enter.enter_lines.Given as goal

abbrev pub invariant-loop-said : goal.invariant-loop-said
invariant-loop-said l =
    (lines : List (List ℕ)) × YieldsList goal.iterator-loop-said.next_gives (λ x. x.now) l.said-iterator lines
    × (l.line + length lines ≤ length l.text + 2) × (length l.image ≡ length l.initial.image) × (length l.given ≡ length l.initial.given)
    × (lines_from l.family (draft_with l.image l.given) l.line lines
    ≡ lines_from l.family (draft_with l.initial.image l.initial.given) 1 (pieces 10 l.text))
