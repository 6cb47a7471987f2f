use Rattle.std.proofs.Common.{◌≡◌, ◌≤◌, ◌+◌, ℕ, List, length}
use Rattle.std.proofs.lemmas.Iterator.{YieldsList}
use Rattle.text.specs.Split.{pieces}
use Rattle.family_text.specs.Family.{stray_from}
use Rattle.family_text.proofs.family.stray_from.Given as goal

abbrev pub invariant-loop-said : goal.invariant-loop-said
invariant-loop-said l =
    (lines : List (List ℕ)) × YieldsList goal.iterator-loop-said.next_gives (λ x. x.now) l.said-iterator lines
    × (1 ≤ l.line) × (l.line + length lines ≤ length l.text + 2)
    × (stray_from l.family l.line lines ≡ stray_from l.family 1 (pieces 10 l.text))
