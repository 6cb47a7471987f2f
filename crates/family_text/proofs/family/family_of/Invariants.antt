use Rattle.std.proofs.Common.{◌≡◌, ℕ, List}
use Rattle.std.proofs.lemmas.Iterator.{YieldsList}
use Rattle.family_text.specs.Family.{first_family, text_family}
use Rattle.family_text.proofs.family.family_of.Given as goal

abbrev pub invariant-loop-line : goal.invariant-loop-line
invariant-loop-line l =
    (lines : List (List ℕ)) × YieldsList goal.iterator-loop-line.next_gives (λ x. x.now) l.line-iterator lines
    × (first_family lines ≡ text_family l.text)
