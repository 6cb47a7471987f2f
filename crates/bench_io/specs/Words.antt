-- The one word that may follow a bench program's name. Assumes nothing: these are definitions.
use Rattle.std.specs.Prelude.{Bool, true, false, cond, List, ℕ, length, eqb, Option, Some, None}
use Rattle.text.specs.Put.{ascii}
use Rattle.text.specs.Split.{same}

-- whether secrets are to be hidden: they are where the word says so, and not where there is none; with any other there is no
-- answer
unfoldable pub hides : List ℕ → Option Bool
hides word = cond (eqb (length word) 0) (Some false) (cond (same word (ascii "hide-secrets")) (Some true) None)
