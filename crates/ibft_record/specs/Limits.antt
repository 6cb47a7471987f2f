-- How much of a record range there is to look at, as the code counts it. Assumes nothing: these are definitions.
use Rattle.std.specs.Prelude.{List, cond, ℕ, ◌+◌, min, eqb}
use Rattle.octets.specs.Counting.{count}
use Rattle.ibft_layout.specs.Layout.{named_count, extra_most, extra_nics, extra_targets, most_words, first_entry}
use Rattle.ibft_build_rules.specs.RecordRange.{nics_given, targets_given, structure_given}

-- how many slots and how many entries there are to look at: those behind belong to extras that are not given
unfoldable pub slot_limit : List ℕ → ℕ
slot_limit r = cond (eqb (targets_given r) 0) (extra_nics + min extra_most (nics_given r)) (extra_targets + min extra_most (targets_given r))

unfoldable pub entry_limit : List ℕ → ℕ
entry_limit r = first_entry (slot_limit r)

-- how many extras there are: Control has a word for each
unfoldable pub extras_given : List ℕ → ℕ
extras_given r = count most_words (λ (i : ℕ). structure_given r (named_count + i))
