-- The text of a table, entered: the marks of its NICs and targets seat every structure, so every line is read.
--     text-entered        what the text of an accepted table is read as
-- Assumes nothing.
use mathlib.Core.Path.{◌≡◌, refl}
use mathlib.Core.List.{List}
use mathlib.Core.Bool.{false}
use Prim.Native.Nat.{ℕ, ◌*◌, ◌≤◌}
use lib.ListN.{length}
use Rattle.text.specs.Split.{pieces}
use Rattle.ibft_layout.specs.Layout.{entry_count}
use Rattle.ibft_table.specs.Check.{check_of}
use Rattle.ibft_table.specs.Record.{record_of}
use Rattle.table_header.specs.Verdict.{Accepted}
use Rattle.record_text.specs.Enter.{lines_noted, none_noted, group_count, blank_draft, no_field, entered_from}
use Rattle.record_text.specs.Tell.{record_text, if_accepted, table_text}
use Rattle.record_text.specs.Promises.{Bytes}
use Rattle.record_text_laws.proofs.Entered.{groups_entered}
use Rattle.record_text_laws.proofs.EnteredLaws.{lines-told}
use Rattle.record_text_laws.proofs.NotedLaws.{noted-told}

-- the marks of a table's text
abbrev pub marks_told : List ℕ → List ℕ
marks_told t = lines_noted none_noted (pieces 10 (record_text false (record_of t)))

pub text-entered : (t range strings : List ℕ) → Bytes t → check_of t ≡ Accepted → 255 * entry_count ≤ length strings
    → entered_from (table_text false t) range strings
    ≡ record { reason = 0; line = 0; field = no_field; draft = groups_entered (record_of t) group_count (blank_draft (marks_told t) range strings) }
unfolding entered_from table_text if_accepted blank_draft
text-entered t range strings small ok large =
    rw ok (lines-told t ok small (blank_draft (marks_told t) range strings) (noted-told t ok small) refl refl large)
