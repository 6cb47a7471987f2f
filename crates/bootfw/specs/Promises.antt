-- What the calls for C promise. Nothing but the promises stands here.
use Rattle.std.specs.Prelude.{List, ℕ, length}
use Rattle.scan.specs.Scan.{scan_of}
use Rattle.scan.specs.Promises.{Promise}
use Rattle.scan.specs.declared.Family.{Family}
use Rattle.table_header.specs.Verdict.{Test, refusal_of, Verdict}
use Rattle.table_header.specs.Promises.{Judges}
use Rattle.table_header.specs.declared.write.Written.{Written}
use Rattle.ibft_build_rules.specs.Build.{answer_of}
use Rattle.ibft_build_rules.specs.Promises.{Promise as Build}
use Rattle.ibft_build_rules.specs.Rebuild.{rebuild_answer}
use Rattle.ibft_build_rules.specs.RebuildPromises.{Rebuild}
use Rattle.bootfw.specs.Pack.{Packs, upper_of}

-- `ibft_scan`, `abft_scan`, `sbft_scan`: the answer of the family's scan, packed; and what a scan promises of it (lowest,
-- sound, exact refusals). The number tells whether a table was found: for two of the families 0 is an address like any other.
pub record ScanAnswer (f : Family) (memory : List ℕ) (address r : ℕ) : Type 0 where
  pub answer : Packs (scan_of f memory address).number (scan_of f memory address).address (scan_of f memory address).length r
  pub promise : Promise f memory address (scan_of f memory address)

-- `ibft_check`, `abft_check`, `sbft_check`: number, place and checksum byte of the verdict of the family's tests on the table
-- t, packed, the byte in bits 32 to 39 with 0 above it; and what a check promises of them
pub record CheckAnswer (t : List ℕ) (tests : List Test) (judged : Verdict) (r : ℕ) : Type 0 where
  pub answer : Packs (refusal_of judged).number (refusal_of judged).place (refusal_of judged).checksum r
  pub promise : Judges t tests judged judged

-- `ibft_build`: the build's number, place and Length, packed; and what the build promises of the answer and of the room that
-- held `before` and holds `after`
pub record BuildAnswer (range strings before after : List ℕ) (r : ℕ) : Type 0 where
  pub answer : Packs (answer_of range strings (length before)).refusal.number (answer_of range strings (length before)).refusal.place
      (answer_of range strings (length before)).length r
  pub promise : Build range strings before (answer_of range strings (length before)) after

-- `ibft_rebuild`: the rebuild's number and place, packed, with the Length of the new table or, where it is refused, the
-- checksum byte as a check has it; and what the rebuild promises of the answer and of the room that held `before` and holds
-- `after`
pub record RebuildAnswer (table before after : List ℕ) (r : ℕ) : Type 0 where
  pub answer : Packs (rebuild_answer table (length before)).refusal.number (rebuild_answer table (length before)).refusal.place
      (upper_of (rebuild_answer table (length before)).refusal (rebuild_answer table (length before)).length) r
  pub promise : Rebuild table before (rebuild_answer table (length before)) after

-- `abft_write`, `sbft_write`: number, place and Length of what the family's write answers, packed; and what the family promises
-- of that answer (`Write` of its Promises)
pub record WriteAnswer (written : Written) (promise-of : Written → Type 0) (r : ℕ) : Type 0 where
  pub answer : Packs written.refusal.number written.refusal.place written.length r
  pub promise : promise-of written
