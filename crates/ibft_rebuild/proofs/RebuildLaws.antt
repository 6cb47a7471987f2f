-- A rebuild of a table that the check accepts: the range on the stack has space for the table's, and the build of it answers
-- and leaves what the rebuild is to.
--     range-most     how long the range of an accepted table can be
--     rebuilt        the build of the range
-- Assumes nothing.
use mathlib.Core.Path.{◌≡◌, sym, ap, ◌∙◌}
use mathlib.Core.List.{List}
use Prim.Native.Nat.{ℕ, ◌≤◌}
use native.Mathlib.Omega.{arith}
use lib.ListN.{length, take}
use Rattle.ibft_table.specs.Table.{starts_of}
use Rattle.ibft_table.specs.Check.{check_of}
use Rattle.table_header.specs.Verdict.{Accepted}
use Rattle.ibft_table_laws.proofs.TableLaws.{facts}
use Rattle.ibft_table_laws.proofs.NumberingLaws.{nics-most, targets-most}
use Rattle.ibft_build_rules.specs.RecordRange.{largest_size}
use Rattle.ibft_build_rules.specs.Build.{answer_of, room_after}
use Rattle.ibft_build_rules.specs.Promises.{Promise}
use Rattle.ibft_build_rules.specs.Rebuild.{targets_in, range_in, range_of, rebuild_answer, rebuild_room}
use Rattle.ibft_build_rules.specs.declared.Built.{Built}
use Rattle.ibft_build_rules.proofs.RangeLaws.{range_length}
use Rattle.ibft_build_rules.proofs.RebuildLaws.{answer-range, room-range}
use Rattle.ibft_rebuild.specs.Writing.{Wrote}
use Rattle.ibft_rebuild.proofs.RangeWriteLaws.{range-lent}

module _ (t : List ℕ) (ok : check_of t ≡ Accepted) where
  pub range-most : (starts : List ℕ) → starts ≡ starts_of t → length (range_in starts t) ≤ largest_size
  unfolding range_of targets_in
  range-most starts are =
      omega (arith, ap (λ (s : List ℕ). length (range_in s t)) are, range_length t ok, nics-most t (facts t ok), targets-most t (facts t ok))

  -- u is the stretch in which the range was written up to `end`
  pub rebuilt : (starts stretch u before after : List ℕ) (end : ℕ) (answer : Built) → starts ≡ starts_of t → length stretch ≡ largest_size
      → Wrote stretch 0 (range_in starts t) u end → Promise (take end u) t before answer after
      → (answer ≡ rebuild_answer t (length before)) × (after ≡ rebuild_room t before)
  unfolding range_of
  rebuilt starts stretch u before after end answer are size w p =
      let most = range-most starts are in
      let same : take end u ≡ range_of t = range-lent stretch (range_in starts t) u end w (omega arith) ∙ ap (λ (s : List ℕ). range_in s t) are in (
        p.answer-is ∙ ap (λ (r : List ℕ). answer_of r t (length before)) same ∙ sym (answer-range t ok (length before)),
        p.room-is ∙ ap (λ (r : List ℕ). room_after r t before) same ∙ sym (room-range t ok before),
      )
