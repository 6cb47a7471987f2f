-- A built table reads back as the record that it was built from: slot by slot and entry by entry, present, missing and empty
-- apart.
--     structure-reads, index_reads, entry-reads     one slot, one entry
--     begins-reads-back                             a list that begins with the table
--     reads-back                                    the table, with any bytes behind it
-- Assumes nothing.
use Rattle.std.specs.Prelude.{Option, None, Some}
use mathlib.Core.Path.{◌≡◌, refl, sym, ◌∙◌}
use mathlib.Core.Bool.{Bool, true, false, cond}
use mathlib.Core.List.{List, ◌++◌}
use Prim.Native.Nat.{ℕ, ◌+◌, ◌≤◌, ◌<◌}
use native.Mathlib.Decide.{dec_lt}
use native.Mathlib.Omega.{arith}
use borrow.Author.Tests.{lt-ltb, le-ltb}
use Rattle.octets.specs.Octets.{byte, part}
use Rattle.ibft_layout.specs.Layout.{kind_of, slot_count, entry_count, named_count}
use Rattle.ibft_table.specs.Table.{index_in, start_of, present, size_of, offset_of, holds_entry}
use Rattle.ibft_table.specs.Record.{Content, listed, shown_if, body_size, content_in, content_of, record_of}
use Rattle.ibft_table_laws.proofs.RecordLaws.{same-listed}
use Rattle.ibft_build_rules.specs.Plan.{is_present}
use Rattle.ibft_build_rules.specs.TableBytes.{table_of}
use Rattle.ibft_build_rules.proofs.GoodContent.{Good}
use Rattle.ibft_build_rules.proofs.PlanLaws.{present-some}
use Rattle.ibft_build_rules.proofs.BuiltLaws.{Begins, begins-append, oem-id-back, oem-table-id-back, control-flags-back}
use Rattle.ibft_build_rules.proofs.BuiltLaws.{present-back, index_back, body_back, holds-back, entry-back}

-- what is shown where it is present is what is present
shown-is : (o : Option (List ℕ)) (there : Bool) (bytes : List ℕ) → there ≡ is_present o → ((b : List ℕ) → o ≡ Some b → bytes ≡ b)
    → shown_if there bytes ≡ o
unfolding is_present
shown-is None there bytes e same = rw e
shown-is (Some b) there bytes e same = rw (e, same b refl)

module _ (c : Content) (good : Good c) (t : List ℕ) (front : Begins c t) where
  structure-reads : (k : ℕ) → k < slot_count → (content_of t).structure k ≡ c.structure k
  unfolding content_of content_in
  structure-reads k h =
      shown-is (c.structure k) (present t k) (part t (start_of t k + 5) (body_size (kind_of k))) (present-back c good t front k h)
      (λ b is. body_back c good t front k h b is)

  entry-reads : (n : ℕ) → n < entry_count → (content_of t).entry n ≡ c.entry n
  unfolding content_of content_in
  entry-reads n h =
      shown-is (c.entry n) (holds_entry t n) (part t (offset_of t n) (size_of t n)) (holds-back c good t front n h)
      (λ a is. entry-back c good t front n h a is)

  index_reads : (k : ℕ) → k < slot_count → (content_of t).index k ≡ c.index k
  unfolding content_of content_in index_in
  index_reads k h =
      elim (dec_lt k named_count) [
        | yes l ↦ rw (lt-ltb k named_count l) (sym (good.named k l))
        | no l ↦ rw (le-ltb k named_count (omega arith)) (go (omega arith) (is_present (c.structure k)) refl)
      ]
    where
      go : named_count ≤ k → (b : Bool) → is_present (c.structure k) ≡ b → cond (present t k) (byte t (start_of t k + 4)) 0 ≡ c.index k
      go far true on = let w = present-some (c.structure k) on in rw (present-back c good t front k h ∙ on) (index_back c good t front k h w.0 w.1)
      go far false off =
          rw (present-back c good t front k h ∙ off) (sym (good.unnamed k far off))

  pub begins-reads-back : record_of t ≡ listed c
  unfolding record_of content_of content_in
  begins-reads-back =
      same-listed (content_of t) c
      (record {
        oem-id = oem-id-back c good t front;
        oem-table-id = oem-table-id-back c good t front;
        flags = control-flags-back c good t front;
        structures = structure-reads;
        indices = index_reads;
        entries = entry-reads;
      })

pub reads-back : (c : Content) → Good c → (rest : List ℕ) → record_of (table_of c ++ rest) ≡ listed c
reads-back c good rest = begins-reads-back c good (table_of c ++ rest) (begins-append c good rest)
