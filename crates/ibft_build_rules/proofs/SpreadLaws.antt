-- A record given, taken apart by number, is its content: nothing is given past the last slot and entry. So contents with equal
-- listings are equal, and equal records have equal tables.
--     given-spread       the content of a range is that of its record
--     records-tables     equal records have equal tables
-- Assumes nothing.
use Rattle.std.specs.Prelude.{None}
use mathlib.Core.Path.{◌≡◌, sym, ap, ◌∙◌}
use mathlib.Core.Bool.{false}
use mathlib.Core.List.{List}
use Prim.Native.Nat.{ℕ, ◌≤◌}
use native.Mathlib.Decide.{dec_lt}
use native.Mathlib.Omega.{arith}
use borrow.Author.Tests.{le-ltb}
use lib.ListN.{get_or}
use Rattle.octets.specs.Counting.{tabulate}
use Rattle.ibft_layout.specs.Layout.{slot_count, entry_count, named_count}
use Rattle.ibft_table.specs.Record.{Record, Content, listed}
use Rattle.ibft_build_rules.specs.RecordRange.{index_given, entry_given, content_given, record_given}
use Rattle.ibft_build_rules.specs.TableBytes.{table_of}
use Rattle.octets.proofs.CountingLaws.{get_d_tabulate, tabulate-past}
use Rattle.ibft_layout.proofs.LayoutLaws.{owner-past}
use Rattle.ibft_build_rules.proofs.RecordRangeLaws.{given-past}

-- a record's content by number
unfoldable pub spread : Record → Content
spread r =
    record {
      oem_id = r.oem_id;
      oem_table_id = r.oem_table_id;
      flags = r.flags;
      structure = λ (k : ℕ). get_or r.structures k None;
      index = λ (k : ℕ). get_or r.indices k 0;
      entry = λ (n : ℕ). get_or r.entries n None;
    }

-- a listing of n, at every number, where nothing stands from n on
listed_at {ℓ} : {A : Type ℓ} (f : ℕ → A) (n : ℕ) (d : A) → ((k : ℕ) → n ≤ k → f k ≡ d) → (k : ℕ) → get_or (tabulate f 0 n) k d ≡ f k
listed_at f n d past k =
    elim (dec_lt k n) [
      | yes l ↦ get_d_tabulate f n k d l
      | no l ↦ tabulate-past f n k d (omega arith) ∙ sym (past k (omega arith))
    ]

module _ (r s : List ℕ) where
  entry_past : (n : ℕ) → entry_count ≤ n → entry_given r n ≡ false
  unfolding entry_given
  entry_past n h = rw (owner-past n h, given-past r slot_count (omega arith))

  index-past : (k : ℕ) → slot_count ≤ k → index_given r k ≡ 0
  unfolding index_given
  index-past k h = rw (le-ltb k named_count (omega arith), given-past r k h)

  pub given-spread : spread (record_given r s) ≡ content_given r s
  unfolding spread record_given listed content_given
  given-spread =
      let c : Content = content_given r s in
      let structures = listed_at c.structure slot_count None (λ k h. rw (given-past r k h)) in
      let indices = listed_at c.index slot_count 0 (λ k h. index-past k h) in
      let entries = listed_at c.entry entry_count None (λ n h. rw (entry_past n h)) in
      λ i. record {
        oem_id = c.oem_id;
        oem_table_id = c.oem_table_id;
        flags = c.flags;
        structure = λ (k : ℕ). structures k i;
        index = λ (k : ℕ). indices k i;
        entry = λ (n : ℕ). entries n i;
      }

pub records-tables : (r s r' s' : List ℕ) → record_given r s ≡ record_given r' s' → table_of (content_given r s) ≡ table_of (content_given r' s')
records-tables r s r' s' e = ap table_of (sym (given-spread r s) ∙ ap spread e ∙ given-spread r' s')
