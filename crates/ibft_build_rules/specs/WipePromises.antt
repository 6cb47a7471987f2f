-- What whoever wipes a secret may rely on. Nothing but the promise stands here.
use Rattle.std.specs.Prelude.{◌≡◌, true, false, List, ℕ, ◌+◌, length, take, set, Some}
use Rattle.octets.specs.Octets.{write}
use Rattle.ibft_layout.specs.Layout.{may_share}
use Rattle.ibft_table.specs.Table.{size_of, offset_of, holds_entry}
use Rattle.ibft_table.specs.Record.{Record, record_of}
use Rattle.ibft_build_rules.specs.Promises.{Serves}

-- a record with the bytes a for entry n
abbrev pub with_entry : ℕ → List ℕ → Record → Record
with_entry n a c =
    record {
      oem_id = c.oem_id;
      oem_table_id = c.oem_table_id;
      flags = c.flags;
      structures = c.structures;
      indices = c.indices;
      entries = set c.entries n (Some a);
    }

-- Whatever is written over a secret of a table that serves a record, and over the zero behind it: the table reads as that
-- record, with other bytes for this secret and nothing else changed.
abbrev pub WipesAlone : Type 0
WipesAlone = (c : Record) (t : List ℕ) → Serves c t
    → (n : ℕ) → may_share n ≡ false → holds_entry t n ≡ true
    → (xs : List ℕ) → length xs ≡ size_of t n + 1
    → record_of (write t (offset_of t n) xs) ≡ with_entry n (take (size_of t n) xs) c
