-- When two contents are the same record. `RecordLaws` shows that they are exactly where their listings are equal.
-- Assumes nothing: these are definitions.
use Rattle.std.specs.Prelude.{◌≡◌, ℕ, ◌<◌}
use Rattle.ibft_layout.specs.Layout.{slot_count, entry_count}
use Rattle.ibft_table.specs.Record.{Content}

-- the OEM fields, Control's flags, each slot's structure and Index and each entry are the same; past the last slot and entry
-- nothing is said
pub record SameContent (c d : Content) : Type 0 where
  pub oem-id : c.oem_id ≡ d.oem_id
  pub oem-table-id : c.oem_table_id ≡ d.oem_table_id
  pub flags : c.flags ≡ d.flags
  pub structures : (k : ℕ) → k < slot_count → c.structure k ≡ d.structure k
  pub indices : (k : ℕ) → k < slot_count → c.index k ≡ d.index k
  pub entries : (n : ℕ) → n < entry_count → c.entry n ≡ d.entry n
