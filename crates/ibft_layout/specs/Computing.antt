-- One name that opens every definition of this crate and of those below, for theorems that compute. It says nothing.
use Rattle.std.specs.Prelude.{ℕ}
use Rattle.octets.specs.Computing.{computing as of-octets}
use Rattle.ibft_layout.specs.Layout.{kind_of, index_of, nic_slot, target_slot, entries_of, entries_from, entry_layout, kind_field, owner_of}
use Rattle.ibft_layout.specs.Layout.{string_of, may_share, first_entry, built_slot, opened, closed}

unfoldable pub computing : ℕ
unfolding of-octets kind_of index_of nic_slot target_slot entries_of entries_from entry_layout kind_field owner_of string_of may_share
    first_entry built_slot opened closed
computing = 0
