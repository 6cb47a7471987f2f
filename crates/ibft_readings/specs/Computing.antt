-- One name that opens every definition of this crate and of those below, for theorems that compute. It says nothing.
use Rattle.std.specs.Prelude.{ℕ}
use Rattle.ibft_table.specs.Computing.{computing as of-ibft-table}
use Rattle.ibft_readings.specs.Readings.{header_in, initiator_in, nic_in, target_in, address_kind_of, pci_of, header_of, slot_verdict}
use Rattle.ibft_readings.specs.Readings.{structure_in, index_shown, structure_from, structure_got, structure_of, structure_view_got}
use Rattle.ibft_readings.specs.Readings.{structure_view_of, initiator_of, nic_of, target_of, entry_verdict, entry_from, entry_got, entry_of}
use Rattle.ibft_readings.specs.Readings.{view_got, view_of}
use Rattle.ibft_readings.specs.Login.{target_flags, valid, selected, chosen, target_index, order_in, order_of, placed, login_from, login_order_of}

unfoldable pub computing : ℕ
unfolding of-ibft-table header_in initiator_in nic_in target_in address_kind_of
    pci_of header_of slot_verdict structure_in index_shown structure_from structure_got structure_of structure_view_got structure_view_of
    initiator_of nic_of target_of entry_verdict entry_from entry_got entry_of view_got view_of target_flags valid selected chosen
    target_index order_in order_of placed login_from login_order_of
computing = 0
