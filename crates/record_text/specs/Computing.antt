-- One name that opens every definition of this crate and of those below, for theorems that compute. It says nothing.
use Rattle.octets.specs.Options.{bind}
use Rattle.std.specs.Prelude.{ℕ}
use Rattle.text.specs.Computing.{computing as of-text}
use Rattle.ibft_build_rules.specs.Computing.{computing as of-ibft-build-rules}
use Rattle.notation.specs.Number.{hex_digit, below, digit, value_from, numeral, number, digit_byte, digits_within, digits, padded}
use Rattle.notation.specs.Escape.{bytes_of, escaped, numbered, string_of, byte_text, text_at, string_text}
use Rattle.notation.specs.Pairs.{pairs_form, every, read_pairs, pairs_text}
use Rattle.notation.specs.Mac.{read_mac, mac_text}
use Rattle.notation.specs.Pci.{pci_form, device_function, read_pci, pci_text}
use Rattle.notation.specs.Address.{
  short,
  bytes_of as bytes_of_pieces,
  decimal,
  four_bytes,
  group,
  last_group,
  groups,
  side,
  gap_at,
  with_gap,
  without_gap,
  read_six,
  read_address,
  zero_run,
  longest,
  groups_text,
  four_text,
  six_text,
  is_mapped,
  address_text,
}
use Rattle.record_text.specs.Fields.{is_text, is_oem, is_always, group_of, field_count, plain_count, notation_in, place_in, is_secret, field_of}
use Rattle.record_text.specs.Fields.{index_text, name_of, index_in, is_digit, found, found_in, field_named}
use Rattle.notation.specs.Value.{is_width, number_bytes, value_read}
use Rattle.record_text.specs.Value.{word_byte, value_bytes, value_text}
use Rattle.record_text.specs.Enter.{says_nothing, line_found, is_marked, marks_below, noted, lines_noted, none_noted, slot_of, group_number}
use Rattle.record_text.specs.Enter.{counted, has_image, with_port, with_usual, usual_to, blank, blank_draft, given_at, value_place, entry_of}
use Rattle.record_text.specs.Enter.{seated, present, with_value, with_string, reason_of, plain_step, string_step, value_step, has_slot}
use Rattle.record_text.specs.Enter.{field_step, line_step, lines_from, entered_from}
use Rattle.record_text.specs.Tell.{kind_number, index_held, structure_field, record_field, is_told, line_with, hidden_line, line_of}
use Rattle.record_text.specs.Tell.{group_text, record_text, if_accepted, table_text}

unfoldable pub computing : ℕ
unfolding of-text of-ibft-build-rules bind hex_digit below digit value_from numeral number digit_byte digits_within digits
    padded bytes_of escaped numbered string_of byte_text text_at string_text pairs_form every read_pairs pairs_text read_mac mac_text
    pci_form device_function read_pci pci_text short bytes_of_pieces decimal four_bytes group last_group groups side gap_at with_gap
    without_gap read_six read_address zero_run longest groups_text four_text six_text is_mapped address_text is_text is_oem is_always
    group_of field_count plain_count notation_in place_in is_secret field_of index_text name_of index_in is_digit found found_in
    field_named word_byte is_width number_bytes value_bytes value_read value_text says_nothing line_found is_marked marks_below noted
    lines_noted none_noted slot_of group_number counted has_image with_port with_usual usual_to blank blank_draft given_at value_place
    entry_of seated present with_value with_string reason_of plain_step string_step value_step has_slot field_step line_step lines_from
    entered_from kind_number index_held structure_field record_field is_told line_with hidden_line line_of group_text record_text
    if_accepted table_text
computing = 0
