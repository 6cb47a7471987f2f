-- One name that opens every definition of this crate and of those below, for theorems that compute. It says nothing.
use Rattle.octets.specs.Options.{bind}
use Rattle.std.specs.Prelude.{ℕ}
use Rattle.text.specs.Computing.{computing as of-text}
use Rattle.abft.specs.Computing.{computing as of-abft}
use Rattle.sbft.specs.Computing.{computing as of-sbft}
use Rattle.notation.specs.Number.{hex_digit, below, digit, value_from, numeral, number, digit_byte, digits_within, digits, padded}
use Rattle.notation.specs.Escape.{bytes_of, escaped, numbered, string_of, byte_text, text_at, string_text}
use Rattle.notation.specs.Pairs.{pairs_form, every, read_pairs, pairs_text}
use Rattle.notation.specs.Address.{
  short,
  bytes_of as bytes_of_pieces,
  decimal,
  four_bytes,
  group,
  last_group,
  groups,
  side,
  gap_at,
  with_gap,
  without_gap,
  read_six,
  read_address,
  zero_run,
  longest,
  groups_text,
  four_text,
  six_text,
  is_mapped,
  address_text,
}
use Rattle.family_text.specs.Fields.{fields_of, field_count, field_of, name_of, field_named}
use Rattle.family_text.specs.Value.{number_bytes, value_bytes, fits, value_text}
use Rattle.family_text.specs.Family.{says_nothing, begins, is_ibft, family_named, line_family, first_family, text_family, stray_from, stray_in}
use Rattle.family_text.specs.Enter.{blank_draft, place_written, place_of, present, with_value, is_oem, reason_of, value_step, field_step}
use Rattle.family_text.specs.Enter.{line_step, lines_from, entered_from}
use Rattle.family_text.specs.Tell.{start_in, is_there, bytes_in, is_told, line_with, line_of, lines_text, verdict_of, table_text}

unfoldable pub computing : ℕ
unfolding of-text of-abft of-sbft bind hex_digit below digit value_from numeral number digit_byte digits_within digits padded
    bytes_of escaped numbered string_of byte_text text_at string_text pairs_form every read_pairs pairs_text short bytes_of_pieces
    decimal four_bytes group last_group groups side gap_at with_gap without_gap read_six read_address zero_run longest groups_text
    four_text six_text is_mapped address_text fields_of field_count field_of name_of field_named number_bytes value_bytes fits
    value_text says_nothing begins is_ibft family_named line_family first_family text_family stray_from stray_in blank_draft
    place_written place_of present with_value is_oem reason_of value_step field_step line_step lines_from entered_from start_in is_there
    bytes_in is_told line_with line_of lines_text verdict_of table_text
computing = 0
