-- One name that opens every definition of this crate and of those below, for theorems that compute. It says nothing.
use Rattle.std.specs.Prelude.{ℕ}
use Rattle.octets.specs.Computing.{computing as of-octets}
use Rattle.hostname.specs.Computing.{computing as of-hostname}
use Rattle.string_heap.specs.Computing.{computing as of-string-heap}
use Rattle.ibft_readings.specs.Computing.{computing as of-ibft-table}
use Rattle.ibft_build_rules.specs.RecordRange.{nic_image, target_image, range_size, named_image, image_at, mark_at, structure_given}
use Rattle.ibft_build_rules.specs.RecordRange.{index_given, entry_given, length_given, start_given, bytes_given, content_given, record_given}
use Rattle.ibft_build_rules.specs.Refusals.{has_zero, bad_mark, range_tests, index_tests, extras_tests, flags_tests, image_tests}
use Rattle.ibft_build_rules.specs.Refusals.{string_tests, contents_tests, contents_verdict}
use Rattle.ibft_build_rules.specs.Plan.{is_present, extras_built, end_built, turn_of, start_built, heap_start, length_built, offset_as, offset_built}
use Rattle.ibft_build_rules.specs.TableBytes.{header_bytes, extra_word, control_bytes, words_built, structure_bytes, stretch_as, stretch, bare_table, table_of}
use Rattle.ibft_build_rules.specs.Build.{build_verdict, answer_from, answer_of, room_from, room_after}
use Rattle.ibft_build_rules.specs.Rebuild.{marks_in, image_in, extra_in, targets_in, range_in, range_of, zero_in, zero_tests, rebuild_verdict}
use Rattle.ibft_build_rules.specs.Rebuild.{rebuild_from, rebuild_answer, rebuilt_from, rebuild_room}
use Rattle.ibft_build_rules.specs.ReadsBack.{nics_held}

unfoldable pub computing : ℕ
unfolding of-octets of-hostname of-string-heap of-ibft-table nic_image target_image range_size named_image image_at mark_at
    structure_given index_given entry_given length_given start_given bytes_given content_given record_given has_zero bad_mark
    range_tests index_tests extras_tests flags_tests image_tests string_tests contents_tests contents_verdict is_present extras_built
    end_built turn_of start_built heap_start length_built offset_as offset_built header_bytes extra_word control_bytes words_built
    structure_bytes stretch_as stretch bare_table table_of build_verdict answer_from answer_of room_from room_after marks_in image_in
    extra_in targets_in range_in range_of zero_in zero_tests rebuild_verdict rebuild_from rebuild_answer rebuilt_from rebuild_room nics_held
computing = 0
