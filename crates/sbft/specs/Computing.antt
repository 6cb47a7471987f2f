-- One name that opens every definition of this crate and of those below, for theorems that compute. It says nothing.
use Rattle.std.specs.Prelude.{ℕ}
use Rattle.scan.specs.Computing.{computing as of-scan}
use Rattle.table_header.specs.Computing.{computing as of-table-header}
use Rattle.sbft.specs.Layout.{part_of, offset_of, absent, end_of}
use Rattle.sbft.specs.Check.{outside, outside_tests, overlap, overlap_tests, ib_tests, check_tests, check_of}
use Rattle.sbft.specs.Readings.{start_in, scsi_in, srp_in, ib_in, record_at, record_of, start_of, part_verdict, part_in, scsi_of, srp_of, ib_of, part_view_of}
use Rattle.sbft.specs.Write.{place_of, record_given, length_written, word_written, ib_written, table_of, write_verdict, written_of, room_after}

unfoldable pub computing : ℕ
unfolding of-scan of-table-header part_of offset_of absent end_of outside outside_tests overlap overlap_tests ib_tests check_tests
    check_of start_in scsi_in srp_in ib_in record_at record_of start_of part_verdict part_in scsi_of srp_of ib_of part_view_of place_of
    record_given length_written word_written ib_written table_of write_verdict written_of room_after
computing = 0
