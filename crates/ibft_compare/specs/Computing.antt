-- One name that opens every definition of this crate and of those below, for theorems that compute. It says nothing.
use Rattle.std.specs.Prelude.{ℕ}
use Rattle.ibft_table.specs.Computing.{computing as of-ibft-table}
use Rattle.ibft_compare.specs.Pairs.{named_pair, slot_as, slot_with, pair_as, pair_with, extra_pairs, pairs_in, pairs_of}
use Rattle.ibft_compare.specs.Points.{field_points, string_points_from, string_points, each, points, name_of, group_of, structure_turn, turn_of}
use Rattle.ibft_compare.specs.Differences.{first_unequal, unequal, in_one, field_differs, string_differs, differ_at, differing, unequal_part, shown_at}
use Rattle.ibft_compare.specs.Compare.{both_verdict, side_of, verdict_of, between, list_from, list_of, compared_of, entry_stretch}
use Rattle.ibft_compare.specs.Compare.{structure_stretch, stretch_in, first_name, first_stretch, shown_of, difference_of, view_of}

unfoldable pub computing : ℕ
unfolding of-ibft-table named_pair slot_as slot_with pair_as pair_with extra_pairs pairs_in pairs_of field_points string_points_from
    string_points each points name_of group_of structure_turn turn_of first_unequal unequal in_one field_differs string_differs
    differ_at differing unequal_part shown_at both_verdict side_of verdict_of between list_from list_of compared_of entry_stretch
    structure_stretch stretch_in first_name first_stretch shown_of difference_of view_of
computing = 0
