-- One name that opens every definition of this crate and of those below, for theorems that compute. It says nothing.
use Rattle.std.specs.Prelude.{ℕ}
use Rattle.octets.specs.Computing.{computing as octets-computing}
use Rattle.text.specs.Split.{is_blank, before, same, each, trim_end, trim, field_of, value_of, value_start, pieces_by, join}
use Rattle.text.specs.Words.{place_of, non_empty, with_words, read_word_set, chosen, set_text, word_set_text, distinct, good_word, good_list}

unfoldable pub computing : ℕ
unfolding octets-computing is_blank before same each trim_end trim field_of value_of value_start pieces_by join place_of non_empty
    with_words read_word_set chosen set_text word_set_text distinct good_word good_list
computing = 0
