-- `put_words` meets its contract: its pieces, one behind another. Assumes nothing.
use Rattle.octets.specs.Counting.{tabulate}
use Rattle.text.proofs.PutLaws.{puts-append}
use Rattle.refusal_text.specs.RefusalText.{refusal_words}
use Rattle.refusal_text.proofs.put_words.Goals as goal

pub returns : goal.returns
unfolding refusal_words tabulate
returns c =
    puts-append c.put_text-number_at.ensures
    (puts-append c.put_next-place_at.ensures (puts-append c.put_next-checksum_at.ensures c.put_checksum_byte.ensures))
