-- `write_refusal` meets its contract: the room takes the whole line, and what stands in it up to its end is written. Assumes
-- nothing.
use Rattle.std.proofs.Common.{◌≡◌, ◌≤◌, ◌++◌, List, ℕ, length, take, drop, sym, ap, ◌∙◌, subst, arith, rules}
use Rattle.std.specs.Prelude.{OnOk}
use Rattle.std.specs.Io.KnownBytes.{Appends}
use Rattle.std.proofs.Math.Seq.{take-append_seam}
use Rattle.text.specs.Put.{Puts}
use Rattle.octets.specs.Octets.{part}
use Rattle.octets.proofs.WriteLaws.{write-front}
use Rattle.refusal_text.specs.RefusalText.{refusal_text}
use Rattle.refusal_text.proofs.LineLaws.{line-fits}
use Rattle.bench_io.proofs.write_refusal.Goals as goal

-- a text that fits into the room is what is put at its front
put-whole : (before after text : List ℕ) (end : ℕ) → Puts before after 0 end text → length text ≤ length before → part after 0 end ≡ text
unfolding part
put-whole before after text end puts fits =
    let size : end ≡ length text = omega (arith, puts.end) in
    rw (size, puts.bytes, write-front before text fits) (take-append_seam text (drop (length text) before))

pub returns : goal.returns
returns g c =
    let r = c.args.refusal in
    let fits = line-fits r (search rules) (search rules) (search rules) in
    let bytes = c.part.ensures.bytes ∙ put-whole _ _ (refusal_text r) _ c.put_refusal-end.ensures fits in
    subst (λ (bs : List ℕ). OnOk c.write_all.result (Appends (g.W.Write.contents c.args.to.now) (g.W.Write.contents c.write_all.new.self) bs)) bytes c.write_all.ensures.bytes
