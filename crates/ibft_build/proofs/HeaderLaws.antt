-- Laws of the header's and Control's writers, each shaped like what the code leaves. The extras of a kind fill the slots of
-- their kind from the first on, so Control's extra words are those of two runs of slots.
--     header_is, control-is             the stretch once all is written
--     start-words-next                  one more of Control's words
--     extra-words, extra-words-size     Control's extra words, by kind, and how long they are
-- Assumes nothing.
use mathlib.Core.Path.{◌≡◌, refl, sym, ap, ap₂, ◌∙◌}
use mathlib.Core.List.{List, ◌++◌}
use Prim.Native.Nat.{ℕ, ◌+◌, ◌*◌, min}
use native.Mathlib.Omega.{arith}
use lib.ListN.{length, length-append}
use Rattle.octets.specs.Counting.{gather}
use Rattle.octets.specs.Octets.{byte, part, le16, zeros, write}
use Rattle.octets.proofs.ReadLaws.{part_length}
use Rattle.octets.proofs.WriteLaws.{length-zeros}
use Rattle.table_header.specs.Header.{header_start}
use Rattle.ibft_layout.specs.Layout.{named_count, extra_most, extra_nics, extra_targets, most_words, ibft_signature}
use Rattle.ibft_build_rules.specs.RecordRange.{nics_given, targets_given, structure_given}
use Rattle.ibft_build_rules.proofs.RecordRangeLaws.{nic-given, target-given}
use Rattle.ibft_record.specs.Limits.{extras_given}
use Rattle.ibft_build.specs.Planning.{Whole, structure_start}
use Rattle.ibft_build.specs.Writing.{header_with, control_front, start_word, extra_word_given, control_with}
use Rattle.ibft_record.proofs.RecordLaws.{extras-are}
use Rattle.ibft_build.proofs.PatchLaws.{write_then, fills-three, gather-add, gather-given, gather-length, gather-next}

pub header_is : (r t u v w start oem : List ℕ) (size : ℕ) → length t ≡ 48 → Whole r → start ≡ header_start ibft_signature size → u ≡ write t 0 start
    → oem ≡ part r 0 14 → v ≡ write u 10 oem → w ≡ write v 24 (zeros 24) → w ≡ header_with r size
unfolding header_with
header_is r t u v w start oem size lt whole es eu eo ev ew =
    let fourteen = part_length r 0 14 (omega (arith, whole.base)) in
    fills-three t u w 10 (header_start ibft_signature size) (part r 0 14) (eu ∙ ap (write t 0) es) refl v 24 (zeros 24) (ev ∙ ap (write u 10) eo) ew
    (omega arith) (omega (arith, length-zeros 24))

-- ---- Control's words

start-word-size : (r : List ℕ) (k : ℕ) → length (start_word r k) ≡ 2
unfolding start_word
start-word-size r k = refl

pub start-words-size : (r : List ℕ) (k n : ℕ) → length (gather (start_word r) k n) ≡ 2 * n
start-words-size r k n = gather-length (start_word r) 2 k n (start-word-size r)

-- the loop writes one more word
pub start-words-next : (r t u w : List ℕ) (at first i v : ℕ) → u ≡ write t at (gather (start_word r) first i) → v ≡ structure_start r (first + i)
    → w ≡ write u (at + 2 * i) (le16 v) → w ≡ write t at (gather (start_word r) first (i + 1))
unfolding start_word
start-words-next r t u w at first i v e ev ew =
    gather-next (start_word r) first at t i (first + i) (at + 2 * i) u w e refl (omega (arith, start-words-size r first i))
    (ew ∙ ap (λ (n : ℕ). write u (at + 2 * i) (le16 n)) ev)

module _ (r : List ℕ) where
  pub extra-words : gather (extra_word_given r) named_count most_words
      ≡ gather (start_word r) extra_nics (min extra_most (nics_given r)) ++ gather (start_word r) extra_targets (min extra_most (targets_given r))
  unfolding extra_word_given
  extra-words =
      gather-add (extra_word_given r) extra_nics extra_most extra_most
      ∙ ap₂ (λ (l m : List ℕ). l ++ m)
      (gather-given (start_word r) (structure_given r) extra_nics extra_most (nics_given r) (nic-given r))
      (gather-given (start_word r) (structure_given r) extra_targets extra_most (targets_given r) (target-given r))

  pub extra-words-size : length (gather (extra_word_given r) named_count most_words) ≡ 2 * extras_given r
  extra-words-size =
      let nics : List ℕ = gather (start_word r) extra_nics (min extra_most (nics_given r)) in
      let targets : List ℕ = gather (start_word r) extra_targets (min extra_most (targets_given r)) in
      omega (
        arith,
        ap length extra-words,
        length-append nics targets,
        start-words-size r extra_nics (min extra_most (nics_given r)),
        start-words-size r extra_targets (min extra_most (targets_given r)),
        extras-are r,
      )

-- t is Control's stretch: what it starts with, then the words of the named slots, of the extra NICs, of the extra targets
pub control-is : (r t u v x w front : List ℕ) (nics targets flags : ℕ) → length t ≡ 18 + 2 * extras_given r → nics ≡ min extra_most (nics_given r)
    → targets ≡ min extra_most (targets_given r) → flags ≡ byte r 14 → front ≡ control_front (nics + targets) flags → u ≡ write t 0 front
    → v ≡ write u 8 (gather (start_word r) 0 named_count) → x ≡ write v 18 (gather (start_word r) extra_nics nics)
    → w ≡ write x (18 + 2 * nics) (gather (start_word r) extra_targets targets) → w ≡ control_with r
unfolding control_with
control-is r t u v x w front nics targets flags lt en et ef es eu ev ex ew =
    let all : nics + targets ≡ extras_given r = omega (arith, extras-are r) in
    let first : u ≡ write t 0 (control_front (extras_given r) (byte r 14)) =
    eu ∙ ap (write t 0) (es ∙ ap₂ (λ (n f : ℕ). control_front n f) all ef) in
    let extras : gather (start_word r) extra_nics nics ++ gather (start_word r) extra_targets targets ≡ gather (extra_word_given r) named_count most_words =
    ap₂ (λ (i j : ℕ). gather (start_word r) extra_nics i ++ gather (start_word r) extra_targets j) en et ∙ sym (extra-words r) in
    let last : w ≡ write v 18 (gather (extra_word_given r) named_count most_words) =
    write_then v x w 18 (18 + 2 * nics) (gather (start_word r) extra_nics nics) (gather (start_word r) extra_targets targets) ex ew
    (omega (arith, start-words-size r extra_nics nics)) ∙ ap (write v 18) extras in
    fills-three t u w 8 (control_front (extras_given r) (byte r 14)) (gather (start_word r) 0 named_count) first refl
    v 18 (gather (extra_word_given r) named_count most_words) ev last (omega (arith, start-words-size r 0 named_count)) (omega (arith, extra-words-size r))
