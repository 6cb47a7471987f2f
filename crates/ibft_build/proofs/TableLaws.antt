-- Laws of the whole table: what the writers leave, put together, is the table of the record that the range gives.
--     header-built, control-built, structures-built    the pieces are those of the definitions
--     front-is                                         the header and Control, each lent its stretch
--     bare-is, bare-length                             the table before its checksum is set
--     table_is                                         the checksum last
-- Assumes nothing.
use mathlib.Core.Path.{◌≡◌, refl, sym, ap, ap₂, ◌∙◌}
use mathlib.Core.Bool.{Bool, true, false, cond}
use mathlib.Core.List.{List, [], ◌∷◌, ◌++◌, append_assoc}
use Prim.Native.Nat.{ℕ, ◌+◌, ◌*◌, ◌-◌, ◌≤◌, ◌<◌}
use native.Mathlib.Omega.{arith}
use lib.ListN.{length, get_or, take, drop, set, length-append}
use lib.Seq.{take-add, take_at, set-append_left}
use borrow.Rule.Slice.PartMut.{put_mid}
use Rattle.octets.specs.Counting.{gather}
use Rattle.octets.specs.Octets.{byte, part, le16, zeros, checksum, write}
use Rattle.octets.proofs.CountingLaws.{gather-same, get_d_tabulate}
use Rattle.octets.proofs.ReadLaws.{part_length}
use Rattle.octets.proofs.WriteLaws.{length-zeros, length-written, set-write, write-front}
use Rattle.string_heap.specs.Stored.{heap_size}
use Rattle.string_heap.specs.Places.{len, heap_to}
use Rattle.string_heap.specs.Starts.{align8}
use Rattle.string_heap.proofs.HolderLaws.{heap-length}
use Rattle.table_header.specs.Header.{header_start}
use Rattle.ibft_layout.specs.Layout.{kind_of, first_entry, slot_count, named_count, most_words, entry_count, control_end, built_slot, may_share}
use Rattle.ibft_layout.specs.Layout.{ibft_signature, least_length}
use Rattle.ibft_table.specs.Record.{Content, body_size, shown_if}
use Rattle.ibft_table_laws.proofs.LayoutLaws.{built-fits}
use Rattle.ibft_build_rules.specs.RecordRange.{image_at, structure_given, index_given, entry_given, length_given, start_given, bytes_given, content_given}
use Rattle.ibft_build_rules.specs.Plan.{extras_built, start_built, heap_start, length_built, offset_built}
use Rattle.ibft_build_rules.specs.TableBytes.{header_bytes, start_bytes, extra_word, control_bytes, words_built, structure_bytes, stretch_as}
use Rattle.ibft_build_rules.specs.TableBytes.{stretch, bare_table, table_of}
use Rattle.ibft_record.specs.Limits.{extras_given}
use Rattle.ibft_build.specs.Planning.{Whole, Readable, entries_given, wanted_sizes, structure_ends, entry_offsets}
use Rattle.ibft_build.specs.Writing.{header_with, control_front, start_word, extra_word_given, control_with, words_with, structure_with, stretch_with}
use Rattle.ibft_build.proofs.EntryLaws.{entry-some, entry-none, wanted-at, wanted-on, wanted-off}
use Rattle.ibft_build.proofs.StartLaws.{ends_at, present-given, extras-built, end-built, start-built}
use Rattle.ibft_build.proofs.PatchLaws.{write_mid, write_then}
use Rattle.ibft_build.proofs.HeaderLaws.{start-words-size, extra-words-size}
use Rattle.ibft_build.proofs.StructureLaws.{entries_below, structures-end}

-- ---- the pieces

module _ (r s : List ℕ) where
  pub header-built : header_with r (length_built (content_given r s)) ≡ header_bytes (content_given r s)
  unfolding header_with header_bytes content_given part
  header-built =
      ap (λ (l : List ℕ). header_start ibft_signature (length_built (content_given r s)) ++ (l ++ zeros 24)) (take-add 6 8 r)
      ∙ ap (λ (l : List ℕ). header_start ibft_signature (length_built (content_given r s)) ++ l) (append_assoc (take 6 r) (take 8 (drop 6 r)) (zeros 24))

  pub control-built : control_with r ≡ control_bytes (content_given r s)
  unfolding control_with control_bytes content_given start_word extra_word_given extra_word
  control-built =
      ap (λ (n : ℕ). control_front n (byte r 14)
      ++ (gather (start_word r) 0 named_count ++ gather (extra_word_given r) named_count most_words)) (sym (extras-built r s))
      ∙ ap₂ (λ (l m : List ℕ). control_front (extras_built (content_given r s)) (byte r 14) ++ (l ++ m))
      (gather-same (start_word r) (λ (k : ℕ). le16 (start_built (content_given r s) k)) 0 named_count (λ k l h. ap (λ (n : ℕ). le16 n) (sym (start-built r s k))))
      (gather-same (extra_word_given r) (extra_word (content_given r s)) named_count most_words
      (λ k l h. ap₂ (λ (b : Bool) (n : ℕ). cond b (le16 n) []) (sym (present-given r s k)) (sym (start-built r s k))))

  module _ (sound : Readable r s) (wanted offsets : List ℕ) (want : wanted ≡ wanted_sizes r) (stand : offsets ≡ entry_offsets r s) where
    length-built : (n : ℕ) → n < entry_count → get_or wanted n 0 - 1 ≡ len (entries_given r s n)
    unfolding len bytes_given
    length-built n h = go (entry_given r n) refl
      where
        go : (b : Bool) → entry_given r n ≡ b → get_or wanted n 0 - 1 ≡ len (entries_given r s n)
        go true on =
            omega (arith, wanted-at r wanted want n h, wanted-on r n on (length_given r n) refl)
            ∙ sym (ap len (entry-some r s n on) ∙ part_length s (start_given r n) (length_given r n) (sound.lies n h on))
        go false off = omega (arith, wanted-at r wanted want n h, wanted-off r n off) ∙ sym (ap len (entry-none r s n off))

    words-built : (n : ℕ) → n < entry_count → words_with wanted offsets n ≡ words_built (content_given r s) n
    unfolding words_with words_built entry_offsets
    words-built n h =
        ap₂ (λ (l o : ℕ). le16 l ++ le16 o) (length-built n h)
        (ap (λ (l : List ℕ). get_or l n 0) stand ∙ get_d_tabulate (offset_built (content_given r s)) entry_count n 0 h)

    structure-built : (k : ℕ) → k < slot_count
        → structure_with r wanted offsets k ≡ structure_bytes (content_given r s) k (part r (image_at r k + 5) (body_size (kind_of k)))
    unfolding structure_with structure_bytes content_given
    structure-built k h =
        let below = entries_below k h in
        ap (λ (l : List ℕ). start_bytes (kind_of k) (index_given r k) ++ (part r (image_at r k + 5) (body_size (kind_of k)) ++ l))
        (gather-same (words_with wanted offsets) (words_built (content_given r s)) (first_entry k)
        (length (kind_of k).string_fields) (λ n l m. words-built n (omega arith)))

    module _ (ends : List ℕ) (are : ends ≡ structure_ends r) where
      stretch-built : (j : ℕ) → j < slot_count → stretch_with r ends wanted offsets j ≡ stretch (content_given r s) j
      unfolding stretch_with stretch stretch_as content_given
      stretch-built j h = go (structure_given r (built_slot j))
        where
          go : (b : Bool) → cond b (zeros (align8 (get_or ends j 0) - get_or ends j 0) ++ structure_with r wanted offsets (built_slot j)) []
              ≡ stretch_as (content_given r s) j (shown_if b (part r (image_at r (built_slot j) + 5) (body_size (kind_of (built_slot j)))))
          go true =
              ap₂ (λ (e : ℕ) (l : List ℕ). zeros (align8 e - e) ++ l) (ends_at r ends are j (omega arith) ∙ sym (end-built r s j))
              (structure-built (built_slot j) (built-fits j h).slot)
          go false = refl

      pub structures-built : gather (stretch_with r ends wanted offsets) 0 slot_count ≡ gather (stretch (content_given r s)) 0 slot_count
      structures-built =
          gather-same (stretch_with r ends wanted offsets) (stretch (content_given r s)) 0 slot_count (λ j l h. stretch-built j (omega arith))

-- ---- the header and Control

header-length : (r : List ℕ) (size : ℕ) → Whole r → length (header_with r size) ≡ 48
unfolding header_with
header-length r size whole =
    omega (arith, length-append (part r 0 14) (zeros 24), part_length r 0 14 (omega (arith, whole.base)), length-zeros 24)

control-length : (r : List ℕ) → length (control_with r) ≡ 18 + 2 * extras_given r
unfolding control_with
control-length r =
    omega (
      arith,
      length-append (gather (start_word r) 0 named_count) (gather (extra_word_given r) named_count most_words),
      start-words-size r 0 named_count,
      extra-words-size r,
    )

-- t is the room, xs and ys the two stretches that were lent
pub front-is : (r t xs ys : List ℕ) (size end : ℕ) → Whole r → control_end (extras_given r) ≤ length t → end ≡ control_end (extras_given r)
    → xs ≡ header_with r size → ys ≡ control_with r → put_mid 48 (end - 48) (put_mid 0 48 t xs) ys ≡ write t 0 (header_with r size ++ control_with r)
front-is r t xs ys size end whole fits ee ex ey =
    let header = write_mid t 0 48 xs (header_with r size) ex (omega (arith, header-length r size whole)) (omega arith) in
    let same = length-written t (put_mid 0 48 t xs) 0 (header_with r size) header in
    let control = write_mid (put_mid 0 48 t xs) 48 end ys (control_with r) ey (omega (arith, control-length r)) (omega arith) in
    write_then t (put_mid 0 48 t xs) (put_mid 48 (end - 48) (put_mid 0 48 t xs) ys) 0 48 (header_with r size) (control_with r) header control
    (omega (arith, header-length r size whole))

-- ---- the whole

module _ (r s : List ℕ) (sound : Readable r s) (ends wanted offsets : List ℕ) (are : ends ≡ structure_ends r)
    (want : wanted ≡ wanted_sizes r) (stand : offsets ≡ entry_offsets r s) where
  front : List ℕ
  front = header_with r (length_built (content_given r s)) ++ control_with r

  structures : List ℕ
  structures = gather (stretch_with r ends wanted offsets) 0 slot_count

  heap : List ℕ
  heap = heap_to entry_count may_share (entries_given r s) entry_count

  front_length : length front ≡ control_end (extras_given r)
  unfolding front
  front_length =
      omega (
        arith,
        length-append (header_with r (length_built (content_given r s))) (control_with r),
        header-length r (length_built (content_given r s)) sound.whole,
        control-length r,
      )

  heap-at : heap_start (content_given r s) ≡ control_end (extras_given r) + length structures
  unfolding heap_start structures
  heap-at = end-built r s slot_count ∙ structures-end r ends wanted offsets are sound.whole slot_count (omega arith)

  heap-size : heap_start (content_given r s) + length heap ≡ length_built (content_given r s)
  unfolding length_built heap heap_size
  heap-size = ap (λ (n : ℕ). heap_start (content_given r s) + n) (heap-length entry_count may_share (entries_given r s) entry_count)

  parts : front ++ (structures ++ heap) ≡ bare_table (content_given r s)
  unfolding front structures heap bare_table
  parts =
      append_assoc (header_with r (length_built (content_given r s))) (control_with r) (structures ++ heap)
      ∙ ap₂ (λ (h c : List ℕ). h ++ (c ++ (structures ++ heap))) (header-built r s) (control-built r s)
      ∙ ap (λ (l : List ℕ). header_bytes (content_given r s) ++ (control_bytes (content_given r s) ++ (l ++ heap)))
      (structures-built r s sound wanted offsets want stand ends are)

  pub bare-length : length (bare_table (content_given r s)) ≡ length_built (content_given r s)
  bare-length =
      sym (ap length parts)
      ∙ omega (arith, length-append front (structures ++ heap), length-append structures heap, front_length, heap-at, heap-size)

  -- t is the room, u the room with the front, v with the structures, ys the heap's stretch that was lent
  pub bare-is : (t u v ys : List ℕ) (start end size : ℕ) → length_built (content_given r s) ≤ length t → size ≡ length_built (content_given r s)
      → u ≡ write t 0 (header_with r size ++ control_with r) → v ≡ write u (control_end (extras_given r)) (gather (stretch_with r ends wanted offsets) 0 slot_count)
      → start ≡ heap_start (content_given r s) → end ≡ size → ys ≡ heap_to entry_count may_share (entries_given r s) entry_count
      → put_mid start (end - start) v ys ≡ write t 0 (bare_table (content_given r s))
  unfolding front structures heap
  bare-is t u v ys start end size fits es eu ev estart eend ey =
      let first : u ≡ write t 0 front = eu ∙ ap (λ (n : ℕ). write t 0 (header_with r n ++ control_with r)) es in
      let second : v ≡ write t 0 (front ++ structures) = write_then t u v 0
      (control_end (extras_given r)) front structures first ev (omega (arith, front_length)) in
      let same = length-written t v 0 (front ++ structures) second in
      let lent : put_mid start (end - start) v ys ≡ write v start heap = write_mid v start end ys heap ey (omega (arith, heap-size)) (omega arith) in
      write_then t v (put_mid start (end - start) v ys) 0 start (front ++ structures) heap second lent
      (omega (arith, length-append front structures, front_length, heap-at))
      ∙ ap (write t 0) (append_assoc front structures heap ∙ parts)

-- ---- the checksum last

pub table_is : (c : Content) (t u w : List ℕ) (size : ℕ) → length (bare_table c) ≡ length_built c
    → least_length ≤ length_built c → length_built c ≤ length t → size ≡ length_built c
    → u ≡ write t 0 (bare_table c) → w ≡ write u 9 (checksum (take size u) 9 ∷ []) → w ≡ table_of c ++ drop (length_built c) t
unfolding table_of
table_is c t u w size long least fits es eu ew =
    let T : List ℕ = bare_table c in
    let whole : u ≡ T ++ drop (length_built c) t = eu ∙ write-front t T (omega arith) ∙ ap (λ (n : ℕ). T ++ drop n t) long in
    let table : take size u ≡ T = ap (take size) whole ∙ take_at T (drop (length_built c) t) size (omega arith) in
    ew ∙ sym (set-write u 9 (checksum (take size u) 9))
    ∙ ap₂ (λ (l m : List ℕ). set l 9 (checksum m 9)) whole table
    ∙ set-append_left T (drop (length_built c) t) 9 (checksum T 9) (omega arith)
