-- The pieces of a built table: how long each is, and that each stands where the plan puts it. The checksum at 9 is the one byte
-- that is set afterwards, so all that stands behind it stands in the finished table.
--     header-length, control-length, structure-length, stretch-length     how long a piece is
--     bare-length, table-length                                           so the table is as long as the plan says
--     header-lies, control-lies, structure-lies, heap-lies                where a piece stands
--     oem-id-lies, oem-table-id-lies, start-word-lies                     what stands in header and Control
--     body-lies, words-lie                                                and in a structure
--     table-sums, table-stands                                            the sum is 0, the checksum byte stands at 9
-- Assumes nothing.
use Rattle.std.specs.Prelude.{Option, None, Some}
use mathlib.Core.Path.{◌≡◌, refl, sym, ap, ◌∙◌, subst}
use mathlib.Core.List.{List, [], ◌∷◌, ◌++◌, append_assoc}
use Prim.Native.Nat.{ℕ, suc, ◌+◌, ◌*◌, ◌-◌, ◌%◌, ◌≤◌, ◌<◌}
use native.Mathlib.Omega.{arith}
use lib.ListN.{length, length-append, length-set}
use mathlib.Core.Bool.{Bool, true, false, cond}
use Rattle.octets.specs.Counting.{count, gather}
use Rattle.octets.proofs.CountLaws.{count-last, count_none}
use Rattle.octets.specs.Octets.{byte, le16, le32, zeros, sum, checksum}
use Rattle.octets.proofs.LiesLaws.{Lies, lies-front, lies-last, lies-middle, lies-behind, lies_within, gather-length, gather-lies, gather-ends}
use Rattle.octets.specs.Promises.{ChecksumByte}
use Rattle.octets.proofs.SumLaws.{checksum-sums, checksum-put}
use Rattle.octets.proofs.WriteLaws.{length-zeros}
use Rattle.string_heap.specs.Stored.{heap_size}
use Rattle.string_heap.specs.Places.{heap_to}
use Rattle.string_heap.specs.Starts.{align8}
use Rattle.string_heap.proofs.HolderLaws.{heap-length}
use Rattle.ibft_layout.specs.Layout.{kind_of, first_entry, slot_count, entry_count, named_count, most_words, built_slot, control_at, control_end, may_share}
use Rattle.ibft_table.specs.Record.{Content, body_size}
use Rattle.ibft_table_laws.proofs.LayoutLaws.{slot-fits}
use Rattle.ibft_build_rules.specs.Plan.{is_present, extras_built, end_built, turn_of, start_built, heap_start, length_built}
use Rattle.ibft_build_rules.specs.TableBytes.{header_bytes, start_bytes, control_start, extra_word, control_bytes, words_built}
use Rattle.ibft_build_rules.specs.TableBytes.{structure_bytes, stretch_as, stretch, bare_table, table_of}
use Rattle.ibft_build_rules.proofs.GoodContent.{Good}
use Rattle.ibft_build_rules.proofs.PlanLaws.{turn-fits, some-present, none-absent, end-present, end-absent, end-first, start_is, length-least}

-- ---- a structure

pub words_size : (c : Content) (n : ℕ) → length (words_built c n) ≡ 4
unfolding words_built
words_size c n = refl

module _ (c : Content) (k : ℕ) where
  -- its string words
  words : List ℕ
  words = gather (words_built c) (first_entry k) (length (kind_of k).string_fields)

  -- where the words of entry n stand in it
  words_at : ℕ → ℕ
  words_at n = (kind_of k).strings_at + 4 * (n - first_entry k)

  words-next : (n : ℕ) → first_entry k ≤ n → words_at (suc n) ≡ words_at n + length (words_built c n)
  unfolding words_at
  words-next n l = omega (arith, words_size c n)

  words-length : length words ≡ 4 * length (kind_of k).string_fields
  unfolding words words_at
  words-length =
      omega (arith, gather-length (words_built c) words_at (first_entry k) (length (kind_of k).string_fields) (λ n l h. words-next n l))

  module _ (body : List ℕ) (h : k < slot_count) (size : length body ≡ body_size (kind_of k)) where
    pub structure-length : length (structure_bytes c k body) ≡ (kind_of k).length
    unfolding structure_bytes words
    structure-length = let fits = slot-fits k h in omega (arith, length-append body words, words-length)

    pub body-lies : Lies (structure_bytes c k body) 5 body
    unfolding structure_bytes
    body-lies =
        lies-middle (start_bytes (kind_of k) (c.index k)) body (gather (words_built c) (first_entry k) (length (kind_of k).string_fields)) 5 refl

    pub words-lie : (n : ℕ) → first_entry k ≤ n → n < first_entry k + length (kind_of k).string_fields
        → Lies (structure_bytes c k body) ((kind_of k).strings_at + 4 * (n - first_entry k)) (words_built c n)
    unfolding structure_bytes words words_at
    words-lie n l m =
        let fits = slot-fits k h in
        let start : List ℕ = start_bytes (kind_of k) (c.index k) in
        rw (append_assoc start body words) at
        (gather-ends (words_built c) words_at (start ++ body) (first_entry k) (length (kind_of k).string_fields) (λ n l h. words-next n l)
        (omega arith) n l m)

-- ---- the header and Control

module _ (c : Content) where
  -- the header's bytes in front of the OEM fields
  header_start : List ℕ
  header_start = 105 ∷ 66 ∷ 70 ∷ 84 ∷ (le32 (length_built c) ++ (1 ∷ 0 ∷ []))

  pub oem-id-lies : Lies (header_bytes c) 10 c.oem_id
  unfolding header_bytes header_start
  oem-id-lies = lies-middle header_start c.oem_id (c.oem_table_id ++ zeros 24) 10 refl

  pub oem-table-id-lies : length c.oem_id ≡ 6 → Lies (header_bytes c) 16 c.oem_table_id
  unfolding header_bytes header_start
  oem-table-id-lies e =
      lies-behind header_start (c.oem_id ++ (c.oem_table_id ++ zeros 24)) c.oem_table_id 10 6 refl
      (lies-middle c.oem_id c.oem_table_id (zeros 24) 6 e)

  pub header-length : length c.oem_id ≡ 6 → length c.oem_table_id ≡ 8 → length (header_bytes c) ≡ 48
  unfolding header_bytes
  header-length e f =
      omega (arith, length-append c.oem_id (c.oem_table_id ++ zeros 24), length-append c.oem_table_id (zeros 24), length-zeros 24)

  -- where the word of an extra slot stands in Control: behind those of the extra slots in use before it
  unfoldable pub word_place : ℕ → ℕ
  word_place k = 18 + 2 * count (k - named_count) (λ (i : ℕ). is_present (c.structure (named_count + i)))

  extra-next : (k : ℕ) → named_count ≤ k → word_place (suc k) ≡ word_place k + length (extra_word c k)
  unfolding word_place extra_word
  extra-next k l = go (is_present (c.structure k)) refl
    where
      p : ℕ → Bool
      p i = is_present (c.structure (named_count + i))

      step : (b : Bool) → is_present (c.structure k) ≡ b → count (suc k - named_count) p ≡ count (k - named_count) p + cond b 1 0
      step b e =
          let same : named_count + (k - named_count) ≡ k = omega arith in
          let next : suc k - named_count ≡ suc (k - named_count) = omega arith in
          ap (λ (n : ℕ). count n p) next ∙ count-last (k - named_count) p
          ∙ ap (λ (x : Bool). count (k - named_count) p + cond x 1 0) (ap (λ (j : ℕ). is_present (c.structure j)) same ∙ e)

      go : (b : Bool) → is_present (c.structure k) ≡ b
          → 18 + 2 * count (suc k - named_count) p ≡ 18 + 2 * count (k - named_count) p + length (cond b (le16 (start_built c k)) [])
      go true e = omega (arith, step true e)
      go false e = omega (arith, step false e)

  -- Control up to its words, and the words of the named slots
  control_head : List ℕ
  control_head = control_start (extras_built c) ++ (c.flags ∷ le16 0)

  named_words : List ℕ
  named_words = gather (λ (k : ℕ). le16 (start_built c k)) 0 named_count

  extra_words_built : List ℕ
  extra_words_built = gather (extra_word c) named_count most_words

  front-words : length (control_head ++ named_words) ≡ 18
  unfolding control_head named_words gather
  front-words = refl

  control-is : control_bytes c ≡ (control_head ++ named_words) ++ extra_words_built
  unfolding control_bytes control_head named_words extra_words_built
  control-is =
      sym (append_assoc (control_start (extras_built c) ++ (c.flags ∷ le16 0))
      (gather (λ (k : ℕ). le16 (start_built c k)) 0 named_count) (gather (extra_word c) named_count most_words))

  pub control-length : length (control_bytes c) ≡ 18 + 2 * extras_built c
  unfolding extras_built word_place extra_words_built
  control-length =
      let all = gather-length (extra_word c) word_place named_count most_words (λ k l h. extra-next k l) in
      omega (
        arith,
        ap length control-is,
        length-append (control_head ++ named_words) extra_words_built,
        front-words,
        all,
        count_none (λ (i : ℕ). is_present (c.structure (named_count + i))),
      )

  -- the start of a named slot's structure, as Control has it, and of an extra's
  pub start-word-lies : (k : ℕ) → k < named_count → Lies (control_bytes c) (8 + 2 * k) (le16 (start_built c k))
  unfolding control_bytes
  start-word-lies k h =
      gather-lies (λ (k : ℕ). le16 (start_built c k)) (λ (k : ℕ). 8 + 2 * k)
      (control_start (extras_built c) ++ (c.flags ∷ le16 0)) (gather (extra_word c) named_count most_words) 0 named_count
      (λ k l h. omega arith) refl k (omega arith) (omega arith)

  pub extra-word-lies : (k : ℕ) → named_count ≤ k → k < slot_count → is_present (c.structure k) ≡ true
      → Lies (control_bytes c) (word_place k) (le16 (start_built c k))
  unfolding word_place extra_words_built extra_word
  extra-word-lies k l h on =
      let word : extra_word c k ≡ le16 (start_built c k) = rw on in
      subst (λ (x : List ℕ). Lies x (word_place k) (le16 (start_built c k))) (sym control-is)
      (subst (λ (x : List ℕ). Lies ((control_head ++ named_words) ++ gather (extra_word c) named_count most_words) (word_place k) x) word
      (gather-ends (extra_word c) word_place (control_head ++ named_words) named_count most_words (λ k l h. extra-next k l)
      (front-words ∙ sym first) k l (omega arith)))
    where
      first : word_place named_count ≡ 18
      first = omega (arith, count_none (λ (i : ℕ). is_present (c.structure (named_count + i))))

-- ---- the structures, each behind its gap

module _ (c : Content) (good : Good c) where
  pub stretch-length : (j : ℕ) → j < slot_count → end_built c (suc j) ≡ end_built c j + length (stretch c j)
  unfolding stretch stretch_as
  stretch-length j h = go (c.structure (built_slot j)) refl
    where
      gap : ℕ
      gap = align8 (end_built c j) - end_built c j

      go : (o : Option (List ℕ)) → c.structure (built_slot j) ≡ o → end_built c (suc j) ≡ end_built c j + length (stretch_as c j o)
      go None e = omega (arith, end-absent c j (none-absent (c.structure (built_slot j)) e))
      go (Some b) e =
          let slot = (turn-fits j h).slot in
          omega (
            arith,
            end-present c j (some-present (c.structure (built_slot j)) b e),
            length-append (zeros gap) (structure_bytes c (built_slot j) b),
            length-zeros gap,
            structure-length c (built_slot j) b slot (good.body (built_slot j) b slot e).body-size,
          )

  -- ---- the whole

  heap : List ℕ
  heap = heap_to entry_count may_share c.entry entry_count

  structures : List ℕ
  structures = gather (stretch c) 0 slot_count

  front_length : length (header_bytes c) ≡ 48
  front_length = header-length c good.oem-id good.oem-table-id

  structures-length : control_end (extras_built c) + length structures ≡ heap_start c
  unfolding structures heap_start
  structures-length =
      omega (arith, gather-length (stretch c) (end_built c) 0 slot_count (λ j l h. stretch-length j (omega arith)), end-first c)

  pub bare-length : length (bare_table c) ≡ length_built c
  unfolding bare_table heap structures length_built heap_size
  bare-length =
      omega (
        arith,
        length-append (header_bytes c) (control_bytes c ++ (structures ++ heap)),
        length-append (control_bytes c) (structures ++ heap),
        length-append structures heap,
        front_length,
        control-length c,
        structures-length,
        heap-length entry_count may_share c.entry entry_count,
      )

  pub table-length : length (table_of c) ≡ length_built c
  unfolding table_of
  table-length = length-set (bare_table c) 9 (checksum (bare_table c) 9) ∙ bare-length

  -- ---- where the pieces stand

  pub header-lies : Lies (bare_table c) 0 (header_bytes c)
  unfolding bare_table
  header-lies = lies-front (header_bytes c) (control_bytes c ++ (gather (stretch c) 0 slot_count ++ heap_to entry_count may_share c.entry entry_count))

  pub control-lies : Lies (bare_table c) control_at (control_bytes c)
  unfolding bare_table
  control-lies =
      lies-middle (header_bytes c) (control_bytes c) (gather (stretch c) 0 slot_count ++ heap_to entry_count may_share c.entry entry_count) control_at front_length

  stretch-lies : (j : ℕ) → j < slot_count → Lies (bare_table c) (end_built c j) (stretch c j)
  unfolding bare_table structures heap
  stretch-lies j h =
      rw (append_assoc (header_bytes c) (control_bytes c) (structures ++ heap)) at
      (gather-lies (stretch c) (end_built c) (header_bytes c ++ control_bytes c) heap 0 slot_count (λ j l h. stretch-length j (omega arith))
      (omega (arith, length-append (header_bytes c) (control_bytes c), front_length, control-length c, end-first c)) j (omega arith) (omega arith))

  pub heap-lies : Lies (bare_table c) (heap_start c) (heap_to entry_count may_share c.entry entry_count)
  unfolding bare_table structures heap
  heap-lies =
      let place : 48 + (18 + 2 * extras_built c + length structures) ≡ heap_start c = omega (arith, structures-length) in
      rw place at
      (lies-behind (header_bytes c) (control_bytes c ++ (structures ++ heap)) heap 48 (18 + 2 * extras_built c + length structures) front_length
      (lies-behind (control_bytes c) (structures ++ heap) heap (18 + 2 * extras_built c) (length structures) (control-length c)
      (lies-last structures heap (length structures) refl)))

  -- the structure of turn j stands behind its gap
  turn-lies : (j : ℕ) (b : List ℕ) → j < slot_count → c.structure (built_slot j) ≡ Some b
      → Lies (bare_table c) (align8 (end_built c j)) (structure_bytes c (built_slot j) b)
  unfolding stretch stretch_as
  turn-lies j b h e =
      let gap : ℕ = align8 (end_built c j) - end_built c j in
      let bytes : List ℕ = structure_bytes c (built_slot j) b in
      let here : stretch c j ≡ zeros gap ++ bytes = ap (stretch_as c j) e in
      let place : end_built c j + gap ≡ align8 (end_built c j) = omega arith in
      rw place at
      (lies_within (bare_table c) (zeros gap ++ bytes) bytes (end_built c j) gap
      (omega (arith, length-append (zeros gap) bytes, length-zeros gap))
      (rw here at (stretch-lies j h))
      (lies-last (zeros gap) bytes gap (length-zeros gap)))

  pub structure-lies : (k : ℕ) (b : List ℕ) → k < slot_count → c.structure k ≡ Some b → Lies (bare_table c) (start_built c k) (structure_bytes c k b)
  structure-lies k b h e =
      let f = turn-fits k h in
      let same = f.slot-of-turn in
      rw (start_is c k (some-present (c.structure k) b e))
      (rw same at (turn-lies (turn_of k) b f.turn (rw same e)))

  -- ---- the sum

  pub table-sums : sum (table_of c) % 256 ≡ 0
  unfolding table_of
  table-sums = checksum-sums (bare_table c) 9 (omega (arith, bare-length, length-least c))

  pub table-stands : ChecksumByte (table_of c) 9 (byte (table_of c) 9)
  unfolding table_of
  table-stands = checksum-put (bare_table c) 9 (omega (arith, bare-length, length-least c))
