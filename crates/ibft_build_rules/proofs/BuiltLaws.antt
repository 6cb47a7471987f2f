-- What the reads of a built table give: each number that the plan wrote, each byte of the record, each string at its offset.
-- All of it holds of every list that begins with the table, whatever bytes are lent behind it.
--     begins-append, begins-cut                                lists that begin with the table
--     signature-back, length_back, sums-back, ..               the header, as it is read
--     control-id-back, .., extensions-back                     Control
--     start_back, present-back, end_back                       which structures there are, and where
--     id-back, .., flags-back, chap-back, body_back            a structure's start, flags and fields
--     size_back, offset-back, holds-back                       an entry's words
--     heap-back, entry-stands, entry-back                      the heap's start, and the strings in it
-- Assumes nothing.
use Rattle.std.specs.Prelude.{None, Some}
use mathlib.Core.Path.{◌≡◌, refl, sym, ap, ap₂, ◌∙◌, subst}
use mathlib.Core.Bool.{Bool, true, false, ◌&&◌, ◌||◌, or-true}
use mathlib.Core.List.{List, [], ◌∷◌, ◌++◌}
use Prim.Native.Nat.{ℕ, zero, suc, ◌+◌, ◌*◌, ◌-◌, ◌%◌, ◌≤◌, ◌<◌}
use native.Mathlib.Nat.{add-zero, zero-add, add_assoc}
use native.Mathlib.Omega.{arith}
use native.Mathlib.Decide.{dec_lt}
use borrow.Author.Tests.{lt-ltb, ltb-true}
use lib.ListN.{length, take, get_or, length-take}
use lib.Seq.{get_or-take, get_or-set_other, take_at, take-take}
use Rattle.octets.specs.Counting.{gather}
use Rattle.octets.specs.Octets.{byte, word16, word32, le16, part, sum, checksum, differs}
use Rattle.octets.proofs.TestLaws.{same_differs, unlike-differs}
use Rattle.octets.proofs.CountingLaws.{clash}
use Rattle.octets.proofs.LiesLaws.{Lies, lies-front, lies_within, lies-middle, lies-part}
use Rattle.octets.proofs.WordLaws.{word16-back, le32-back}
use Rattle.string_heap.specs.Stored.{Entry, heap_size}
use Rattle.string_heap.specs.Places.{len, heap_to, place}
use Rattle.string_heap.proofs.TailsLaws.{Stands, stands-lies, stands-part}
use Rattle.string_heap.proofs.HolderLaws.{heap-length, placed}
use Rattle.ibft_layout.specs.Layout.{Kind, control, kind_of, first_entry, slot_count, entry_count, named_count, extra_nics, extra_targets}
use Rattle.ibft_layout.specs.Layout.{control_end, slot_at, built_slot, control_at, extensions_at, word_at, chap_at, owner_of, may_share}
use Rattle.ibft_layout.specs.Layout.{ibft_signature}
use Rattle.table_header.specs.Header.{length_of}
use Rattle.ibft_table.specs.Table.{control_length, control_end_of, extra_words, word_count, start_at, used_at, kind_at, end_at, starts_of, start_in}
use Rattle.ibft_table.specs.Table.{start_of, present_in, present, end_in, end_of, heap_of, field_in, field_of, size_in, size_of, offset_in, offset_of}
use Rattle.ibft_table.specs.Table.{holds_in, holds_entry}
use Rattle.ibft_table.proofs.SeatLaws.{named-at}
use Rattle.ibft_table_laws.proofs.SeatLaws.{slot-kind}
use Rattle.ibft_table_laws.proofs.SeatBackLaws.{Laid, slot-back, extra-back, start_back as laid-start, start_none as laid_none}
use Rattle.ibft_build_rules.proofs.WordsBackLaws.{extras-are, seat-nic, seat-target, seat-high, seat-present, length-word, word_back, laid-back}
use Rattle.ibft_table.specs.Record.{Content, body_size}
use Rattle.ibft_table.proofs.CheckLaws.{heap-after-control}
use Rattle.ibft_table_laws.proofs.LayoutLaws.{slot-fits, entry-fits}
use Rattle.ibft_table_laws.proofs.HeapLaws.{heap-end, heap-below}
use Rattle.ibft_build_rules.specs.Plan.{is_present, extras_built, end_built, start_built, heap_start, length_built, offset_built}
use Rattle.ibft_build_rules.specs.TableBytes.{header_bytes, control_bytes, words_built, structure_bytes, bare_table, table_of}
use Rattle.ibft_build_rules.proofs.GoodContent.{Good}
use Rattle.ibft_build_rules.proofs.PlanLaws.{turn-fits, length-least, some-present, none-absent, present-some, end-absent, end-first}
use Rattle.ibft_build_rules.proofs.PlanLaws.{start_none, start-least, start-end, start-inside, start-below, heap-start-least}
use Rattle.ibft_build_rules.proofs.PlanLaws.{heap-start-length, length-below, offset-none, offset-is, offset-low, offset-below}
use Rattle.ibft_build_rules.proofs.PlanLaws.{size_below}
use Rattle.ibft_build_rules.proofs.BytesLaws.{words_size, structure-length, body-lies, words-lie, oem-id-lies, oem-table-id-lies}
use Rattle.ibft_build_rules.proofs.BytesLaws.{header-length, control-length, start-word-lies, table-length, header-lies}
use Rattle.ibft_build_rules.proofs.BytesLaws.{control-lies, structure-lies, heap-lies, table-sums}

-- t begins with the table of c
abbrev pub Begins : Content → List ℕ → Type 0
Begins c t = take (length_built c) t ≡ table_of c

module _ (c : Content) (good : Good c) where
  pub begins-append : (rest : List ℕ) → Begins c (table_of c ++ rest)
  begins-append rest = take_at (table_of c) rest (length_built c) (table-length c good)

  pub begins-cut : (t : List ℕ) (m : ℕ) → length_built c ≤ m → Begins c t → Begins c (take m t)
  begins-cut t m h front = take-take (length_built c) m t h ∙ front

module _ (c : Content) (good : Good c) (t : List ℕ) (front : Begins c t) where
  -- ---- the bytes

  pub begins-long : length_built c ≤ length t
  begins-long = omega (arith, length-take (length_built c) t, ap length front, table-length c good)

  -- every byte but the checksum is as it was before the checksum was set
  byte-back : (i : ℕ) → i < length_built c → (i ≡ 9 → ⊥) → byte t i ≡ byte (bare_table c) i
  unfolding table_of
  byte-back i h ne =
      sym (get_or-take (length_built c) t i 0 h)
      ∙ ap (λ (l : List ℕ). get_or l i 0) front
      ∙ get_or-set_other (bare_table c) 9 i (checksum (bare_table c) 9) 0 ne

  -- so what stands behind the checksum stands in t
  lies-back : (p : ℕ) (x : List ℕ) → 10 ≤ p → p + length x ≤ length_built c → Lies (bare_table c) p x → Lies t p x
  lies-back p x low high l i h = byte-back (p + i) (omega arith) (λ z. omega arith) ∙ l i h

  pub sums-back : sum (take (length_built c) t) % 256 ≡ 0
  sums-back = ap (λ (l : List ℕ). sum l % 256) front ∙ table-sums c good

  -- ---- the header

  -- the header stands at 0, its checksum apart
  pub header-byte : (i : ℕ) → i < 48 → (i ≡ 9 → ⊥) → byte t i ≡ byte (header_bytes c) i
  header-byte i h ne =
      let size = header-length c good.oem-id good.oem-table-id in
      byte-back i (omega (arith, length-least c)) ne ∙ ap (byte (bare_table c)) (sym (zero-add i)) ∙ header-lies c good i (omega arith)

  pub signature-back : word32 t 0 ≡ ibft_signature
  unfolding header_bytes
  signature-back =
      omega (
        arith,
        header-byte 0 (omega arith) (λ z. omega arith),
        header-byte 1 (omega arith) (λ z. omega arith),
        header-byte 2 (omega arith) (λ z. omega arith),
        header-byte 3 (omega arith) (λ z. omega arith),
      )

  pub length_back : length_of t ≡ length_built c
  unfolding header_bytes
  length_back =
      let a = header-byte 4 (omega arith) (λ z. omega arith) in
      let b = header-byte 5 (omega arith) (λ z. omega arith) in
      let d = header-byte 6 (omega arith) (λ z. omega arith) in
      let e = header-byte 7 (omega arith) (λ z. omega arith) in
      rw (a, b, d, e) (le32-back (length_built c) (length-below c good))

  pub revision-back : byte t 8 ≡ 1
  unfolding header_bytes
  revision-back = header-byte 8 (omega arith) (λ z. omega arith)

  pub oem-id-back : part t 10 6 ≡ c.oem_id
  oem-id-back =
      let size = header-length c good.oem-id good.oem-table-id in
      let is = good.oem-id in
      lies-part t c.oem_id 10 6 is (omega (arith, begins-long, length-least c))
      (lies-back 10 c.oem_id (omega arith) (omega (arith, length-least c))
      (lies_within (bare_table c) (header_bytes c) c.oem_id 0 10 (omega arith) (header-lies c good) (oem-id-lies c)))

  pub oem-table-id-back : part t 16 8 ≡ c.oem_table_id
  oem-table-id-back =
      let size = header-length c good.oem-id good.oem-table-id in
      let is = good.oem-table-id in
      lies-part t c.oem_table_id 16 8 is (omega (arith, begins-long, length-least c))
      (lies-back 16 c.oem_table_id (omega arith) (omega (arith, length-least c))
      (lies_within (bare_table c) (header_bytes c) c.oem_table_id 0 16 (omega arith) (header-lies c good) (oem-table-id-lies c good.oem-id)))

  -- ---- Control

  control-back : Lies t control_at (control_bytes c)
  control-back = lies-back control_at (control_bytes c) (omega arith) (omega (arith, length-least c, control-length c)) (control-lies c good)

  control-byte : (i : ℕ) → i < 18 → byte t (control_at + i) ≡ byte (control_bytes c) i
  control-byte i h = control-back i (omega (arith, control-length c))

  pub control-id-back : byte t control_at ≡ control.id
  unfolding control_bytes
  control-id-back = control-byte 0 (omega arith)

  pub control-version-back : byte t (control_at + 1) ≡ control.version
  unfolding control_bytes
  control-version-back = control-byte 1 (omega arith)

  pub control-index-back : byte t (control_at + 4) ≡ 0
  unfolding control_bytes
  control-index-back = control-byte 4 (omega arith)

  pub control-flags-back : byte t (control_at + 5) ≡ c.flags
  unfolding control_bytes
  control-flags-back = control-byte 5 (omega arith)

  pub extensions-back : word16 t extensions_at ≡ 0
  unfolding control_bytes
  extensions-back = omega (arith, control-byte 6 (omega arith), control-byte 7 (omega arith))

  -- ---- where each structure's bytes stand

  built-back : (k : ℕ) (b : List ℕ) → k < slot_count → c.structure k ≡ Some b → Lies t (start_built c k) (structure_bytes c k b)
  built-back k b h is =
      let on = some-present (c.structure k) b is in
      let size = (good.body k b h is).body-size in
      lies-back (start_built c k) (structure_bytes c k b) (omega (arith, start-least c k on))
      (omega (arith, structure-length c k b h size, start-inside c k on h, heap-start-length c)) (structure-lies c good k b h is)

  built-byte : (i k : ℕ) → i < 6 → k < slot_count → is_present (c.structure k) ≡ true
      → (b : List ℕ) × (c.structure k ≡ Some b) × (byte t (start_built c k + i) ≡ byte (structure_bytes c k b) i)
  built-byte i k l h on =
      let w = present-some (c.structure k) on in
      let fits = slot-fits k h in
      (w.0, w.1, built-back k w.0 h w.1 i (omega (arith, structure-length c k w.0 h (good.body k w.0 h w.1).body-size)))

  built-id : (k : ℕ) → k < slot_count → is_present (c.structure k) ≡ true → byte t (start_built c k) ≡ (kind_of k).id
  unfolding structure_bytes
  built-id k h on = ap (byte t) (sym (add-zero (start_built c k))) ∙ (built-byte 0 k (omega arith) h on).2

  built-index : (k : ℕ) → k < slot_count → is_present (c.structure k) ≡ true → byte t (start_built c k + 4) ≡ c.index k
  unfolding structure_bytes
  built-index k h on = (built-byte 4 k (omega arith) h on).2

  -- ---- which structures there are, and where

  pub laid : Laid t good.nics good.targets
  laid = laid-back c good.nics good.targets good.extras t control-back built-id built-index

  pub control-length-back : control_length t ≡ 18 + 2 * (good.nics + good.targets)
  control-length-back = length-word c good.nics good.targets good.extras t control-back built-id built-index

  -- a named slot's word
  pub named_back : (k : ℕ) → k < named_count → start_at t k ≡ start_built c k
  unfolding start_at
  named_back k h =
      let place : control_at + (8 + 2 * k) ≡ word_at k = omega arith in
      word16-back t (word_at k) (start_built c k) (start-below c k (omega arith))
      (rw place at
      (lies_within t (control_bytes c) (le16 (start_built c k)) control_at (8 + 2 * k) (omega (arith, control-length c)) control-back (start-word-lies c k h)))

  -- the word of an extra slot in use
  extra-word : (k : ℕ) → named_count ≤ k → k < slot_count → is_present (c.structure k) ≡ true
      → (w : ℕ) × (named_count ≤ w) × (w < named_count + (good.nics + good.targets)) × (slot_at good.nics w ≡ k)
  extra-word k l h on =
      let nics = good.extras.nics in
      elim (dec_lt k extra_targets) [
        | yes m ↦
            let i : ℕ = k - extra_nics in
            let below = ltb-true i good.nics (sym (good.extras.nics-are i (omega arith))
            ∙ ap (λ (j : ℕ). is_present (c.structure j)) (omega arith) ∙ on) in
            (k, l, omega arith, seat-nic c good.nics good.targets good.extras k (omega arith))
        | no m ↦
            let i : ℕ = k - extra_targets in
            let below = ltb-true i good.targets (sym (good.extras.targets-are i (omega arith))
            ∙ ap (λ (j : ℕ). is_present (c.structure j)) (omega arith) ∙ on) in (
              named_count + good.nics + i,
              omega arith,
              omega arith,
              seat-target c good.nics good.targets good.extras (named_count + good.nics + i) (omega arith) ∙ omega arith,
            )
      ]

  extra-start : (k : ℕ) → named_count ≤ k → k < slot_count → start_of t k ≡ start_built c k
  extra-start k l h = go (is_present (c.structure k)) refl
    where
      go : (b : Bool) → is_present (c.structure k) ≡ b → start_of t k ≡ start_built c k
      go true on =
          let w = extra-word k l h on in
          ap (λ (j : ℕ). start_of t j) (sym w.3) ∙ laid-start t good.nics good.targets laid w.0 w.1 w.2
          ∙ word_back c good.nics good.targets good.extras t control-back built-id built-index w.0 w.1 w.2
          ∙ ap (λ (j : ℕ). start_built c j) w.3
      go false off =
          laid_none t good.nics good.targets laid k l
          (λ w x y z. clash (sym (ap (λ (j : ℕ). is_present (c.structure j)) z) ∙ seat-present c good.nics good.targets good.extras w x y) off)
          ∙ sym (start_none c k off)

  module _ (k : ℕ) (h : k < slot_count) where
    pub start_back : start_of t k ≡ start_built c k
    unfolding start_in starts_of
    start_back =
        elim (dec_lt k named_count) [
          | yes l ↦ named-at t (extra_words t) k l ∙ named_back k l
          | no l ↦ extra-start k (omega arith) h
        ]

    pub present-back : present t k ≡ is_present (c.structure k)
    unfolding present_in
    present-back = go (is_present (c.structure k)) refl
      where
        go : (b : Bool) → is_present (c.structure k) ≡ b → differs (start_of t k) 0 ≡ is_present (c.structure k)
        go true on = unlike-differs (start_of t k) 0 (λ z. omega (arith, start_back, start-least c k on)) ∙ sym on
        go false off = same_differs (start_of t k) 0 (start_back ∙ start_none c k off) ∙ sym off

    pub end_back : end_of t k ≡ start_built c k + (kind_of k).length
    unfolding end_in
    end_back = ap (λ (s : ℕ). s + (kind_of k).length) start_back

  -- ---- a structure

  module _ (k : ℕ) (h : k < slot_count) (b : List ℕ) (is : c.structure k ≡ Some b) where
    on : is_present (c.structure k) ≡ true
    on = some-present (c.structure k) b is

    size : length b ≡ body_size (kind_of k)
    size = (good.body k b h is).body-size

    pub structure-inside : start_of t k + (kind_of k).length ≤ length_built c
    structure-inside = omega (arith, start_back k h, start-inside c k on h, heap-start-length c)

    pub structure-back : Lies t (start_of t k) (structure_bytes c k b)
    structure-back =
        rw (start_back k h) (built-back k b h is)

    structure-byte : (i : ℕ) → i < (kind_of k).length → byte t (start_of t k + i) ≡ byte (structure_bytes c k b) i
    structure-byte i l = structure-back i (omega (arith, structure-length c k b h size))

    long : 6 ≤ (kind_of k).length
    long = let fits = slot-fits k h in omega arith

    pub id-back : byte t (start_of t k) ≡ (kind_of k).id
    unfolding structure_bytes
    id-back = ap (byte t) (sym (add-zero (start_of t k))) ∙ structure-byte 0 (omega (arith, long))

    pub version-back : byte t (start_of t k + 1) ≡ (kind_of k).version
    unfolding structure_bytes
    version-back = structure-byte 1 (omega (arith, long))

    pub structure-length-back : word16 t (start_of t k + 2) ≡ (kind_of k).length
    unfolding structure_bytes
    structure-length-back =
        let fits = slot-fits k h in
        word16-back t (start_of t k + 2) (kind_of k).length (omega arith)
        (lies_within t (structure_bytes c k b) (le16 (kind_of k).length) (start_of t k) 2 (omega (arith, long, structure-length c k b h size)) structure-back
        (lies-middle ((kind_of k).id ∷ (kind_of k).version ∷ []) (le16 (kind_of k).length)
        (c.index k ∷ (b ++ gather (words_built c) (first_entry k) (length (kind_of k).string_fields))) 2 refl))

    pub index_back : byte t (start_of t k + 4) ≡ c.index k
    unfolding structure_bytes
    index_back = structure-byte 4 (omega (arith, long))

    -- a byte of the flags and fields
    pub field_back : (i : ℕ) → i < body_size (kind_of k) → byte t (start_of t k + 5 + i) ≡ byte b i
    field_back i l =
        let fits = slot-fits k h in
        lies_within t (structure_bytes c k b) b (start_of t k) 5 (omega (arith, size, structure-length c k b h size)) structure-back
        (body-lies c k b h size) i (omega (arith, size))

    pub flags-back : byte t (start_of t k + 5) ≡ byte b 0
    flags-back = let fits = slot-fits k h in ap (byte t) (sym (add-zero (start_of t k + 5))) ∙ field_back 0 (omega arith)

    pub chap-back : (kind_of k).chap ≡ true → byte t (start_of t k + chap_at) ≡ byte b (chap_at - 5)
    chap-back has =
        let behind = (slot-fits k h).chap has in
        ap (byte t) (sym (add_assoc (start_of t k) 5 (chap_at - 5))) ∙ field_back (chap_at - 5) (omega arith)

    pub body_back : part t (start_of t k + 5) (body_size (kind_of k)) ≡ b
    body_back =
        let fits = slot-fits k h in
        lies-part t b (start_of t k + 5) (body_size (kind_of k)) size (omega (arith, structure-inside, begins-long))
        (λ i l. field_back i (omega (arith, size)))

  -- ---- an entry's words, where its structure is present

  module _ (n : ℕ) (h : n < entry_count) (owned : is_present (c.structure (owner_of n)) ≡ true) where
    words_back : Lies t (field_of t n) (words_built c n)
    unfolding field_in
    words_back =
        let k : ℕ = owner_of n in
        let e = entry-fits n h in
        let hk : k < slot_count = e.owner in
        let w = present-some (c.structure k) owned in
        let size : length w.0 ≡ body_size (kind_of k) = (good.body k w.0 hk w.1).body-size in
        let fits = slot-fits k hk in
        let place = e.place in
        rw place
        (lies_within t (structure_bytes c k w.0) (words_built c n) (start_of t k) ((kind_of k).strings_at + 4 * (n - first_entry k))
        (omega (arith, words_size c n, structure-length c k w.0 hk size)) (structure-back k hk w.0 w.1)
        (words-lie c k w.0 hk size n e.from e.below))

    pub size_back : size_of t n ≡ len (c.entry n)
    unfolding size_in words_built
    size_back =
        word16-back t (field_of t n) (len (c.entry n)) (size_below c good n h)
        (rw (add-zero (field_of t n)) at
        (lies_within t (words_built c n) (le16 (len (c.entry n))) (field_of t n) 0 (omega arith) words_back
        (lies-front (le16 (len (c.entry n))) (le16 (offset_built c n)))))

    pub offset-back : offset_of t n ≡ offset_built c n
    unfolding offset_in words_built
    offset-back =
        word16-back t (field_of t n + 2) (offset_built c n) (offset-below c good n h)
        (lies_within t (words_built c n) (le16 (offset_built c n)) (field_of t n) 2 (omega arith) words_back
        (lies-middle (le16 (len (c.entry n))) (le16 (offset_built c n)) [] 2 refl))

  -- an entry is read as present where it is
  pub holds-back : (n : ℕ) → n < entry_count → holds_entry t n ≡ is_present (c.entry n)
  unfolding holds_in len
  holds-back n h = go (is_present (c.structure (owner_of n))) refl (c.entry n) refl
    where
      owner-back : present t (owner_of n) ≡ is_present (c.structure (owner_of n))
      owner-back = present-back (owner_of n) (entry-fits n h).owner

      go : (b : Bool) → is_present (c.structure (owner_of n)) ≡ b → (o : Entry) → c.entry n ≡ o
          → (present t (owner_of n) && (differs (size_of t n) 0 || differs (offset_of t n) 0)) ≡ is_present (c.entry n)
      go false off None e = ap (λ (p : Bool). p && (differs (size_of t n) 0 || differs (offset_of t n) 0)) (owner-back ∙ off) ∙ sym (none-absent (c.entry n) e)
      go false off (Some a) e = clash (good.owned n a h e) off
      go true own None e =
          ap (λ (p : Bool). p && (differs (size_of t n) 0 || differs (offset_of t n) 0)) (owner-back ∙ own)
          ∙ ap₂ (λ (p q : Bool). p || q)
          (same_differs (size_of t n) 0 (size_back n h own ∙ ap len e))
          (same_differs (offset_of t n) 0 (offset-back n h own ∙ offset-none c n e))
          ∙ sym (none-absent (c.entry n) e)
      go true own (Some a) e =
          ap (λ (p : Bool). p && (differs (size_of t n) 0 || differs (offset_of t n) 0)) (owner-back ∙ own)
          ∙ ap (λ (p : Bool). differs (size_of t n) 0 || p)
          (unlike-differs (offset_of t n) 0 (λ z. omega (arith, offset-back n h own, offset-low c n a e, heap-start-least c)))
          ∙ or-true (differs (size_of t n) 0)
          ∙ sym (some-present (c.entry n) a e)

  -- ---- the heap

  pub words_are : word_count t ≡ named_count + (good.nics + good.targets)
  unfolding word_count
  words_are = ap (λ (n : ℕ). named_count + n) laid.words

  pub control-end : control_end_of t ≡ control_end (extras_built c)
  control-end = omega (arith, control-length-back, extras-are c good.nics good.targets good.extras)

  -- word w is that of slot k
  pub record WordIs (w k : ℕ) : Type 0 where
    pub below : w < word_count t
    pub slot : k < slot_count
    pub start : start_at t w ≡ start_built c k
    pub kind : kind_at t w ≡ kind_of k

  pub named-is : (k : ℕ) → k < named_count → WordIs k k
  unfolding kind_at
  named-is k l = record { below = omega (arith, words_are); slot = omega arith; start = named_back k l; kind = rw (lt-ltb k named_count l) }

  pub extra-is : (w : ℕ) → named_count ≤ w → w < named_count + (good.nics + good.targets) → WordIs w (slot_at good.nics w)
  extra-is w l h =
      let below : w < word_count t = omega (arith, words_are) in
      let facts = extra-back t good.nics good.targets laid in
      record {
        below = below;
        slot = (seat-high c good.nics good.targets good.extras w l h).1;
        start = word_back c good.nics good.targets good.extras t control-back built-id built-index w l h;
        kind = sym (slot-kind t facts w (record { low = l; high = below; used = laid.used w l h }))
            ∙ ap kind_of (slot-back t good.nics good.targets laid w l h);
      }

  pub word-ends : (w k : ℕ) → WordIs w k → end_at t w ≡ start_built c k + (kind_of k).length
  unfolding end_at
  word-ends w k x = ap₂ (λ (q : ℕ) (y : Kind). q + y.length) x.start x.kind

  word-used : (w k : ℕ) → WordIs w k → is_present (c.structure k) ≡ true → used_at t w ≡ true
  unfolding used_at
  word-used w k x on = unlike-differs (start_at t w) 0 (λ z. omega (arith, x.start, start-least c k on))

  pub used-present : (w k : ℕ) → WordIs w k → used_at t w ≡ true → is_present (c.structure k) ≡ true
  unfolding used_at
  used-present w k x on = go (is_present (c.structure k)) refl
    where
      go : (b : Bool) → is_present (c.structure k) ≡ b → is_present (c.structure k) ≡ true
      go true e = e
      go false e = clash on (same_differs (start_at t w) 0 (x.start ∙ start_none c k e))

  -- a structure ends at or before the heap
  end_by : (w k : ℕ) → WordIs w k → is_present (c.structure k) ≡ true → start_built c k + (kind_of k).length ≤ heap_of t
  end_by w k x on = omega (arith, word-ends w k x, heap-end t w x.below (word-used w k x on))

  slot-ends : (k : ℕ) → k < slot_count → is_present (c.structure k) ≡ true → start_built c k + (kind_of k).length ≤ heap_of t
  slot-ends k h on =
      elim (dec_lt k named_count) [
        | yes l ↦ end_by k k (named-is k l) on
        | no l ↦
            let w = extra-word k (omega arith) h on in
            end_by w.0 k (subst (λ (j : ℕ). WordIs w.0 j) w.3 (extra-is w.0 w.1 w.2)) on
      ]

  word-inside : (w : ℕ) → w < word_count t → used_at t w ≡ true → end_at t w ≤ heap_start c
  word-inside w h on =
      elim (dec_lt w named_count) [
        | yes l ↦ by w (named-is w l)
        | no l ↦ by (slot_at good.nics w) (extra-is w (omega arith) (omega (arith, words_are)))
      ]
    where
      by : (k : ℕ) → WordIs w k → end_at t w ≤ heap_start c
      by k x = omega (arith, word-ends w k x, start-inside c k (used-present w k x on) x.slot)

  -- each end along the build's order is Control's or a structure's
  built-below : (j : ℕ) → j ≤ slot_count → end_built c j ≤ heap_of t
  built-below zero h = omega (arith, end-first c, heap-after-control t, control-end)
  built-below (suc j) h = go (is_present (c.structure (built_slot j))) refl (built-below j (omega arith))
    where
      go : (b : Bool) → is_present (c.structure (built_slot j)) ≡ b → end_built c j ≤ heap_of t → end_built c (suc j) ≤ heap_of t
      go true on ih =
          let f = turn-fits j h in
          omega (
            arith,
            slot-ends (built_slot j) f.slot on,
            start-end c (built_slot j) on f.slot,
            ap (λ (i : ℕ). end_built c (suc i)) f.turn-of-slot,
          )
      go false off ih = omega (arith, end-absent c j off)

  pub heap-back : heap_of t ≡ heap_start c
  unfolding heap_start
  heap-back =
      let above = heap-below t (heap_start c) (omega (arith, control-end, heap-start-least c)) word-inside in
      omega (arith, above, built-below slot_count (omega arith))

  heap-bytes-back : Lies t (heap_start c) (heap_to entry_count may_share c.entry entry_count)
  unfolding length_built heap_size
  heap-bytes-back =
      lies-back (heap_start c) (heap_to entry_count may_share c.entry entry_count) (omega (arith, heap-start-least c))
      (omega (arith, heap-length entry_count may_share c.entry entry_count)) (heap-lies c good)

  -- ---- the strings

  module _ (n : ℕ) (h : n < entry_count) (a : List ℕ) (is : c.entry n ≡ Some a) where
    own : is_present (c.structure (owner_of n)) ≡ true
    own = good.owned n a h is

    pub entry-size-back : size_of t n ≡ length a
    unfolding len
    entry-size-back = size_back n h own ∙ ap len is

    pub entry-offset-back : offset_of t n ≡ offset_built c n
    entry-offset-back = offset-back n h own

    pub entry-stands : Stands t (heap_start c) (length_built c) (offset_built c n) a
    unfolding length_built heap_size
    entry-stands =
        rw (offset-is c n a is)
        (stands-lies t (heap_to entry_count may_share c.entry entry_count) (heap_start c)
        (heap_size entry_count may_share c.entry) (place entry_count may_share c.entry n a) a
        (omega (arith, heap-length entry_count may_share c.entry entry_count))
        heap-bytes-back
        (placed entry_count may_share c.entry n a h is))

    pub entry-back : part t (offset_of t n) (size_of t n) ≡ a
    entry-back =
        ap₂ (λ (o s : ℕ). part t o s) entry-offset-back entry-size-back
        ∙ stands-part t (heap_start c) (length_built c) (offset_built c n) a begins-long entry-stands
