-- Laws of the structures' writers, each shaped like what the code leaves.
--     strings-first, entries_below      the entries of a slot, and where their words start
--     first_next                        the entries of a slot come before those of the next
--     entry-words                       the two words of an entry
--     words-none, words-next, words-done    the words of no entry, of one more, of all
--     structure-is, structure-length    a structure
--     behind-is                         a gap and the structure behind it
--     stretch-fits                      there is room for it
--     stretch-on, stretch-off           the same, where it is present, and where it is absent
--     Written, structures-next          what is written after some turns, and after one more
--     structures-end                    where these end
-- Assumes nothing.
use mathlib.Core.Path.{◌≡◌, refl, sym, ap, ap₂, ◌∙◌}
use mathlib.Core.Bool.{Bool, true, false, cond}
use mathlib.Core.List.{List, [], ◌++◌}
use Prim.Native.Nat.{ℕ, zero, suc, ◌+◌, ◌*◌, ◌-◌, ◌≤◌, ◌<◌}
use native.Mathlib.Numerals.{add-one}
use native.Mathlib.Omega.{arith}
use lib.Dec.{eqb}
use lib.ListN.{length, get_or, length-append}
use borrow.Author.Tests.{eqb-false}
use borrow.Rule.Slice.PartMut.{put_mid}
use Rattle.octets.specs.Counting.{any, sum_to, gather}
use Rattle.octets.specs.Octets.{part, le16, zeros, write}
use Rattle.octets.proofs.CountingLaws.{any_none, gather-last}
use Rattle.octets.proofs.ReadLaws.{part_length}
use Rattle.octets.proofs.WriteLaws.{length-zeros, write-nothing, length-written}
use Rattle.string_heap.specs.Starts.{align8, end_to}
use Rattle.ibft_layout.specs.Layout.{kind_of, string_of, slot_count, entry_count, first_entry, control_end, built_slot}
use Rattle.ibft_table.specs.Record.{body_size}
use Rattle.ibft_table.specs.Computing.{computing}
use Rattle.ibft_table_laws.proofs.LayoutLaws.{slot-fits, slot-entry, slot-entry-place, built-fits}
use Rattle.ibft_build_rules.specs.RecordRange.{image_at, structure_given, index_given}
use Rattle.ibft_build_rules.specs.TableBytes.{start_bytes}
use Rattle.ibft_record.specs.Limits.{extras_given}
use Rattle.ibft_build.specs.Planning.{Whole, end_given, structure_ends}
use Rattle.ibft_build.specs.Writing.{words_with, structure_with, stretch_with}
use Rattle.ibft_build.proofs.StartLaws.{ends_at, end-first, end_more}
use Rattle.ibft_build.proofs.PatchLaws.{write_mid, write_then, fills-three, gather-length, gather_none, gather-next}

-- ---- the layout's data

no-stringless : any slot_count (λ (k : ℕ). eqb (length (kind_of k).string_fields) 0) ≡ false
unfolding computing
no-stringless = refl

module _ (k : ℕ) (h : k < slot_count) where
  strings-some : 0 < length (kind_of k).string_fields
  strings-some =
      let some = eqb-false (length (kind_of k).string_fields) 0
      (any_none slot_count (λ (i : ℕ). eqb (length (kind_of i).string_fields) 0) no-stringless k h) in
      omega arith

  pub strings-first : (string_of (first_entry k)).at ≡ (kind_of k).strings_at
  strings-first =
      let first : first_entry k + 0 ≡ first_entry k = omega arith in
      rw first at (slot-entry-place k 0 h strings-some) ∙ omega arith

  pub entries_below : first_entry k + length (kind_of k).string_fields ≤ entry_count
  entries_below = omega (arith, strings-some, slot-entry k (length (kind_of k).string_fields - 1) h (omega (arith, strings-some)))

pub first_next : (k : ℕ) → first_entry (k + 1) ≡ first_entry k + length (kind_of k).string_fields
unfolding first_entry sum_to
first_next k = ap first_entry (add-one k)

-- ---- string words

pub entry-words : (wanted offsets t u w : List ℕ) (at n l : ℕ) → l ≡ get_or wanted n 0 - 1 → u ≡ write t at (le16 l) → w
    ≡ write u (at + 2) (le16 (get_or offsets n 0))
    → w ≡ write t at (words_with wanted offsets n)
unfolding words_with
entry-words wanted offsets t u w at n l el eu ew =
    write_then t u w at (at + 2) (le16 (get_or wanted n 0 - 1)) (le16 (get_or offsets n 0)) (eu ∙ ap (λ (v : ℕ). write t at (le16 v)) el) ew refl

words_size : (wanted offsets : List ℕ) (n : ℕ) → length (words_with wanted offsets n) ≡ 4
unfolding words_with
words_size wanted offsets n = refl

module _ (wanted offsets t : List ℕ) (at first : ℕ) where
  pub words-none : t ≡ write t at (gather (words_with wanted offsets) first (first - first))
  words-none =
      let none : first - first ≡ 0 = omega arith in
      rw none (gather_none (words_with wanted offsets) first at t)

  pub words-next : (n : ℕ) (u w : List ℕ) → first ≤ n → u ≡ write t at (gather (words_with wanted offsets) first (n - first))
      → w ≡ write u (at + 4 * (n - first)) (words_with wanted offsets n) → w ≡ write t at (gather (words_with wanted offsets) first (n + 1 - first))
  words-next n u w h e g =
      let same : n - first + 1 ≡ n + 1 - first = omega arith in
      gather-next (words_with wanted offsets) first at t (n - first) n (at + 4 * (n - first)) u w e (omega arith)
      (omega (arith, gather-length (words_with wanted offsets) 4 first (n - first) (words_size wanted offsets))) g
      ∙ ap (λ (m : ℕ). write t at (gather (words_with wanted offsets) first m)) same

  pub words-done : (k n end : ℕ) (u : List ℕ) → first ≡ first_entry k → end ≡ first_entry (k + 1) → n ≡ end
      → u ≡ write t at (gather (words_with wanted offsets) first (n - first))
      → u ≡ write t at (gather (words_with wanted offsets) (first_entry k) (length (kind_of k).string_fields))
  words-done k n end u ef ee en e =
      let count : n - first ≡ length (kind_of k).string_fields = omega (arith, first_next k) in
      e ∙ ap₂ (λ (i m : ℕ). write t at (gather (words_with wanted offsets) i m)) ef count

-- ---- a structure

module _ (r wanted offsets : List ℕ) (k : ℕ) (h : k < slot_count) (lies : image_at r k + (kind_of k).length ≤ length r) where
  body-length : length (part r (image_at r k + 5) (body_size (kind_of k))) ≡ body_size (kind_of k)
  body-length = let fits = slot-fits k h in part_length r (image_at r k + 5) (body_size (kind_of k)) (omega arith)

  words-length : length (gather (words_with wanted offsets) (first_entry k) (length (kind_of k).string_fields)) ≡ 4 * length (kind_of k).string_fields
  words-length = gather-length (words_with wanted offsets) 4 (first_entry k) (length (kind_of k).string_fields) (words_size wanted offsets)

  pub structure-length : length (structure_with r wanted offsets k) ≡ (kind_of k).length
  unfolding structure_with
  structure-length =
      let fits = slot-fits k h in
      omega (
        arith,
        body-length,
        words-length,
        length-append (part r (image_at r k + 5) (body_size (kind_of k))) (gather (words_with wanted offsets) (first_entry k) (length (kind_of k).string_fields)),
      )

  pub structure-is : (t u v w start body : List ℕ) (at image : ℕ) → length t ≡ (kind_of k).length → start ≡ start_bytes (kind_of k) (index_given r k)
      → u ≡ write t 0 start → at ≡ (kind_of k).strings_at → image ≡ image_at r k → body ≡ part r (image + 5) (at - 5) → v ≡ write u 5 body
      → w ≡ write v at (gather (words_with wanted offsets) (first_entry k) (length (kind_of k).string_fields)) → w ≡ structure_with r wanted offsets k
  unfolding structure_with
  structure-is t u v w start body at image lt es eu ea ei eb ev ew =
      let fits = slot-fits k h in
      let copied : body ≡ part r (image_at r k + 5) (body_size (kind_of k)) = eb ∙ ap₂ (λ (i a : ℕ). part r (i + 5) (a - 5)) ei ea in
      fills-three t u w 5 (start_bytes (kind_of k) (index_given r k)) (part r (image_at r k + 5) (body_size (kind_of k))) (eu ∙ ap (write t 0) es) refl
      v at (gather (words_with wanted offsets) (first_entry k) (length (kind_of k).string_fields)) (ev ∙ ap (write u 5) copied) ew
      (omega (arith, body-length)) (omega (arith, words-length))

  -- t is the room, u the room with the gap, ys the stretch that was lent
  pub behind-is : (t u ys : List ℕ) (end start behind l : ℕ) → start ≡ align8 end → l ≡ (kind_of k).length → behind ≡ start + l → behind ≤ length t
      → u ≡ write t end (zeros (start - end)) → ys ≡ structure_with r wanted offsets k
      → put_mid start (behind - start) u ys ≡ write t end (zeros (align8 end - end) ++ structure_with r wanted offsets k)
  behind-is t u ys end start behind l es el eb fits eu ey =
      let same = length-written t u end (zeros (start - end)) eu in
      let lent = write_mid u start behind ys (structure_with r wanted offsets k) ey (omega (arith, structure-length)) (omega arith) in
      write_then t u (put_mid start (behind - start) u ys) end start (zeros (start - end))
      (structure_with r wanted offsets k) eu lent (omega (arith, length-zeros (start - end)))
      ∙ ap (λ (m : ℕ). write t end (zeros (m - end) ++ structure_with r wanted offsets k)) es

-- ---- the structures in the build's order

module _ (r ends wanted offsets : List ℕ) (j k : ℕ) (slot : k ≡ built_slot j) where
  pub stretch-on : ends ≡ structure_ends r → j < slot_count → structure_given r k ≡ true → (t w : List ℕ)
      → w ≡ write t (get_or ends j 0) (zeros (align8 (get_or ends j 0) - get_or ends j 0) ++ structure_with r wanted offsets k)
      → w ≡ write t (end_given r j) (stretch_with r ends wanted offsets j)
  unfolding stretch_with
  stretch-on are h on t w e =
      let here : structure_given r (built_slot j) ≡ true = ap (structure_given r) (sym slot) ∙ on in
      e ∙ ap₂ (λ (a i : ℕ). write t a (zeros (align8 (get_or ends j 0) - get_or ends j 0) ++ structure_with r wanted offsets i))
      (ends_at r ends are j (omega arith)) slot
      ∙ sym (ap (λ (b : Bool). write t (end_given r j)
      (cond b (zeros (align8 (get_or ends j 0) - get_or ends j 0) ++ structure_with r wanted offsets (built_slot j)) [])) here)

  pub stretch-off : structure_given r k ≡ false → (t : List ℕ) → t ≡ write t (end_given r j) (stretch_with r ends wanted offsets j)
  unfolding stretch_with
  stretch-off off t =
      let here : structure_given r (built_slot j) ≡ false = ap (structure_given r) (sym slot) ∙ off in
      sym (ap (λ (b : Bool). write t (end_given r j)
      (cond b (zeros (align8 (get_or ends j 0) - get_or ends j 0) ++ structure_with r wanted offsets (built_slot j)) [])) here
      ∙ write-nothing t (end_given r j))

-- a present structure ends where the plan says, so there is room for it
module _ (r ends : List ℕ) (j k : ℕ) (slot : k ≡ built_slot j) where
  pub stretch-fits : ends ≡ structure_ends r → j < slot_count → structure_given r k ≡ true → align8 (get_or ends j 0) + (kind_of k).length ≡ end_given r (j + 1)
  stretch-fits are h on =
      let here : structure_given r (built_slot j) ≡ true = ap (structure_given r) (sym slot) ∙ on in
      ap (λ (i : ℕ). align8 (get_or ends j 0) + (kind_of i).length) slot
      ∙ end_more r j (get_or ends j 0) (align8 (get_or ends j 0) + (kind_of (built_slot j)).length) (ends_at r ends are j (omega arith))
      (sym (ap (λ (b : Bool). cond b (align8 (get_or ends j 0) + (kind_of (built_slot j)).length) (get_or ends j 0)) here))

-- u is the room t with the first j structures of the build's order written
abbrev pub Written : List ℕ → List ℕ → List ℕ → List ℕ → List ℕ → List ℕ → ℕ → Type 0
Written r ends wanted offsets t u j = u ≡ write t (control_end (extras_given r)) (gather (stretch_with r ends wanted offsets) 0 j)

module _ (r ends wanted offsets : List ℕ) (are : ends ≡ structure_ends r) (whole : Whole r) where
  stretch-length : (j : ℕ) → j < slot_count → end_given r (suc j) ≡ end_given r j + length (stretch_with r ends wanted offsets j)
  unfolding stretch_with end_given end_to
  stretch-length j h = go (structure_given r (built_slot j)) refl
    where
      go : (b : Bool) → structure_given r (built_slot j) ≡ b → cond b (align8 (end_given r j) + (kind_of (built_slot j)).length) (end_given r j)
          ≡ end_given r j + length (cond b (zeros (align8 (get_or ends j 0) - get_or ends j 0) ++ structure_with r wanted offsets (built_slot j)) [])
      go true on =
          let gap : ℕ = align8 (get_or ends j 0) - get_or ends j 0 in
          omega (
            arith,
            ends_at r ends are j (omega arith),
            length-append (zeros gap) (structure_with r wanted offsets (built_slot j)),
            length-zeros gap,
            structure-length r wanted offsets (built_slot j) (built-fits j h).slot (whole.images (built_slot j) on),
          )
      go false off = omega arith

  pub structures-end : (j : ℕ) → j ≤ slot_count → end_given r j ≡ control_end (extras_given r) + length (gather (stretch_with r ends wanted offsets) 0 j)
  unfolding gather
  structures-end zero h = omega (arith, end-first r)
  structures-end (suc j) h =
      let f : ℕ → List ℕ = stretch_with r ends wanted offsets in
      let zero-plus : length (f (0 + j)) ≡ length (f j) = ap (λ (i : ℕ). length (f i)) (omega arith) in
      omega (
        arith,
        structures-end j (omega arith),
        stretch-length j (omega arith),
        ap length (gather-last f 0 j),
        length-append (gather f 0 j) (f (0 + j)),
        zero-plus,
      )

  pub structures-next : (t u w : List ℕ) (j : ℕ) → j < slot_count → Written r ends wanted offsets t u j
      → w ≡ write u (end_given r j) (stretch_with r ends wanted offsets j) → Written r ends wanted offsets t w (j + 1)
  structures-next t u w j h e g =
      gather-next (stretch_with r ends wanted offsets) 0 (control_end (extras_given r)) t j j (end_given r j) u w e (omega arith) (structures-end j (omega arith)) g
