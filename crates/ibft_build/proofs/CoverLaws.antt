-- Laws of the storing rule over the entries of a record range, each shaped like what the code returns.
--     covered-short, covered-late, covered-secret, covered_tail    whether entry j makes it needless to store another
--     covered_none                                                 none does, where none below the limit does
--     stored-missing, stored-secret, stored_is                     whether an entry is stored
--     size-stored, size_none, size-past                            what an entry takes in the heap
-- Assumes nothing.
use Rattle.std.specs.Prelude.{None, Some}
use mathlib.Core.Path.{◌≡◌, refl, sym, ap, ap₂, ◌∙◌}
use mathlib.Core.Bool.{Bool, true, false, not, ◌&&◌, ◌||◌}
use mathlib.Core.List.{List}
use Prim.Native.Nat.{ℕ, ◌+◌, ◌-◌, ◌≤◌, ◌<◌}
use native.Mathlib.Omega.{arith}
use native.Mathlib.Decide.{dec_lt}
use lib.Dec.{ltb}
use lib.ListN.{length}
use borrow.Author.Tests.{lt-ltb, le-ltb}
use Rattle.octets.specs.Counting.{any}
use Rattle.octets.proofs.CountingLaws.{clash, any-no}
use Rattle.octets.proofs.CutLaws.{any-cut}
use Rattle.octets.proofs.TestLaws.{and_no}
use Rattle.string_heap.specs.Tails.{is_tail}
use Rattle.string_heap.proofs.TailsLaws.{is_tail-long}
use Rattle.string_heap.specs.Stored.{Entry, covers, covered_by, stored, stored_as, of_stored}
use Rattle.ibft_layout.specs.Layout.{entry_count, may_share}
use Rattle.ibft_build_rules.specs.RecordRange.{bytes_given}
use Rattle.ibft_record.specs.Limits.{entry_limit}
use Rattle.ibft_build.specs.Planning.{Readable, entries_given, wanted_given, size_given}
use Rattle.ibft_record.proofs.RecordLaws.{entry-limit-most}
use Rattle.ibft_build.proofs.EntryLaws.{entry-none, entries-past, wanted-past, wanted-missing, lies_at}

not-and : (x y z : Bool) → y ≡ false → z ≡ false → (x && (y || z)) ≡ false
not-and true y z p q = ap₂ (λ (u v : Bool). u || v) p q
not-and false y z p q = refl

and_one : (x y z : Bool) → (y || z) ≡ true → (x && (y || z)) ≡ x
and_one true y z p = p
and_one false y z p = refl

-- entry i has the bytes a, entry j wants w
module _ (r s : List ℕ) (i : ℕ) (a : List ℕ) (j : ℕ) (sound : Readable r s) (h : j < entry_count) (w : ℕ) (want : w ≡ wanted_given r j) where
  present : 0 < w → covered_by may_share i a j (entries_given r s j) ≡ (may_share j && covers i a j (bytes_given r s j))
  unfolding covered_by
  present pos = ap (covered_by may_share i a j) (lies_at r s j sound h w want pos).is

  pub covered-short : w ≤ length a → false ≡ covered_by may_share i a j (entries_given r s j)
  unfolding covered_by
  covered-short l =
      elim (dec_lt 0 w) [
        | yes pos ↦
            let b : List ℕ = bytes_given r s j in
            let lies = lies_at r s j sound h w want pos in
            let short : length b < length a = omega (arith, lies.length-is) in
            sym (present pos
            ∙ and_no (may_share j) _ (λ may. ap (λ (t : Bool). t && (ltb (length a) (length b) || ltb j i)) (is_tail-long a b short)))
        | no l ↦ sym (ap (covered_by may_share i a j) (entry-none r s j (wanted-missing r j (omega arith))))
      ]

  pub covered-late : w ≡ length a + 1 → i ≤ j → false ≡ covered_by may_share i a j (entries_given r s j)
  covered-late e l =
      let b : List ℕ = bytes_given r s j in
      let lies = lies_at r s j sound h w want (omega arith) in
      sym (present (omega arith)
      ∙ and_no (may_share j) _
      (λ may. not-and (is_tail a b) (ltb (length a) (length b)) (ltb j i)
      (le-ltb (length a) (length b) (omega (arith, lies.length-is))) (le-ltb j i l)))

  -- b is what the code takes for entry j's bytes
  pub covered_tail : length a < w → (w ≡ length a + 1 → j < i) → may_share j ≡ true → (b : List ℕ) → b ≡ bytes_given r s j → (t : Bool) → t ≡ is_tail a b
      → t ≡ covered_by may_share i a j (entries_given r s j)
  covered_tail long lower may b eb t is =
      let lies = lies_at r s j sound h w want (omega arith) in
      is ∙ ap (is_tail a) eb
      ∙ sym (present (omega arith)
      ∙ ap (λ (m : Bool). m && covers i a j (bytes_given r s j)) may
      ∙ and_one (is_tail a (bytes_given r s j)) (ltb (length a) (length (bytes_given r s j))) (ltb j i) (prior lies.length-is))
    where
      prior : length (bytes_given r s j) ≡ w - 1 → (ltb (length a) (length (bytes_given r s j)) || ltb j i) ≡ true
      prior lb =
          elim (dec_lt (length a + 1) w) [
            | yes m ↦ ap (λ (x : Bool). x || ltb j i) (lt-ltb (length a) (length (bytes_given r s j)) (omega (arith, lb)))
            | no m ↦
                ap₂ (λ (x y : Bool). x || y) (le-ltb (length a) (length (bytes_given r s j)) (omega (arith, lb)))
                (lt-ltb j i (lower (omega arith)))
          ]

-- a secret covers none
pub covered-secret : (i : ℕ) (a : List ℕ) (j : ℕ) (o : Entry) → may_share j ≡ false → false ≡ covered_by may_share i a j o
unfolding covered_by
covered-secret i a j None alone = refl
covered-secret i a j (Some b) alone = sym (ap (λ (m : Bool). m && covers i a j b) alone)

-- entries from the limit on are missing, and cover none
pub covered_none : (r s : List ℕ) (i : ℕ) (a : List ℕ) → ((j : ℕ) → j < entry_limit r → covered_by may_share i a j (entries_given r s j) ≡ false)
    → false ≡ any entry_count (λ (j : ℕ). covered_by may_share i a j (entries_given r s j))
unfolding covered_by
covered_none r s i a below =
    let p : ℕ → Bool = λ j. covered_by may_share i a j (entries_given r s j) in
    sym (any-cut (entry_limit r) entry_count p (entry-limit-most r) (λ j l h. ap (covered_by may_share i a j) (entries-past r s j l))
    ∙ any-no (entry_limit r) p below)

-- ---- whether entry i is stored: it wants w

module _ (r s : List ℕ) (i w : ℕ) (want : w ≡ wanted_given r i) where
  pub stored-missing : w ≡ 0 → false ≡ stored entry_count may_share (entries_given r s) i
  unfolding stored_as
  stored-missing e = sym (ap (stored_as entry_count may_share (entries_given r s) i) (entry-none r s i (wanted-missing r i (omega arith))))

  pub stored-secret : Readable r s → i < entry_count → 0 < w → may_share i ≡ false → true ≡ stored entry_count may_share (entries_given r s) i
  unfolding stored_as
  stored-secret sound h pos alone =
      let a : List ℕ = bytes_given r s i in
      sym (ap (stored_as entry_count may_share (entries_given r s) i) (lies_at r s i sound h w want pos).is
      ∙ ap (λ (m : Bool). not (m && any entry_count (λ (j : ℕ). covered_by may_share i a j (entries_given r s j)))) alone)

  -- a is what the code takes for its bytes
  pub stored_is : Readable r s → i < entry_count → 0 < w → may_share i ≡ true → (a : List ℕ) → a ≡ bytes_given r s i → (t : Bool)
      → t ≡ any entry_count (λ (j : ℕ). covered_by may_share i a j (entries_given r s j)) → not t ≡ stored entry_count may_share (entries_given r s) i
  unfolding stored_as
  stored_is sound h pos may a ea t e =
      let p : List ℕ → Bool = λ b. any entry_count (λ (j : ℕ). covered_by may_share i b j (entries_given r s j)) in
      ap not (e ∙ ap p ea)
      ∙ sym (ap (stored_as entry_count may_share (entries_given r s) i) (lies_at r s i sound h w want pos).is
      ∙ ap (λ (m : Bool). not (m && p (bytes_given r s i))) may)

  -- what a stored entry takes is what it wants
  pub stored-given : stored entry_count may_share (entries_given r s) i ≡ true → 0 < w
  stored-given st =
      elim (dec_lt 0 w) [
        | yes pos ↦ pos
        | no l ↦ clash st (sym (stored-missing (omega arith)))
      ]

  pub size-stored : Readable r s → i < entry_count → (t : Bool) → t ≡ stored entry_count may_share (entries_given r s) i → t ≡ true → w ≡ size_given r s i
  unfolding size_given of_stored
  size-stored sound h t e on =
      let st : stored entry_count may_share (entries_given r s) i ≡ true = sym e ∙ on in
      let lies = lies_at r s i sound h w want (stored-given st) in
      let whole : length (bytes_given r s i) + 1 ≡ w = omega (arith, lies.length-is, stored-given st) in
      sym (ap₂ (λ (o : Entry) (b : Bool). of_stored o b (λ (a : List ℕ). length a + 1)) lies.is st ∙ whole)

pub size_none : (r s : List ℕ) (i : ℕ) (t : Bool) → t ≡ stored entry_count may_share (entries_given r s) i → t ≡ false → 0 ≡ size_given r s i
unfolding size_given of_stored
size_none r s i t e off = sym (go (entries_given r s i) (stored entry_count may_share (entries_given r s) i) (sym e ∙ off))
  where
    go : (o : Entry) (b : Bool) → b ≡ false → of_stored o b (λ (a : List ℕ). length a + 1) ≡ 0
    go None b q = refl
    go (Some a) true q = clash refl q
    go (Some a) false q = refl

pub size-past : (r s : List ℕ) (i : ℕ) → entry_limit r ≤ i → size_given r s i ≡ 0
size-past r s i h =
    sym (size_none r s i (stored entry_count may_share (entries_given r s) i) refl
    (sym (stored-missing r s i (wanted_given r i) refl (wanted-past r i h))))
