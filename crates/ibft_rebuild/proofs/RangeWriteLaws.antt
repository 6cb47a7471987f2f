-- Laws of the range's writers: each writes its piece where the one before ended, so the pieces stand behind one another.
--     marks-none, marks-next                                 a loop that writes a byte for each number
--     wrote_nothing, wrote_then, wrote-same                  one piece behind another
--     wrote_none, wrote-next, wrote-done                     a loop that writes a piece for each number
--     image-most, .., extras-most                            how long pieces are
--     images-at, counts-at                                   where pieces stand
--     image-on, image-off, extra-on, extra-off               the image and the extra of a slot, by its start
--     front-wrote, image-wrote-on, .., extra-wrote-off       what the writers leave
--     nic-entries, target-entries                            the entries of extras
--     range-is, range-lent                                   the whole range
-- Assumes nothing.
use mathlib.Core.Path.{◌≡◌, refl, sym, ap, ap₂, ◌∙◌}
use mathlib.Core.Bool.{Bool, true, false, cond, ◌||◌}
use mathlib.Core.List.{List, [], ◌∷◌, ◌++◌, append_assoc}
use Prim.Native.Nat.{ℕ, zero, suc, ◌+◌, ◌*◌, ◌≤◌, ◌<◌}
use native.Mathlib.Nat.{mul-suc}
use native.Mathlib.Numerals.{add-one}
use native.Mathlib.Omega.{arith}
use lib.ListN.{length, take, drop, length-append}
use lib.Seq.{take_at}
use Rattle.octets.proofs.ReadLaws.{part-most}
use Rattle.octets.specs.Counting.{any, count, tabulate, gather}
use Rattle.octets.specs.Octets.{byte, part, zeros, differs, write}
use Rattle.octets.proofs.CountingLaws.{any_none, length-tabulate, gather-last}
use Rattle.octets.proofs.TestLaws.{or-both, differs-no, same_differs, unlike-differs}
use Rattle.octets.proofs.WriteLaws.{write-nothing, write-front, length-zeros}
use Rattle.ibft_layout.specs.Layout.{kind_of, slot_count, named_count, named_entries, most_words, extra_most, extra_nics, extra_targets, first_entry}
use Rattle.ibft_table.specs.Table.{start_in, present_in, nics_in, holds_in}
use Rattle.ibft_table.specs.Computing.{computing}
use Rattle.ibft_table_laws.proofs.LayoutLaws.{slot-fits}
use Rattle.ibft_build.proofs.PatchLaws.{write_then, gather-next, gather-add}
use Rattle.ibft_build_rules.specs.Rebuild.{mark, marks_in, image_in, extra_in, targets_in, range_in}
use Rattle.ibft_rebuild.specs.Writing.{Wrote, front}

-- ---- loops

module _ (f : ℕ → ℕ) where
  -- a listing is bytes one behind another
  tabulate-gather : (k n : ℕ) → tabulate f k n ≡ gather (λ (i : ℕ). f i ∷ []) k n
  unfolding tabulate gather
  tabulate-gather k zero = refl
  tabulate-gather k (suc n) = ap (λ (l : List ℕ). f k ∷ l) (tabulate-gather (suc k) n)

  module _ (k at : ℕ) (t : List ℕ) where
    pub marks-none : t ≡ write t at (tabulate f k 0)
    unfolding tabulate
    marks-none = sym (write-nothing t at)

    pub marks-next : (n i place b : ℕ) (u w : List ℕ) → u ≡ write t at (tabulate f k n) → i ≡ k + n → place ≡ at + n → b ≡ f i
        → w ≡ write u place (b ∷ []) → w ≡ write t at (tabulate f k (n + 1))
    marks-next n i place b u w e ei ep eb g =
        gather-next (λ (i : ℕ). f i ∷ []) k at t n i place u w (e ∙ ap (write t at) (tabulate-gather k n)) ei
        (omega (arith, length-tabulate f k n, ap length (tabulate-gather k n)))
        (g ∙ ap (λ (x : ℕ). write u place (x ∷ [])) eb)
        ∙ sym (ap (write t at) (tabulate-gather k (n + 1)))

-- ---- one piece behind another

module _ (t : List ℕ) (at : ℕ) where
  pub wrote_nothing : Wrote t at [] t at
  wrote_nothing = record { bytes = sym (write-nothing t at); ends = omega arith }

  pub wrote_then : (x y u w : List ℕ) (mid end : ℕ) → Wrote t at x u mid → Wrote u mid y w end → Wrote t at (x ++ y) w end
  wrote_then x y u w mid end p q =
      record {
        bytes = write_then t u w at mid x y p.bytes q.bytes p.ends;
        ends = omega (arith, p.ends, q.ends, length-append x y);
      }

  pub wrote-same : (x y u : List ℕ) (end : ℕ) → x ≡ y → Wrote t at x u end → Wrote t at y u end
  wrote-same x y u end e p = rw (← e) p

  -- a loop that writes f of each number, from k on
  pub wrote_none : (f : ℕ → List ℕ) (k : ℕ) → Wrote t at (gather f k 0) t at
  unfolding gather
  wrote_none f k = wrote_nothing

  pub wrote-next : (f : ℕ → List ℕ) (k n i : ℕ) (u w : List ℕ) (mid end : ℕ) → Wrote t at (gather f k n) u mid → i ≡ k + n → Wrote u mid (f i) w end
      → Wrote t at (gather f k (n + 1)) w end
  wrote-next f k n i u w mid end p ei q =
      wrote-same (gather f k n ++ f i) (gather f k (n + 1)) w end
      (ap (λ (j : ℕ). gather f k n ++ f j) ei ∙ sym (ap (gather f k) (add-one n) ∙ gather-last f k n))
      (wrote_then (gather f k n) (f i) u w mid end p q)

  pub wrote-done : (f : ℕ → List ℕ) (k n m : ℕ) (u : List ℕ) (end : ℕ) → Wrote t at (gather f k n) u end → n ≡ m → Wrote t at (gather f k m) u end
  wrote-done f k n m u end p same = wrote-same (gather f k n) (gather f k m) u end (ap (gather f k) same) p

-- ---- pieces

-- a part has no more bytes than it is asked for
module _ (starts t : List ℕ) (k : ℕ) where
  present-on : (start_in starts k ≡ 0 → ⊥) → present_in starts k ≡ true
  unfolding present_in
  present-on ne = unlike-differs (start_in starts k) 0 ne

  present-off : start_in starts k ≡ 0 → present_in starts k ≡ false
  unfolding present_in
  present-off e = same_differs (start_in starts k) 0 e

  pub image-on : (start_in starts k ≡ 0 → ⊥) → image_in starts t k ≡ part t (start_in starts k) (kind_of k).length
  unfolding image_in
  image-on ne = rw (present-on ne)

  pub image-off : start_in starts k ≡ 0 → image_in starts t k ≡ zeros (kind_of k).length
  unfolding image_in
  image-off e = rw (present-off e)

  pub extra-on : (start_in starts k ≡ 0 → ⊥)
      → extra_in starts t k ≡ image_in starts t k ++ marks_in starts t (first_entry k) (length (kind_of k).string_fields)
  unfolding extra_in
  extra-on ne = rw (present-on ne)

  pub extra-off : start_in starts k ≡ 0 → extra_in starts t k ≡ []
  unfolding extra_in
  extra-off e = rw (present-off e)

pub marks-length : (starts t : List ℕ) (first n : ℕ) → length (marks_in starts t first n) ≡ n
unfolding marks_in
marks-length starts t first n = length-tabulate (λ (i : ℕ). mark (holds_in starts t i)) first n

-- ---- how long

pub image-most : (starts t : List ℕ) (k : ℕ) → k < slot_count → length (image_in starts t k) ≤ 102
unfolding image_in
image-most starts t k h = go (present_in starts k)
  where
    size : ℕ
    size = (kind_of k).length

    go : (b : Bool) → length (cond b (part t (start_in starts k) size) (zeros size)) ≤ 102
    go true = omega (arith, part-most t (start_in starts k) size, (slot-fits k h).short)
    go false = omega (arith, length-zeros size, (slot-fits k h).short)

pub extra-most : (starts t : List ℕ) (k : ℕ) → k < slot_count → length (extra_in starts t k) ≤ 127
unfolding extra_in
extra-most starts t k h = go (present_in starts k)
  where
    marks : List ℕ
    marks = marks_in starts t (first_entry k) (length (kind_of k).string_fields)

    go : (b : Bool) → length (cond b (image_in starts t k ++ marks) []) ≤ 127
    go true =
        let fits = slot-fits k h in
        omega (
          arith,
          length-append (image_in starts t k) marks,
          image-most starts t k h,
          marks-length starts t (first_entry k) (length (kind_of k).string_fields),
          fits.words,
          fits.short,
        )
    go false = omega arith

-- lists that are each no longer than m
pub gather-most : (f : ℕ → List ℕ) (m k n : ℕ) → ((i : ℕ) → i < k + n → length (f i) ≤ m) → length (gather f k n) ≤ m * n
unfolding gather
gather-most f m k zero each = omega arith
gather-most f m k (suc n) each =
    omega (
      arith,
      length-append (f k) (gather f (suc k) n),
      each k (omega arith),
      gather-most f m (suc k) n (λ i h. each i (omega arith)),
      mul-suc m n,
    )

pub front-most : (t : List ℕ) → length (front t) ≤ 15
front-most t = omega (arith, length-append (part t 10 14) (byte t 53 ∷ []), part-most t 10 14)

module _ (starts t : List ℕ) where
  pub slot-marks-length : length (tabulate (λ (k : ℕ). mark (present_in starts k)) 0 named_count) ≡ named_count
  slot-marks-length = length-tabulate (λ (k : ℕ). mark (present_in starts k)) 0 named_count

  pub images-most : length (gather (image_in starts t) 0 named_count) ≤ 102 * named_count
  images-most = gather-most (image_in starts t) 102 0 named_count (λ k h. image-most starts t k (omega arith))

  pub extras-most : (slot : ℕ) → slot + extra_most ≤ slot_count → length (gather (extra_in starts t) slot extra_most) ≤ 127 * extra_most
  extras-most slot fits = gather-most (extra_in starts t) 127 slot extra_most (λ k h. extra-most starts t k (omega arith))

  -- where the images and the numbers of extras stand at most
  pub images-at : (marks entry_marks images : ℕ) → marks ≡ 0 + length (front t)
      → entry_marks ≡ marks + length (tabulate (λ (k : ℕ). mark (present_in starts k)) 0 named_count)
      → images ≡ entry_marks + length (marks_in starts t 0 named_entries) → images ≤ 33
  images-at marks entry_marks images p q r = omega (arith, front-most t, slot-marks-length, marks-length starts t 0 named_entries)

  pub counts-at : (images counts : ℕ) → images ≤ 33 → counts ≡ images + length (gather (image_in starts t) 0 named_count) → counts ≤ 543
  counts-at images counts p q = omega (arith, images-most)

-- ---- what the writers leave

pub front-wrote : (t table view u w : List ℕ) (n b end : ℕ) → view ≡ part table 10 14 → u ≡ write t 0 view → n ≡ length view → b ≡ byte table 53
    → w ≡ write u n (b ∷ []) → end ≡ n + 1 → Wrote t 0 (front table) w end
front-wrote t table view u w n b end ev eu en eb ew ee =
    wrote_then t 0 (part table 10 14) (byte table 53 ∷ []) u w n end
    (record { bytes = eu ∙ ap (write t 0) ev; ends = omega (arith, en, ap length ev) })
    (record { bytes = ew ∙ ap (λ (x : ℕ). write u n (x ∷ [])) eb; ends = ee })

module _ (starts table t : List ℕ) (k at : ℕ) where
  pub image-wrote-off : (n end : ℕ) (u : List ℕ) → start_in starts k ≡ 0 → n ≡ (kind_of k).length → u ≡ write t at (zeros n) → end ≡ at + n
      → Wrote t at (image_in starts table k) u end
  image-wrote-off n end u off en eu ee =
      wrote-same t at (zeros n) (image_in starts table k) u end (ap zeros en ∙ sym (image-off starts table k off))
      (record { bytes = eu; ends = omega (arith, ee, length-zeros n) })

  pub image-wrote-on : (start n end : ℕ) (view u : List ℕ) → (start_in starts k ≡ 0 → ⊥) → start ≡ start_in starts k → n ≡ (kind_of k).length
      → view ≡ part table start n → u ≡ write t at view → end ≡ at + length view → Wrote t at (image_in starts table k) u end
  image-wrote-on start n end view u on es en ev eu ee =
      wrote-same t at view (image_in starts table k) u end (ev ∙ ap₂ (part table) es en ∙ sym (image-on starts table k on))
      (record { bytes = eu; ends = ee })

  pub extra-wrote-off : start_in starts k ≡ 0 → Wrote t at (extra_in starts table k) t at
  extra-wrote-off off = wrote-same t at [] (extra_in starts table k) t at (sym (extra-off starts table k off)) (wrote_nothing t at)

  pub extra-wrote-on : (first n behind end : ℕ) (u w : List ℕ) → (start_in starts k ≡ 0 → ⊥) → first ≡ first_entry k → n ≡ length (kind_of k).string_fields
      → Wrote t at (image_in starts table k) u behind → Wrote u behind (marks_in starts table first n) w end → Wrote t at (extra_in starts table k) w end
  extra-wrote-on first n behind end u w on ef en p q =
      wrote-same t at (image_in starts table k ++ marks_in starts table first n) (extra_in starts table k) w end
      (ap₂ (λ (f m : ℕ). image_in starts table k ++ marks_in starts table f m) ef en ∙ sym (extra-on starts table k on))
      (wrote_then t at (image_in starts table k) (marks_in starts table first n) u w behind end p q)

-- ---- the whole

-- twelve extras are six NICs and six targets
extras-split : (f : ℕ → List ℕ) → gather f extra_nics extra_most ++ gather f extra_targets extra_most ≡ gather f named_count most_words
extras-split f = sym (gather-add f named_count extra_most extra_most)

module _ (starts table t : List ℕ) where
  pub range-is : (front-room marks-room entries-room images-room nics-room numbers-room extras-room room : List ℕ)
      (marks entries images numbers targets end n m : ℕ)
      → Wrote t 0 (front table) front-room marks
      → Wrote front-room marks (tabulate (λ (k : ℕ). mark (present_in starts k)) 0 named_count) marks-room entries
      → Wrote marks-room entries (marks_in starts table 0 named_entries) entries-room images
      → Wrote entries-room images (gather (image_in starts table) 0 named_count) images-room numbers
      → nics-room ≡ write images-room numbers (n ∷ []) → n ≡ count extra_most (λ (i : ℕ). present_in starts (extra_nics + i))
      → numbers-room ≡ write nics-room (numbers + 1) (m ∷ []) → m ≡ count extra_most (λ (i : ℕ). present_in starts (extra_targets + i))
      → Wrote numbers-room (numbers + 2) (gather (extra_in starts table) extra_nics extra_most) extras-room targets
      → Wrote extras-room targets (gather (extra_in starts table) extra_targets extra_most) room end
      → Wrote t 0 (range_in starts table) room end
  unfolding range_in nics_in targets_in
  range-is u1 u2 u3 u4 u5 u6 u7 u8 r1 r2 r3 r4 r7 r8 n m a b c d e en g eg h k =
      let one : Wrote u4 r4 (n ∷ []) u5 (r4 + 1) = record { bytes = e; ends = refl } in
      let two : Wrote u5 (r4 + 1) (m ∷ []) u6 (r4 + 2) = record { bytes = g; ends = omega arith } in
      wrote-same t 0 _ _ u8 r8
      (pieces ∙ ap₂ (λ (n m : ℕ). part table 10 14
      ++ (byte table 53 ∷ (slots ++ (entries ++
      (images ++ (n ∷ m ∷ gather (extra_in starts table) named_count most_words)))))) en eg)
      (wrote_then t 0 _ _ u7 u8 r7 r8
      (wrote_then t 0 _ _ u6 u7 (r4 + 2) r7
      (wrote_then t 0 _ _ u5 u6 (r4 + 1) (r4 + 2)
      (wrote_then t 0 _ _ u4 u5 r4 (r4 + 1)
      (wrote_then t 0 _ _ u3 u4 r3 r4 (wrote_then t 0 _ _ u2 u3 r2 r3 (wrote_then t 0 _ _ u1 u2 r1 r2 a b) c) d)
      one) two) h) k)
    where
      slots : List ℕ
      slots = tabulate (λ (k : ℕ). mark (present_in starts k)) 0 named_count

      entries : List ℕ
      entries = marks_in starts table 0 named_entries

      images : List ℕ
      images = gather (image_in starts table) 0 named_count

      pieces : (((((((front table ++ slots) ++ entries) ++ images) ++ (n ∷ [])) ++ (m ∷ []))
          ++ gather (extra_in starts table) extra_nics extra_most) ++ gather (extra_in starts table) extra_targets extra_most)
          ≡ part table 10 14 ++ (byte table 53 ∷ (slots ++ (entries ++ (images ++ (n ∷ m ∷ gather (extra_in starts table) named_count most_words)))))
      pieces = simp (append_assoc, extras-split (extra_in starts table))

-- ---- the entries of extras: those of a kind stand behind one another, as many for each

-- the extras of the kind whose first has slot `slot` and entry `first`: each has `n` entries
abbrev Numbered : ℕ → ℕ → ℕ → ℕ → Bool
Numbered slot first n i =
    differs (first + n * i) (first_entry (slot + i)) || differs n (length (kind_of (slot + i)).string_fields)

numbered : (slot first n : ℕ) → any extra_most (Numbered slot first n) ≡ false → (i : ℕ) → i < extra_most
    → (first + n * i ≡ first_entry (slot + i)) × (n ≡ length (kind_of (slot + i)).string_fields)
numbered slot first n all i h =
    let none = or-both (differs (first + n * i) (first_entry (slot + i))) _ (any_none extra_most (Numbered slot first n) all i h) in
    (differs-no (first + n * i) (first_entry (slot + i)) none.0, differs-no n (length (kind_of (slot + i)).string_fields) none.1)

nic-computed : any extra_most (Numbered extra_nics named_entries 1) ≡ false
unfolding computing
nic-computed = refl

target-computed : any extra_most (Numbered extra_targets (named_entries + extra_most) 5) ≡ false
unfolding computing
target-computed = refl

pub nic-entries : (i : ℕ) → i < extra_most → (named_entries + 1 * i ≡ first_entry (extra_nics + i)) × (1 ≡ length (kind_of (extra_nics + i)).string_fields)
nic-entries = numbered extra_nics named_entries 1 nic-computed

pub target-entries : (i : ℕ) → i < extra_most
    → (named_entries + extra_most + 5 * i ≡ first_entry (extra_targets + i)) × (5 ≡ length (kind_of (extra_targets + i)).string_fields)
target-entries = numbered extra_targets (named_entries + extra_most) 5 target-computed

-- ---- the range lent to the build: the front of a longer stretch

pub range-lent : (t x u : List ℕ) (end : ℕ) → Wrote t 0 x u end → length x ≤ length t → take end u ≡ x
range-lent t x u end p fits =
    ap (take end) (p.bytes ∙ write-front t x fits) ∙ take_at x (drop (length x) t) end (omega (arith, p.ends))
