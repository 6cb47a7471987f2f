-- Laws of where entries stand, each shaped like what the code returns.
--     sum-none, sum_more                   a loop that adds up
--     sizes-at, sizes-count                what stands in the list of the sizes
--     sizes-sum                            their sum is the heap's up to there
--     size-kept, size-gone                 whether an entry is stored, by what it takes
--     holder-not, holder-secret, holder-tail     whether an entry can hold one that is not stored
--     gone-shares                          an entry that is present and not stored may share
--     holder-first                           the first that holds it, which is below the limit
--     place-self, place-holder               where an entry stands
--     offset-on, offset-off                its offset
--     offset-past                          from the limit on it has none
-- Assumes nothing.
use mathlib.Core.Path.{◌≡◌, refl, sym, ap, ap₂, ◌∙◌}
use mathlib.Core.Bool.{Bool, true, false, ◌&&◌, ◌||◌}
use mathlib.Core.List.{List}
use Prim.Native.Nat.{ℕ, zero, suc, ◌+◌, ◌*◌, ◌-◌, ◌≤◌, ◌<◌}
use native.Mathlib.Numerals.{add-one}
use native.Mathlib.Decide.{dec_lt}
use native.Mathlib.Omega.{arith}
use borrow.Author.Tests.{eqb-true, not-false}
use lib.Dec.{eqb}
use lib.ListN.{length, get_or}
use Rattle.octets.specs.Counting.{any, first, sum_to}
use Rattle.octets.proofs.CountingLaws.{clash, first-is, length-tabulate, get_d_tabulate}
use Rattle.octets.proofs.CutLaws.{first-cut}
use Rattle.octets.proofs.TestLaws.{and_both, and_no}
use Rattle.string_heap.specs.Tails.{is_tail}
use Rattle.string_heap.proofs.TailsLaws.{is_tail-long}
use Rattle.string_heap.specs.Stored.{Entry, covered_by, stored, stored_as, of_stored, heap_size}
use Rattle.string_heap.specs.Places.{len, ends_with, holds, holder, place}
use Rattle.string_heap.proofs.Intervals.{sum_to-le}
use Rattle.string_heap.proofs.HolderLaws.{held, holder-self, placed}
use Rattle.ibft_layout.specs.Layout.{entry_count, may_share}
use Rattle.ibft_build_rules.specs.RecordRange.{entry_given, length_given, bytes_given, content_given}
use Rattle.ibft_build_rules.specs.Plan.{heap_start, offset_as, offset_built}
use Rattle.ibft_build_rules.proofs.BoundLaws.{heap-start-bound}
use Rattle.ibft_record.specs.Limits.{entry_limit}
use Rattle.ibft_build.specs.Planning.{Readable, entries_given, wanted_given, size_given, heap_sizes, can_hold}
use Rattle.ibft_record.proofs.RecordLaws.{entry_past, entry-limit-most}
use Rattle.ibft_build.proofs.EntryLaws.{entry-some, entry-none, entries-past, wanted-on, bytes-length, Lies, lies_at}
use Rattle.ibft_build.proofs.CoverLaws.{stored-given, size-stored, size_none}

-- ---- sums

pub sum-none : (f : ℕ → ℕ) → 0 ≡ sum_to 0 f
unfolding sum_to
sum-none f = refl

pub sum_more : (f : ℕ → ℕ) (i s v : ℕ) → s ≡ sum_to i f → v ≡ f i → s + v ≡ sum_to (i + 1) f
unfolding sum_to
sum_more f i s v p q = ap₂ (λ (x y : ℕ). x + y) p q ∙ ap (λ (k : ℕ). sum_to k f) (sym (add-one i))

sum_same : (f g : ℕ → ℕ) (k : ℕ) → ((j : ℕ) → j < k → f j ≡ g j) → sum_to k f ≡ sum_to k g
unfolding sum_to
sum_same f g zero h = refl
sum_same f g (suc k) h = ap₂ (λ (x y : ℕ). x + y) (sum_same f g k (λ j l. h j (omega arith))) (h k (omega arith))

sum-const : (c k : ℕ) → sum_to k (λ (j : ℕ). c) ≡ k * c
unfolding sum_to
sum-const c zero = omega arith
sum-const c (suc k) = omega (arith, sum-const c k)

-- ---- sizes

module _ (r s sizes : List ℕ) (are : sizes ≡ heap_sizes r s) where
  pub sizes-at : (n : ℕ) → n < entry_count → get_or sizes n 0 ≡ size_given r s n
  unfolding heap_sizes
  sizes-at n h = ap (λ (l : List ℕ). get_or l n 0) are ∙ get_d_tabulate (size_given r s) entry_count n 0 h

  pub sizes-count : length sizes ≡ entry_count
  unfolding heap_sizes
  sizes-count = ap length are ∙ length-tabulate (size_given r s) 0 entry_count

  pub sizes-sum : (k : ℕ) → k ≤ entry_count → (m : ℕ) → m ≡ sum_to k (λ (j : ℕ). get_or sizes j 0) → m ≡ sum_to k (size_given r s)
  sizes-sum k h m e = e ∙ sum_same (λ (j : ℕ). get_or sizes j 0) (size_given r s) k (λ j l. sizes-at j (omega arith))

module _ (r s : List ℕ) (n : ℕ) where
  pub size-kept : 0 < size_given r s n → stored entry_count may_share (entries_given r s) n ≡ true
  size-kept h = go (stored entry_count may_share (entries_given r s) n) refl
    where
      go : (b : Bool) → stored entry_count may_share (entries_given r s) n ≡ b → b ≡ true
      go true e = refl
      go false e = absurd (omega (arith, size_none r s n (stored entry_count may_share (entries_given r s) n) refl e))

  pub size-gone : Readable r s → n < entry_count → size_given r s n ≡ 0 → stored entry_count may_share (entries_given r s) n ≡ false
  size-gone sound h zero-size = go (stored entry_count may_share (entries_given r s) n) refl
    where
      go : (b : Bool) → stored entry_count may_share (entries_given r s) n ≡ b → b ≡ false
      go true st =
          absurd (omega (
            arith,
            stored-given r s n (wanted_given r n) refl st,
            size-stored r s n (wanted_given r n) refl sound h (stored entry_count may_share (entries_given r s) n) refl st,
          ))
      go false st = refl

  -- an entry that is stored, w what it takes
  pub size-lies : Readable r s → n < entry_count → (w : ℕ) → w ≡ size_given r s n → 0 < w → Lies r s n w
  size-lies sound h w e pos =
      let st = size-kept (omega arith) in
      let is = size-stored r s n (wanted_given r n) refl sound h (stored entry_count may_share (entries_given r s) n) refl st in
      lies_at r s n sound h w (e ∙ sym is) pos

  pub size_small : Readable r s → n < entry_count → size_given r s n ≤ 256
  size_small sound h =
      elim (dec_lt 0 (size_given r s n)) [
        | yes pos ↦ (size-lies sound h (size_given r s n) refl pos).small
        | no l ↦ omega arith
      ]

pub heap-small : (r s : List ℕ) → Readable r s → heap_size entry_count may_share (entries_given r s) ≤ 12544
unfolding heap_size size_given
heap-small r s sound =
    omega (arith, sum_to-le entry_count (size_given r s) (λ (j : ℕ). 256) (λ j h. size_small r s j sound h), sum-const 256 entry_count)

-- ---- holders

and-true : (b : Bool) → (b && true) ≡ b
and-true true = refl
and-true false = refl

-- entry j takes w
module _ (r s : List ℕ) (sound : Readable r s) (a : List ℕ) (j : ℕ) (h : j < entry_count) (w : ℕ) (takes : w ≡ size_given r s j) where
  holder-short : w ≤ length a → (stored entry_count may_share (entries_given r s) j && ends_with a (entries_given r s j)) ≡ false
  unfolding ends_with
  holder-short l =
      elim (dec_lt 0 w) [
        | yes pos ↦
            let lies = size-lies r s j sound h w takes pos in
            let short = is_tail-long a (bytes_given r s j) (omega (arith, lies.length-is)) in
            and_no (stored entry_count may_share (entries_given r s) j) (ends_with a (entries_given r s j))
            (λ kept. ap (ends_with a) lies.is ∙ short)
        | no m ↦ ap (λ (b : Bool). b && ends_with a (entries_given r s j)) (size-gone r s j sound h (omega arith))
      ]

  pub holder-not : w ≤ length a → false ≡ can_hold r s a j
  holder-not l = sym (ap (λ (b : Bool). b && may_share j) (holder-short l))

  -- b is what the code takes for entry j's bytes
  pub holder-tail : length a < w → may_share j ≡ true → (b : List ℕ) → b ≡ bytes_given r s j → (t : Bool) → t ≡ is_tail a b → t ≡ can_hold r s a j
  unfolding ends_with
  holder-tail l may b eb t is =
      let lies = size-lies r s j sound h w takes (omega arith) in
      is ∙ ap (is_tail a) eb
      ∙ sym (rw (size-kept r s j (omega arith), lies.is, may) (and-true (is_tail a (bytes_given r s j))))

pub holder-secret : (r s a : List ℕ) (j : ℕ) → may_share j ≡ false → false ≡ can_hold r s a j
holder-secret r s a j alone = sym (and_no (stored entry_count may_share (entries_given r s) j && ends_with a (entries_given r s j)) (may_share j) (λ held. alone))

-- an entry that is present and not stored may share
gone-shares : (r s : List ℕ) (i : ℕ) → entry_given r i ≡ true → stored entry_count may_share (entries_given r s) i ≡ false → may_share i ≡ true
unfolding stored_as
gone-shares r s i given gone =
    let p : ℕ → Bool = λ j. covered_by may_share i (bytes_given r s i) j (entries_given r s j) in
    let covered : (may_share i && any entry_count p)
    ≡ true = not-false (may_share i && any entry_count p)
    (sym (ap (stored_as entry_count may_share (entries_given r s) i) (entry-some r s i given)) ∙ gone) in
    (and_both (may_share i) (any entry_count p) covered).0

-- entries from the limit on are missing, and hold none; but there is one that does
pub holder-first : (r s : List ℕ) (i : ℕ) → i < entry_count → entry_given r i ≡ true → stored entry_count may_share (entries_given r s) i ≡ false
    → (a : List ℕ) → a ≡ bytes_given r s i → (j : ℕ) → j ≤ entry_limit r → ((k : ℕ) → k < j → can_hold r s a k ≡ false)
    → (t : Bool) → t ≡ can_hold r s a j → (j < entry_limit r → t ≡ true)
    → j ≡ holder entry_count may_share (entries_given r s) i (bytes_given r s i)
unfolding holder holds ends_with
holder-first r s i low given alone a ea j h before t is here =
    let test : ℕ → Bool = holds entry_count may_share (entries_given r s) i a in
    let own : holder entry_count may_share (entries_given r s) i (bytes_given r s i) ≡ first entry_count test =
    ap (holder entry_count may_share (entries_given r s) i) (sym ea) in
    let below = (held entry_count may_share (entries_given r s) i (bytes_given r s i) low (entry-some r s i given)).below in
    sym (own
    ∙ first-cut (entry_limit r) entry_count test (entry-limit-most r) (λ k l x. both k ∙ gone k l) (omega arith)
    ∙ first-is (entry_limit r) test j h (λ k l. both k ∙ before k l) (λ l. both j ∙ sym is ∙ here l))
  where
    -- another entry than i holds it where both may share; i itself is not stored
    tidy : (x y z u m : Bool) → u ≡ true → (z ≡ true → x ≡ false) → (x && y && (z || (u && m))) ≡ (x && y && m)
    tidy false y z u m may own = refl
    tidy true y true u m may own = clash refl (own refl)
    tidy true y false u m may own = ap (λ (b : Bool). y && (b && m)) may

    both : (k : ℕ) → holds entry_count may_share (entries_given r s) i a k ≡ can_hold r s a k
    both k =
        tidy (stored entry_count may_share (entries_given r s) k) (ends_with a (entries_given r s k)) (eqb i k) (may_share i) (may_share k)
        (gone-shares r s i given alone) (λ e. ap (stored entry_count may_share (entries_given r s)) (sym (eqb-true i k e)) ∙ alone)

    gone : (k : ℕ) → entry_limit r ≤ k → can_hold r s a k ≡ false
    gone k l =
        ap (λ (b : Bool). b && may_share k)
        (and_no (stored entry_count may_share (entries_given r s) k) (ends_with a (entries_given r s k))
        (λ kept. ap (ends_with a) (entries-past r s k l)))

-- ---- places

module _ (r s : List ℕ) (sound : Readable r s) (i : ℕ) (h : i < entry_count) (given : entry_given r i ≡ true) where
  pub place-self : 0 < size_given r s i → (m : ℕ) → m ≡ sum_to i (size_given r s) → m ≡ place entry_count may_share (entries_given r s) i (bytes_given r s i)
  unfolding place len size_given
  place-self pos m e =
      let a : List ℕ = bytes_given r s i in
      let is = entry-some r s i given in
      let self : holder entry_count may_share (entries_given r s) i a ≡ i = holder-self entry_count may_share (entries_given r s) i a h is (size-kept r s i pos) in
      let sum : sum_to (holder entry_count may_share (entries_given r s) i a) (size_given r s)
      ≡ sum_to i (size_given r s) = ap (λ (k : ℕ). sum_to k (size_given r s)) self in
      let own : len (entries_given r s (holder entry_count may_share (entries_given r s) i a))
      ≡ length a = ap (λ (k : ℕ). len (entries_given r s k)) self ∙ ap len is in
      omega arith

  pub holder-below : (j : ℕ) → j ≡ holder entry_count may_share (entries_given r s) i (bytes_given r s i) → j < entry_count
  holder-below j e = omega (arith, (held entry_count may_share (entries_given r s) i (bytes_given r s i) h (entry-some r s i given)).below)

  pub place-holder : (j : ℕ) → j ≡ holder entry_count may_share (entries_given r s) i (bytes_given r s i) → (w u m : ℕ) → w
      ≡ size_given r s j → u ≡ wanted_given r i → m ≡ sum_to j (size_given r s)
      → (u ≤ w) × (m + (w - u) ≡ place entry_count may_share (entries_given r s) i (bytes_given r s i))
  unfolding place len size_given of_stored
  place-holder j e w u m ew eu em =
      let a : List ℕ = bytes_given r s i in
      let holder-is = held entry_count may_share (entries_given r s) i a h (entry-some r s i given) in
      let k : ℕ = holder entry_count may_share (entries_given r s) i a in
      let size_is : size_given r s k ≡ length holder-is.b + 1 =
      ap₂ (λ (o : Entry) (b : Bool). of_stored o b (λ (x : List ℕ). length x + 1)) holder-is.is holder-is.kept in
      let own : len (entries_given r s k) ≡ length holder-is.b = ap len holder-is.is in
      let fits = holder-is.ends.fits in
      let la = bytes-length r s i sound h given in
      let want = wanted-on r i given (length_given r i) refl in
      let size-j : w ≡ size_given r s k = ew ∙ ap (size_given r s) e in
      let sum-j : m ≡ sum_to k (size_given r s) = em ∙ ap (λ (x : ℕ). sum_to x (size_given r s)) e in
      (omega arith, omega arith)

-- ---- offsets

module _ (r s : List ℕ) (i : ℕ) where
  pub offset-on : Readable r s → i < entry_count → entry_given r i ≡ true → (heap p : ℕ) → heap ≡ heap_start (content_given r s)
      → p ≡ place entry_count may_share (entries_given r s) i (bytes_given r s i) → (p ≤ 12544) × (heap ≤ 1454) × (heap + p ≡ offset_built (content_given r s) i)
  unfolding offset_built offset_as
  offset-on sound h given heap p eh ep =
      let stands = placed entry_count may_share (entries_given r s) i (bytes_given r s i) h (entry-some r s i given) in (
        omega (arith, stands.high, heap-small r s sound),
        omega (arith, heap-start-bound (content_given r s)),
        ap₂ (λ (x y : ℕ). x + y) eh ep ∙ sym (ap (offset_as (content_given r s) i) (entry-some r s i given)),
      )

  pub offset-off : entry_given r i ≡ false → 0 ≡ offset_built (content_given r s) i
  unfolding offset_built offset_as
  offset-off off = sym (ap (offset_as (content_given r s) i) (entry-none r s i off))

  pub offset-past : entry_limit r ≤ i → offset_built (content_given r s) i ≡ 0
  offset-past h = sym (offset-off (entry_past r i h))
