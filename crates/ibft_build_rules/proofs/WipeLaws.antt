-- Whatever is written over a secret and the zero behind it, in an accepted table that gives secrets their own bytes: nothing
-- below the heap changes, and no other string.
--     wiped-record     so the table reads as the same record, but for the bytes of that secret
--     wipes-alone      the promise
-- Assumes nothing.
use Rattle.std.specs.Prelude.{Option, Some}
use mathlib.Core.Path.{◌≡◌, sym, ap, ap₂, ◌∙◌}
use mathlib.Core.Logic.{⊎_elim}
use mathlib.Core.Bool.{true, false}
use mathlib.Core.List.{List}
use Prim.Native.Nat.{ℕ, ◌+◌, ◌≤◌, ◌<◌}
use native.Mathlib.Omega.{arith}
use lib.ListN.{length, take, set}
use Rattle.octets.specs.Counting.{tabulate}
use Rattle.octets.specs.Octets.{part, write}
use Rattle.octets.proofs.CountingLaws.{tabulate-same, tabulate-set}
use Rattle.octets.proofs.ReadLaws.{part-whole}
use Rattle.octets.proofs.WriteLaws.{length-write, part-before, part-after, part-written}
use Rattle.ibft_layout.specs.Layout.{slot_count, entry_count, may_share}
use Rattle.ibft_table.specs.Table.{heap_of, size_of, offset_of, holds_entry}
use Rattle.ibft_table.specs.Check.{check_of}
use Rattle.ibft_table.specs.Record.{listed, content_in, content_of, record_of}
use Rattle.ibft_table.specs.Secrets.{secrets_apart}
use Rattle.table_header.specs.Verdict.{Accepted}
use Rattle.ibft_table_laws.specs.Begins.{Begins}
use Rattle.ibft_table_laws.proofs.TableLaws.{length-le, holds-below, entry_kept}
use Rattle.ibft_table_laws.proofs.RecordLaws.{shown-same}
use Rattle.ibft_table_laws.proofs.SecretsLaws.{apart-secret}
use Rattle.ibft_table_laws.proofs.BeginsLaws.{byte-same, part_same}
use Rattle.ibft_table_laws.proofs.FrontLaws.{front-least, front-index, front-structure, front-holds, front-size, front-offset}
use Rattle.ibft_build_rules.specs.WipePromises.{with_entry, WipesAlone}

module _
    (t : List ℕ) (ok : check_of t ≡ Accepted) (apart : secrets_apart t ≡ true)
    (n : ℕ) (alone : may_share n ≡ false) (on : holds_entry t n ≡ true)
    (xs : List ℕ) (whole : length xs ≡ size_of t n + 1)
  where
    wiped : List ℕ
    wiped = write t (offset_of t n) xs

    below : n < entry_count
    below = holds-below t n on

    -- it lies in the heap, and so in the table
    low : heap_of t ≤ offset_of t n
    low = (entry_kept t ok n below on).low

    high : offset_of t n + size_of t n + 1 ≤ length t
    high = omega (arith, (entry_kept t ok n below on).high, length-le t ok)

    front : Begins wiped t (heap_of t)
    unfolding wiped
    front =
        let inside : 0 + heap_of t ≤ length t = omega (arith, low, high) in
        record {
          long = omega (arith, length-write t (offset_of t n) xs, inside);
          same = sym (part-whole (write t (offset_of t n) xs) (heap_of t))
              ∙ part-before t (offset_of t n) xs 0 (heap_of t) inside (omega (arith, low)) ∙ part-whole t (heap_of t);
        }

    -- ---- the strings

    -- where an entry's words lead
    words : (m : ℕ) → m < entry_count → holds_entry t m ≡ true → part wiped (offset_of wiped m) (size_of wiped m) ≡ part wiped (offset_of t m) (size_of t m)
    words m h there = ap₂ (part wiped) (front-offset t wiped ok front m h there) (front-size t wiped ok front m h there)

    other : (m : ℕ) → m < entry_count → (m ≡ n → ⊥) → (content_of wiped).entry m ≡ (content_of t).entry m
    unfolding content_of content_in wiped
    other m h ne =
        shown-same (holds_entry wiped m) (holds_entry t m) _ _ (front-holds t wiped ok front m h)
        (λ there.
        let inside : offset_of t m + size_of t m ≤ length t = omega (arith, (entry_kept t ok m h there).high, length-le t ok) in
        words m h there
        ∙ ⊎_elim
        (λ x. part-after t (offset_of t n) xs (offset_of t m) (size_of t m) inside (omega (arith, x, whole)))
        (λ x. part-before t (offset_of t n) xs (offset_of t m) (size_of t m) inside (omega (arith, x)))
        (apart-secret t apart n m below h (λ e. ne (sym e)) alone on there))

    own : (content_of wiped).entry n ≡ Some (take (size_of t n) xs)
    unfolding content_of content_in wiped
    own =
        shown-same (holds_entry wiped n) true _ _ (front-holds t wiped ok front n below ∙ on)
        (λ there. words n below on ∙ part-written t (offset_of t n) xs (size_of t n) (omega (arith, high)) (omega (arith, whole)))

    -- ---- the record

    pub wiped-record : record_of (write t (offset_of t n) xs) ≡ with_entry n (take (size_of t n) xs) (record_of t)
    unfolding wiped record_of listed content_of content_in
    wiped-record =
        let least = front-least t wiped ok front in
        let structures = tabulate-same (content_of wiped).structure (content_of t).structure 0 slot_count
        (λ k l h. front-structure t wiped ok front k (omega arith)) in
        let indices = tabulate-same (content_of wiped).index (content_of t).index 0 slot_count (λ k l h. front-index t wiped ok front k (omega arith)) in
        let entries =
        tabulate-set (content_of t).entry (content_of wiped).entry entry_count n below other
        ∙ ap (λ (a : Option (List ℕ)). set (tabulate (content_of t).entry 0 entry_count) n a) own in
        λ i. record {
          oem_id = part_same wiped t (heap_of t) front 10 6 (omega (arith, least)) i;
          oem_table_id = part_same wiped t (heap_of t) front 16 8 (omega (arith, least)) i;
          flags = byte-same wiped t (heap_of t) front 53 (omega (arith, least)) i;
          structures = structures i;
          indices = indices i;
          entries = entries i;
        }

pub wipes-alone : WipesAlone
wipes-alone c t serves n alone on xs whole =
    wiped-record t serves.passes serves.secrets-apart n alone on xs whole ∙ ap (with_entry n (take (size_of t n) xs)) serves.reads-back
