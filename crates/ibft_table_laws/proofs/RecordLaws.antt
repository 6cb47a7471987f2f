-- A record against the functions it is listed from: equal listings are the same content, and for tables the same presence,
-- the same flags and fields, the same entries.
--     shown-some, shown-none, shown-equal      what is shown only where it is there
--     structure-listed, index_listed, entry_listed, structure-past, entry_past     a listing's elements, and past its end
--     same-listed, listed_same                 equal listings against the same content
--     table-entry-some                         a table's entry, by what is shown
--     table-presence-same, table-body-same, table-holds-same, table-entry-same     two tables with equal records
-- Assumes nothing.
use Rattle.std.specs.Prelude.{None, Some}
use mathlib.Core.Path.{◌≡◌, refl, ap}
use mathlib.Core.Bool.{Bool, true, false}
use mathlib.Core.List.{List}
use Prim.Native.Nat.{ℕ, ◌+◌, ◌≤◌, ◌<◌}
use native.Mathlib.Omega.{arith}
use lib.ListN.{get_or}
use Rattle.octets.specs.Octets.{part}
use Rattle.ibft_layout.specs.Layout.{kind_of, slot_count, entry_count}
use Rattle.ibft_table.specs.Table.{start_of, present, size_of, offset_of, holds_entry}
use Rattle.ibft_table.specs.Record.{Record, Content, listed, shown_if, body_size, content_in, content_of, record_of}
use Rattle.ibft_table_laws.specs.SameContent.{SameContent}
use Rattle.octets.proofs.CountingLaws.{get_d_tabulate, tabulate-past, tabulate-same, tabulate-equal}

-- ---- what is shown only where it is there

pub shown-some : (b : Bool) (x a : List ℕ) → shown_if b x ≡ Some a → (b ≡ true) × (x ≡ a)
shown-some true x a e = (refl, cc)
shown-some false x a e = absurd (let z : ◌≡◌ {A = ℕ} 0 1 = cc in omega arith)

pub shown-none : (b : Bool) (x : List ℕ) → shown_if b x ≡ None → b ≡ false
shown-none false x e = refl
shown-none true x e = absurd (let z : ◌≡◌ {A = ℕ} 0 1 = cc in omega arith)

pub shown-equal : (b c : Bool) (x y : List ℕ) → shown_if b x ≡ shown_if c y → (b ≡ c) × (b ≡ true → x ≡ y)
shown-equal true true x y e = (refl, λ on. cc)
shown-equal true false x y e = absurd (let z : ◌≡◌ {A = ℕ} 0 1 = cc in omega arith)
shown-equal false true x y e = absurd (let z : ◌≡◌ {A = ℕ} 0 1 = cc in omega arith)
shown-equal false false x y e = (refl, λ on. absurd (let z : ◌≡◌ {A = ℕ} 0 1 = cc in omega arith))

pub shown-same : (b c : Bool) (x y : List ℕ) → b ≡ c → (c ≡ true → x ≡ y) → shown_if b x ≡ shown_if c y
shown-same b true x y e h = rw (e, h refl)
shown-same b false x y e h = rw e

-- ---- listings

module _ (c : Content) where
  pub structure-listed : (k : ℕ) → k < slot_count → get_or (listed c).structures k None ≡ c.structure k
  unfolding listed
  structure-listed k h = get_d_tabulate c.structure slot_count k None h

  pub entry_listed : (n : ℕ) → n < entry_count → get_or (listed c).entries n None ≡ c.entry n
  unfolding listed
  entry_listed n h = get_d_tabulate c.entry entry_count n None h

  pub index_listed : (k : ℕ) → k < slot_count → get_or (listed c).indices k 0 ≡ c.index k
  unfolding listed
  index_listed k h = get_d_tabulate c.index slot_count k 0 h

  pub structure-past : (k : ℕ) → slot_count ≤ k → get_or (listed c).structures k None ≡ None
  unfolding listed
  structure-past k h = tabulate-past c.structure slot_count k None h

  pub entry_past : (n : ℕ) → entry_count ≤ n → get_or (listed c).entries n None ≡ None
  unfolding listed
  entry_past n h = tabulate-past c.entry entry_count n None h

module _ (c d : Content) where
  pub same-listed : SameContent c d → listed c ≡ listed d
  unfolding listed
  same-listed s =
      let structures = tabulate-same c.structure d.structure 0 slot_count (λ k l h. s.structures k (omega arith)) in
      let indices = tabulate-same c.index d.index 0 slot_count (λ k l h. s.indices k (omega arith)) in
      let entries = tabulate-same c.entry d.entry 0 entry_count (λ n l h. s.entries n (omega arith)) in
      λ i. record {
        oem_id = s.oem-id i;
        oem_table_id = s.oem-table-id i;
        flags = s.flags i;
        structures = structures i;
        indices = indices i;
        entries = entries i;
      }

  pub listed_same : listed c ≡ listed d → SameContent c d
  unfolding listed
  listed_same e = record {
    oem-id = ap (λ (r : Record). r.oem_id) e;
    oem-table-id = ap (λ (r : Record). r.oem_table_id) e;
    flags = ap (λ (r : Record). r.flags) e;
    structures = tabulate-equal c.structure d.structure slot_count (ap (λ (r : Record). r.structures) e);
    indices = tabulate-equal c.index d.index slot_count (ap (λ (r : Record). r.indices) e);
    entries = tabulate-equal c.entry d.entry entry_count (ap (λ (r : Record). r.entries) e);
  }

-- ---- a table's content

module _ (t : List ℕ) where
  pub table-entry-some : (n : ℕ) (a : List ℕ) → (content_of t).entry n ≡ Some a → (holds_entry t n ≡ true) × (part t (offset_of t n) (size_of t n) ≡ a)
  unfolding content_of content_in
  table-entry-some n a e = shown-some (holds_entry t n) _ a e

module _ (t u : List ℕ) (e : record_of t ≡ record_of u) where
  pub table-content-same : SameContent (content_of t) (content_of u)
  unfolding record_of
  table-content-same = listed_same (content_of t) (content_of u) e

  module _ (k : ℕ) (h : k < slot_count) where
    both-structures : (present t k ≡ present u k)
        × (present t k ≡ true → part t (start_of t k + 5) (body_size (kind_of k)) ≡ part u (start_of u k + 5) (body_size (kind_of k)))
    unfolding content_of content_in
    both-structures = shown-equal (present t k) (present u k) _ _ (table-content-same.structures k h)

    pub table-presence-same : present t k ≡ present u k
    table-presence-same = both-structures.0

    pub table-body-same : present t k ≡ true → part t (start_of t k + 5) (body_size (kind_of k)) ≡ part u (start_of u k + 5) (body_size (kind_of k))
    table-body-same = both-structures.1

  module _ (n : ℕ) (h : n < entry_count) where
    both-entries : (holds_entry t n ≡ holds_entry u n)
        × (holds_entry t n ≡ true → part t (offset_of t n) (size_of t n) ≡ part u (offset_of u n) (size_of u n))
    unfolding content_of content_in
    both-entries = shown-equal (holds_entry t n) (holds_entry u n) _ _ (table-content-same.entries n h)

    pub table-holds-same : holds_entry t n ≡ holds_entry u n
    table-holds-same = both-entries.0

    pub table-entry-same : holds_entry t n ≡ true → part t (offset_of t n) (size_of t n) ≡ part u (offset_of u n) (size_of u n)
    table-entry-same = both-entries.1
