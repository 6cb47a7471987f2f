-- The text of a table marks its NICs and targets: each that is present tells its flags at least, and every line marks what it
-- names. Nothing else is marked, so never more than eight of a kind are, and none is left out; and a structure's slot is that
-- of its rank.
--     set-marked, set_keeps, set-only     a mark that is set
--     Noted                       the marks before field n of group g
--     field-noted                 a field's line leads from the marks before it to those behind it
--     marks-are                   in the end just the NICs and targets of the table are marked
--     noted-told                  so the marks seat every structure in its slot, and count the extras
-- Assumes nothing.
use mathlib.Core.Path.{◌≡◌, refl, sym, ap, ◌∙◌}
use mathlib.Core.Logic.{◌⊎◌, inl, inr, ⊎_elim}
use mathlib.Core.List.{List, [], ◌∷◌}
use mathlib.Core.Bool.{Bool, true, false, cond}
use Prim.Native.Nat.{ℕ, zero, suc, ◌+◌, ◌-◌, ◌*◌, ◌≤◌, ◌<◌}
use native.Mathlib.Decide.{dec_lt}
use native.Mathlib.Omega.{arith}
use borrow.Author.Tests.{leb-true, ltb-true, lt-ltb, le-ltb, ne_eqb}
use lib.ListN.{length, get_or, get_or-append}
use lib.Seq.{get_or-append-add}
use lib.Dec.{eqb, leb, ltb}
use Rattle.octets.specs.Counting.{count}
use Rattle.octets.specs.Octets.{byte, zeros, write}
use Rattle.octets.proofs.CountLaws.{count_less, count_same}
use Rattle.octets.proofs.CountingLaws.{clash}
use Rattle.octets.proofs.WriteLaws.{length-write, length-zeros, get_d-zeros}
use Rattle.text.specs.Split.{before, trim_end, trim, pieces}
use Rattle.ibft_layout.specs.Layout.{Kind, initiator, nic, target, slot_count, least_index, extra_most, kind_of}
use Rattle.ibft_table.specs.Table.{starts_of, index_in, present}
use Rattle.ibft_table.specs.Check.{check_of}
use Rattle.ibft_table.specs.Record.{Record, record_of}
use Rattle.table_header.specs.Verdict.{Accepted}
use Rattle.ibft_build_rules.specs.Plan.{is_present}
use Rattle.record_text.specs.Fields.{first_structure, first_indexed, kind_count, field_count}
use Rattle.record_text.specs.Enter.{index_count, index_mark, is_marked, marks_below, marks_of, extras_of, most_of, says_nothing, noted, lines_noted}
use Rattle.record_text.specs.Enter.{named_marks, none_noted, slot_of, group_count, has_slot, line_found}
use Rattle.record_text.specs.Tell.{slot_in, kind_number, index_held, record_field, is_told, line_with, line_of, group_text, record_text}
use Rattle.record_text.specs.Promises.{Bytes}
use Rattle.record_text.specs.declared.fields.FieldName.{FieldName}
use Rattle.std.specs.Prelude.{Some, Option, None, Some}
use Rattle.record_text_laws.proofs.Entered.{name_in, Held, Seats}
use Rattle.record_text_laws.proofs.LeadsLaws.{Leads, leads-none, leads-line, leads-gather, leads-end}
use Rattle.record_text_laws.proofs.MarksLaws.{marked, marked-in, marked-each, marks-below, marks-all, write-mark, write-other}
use Rattle.record_text_laws.proofs.RankLaws.{slot_by, first_by, KindSlots, kind-slots, index_by, held_by, Rank, held-most, rank-named}
use Rattle.record_text_laws.proofs.RankLaws.{rank-present, rank_up, rank-small, slot-rank}
use Rattle.record_text_laws.proofs.ToldBackLaws.{kind-facts, slot-kind, low-kind, group-known, fields-few, held-present, flags-told}
use Rattle.record_text_laws.proofs.ToldBackLaws.{flags-some, told-held}
use Rattle.record_text_laws.proofs.LineBackLaws.{slot-alone, slot-index, group-indexed, told_with, told_line, told-line-found}

-- ---- a mark that is set

same_or : (a b : ℕ) → (a ≡ b) ⊎ (a ≡ b → ⊥)
same_or a b =
    elim (dec_lt a b) [
      | yes h ↦ inr (λ e. omega arith)
      | no h ↦ elim (dec_lt b a) [
        | yes l ↦ inr (λ e. omega arith)
        | no l ↦ inl (omega arith)
      ]
    ]

-- a kind that has Indexes
record Kinded (kind : ℕ) : Type 0 where
  low : first_indexed ≤ kind
  high : kind < kind_count

module _ (marks : List ℕ) (size : length marks ≡ 2 * index_count) (kind index : ℕ) (kinded : Kinded kind) (small : index < index_count) where
  abbrev set : List ℕ
  set = write marks (index_mark kind index) (1 ∷ [])

  set-marked : is_marked set kind index ≡ true
  unfolding is_marked
  set-marked = rw (write-mark marks (index_mark kind index) (omega (arith, kinded.low, kinded.high)))

  set_keeps : (k j : ℕ) → is_marked marks k j ≡ true → is_marked set k j ≡ true
  unfolding is_marked
  set_keeps k j h =
      ⊎_elim
      (λ e. rw (e, write-mark marks (index_mark kind index) (omega (arith, kinded.low, kinded.high))))
      (λ other. rw (write-other marks (index_mark kind index) (index_mark k j) other) h)
      (same_or (index_mark k j) (index_mark kind index))

  set-only : (k j : ℕ) → Kinded k → j < index_count → is_marked set k j ≡ true → ((k ≡ kind) × (j ≡ index)) ⊎ (is_marked marks k j ≡ true)
  unfolding is_marked
  set-only k j known l h =
      ⊎_elim
      (λ e. inl (omega (arith, kinded.low, kinded.high, known.low, known.high), omega (arith, kinded.low, kinded.high, known.low, known.high)))
      (λ other. inr (rw (write-other marks (index_mark kind index) (index_mark k j) other) at h))
      (same_or (index_mark k j) (index_mark kind index))

-- ---- the marks from the start: the named slots'

named-byte : (j : ℕ) → eqb (byte named_marks j) 1 ≡ ltb j least_index
named-byte zero = refl
named-byte (suc zero) = refl
named-byte (suc (suc j)) = ap (λ (b : ℕ). eqb b 1) (get_d-zeros (index_count - least_index) j) ∙ sym (le-ltb (suc (suc j)) least_index (omega arith))

none-marked : (kind : ℕ) → Kinded kind → (j : ℕ) → j < index_count → is_marked none_noted kind j ≡ ltb j least_index
unfolding is_marked none_noted
none-marked kind h j l =
    elim (dec_lt kind (suc first_indexed)) [
      | yes k ↦
          let here : index_mark kind j ≡ j = omega (arith, h.low) in
          rw (here, get_or-append named_marks named_marks 0 j (omega (arith, length-zeros (index_count - least_index)))) (named-byte j)
      | no k ↦
          let here : index_mark kind j ≡ length named_marks + j = omega (arith, h.high, length-zeros (index_count - least_index)) in
          rw (here, get_or-append-add) (named-byte j)
    ]

-- ---- the marks on the way

-- the marks with those of a field's line, where it is told; of the first n fields of group g, and of the first g groups
unfoldable pub noted_with : List ℕ → FieldName → Option (List ℕ) → List ℕ
noted_with marks f None = marks
noted_with marks f (Some bytes) = cond (is_told f.kind f.field bytes) (noted marks (Some f)) marks

unfoldable pub fields_noted : Record → ℕ → ℕ → List ℕ → List ℕ
fields_noted r g zero marks = marks
fields_noted r g (suc n) marks = noted_with (fields_noted r g n marks) (name_in r g n) (record_field r g n)

unfoldable pub groups_noted : Record → ℕ → List ℕ → List ℕ
groups_noted r zero marks = marks
groups_noted r (suc g) marks = fields_noted r g (field_count (kind_number g)) (groups_noted r g marks)

-- lines are not numbered here
abbrev run : List ℕ → ℕ → List (List ℕ) → List ℕ
run marks k ls = lines_noted marks ls

module _ (t : List ℕ) (ok : check_of t ≡ Accepted) (small : Bytes t) where
  abbrev r : Record
  r = record_of t

  -- the Indexes of the table's NICs and targets, the named slots' with them
  abbrev ranked : ℕ → ℕ → Bool
  ranked kind j = marked (index_by t kind) (held_by t kind) j

  slots-of : (kind : ℕ) → Kinded kind → KindSlots kind
  slots-of kind known = kind-slots kind known.low known.high

  abbrev Indexes : ℕ → Type 0
  Indexes g = first_indexed ≤ kind_number g

  kinded : (g : ℕ) → Indexes g → Kinded (kind_number g)
  kinded g h = record { low = h; high = group-known g }

  structured : (g : ℕ) → Indexes g → first_structure ≤ g
  structured g h =
      elim (dec_lt g first_structure) [
        | yes l ↦ absurd (omega (arith, low-kind g l))
        | no l ↦ omega arith
      ]

  -- a group that is present has a rank, and its Index is that of the rank
  group-rank : (g : ℕ) → g < group_count → Indexes g → Held r g → Rank t (kind_number g) (slot_in g)
  group-rank g h known held =
      let from = structured g known in
      let below : slot_in g < slot_count = omega arith in
      let kind = slot-kind g from in
      rw kind
      (slot-rank t ok (slot_in g) below (rw kind at known) (rw kind at (slots-of (kind_number g) (kinded g known)))
      (sym (held-present t (slot_in g) below) ∙ held))

  rank-index : (g : ℕ) → g < group_count → Indexes g → (rank : Rank t (kind_number g) (slot_in g)) → index_held r g ≡ index_by t (kind_number g) rank.rank
  unfolding index_held
  rank-index g h known rank =
      rw (le-ltb g first_structure (structured g known))
      (slot-index t (slot_in g) (omega arith) ∙ ap (index_in (starts_of t) t) (sym rank.slot))

  group-ranked : (g : ℕ) → g < group_count → Indexes g → Held r g → ranked (kind_number g) (index_held r g) ≡ true
  group-ranked g h known held =
      let rank = group-rank g h known held in
      rw (rank-index g h known rank) (marked-in (index_by t (kind_number g)) (held_by t (kind_number g)) rank.rank rank.below)

  -- what stands marked before field n of group g: NICs and targets of the table only, the named slots', and of all groups
  -- before it those that are present
  record Noted (g n : ℕ) (marks : List ℕ) : Type 0 where
    size : length marks ≡ 2 * index_count
    only : (kind : ℕ) → Kinded kind → (j : ℕ) → j < index_count → is_marked marks kind j ≡ true → ranked kind j ≡ true
    named : (kind : ℕ) → Kinded kind → (j : ℕ) → j < least_index → is_marked marks kind j ≡ true
    all : (h : ℕ) → h < group_count → 16 * h < 16 * g + n → Indexes h → Held r h → is_marked marks (kind_number h) (index_held r h) ≡ true

  module _ (g n : ℕ) (group : g < group_count) (number : n < field_count (kind_number g)) (marks : List ℕ) (before : Noted g n marks) where
    abbrev f : FieldName
    f = name_in r g n

    abbrev kind : ℕ
    kind = kind_number g

    abbrev index : ℕ
    index = index_held r g

    abbrev Own : List ℕ → Type 0
    Own next = Indexes g → Held r g → is_marked next kind index ≡ true

    -- marks that keep those before, and have the group's own
    all-next : (next : List ℕ) → ((k j : ℕ) → is_marked marks k j ≡ true → is_marked next k j ≡ true) → Own next
        → (h : ℕ) → h < group_count → 16 * h < 16 * g + suc n → Indexes h → Held r h → is_marked next (kind_number h) (index_held r h) ≡ true
    all-next next keeps own h l low known held =
        elim (dec_lt (16 * h) (16 * g + n)) [
          | yes s ↦ keeps (kind_number h) (index_held r h) (before.all h l s known held)
          | no s ↦
              let few = (fields-few kind (group-known g)).1 in
              let here : g ≡ h = omega arith in
              rw here at own known held
        ]

    noted-same : Own marks → Noted g (suc n) marks
    noted-same own =
        record { size = before.size; only = before.only; named = before.named; all = all-next marks (λ k j h. h) own }

    index-low : index < index_count
    index-low = (group-indexed t small g group).byte-sized

    module _ (known : Indexes g) (held : Held r g) where
      abbrev next : List ℕ
      next = write marks (index_mark kind index) (1 ∷ [])

      noted-set : Noted g (suc n) next
      noted-set =
          let keeps = set_keeps marks before.size kind index (kinded g known) index-low in
          record {
            size = length-write marks (index_mark kind index) (1 ∷ []) ∙ before.size;
            only = λ k h j l e.
                ⊎_elim (λ same. rw (same.0, same.1) (group-ranked g group known held)) (λ old. before.only k h j l old)
                (set-only marks before.size kind index (kinded g known) index-low k j h l e);
            named = λ k h j l. keeps k j (before.named k h j l);
            all = all-next next keeps (λ k h. set-marked marks before.size kind index (kinded g known) index-low);
          }

      -- where a kind has as many marks as it can have, this is one of them
      noted-full : leb most_of (marks_of marks kind) ≡ true → is_marked marks kind index ≡ true
      unfolding marks_below
      noted-full full = go (is_marked marks kind index) refl
        where
          go : (b : Bool) → is_marked marks kind index ≡ b → b ≡ true
          go true e = refl
          go false e =
              let s = slots-of kind (kinded g known) in
              let less = count_less index_count (is_marked marks kind) (ranked kind) (λ j l h. before.only kind (kinded g known) j l h) index index-low e
              (group-ranked g group known held) in
              let all = marks-all (index_by t kind) (held_by t kind) (rank_up t ok kind s) index_count (λ q h. rank-small t small kind q) in
              absurd (omega (arith, less, all, held-most t ok kind s, leb-true most_of (marks_of marks kind) full))

    -- a line marks its group
    noted-line : (first_structure ≤ g → Held r g) → Noted g (suc n) (noted marks (Some f))
    unfolding noted
    noted-line held =
        elim (dec_lt kind first_indexed) [
          | yes h ↦ rw (lt-ltb kind first_indexed h) (noted-same (λ known. absurd (omega arith)))
          | no h ↦
              let known : Indexes g = omega arith in
              rw (le-ltb kind first_indexed known) (go known (held (structured g known)) (leb most_of (marks_of marks kind)) refl)
        ]
      where
        go : (known : Indexes g) (held : Held r g) (b : Bool) → leb most_of (marks_of marks kind) ≡ b
            → Noted g (suc n) (cond b marks (write marks (index_mark kind index) (1 ∷ [])))
        go known held true full = noted-same (λ k h. noted-full known held full)
        go known held false full = noted-set known held

    -- a field of which no line is told is not a present structure's flags
    noted-untold : (n ≡ 0 → Indexes g → Held r g → ⊥) → Noted g (suc n) marks
    noted-untold other =
        noted-same
        (λ known held.
        elim (dec_lt 0 n) [
          | yes h ↦ before.all g group (omega arith) known held
          | no h ↦ absurd (other (omega arith) known held)
        ])

    abbrev Notes : Option (List ℕ) → Type 0
    Notes o = Leads run marks (line_of false kind index n o) (noted_with marks f o) × Noted g (suc n) (noted_with marks f o)

    field-noted : Notes (record_field r g n)
    unfolding line_of noted_with lines_noted
    field-noted = go (record_field r g n) refl
      where
        go : (o : Option (List ℕ)) → record_field r g n ≡ o → Notes o
        go None e =
            (leads-none run marks, noted-untold (λ first known held. flags-some r g (structured g known) held (rw first at e)))
        go (Some bytes) e = told (is_told kind n bytes) refl
          where
            told : (b : Bool) → is_told kind n bytes ≡ b
                → Leads run marks (cond b (line_with kind index n bytes) []) (cond b (noted marks (Some f)) marks)
                × Noted g (suc n) (cond b (noted marks (Some f)) marks)
            told true s = (
              rw (told_with t ok small g n group number bytes e)
                  (leads-line run marks (noted marks (Some f)) _ (told_line t ok small g n group number bytes e)
                  (λ k ls. rw (told-line-found t ok small g n group number bytes e))),
              noted-line (told-held t ok small g n group number bytes e),
            )
            told false s =
                (leads-none run marks, noted-untold (λ first known held. clash (flags-told g (structured g known) bytes) (rw first at s)))

  -- ---- the fields of a group, and all groups

  module _ (g : ℕ) (group : g < group_count) (marks : List ℕ) (before : Noted g 0 marks) where
    fields-ready : (n : ℕ) → n ≤ field_count (kind_number g) → Noted g n (fields_noted r g n marks)
    unfolding fields_noted
    fields-ready zero h = before
    fields-ready (suc n) h = (field-noted g n group h (fields_noted r g n marks) (fields-ready n (omega arith))).1

    group-noted : Leads run marks (group_text false r g) (fields_noted r g (field_count (kind_number g)) marks)
    unfolding group_text fields_noted
    group-noted =
        leads-gather run _ (λ (n : ℕ). fields_noted r g n marks) (field_count (kind_number g))
        (λ n h. (field-noted g n group h (fields_noted r g n marks) (fields-ready n (omega arith))).0)

    group-ready : Noted (suc g) 0 (fields_noted r g (field_count (kind_number g)) marks)
    group-ready =
        let last = fields-ready (field_count (kind_number g)) (omega arith) in
        let few = (fields-few (kind_number g) (group-known g)).0 in
        record { size = last.size; only = last.only; named = last.named; all = λ h l low. last.all h l (omega arith) }

  module _ (marks : List ℕ) (before : Noted 0 0 marks) where
    groups-ready : (g : ℕ) → g ≤ group_count → Noted g 0 (groups_noted r g marks)
    unfolding groups_noted
    groups-ready zero h = before
    groups-ready (suc g) h = group-ready g h (groups_noted r g marks) (groups-ready g (omega arith))

    text-noted : Leads run marks (record_text false r) (groups_noted r group_count marks)
    unfolding record_text groups_noted
    text-noted =
        leads-gather run (group_text false r) (λ (g : ℕ). groups_noted r g marks) group_count
        (λ g h. group-noted g h (groups_noted r g marks) (groups-ready g (omega arith)))

  -- ---- the marks before the first line

  none-noted : Noted 0 0 none_noted
  unfolding none_noted zeros
  none-noted =
      record {
        size = refl;
        only = λ kind h j l e.
            let low : j < least_index = ltb-true j least_index (sym (none-marked kind h j l) ∙ e) in
            rw (← rank-named t ok kind (slots-of kind h) j low) (marked-in (index_by t kind) (held_by t kind) j (omega arith));
        named = λ kind h j l. none-marked kind h j (omega arith) ∙ lt-ltb j least_index l;
        all = λ h l low. absurd (omega arith);
      }

  -- ---- the marks behind the last line

  module _ (marks : List ℕ) (last : Noted group_count 0 marks) (kind : ℕ) (known : Kinded kind) where
    slots : KindSlots kind
    slots = slots-of kind known

    -- an extra that has a rank is a group that is present
    extra-marked : (i : ℕ) → least_index + i < held_by t kind → is_marked marks kind (index_by t kind (least_index + i)) ≡ true
    unfolding index_held
    extra-marked i h =
        let most = held-most t ok kind slots in
        let behind = slots.behind i (omega arith) in
        let high = slots.extras.high in
        let g : ℕ = first_structure + (first_by kind + i) in
        let slot : slot_in g ≡ slot_by kind (least_index + i) = omega (arith, behind) in
        let below : slot_in g < slot_count = omega arith in
        let is : kind_number g ≡ kind =
        slot-kind g (omega arith) ∙ ap (λ (k : ℕ). (kind_of k).id) (omega arith)
        ∙ ap (λ (k : Kind). k.id) (slots.extras.kinds i (omega arith)) ∙ slots.id in
        let index : index_held r g ≡ index_by t kind (least_index + i) =
        rw (le-ltb g first_structure (omega arith)) (slot-index t (slot_in g) below ∙ ap (index_in (starts_of t) t) slot) in
        let held : Held r g = held-present t (slot_in g) below ∙ ap (present t) slot ∙ rank-present t ok kind slots i h in
        rw (is, index) at (last.all g (omega arith) (omega arith) (omega (arith, is, known.low)) held)

    rank-marked : (q : ℕ) → q < held_by t kind → is_marked marks kind (index_by t kind q) ≡ true
    rank-marked q h =
        elim (dec_lt q least_index) [
          | yes l ↦ rw (rank-named t ok kind slots q l) (last.named kind known q l)
          | no l ↦ let is : least_index + (q - least_index) ≡ q = omega arith in rw is at (extra-marked (q - least_index) (omega arith))
        ]

    -- just the NICs and targets of the table are marked
    marks-are : (j : ℕ) → j < index_count → is_marked marks kind j ≡ ranked kind j
    marks-are j h = go (is_marked marks kind j) refl (ranked kind j) refl
      where
        go : (a : Bool) → is_marked marks kind j ≡ a → (b : Bool) → ranked kind j ≡ b → a ≡ b
        go true m true n = refl
        go true m false n = clash (last.only kind known j h m) n
        go false m true n =
            clash (marked-each (index_by t kind) (λ (j : ℕ). is_marked marks kind j ≡ true) (held_by t kind) rank-marked j n) m
        go false m false n = refl

    -- so the marks below an Index are as many as its rank, and all are as many as there are ranks
    below-rank : (q : ℕ) → q < held_by t kind → marks_below marks kind (index_by t kind q) ≡ q
    unfolding marks_below
    below-rank q h =
        count_same (index_by t kind q) (is_marked marks kind) (ranked kind) (λ j l. marks-are j (omega (arith, rank-small t small kind q)))
        ∙ marks-below (index_by t kind) (held_by t kind) (rank_up t ok kind slots) q h

    marks-held : marks_of marks kind ≡ held_by t kind
    unfolding marks_below
    marks-held =
        count_same index_count (is_marked marks kind) (ranked kind) marks-are
        ∙ marks-all (index_by t kind) (held_by t kind) (rank_up t ok kind slots) index_count (λ q h. rank-small t small kind q)

    extras-counted : extras_of marks kind ≡ count extra_most (λ (i : ℕ). is_present (get_or r.structures (first_by kind + i) None))
    extras-counted =
        let same = count_same extra_most (λ (i : ℕ). is_present (get_or r.structures (first_by kind + i) None)) (λ (i : ℕ). present t (first_by kind + i))
        (λ i h. held-present t (first_by kind + i) (omega (arith, slots.extras.high))) in
        omega (arith, marks-held, same)

  module _ (marks : List ℕ) (last : Noted group_count 0 marks) where
    nics-known : Kinded nic.id
    nics-known = record { low = omega arith; high = omega arith }

    targets-known : Kinded target.id
    targets-known = record { low = omega arith; high = omega arith }

    group-seat : (g n : ℕ) → first_structure ≤ g → g < group_count → Held r g → slot_of marks (name_in r g n) ≡ slot_in g
    unfolding slot_of slot_by
    group-seat g n from group held =
        elim (dec_lt (kind_number g) first_indexed) [
          | yes h ↦
              let kind = slot-kind g from in
              let low = (kind-facts (slot_in g)).low in
              let is : kind_number g ≡ initiator.id = omega (arith, kind) in
              let alone = slot-alone (slot_in g) (omega arith) (rw kind at h) in
              rw is (sym alone)
          | no h ↦
              let known : Indexes g = omega arith in
              let rank = group-rank g group known held in
              let below = below-rank marks last (kind_number g) (kinded g known) rank.rank rank.below in
              rw (ne_eqb (kind_number g) initiator.id (omega arith), rank-index g group known rank, below) rank.slot
        ]

    group-has-slot : (g n : ℕ) → first_structure ≤ g → g < group_count → Held r g → has_slot marks (name_in r g n) ≡ true
    unfolding has_slot
    group-has-slot g n from group held =
        elim (dec_lt (kind_number g) first_indexed) [
          | yes h ↦ rw (lt-ltb (kind_number g) first_indexed h)
          | no h ↦ let known : Indexes g = omega arith in rw (le-ltb (kind_number g) first_indexed known) (last.all g group (omega arith) known held)
        ]

    marks-seat : Seats marks r
    unfolding first_by
    marks-seat =
        record {
          slot = group-seat;
          has = group-has-slot;
          nics = extras-counted marks last nic.id nics-known;
          targets = extras-counted marks last target.id targets-known;
        }

-- ---- the marks of the text

last-noted : (marks : List ℕ) → lines_noted marks ([] ∷ []) ≡ marks
unfolding lines_noted line_found noted says_nothing trim trim_end before
last-noted marks = refl

pub noted-told : (t : List ℕ) → check_of t ≡ Accepted → Bytes t → Seats (lines_noted none_noted (pieces 10 (record_text false (record_of t)))) (record_of t)
noted-told t ok small =
    let r = record_of t in
    let start = none-noted t ok small in
    let end : lines_noted none_noted (pieces 10 (record_text false r)) ≡ groups_noted r group_count none_noted =
    leads-end run none_noted (groups_noted r group_count none_noted) (record_text false r) (text-noted t ok small none_noted start) 1
    ∙ last-noted (groups_noted r group_count none_noted) in
    rw end (marks-seat t ok small (groups_noted r group_count none_noted) (groups-ready t ok small none_noted start group_count (omega arith)))
