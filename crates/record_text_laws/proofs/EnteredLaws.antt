-- The text of a table, entered line by line, gives every field that it tells its bytes: each line is read, since its name names
-- the field, its value reads back, no line above gives it (they are told in ascending order), and the strings have room for it.
--     group-number, group-has     the marks seat a group that tells a field
--     Ready                       the draft before field n of group g
--     field-entered               a field's line leads from the draft before it to the draft behind it, which is ready for the
--                                 next
--     lines-told                  the text leads from a draft of which nothing is given to that with all groups entered
--     entered-used, entered-short, entered-room     its strings have as many bytes as the table's together, at most 255 each
-- Assumes nothing.
use Rattle.std.specs.Prelude.{Option, None, Some}
use mathlib.Core.Path.{◌≡◌, refl, sym, ap, ◌∙◌}
use mathlib.Core.List.{List, [], ◌∷◌}
use mathlib.Core.Bool.{Bool, true, false, cond, not, ◌||◌}
use Prim.Native.Nat.{ℕ, zero, suc, ◌+◌, ◌-◌, ◌*◌, ◌≤◌, ◌<◌}
use native.Mathlib.Decide.{dec_lt}
use native.Mathlib.Omega.{arith}
use borrow.Author.Tests.{leb-true, leb-false, lt-ltb, le-ltb}
use lib.ListN.{length, get_or}
use lib.Dec.{leb}
use Rattle.octets.specs.Counting.{sum_to}
use Rattle.octets.specs.Octets.{byte, zeros, all_zero, write}
use Rattle.octets.proofs.WriteLaws.{write-after, length-write, get_d-zeros}
use Rattle.text.specs.Split.{before, trim_end, trim, pieces}
use Rattle.ibft_layout.specs.Layout.{kind_of, entry_count, first_entry}
use Rattle.ibft_table.specs.Check.{check_of}
use Rattle.ibft_table.specs.Record.{Record, record_of}
use Rattle.table_header.specs.Verdict.{Accepted}
use Rattle.record_text.specs.Fields.{first_structure, first_indexed, group_of, is_text, is_always, field_of, field_count, plain_count}
use Rattle.record_text.specs.Enter.{Draft, group_count, group_number, given_at, has_slot, with_value, with_string, capacity, step_of, no_field}
use Rattle.record_text.specs.Enter.{says_nothing, line_step, lines_from}
use Rattle.record_text.specs.Tell.{slot_in, kind_number, index_held, record_field, is_told, line_with, line_of, group_text, record_text}
use Rattle.record_text.specs.Promises.{Bytes}
use Rattle.record_text.specs.declared.fields.FieldName.{FieldName}
use Rattle.record_text_laws.proofs.Entered.{name_in, valued, fields_entered, groups_entered, Held, Seats}
use Rattle.record_text_laws.proofs.LeadsLaws.{Leads, leads-none, leads-line, leads-gather, leads-end}
use Rattle.record_text_laws.proofs.ToldBackLaws.{kind-facts, slot-kind, low-kind, group-known, fields-few, text-last, text-entry}
use Rattle.record_text_laws.proofs.ToldBackLaws.{length_held, entry-short, told-held, told-entry}
use Rattle.record_text_laws.proofs.LineBackLaws.{line, told_with, told_line, told-line-value, told-line-string}

-- ---- the seat of a group

module _ (marks : List ℕ) (r : Record) (seats : Seats marks r) (g n : ℕ) (group : g < group_count) (held : first_structure ≤ g → Held r g) where
  pub group-number : group_number marks (name_in r g n) ≡ g
  unfolding group_number
  group-number =
      elim (dec_lt g first_structure) [
        | yes h ↦ rw (low-kind g h, lt-ltb g first_structure h)
        | no h ↦
            let from : first_structure ≤ g = omega arith in
            let kind : first_structure ≤ kind_number g = rw (slot-kind g from) (kind-facts (slot_in g)).low in
            rw (le-ltb (kind_number g) first_structure kind, seats.slot g n from group (held from)) (omega arith)
      ]

  pub group-has : has_slot marks (name_in r g n) ≡ true
  unfolding has_slot
  group-has =
      elim (dec_lt g first_structure) [
        | yes h ↦ rw (lt-ltb (kind_number g) first_indexed (omega (arith, low-kind g h)))
        | no h ↦ let from : first_structure ≤ g = omega arith in seats.has g n from group (held from)
      ]

-- ---- the draft on the way

-- how many entries stand before field n of group g, and how many bytes entry e has
abbrev pub entries_to : ℕ → ℕ → ℕ
entries_to g n = first_entry (slot_in g) + (n - plain_count (kind_number g))

abbrev pub size_held : Record → ℕ → ℕ
size_held r e = length_held (get_or r.entries e None)

-- no field from this one on is given, and the strings of those before it are behind one another
pub record Ready (marks : List ℕ) (r : Record) (size g n : ℕ) (d : Draft) : Type 0 where
  pub seated : d.marks ≡ marks
  pub ungiven : (j : ℕ) → 16 * g + n ≤ j → byte d.given j ≡ 0
  pub used : d.used ≡ sum_to (entries_to g n) (size_held r)
  pub room : length d.strings ≡ size

module _ (t : List ℕ) (ok : check_of t ≡ Accepted) (small : Bytes t) (marks : List ℕ) (seats : Seats marks (record_of t)) (size : ℕ)
    (large : 255 * entry_count ≤ size) where
  abbrev r : Record
  r = record_of t

  sizes-short : (n : ℕ) → n ≤ entry_count → sum_to n (size_held r) ≤ 255 * n
  unfolding sum_to
  sizes-short zero h = omega arith
  sizes-short (suc n) h = omega (arith, sizes-short n (omega arith), entry-short t ok n h)

  module _ (g n : ℕ) (group : g < group_count) (number : n < field_count (kind_number g)) where
    abbrev kind : ℕ
    kind = kind_number g

    text-place : (b : Bool) → is_text (field_of kind n).notation ≡ b → leb (plain_count kind) n ≡ b
    text-place b e = sym (text-last kind n (group-known g) number) ∙ e

    entries-plain : is_text (field_of kind n).notation ≡ false → entries_to g (suc n) ≡ entries_to g n
    entries-plain e = let h : n < plain_count kind = leb-false (plain_count kind) n (text-place false e) in omega arith

    entries-text : is_text (field_of kind n).notation ≡ true → entries_to g (suc n) ≡ suc (entries_to g n)
    entries-text e = let h : plain_count kind ≤ n = leb-true (plain_count kind) n (text-place true e) in omega arith

    module _ (d : Draft) (ready : Ready marks r size g n d) where
      -- a field of which no line is told
      ready-untold : d.used ≡ sum_to (entries_to g (suc n)) (size_held r) → Ready marks r size g (suc n) d
      ready-untold e =
          record { seated = ready.seated; ungiven = λ j h. ready.ungiven j (omega arith); used = e; room = ready.room }

      used-plain : is_text (field_of kind n).notation ≡ false → d.used ≡ sum_to (entries_to g (suc n)) (size_held r)
      used-plain e = rw (entries-plain e) ready.used

      used-text : is_text (field_of kind n).notation ≡ true → d.used + length_held (record_field r g n) ≡ sum_to (entries_to g (suc n)) (size_held r)
      unfolding sum_to
      used-text e = rw (entries-text e, text-entry r g n e, ready.used)

      abbrev f : FieldName
      f = name_in r g n

      -- one that is told
      module _ (bytes : List ℕ) (told : record_field r g n ≡ Some bytes) where
        seat : has_slot d.marks f ≡ true
        seat = rw ready.seated (group-has marks r seats g n group (told-held t ok small g n group number bytes told))

        mark : given_at d f ≡ 16 * g + n
        unfolding given_at
        mark =
            rw ready.seated
            (ap (λ (k : ℕ). 16 * k + n) (group-number marks r seats g n group (told-held t ok small g n group number bytes told)))

        first-time : byte d.given (given_at d f) ≡ 1 → ⊥
        first-time e = omega (arith, e, ready.ungiven (given_at d f) (omega (arith, mark)))

        ungiven : (j : ℕ) → 16 * g + suc n ≤ j → byte (write d.given (given_at d f) (1 ∷ [])) j ≡ 0
        ungiven j h = write-after d.given (given_at d f) (1 ∷ []) j (omega (arith, mark)) ∙ ready.ungiven j (omega arith)

        leads-told : (d' : Draft) → line_step d (line t ok small g n group number bytes told) ≡ step_of 0 f d'
            → Leads lines_from d (line_with kind (index_held r g) n bytes) d'
        unfolding lines_from
        leads-told d' e =
            rw (told_with t ok small g n group number bytes told)
            (leads-line lines_from d d' _ (told_line t ok small g n group number bytes told) (λ k ls. rw e))

        ready-value : is_text (field_of kind n).notation ≡ false → Ready marks r size g (suc n) (with_value d f bytes)
        unfolding with_value
        ready-value plain =
            record { seated = ready.seated; ungiven = ungiven; used = used-plain plain; room = ready.room }

        module _ (text : is_text (field_of kind n).notation ≡ true) where
          used-now : d.used + length bytes ≡ sum_to (entries_to g (suc n)) (size_held r)
          unfolding length_held
          used-now = rw told at (used-text text)

          ready-string : Ready marks r size g (suc n) (with_string d f bytes)
          unfolding with_string
          ready-string =
              record { seated = ready.seated; ungiven = ungiven; used = used-now; room = length-write d.strings d.used bytes ∙ ready.room }

          fits : d.used + length bytes ≤ capacity d.strings
          fits =
              let few : entries_to g (suc n) ≤ entry_count = omega (arith, entries-text text, told-entry t ok small g n group number bytes told text) in
              omega (arith, used-now, sizes-short (entries_to g (suc n)) few, ready.room)

      abbrev Enters : Option (List ℕ) → Type 0
      Enters o = Leads lines_from d (line_of false kind (index_held r g) n o) (valued d f o) × Ready marks r size g (suc n) (valued d f o)

      pub field-entered : Enters (record_field r g n)
      unfolding line_of valued is_told length_held
      field-entered = go (record_field r g n) refl (is_text (field_of kind n).notation) refl
        where
          used-none : record_field r g n ≡ None → (text : Bool) → is_text (field_of kind n).notation ≡ text
              → d.used ≡ sum_to (entries_to g (suc n)) (size_held r)
          used-none e true text = let same = rw e at (used-text text) in omega (arith, same)
          used-none e false plain = used-plain plain

          go : (o : Option (List ℕ)) → record_field r g n ≡ o → (text : Bool) → is_text (field_of kind n).notation ≡ text → Enters o
          go None e text s = (leads-none lines_from d, ready-untold (used-none e text s))
          go (Some bytes) e true s =
              rw s (
                leads-told bytes e (with_string d f bytes)
                    (told-line-string t ok small g n group number bytes e d (seat bytes e) (first-time bytes e) s
                    (fits bytes e s)),
                ready-string bytes e s,
              )
          go (Some bytes) e false s = rw s (plain (is_always (field_of kind n).notation || not (all_zero bytes)))
            where
              plain : (b : Bool) → Leads lines_from d (cond b (line_with kind (index_held r g) n bytes) []) (cond b (with_value d f bytes) d)
                  × Ready marks r size g (suc n) (cond b (with_value d f bytes) d)
              plain true = (
                leads-told bytes e (with_value d f bytes) (told-line-value t ok small g n group number bytes e d (seat bytes e) (first-time bytes e) s),
                ready-value bytes e s,
              )
              plain false = (leads-none lines_from d, ready-untold (used-plain s))

  -- ---- the fields of a group

  -- behind the last field of a group stands the first of the next
  entries-slot : (g : ℕ) → first_structure ≤ g → entries_to g (field_count (kind_number g)) ≡ entries_to (suc g) 0
  unfolding first_entry sum_to
  entries-slot g h =
      let next : slot_in (suc g) ≡ suc (slot_in g) = omega arith in
      let strings = (kind-facts (slot_in g)).strings in
      let last : plain_count (kind_number g) + length (kind_of (slot_in g)).string_fields ≡ field_count (kind_number g) = rw (slot-kind g h) strings in
      omega (arith, last, ap first_entry next)

  entries_next : (g : ℕ) → entries_to g (field_count (kind_number g)) ≡ entries_to (suc g) 0
  unfolding first_entry sum_to plain_count field_count group_of kind_number kind_of
  entries_next zero = refl
  entries_next (suc zero) = refl
  entries_next (suc (suc k)) = entries-slot (suc (suc k)) (omega arith)

  module _ (g : ℕ) (group : g < group_count) (d : Draft) (ready : Ready marks r size g 0 d) where
    fields-ready : (n : ℕ) → n ≤ field_count (kind_number g) → Ready marks r size g n (fields_entered r g n d)
    unfolding fields_entered
    fields-ready zero h = ready
    fields-ready (suc n) h = (field-entered g n group h (fields_entered r g n d) (fields-ready n (omega arith))).1

    group-entered : Leads lines_from d (group_text false r g) (fields_entered r g (field_count (kind_number g)) d)
    unfolding group_text fields_entered
    group-entered =
        leads-gather lines_from _ (λ (n : ℕ). fields_entered r g n d) (field_count (kind_number g))
        (λ n h. (field-entered g n group h (fields_entered r g n d) (fields-ready n (omega arith))).0)

    group-ready : Ready marks r size (suc g) 0 (fields_entered r g (field_count (kind_number g)) d)
    group-ready =
        let last = fields-ready (field_count (kind_number g)) (omega arith) in
        record {
          seated = last.seated;
          ungiven = λ j h. last.ungiven j (omega (arith, (fields-few (kind_number g) (group-known g)).1));
          used = rw (← entries_next g) last.used;
          room = last.room;
        }

  -- ---- all groups

  module _ (d : Draft) (ready : Ready marks r size 0 0 d) where
    groups-ready : (g : ℕ) → g ≤ group_count → Ready marks r size g 0 (groups_entered r g d)
    unfolding groups_entered
    groups-ready zero h = ready
    groups-ready (suc g) h = group-ready g h (groups_entered r g d) (groups-ready g (omega arith))

    text-entered : Leads lines_from d (record_text false r) (groups_entered r group_count d)
    unfolding record_text groups_entered
    text-entered =
        leads-gather lines_from (group_text false r) (λ (g : ℕ). groups_entered r g d) group_count
        (λ g h. group-entered g h (groups_entered r g d) (groups-ready g (omega arith)))

-- no entry stands before the first group, and all stand before the end of the last
entries_none : entries_to 0 0 ≡ 0
unfolding first_entry sum_to plain_count field_count group_of kind_number
entries_none = refl

entries-all : entries_to group_count 0 ≡ entry_count
unfolding first_entry sum_to plain_count field_count group_of kind_number kind_of
entries-all = refl

-- an empty line says nothing
last_line : (d : Draft) (k : ℕ) → lines_from d k ([] ∷ []) ≡ record { reason = 0; line = 0; field = no_field; draft = d }
unfolding lines_from line_step says_nothing trim trim_end before
last_line d k = refl

module _ (t : List ℕ) (ok : check_of t ≡ Accepted) (small : Bytes t) (d : Draft) (seats : Seats d.marks (record_of t))
    (blank : d.given ≡ zeros (16 * group_count)) (unused : d.used ≡ 0) (large : 255 * entry_count ≤ length d.strings) where
  ready : Ready d.marks (record_of t) (length d.strings) 0 0 d
  unfolding sum_to
  ready =
      record {
        seated = refl;
        ungiven = λ j h. ap (λ (given : List ℕ). byte given j) blank ∙ get_d-zeros (16 * group_count) j;
        used = rw entries_none unused;
        room = refl;
      }

  last : Ready d.marks (record_of t) (length d.strings) group_count 0 (groups_entered (record_of t) group_count d)
  last = groups-ready t ok small d.marks seats (length d.strings) large d ready group_count (omega arith)

  pub lines-told : lines_from d 1 (pieces 10 (record_text false (record_of t)))
      ≡ record { reason = 0; line = 0; field = no_field; draft = groups_entered (record_of t) group_count d }
  lines-told =
      let all = text-entered t ok small d.marks seats (length d.strings) large d ready in
      leads-end lines_from d (groups_entered (record_of t) group_count d) (record_text false (record_of t)) all 1
      ∙ last_line (groups_entered (record_of t) group_count d) (all.lines + 1)

  -- the strings behind one another
  pub entered-used : (groups_entered (record_of t) group_count d).used ≡ sum_to entry_count (size_held (record_of t))
  entered-used = rw entries-all at last.used

  pub entered-short : (groups_entered (record_of t) group_count d).used ≤ 255 * entry_count
  entered-short = omega (arith, entered-used, sizes-short t ok small d.marks seats (length d.strings) large entry_count (omega arith))

  pub entered-room : length (groups_entered (record_of t) group_count d).strings ≡ length d.strings
  entered-room = last.room
