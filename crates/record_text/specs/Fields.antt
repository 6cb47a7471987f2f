-- The fields of a record text, as data: docs/RECORD-FORMAT.md, Fields. Assumes nothing: these are definitions. A field is named
-- by the kind of its group, its Index where the kind has one, and its number in the group. Where a structure's fields stand and
-- which of its strings are secrets is the table's layout; here is added what they are called and how their values are written.
use Rattle.std.specs.Prelude.{ℕ, ◌+◌, ◌-◌, List, [], ◌∷◌, ◌++◌, Bool, true, false, cond, not, ◌&&◌, length, get_or, take, drop, eqb, ltb, Option, None, Some}
use Prim.Native.Char.{code}
use Rattle.text.specs.Put.{ascii}
use Rattle.text.specs.Split.{before, index_of, same}
use Rattle.text.specs.Words.{word_at, word_number}
use Rattle.notation.specs.Number.{within, number_up_to, digits}
use Rattle.ibft_layout.specs.Layout.{
  Field,
  StringField,
  field,
  string,
  fields_of,
  initiator as initiator_kind,
  nic as nic_kind,
  target as target_kind,
}
use Rattle.record_text.specs.declared.fields.Notation.{Notation}
use Rattle.record_text.specs.declared.fields.Notation.TheVariants.{Oem, Mode, Flags, Number, Port, Address, Mac, Pci, Chap, Text}
use Rattle.record_text.specs.declared.fields.FieldLayout.{FieldLayout}
use Rattle.record_text.specs.declared.fields.FieldName.{FieldName}

-- ---- notations

-- a string, which stands in the strings range; an OEM field
unfoldable pub is_text : Notation → Bool
is_text Oem = false
is_text Mode = false
is_text Flags = false
is_text Number = false
is_text Port = false
is_text Address = false
is_text Mac = false
is_text Pci = false
is_text Chap = false
is_text Text = true

unfoldable pub is_oem : Notation → Bool
is_oem Oem = true
is_oem Mode = false
is_oem Flags = false
is_oem Number = false
is_oem Port = false
is_oem Address = false
is_oem Mac = false
is_oem Pci = false
is_oem Chap = false
is_oem Text = false

-- a field that is told where it is zero, too: what it is where no line gives it need not be zero
unfoldable pub is_always : Notation → Bool
is_always Oem = false
is_always Mode = true
is_always Flags = true
is_always Number = false
is_always Port = true
is_always Address = false
is_always Mac = false
is_always Pci = false
is_always Chap = false
is_always Text = false

-- ---- groups

-- a kind of group: the names of its fields, as words; how the value of each is written; where they stand, strings last, and
-- which strings they are; the names of its flags
pub record Group : Type 0 where
  pub names : List ℕ
  pub notations : List Notation
  pub layout : List Field
  pub strings : List StringField
  pub flags : List ℕ

-- the header's fields, in the record range
abbrev pub oem : Group
oem =
    record {
      names = ascii "id table";
      notations = Oem ∷ Oem ∷ [];
      layout = field 0 6 ∷ field 6 8 ∷ [];
      strings = [];
      flags = [];
    }

-- Control's flags, in the record range: one field, with no name of its own
abbrev pub control : Group
control = record { names = ascii ""; notations = Mode ∷ []; layout = field 14 1 ∷ []; strings = []; flags = [] }

-- the structures' fields, in their images
abbrev pub initiator : Group
initiator =
    record {
      names = ascii "flags isns slp radius1 radius2 name";
      notations = Flags ∷ Address ∷ Address ∷ Address ∷ Address ∷ Text ∷ [];
      layout = fields_of initiator_kind;
      strings = initiator_kind.string_fields;
      flags = ascii "valid selected";
    }

abbrev pub nic : Group
nic =
    record {
      names = ascii "flags address prefix origin gateway dns1 dns2 dhcp vlan mac pci host";
      notations =
          Flags ∷ Address ∷ Number ∷ Number ∷ Address ∷ Address ∷ Address ∷ Address ∷ Number ∷ Mac ∷ Pci ∷ Text ∷ [];
      layout = fields_of nic_kind;
      strings = nic_kind.string_fields;
      flags = ascii "valid selected global";
    }

abbrev pub target : Group
target =
    record {
      names = ascii "flags address port lun chap nic name chap-name chap-secret reverse-name reverse-secret";
      notations = Flags ∷ Address ∷ Port ∷ Number ∷ Chap ∷ Number ∷ Text ∷ Text ∷ Text ∷ Text ∷ Text ∷ [];
      layout = fields_of target_kind;
      strings = target_kind.string_fields;
      flags = ascii "valid selected radius-chap radius-rchap";
    }

-- the kinds of group and their names: the header's is 0, every other has its structure's ID
abbrev pub groups : List Group
groups = oem ∷ control ∷ initiator ∷ nic ∷ target ∷ []

abbrev pub group_names : List ℕ
group_names = ascii "oem control initiator nic target"

abbrev pub kind_count : ℕ
kind_count = 5

-- the first kind that is a structure of its own, and the first whose groups have an Index
abbrev pub first_structure : ℕ
first_structure = 2

abbrev pub first_indexed : ℕ
first_indexed = 3

-- past the last kind, the header's
unfoldable pub group_of : ℕ → Group
group_of kind = get_or groups kind oem

-- ---- fields

-- how many fields a kind has, and how many of them are no strings
unfoldable pub field_count : ℕ → ℕ
field_count kind = length (group_of kind).layout

unfoldable pub plain_count : ℕ → ℕ
plain_count kind = field_count kind - length (group_of kind).strings

-- field n of a group; past the last, its first
unfoldable pub notation_in : Group → ℕ → Notation
notation_in group n = get_or group.notations n (get_or group.notations 0 Oem)

unfoldable pub place_in : Group → ℕ → Field
place_in group n = get_or group.layout n (get_or group.layout 0 (field 0 6))

-- whether it is a secret: a string that the layout calls so
unfoldable pub is_secret : ℕ → ℕ → Bool
is_secret kind n = not (ltb n (plain_count kind)) && (get_or (group_of kind).strings (n - plain_count kind) (string 0 0 false)).secret

unfoldable pub field_of : ℕ → ℕ → FieldLayout
field_of kind n =
    record {
      notation = notation_in (group_of kind) n;
      at = (place_in (group_of kind) n).at;
      width = (place_in (group_of kind) n).width;
    }

-- ---- names

-- a group's name: that of its kind and, where it has one, its Index
unfoldable pub index_text : ℕ → ℕ → List ℕ
index_text kind index = cond (ltb kind first_indexed) [] (digits 10 index)

-- a field's name in its group, where it has one, with a dot before it
abbrev pub dotted : List ℕ → List ℕ
dotted [] = []
dotted (b ∷ name) = code "." ∷ b ∷ name

unfoldable pub name_of : ℕ → ℕ → ℕ → List ℕ
name_of kind index n = word_at group_names kind ++ (index_text kind index ++ dotted (word_at (group_of kind).names n))

-- the Index that stands behind a kind's name: up to 255, as its digits are told; of a kind without an Index nothing stands
-- there
abbrev pub told : List ℕ → Option ℕ → Option ℕ
told text None = None
told text (Some n) = cond (same (digits 10 n) text) (Some n) None

unfoldable pub index_in : ℕ → List ℕ → Option ℕ
index_in kind text = cond (ltb kind first_indexed) (cond (eqb (length text) 0) (Some 0) None) (told text (number_up_to 255 text))

-- a group's name: the kind's name stands before the first digit
unfoldable pub is_digit : ℕ → Bool
is_digit b = within (code "0") (code "9") b

-- a field of a kind by its number, where there is one
unfoldable pub found : ℕ → ℕ → Option ℕ → Option FieldName
found kind n None = None
found kind n (Some index) =
    cond (ltb kind kind_count && ltb n (field_count kind)) (Some (record { kind = kind; index = index; field = n })) None

-- the field that a name names: what stands before the first dot is the group, what stands behind it the field in the group; a
-- name that ends in its first dot names none
unfoldable pub found_in : List ℕ → List ℕ → Option FieldName
found_in group own =
    let letters = before is_digit group in
    let kind = word_number group_names (take letters group) in
    found kind (word_number (group_of kind).names own) (index_in kind (drop letters group))

unfoldable pub field_named : List ℕ → Option FieldName
field_named name =
    let dot = index_of (code ".") name in
    cond (eqb (dot + 1) (length name)) None (found_in (take dot name) (drop (dot + 1) name))
