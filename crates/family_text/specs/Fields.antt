-- The fields of the text of an aBFT and of an sBFT, as data: docs/RECORD-FORMAT.md, Fields. A field has a number in its
-- family's list; what it is called, how its value is written, in which part of a table it stands and where in it. One
-- description serves entering, where the parts stand as a written table has them, and telling, where they stand as the table
-- says. Assumes nothing: these are definitions.
use Rattle.std.specs.Prelude.{ℕ, List, [], ◌∷◌, cond, length, get_or, eqb}
use Rattle.text.specs.Put.{ascii}
use Rattle.text.specs.Words.{word_at, word_number}
use Rattle.family_text.specs.declared.fields.Notation.{Notation}
use Rattle.family_text.specs.declared.fields.Notation.TheVariants.{Oem, Number, Pairs, Address}
use Rattle.family_text.specs.declared.fields.FieldLayout.{FieldLayout}

-- the families by number, and the number of a line that is of none
abbrev pub ibft : ℕ
ibft = 0

abbrev pub abft : ℕ
abft = 1

abbrev pub sbft : ℕ
sbft = 2

abbrev pub no_family : ℕ
no_family = 3

-- a field of this notation, so many bytes from `at` on in a part: part 0 is the start of the table, 1 to 3 are the SCSI, SRP
-- and IB part
abbrev pub field : Notation → ℕ → ℕ → ℕ → FieldLayout
field notation part at width = record { notation = notation; part = part; at = at; width = width }

abbrev pub ib_part : ℕ
ib_part = 3

-- a family's fields: their names, as words, and what they are
pub record Fields : Type 0 where
  pub names : List ℕ
  pub layout : List FieldLayout

abbrev pub abft_fields : Fields
abft_fields =
    record {
      names = ascii "oem.id oem.table abft.shelf abft.slot abft.mac";
      layout = field Oem 0 10 6 ∷ field Oem 0 16 8 ∷ field Number 0 36 2 ∷ field Number 0 38 1 ∷ field Pairs 0 40 6 ∷ [];
    }

abbrev pub sbft_fields : Fields
sbft_fields =
    record {
      names =
          ascii
          "oem.id oem.table sbft.lun sbft.initiator-port sbft.target-port sbft.source-gid sbft.destination-gid sbft.service sbft.partition-key";
      layout =
          field Oem 0 10 6 ∷ field Oem 0 16 8 ∷ field Pairs 1 0 8 ∷ field Pairs 2 0 16 ∷ field Pairs 2 16 16
          ∷ field Address 3 0 16 ∷ field Address 3 16 16 ∷ field Pairs 3 32 8 ∷ field Number 3 40 2 ∷ [];
    }

-- the sBFT's; of every other number the aBFT's
unfoldable pub fields_of : ℕ → Fields
fields_of family = cond (eqb family sbft) sbft_fields abft_fields

unfoldable pub field_count : ℕ → ℕ
field_count family = length (fields_of family).layout

-- field n; past the last, the first
unfoldable pub field_of : ℕ → ℕ → FieldLayout
field_of family n = get_or (fields_of family).layout n (field Oem 0 10 6)

unfoldable pub name_of : ℕ → ℕ → List ℕ
name_of family n = word_at (fields_of family).names n

-- the number of the field of this name; how many fields there are where none has it
unfoldable pub field_named : ℕ → List ℕ → ℕ
field_named family name = word_number (fields_of family).names name
