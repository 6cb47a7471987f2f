-- What the code keeps of the layout's data, in the types that the code declares. Assumes nothing: these are definitions.
use Rattle.std.specs.Prelude.{ℕ, ◌+◌, List, [], ◌∷◌, ◌++◌}
use Rattle.octets.specs.Octets.{le16, word16}
use Rattle.ibft_layout.specs.Layout.{Kind, Field, StringField}
use Rattle.ibft_layout.specs.declared.shape.Shape.{Shape}
use Rattle.ibft_layout.specs.declared.shape.FieldShape.{FieldShape}
use Rattle.ibft_layout.specs.declared.shape.StringShape.{StringShape}
use Rattle.ibft_layout.specs.declared.string_words.StringWords.{StringWords}

-- of a kind: what its structures start with, the flag bits not named, whether they have a CHAP type
abbrev pub shape_of : Kind → Shape
shape_of kind =
    record { id = kind.id; version = kind.version; length = kind.length; reserved = kind.reserved; chap = kind.chap }

-- what a structure of this shape starts with, up to its flags: ID, Version, Length, Index
abbrev pub shape_start : Shape → ℕ → List ℕ
shape_start shape index = shape.id ∷ shape.version ∷ (le16 shape.length ++ (index ∷ []))

-- a field, as it is
abbrev pub field_shape : Field → FieldShape
field_shape f = record { at = f.at; width = f.width }

-- a string, as it is
abbrev pub string_shape : StringField → StringShape
string_shape s = record { at = s.at; longest = s.longest; host = s.host; secret = s.secret }

-- the two words of a string that stand at i: its length, its offset
abbrev pub string_words_at : List ℕ → ℕ → StringWords
string_words_at p i = record { length = word16 p i; offset = word16 p (i + 2) }
