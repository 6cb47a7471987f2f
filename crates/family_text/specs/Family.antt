-- The family of a line and of a text: docs/RECORD-FORMAT.md, Lines and Families. Assumes nothing: these are definitions.
use Rattle.std.specs.Prelude.{ℕ, suc, List, [], ◌∷◌, Bool, cond, ◌||◌, length, eqb, Option, None, Some}
use Prim.Native.Char.{code}
use Rattle.octets.specs.Octets.{byte, part}
use Rattle.text.specs.Put.{ascii}
use Rattle.text.specs.Split.{same, trim, field_of as field_text, pieces}
use Rattle.family_text.specs.Fields.{ibft, abft, sbft, no_family}
use Rattle.family_text.specs.declared.family.Stray.{Stray}

-- ---- a line

-- a line without the blanks at its ends says nothing where it is empty or starts with #
unfoldable pub says_nothing : List ℕ → Bool
says_nothing line = eqb (length line) 0 || eqb (byte line 0) (code "#")

-- the name begins with these bytes
unfoldable pub begins : List ℕ → List ℕ → Bool
begins front name = same (part name 0 (length front)) front

-- the names of an iBFT's fields, but for the OEM fields, which belong to every family
unfoldable pub is_ibft : List ℕ → Bool
is_ibft name = begins (ascii "control") name || begins (ascii "initiator.") name || begins (ascii "nic") name || begins (ascii "target") name

-- the family of a field by its name
unfoldable pub family_named : List ℕ → ℕ
family_named name =
    cond (begins (ascii "abft.") name) abft (cond (begins (ascii "sbft.") name) sbft (cond (is_ibft name) ibft no_family))

-- .. of a line
unfoldable pub line_family : List ℕ → ℕ
line_family line = cond (says_nothing (trim line)) no_family (family_named (field_text (trim line)))

-- ---- a text

-- the family of the first line that has one; the iBFT where none has
unfoldable pub first_family : List (List ℕ) → ℕ
first_family [] = ibft
first_family (l ∷ ls) = cond (eqb (line_family l) no_family) (first_family ls) (line_family l)

-- of all lines of the text, which end at line feeds
unfoldable pub text_family : List ℕ → ℕ
text_family text = first_family (pieces 10 text)

-- the first line that has a family and not this one, and its family; 0 and 0 where there is none. The first line here has
-- number n.
unfoldable pub stray_from : ℕ → ℕ → List (List ℕ) → Stray
stray_from family n [] = record { line = 0; family = 0 }
stray_from family n (l ∷ ls) =
    cond (eqb (line_family l) no_family || eqb (line_family l) family) (stray_from family (suc n) ls) (record { line = n; family = line_family l })

-- .. and not the text's; lines are counted from 1
unfoldable pub stray_in : List ℕ → Stray
stray_in text = stray_from (text_family text) 1 (pieces 10 text)

-- as the code answers it
abbrev pub stray_read : Stray → Option Stray
stray_read s = cond (eqb s.line 0) None (Some s)
