-- Worked texts by computation: of which family they are, and which line of them is of another.
use Rattle.std.specs.Prelude.{◌≡◌, refl, List, [], ◌∷◌, map, ℕ}
use Prim.Native.String.{String}
use Rattle.text.specs.Put.{ascii}
use Rattle.text.specs.Split.{join}
use Rattle.family_text.specs.Fields.{ibft, abft, sbft, no_family}
use Rattle.family_text.specs.Family.{line_family, text_family, stray_in}
use Rattle.family_text.specs.Computing.{computing}
use Rattle.family_text.specs.declared.family.Stray.{Stray}

-- lines with a line feed between each two
text : List String → List ℕ
text lines = join 10 (map (λ (s : String). ascii s) lines)

lines : map line_family
    (ascii "abft.shelf 7" ∷ ascii " sbft.lun x" ∷ ascii "control multi" ∷ ascii "initiator.name i" ∷ ascii "nic12.mac" ∷ ascii "target" ∷ ascii "oem.id M"
    ∷ ascii "initiator" ∷ ascii "ABFT.slot" ∷ ascii "abft" ∷ ascii "# abft.slot 1" ∷ ascii "" ∷ ascii "x abft.slot" ∷ [])
    ≡ abft ∷ sbft ∷ ibft ∷ ibft ∷ ibft ∷ ibft ∷ no_family ∷ no_family ∷ no_family ∷ no_family ∷ no_family ∷ no_family ∷ no_family ∷ []
unfolding computing
lines = refl

-- a line without a family says nothing of the text's; a text without one is an iBFT's
texts : map text_family
    (text [] ∷ text ("oem.id M" ∷ "# abft.shelf" ∷ []) ∷ text ("oem.id M" ∷ "" ∷ "sbft.lun 1" ∷ "abft.slot 2" ∷ [])
    ∷ text ("nic0.vlan 1" ∷ "abft.slot 2" ∷ []) ∷ [])
    ≡ ibft ∷ ibft ∷ sbft ∷ ibft ∷ []
unfolding computing text
texts = refl

stray : ℕ → ℕ → Stray
stray line family = record { line = line; family = family }

strays : map stray_in
    (text ("abft.shelf 1" ∷ "oem.id M" ∷ "abft.slot 2" ∷ [])
    ∷ text ("abft.shelf 1" ∷ "oem.id M" ∷ "control multi" ∷ "sbft.lun 1" ∷ [])
    ∷ text ("" ∷ "nic0.vlan 1" ∷ "sbft.lun" ∷ [])
    ∷ [])
    ≡ stray 0 0 ∷ stray 3 ibft ∷ stray 3 sbft ∷ []
unfolding computing text stray
strays = refl
