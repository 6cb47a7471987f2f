-- How the readings' answers are packed into one 64-bit number: bits 0 to 7 the refusal's number, bits 8 to 31 its place, from
-- bit 32 on its checksum byte, or what was read: then the byte has an export of its own. The place is taken modulo 2^24, so
-- that it keeps to its bits whatever the reading answers.
-- Assumes nothing: these are definitions.
use Rattle.std.specs.Prelude.{ℕ, ◌+◌, ◌*◌, ◌%◌, ◌^◌}
use Rattle.octets.specs.Octets.{byte}
use Rattle.table_header.specs.declared.verdict.Refusal.{Refusal}
use Rattle.ibft_readings.specs.declared.structure.StructureReading.{StructureReading}
use Rattle.ibft_readings.specs.declared.entry.EntryReading.{EntryReading}
use Rattle.ibft_readings.specs.declared.login.LoginOrder.{LoginOrder}
use Rattle.ibft_readings.specs.declared.pci.Pci.{Pci}
use Rattle.ibft_compare.specs.declared.difference.Compared.{Compared}

-- number and place
abbrev pub packed_place : Refusal → ℕ
packed_place r = r.number + 2 ^ 8 * (r.place % 2 ^ 24)

-- and the checksum byte
abbrev pub packed_refusal : Refusal → ℕ
packed_refusal r = packed_place r + 2 ^ 32 * r.checksum

-- and, of two tables, whose it is, from bit 40 on: 0 the left one's, 1 the right one's
abbrev pub packed_side : Refusal → ℕ → ℕ
packed_side r side = packed_refusal r + 2 ^ 40 * side

-- and how many differences they have, from bit 48 on
abbrev pub packed_compared : Compared → ℕ
packed_compared c = packed_side c.refusal c.side + 2 ^ 48 * c.count

-- ID, start and flags from bits 32, 40 and 56 on
abbrev pub packed_structure : StructureReading → ℕ
packed_structure r = packed_place r.refusal + 2 ^ 32 * r.id + 2 ^ 40 * r.start + 2 ^ 56 * r.flags

-- how many places are used, and the first two of them, from bits 32, 40 and 48 on
abbrev pub packed_order : LoginOrder → ℕ
packed_order r = packed_place r.refusal + 2 ^ 32 * r.used + 2 ^ 40 * byte r.places 0 + 2 ^ 48 * byte r.places 1

-- An entry's place has a number of its own: beside number and place of a refusal there is no room for both of its words.
abbrev pub packed_entry_place : EntryReading → ℕ
packed_entry_place r = r.offset + 2 ^ 16 * r.length

abbrev pub packed_pci : Pci → ℕ
packed_pci p = p.bus + 2 ^ 8 * p.device + 2 ^ 16 * p.function
