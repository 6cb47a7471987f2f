-- Readings of a table: the check, then 23, then 22; refused, a view is empty and every field is 0.
-- Assumes nothing: these are definitions.
use Rattle.std.specs.Prelude.{ℕ, ◌+◌, ◌/◌, ◌%◌, List, [], ◌∷◌, ◌++◌, cond, not, ◌&&◌, drop, leb, eqb, Ok, Err}
use Rattle.octets.specs.Octets.{byte, word16, word64, part, bytes_at, all_zero}
use Rattle.ibft_layout.specs.Layout.{kind_of, slot_count, entry_count, nic_slot, target_slot, slot_at, entry_at}
use Rattle.ibft_layout.specs.Shapes.{string_words_at}
use Rattle.table_header.specs.Verdict.{refuse, first_of, refusal_of, shown, Verdict, Accepted}
use Rattle.ibft_table.specs.Table.{starts_of, start_in, present_in, index_in, nics_in, size_in, offset_in, holds_in}
use Rattle.ibft_table.specs.Check.{check_tests, check_of}
use Rattle.ibft_layout.specs.declared.control.Control.{Control}
use Rattle.ibft_layout.specs.declared.header.Header.{Header}
use Rattle.ibft_layout.specs.declared.initiator.Initiator.{Initiator}
use Rattle.ibft_layout.specs.declared.nic.Nic.{Nic}
use Rattle.ibft_layout.specs.declared.target.Target.{Target}
use Rattle.ibft_readings.specs.declared.header.HeaderReading.{HeaderReading}
use Rattle.ibft_readings.specs.declared.structure.StructureReading.{StructureReading}
use Rattle.ibft_readings.specs.declared.initiator.InitiatorReading.{InitiatorReading}
use Rattle.ibft_readings.specs.declared.nic.NicReading.{NicReading}
use Rattle.ibft_readings.specs.declared.target.TargetReading.{TargetReading}
use Rattle.ibft_readings.specs.declared.entry.EntryReading.{EntryReading}
use Rattle.ibft_readings.specs.declared.address.AddressKind.{AddressKind}
use Rattle.ibft_readings.specs.declared.address.AddressKind.TheVariants.{Absent, Ipv4Mapped, Other}
use Rattle.ibft_readings.specs.declared.pci.Pci.{Pci}

-- ---- fields, from the bytes that start at the table (header) or at the structure; of no bytes every field is 0

unfoldable pub header_in : List ℕ → Header
header_in t = record { oem_id = bytes_at t 10 6; oem_table_id = bytes_at t 16 8; flags = byte t 53 }

abbrev pub control_in : List ℕ → Control
control_in p = record { flags = byte p 5 }

unfoldable pub initiator_in : List ℕ → Initiator
initiator_in p =
    record {
      flags = byte p 5;
      isns = bytes_at p 6 16;
      slp = bytes_at p 22 16;
      radius = bytes_at p 38 16;
      second_radius = bytes_at p 54 16;
      name = string_words_at p 70;
    }

unfoldable pub nic_in : List ℕ → Nic
nic_in p =
    record {
      flags = byte p 5;
      address = bytes_at p 6 16;
      prefix = byte p 22;
      origin = byte p 23;
      gateway = bytes_at p 24 16;
      dns = bytes_at p 40 16;
      second_dns = bytes_at p 56 16;
      dhcp = bytes_at p 72 16;
      vlan = word16 p 88;
      mac = bytes_at p 90 6;
      pci = word16 p 96;
      host = string_words_at p 98;
    }

unfoldable pub target_in : List ℕ → Target
target_in p =
    record {
      flags = byte p 5;
      address = bytes_at p 6 16;
      socket = word16 p 22;
      lun = word64 p 24;
      chap_type = byte p 32;
      nic = byte p 33;
      name = string_words_at p 34;
      chap_name = string_words_at p 38;
      chap_secret = string_words_at p 42;
      reverse_name = string_words_at p 46;
      reverse_secret = string_words_at p 50;
    }

-- an address: absent where all bytes are zero; IPv4-mapped where ten zero bytes and FF FF stand before the last four
unfoldable pub address_kind_of : List ℕ → AddressKind
address_kind_of a =
    cond (all_zero a) Absent
    (cond (all_zero (part a 0 10) && (eqb (byte a 10) 0xFF && eqb (byte a 11) 0xFF)) Ipv4Mapped Other)

-- the number of each kind
abbrev pub address_number : AddressKind → ℕ
address_number Absent = 0
address_number Ipv4Mapped = 1
address_number Other = 2

-- the PCI word is bus x 256 + device x 8 + function
unfoldable pub pci_of : ℕ → Pci
pci_of word = record { bus = word / 256; device = word / 8 % 32; function = word % 8 }

-- ---- readings

-- the OEM fields and Control's flags: the check's refusals only
unfoldable pub header_of : List ℕ → HeaderReading
header_of t = record { refusal = refusal_of (check_of t); header = header_in (shown (check_of t) t) }

-- the slot that callers call `number`, and the entry
abbrev pub slot_called : List ℕ → ℕ → ℕ
slot_called starts number = slot_at (nics_in starts) number

abbrev pub entry_called : List ℕ → ℕ → ℕ
entry_called starts number = entry_at (nics_in starts) number

-- slot k, asked for by this number: the check, then 23 for a number above 16, then 22 for a structure that is missing
unfoldable pub slot_verdict : List ℕ → List ℕ → ℕ → ℕ → Verdict
slot_verdict starts t number k =
    first_of (check_tests t ++ (refuse 23 0 (leb slot_count number) ∷ refuse 22 0 (not (present_in starts k)) ∷ []))

-- the table from slot k's structure on; nothing where its reading is refused
unfoldable pub structure_in : List ℕ → List ℕ → Verdict → ℕ → List ℕ
structure_in starts t v k = shown v (drop (start_in starts k) t)

-- its Index; 0 where its reading is refused
unfoldable pub index_shown : List ℕ → List ℕ → Verdict → ℕ → ℕ
index_shown starts t (Ok u) k = index_in starts t k
index_shown starts t (Err r) k = 0

-- its kind as its ID, its Index, its start, its flags
unfoldable pub structure_from : List ℕ → List ℕ → ℕ → Verdict → StructureReading
structure_from starts t k (Ok u) =
    record {
      refusal = refusal_of Accepted;
      id = (kind_of k).id;
      index = index_in starts t k;
      start = start_in starts k;
      flags = byte t (start_in starts k + 5);
    }
structure_from starts t k (Err r) = record { refusal = r; id = 0; index = 0; start = 0; flags = 0 }

unfoldable pub structure_got : List ℕ → List ℕ → ℕ → StructureReading
structure_got starts t number =
    structure_from starts t (slot_called starts number) (slot_verdict starts t number (slot_called starts number))

unfoldable pub structure_of : List ℕ → ℕ → StructureReading
structure_of t number = structure_got (starts_of t) t number

-- the table from that structure on
unfoldable pub structure_view_got : List ℕ → List ℕ → ℕ → List ℕ
structure_view_got starts t number =
    structure_in starts t (slot_verdict starts t number (slot_called starts number)) (slot_called starts number)

unfoldable pub structure_view_of : List ℕ → ℕ → List ℕ
structure_view_of t number = structure_view_got (starts_of t) t number

-- the initiator, NIC n and Target n: each read from its own offset in the table. NIC n and Target n are the n-th by Index, the
-- named ones first: 23 for n above 7
unfoldable pub initiator_of : List ℕ → InitiatorReading
initiator_of t =
    let v = slot_verdict (starts_of t) t 0 0 in
    record { refusal = refusal_of v; fields = initiator_in (structure_in (starts_of t) t v 0) }

unfoldable pub nic_of : List ℕ → ℕ → NicReading
nic_of t n =
    let v = slot_verdict (starts_of t) t (nic_slot n) (nic_slot n) in
    record {
      refusal = refusal_of v;
      index = index_shown (starts_of t) t v (nic_slot n);
      fields = nic_in (structure_in (starts_of t) t v (nic_slot n));
    }

unfoldable pub target_of : List ℕ → ℕ → TargetReading
target_of t n =
    let v = slot_verdict (starts_of t) t (target_slot n) (target_slot n) in
    record {
      refusal = refusal_of v;
      index = index_shown (starts_of t) t v (target_slot n);
      fields = target_in (structure_in (starts_of t) t v (target_slot n));
    }

-- entry n, asked for by this number: the check, then 23 for a number above 48, then 22 for an entry that is missing
unfoldable pub entry_verdict : List ℕ → List ℕ → ℕ → ℕ → Verdict
entry_verdict starts t number n =
    first_of (check_tests t ++ (refuse 23 0 (leb entry_count number) ∷ refuse 22 0 (not (holds_in starts t n)) ∷ []))

-- where it stands
unfoldable pub entry_from : List ℕ → List ℕ → ℕ → Verdict → EntryReading
entry_from starts t n (Ok u) = record { refusal = refusal_of Accepted; offset = offset_in starts t n; length = size_in starts t n }
entry_from starts t n (Err r) = record { refusal = r; offset = 0; length = 0 }

unfoldable pub entry_got : List ℕ → List ℕ → ℕ → EntryReading
entry_got starts t number = entry_from starts t (entry_called starts number) (entry_verdict starts t number (entry_called starts number))

unfoldable pub entry_of : List ℕ → ℕ → EntryReading
entry_of t number = entry_got (starts_of t) t number

-- that stretch of the table
unfoldable pub view_got : List ℕ → List ℕ → ℕ → List ℕ
view_got starts t number =
    shown (entry_verdict starts t number (entry_called starts number))
    (part t (offset_in starts t (entry_called starts number)) (size_in starts t (entry_called starts number)))

unfoldable pub view_of : List ℕ → ℕ → List ℕ
view_of t number = view_got (starts_of t) t number
