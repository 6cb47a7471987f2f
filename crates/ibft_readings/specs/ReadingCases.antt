-- Readings and login orders, worked out by computation. (Bench case 10, the PCI word, stands in LayoutCases.)
use Rattle.std.specs.Prelude.{◌≡◌, refl, List, [], ◌∷◌, ◌++◌, map, ℕ, take}
use Rattle.octets.specs.Counting.{tabulate}
use Rattle.octets.specs.Octets.{byte, word16, word64, bytes_at, le16, le32, zeros, checksum, write}
use Rattle.table_header.specs.Verdict.{refusal, accepted}
use Rattle.ibft_layout.specs.Shapes.{string_words_at}
use Rattle.ibft_readings.specs.Readings.{initiator_in, nic_in, target_in, address_kind_of, address_number, header_of, structure_of}
use Rattle.ibft_readings.specs.Readings.{initiator_of, nic_of, target_of, entry_of, view_of}
use Rattle.ibft_layout.specs.Layout.{Kind, initiator, nic, target, kind_field}
use Rattle.ibft_readings.specs.Login.{login_order_of}
use Rattle.ibft_readings.specs.Computing.{computing}
use Rattle.ibft_readings.specs.declared.address.AddressKind.TheVariants.{Absent, Ipv4Mapped, Other}

-- ---- each field is read where the layout has it, whatever the bytes

at : Kind → ℕ → ℕ
at kind n = (kind_field kind n).at

initiator-places : (p : List ℕ) → initiator_in p
    ≡ record {
      flags = byte p (at initiator 0);
      isns = bytes_at p (at initiator 1) 16;
      slp = bytes_at p (at initiator 2) 16;
      radius = bytes_at p (at initiator 3) 16;
      second_radius = bytes_at p (at initiator 4) 16;
      name = string_words_at p (at initiator 5);
    }
unfolding computing at
initiator-places p = refl

nic-places : (p : List ℕ) → nic_in p
    ≡ record {
      flags = byte p (at nic 0);
      address = bytes_at p (at nic 1) 16;
      prefix = byte p (at nic 2);
      origin = byte p (at nic 3);
      gateway = bytes_at p (at nic 4) 16;
      dns = bytes_at p (at nic 5) 16;
      second_dns = bytes_at p (at nic 6) 16;
      dhcp = bytes_at p (at nic 7) 16;
      vlan = word16 p (at nic 8);
      mac = bytes_at p (at nic 9) 6;
      pci = word16 p (at nic 10);
      host = string_words_at p (at nic 11);
    }
unfolding computing at
nic-places p = refl

target-places : (p : List ℕ) → target_in p
    ≡ record {
      flags = byte p (at target 0);
      address = bytes_at p (at target 1) 16;
      socket = word16 p (at target 2);
      lun = word64 p (at target 3);
      chap_type = byte p (at target 4);
      nic = byte p (at target 5);
      name = string_words_at p (at target 6);
      chap_name = string_words_at p (at target 7);
      chap_secret = string_words_at p (at target 8);
      reverse_name = string_words_at p (at target 9);
      reverse_secret = string_words_at p (at target 10);
    }
unfolding computing at
target-places p = refl

-- ---- addresses

-- ten zero bytes, FF FF, then four
mapped : List ℕ → List ℕ
mapped four = zeros 10 ++ (0xFF ∷ 0xFF ∷ four)

-- the source's example: 192.168.70.35
example : List ℕ
example = mapped (0xC0 ∷ 0xA8 ∷ 0x46 ∷ 0x23 ∷ [])

example-last : byte example 15 ≡ 35
unfolding computing example mapped
example-last = refl

-- all zeros; the example; ::ffff:0.0.0.0; one FF short; fe80::
addresses : List (List ℕ)
addresses = zeros 16 ∷ example ∷ mapped (zeros 4) ∷ (zeros 10 ++ (0xFF ∷ zeros 5)) ∷ (0xFE ∷ 0x80 ∷ zeros 14) ∷ []

address-kinds : map address_kind_of addresses ≡ Absent ∷ Ipv4Mapped ∷ Ipv4Mapped ∷ Other ∷ Other ∷ []
unfolding computing addresses example mapped
address-kinds = refl

address-numbers : map (λ (a : List ℕ). address_number (address_kind_of a)) addresses ≡ 0 ∷ 1 ∷ 1 ∷ 2 ∷ 2 ∷ []
unfolding computing addresses example mapped
address-numbers = refl

-- ---- a table of two targets, at 72 and 128, in this mode and with these flags

target_bytes : ℕ → ℕ → List ℕ
target_bytes index flags = 4 ∷ 1 ∷ 54 ∷ 0 ∷ index ∷ flags ∷ zeros 48

unsummed : ℕ → ℕ → ℕ → List ℕ
unsummed mode first second =
    le32 0x54464269
    ++ (le32 182
    ++ (1 ∷ (zeros 39
    ++ (1 ∷ 1 ∷ 18 ∷ 0 ∷ 0 ∷ mode ∷ (zeros 6
    ++ (le16 72 ++ (le16 0 ++ (le16 128 ++ (zeros 6 ++ (target_bytes 0 first ++ (zeros 2 ++ target_bytes 1 second)))))))))))

two_targets : ℕ → ℕ → ℕ → List ℕ
two_targets mode first second = write (unsummed mode first second) 9 (checksum (unsummed mode first second) 9 ∷ [])

-- ---- login orders: number, how many places are used, the places

login : ℕ → ℕ → ℕ → List ℕ
login mode first second =
    let order = login_order_of (two_targets mode first second) in
    order.refusal.number ∷ order.used ∷ take 2 order.places

-- multi mode: both, ascending, whoever is selected; the second alone. Single mode: nobody selected; the second; both;
-- selected without valid counts for nothing, for the one and for both. A reserved flag: refused.
login-orders : login 0 1 3 ∷ login 0 0 1 ∷ login 1 1 1 ∷ login 1 1 3 ∷ login 1 3 3 ∷ login 1 1 2 ∷ login 1 2 2 ∷ login 1 1 16 ∷ []
    ≡ (0 ∷ 2 ∷ 0 ∷ 1 ∷ [])
    ∷ (0 ∷ 1 ∷ 1 ∷ 255 ∷ [])
    ∷ (0 ∷ 2 ∷ 0 ∷ 1 ∷ [])
    ∷ (0 ∷ 2 ∷ 1 ∷ 0 ∷ [])
    ∷ (0 ∷ 2 ∷ 0 ∷ 1 ∷ [])
    ∷ (0 ∷ 1 ∷ 0 ∷ 255 ∷ [])
    ∷ (0 ∷ 0 ∷ 255 ∷ 255 ∷ [])
    ∷ (10 ∷ 0 ∷ 255 ∷ 255 ∷ [])
    ∷ []
unfolding computing login two_targets unsummed target_bytes
login-orders = refl

-- ---- readings of such a table

-- present: its ID, start and flags
second-target : structure_of (two_targets 0 1 3) 4 ≡ record { refusal = accepted; id = 4; index = 1; start = 128; flags = 3 }
unfolding computing two_targets unsummed target_bytes
second-target = refl

-- missing is 22: initiator, NIC 1, Target 0's name, slots 5 and 16, NIC 2, entries 13 and 48; not there at all is 23: slot 17,
-- NIC 8, Target 255, entry 49
refusal-numbers : (initiator_of (two_targets 0 1 3)).refusal.number
    ∷ (nic_of (two_targets 0 1 3) 1).refusal.number
    ∷ (entry_of (two_targets 0 1 3) 2).refusal.number
    ∷ (structure_of (two_targets 0 1 3) 5).refusal.number
    ∷ (structure_of (two_targets 0 1 3) 16).refusal.number
    ∷ (nic_of (two_targets 0 1 3) 2).refusal.number
    ∷ (entry_of (two_targets 0 1 3) 13).refusal.number
    ∷ (entry_of (two_targets 0 1 3) 48).refusal.number
    ∷ (structure_of (two_targets 0 1 3) 17).refusal.number
    ∷ (nic_of (two_targets 0 1 3) 8).refusal.number
    ∷ (target_of (two_targets 0 1 3) 255).refusal.number
    ∷ (entry_of (two_targets 0 1 3) 49).refusal.number
    ∷ []
    ≡ 22 ∷ 22 ∷ 22 ∷ 22 ∷ 22 ∷ 22 ∷ 22 ∷ 22 ∷ 23 ∷ 23 ∷ 23 ∷ 23 ∷ []
unfolding computing two_targets unsummed target_bytes
refusal-numbers = refl

-- a wrong sum: 0 stands at 9, and each reading and the login order tell the byte that would be right
checksum-told : (header_of (unsummed 0 1 3)).refusal
    ∷ (structure_of (unsummed 0 1 3) 4).refusal
    ∷ (initiator_of (unsummed 0 1 3)).refusal
    ∷ (nic_of (unsummed 0 1 3) 0).refusal
    ∷ (target_of (unsummed 0 1 3) 1).refusal
    ∷ (entry_of (unsummed 0 1 3) 2).refusal
    ∷ (login_order_of (unsummed 0 1 3)).refusal
    ∷ []
    ≡ tabulate (λ (i : ℕ). record { number = 6; place = 9; checksum = 173 }) 0 7
unfolding computing unsummed target_bytes
checksum-told = refl

-- the check comes first, with its number and place; refused, every field is 0 and a view is empty
check-first : (structure_of (two_targets 0 1 16) 9 ≡ record { refusal = refusal 10 133; id = 0; index = 0; start = 0; flags = 0 })
    × ((target_of (two_targets 0 1 16) 0).fields ≡ target_in [])
    × (view_of (two_targets 0 1 16) 2 ≡ [])
unfolding computing two_targets unsummed target_bytes
check-first = (refl, refl, refl)
