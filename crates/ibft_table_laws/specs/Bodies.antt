-- The flags and fields of a structure's reading: the reading with its strings left out, and its bytes laid out again, from the
-- flags up to the first string word. Assumes nothing: these are definitions.
use Rattle.std.specs.Prelude.{ℕ, List, [], ◌∷◌, ◌++◌}
use Rattle.octets.specs.Octets.{le16, le64, zeros}
use Rattle.ibft_readings.specs.Readings.{initiator_in, nic_in, target_in}
use Rattle.ibft_layout.specs.declared.string_words.StringWords.{StringWords}
use Rattle.ibft_layout.specs.declared.initiator.Initiator.{Initiator}
use Rattle.ibft_layout.specs.declared.nic.Nic.{Nic}
use Rattle.ibft_layout.specs.declared.target.Target.{Target}

abbrev pub no_text : StringWords
no_text = record { length = 0; offset = 0 }

-- ---- strings left out

unfoldable pub initiator_fields : Initiator → Initiator
initiator_fields r =
    record { flags = r.flags; isns = r.isns; slp = r.slp; radius = r.radius; second_radius = r.second_radius; name = no_text }

unfoldable pub nic_fields : Nic → Nic
nic_fields r =
    record {
      flags = r.flags;
      address = r.address;
      prefix = r.prefix;
      origin = r.origin;
      gateway = r.gateway;
      dns = r.dns;
      second_dns = r.second_dns;
      dhcp = r.dhcp;
      vlan = r.vlan;
      mac = r.mac;
      pci = r.pci;
      host = no_text;
    }

unfoldable pub target_fields : Target → Target
target_fields r =
    record {
      flags = r.flags;
      address = r.address;
      socket = r.socket;
      lun = r.lun;
      chap_type = r.chap_type;
      nic = r.nic;
      name = no_text;
      chap_name = no_text;
      chap_secret = no_text;
      reverse_name = no_text;
      reverse_secret = no_text;
    }

-- ---- laid out again

unfoldable pub initiator_body : Initiator → List ℕ
initiator_body r = r.flags ∷ (r.isns ++ (r.slp ++ (r.radius ++ r.second_radius)))

unfoldable pub nic_body : Nic → List ℕ
nic_body r =
    r.flags
    ∷ (r.address
    ++ (r.prefix
    ∷ (r.origin ∷ (r.gateway ++ (r.dns ++ (r.second_dns ++ (r.dhcp ++ (le16 r.vlan ++ (r.mac ++ le16 r.pci)))))))))

unfoldable pub target_body : Target → List ℕ
target_body r = r.flags ∷ (r.address ++ (le16 r.socket ++ (le64 r.lun ++ (r.chap_type ∷ (r.nic ∷ [])))))

-- ---- read from the flags on: ID, Version, Length and Index are no part of it

unfoldable pub initiator_from : List ℕ → Initiator
initiator_from body = initiator_fields (initiator_in (zeros 5 ++ body))

unfoldable pub nic_from : List ℕ → Nic
nic_from body = nic_fields (nic_in (zeros 5 ++ body))

unfoldable pub target_from : List ℕ → Target
target_from body = target_fields (target_in (zeros 5 ++ body))
