-- How the fields of a reading are laid out as bytes: in the table's own order, from the flags of the structure on, numbers
-- little endian, of each string its length and offset words. Assumes nothing: these are definitions.
use Rattle.std.specs.Prelude.{ℕ, List, [], ◌∷◌, ◌++◌}
use Rattle.octets.specs.Octets.{le16, le32, le64}
use Rattle.abft.specs.declared.fields.Abft.{Abft}
use Rattle.sbft.specs.declared.fields.Start.{Start}
use Rattle.sbft.specs.declared.fields.Scsi.{Scsi}
use Rattle.sbft.specs.declared.fields.Srp.{Srp}
use Rattle.sbft.specs.declared.fields.Ib.{Ib}
use Rattle.ibft_layout.specs.declared.string_words.StringWords.{StringWords}
use Rattle.ibft_layout.specs.declared.header.Header.{Header}
use Rattle.ibft_layout.specs.declared.initiator.Initiator.{Initiator}
use Rattle.ibft_layout.specs.declared.nic.Nic.{Nic}
use Rattle.ibft_layout.specs.declared.target.Target.{Target}
use Rattle.ibft_compare.specs.declared.difference.Difference.{Difference}
use Rattle.ibft_compare.specs.declared.difference.Difference.TheVariants.{Nothing, OemId, OemTableId, ControlFlags, Presence, Field, Entry}
use Rattle.ibft_compare.specs.declared.difference.Stretch.{Stretch}
use Rattle.ibft_compare.specs.declared.difference.DifferenceReading.{DifferenceReading}

abbrev pub laid_text : StringWords → List ℕ
laid_text s = le16 s.length ++ le16 s.offset

-- the OEM fields and Control's flags
unfoldable pub laid_header : Header → List ℕ
laid_header h = h.oem_id ++ (h.oem_table_id ++ (h.flags ∷ []))

unfoldable pub laid_initiator : Initiator → List ℕ
laid_initiator i =
    i.flags
    ∷ (i.isns
    ++ (i.slp
    ++ (i.radius
    ++ (i.second_radius
    ++ laid_text i.name))))

unfoldable pub laid_nic : Nic → List ℕ
laid_nic n =
    n.flags
    ∷ (n.address
    ++ (n.prefix
    ∷ n.origin
    ∷ (n.gateway
    ++ (n.dns
    ++ (n.second_dns
    ++ (n.dhcp
    ++ (le16 n.vlan
    ++ (n.mac
    ++ (le16 n.pci
    ++ laid_text n.host)))))))))

unfoldable pub laid_target : Target → List ℕ
laid_target t =
    t.flags
    ∷ (t.address
    ++ (le16 t.socket
    ++ (le64 t.lun
    ++ (t.chap_type
    ∷ t.nic
    ∷ (laid_text t.name
    ++ (laid_text t.chap_name
    ++ (laid_text t.chap_secret
    ++ (laid_text t.reverse_name
    ++ laid_text t.reverse_secret))))))))

-- ---- the other two families

unfoldable pub laid_abft : Abft → List ℕ
laid_abft a = a.oem_id ++ (a.oem_table_id ++ (le16 a.shelf ++ (a.slot ∷ a.mac)))

unfoldable pub laid_start : Start → List ℕ
laid_start s = s.oem_id ++ s.oem_table_id

unfoldable pub laid_scsi : Scsi → List ℕ
laid_scsi s = s.lun

unfoldable pub laid_srp : Srp → List ℕ
laid_srp s = s.initiator_port ++ s.target_port

unfoldable pub laid_ib : Ib → List ℕ
laid_ib i = i.source_gid ++ (i.destination_gid ++ (i.service ++ le16 i.partition_key))

-- ---- a difference of two tables

-- the number of what differs, the structure's ID and Index, and where it stands in the structure
abbrev pub laid_name : ℕ → ℕ → ℕ → ℕ → List ℕ
laid_name number id index at = number ∷ id ∷ index ∷ le16 at

-- what differs; whatever it is not named by is 0
unfoldable pub laid_what : Difference → List ℕ
laid_what Nothing = laid_name 0 0 0 0
laid_what OemId = laid_name 1 0 0 0
laid_what OemTableId = laid_name 2 0 0 0
laid_what ControlFlags = laid_name 3 0 0 0
laid_what (Presence id index) = laid_name 4 id index 0
laid_what (Field id index at) = laid_name 5 id index at
laid_what (Entry id index at) = laid_name 6 id index at

-- where it starts and how many bytes it has
abbrev pub laid_stretch : Stretch → List ℕ
laid_stretch s = le32 s.start ++ le16 s.length

-- what differs, where each table has it, and what is shown of it
unfoldable pub laid_difference : DifferenceReading → List ℕ
laid_difference d = laid_what d.difference ++ (laid_stretch d.left ++ (laid_stretch d.right ++ laid_stretch d.shown))
