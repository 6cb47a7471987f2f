-- Of byte lists, equal readings and equal bytes are the same: the flags and fields of a reading, laid out again, are the bytes
-- from 5 up to the first string word, and read back from there they are the same flags and fields.
--     initiator-laid, initiator-read     the two ways, for a list that holds these bytes
--     initiator-same                     so two readings agree in flags and fields exactly where these bytes do
-- and so for NICs and Targets. Assumes nothing.
use mathlib.Core.Path.{◌≡◌, refl, sym, ap, ap₂, ◌∙◌}
use mathlib.Core.Logic.{◌↔◌}
use mathlib.Core.List.{List, [], ◌∷◌, ◌++◌}
use Prim.Native.Nat.{ℕ, ◌≤◌, ◌<◌}
use lib.ListN.{length}
use Rattle.octets.specs.Octets.{byte, part, bytes_past, bytes_at, zeros}
use Rattle.octets.proofs.ReadLaws.{bytes-part}
use Rattle.octets.proofs.WordLaws.{two, le16-word, le64-word}
use Rattle.ibft_layout.specs.Layout.{initiator, nic, target}
use Rattle.ibft_table.specs.Record.{body_size}
use Rattle.ibft_readings.specs.Readings.{initiator_in, nic_in, target_in}
use Rattle.ibft_layout.specs.declared.nic.Nic.{Nic}
use Rattle.ibft_layout.specs.declared.target.Target.{Target}
use Rattle.ibft_table_laws.specs.Bodies.{initiator_fields, nic_fields, target_fields, initiator_body, nic_body, target_body, initiator_from, nic_from, target_from}

-- ---- the initiator

module _ (p : List ℕ) (long : initiator.strings_at ≤ length p) where
  initiator-bytes : bytes_at p 5 (body_size initiator) ≡ part p 5 (body_size initiator)
  initiator-bytes = bytes-part p 5 (body_size initiator) long

  pub initiator-laid : initiator_body (initiator_in p) ≡ part p 5 (body_size initiator)
  unfolding initiator_body initiator_in bytes_past
  initiator-laid = laid ∙ initiator-bytes
    where
      laid : initiator_body (initiator_in p) ≡ bytes_at p 5 (body_size initiator)
      laid = refl

  pub initiator-read : initiator_from (part p 5 (body_size initiator)) ≡ initiator_fields (initiator_in p)
  unfolding initiator_from initiator_fields initiator_in bytes_past zeros
  initiator-read = ap initiator_from (sym initiator-bytes) ∙ back
    where
      back : initiator_from (bytes_at p 5 (body_size initiator)) ≡ initiator_fields (initiator_in p)
      back = refl

module _ (p q : List ℕ) (long : initiator.strings_at ≤ length p) (long' : initiator.strings_at ≤ length q) where
  pub initiator-same : (initiator_fields (initiator_in p) ≡ initiator_fields (initiator_in q)) ↔ (part p 5 (body_size initiator) ≡ part q 5 (body_size initiator))
  unfolding initiator_body initiator_fields
  initiator-same = (
    λ e. sym (initiator-laid p long) ∙ ap initiator_body e ∙ initiator-laid q long',
    λ e. sym (initiator-read p long) ∙ ap initiator_from e ∙ initiator-read q long',
  )

-- ---- a NIC

module _ (p : List ℕ) (long : nic.strings_at ≤ length p) where
  nic-bytes : bytes_at p 5 (body_size nic) ≡ part p 5 (body_size nic)
  nic-bytes = bytes-part p 5 (body_size nic) long

  pub nic-laid : ((i : ℕ) → byte p i < 256) → nic_body (nic_in p) ≡ part p 5 (body_size nic)
  unfolding nic_body nic_in bytes_past two
  nic-laid bytes = ap₂ around (le16-word p bytes 88) (le16-word p bytes 96) ∙ nic-bytes
    where
      r : Nic
      r = nic_in p

      -- the body round the bytes of VLAN and PCI word
      around : List ℕ → List ℕ → List ℕ
      around vlan pci =
          r.flags
          ∷ (r.address
          ++ (r.prefix ∷ (r.origin ∷ (r.gateway ++ (r.dns ++ (r.second_dns ++ (r.dhcp ++ (vlan ++ (r.mac ++ pci)))))))))

  pub nic-read : nic_from (part p 5 (body_size nic)) ≡ nic_fields (nic_in p)
  unfolding nic_from nic_fields nic_in bytes_past zeros
  nic-read = ap nic_from (sym nic-bytes) ∙ back
    where
      back : nic_from (bytes_at p 5 (body_size nic)) ≡ nic_fields (nic_in p)
      back = refl

module _ (p q : List ℕ) (long : nic.strings_at ≤ length p) (long' : nic.strings_at ≤ length q)
    (bytes : (i : ℕ) → byte p i < 256) (bytes' : (i : ℕ) → byte q i < 256)
  where
    pub nic-same : (nic_fields (nic_in p) ≡ nic_fields (nic_in q)) ↔ (part p 5 (body_size nic) ≡ part q 5 (body_size nic))
    unfolding nic_body nic_fields
    nic-same = (
      λ e. sym (nic-laid p long bytes) ∙ ap nic_body e ∙ nic-laid q long' bytes',
      λ e. sym (nic-read p long) ∙ ap nic_from e ∙ nic-read q long',
    )

-- ---- a Target

module _ (p : List ℕ) (long : target.strings_at ≤ length p) where
  target-bytes : bytes_at p 5 (body_size target) ≡ part p 5 (body_size target)
  target-bytes = bytes-part p 5 (body_size target) long

  pub target-laid : ((i : ℕ) → byte p i < 256) → target_body (target_in p) ≡ part p 5 (body_size target)
  unfolding target_body target_in bytes_past two
  target-laid bytes = ap₂ around (le16-word p bytes 22) (le64-word p bytes 24) ∙ target-bytes
    where
      r : Target
      r = target_in p

      -- the body round the bytes of socket and LUN
      around : List ℕ → List ℕ → List ℕ
      around socket lun = r.flags ∷ (r.address ++ (socket ++ (lun ++ (r.chap_type ∷ (r.nic ∷ [])))))

  pub target-read : target_from (part p 5 (body_size target)) ≡ target_fields (target_in p)
  unfolding target_from target_fields target_in bytes_past zeros
  target-read = ap target_from (sym target-bytes) ∙ back
    where
      back : target_from (bytes_at p 5 (body_size target)) ≡ target_fields (target_in p)
      back = refl

module _ (p q : List ℕ) (long : target.strings_at ≤ length p) (long' : target.strings_at ≤ length q)
    (bytes : (i : ℕ) → byte p i < 256) (bytes' : (i : ℕ) → byte q i < 256)
  where
    pub target-same : (target_fields (target_in p) ≡ target_fields (target_in q)) ↔ (part p 5 (body_size target) ≡ part q 5 (body_size target))
    unfolding target_body target_fields
    target-same = (
      λ e. sym (target-laid p long bytes) ∙ ap target_body e ∙ target-laid q long' bytes',
      λ e. sym (target-read p long) ∙ ap target_from e ∙ target-read q long',
    )
