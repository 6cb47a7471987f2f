-- `test_address_kind` meets its contract, by cases of the kind. Assumes nothing.
use mathlib.Core.Path.{sym, ap, ◌∙◌}
use Rattle.ibft_readings.specs.Readings.{address_kind_of, address_number}
use Rattle.host_test_exports.proofs.packed.test_address_kind.Goals as goal

pub returns-in-Absent : goal.returns-in-Absent
returns-in-Absent c = ap address_number (sym c.in-Absent.is ∙ c.address_kind.ensures.value
    ∙ ap address_kind_of c.array_at.ensures)

pub returns-in-Ipv4Mapped : goal.returns-in-Ipv4Mapped
returns-in-Ipv4Mapped c = ap address_number (sym c.in-Ipv4Mapped.is ∙ c.address_kind.ensures.value
    ∙ ap address_kind_of c.array_at.ensures)

pub returns-in-Other : goal.returns-in-Other
returns-in-Other c = ap address_number (sym c.in-Other.is ∙ c.address_kind.ensures.value
    ∙ ap address_kind_of c.array_at.ensures)
