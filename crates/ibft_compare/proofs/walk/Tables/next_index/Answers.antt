-- `Tables::next_index` meets its contract: the bytes that it looks at are the Indexes of the group. Assumes nothing.
use Rattle.ibft_compare.proofs.NextLaws.{match-option, none-between}
use Rattle.ibft_compare.proofs.walk.Tables.next_index.Goals as goal

pub returns : goal.returns
returns c =
    let a = c.args in
    let li = a.self.now.left.indices.now in
    let ri = a.self.now.right.indices.now in
    match-option c.least_above.result _ _ _ _
    (λ h. (
      none-between li a.group a.after 256 (rw c.part.ensures.bytes at h.0),
      none-between ri a.group a.after 256 (rw c.part-2.ensures.bytes at h.1),
    ))
    (λ m h. (
      h.0,
      none-between li a.group a.after m (rw c.part.ensures.bytes at h.1),
      none-between ri a.group a.after m (rw c.part-2.ensures.bytes at h.2),
    ))
    c.least_above.ensures
