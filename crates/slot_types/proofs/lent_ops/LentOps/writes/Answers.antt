use Rattle.std.proofs.Common.{length, arith, ap, ◌∙◌}
use Rattle.slot_types.specs.Operations.{writes}
use Rattle.slot_types.specs.Packing.{ops_of}
use Rattle.slot_types.proofs.Packed.{writes-append, length-bytes}
use Rattle.slot_types.proofs.lent_ops.LentOps.writes.Goals as goal

pub returns : goal.returns
returns c =
    let f = c.self.inside in
    let ops = ops_of f.kinds.now f.pages.now f.bytes.now in
    let bytes = ap length c.self.invariant.bytes_are ∙ length-bytes ops in
    let all = ap writes c.self.view_is in
    omega (arith, c.count_writes.ensures, bytes, all, writes-append f.list.now ops)
