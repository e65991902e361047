use Rattle.std.proofs.Common.{◌≡◌, Some, false, refl}
use Rattle.die_mount.specs.Mounting.{call_at}
use Rattle.die_mount.specs.declared.stage.MountCall.TheVariants as calls
use Rattle.flash_die.specs.Flash.{blank}
use Rattle.part_mount.specs.OnPart.{OnPart}
use Rattle.part_mount.proofs.Starting.{begins_on, goes_from}
use Rattle.part_mount.proofs.part_mount.PartMount.new.Goals as goal

pub invariant_of-result : goal.invariant_of-result
invariant_of-result g c =
    let m = c.args.mount in
    let v : OnPart g.row.N.Denot = record { part = c.args.part; mount = m; erased = c.in-Some-EraseSlot.block; held = blank; failed = false } in
    let e : call_at m.next m.stage ≡ Some (calls.EraseSlot v.erased) = cc in
    begins_on g.N.Nand.never_fails g.N.Nand.shape_of g.N.Nand.blocks g.N.LabelledNand.labels g.N.Nand.failures v c.requires.powered c.requires.shape
    c.requires.first c.requires.counts e refl

pub returns-clause-goes : goal.returns-clause-goes
returns-clause-goes g c = λ pages stood begins.
    let m = c.args.mount in
    let v : OnPart g.row.N.Denot = record { part = c.args.part; mount = m; erased = c.in-Some-EraseSlot.block; held = blank; failed = false } in
    let e : call_at m.next m.stage ≡ Some (calls.EraseSlot v.erased) = cc in
    goes_from g.N.LabelledNand.labels pages v c.next.ensures.stands e stood begins
