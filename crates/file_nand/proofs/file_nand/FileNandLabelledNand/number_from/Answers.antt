use Rattle.std.proofs.Common.{ap, sym}
use Rattle.power_loss.specs.Labels.{Labels}
use Rattle.file_nand.proofs.Standing.{kept}
use Rattle.file_nand.proofs.file_nand.FileNandLabelledNand.number_from.Goals as goal

pub invariant_of-self : goal.invariant_of-self
invariant_of-self g c =
    let d = c.self.inside in
    kept d.next c.args.serial d.mirror c.number_from.new.self d.failed d.saved c.self.invariant c.number_from.ensures.shape c.number_from.ensures.blocks
    (sym (ap (λ (l : Labels). l.next) c.number_from.ensures.labels))
