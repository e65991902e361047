use Rattle.std.proofs.Common.{ap, sym, ◌∙◌}
use Rattle.power_loss.specs.Labels.{Labels}
use Rattle.file_nand.proofs.Standing.{kept}
use Rattle.file_nand.proofs.file_nand.FileNandNand.read.Goals as goal

pub invariant_of-self : goal.invariant_of-self
invariant_of-self g c =
    let d = c.self.inside in
    kept d.next d.next d.mirror c.read.new.self d.failed d.saved c.self.invariant c.read.ensures.shape c.in-Ok.ensures.blocks
    (c.self.invariant.next_is ∙ sym (ap (λ (l : Labels). l.next) c.in-Ok.ensures.ends.labels))
