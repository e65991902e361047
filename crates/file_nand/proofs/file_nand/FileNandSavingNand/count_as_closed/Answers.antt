use Rattle.std.proofs.Common.{◌≡◌, None, map, ap, sym, ◌∙◌}
use Rattle.std.proofs.lemmas.Option.{none-some}
use Rattle.labelled_nand.specs.Memory.{Marked, block_labels}
use Rattle.file_nand.proofs.Standing.{closed_shown}
use Rattle.file_nand.proofs.file_nand.FileNandSavingNand.count_as_closed.Goals as goal

pub invariant_of-self : goal.invariant_of-self
invariant_of-self g c =
    let void : c.self.inside.saved ≡ None = rw (← c.self.view_is) at c.requires.void in
    record {
      next_is = sym (ap (λ (m : Marked). m.next) c.power_comes.ensures.comes);
      left = λ s e. absurd (none-some s (sym void ∙ e));
    }

pub returns-clause-labels : goal.returns-clause-labels
returns-clause-labels g c =
    let m = c.self.inside.mirror in
    rw (← c.self.view_is) (ap (λ (n : Marked). map block_labels n.blocks) c.power_comes.ensures.comes ∙ closed_shown m.shape.pages m.blocks)
