use Rattle.std.proofs.Common.{◌∙◌, ap, Some}
use Rattle.page_map.specs.Packing.{place_in}
use Rattle.page_map.proofs.Cells.{back_in}
use Rattle.page_map.proofs.packing.pack.Goals as goal

pub returns-clause-back : goal.returns-clause-back
returns-clause-back c =
    ap (place_in c.args.shape) (c.some.ensures ∙ ap (λ n. Some n) c.cell.ensures) ∙ back_in c.args.shape c.args.place c.requires.cell
