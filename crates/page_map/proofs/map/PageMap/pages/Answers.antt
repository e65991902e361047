use Rattle.std.proofs.Common.{◌∙◌, ap, sym, length}
use Rattle.page_map.specs.Placing.{Placing}
use Rattle.page_map.proofs.Cells.{length-placed}
use Rattle.page_map.proofs.map.PageMap.pages.Goals as goal

pub returns : goal.returns
returns c =
    let m = c.self.inside in
    sym (length-placed m.shape m.logical m.places.items c.self.invariant.some_places) ∙ ap (λ (p : Placing). length p.places) c.self.view_is
