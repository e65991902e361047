use Rattle.std.proofs.Common.{None, length, ap, arith}
use Rattle.std.proofs.lemmas.List.{ext_get_or}
use Rattle.page_map.specs.Placing.{Placing}
use Rattle.page_map.proofs.Cells.{length-placed}
use Rattle.page_map.proofs.map.PageMap.to_places.Goals as goal

pub returns-clause-ok : goal.returns-clause-ok
returns-clause-ok c =
    let count = length-placed c.self.inside.shape c.self.inside.logical c.self.inside.places.items c.self.invariant.some_places in
    let same = ap (λ (p : Placing). length p.places) c.self.view_is in
    ext_get_or None c.loop-page.places.items c.args.self.now.places c.loop-page.invariant.len
    (λ i inside. c.loop-page.invariant.so_far i (omega (arith, inside, count, same, c.loop-page.invariant.len, c.loop-page-test.false)))
