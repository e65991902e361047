use Rattle.std.proofs.Common.{get_or, None, sym, ◌∙◌, refl}
use Rattle.page_map.proofs.Laying.{laid_none, laid_some, laid_all, laid_apart, none_else, none_where}
use Rattle.page_map.proofs.map.PageMap.of_places.Goals.{in-Some+else-is_some, in_default}
use Rattle.page_map.proofs.map.PageMap.of_places.Goals as goal

pub loop-page-preserved : goal.loop-page-preserved
loop-page-preserved c =
    let so = c.loop-page.invariant in
    elim c.match-places-page.branch [
      | in-Some+else-is_some w ↦ (let free = none_where w.owner.result (sym w.is_some.ensures ∙ w.if-is_some.false) in
          rw w.map-is (rw w.bind.ensures (record {
            shape_is = so.shape_is;
            so_far = laid_some c.args.places.now c.loop-page.map.places c.loop-page.page w.in-Some.place so.so_far c.loop-page-test.true
                w.in-Some.is (sym w.owner.ensures.owner ∙ free);
          })))
      | in_default w ↦ rw w.map-is (record {
        shape_is = so.shape_is;
        so_far = laid_none c.args.places.now c.loop-page.map.places c.loop-page.page so.so_far
            (none_else (get_or c.args.places.now c.loop-page.page None) w.in_default.not-Some);
      })
    ]

pub returns-clause-ok : goal.returns-clause-ok
returns-clause-ok c = rw c.loop-page.invariant.shape_is (rw (laid_all _ _ _ c.loop-page.invariant.so_far c.loop-page-test.false) refl)

pub returns-clause-apart : goal.returns-clause-apart
returns-clause-apart c = laid_apart _ _ _ c.loop-page.invariant.so_far c.loop-page-test.false
