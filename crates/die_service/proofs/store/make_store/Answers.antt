use Rattle.std.proofs.Common.{ap, ◌∙◌, map, arith}
use Rattle.die_service.proofs.Making.{first_at, first_views, same_count}
use Rattle.die_service.proofs.store.make_store.Goals as goal

pub open_all-requires-clause-few : goal.open_all-requires-clause-few
open_all-requires-clause-few g c =
    let same = same_count c.in_ok-dies.dies.items c.args.plans.items c.in_ok-dies.ensures.starts in
    let few = c.requires.few in
    omega (arith, same, few)

pub returns-in-Ok-clause-first : goal.returns-in-Ok-clause-first
returns-in-Ok-clause-first g c = c.in-Ok.ensures.first ∙ first_views c.in_ok-dies.dies.items ∙ ap (map first_at) c.in_ok-dies.ensures.starts
