use Rattle.std.proofs.Common.{rules}
use Rattle.die_service.proofs.SamePosts.{all_same_refl, ran_in_place}
use Rattle.die_service.proofs.workers.work.Goals as goal

pub loop-init : goal.loop-init
loop-init g c = all_same_refl g.M.Runner.runs c.args.posts.items

pub loop-preserved-then-run_arrived : goal.loop-preserved-then-run_arrived
loop-preserved-then-run_arrived g c =
    ran_in_place g.M.Runner.runs c.loop.posts.len c.args.posts.items c.loop.posts.items c.as_mut_slice.result.now c.run_arrived.new.posts (search rules)
    c.as_mut_slice.ensures.value c.loop.invariant c.run_arrived.ensures

pub returns-then-ended : goal.returns-then-ended
returns-then-ended g c =
    ran_in_place g.M.Runner.runs c.loop.posts.len c.args.posts.items c.loop.posts.items c.as_mut_slice.result.now c.run_arrived.new.posts (search rules)
    c.as_mut_slice.ensures.value c.loop.invariant c.run_arrived.ensures

pub loop-preserved : goal.loop-preserved
loop-preserved g c =
    ran_in_place g.M.Runner.runs c.loop.posts.len c.args.posts.items c.loop.posts.items c.as_mut_slice.result.now c.run_arrived.new.posts (search rules)
    c.as_mut_slice.ensures.value c.loop.invariant c.run_arrived.ensures
