use Rattle.std.proofs.Common.{rules}
use Rattle.die_service.proofs.SamePosts.{all_same_refl, all_same_set, all_same_trans}
use Rattle.die_service.proofs.workers.run_arrived.Goals as goal

pub loop-post-init : goal.loop-post-init
loop-post-init g c = all_same_refl g.M.Runner.runs c.args.posts.now

pub loop-post-preserved : goal.loop-post-preserved
loop-post-preserved g c =
    let olds = c.loop-post.posts in
    all_same_trans g.M.Runner.runs c.args.posts.now olds _ c.loop-post.invariant
    (all_same_set g.M.Runner.runs olds c.loop-post.post-index c.post-item.result c.run_next.new.self (search rules) c.run_next.ensures)
