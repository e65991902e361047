use Rattle.std.proofs.Common.{◌≡◌, ◌++◌}
use Rattle.die_service.specs.declared.shares.Share.TheVariants.{Here}
use Rattle.die_service.proofs.SamePosts.{all_same_refl, cut_at, shared_last, shared_more}
use Rattle.die_service.proofs.workers.share_out.Goals as goal

pub loop-signal-preserved : goal.loop-signal-preserved
loop-signal-preserved g c =
    let was = c.loop-signal.invariant in
    let left = c.loop-signal.left.items in
    let own = c.split_off.new.self.items in
    let later = c.in_ok-later.later.items in
    let parts : left ≡ own ++ later = cut_at _ left own later c.in_ok-later.ensures.items c.in_ok-later.ensures.tail in
    shared_more g.M.Runner.runs c.args.posts.items was.0 left own later c.loop-signal.shares.items c.push.new.self.items c.start.result was.1 was.2
    parts c.start.ensures c.in_ok-push.ensures.items

pub returns-clause-ok : goal.returns-clause-ok
returns-clause-ok g c =
    let was = c.loop-signal.invariant in
    shared_last g.M.Runner.runs c.args.posts.items was.0 c.loop-signal.left.items c.loop-signal.shares.items c.push-2.new.self.items
    (Here c.loop-signal.left) was.1 was.2 (all_same_refl g.M.Runner.runs c.loop-signal.left.items) c.in_ok-push-2.ensures.items
