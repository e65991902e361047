use Rattle.std.proofs.Common.{refl, rules}
use Rattle.die_service.proofs.SamePosts.{all_stay_at, all_stay_refl, ran_in_place}
use Rattle.die_service.proofs.workers.run_here.Goals as goal
use Rattle.die_service.proofs.workers.run_here.Goals.{in-Here, in_default}

pub loop-share-init : goal.loop-share-init
loop-share-init g c = all_stay_refl g.M.Runner.runs c.args.shares.now

pub loop-share-preserved : goal.loop-share-preserved
loop-share-preserved g c =
    let k = c.loop-share.share-index in
    elim c.match-share.branch [
      | in-Here w ↦ all_stay_at g.M.Runner.runs c.args.shares.now c.loop-share.shares c.match-share.shares k c.share-item.result _ _ (search rules)
          w.in-Here.is w.shares-is c.loop-share.invariant
          (λ dies is. ran_in_place g.M.Runner.runs w.in-Here.posts.len dies w.in-Here.posts.items w.as_mut_slice.result.now w.run_arrived.new.posts (search rules)
          w.as_mut_slice.ensures.value is w.run_arrived.ensures)
      | in_default w ↦ all_stay_at g.M.Runner.runs c.args.shares.now c.loop-share.shares c.match-share.shares k c.share-item.result _ _ (search rules)
          refl w.shares-is c.loop-share.invariant (λ dies is. is)
    ]
