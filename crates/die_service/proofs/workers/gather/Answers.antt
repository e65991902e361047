use Rattle.std.specs.Vec.Iter.{into_iter_items}
use Rattle.die_service.proofs.SamePosts.{gathers, one_passed}
use Rattle.die_service.proofs.workers.gather.Goals as goal

pub loop-share-preserved : goal.loop-share-preserved
loop-share-preserved g c = record {
  can_next = tt;
  is_finite = tt;
  all = one_passed c.args.shares.items c.loop-share.yielded (into_iter_items c.loop-share.share-iterator) (into_iter_items c.next.new.self)
      c.in-Some.share c.loop-share.invariant.all c.in-Some.ensures.steps.0;
  dies = gathers g.M.Runner.runs c.loop-share.yielded c.in-Some.share c.loop-share.all.items c.into_posts-posts.result.items c.append.new.self.items
      c.in_ok-append.ensures.items c.loop-share.invariant.dies c.into_posts-posts.ensures;
}
