use Rattle.std.proofs.Common.{◌≡◌, arith, subst, sym}
use Rattle.std.proofs.lemmas.Grind.{common_steps}
use Rattle.std.proofs.lemmas.List.Elements.{recursion_from_All}
use Rattle.std.specs.List.{AllByRecursion}
use Rattle.die_service.proofs.LastPasses.{more_yielded}
use Rattle.die_service.proofs.LongRuns.{begun_more}
use Rattle.die_service.proofs.long_runs.posts_of.Goals as goal

pub returns-clause-begun : goal.returns-clause-begun
returns-clause-begun g c =
    let all : c.args.runners.items ≡ c.loop-runner.yielded = grind (arith, common_steps) in
    rw all c.loop-runner.invariant.begun

pub loop-runner-init : goal.loop-runner-init
loop-runner-init g c =
    let gives = c.into_iter-runner-iterator.ensures.into_iter_gives.0 in record {
      can_next = tt;
      is_finite = tt;
      runners = sym gives;
      begin = rw gives (recursion_from_All g.M.Runner.begins c.args.runners.items c.requires);
      begun = rw (c.new-senders.ensures.items, c.new-posts.ensures.items) tt;
    }

pub new-requires : goal.new-requires
new-requires g c = (subst (AllByRecursion g.M.Runner.begins) c.in-Some.ensures.steps.0 c.loop-runner.invariant.begin).0

pub loop-runner-preserved : goal.loop-runner-preserved
loop-runner-preserved g c = record {
  can_next = tt;
  is_finite = tt;
  runners = more_yielded _ _ _ c.in-Some.runner _ c.loop-runner.invariant.runners c.in-Some.ensures.steps.0;
  begin = (subst (AllByRecursion g.M.Runner.begins) c.in-Some.ensures.steps.0 c.loop-runner.invariant.begin).1;
  begun = rw (c.in_ok-push.ensures.items, c.in_ok-push-2.ensures.items)
      (begun_more g.M.Runner.runs c.loop-runner.yielded _ _ c.in-Some.runner c.in_ok-sender.sender c.in_ok-sender.post c.loop-runner.invariant.begun
      (c.in_ok-sender.ensures.begins, tt));
}
