use Rattle.std.proofs.Common.{◌≡◌, List, [], append-nil, arith, map, refl, subst}
use Rattle.std.proofs.lemmas.Grind.{common_steps}
use Rattle.std.specs.List.{AllZip}
use Rattle.std.specs.Vec.Iter.{into_iter_items}
use Rattle.die_service.specs.Posts.{sent_by}
use Rattle.die_service.specs.Runners.{HasRunAll}
use Rattle.die_service.proofs.LongRuns.{linked_on, next_linked, none_left, none_linked, rest_run, run_all}
use Rattle.die_service.proofs.long_runs.run_rests.Goals as goal

pub loop-post-init : goal.loop-post-init
loop-post-init g c =
    let gives = c.into_iter-post-iterator.ensures.into_iter_gives.0 in
    let of = c.into_iter-senders.ensures.rest in record {
      can_next = tt;
      is_finite = tt;
      linked = rw (of, gives) c.requires.linked;
      ran = λ later all. rw (← of, c.new-ran.ensures.items) all;
    }

pub unreachable-requires : goal.unreachable-requires
unreachable-requires g c =
    let gone : into_iter_items c.loop-post.senders ≡ [] = grind (arith, common_steps) in
    none_linked g.M.Runner.runs _ _ _ c.in-Some.post gone c.in-Some.ensures.steps.0 c.loop-post.invariant.linked

pub run_rest-requires : goal.run_rest-requires
run_rest-requires g c = record {
  linked = (next_linked g.M.Runner.runs _ _ c.in-Some-next.sender _ _ c.in-Some.post c.in-Some-next.ensures.cases.0 c.in-Some.ensures.steps.0 c.loop-post.invariant.linked).0;
}

pub loop-post-preserved : goal.loop-post-preserved
loop-post-preserved g c =
    let s = c.in-Some-next.sender in
    let linked = next_linked g.M.Runner.runs _ _ s _ _ c.in-Some.post c.in-Some-next.ensures.cases.0 c.in-Some.ensures.steps.0 c.loop-post.invariant.linked in record {
      can_next = tt;
      is_finite = tt;
      linked = linked.1;
      ran = rest_run g.M.Runner.runs _ _ s _ _ _ c.into_runner.result c.in-Some-next.ensures.cases.0 c.in_ok-push.ensures.items
          (run_all g.M.Runner.runs s c.run_rest.new.self c.into_runner.result
          (linked_on g.M.Runner.runs s s c.in-Some.post c.run_rest.new.self linked.0 (((refl, refl, refl, refl), refl), refl) c.run_rest.ensures.same)
          c.run_rest.ensures.all c.into_runner.ensures) c.loop-post.invariant.ran;
    }

pub returns-clause-ok : goal.returns-clause-ok
returns-clause-ok g c =
    let gone : into_iter_items c.loop-post.post-iterator ≡ [] = grind (arith, common_steps) in
    let none = none_left g.M.Runner.runs _ _ gone c.loop-post.invariant.linked in
    subst (λ (ms : List g.row.M.Denot). AllZip (HasRunAll g.M.Runner.runs) (map sent_by c.args.senders.items) ms) (append-nil c.loop-post.ran.items)
    (c.loop-post.invariant.ran [] (rw none tt))
