use Rattle.die_service.proofs.LongRuns.{begun_linked, begun_none}
use Rattle.die_service.proofs.long_runs.Run.begin.Goals as goal

pub invariant_of-result : goal.invariant_of-result
invariant_of-result g c = (
  c.in_ok-senders.posts.items,
  begun_linked g.M.Runner.runs c.args.runners.items c.in_ok-senders.senders.items c.in_ok-senders.posts.items c.in_ok-senders.ensures.begun,
  c.in-Ok.ensures.ok,
)

pub returns-in-Ok-clause-begun : goal.returns-in-Ok-clause-begun
returns-in-Ok-clause-begun g c =
    begun_none g.M.Runner.runs c.args.runners.items c.in_ok-senders.senders.items c.in_ok-senders.posts.items c.in_ok-senders.ensures.begun
