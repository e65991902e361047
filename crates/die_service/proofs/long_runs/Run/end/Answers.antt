use Rattle.die_service.proofs.LongRuns.{all_linked}
use Rattle.die_service.proofs.long_runs.Run.end.Goals as goal

pub run_rests-requires : goal.run_rests-requires
run_rests-requires g c =
    let was = c.self.invariant in record {
      linked = all_linked g.M.Runner.runs c.self.inside.senders.items was.0 c.in_ok-posts.posts.items was.1 (c.in_ok-posts.ensures.ok was.0 was.2);
    }
