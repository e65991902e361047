use Rattle.die_service.specs.Runs.{AllArrive}
use Rattle.test_store.proofs.feeds.feed.Given as goal

abbrev pub invariant-loop-job : goal.invariant-loop-job
invariant-loop-job l = AllArrive l.feed
