use Rattle.std.specs.List.{AllZip}
use Rattle.die_service.specs.Shares.{StaysShare}
use Rattle.die_service.proofs.workers.run_here.Given as goal

abbrev pub invariant-loop-share : goal.invariant-loop-share
invariant-loop-share g l = AllZip (StaysShare g.M.Runner.runs) l.initial.shares l.shares
