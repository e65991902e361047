use Rattle.std.proofs.Common.{◌∙◌, ap, length}
use Rattle.std.proofs.lemmas.Slice.Zip.{AllZip-long}
use Rattle.die_service.specs.Shares.{StaysShare}
use Rattle.die_service.proofs.LastPasses.{written}
use Rattle.die_service.proofs.LongRuns.{shares_stay}
use Rattle.die_service.proofs.long_runs.Run.go_on.Goals as goal

pub invariant_of-self : goal.invariant_of-self
invariant_of-self g c =
    let was = c.self.invariant in
    let shares = c.self.inside.shares in
    let same = AllZip-long (StaysShare g.M.Runner.runs) c.as_mut_slice.result.now c.run_here.new.shares c.run_here.ensures ∙ ap length c.as_mut_slice.ensures.value in
    let whole = written shares.len shares.items c.run_here.new.shares same shares.ok.0 in
    rw whole (was.0, was.1, shares_stay g.M.Runner.runs was.0 shares.items c.run_here.new.shares was.2 (rw (← c.as_mut_slice.ensures.value) c.run_here.ensures))
