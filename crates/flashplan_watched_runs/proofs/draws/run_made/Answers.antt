use Rattle.std.proofs.Common.{◌≡◌, ap, sym, ◌∙◌, Some}
use Rattle.std.specs.Global.{Box}
use Rattle.std.proofs.lemmas.Result.{IfOk-at_ok}
use Rattle.flashplan_watched_runs.specs.Runs.{core_of}
use Rattle.flashplan_watched_runs.specs.declared.die_runs.DieRun.{DieRun}
use Rattle.flashplan_watched_runs.proofs.draws.run_made.Goals as goal

pub returns-clause-start : goal.returns-clause-start
returns-clause-start g c = λ start h.
    IfOk-at_ok (λ (run : Box DieRun). start ≡ Some (core_of run).start) c.in_ok-made.was h ∙ ap Some (sym c.run_die.ensures.start)
