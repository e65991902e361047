use Rattle.std.proofs.Common.{◌≡◌, ◌∙◌, ap, subst, sym}
use Rattle.die_service.specs.OwnRuns.{DieRun, HasRunOn, result_of_stop}
use Rattle.die_service.proofs.OwnCalls.{has_run_on}
use Rattle.die_service.proofs.run_dies.RunDie.run.Goals as goal
use Rattle.die_service.proofs.run_dies.RunDie.run.Goals.{in-Some, in-None}

pub returns : goal.returns
returns g c =
    let s = c.self.inside.driver in
    let f = c.forget.new.self in
    let is : c.match-stop.result ≡ result_of_stop c.stop-stop.result = elim c.match-stop.branch [
      | in-Some w ↦ w.result-is ∙ ap result_of_stop (sym w.in-Some.is)
      | in-None w ↦ w.result-is ∙ ap result_of_stop (sym w.in-None.is)
    ] in
    subst (λ (old : DieRun g.row.N.Denot). HasRunOn g.N.Nand.ends g.N.Nand.failures g.N.Nand.never_fails c.args.until old c.match-stop.result
    (record { die = f.work; clock = c.max-self-inside.result; course = f.course })) c.self.view_is
    (has_run_on g.N.Nand.ends g.N.Nand.failures g.N.Nand.never_fails 0 c.args.until c.self.inside.clock c.saturating_sub-slots.result
    c.max-self-inside.result s c.run.new.self f c.stop-stop.result c.match-stop.result c.saturating_sub-slots.ensures c.run.ensures
    c.stop-stop.ensures c.forget.ensures c.max-self-inside.ensures is)
