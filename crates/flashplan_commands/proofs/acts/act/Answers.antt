use Rattle.std.proofs.Common.{◌≡◌, true}
use Rattle.std.specs.Prelude.{is_none}
use Rattle.flashplan_commands.specs.Acts.{PrintsDrawing, PrintsRunFigures, failing_in}
use Rattle.flashplan_commands.proofs.BegunSo.{answered_none, drawing_begun, ends_as, figures_begun}
use Rattle.flashplan_commands.proofs.acts.act.Goals as goal

pub returns-in-Arrivals : goal.returns-in-Arrivals
returns-in-Arrivals g c = rw c.in-Arrivals.is c.act_arrivals.ensures

pub returns-in-Keeps : goal.returns-in-Keeps
returns-in-Keeps g c = rw c.in-Keeps.is c.act_keeps.ensures

pub returns-in-Fit : goal.returns-in-Fit
returns-in-Fit g c = rw c.in-Fit.is c.act_fit.ensures

pub returns-in-Design : goal.returns-in-Design
returns-in-Design g c = rw c.in-Design.is c.act_design.ensures

pub returns-in-Report : goal.returns-in-Report
returns-in-Report g c =
    let plan = g.P.Read.remaining c.args.plan in
    let script = g.S.Read.remaining c.args.script in
    let asked = c.in-Report in
    let begins : is_none asked.from ≡ true → is_none c.begun-begun-in-Report.result ≡ true = λ e. c.begun-begun-in-Report.ensures (answered_none asked.from c.is_none-in-Report.result c.is_none-in-Report.ensures e) in
    rw c.in-Report.is
    (ends_as g.W.Write.contents g.W.Output.has_failed
    (PrintsRunFigures plan script asked.slots (failing_in asked.fail) asked.as_csv (is_none c.begun-begun-in-Report.result))
    (PrintsRunFigures plan script asked.slots (failing_in asked.fail) asked.as_csv (is_none asked.from))
    c.args.out.now c.act_report.new.out c.act_report.result
    (figures_begun plan script asked.slots (failing_in asked.fail) asked.as_csv (is_none c.begun-begun-in-Report.result) (is_none asked.from) begins)
    (rw c.failing_in-fail.ensures at c.act_report.ensures))

pub returns-in-Draw : goal.returns-in-Draw
returns-in-Draw g c =
    let plan = g.P.Read.remaining c.args.plan in
    let script = g.S.Read.remaining c.args.script in
    let asked = c.in-Draw in
    let begins : is_none asked.checkpoint ≡ true → is_none c.begun-begun-in-Draw.result ≡ true = λ e. c.begun-begun-in-Draw.ensures (answered_none asked.checkpoint c.is_none-in-Draw.result c.is_none-in-Draw.ensures e) in
    rw c.in-Draw.is
    (ends_as g.W.Write.contents g.W.Output.has_failed
    (PrintsDrawing plan script asked.slots asked.die (failing_in asked.fail) (is_none c.begun-begun-in-Draw.result))
    (PrintsDrawing plan script asked.slots asked.die (failing_in asked.fail) (is_none asked.checkpoint))
    c.args.out.now c.act_draw.new.out c.act_draw.result
    (drawing_begun plan script asked.slots asked.die (failing_in asked.fail) (is_none c.begun-begun-in-Draw.result) (is_none asked.checkpoint) begins)
    (rw c.failing_in-fail-in-Draw.ensures at c.act_draw.ensures))
