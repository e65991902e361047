use Rattle.std.proofs.Common.{◌≡◌, ◌∙◌, None, rules, sym, option_map}
use Rattle.clap.specs.Words.{found_of, rows_of}
use Rattle.flashplan_words.specs.RequestTexts.{text_of_command}
use Rattle.flashplan_words.specs.Commands.{run_from}
use Rattle.flashplan_words.proofs.Scripted.{when_scripted}
use Rattle.flashplan_words.proofs.commands.run_plain.Goals as goal

pub returns-in_err-plan-clause-run : goal.returns-in_err-plan-clause-run
returns-in_err-plan-clause-run c =
    let none : option_map text_of_command c.from_residual.result ≡ None = search rules in
    none ∙ sym (c.in_err-plan.ensures.scripted _)

pub returns-clause-run : goal.returns-clause-run
returns-clause-run c =
    let rows = rows_of (found_of c.args.met.now) in
    let met = c.in_ok-plan in
    when_scripted rows (run_from rows) met.plan.now met.script.now met.slots _ (met.ensures.scripted (run_from rows))
    (search rules)
