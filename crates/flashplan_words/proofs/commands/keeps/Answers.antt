use Rattle.std.proofs.Common.{◌≡◌, ◌∙◌, None, rules, refl, sym, option_map}
use Rattle.clap.specs.Words.{found_of, rows_of}
use Rattle.flashplan_words.specs.RequestTexts.{text_of_command}
use Rattle.flashplan_words.specs.Commands.{keeps_from}
use Rattle.flashplan_words.proofs.Scripted.{when_scripted}
use Rattle.flashplan_words.proofs.commands.keeps.Goals as goal

pub returns-in_err-plan-clause-keeps : goal.returns-in_err-plan-clause-keeps
returns-in_err-plan-clause-keeps c =
    let none : option_map text_of_command c.from_residual.result ≡ None = search rules in
    none ∙ sym (c.in_err-plan.ensures.scripted _)

pub returns-clause-keeps : goal.returns-clause-keeps
returns-clause-keeps c =
    let rows = rows_of (found_of c.args.met.now) in
    let met = c.in_ok-plan in
    when_scripted rows (keeps_from rows) met.plan.now met.script.now met.slots _ (met.ensures.scripted (keeps_from rows))
    (rw (← c.in_ok-slot_us.ensures.number) refl)
