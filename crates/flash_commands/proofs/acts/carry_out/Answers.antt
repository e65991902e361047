use Rattle.std.proofs.Common.{Some, refl}
use Rattle.flash_commands.specs.Acts.{PrintsRun}
use Rattle.example_texts.specs.declared.built_in.TheConstants.{PLAN, SCRIPT, SLOTS}
use Rattle.flash_commands.specs.declared.commands.Command.TheVariants as command
use Rattle.flash_commands.proofs.Endings.{refused-for}
use Rattle.flash_commands.proofs.acts.carry_out.Goals as goal

pub returns-in-Alone-clause-refused : goal.returns-in-Alone-clause-refused
returns-in-Alone-clause-refused g c =
    rw c.in-Alone.is
    (refused-for g.W.Write.contents g.W.Output.has_failed command.Alone (g.F.Read.remaining c.args.first)
    (g.S.Read.remaining c.args.second) _ _ (PrintsRun (Some PLAN.now) (Some SCRIPT.now) SLOTS) c.run.result
    (λ a b prints. (0, (prints, refl)))
    (rw (c.as_bytes-plan.ensures.value, c.as_bytes-script.ensures.value) at c.run.ensures.refused))

pub returns-in-Run-clause-refused : goal.returns-in-Run-clause-refused
returns-in-Run-clause-refused g c =
    rw c.in-Run.is
    (refused-for g.W.Write.contents g.W.Output.has_failed
    (command.Run c.in-Run.plan c.in-Run.script c.in-Run.slots c.in-Run.workers) _ _ _ _
    (PrintsRun (g.F.Read.remaining c.args.first) (g.S.Read.remaining c.args.second) c.in-Run.slots.count) c.run-in-Run.result
    (λ a b prints. (0, (prints, refl))) c.run-in-Run.ensures.refused)
