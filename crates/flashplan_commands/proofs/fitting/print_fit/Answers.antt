use Rattle.flashplan_commands.proofs.fitting.print_fit.Goals as goal

pub returns-in-Ok-clause-printed : goal.returns-in-Ok-clause-printed
returns-in-Ok-clause-printed g c = record {
  plan = c.in_ok-plan.plan.items;
  found = c.in_ok-plan.ensures;
  written = rw c.deref.ensures.value at c.in-Ok.ensures.whole;
}
