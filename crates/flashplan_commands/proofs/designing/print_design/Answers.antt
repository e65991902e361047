use Rattle.flashplan_commands.proofs.designing.print_design.Goals as goal

pub returns-in-Ok-clause-printed : goal.returns-in-Ok-clause-printed
returns-in-Ok-clause-printed g c = record {
  page = c.in_ok-page.page.items;
  designed = c.in_ok-page.ensures;
  written = rw c.deref.ensures.value at c.in-Ok.ensures.whole;
}
