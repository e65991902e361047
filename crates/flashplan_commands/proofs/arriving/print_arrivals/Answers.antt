use Rattle.flashplan_commands.proofs.arriving.print_arrivals.Goals as goal

pub returns-clause-printed : goal.returns-clause-printed
returns-clause-printed g c = (
  c.in_ok-made.made.script.items,
  c.in_ok-made.ensures,
  rw c.deref.ensures.value at c.in_ok-write_whole.ensures.whole,
)
