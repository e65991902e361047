use Rattle.flashplan_commands.proofs.runs.print_wear.Goals as goal

pub returns-clause-printed : goal.returns-clause-printed
returns-clause-printed g c = record {
  store = c.in_ok-store.store;
  read = c.in_ok-store.ensures.store;
  saved = c.in_ok-from.from;
  begun = c.in_ok-from.ensures;
  counts = c.in_ok-worn.worn.refused;
  text = c.in_ok-worn.worn.text.items;
  worn = c.in_ok-worn.ensures.text;
  written = rw c.deref.ensures.value at c.in_ok-write_whole.ensures.whole;
}
