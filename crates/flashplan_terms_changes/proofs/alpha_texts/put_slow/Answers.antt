use Rattle.std.proofs.Common.{codes}
use Rattle.flashplan_terms_changes.specs.Alphas.{periods_text}
use Rattle.flashplan_terms_changes.proofs.Rows.{and-then}
use Rattle.flashplan_terms_changes.proofs.alpha_texts.put_slow.Goals as goal

pub returns : goal.returns
returns c = and-then c.put_periods.result c.args.text.now.items c.write.new.self.items c.put_periods.new.text.items
    (codes " and collect_periods and collect_deadlines") (periods_text c.args.slot_us c.args.made.now.terms.tasks)
    c.in_ok-write.ensures.bytes (rw c.as_slice.ensures at c.put_periods.ensures)
