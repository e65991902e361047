use Rattle.std.proofs.Common.{rules, length}
use Rattle.script_texts.proofs.RowItems.{reading-of, rows-of, whole-of}
use Rattle.script_texts.proofs.scripts.ScriptReader.new.Goals as goal

pub returns-clause-rows : goal.returns-clause-rows
returns-clause-rows g c =
    rows-of (length c.args.plan.now) c.args.slots c.in_ok-lasts.lasts.items (g.R.Read.remaining c.args.reader) _ (search rules)
    c.rows_in.ensures.rows

pub returns-clause-reading : goal.returns-clause-reading
returns-clause-reading g c =
    reading-of (length c.args.plan.now) c.args.slots (g.R.Read.remaining c.args.reader) _ (returns-clause-rows g c)

pub returns-clause-script : goal.returns-clause-script
returns-clause-script g c =
    whole-of (length c.args.plan.now) c.args.slots (g.R.Read.remaining c.args.reader) _ (returns-clause-reading g c)
