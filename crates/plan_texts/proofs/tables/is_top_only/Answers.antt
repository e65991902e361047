use Rattle.std.proofs.Common.{◌∙◌}
use Rattle.plan_texts.specs.Tables.{is_top_key}
use Rattle.plan_texts.proofs.TableLaws.{only-view}
use Rattle.plan_texts.proofs.tables.is_top_only.Goals as goal

pub returns : goal.returns
returns c = c.lists_top_only.ensures ∙ only-view (is_top_key c.args.timed) c.args.table.now.entries
