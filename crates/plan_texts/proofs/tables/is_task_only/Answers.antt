use Rattle.std.proofs.Common.{◌∙◌}
use Rattle.plan_texts.specs.Tables.{is_task_key}
use Rattle.plan_texts.proofs.TableLaws.{only-view}
use Rattle.plan_texts.proofs.tables.is_task_only.Goals as goal

pub returns : goal.returns
returns c = c.lists_task_only.ensures ∙ only-view (is_task_key c.args.timed) c.args.table.now.entries
