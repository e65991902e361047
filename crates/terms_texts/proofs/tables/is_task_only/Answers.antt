use Rattle.std.proofs.Common.{◌∙◌}
use Rattle.plan_texts.proofs.TableLaws.{only-view}
use Rattle.terms_texts.specs.Keys.{is_task_key}
use Rattle.terms_texts.proofs.tables.is_task_only.Goals as goal

pub returns : goal.returns
returns c = c.lists_task_only.ensures ∙ only-view is_task_key c.args.table.now.entries
