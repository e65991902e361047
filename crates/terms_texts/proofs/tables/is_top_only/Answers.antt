use Rattle.std.proofs.Common.{◌∙◌}
use Rattle.plan_texts.proofs.TableLaws.{only-view}
use Rattle.terms_texts.specs.Keys.{is_top_key}
use Rattle.terms_texts.proofs.tables.is_top_only.Goals as goal

pub returns : goal.returns
returns c = c.lists_top_only.ensures ∙ only-view is_top_key c.args.table.now.entries
