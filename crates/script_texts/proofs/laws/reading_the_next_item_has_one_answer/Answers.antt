use Rattle.script_texts.proofs.OneItem.{again, one_fit, one_item}
use Rattle.script_texts.proofs.laws.reading_the_next_item_has_one_answer.Goals as goal

pub returns-clause-item : goal.returns-clause-item
returns-clause-item g c = one_item g.R.Read.remaining

pub returns-clause-fits : goal.returns-clause-fits
returns-clause-fits g c = one_fit g.R.Read.remaining

pub returns-clause-again : goal.returns-clause-again
returns-clause-again g c = again g.R.Read.remaining
