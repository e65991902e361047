use Rattle.labelled_die.proofs.Following.{labels_as_log}
use Rattle.labelled_die.proofs.laws.slots_label_as_the_log.Goals as goal

pub returns : goal.returns
returns c = labels_as_log
