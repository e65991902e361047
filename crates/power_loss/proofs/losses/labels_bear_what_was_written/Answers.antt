use Rattle.power_loss.proofs.Losing.{labels_written, labels_trimmed}
use Rattle.power_loss.proofs.losses.labels_bear_what_was_written.Goals as goal

pub returns : goal.returns
returns c = record { written = labels_written; trimmed = labels_trimmed }
