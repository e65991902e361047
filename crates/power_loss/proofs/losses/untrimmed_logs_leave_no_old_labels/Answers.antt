use Rattle.power_loss.proofs.Aside.Untrimmed.{fresh_untrimmed, stay_untrimmed}
use Rattle.power_loss.proofs.losses.untrimmed_logs_leave_no_old_labels.Goals as goal

pub returns : goal.returns
returns c = record { fresh = fresh_untrimmed; kept = stay_untrimmed }
