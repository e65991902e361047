use Rattle.power_loss.proofs.Seeing.{seen_after, seen_during}
use Rattle.power_loss.proofs.laws.labels_show_pages.Goals as goal

pub returns : goal.returns
returns c = record { after = seen_after; during = seen_during }
