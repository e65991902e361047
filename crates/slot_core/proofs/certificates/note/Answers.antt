use Rattle.slot_core.proofs.BusyIntervals.{listed_push}
use Rattle.slot_core.proofs.certificates.note.Goals as goal

pub returns : goal.returns
returns c = record { noted = λ k. rw c.in_ok-push.ensures.items (listed_push c.args.numbers.now.items c.args.number k) }
