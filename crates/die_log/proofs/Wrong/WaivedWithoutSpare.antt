-- A collection is waived though nothing is spare.
use Rattle.std.proofs.Common.{[], ◌∷◌, None, arith}
use Rattle.slot_types.specs.declared.events.Event.TheVariants.{Slot}
use Rattle.slot_types.specs.declared.replies.Entry.{Entry}
use Rattle.slot_types.specs.declared.replies.Reply.TheVariants as replies
use Rattle.die_log.specs.Model.Log.{Log}
use Rattle.die_log.specs.Model.Answers.{run, answer}
use Rattle.die_log.specs.Results.Legal.{IsLegal}
use Rattle.die_log.proofs.Worked.Plans.{tight, collect}
use Rattle.die_log.proofs.Worked.FillingHistory.{full}

abbrev late : Log
late = run tight full (collect 19 40 ∷ [])

abbrev waives : Entry
waives = record {
  caller = 0;
  event = Slot;
  reply = replies.Slot
      (record { slot = 19; waived = record { number = 11; given = 2 } ∷ []; ran = None; finished = None });
}

not_legal : IsLegal tight (waives ∷ late) → ⊥
unfolding answer
not_legal h = absurd (omega (arith, h.1.slot.0.1.spare))
