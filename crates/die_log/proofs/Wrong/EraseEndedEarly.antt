-- An erase that a read broke into is ended with its next slot, the second of three. The entry that says so isn't exact,
-- and a slot that idles after it isn't legal: the collection still waits.
use Rattle.std.proofs.Common.{◌≡◌, ℕ, [], ◌∷◌, Option, Some, None, true, refl, ap, ◌∙◌, arith}
use Rattle.slot_types.specs.declared.acts.Act.TheVariants as does
use Rattle.slot_types.specs.declared.events.Event.TheVariants.{Slot}
use Rattle.slot_types.specs.declared.events.Op.TheVariants.{Read}
use Rattle.slot_types.specs.declared.replies.Entry.{Entry}
use Rattle.slot_types.specs.declared.replies.Reply.{Reply}
use Rattle.slot_types.specs.declared.replies.Reply.TheVariants as replies
use Rattle.die_log.specs.Model.Log.{Log, Job}
use Rattle.die_log.specs.Model.Answers.{run, answer, IsExact}
use Rattle.die_log.specs.Results.Legal.{IsLegal}
use Rattle.die_log.proofs.Worked.Plans.{tight, submit, collect, slot}
use Rattle.die_log.proofs.Worked.FillingHistory.{full}
use Rattle.die_log.proofs.Wrong.Entries.{idle}

abbrev resumed : Log
resumed = run tight full (collect 19 40 ∷ slot ∷ slot ∷ slot ∷ submit 22 30 (Read 2 ∷ []) ∷ slot ∷ [])

abbrev ends_early : Entry
ends_early = record {
  caller = 0;
  event = Slot;
  reply = replies.Slot
      (record { slot = 23; waived = []; ran = Some (11, does.Erase 1); finished = Some 11 });
}

abbrev finished_of : Reply → Option ℕ
finished_of (replies.Slot s) = s.finished
finished_of _ = None

ends_nothing : finished_of (answer tight resumed Slot) ≡ None
unfolding answer
ends_nothing = refl

abbrev nothing : Option ℕ
nothing = None

apart : Some 11 ≡ nothing → ⊥
apart h = absurd cc

not_exact : IsExact tight (ends_early ∷ resumed) → ⊥
not_exact h = apart (ap finished_of h.1 ∙ ends_nothing)

abbrev collection : Job
collection = record { number = 11; collects = true; task = 0; release = 19; due = 40; ops = [] }

not_legal : IsLegal tight (idle 24 ∷ ends_early ∷ resumed) → ⊥
unfolding answer
not_legal h = cc (h.1.slot.1 collection (11, omega arith, refl) refl)
