-- A read broke into an erase; the slot after it is idle, though the erase isn't done.
use Rattle.std.proofs.Common.{[], ◌∷◌, true, refl, arith}
use Rattle.slot_types.specs.declared.events.Op.TheVariants.{Read}
use Rattle.die_log.specs.Model.Log.{Log, Job}
use Rattle.die_log.specs.Model.Answers.{run, answer}
use Rattle.die_log.specs.Results.Legal.{IsLegal}
use Rattle.die_log.proofs.Worked.Plans.{tight, submit, collect, slot}
use Rattle.die_log.proofs.Worked.FillingHistory.{full}
use Rattle.die_log.proofs.Wrong.Entries.{idle}

-- two slots of copying, one of the erase, and the read
abbrev suspended : Log
suspended = run tight full (collect 19 40 ∷ slot ∷ slot ∷ slot ∷ submit 22 30 (Read 2 ∷ []) ∷ slot ∷ [])

abbrev collection : Job
collection = record { number = 11; collects = true; task = 0; release = 19; due = 40; ops = [] }

not_legal : IsLegal tight (idle 23 ∷ suspended) → ⊥
unfolding answer
not_legal h = cc (h.1.slot.1 collection (11, omega arith, refl) refl)
