-- Which calls of the device slots need.
use Rattle.std.proofs.Common.{◌≡◌, ℕ, [], ◌∷◌, Some, None, map, drop, refl}
use Rattle.slot_types.specs.declared.pages.Place.{Place}
use Rattle.slot_types.specs.declared.events.Op.TheVariants.{Read, Write, Trim}
use Rattle.flash_die.specs.declared.nand.NandCall.TheVariants as calls
use Rattle.die_log.specs.Model.Log.{Log}
use Rattle.die_log.specs.Model.Answers.{run, answer}
use Rattle.die_log.specs.Model.NeededCalls.{needed_call}
use Rattle.die_log.proofs.Worked.Plans.{roomy, tight, submit, collect, slot, put, bytes}
use Rattle.die_log.proofs.Worked.CollectionCopies.{collected}
use Rattle.die_log.proofs.Worked.RewrittenPage.{rewritten}

abbrev at : ℕ → ℕ → Place
at block page = record { block = block; page = page }

-- Jobs

abbrev written : Log
written = run roomy [] (submit 0 2 (put 3 ∷ []) ∷ slot ∷ [])

a_write_programs_the_next_cell : needed_call roomy (run roomy written (submit 1 3 (Write 3 (bytes 17) ∷ []) ∷ []))
    ≡ Some (calls.Program (at 0 1) (Some 3) (bytes 17))
unfolding answer
a_write_programs_the_next_cell = refl

a_read_reads_the_cell_of_its_page : needed_call roomy (run roomy written (submit 1 3 (Read 3 ∷ []) ∷ [])) ≡ Some (calls.Read (at 0 0))
unfolding answer
a_read_reads_the_cell_of_its_page = refl

-- a page that was never written, a trim, and no head
needs_none : map (λ (log : Log). needed_call roomy log) (run roomy written (submit 1 3 (Read 7 ∷ []) ∷ [])
    ∷ run roomy written (submit 1 3 (Trim 3 ∷ []) ∷ []) ∷ written ∷ run roomy written (submit 2 3 (Read 3 ∷ []) ∷ []) ∷ [])
    ≡ None ∷ None ∷ None ∷ None ∷ []
unfolding answer
needs_none = refl

-- Collections

-- it is waived; with a job after it the job's call is needed
waived_alone : needed_call roomy (run roomy written (collect 1 2 ∷ [])) ≡ None
unfolding answer
waived_alone = refl

waived_before_a_job : needed_call roomy (run roomy written (collect 1 2 ∷ submit 1 3 (Read 3 ∷ []) ∷ [])) ≡ Some (calls.Read (at 0 0))
unfolding answer
waived_before_a_job = refl

-- the log before its newest `n` entries
abbrev before : ℕ → Log
before n = drop n collected

-- it reads the victim's page, programs it after the newest, and erases the victim
a_collection_copies_and_erases : map (λ (log : Log). needed_call tight log) (before 5 ∷ before 4 ∷ before 3 ∷ before 2 ∷ before 1 ∷ [])
    ≡ Some (calls.Read (at 1 0)) ∷ Some (calls.Program (at 3 2) (Some 2) (bytes 2)) ∷ Some (calls.EraseSlot 1) ∷ Some (calls.EraseSlot 1)
    ∷ Some (calls.EraseSlot 1) ∷ []
unfolding answer
a_collection_copies_and_erases = refl

-- its page was rewritten since it was read: it erases at once
a_dropped_copy_erases : needed_call tight rewritten ≡ Some (calls.EraseSlot 1)
unfolding answer
a_dropped_copy_erases = refl

-- a read that is due before it breaks into its erase
an_erase_is_suspended : needed_call tight (run tight (before 1) (submit 23 30 (Read 2 ∷ []) ∷ [])) ≡ Some (calls.Read (at 3 2))
unfolding answer
an_erase_is_suspended = refl
