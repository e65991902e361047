-- A trimmed page reads blank, until it is written again; a page that was never written stays so.
use Rattle.std.proofs.Common.{◌≡◌, [], ◌∷◌, None, map, refl, negsuc}
use Rattle.slot_types.specs.declared.acts.Act.TheVariants as does
use Rattle.slot_types.specs.declared.events.Op.TheVariants.{Read, Write, Trim}
use Rattle.late_cert.specs.Schedule.{lateness_of}
use Rattle.die_log.specs.Model.Log.{Log, acts}
use Rattle.die_log.specs.Model.Flash.{cells, block_of_page, free}
use Rattle.die_log.specs.Model.Accounts.{accounts}
use Rattle.die_log.specs.Model.Work.{completion}
use Rattle.die_log.specs.Model.Answers.{run, answer}
use Rattle.die_log.proofs.Worked.Plans.{roomy, amounts, submit, slot, bytes}

-- the write and the trim
abbrev pub trimmed : Log
trimmed = run roomy [] (submit 0 3 (Write 3 (bytes 17) ∷ []) ∷ slot ∷ submit 1 4 (Trim 3 ∷ []) ∷ slot ∷ [])

abbrev history : Log
history = run roomy trimmed (submit 2 5 (Read 3 ∷ []) ∷ slot ∷ [])

reads : acts 2 history ≡ does.Read 3 (bytes 255) ∷ []
unfolding answer
reads = refl

ends : map (λ n. completion n history) (0 ∷ 1 ∷ 2 ∷ []) ≡ 1 ∷ 2 ∷ 3 ∷ []
unfolding answer
ends = refl

two_early : lateness_of (completion 1 history) 4 ≡ negsuc 1
unfolding answer
two_early = refl

-- the token of the write is spent, and the trim gives none back
tokens : accounts roomy history ≡ amounts roomy.plan 26 3 0 2
unfolding answer
tokens = refl

-- its cell is stale, and not free
lies_nowhere : block_of_page (cells roomy history) 3 ≡ None
unfolding answer
lies_nowhere = refl

frees_nothing : free roomy history ≡ 31
unfolding answer
frees_nothing = refl

abbrev written_again : Log
written_again = run roomy history (submit 3 9 (Write 3 (bytes 34) ∷ Read 3 ∷ []) ∷ slot ∷ slot ∷ [])

reads_again : acts 3 written_again ≡ does.Write 3 (bytes 34) ∷ does.Read 3 (bytes 34) ∷ []
unfolding answer
reads_again = refl

abbrev never_written : Log
never_written = run roomy [] (submit 0 5 (Trim 7 ∷ Read 7 ∷ []) ∷ slot ∷ slot ∷ [])

stays_blank : acts 0 never_written ≡ does.Trim 7 ∷ does.Read 7 (bytes 255) ∷ []
unfolding answer
stays_blank = refl
