-- A page that is trimmed between a copy's read and its program isn't programmed.
use Rattle.std.proofs.Common.{◌≡◌, true, [], ◌∷◌, refl, negsuc}
use Rattle.slot_types.specs.declared.acts.Act.TheVariants as does
use Rattle.slot_types.specs.declared.events.Op.TheVariants.{Trim}
use Rattle.late_cert.specs.Schedule.{lateness_of}
use Rattle.die_log.specs.Model.Log.{Log, acts, work}
use Rattle.die_log.specs.Model.Flash.{free, content}
use Rattle.die_log.specs.Model.Accounts.{accounts}
use Rattle.die_log.specs.Model.Work.{completion}
use Rattle.die_log.specs.Model.Answers.{run, answer}
use Rattle.die_log.specs.Results.Legal.{changed_since}
use Rattle.die_log.proofs.Worked.Plans.{tight, amounts, submit, collect, slot, bytes}
use Rattle.die_log.proofs.Worked.FillingHistory.{one_less}

-- the collection's read, and the job that trims the page
abbrev pub trimmed : Log
trimmed = run tight one_less (collect 18 40 ∷ slot ∷ submit 19 25 (Trim 2 ∷ []) ∷ slot ∷ [])

since : changed_since 11 2 trimmed ≡ true
unfolding answer
since = refl

abbrev history : Log
history = run tight trimmed (slot ∷ slot ∷ slot ∷ [])

its_acts : acts 11 history ≡ does.CopyRead 2 ∷ does.Erase 1 ∷ does.Erase 1 ∷ does.Erase 1 ∷ []
unfolding answer
its_acts = refl

takes : work 11 history ≡ 4
unfolding answer
takes = refl

ends : completion 11 history ≡ 23
unfolding answer
ends = refl

is_late : lateness_of (completion 11 history) 40 ≡ negsuc 16
unfolding answer
is_late = refl

tokens : accounts tight history ≡ amounts tight.plan 2 3 0 2
unfolding answer
tokens = refl

frees : free tight history ≡ 7
unfolding answer
frees = refl

reads : content tight history 2 ≡ bytes 255
unfolding answer
reads = refl
