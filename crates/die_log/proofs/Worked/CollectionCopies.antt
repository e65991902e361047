-- After the filling history a collection finds nothing spare: it copies a page and erases its block.
use Rattle.std.proofs.Common.{◌≡◌, ℕ, List, [], ◌∷◌, Some, refl, false, negsuc}
use Rattle.std.specs.Prelude.{drop}
use Rattle.slot_types.specs.declared.acts.Act.TheVariants as does
use Rattle.slot_types.specs.declared.events.Event.{Event}
use Rattle.slot_types.specs.declared.events.Event.TheVariants.{Collect}
use Rattle.slot_types.specs.declared.replies.Reply.TheVariants.{Taken}
use Rattle.late_cert.specs.Schedule.{lateness_of}
use Rattle.die_log.specs.Model.Log.{Log, acts}
use Rattle.die_log.specs.Model.Flash.{cells, block_at, free}
use Rattle.die_log.specs.Model.Accounts.{accounts}
use Rattle.die_log.specs.Model.Work.{completion, victim_of}
use Rattle.die_log.specs.Model.Answers.{run, answer}
use Rattle.die_log.specs.Results.Legal.{changed_since}
use Rattle.die_log.specs.Model.Lives.{erases_in, all_erases_in, collections_taken}
use Rattle.die_log.proofs.Worked.Plans.{tight, amounts, collect, slot}
use Rattle.die_log.proofs.Worked.FillingHistory.{full}

taken : answer tight full (Collect 0 19 40) ≡ Taken 11
unfolding answer
taken = refl

abbrev pub collect_calls : List (ℕ × Event)
collect_calls = collect 19 40 ∷ slot ∷ slot ∷ slot ∷ slot ∷ slot ∷ []

abbrev pub collected : Log
collected = run tight full collect_calls

its_acts : acts 11 collected ≡ does.CopyRead 2 ∷ does.CopyProgram 2 ∷ does.Erase 1 ∷ does.Erase 1 ∷ does.Erase 1 ∷ []
unfolding answer
its_acts = refl

its_block : victim_of tight 11 collected ≡ Some 1
unfolding answer
its_block = refl

erased : block_at (cells tight collected) 1 ≡ record { filled = 0; erasing = 0; erases = 1 }
unfolding answer
erased = refl

tokens : accounts tight collected ≡ amounts tight.plan 1 2 0 2
unfolding answer
tokens = refl

frees : free tight collected ≡ 5
unfolding answer
frees = refl

ends : completion 11 collected ≡ 24
unfolding answer
ends = refl

is_late : lateness_of (completion 11 collected) 40 ≡ negsuc 15
unfolding answer
is_late = refl

-- no job wrote the page between its read and its program
unchanged : changed_since 11 2 (drop 4 collected) ≡ false
unfolding answer
unchanged = refl

-- two slots into its erase
erasing : block_at (cells tight (drop 1 collected)) 1 ≡ record { filled = 4; erasing = 2; erases = 0 }
unfolding answer
erasing = refl

-- one erase was finished, in six collections, of which five were waived
erases : erases_in 1 collected ≡ 1
unfolding answer
erases = refl

all_erases : all_erases_in collected ≡ 1
unfolding answer
all_erases = refl

collections : collections_taken collected ≡ 6
unfolding answer
collections = refl
