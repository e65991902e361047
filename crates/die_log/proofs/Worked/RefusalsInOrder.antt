-- The first refusal whose condition stands is the answer.
use Rattle.std.proofs.Common.{◌≡◌, ℕ, List, [], ◌∷◌, replicate, refl}
use Rattle.slot_types.specs.declared.events.Op.{Op}
use Rattle.slot_types.specs.declared.events.Op.TheVariants.{Read}
use Rattle.slot_types.specs.declared.events.Event.{Event}
use Rattle.slot_types.specs.declared.events.Event.TheVariants.{Submit}
use Rattle.slot_types.specs.declared.replies.Reply.TheVariants.{Refused, Taken}
use Rattle.slot_types.specs.declared.refusals.Refusal.TheVariants as because
use Rattle.die_log.specs.Model.Log.{Log}
use Rattle.die_log.specs.Model.Answers.{run, answer}
use Rattle.die_log.proofs.Worked.Plans.{roomy, slot, put}

abbrev five_idle : Log
five_idle = run roomy [] (replicate 5 slot)

abbrev asks : ℕ → ℕ → ℕ → List Op → Event
asks task release due ops = Submit task release due ops

past : answer roomy five_idle (asks 0 4 9 (Read 0 ∷ [])) ≡ Refused (because.ReleasePast 5)
unfolding answer
past = refl

due_at_release : answer roomy five_idle (asks 0 5 5 (Read 0 ∷ [])) ≡ Refused because.BadDue
unfolding answer
due_at_release = refl

due_beyond : answer roomy five_idle (asks 0 5 1048577 (Read 0 ∷ [])) ≡ Refused because.BadDue
unfolding answer
due_beyond = refl

page : answer roomy five_idle (asks 0 5 9 (Read 12 ∷ [])) ≡ Refused (because.BadPage 12)
unfolding answer
page = refl

none : answer roomy five_idle (asks 0 5 9 []) ≡ Refused because.EmptyJob
unfolding answer
none = refl

many : answer roomy five_idle (asks 0 5 9 (replicate 65 (Read 0))) ≡ Refused because.TooManyOps
unfolding answer
many = refl

task_first : answer roomy five_idle (asks 1 5 9 []) ≡ Refused because.UnknownTask
unfolding answer
task_first = refl

page_before_release : answer roomy five_idle (asks 0 4 9 (Read 12 ∷ [])) ≡ Refused (because.BadPage 12)
unfolding answer
page_before_release = refl

due_before_tokens : answer roomy five_idle (asks 0 5 5 (replicate 5 (put 0))) ≡ Refused because.BadDue
unfolding answer
due_before_tokens = refl

-- a refused job uses no number
most : answer roomy five_idle (asks 0 5 9 (replicate 64 (Read 0))) ≡ Taken 0
unfolding answer
most = refl
