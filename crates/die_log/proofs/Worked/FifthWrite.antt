-- A task with four tokens: a fifth write finds none.
use Rattle.std.proofs.Common.{◌≡◌, [], ◌∷◌, replicate, refl}
use Rattle.slot_types.specs.declared.events.Event.TheVariants.{Submit}
use Rattle.slot_types.specs.declared.replies.Reply.TheVariants.{Refused, Taken}
use Rattle.slot_types.specs.declared.refusals.Refusal.TheVariants.{NoTokens}
use Rattle.die_log.specs.Model.Answers.{run, answer}
use Rattle.die_log.proofs.Worked.Plans.{roomy, submit, put}

five : answer roomy [] (Submit 0 0 9 (replicate 5 (put 1))) ≡ Refused (NoTokens 4 5)
unfolding answer
five = refl

four : answer roomy [] (Submit 0 0 9 (replicate 4 (put 1))) ≡ Taken 0
unfolding answer
four = refl

then_one : answer roomy (run roomy [] (submit 0 9 (replicate 4 (put 1)) ∷ [])) (Submit 0 0 9 (put 1 ∷ [])) ≡ Refused (NoTokens 0 1)
unfolding answer
then_one = refl
