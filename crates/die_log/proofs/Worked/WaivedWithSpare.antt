-- A collection with enough spare pages is waived in its slot; until then its task has no second one.
use Rattle.std.proofs.Common.{◌≡◌, [], ◌∷◌, None, refl}
use Rattle.slot_types.specs.declared.events.Event.TheVariants.{Collect}
use Rattle.slot_types.specs.declared.replies.Reply.TheVariants as replies
use Rattle.slot_types.specs.declared.refusals.Refusal.TheVariants.{CollectorBusy}
use Rattle.die_log.specs.Model.Log.{Log, waived_collections}
use Rattle.die_log.specs.Model.Accounts.{accounts}
use Rattle.die_log.specs.Model.Answers.{run, answer}
use Rattle.die_log.proofs.Worked.Plans.{roomy, amounts, collect, slot, numbers, worst_of}

abbrev taken : Log
taken = run roomy [] (collect 0 5 ∷ [])

busy : answer roomy taken (Collect 0 0 5) ≡ replies.Refused CollectorBusy
unfolding answer
busy = refl

abbrev history : Log
history = run roomy taken (slot ∷ [])

gives_nothing : waived_collections history ≡ record { number = 0; given = 0 } ∷ []
unfolding answer
gives_nothing = refl

idle : numbers history ≡ None ∷ []
unfolding answer
idle = refl

tokens : accounts roomy history ≡ amounts roomy.plan 26 4 0 2
unfolding answer
tokens = refl

nobody : worst_of roomy.plan history ≡ None
unfolding answer
nobody = refl
