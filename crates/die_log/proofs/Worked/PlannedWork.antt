-- A collection and two jobs that keep to a plan with times: the collection is waived, and both jobs are done long before
-- their deadlines. The laws say so too, and that none of them is refused.
use Rattle.std.proofs.Common.{◌≡◌, ℕ, ◌≤◌, [], ◌∷◌, List, map, refl, arith}
use Rattle.std.proofs.lemmas.List.Elements.{All-from_recursion}
use Rattle.slot_types.specs.declared.events.Op.TheVariants.{Read}
use Rattle.slot_types.specs.declared.events.Event.{Event}
use Rattle.plan_rules.specs.Bound.{MeetsBound}
use Rattle.die_log.specs.Model.Start.{fresh}
use Rattle.die_log.proofs.Openings.{fresh_opens, fresh_stocked}
use Rattle.plan_rules.proofs.Worked.PlansWithTimes.{small, each_ten, passes}
use Rattle.plan_rules.proofs.Worked.EventsThatKeep as came
use Rattle.die_log.specs.Model.Log.{Log, now, waived_collections}
use Rattle.die_log.specs.Model.Work.{completion}
use Rattle.die_log.specs.Model.Accounts.{accounts}
use Rattle.die_log.specs.Model.Answers.{run, answer}
use Rattle.die_log.specs.Results.InTime.{IsInTime, AreAccepted}
use Rattle.die_log.proofs.Worked.Plans.{amounts}
use Rattle.die_log.proofs.Planned.InTime.{run_in_time}
use Rattle.die_log.proofs.Supply.Unrefused.{run_accepted}

abbrev pub calls : List (ℕ × Event)
calls = map (λ event. (0, event)) (came.history (Read 0) 10)

abbrev history : Log
history = run (fresh (small 6)) [] calls

twenty : now history ≡ 20
unfolding answer
twenty = refl

gives_nothing : waived_collections history ≡ record { number = 0; given = 0 } ∷ []
unfolding answer
gives_nothing = refl

ends : map (λ n. completion n history) (1 ∷ 2 ∷ []) ≡ 1 ∷ 11 ∷ []
unfolding answer
ends = refl

tokens : accounts (fresh (small 6)) history ≡ amounts (small 6) 8 5 0 2
unfolding answer
tokens = refl

pub bound : MeetsBound (small 6)
bound = record {
  shape = record {
    some_blocks = omega arith;
    few_blocks = omega arith;
    some_pages = omega arith;
    few_pages = omega arith;
    some_slots =
        omega arith;
    few_slots = omega arith;
  };
  limits = record {
    some_tasks = omega arith;
    few_tasks = omega arith;
    some_logical = omega arith;
    some_alpha = omega arith;
    alpha_fits =
        omega arith;
    some_cap = All-from_recursion (λ (c : ℕ). 1 ≤ c) (6 ∷ []) (omega arith, tt);
  };
  closed = omega arith;
  live = omega arith;
}

in_time : IsInTime (small 6) history
in_time = run_in_time (fresh (small 6)) (each_ten 2) (fresh_opens (small 6) bound) passes calls came.keeps

accepted : AreAccepted (fresh (small 6)) [] calls
accepted = run_accepted (fresh (small 6)) (each_ten 2) (fresh_opens (small 6) bound) passes
    (fresh_stocked (small 6) (each_ten 2)) [] calls tt came.keeps
