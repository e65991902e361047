use Rattle.std.proofs.Common.{◌≡◌, ℕ, zero, suc, ◌<◌, ◌≤◌, List, [], ◌∷◌, length, map, get_or, Option, None, refl, sym, subst, arith, inl, inr}
use Rattle.std.specs.Prelude.{IsSome}
use Rattle.std.proofs.lemmas.Bool.{cases_lt}
use Rattle.std.proofs.lemmas.List.{length-map}
use Rattle.ongoing_log.specs.Ongoing.{WaitingAsk}
use Rattle.ongoing_die.specs.declared.waiting.Waiting.{Waiting}
use Rattle.ongoing_die.specs.Standing.{ask_in}
use Rattle.ongoing_die.proofs.AskEnds.{one_waits, none_waits}
use Rattle.ongoing_die.proofs.waiting.first_waiting.Goals as goal

-- of no task beyond the last one an ask waits
none_beyond : (ws : List (Option WaitingAsk)) (task : ℕ) → length ws ≤ task → get_or ws task None ≡ None
none_beyond [] zero le = refl
none_beyond [] (suc n) le = refl
none_beyond (w ∷ ws) zero le = absurd (omega (arith, le))
none_beyond (w ∷ ws) (suc n) le = none_beyond ws n (omega (arith, le))

pub loop-task-preserved : goal.loop-task-preserved
loop-task-preserved c before lt =
    let l = c.loop-task in
    let ws : List Waiting = c.args.waiting.now.items in
    let within : l.task < length ws = omega (arith, c.loop-task-test.true, c.len-task-end.ensures) in
    elim (cases_lt before l.task) [
      | inl less ↦ l.invariant before less
      | inr more ↦ let here : l.task ≡ before = omega (arith, more, lt) in
          subst (λ n. get_or (map ask_in ws) n None ≡ None) here (none_waits ws l.task c.index.result.now within c.index.ensures c.if-index.false)
    ]

pub returns-then-index-clause-some : goal.returns-then-index-clause-some
returns-then-index-clause-some c =
    let l = c.loop-task in
    let ws : List Waiting = c.args.waiting.now.items in
    let within : l.task < length ws = omega (arith, c.loop-task-test.true, c.len-task-end.ensures) in
    record {
      waits = subst IsSome (sym (one_waits ws l.task c.index.result.now within c.index.ensures c.if-index.true)) refl;
      first = l.invariant;
    }

pub returns-clause-none : goal.returns-clause-none
returns-clause-none c task =
    let l = c.loop-task in
    let ws : List Waiting = c.args.waiting.now.items in
    elim (cases_lt task l.task) [
      | inl less ↦ l.invariant task less
      | inr more ↦ none_beyond (map ask_in ws) task (omega (arith, more, length-map ws ask_in, c.loop-task-test.false, c.len-task-end.ensures))
    ]
