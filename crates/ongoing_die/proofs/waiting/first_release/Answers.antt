use Rattle.std.proofs.Common.{◌≡◌, ℕ, zero, suc, ◌+◌, ◌<◌, ◌≤◌, List, [], ◌∷◌, length, map, get_or, Option, None, Some, refl, ap, sym, ◌∙◌, arith, inl, inr}
use Rattle.std.proofs.lemmas.Bool.{cases_lt}
use Rattle.std.proofs.lemmas.List.{get_or-map, length-map}
use Rattle.ongoing_log.specs.Ongoing.{WaitingAsk}
use Rattle.ongoing_die.specs.declared.waiting.Waiting.{Waiting}
use Rattle.ongoing_die.specs.Standing.{ask_in}
use Rattle.ongoing_die.proofs.waiting.first_release.Goals as goal

pub loop-task-preserved : goal.loop-task-preserved
loop-task-preserved c =
    let l = c.loop-task in
    let ws : List Waiting = c.args.waiting.now.items in
    let own : Waiting = c.index.result.now in
    let within : l.task < length ws = omega (arith, c.loop-task-test.true, c.len-task-end.ensures) in
    let here : ask_in own ≡ get_or (map ask_in ws) l.task None = ap ask_in c.index.ensures ∙ sym (get_or-map ask_in ws l.task own None within) in
    record {
      within = omega (arith, c.release_before-first.ensures.within, l.invariant.within);
      first = λ task w lt e. elim (cases_lt task l.task) [
        | inl less ↦ omega (arith, c.release_before-first.ensures.within, l.invariant.first task w less e)
        | inr more ↦
            let same : task ≡ l.task = omega (arith, more, lt) in
            c.release_before-first.ensures.first w (here ∙ (ap (λ n. get_or (map ask_in ws) n None) (sym same) ∙ e))
      ];
    }

-- of no task beyond the last one an ask waits
none_beyond : (ws : List (Option WaitingAsk)) (task : ℕ) → length ws ≤ task → get_or ws task None ≡ None
none_beyond [] task le = refl
none_beyond (w ∷ ws) zero le = absurd (omega (arith, le))
none_beyond (w ∷ ws) (suc n) le = none_beyond ws n (omega (arith, le))

pub returns-clause-first : goal.returns-clause-first
returns-clause-first c task w e =
    let l = c.loop-task in
    let ws : List Waiting = c.args.waiting.now.items in
    elim (cases_lt task l.task) [
      | inl less ↦ l.invariant.first task w less e
      | inr more ↦
          let none = none_beyond (map ask_in ws) task (omega (arith, more, length-map ws ask_in, c.loop-task-test.false, c.len-task-end.ensures)) in
          let no : ◌≡◌ {A = Option WaitingAsk} None (Some w) = sym none ∙ e in
          absurd cc
    ]
