-- What waits enters, as jobs of the task that asked for it.
use Rattle.std.proofs.Common.{◌≡◌, ℕ, zero, suc, ◌+◌, ◌<◌, ◌==◌, true, false, List, [], ◌∷◌, ◌++◌, map, get_or, Option, Some, None}
use Rattle.std.proofs.Common.{refl, ap, ◌∙◌, arith, append-nil}
use Rattle.std.proofs.lemmas.Bool.Decides.{nat_tests}
use Rattle.demand_rules.specs.declared.terms.Terms.{Terms}
use Rattle.die_log.specs.Model.Log.{Log, Job, now}
use Rattle.die_log.specs.Model.Start.{Start}
use Rattle.die_log.specs.Model.Lives.{Lives, all_slots}
use Rattle.planned_log.specs.declared.ask_kinds.AskKind.TheVariants as kinds
use Rattle.planned_log.specs.declared.refusals.AskRefusal.{AskRefusal}
use Rattle.planned_log.specs.Asks.{asked_by, burst_refusal}
use Rattle.planned_log.specs.Bursts.{jobs_of}
use Rattle.planned_log.specs.Laws.{IsKept, Seen, Asks, seen_by}
use Rattle.planned_log.specs.Moves.{after_moves}
use Rattle.ongoing_log.specs.Ongoing.{WaitingAsk, asks_of}
use Rattle.task_reads.proofs.Calls.{keys, new_key}
use Rattle.task_reads.proofs.Running.{then_new, seen_keys, keys_told}

-- what a task sees of all that enters is its own ask
abbrev seen_of : Option WaitingAsk → List Seen
seen_of None = []
seen_of (Some w) = Asks kinds.Burst w.ops ∷ []

none_seen : (ws : List (Option WaitingAsk)) (n task : ℕ) → task < n → seen_by task (asks_of n ws) ≡ []
none_seen [] n task lt = refl
none_seen (None ∷ ws) n task lt = none_seen ws (n + 1) task (omega (arith, lt))
none_seen (Some w ∷ ws) n task lt = rw other (none_seen ws (n + 1) task (omega (arith, lt)))
  where
    other : (n == task) ≡ false
    other = grind (arith, nat_tests, lt)

own_seen : (ws : List (Option WaitingAsk)) (n k : ℕ) → seen_by (n + k) (asks_of n ws) ≡ seen_of (get_or ws k None)
own_seen [] n k = refl
own_seen (None ∷ ws) n zero = none_seen ws (n + 1) (n + 0) (omega arith)
own_seen (None ∷ ws) n (suc k) = ap (λ task. seen_by task (asks_of (n + 1) ws)) moved ∙ own_seen ws (n + 1) k
  where
    moved : n + suc k ≡ (n + 1) + k
    moved = omega arith
own_seen (Some w ∷ ws) n zero = rw same (ap (λ (l : List Seen). Asks kinds.Burst w.ops ∷ l) (none_seen ws (n + 1) (n + 0) (omega arith)))
  where
    same : (n == n + 0) ≡ true
    same = grind (arith, nat_tests)
own_seen (Some w ∷ ws) n (suc k) =
    rw other (ap (λ task. seen_by task (asks_of (n + 1) ws)) moved ∙ own_seen ws (n + 1) k)
  where
    other : (n == n + suc k) ≡ false
    other = grind (arith, nat_tests)

    moved : n + suc k ≡ (n + 1) + k
    moved = omega arith

module _ (start : Start) (terms : Terms) (earlier : Lives) (life task : ℕ) (ws : List (Option WaitingAsk)) (log : Log)
    (k : IsKept start terms earlier life 0 log) where
  abbrev entered : Log
  entered = after_moves start terms earlier life log (asks_of 0 ws)

  abbrev then_seen : List Seen → List Job
  then_seen seen = keys task log ++ seen_keys start.plan terms life (all_slots earlier) task (now log) (asked_by task (log ∷ earlier)) seen

  seen_here : (v : Option WaitingAsk) → get_or ws task None ≡ v → keys task entered ≡ then_seen (seen_of v)
  seen_here v is =
      keys_told start terms earlier life task (asks_of 0 ws) log k
      ∙ ap then_seen (ap (λ n. seen_by n (asks_of 0 ws)) from_first ∙ (own_seen ws 0 task ∙ ap seen_of is))
    where
      from_first : task ≡ 0 + task
      from_first = omega arith

  -- where none of the task does, it has the jobs that it had
  pub none_enters : get_or ws task None ≡ None → keys task entered ≡ keys task log
  none_enters none = seen_here None none ∙ append-nil (keys task log)

  -- else those of its ask more
  pub own_enters : (w : WaitingAsk) → get_or ws task None ≡ Some w → burst_refusal start.plan terms life earlier log task w.ops ≡ None
      → keys task entered ≡ keys task log ++ map (new_key terms task (now log)) (jobs_of w.ops)
  own_enters w is unrefused = seen_here (Some w) is
      ∙ (ap by_refusal unrefused ∙ ap (λ (l : List Job). keys task log ++ l) (append-nil (map (new_key terms task (now log)) (jobs_of w.ops))))
    where
      by_refusal : Option AskRefusal → List Job
      by_refusal o = keys task log ++ (then_new start.plan terms life (all_slots earlier) task (now log) (jobs_of w.ops) o ++ [])
