-- What a die remembers of its tasks' asks counts as what they asked for in all lives does.
use Rattle.std.proofs.Common.{◌≡◌, ◌≢◌, ℕ, ◌+◌, ◌<◌, ◌≤◌, ◌==◌, ◌&&◌, nat_le, true, false, cond, List, [], ◌∷◌, ◌++◌, get_or, set, drop}
use Rattle.std.proofs.Common.{length, map, sum_by, refl, ap, sym, subst, ◌∙◌, inl, inr, arith}
use Rattle.std.proofs.lemmas.Bool.{cases_Bool, cases_lt}
use Rattle.std.proofs.lemmas.Bool.Decides.{nat_tests}
use Rattle.std.proofs.lemmas.List.{get_or-set_same, get_or-set_other}
use Rattle.slot_types.specs.declared.events.Op.{Op}
use Rattle.slot_types.specs.declared.events.Event.{Event}
use Rattle.slot_types.specs.declared.events.Event.TheVariants as events
use Rattle.slot_types.specs.declared.plans.DiePlan.{DiePlan}
use Rattle.slot_types.specs.declared.replies.Reply.{Reply}
use Rattle.slot_types.specs.declared.replies.Reply.TheVariants as replies
use Rattle.slot_types.specs.Operations.{writes}
use Rattle.demand_rules.specs.declared.terms.TaskTerms.{TaskTerms}
use Rattle.demand_rules.specs.declared.terms.Terms.{Terms}
use Rattle.demand_rules.specs.Demand.{terms_of}
use Rattle.die_log.specs.Model.Log.{Log, now}
use Rattle.die_log.specs.Model.Start.{Start}
use Rattle.die_log.specs.Model.Lives.{Lives, all_slots}
use Rattle.die_log.specs.Model.Answers.{answer, with_answer, after_call, run}
use Rattle.planned_log.specs.Asks.{Asked, asked_in, asked_by, counts_in, counting, operations_in, writes_in, has_room}
use Rattle.planned_log.specs.Asks.{refusals_above, first_refusal}
use Rattle.planned_log.specs.KeptLogs.{comes_at, collections_at}
use Rattle.planned_die.specs.declared.memory.AskedJob.{AskedJob}
use Rattle.planned_die.specs.declared.task_asks.TaskAsks.{TaskAsks}
use Rattle.planned_die.specs.Remembered.{newest_first, own_asks, CountAs, IsKeptFor}
use Rattle.planned_die.proofs.Sums.{sum_counting}
use Rattle.planned_die.proofs.Passing.{as_asked, newest_one, without_passed}

-- What is refused

same_sum : (period slot : ℕ) (amount : Asked → ℕ) (one two : List Asked) → counting period slot one ≡ counting period slot two
    → sum_by (λ a. cond (counts_in period slot a) (amount a) 0) one ≡ sum_by (λ a. cond (counts_in period slot a) (amount a) 0) two
same_sum period slot amount one two e =
    sum_counting period slot amount one ∙ (ap (sum_by amount) e ∙ sym (sum_counting period slot amount two))

same_room : (t : TaskTerms) (slot : ℕ) (one two : List Asked) (ops written : ℕ) → counting t.period slot one ≡ counting t.period slot two
    → has_room t slot one ops written ≡ has_room t slot two ops written
same_room t slot one two ops written e =
    ap (λ n. nat_le (n + ops) t.work && nat_le (writes_in t.period slot one + written) t.writes) (same_sum t.period slot (λ a. a.operations) one two e)
    ∙ ap (λ n. nat_le (operations_in t.period slot two + ops) t.work && nat_le (n + written) t.writes)
    (same_sum t.period slot (λ a. a.writes) one two e)

-- what is asked for is refused alike where what counts now is the same; a task that isn't there is refused anyway
pub refused_alike : (most : ℕ) (plan : DiePlan) (terms : Terms) (life first slot : ℕ) (one two : List Asked) (task : ℕ) (ops : List Op)
    → (task < length plan.caps → counting (terms_of terms task).period (first + slot) one ≡ counting (terms_of terms task).period (first + slot) two)
    → first_refusal (refusals_above most plan terms life first slot one task ops) ≡ first_refusal (refusals_above most plan terms life first slot two task ops)
refused_alike most plan terms life first slot one two task ops same = elim (cases_Bool (nat_le (length plan.caps) task)) [
  | inl unknown ↦ rw unknown refl
  | inr known ↦
      let e = same (grind (arith, nat_tests, known)) in
      rw (same_room (terms_of terms task) (first + slot) one two (length ops) (writes ops) e) (rw e refl)
]

-- One ask more

module _ (plan : DiePlan) (terms : Terms) (caller task due clock : ℕ) (ops : List Op) (r : Reply) (asked : List (List AskedJob)) (log : Log)
    (earlier : Lives) (t : TaskAsks) (j : AskedJob) (is : j ≡ record { at = all_slots earlier + now log; operations = length ops; writes = writes ops })
    (kept : IsKeptFor (terms_of terms task).period clock t) (jobs : t.jobs.items ≡ get_or asked task []) (known : task < length asked)
    (h : CountAs plan terms clock asked (log ∷ earlier)) where
  abbrev entered : Lives
  entered = (record { caller = caller; event = events.Submit task (now log) due ops; reply = r } ∷ log) ∷ earlier

  abbrev noted : List (List AskedJob)
  noted = set asked task (drop t.passed t.jobs.items ++ j ∷ [])

  other_counts : (i slot : ℕ) → i < length plan.caps → clock ≤ slot → i ≢ task
      → counting (terms_of terms i).period slot (own_asks i noted) ≡ counting (terms_of terms i).period slot (asked_by i entered)
  other_counts i slot lt le ne =
      let not_own : (task == i) ≡ false = grind (arith, nat_tests, ne) in
      rw (get_or-set_other asked task i (drop t.passed t.jobs.items ++ j ∷ []) [] ne) (rw not_own (h i slot lt le))

  own_counts : (slot : ℕ) → task < length plan.caps → clock ≤ slot
      → counting (terms_of terms task).period slot (own_asks task noted) ≡ counting (terms_of terms task).period slot (asked_by task entered)
  own_counts slot lt le =
      let own : (task == task) ≡ true = grind (arith, nat_tests) in
      let period : ℕ = (terms_of terms task).period in
      let a : Asked = as_asked j in
      let rest : counting period slot (newest_first (drop t.passed t.jobs.items)) ≡ counting period slot (asked_by task (log ∷ earlier)) =
      sym (without_passed period clock t kept slot le) ∙ (ap (λ l. counting period slot (newest_first l)) jobs ∙ h task slot lt le) in
      ap (λ l. counting period slot (newest_first l)) (get_or-set_same asked task (drop t.passed t.jobs.items ++ j ∷ []) [] known)
      ∙ (ap (counting period slot) (newest_one (drop t.passed t.jobs.items) j)
      ∙ (ap (λ l. cond (counts_in period slot a) (a ∷ l) l) rest
      ∙ (ap (λ (k : AskedJob). counting period slot (as_asked k ∷ asked_by task (log ∷ earlier))) is ∙ rw own refl)))

  pub ask_counts : CountAs plan terms clock noted entered
  ask_counts i slot lt le = elim (cases_lt i task) [
    | inl less ↦ other_counts i slot lt le (λ e. absurd (omega (arith, e, less)))
    | inr more ↦ elim (cases_lt task i) [
      | inl less ↦ other_counts i slot lt le (λ e. absurd (omega (arith, e, less)))
      | inr less ↦ let same : i ≡ task = omega (arith, more, less) in
          subst (λ n. counting (terms_of terms n).period slot (own_asks n noted) ≡ counting (terms_of terms n).period slot (asked_by n entered)) (sym same)
          (own_counts slot (omega (arith, lt, same)) le)
    ]
  ]

-- Collections and slots are no asks

collected_asks : (task first caller other release due : ℕ) (r : Reply) (before : List Asked) (log : Log)
    → asked_in task first before (with_answer caller (events.Collect other release due) r log) ≡ asked_in task first before log
collected_asks task first caller other release due (replies.Taken n) before log = refl
collected_asks task first caller other release due (replies.Slot s) before log = refl
collected_asks task first caller other release due (replies.Refused r) before log = refl

pub run_asks : (start : Start) (task first caller slot : ℕ) (before : List Asked) (ts : List TaskTerms) (k : ℕ) (log : Log)
    → asked_in task first before (run start log (map (λ event. (caller, event)) (collections_at ts k slot))) ≡ asked_in task first before log
run_asks start task first caller slot before [] k log = refl
run_asks start task first caller slot before (t ∷ ts) k log =
    let event : Event = events.Collect k slot (slot + t.collect_deadline) in
    elim (cases_Bool (comes_at t.collect_period slot)) [
      | inl due ↦ rw due (run_asks start task first caller slot before ts (k + 1) (after_call start log (caller, event))
          ∙ collected_asks task first caller k slot (slot + t.collect_deadline) (answer start log event) before log)
      | inr not_due ↦ rw not_due (run_asks start task first caller slot before ts (k + 1) log)
    ]

-- where the asks are the same and the clock went on
pub later_counts : (plan : DiePlan) (terms : Terms) (clock after : ℕ) (jobs : List (List AskedJob)) (lives next : Lives) → clock ≤ after
    → ((task : ℕ) → asked_by task next ≡ asked_by task lives) → CountAs plan terms clock jobs lives → CountAs plan terms after jobs next
later_counts plan terms clock after jobs lives next le same h t slot lt from =
    h t slot lt (omega (arith, le, from)) ∙ ap (counting (terms_of terms t).period slot) (sym (same t))
