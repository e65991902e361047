-- No event of those that keep a passing plan with bursts is refused.
use Rattle.std.proofs.Common.{◌≡◌, ℕ, ◌*◌, ◌<◌, ◌≤◌, ◌==◌, ◌||◌, ◌&&◌, not, nat_lt, nat_le, Bool, true, false, cond, List, [], ◌∷◌, ◌++◌}
use Rattle.std.proofs.Common.{length, map, Some, None, is_some, find, option_map, refl, ap, sym, subst, ◌∙◌, inl, inr, arith, append_assoc}
use Rattle.std.specs.Prelude.{Contains}
use Rattle.std.specs.List.{AllByRecursion, list_any}
use Rattle.std.proofs.lemmas.Bool.{true≢false, lt-leb, and_parts, eqb-true, not-true}
use Rattle.std.proofs.lemmas.Bool.Decides.{nat_tests}
use Rattle.std.proofs.lemmas.List.Elements.{recursion_from_All, Contains-get_or}
use Rattle.std.proofs.lemmas.List.Folds.{list_any_none}
use Rattle.slot_types.specs.declared.plans.DiePlan.{DiePlan}
use Rattle.slot_types.specs.declared.limits.TheConstants.{MAX_SLOT, MAX_JOBS, MAX_OPS}
use Rattle.slot_types.specs.declared.events.Op.{Op}
use Rattle.slot_types.specs.declared.events.Event.{Event}
use Rattle.slot_types.specs.declared.events.Event.TheVariants as events
use Rattle.slot_types.specs.declared.refusals.Refusal.{Refusal}
use Rattle.plan_rules.specs.Keeping.{arrivals}
use Rattle.demand_rules.specs.declared.terms.Terms.{Terms}
use Rattle.demand_rules.specs.Demand.{terms_of, PassesDemand}
use Rattle.demand_rules.specs.Supply.{PassesSupply}
use Rattle.demand_rules.specs.Keeping.{KeepsDemandPlan}
use Rattle.demand_rules.proofs.Fitting.{task_terms}
use Rattle.demand_rules.proofs.Moments.{next_job, next_collection, next_slot, next_fits, at_multiple}
use Rattle.slot_types.specs.Operations.{writes, page_of}
use Rattle.die_log.specs.Model.Log.{Log, Job, jobs, now, is_waived}
use Rattle.die_log.specs.Model.Work.{is_done, is_collecting}
use Rattle.die_log.specs.Model.Answers.{bad_page, first_that_holds, refusals, refusal_of, reply_if_accepted, answer, IsAccepted, IsExact, with_answer}
use Rattle.die_log.specs.Model.Answers.{after_call}
use Rattle.die_log.specs.Results.InTime.{IsInTime, events_of_log, AreAccepted}
use Rattle.die_log.specs.Results.Supply.{collections_of}
use Rattle.die_log.proofs.Legality.{entry, accepted_answer}
use Rattle.die_log.proofs.Runs.{call_exact}
use Rattle.die_log.specs.Model.Start.{Start}
use Rattle.die_log.specs.Model.Opening.{IsOpening}
use Rattle.die_log.specs.Results.Covered.{AreStockedFor}
use Rattle.die_log.proofs.Supply.Following.{Follows, follows, collections_are, collections_due, jobs_are}
use Rattle.die_log.proofs.Supply.Covering.{never_late, covers_next}

-- where each condition is false, none stands
none_stand : (cs : List (Bool × Refusal)) → AllByRecursion (λ c. c.0 ≡ false) cs → first_that_holds cs ≡ None
none_stand [] h = refl
none_stand ((true, r) ∷ cs) h = absurd (true≢false h.0)
none_stand ((false, r) ∷ cs) h = none_stand cs h.1

-- Single conditions

some_operations : (ops : List Op) → 1 ≤ length ops → (length ops == 0) ≡ false
some_operations ops h = grind (arith, nat_tests)

not_above : (m n : ℕ) → n ≤ m → nat_lt m n ≡ false
not_above m n h = grind (arith, nat_tests)

dates_fit : (release due : ℕ) → release < due → due ≤ MAX_SLOT → (nat_le due release || nat_lt MAX_SLOT due) ≡ false
dates_fit release due h k = grind (arith, nat_tests)

no_bad_page : (plan : DiePlan) (ops : List Op) → AllByRecursion (λ op. page_of op < plan.logical) ops → is_some (bad_page plan ops) ≡ false
no_bad_page plan [] h = refl
no_bad_page plan (op ∷ ops) h = by_test (nat_le plan.logical (page_of op)) (lt-leb plan.logical (page_of op) h.0) (no_bad_page plan ops h.1)
  where
    by_test : (b : Bool) → b ≡ false → is_some (bad_page plan ops) ≡ false
        → is_some (option_map page_of (cond b (Some op) (find (λ o. nat_le plan.logical (page_of o)) ops))) ≡ false
    by_test true e rest = absurd (true≢false e)
    by_test false e rest = rest

few_jobs : (plan : DiePlan) (terms : Terms) (past : Log) → Follows plan terms past → length (arrivals 0 (events_of_log past)) < MAX_JOBS
    → nat_le MAX_JOBS (length (jobs past)) ≡ false
few_jobs plan terms past f h = lt-leb MAX_JOBS (length (jobs past)) (omega (arith, h, jobs_are plan terms past f))

none_found : {X : Type 0} (p : X → Bool) (xs : List X) → ((x : X) → Contains xs x → p x ≡ false) → list_any p xs ≡ false
none_found p xs h = list_any_none p xs (λ k d lt. h _ (Contains-get_or xs k d lt))

-- all collections of the task that came are due, so each is done or was waived
not_busy : (plan : DiePlan) (terms : Terms) (past : Log) (task : ℕ) → Follows plan terms past → task < length plan.caps → IsInTime plan past
    → now past ≡ (terms_of terms task).collect_period * collections_of (jobs past) task
    → is_collecting plan past task ≡ false
not_busy plan terms past task f lt in_time multiple = none_found (λ j. j.collects && (j.task == task) && not (is_done plan past j)
    && not (is_waived past j.number)) (jobs past) (λ j k. each j k _ refl)
  where
    each : (j : Job) → Contains (jobs past) j → (b : Bool)
        → (j.collects && (j.task == task) && not (is_done plan past j) && not (is_waived past j.number)) ≡ b
        → (j.collects && (j.task == task) && not (is_done plan past j) && not (is_waived past j.number)) ≡ false
    each j k false is = is
    each j k true is =
        let gone = and_parts (j.collects && (j.task == task) && not (is_done plan past j)) (not (is_waived past j.number)) is in
        let done = and_parts (j.collects && (j.task == task)) (not (is_done plan past j)) gone.0 in
        let kind = and_parts j.collects (j.task == task) done.0 in
        elim (in_time.due_by_now j k (omega (
          arith,
          multiple,
          collections_due plan terms past task f lt j k kind.0
              (eqb-true j.task task kind.1),
        ))) [
          | inl over ↦ absurd (true≢false (sym over ∙ not-true (is_done plan past j) done.1))
          | inr waived ↦ absurd (true≢false (sym waived ∙ not-true (is_waived past j.number) gone.1))
        ]

-- Events

pub unrefused : (start : Start) (terms : Terms) → IsOpening start → PassesDemand start.plan terms → PassesSupply start.plan terms → (past : Log) (event : Event) (rest : List Event)
    → IsExact start past → KeepsDemandPlan start.plan terms (events_of_log past ++ event ∷ rest)
    → AreStockedFor start terms (events_of_log past ++ event ∷ rest)
    → refusal_of start past event ≡ None
unrefused start terms bound passes supply past (events.Submit task release due ops) rest exact keeps stocked =
    let n = next_job start.plan terms (events_of_log past) rest task release due ops keeps in
    let f = follows start terms past exact (events.Submit task release due ops ∷ rest) keeps in
    let t = task_terms start.plan terms task passes.has n.task in
    none_stand (refusals start past (events.Submit task release due ops)) (
      lt-leb (length start.plan.caps) task n.task,
      (
        some_operations ops n.some,
        (
          not_above MAX_OPS (length ops) n.few,
          (
            no_bad_page start.plan ops (recursion_from_All (λ op. page_of op < start.plan.logical) ops n.pages),
            (
              not_above release (now past) (omega (arith, n.comes, f.clock)),
              (
                dates_fit release due (omega (arith, n.due, t.some_deadline)) n.due_limit,
                (
                  few_jobs start.plan terms past f (next_fits start.plan terms (events_of_log past) rest _ _ (events.Submit task release due ops) keeps refl),
                  (
                    not_above _ (writes ops) (covers_next start terms bound passes supply past rest task release due ops exact keeps stocked),
                    tt,
                  ),
                ),
              ),
            ),
          ),
        ),
      ),
    )
unrefused start terms bound passes supply past (events.Collect task release due) rest exact keeps stocked =
    let n = next_collection start.plan terms (events_of_log past) rest task release due keeps in
    let f = follows start terms past exact (events.Collect task release due ∷ rest) keeps in
    let t = task_terms start.plan terms task passes.has n.task in
    let q : ℕ = (terms_of terms task).collect_period in
    let multiple : now past ≡ q * collections_of (jobs past) task = sym f.clock
    ∙ ((at_multiple start.plan terms (events_of_log past) rest task release due keeps (f.paced task n.task)).0
    ∙ ap (λ m. q * m) (collections_are start.plan terms past task f)) in
    none_stand (refusals start past (events.Collect task release due)) (
      lt-leb (length start.plan.caps) task n.task,
      (
        not_above release (now past) (omega (arith, n.comes, f.clock)),
        (
          dates_fit release due (omega (arith, n.due, t.some_collect_deadline)) (omega (arith, n.due, n.slot.due_limit)),
          (
            not_busy start.plan terms past task f n.task (never_late start terms bound passes past exact (events.Collect task release due ∷ rest)
                keeps) multiple,
            (
              few_jobs start.plan terms past f (next_fits start.plan terms (events_of_log past) rest _ _ (events.Collect task release due) keeps refl),
              tt,
            ),
          ),
        ),
      ),
    )
unrefused start terms bound passes supply past events.Slot rest exact keeps stocked =
    let f = follows start terms past exact (events.Slot ∷ rest) keeps in
    none_stand (refusals start past events.Slot) (
      lt-leb MAX_SLOT (now past)
          (omega (arith, next_slot start.plan terms (events_of_log past) rest keeps, f.clock)),
      tt,
    )

-- Runs

-- an accepted event is answered by no refusal, and is an entry of the log
pub entered : (start : Start) (past : Log) (caller : ℕ) (event : Event) → IsAccepted (reply_if_accepted start past event)
    × (with_answer caller event (reply_if_accepted start past event) past ≡ entry caller event (reply_if_accepted start past event) ∷ past)
entered start past caller (events.Submit task release due ops) = (tt, refl)
entered start past caller (events.Collect task release due) = (tt, refl)
entered start past caller events.Slot = (tt, refl)

-- none of the events that keep the plan is refused, from any moment on
pub run_accepted : (start : Start) (terms : Terms) → IsOpening start → PassesDemand start.plan terms → PassesSupply start.plan terms → (past : Log) (calls : List (ℕ × Event))
    → IsExact start past → KeepsDemandPlan start.plan terms (events_of_log past ++ map (λ call. call.1) calls)
    → AreStockedFor start terms (events_of_log past ++ map (λ call. call.1) calls)
    → AreAccepted start past calls
run_accepted start terms bound passes supply past [] exact keeps stocked = tt
run_accepted start terms bound passes supply past (call ∷ calls) exact keeps stocked =
    let is : answer start past call.1 ≡ reply_if_accepted start past call.1 = accepted_answer start past call.1
    (unrefused start terms bound passes supply past call.1 (map (λ c. c.1) calls) exact keeps stocked) in
    let more = entered start past call.0 call.1 in
    let next : after_call start past call ≡ entry call.0 call.1 (reply_if_accepted start past call.1)
    ∷ past = ap (λ r. with_answer call.0 call.1 r past) is ∙ more.1 in (
      subst IsAccepted (sym is) more.0,
      run_accepted start terms bound passes supply (after_call start past call) calls (call_exact start past call exact)
          (subst (λ l. KeepsDemandPlan start.plan terms (events_of_log l ++ map (λ c. c.1) calls)) (sym next)
          (subst (KeepsDemandPlan start.plan terms) (sym (append_assoc (events_of_log past) (call.1 ∷ []) (map (λ c. c.1) calls))) keeps))
          (subst (λ l. AreStockedFor start terms (events_of_log l ++ map (λ c. c.1) calls)) (sym next)
          (subst (AreStockedFor start terms) (sym (append_assoc (events_of_log past) (call.1 ∷ []) (map (λ c. c.1) calls))) stocked)),
    )
