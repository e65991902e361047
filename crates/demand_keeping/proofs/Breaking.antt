-- What is said to break a plan breaks it, and where nothing does the events keep it.
use Rattle.std.proofs.Common.{◌≡◌, ℕ, zero, suc, ◌+◌, List, [], ◌∷◌, ◌++◌, length, get_or, take, drop, Some, slice_get}
use Rattle.std.proofs.Common.{refl, ap, sym, subst, ◌∙◌, arith}
use Rattle.std.specs.List.{AllByRecursion}
use Rattle.std.proofs.lemmas.List.{take-append-drop}
use Rattle.std.proofs.lemmas.List.Elements.{recursion_from_All}
use Rattle.std.proofs.lemmas.Option.{none-some, same_Some}
use Rattle.slot_types.specs.declared.plans.DiePlan.{DiePlan}
use Rattle.slot_types.specs.declared.events.Event.{Event}
use Rattle.slot_types.specs.declared.events.Event.TheVariants as events
use Rattle.plan_rules.specs.Keeping.{TaskArrival, arrivals, slots}
use Rattle.plan_rules.proofs.Moments.{arrivals_append, arrivals_after}
use Rattle.demand_rules.specs.declared.terms.TaskTerms.{TaskTerms}
use Rattle.demand_rules.specs.declared.terms.Terms.{Terms}
use Rattle.demand_rules.specs.declared.limits.TermsNumber.{TermsNumber}
use Rattle.demand_rules.specs.declared.limits.TermsNumber.TheVariants as number
use Rattle.demand_rules.specs.declared.limits.LimitFault.TheVariants as limit
use Rattle.demand_rules.specs.Demand.{no_terms, terms_of, IsTaskTerms}
use Rattle.demand_rules.specs.Faults.{IsWithin}
use Rattle.demand_rules.specs.Keeping.{IsDemanded, IsDemandedJob, IsDemandedCollection, KeepsDemandPlan}
use Rattle.demand_keeping.specs.declared.windows.Count.{Count}
use Rattle.demand_keeping.specs.declared.windows.Count.TheVariants as count
use Rattle.demand_keeping.specs.declared.planning.JobRule.{JobRule}
use Rattle.demand_keeping.specs.declared.planning.JobRule.TheVariants as job
use Rattle.demand_keeping.specs.declared.planning.CollectionRule.{CollectionRule}
use Rattle.demand_keeping.specs.declared.planning.CollectionRule.TheVariants as collection
use Rattle.demand_keeping.specs.declared.keeping.Breach.{Breach}
use Rattle.demand_keeping.specs.declared.keeping.Breach.TheVariants as breach
use Rattle.demand_keeping.specs.Planned.{JobHolds, CollectionHolds, job_of, collection_of}
use Rattle.demand_keeping.specs.Windows.{amount_in, KeepsLimit}
use Rattle.demand_keeping.specs.Overfull.{IsFirstOverfull}
use Rattle.demand_keeping.specs.Breaches.{BreaksJob, BreaksCollection, BreaksAlone, BreaksAt, ArePlanned, IsFirstBreach, AreTasksKept}
use Rattle.demand_keeping.proofs.Taking.{all_left, first_in_all}

-- Lists

all_right : {X : Type 0} (P : X → Type 0) (xs ys : List X) → AllByRecursion P (xs ++ ys) → AllByRecursion P ys
all_right P [] ys h = h
all_right P (x ∷ xs) ys h = all_right P xs ys h.1

split_at : (xs : List Event) (i : ℕ) (x : Event) → slice_get xs i ≡ Some x → (rest : List Event) × (drop i xs ≡ x ∷ rest)
split_at [] i x h = absurd (none-some x h)
split_at (y ∷ xs) zero x h = (xs, ap (λ z. z ∷ xs) (same_Some y x h))
split_at (y ∷ xs) (suc i) x h = split_at xs i x h

-- what holds of all that comes holds of what comes by an event
pub all_at : (P : TaskArrival → Type 0) (all : List Event) (i : ℕ) (event : Event) → slice_get all i ≡ Some event
    → AllByRecursion P (arrivals 0 all) → AllByRecursion P (arrivals (slots (take i all)) (event ∷ []))
all_at P all i event there h =
    let found = split_at all i event there in
    let now : ℕ = slots (take i all) in
    let parts : take i all ++ event ∷ found.0 ≡ all = ap (λ es. take i all ++ es) (sym found.1) ∙ take-append-drop i all in
    let whole : AllByRecursion P (arrivals 0 (take i all) ++ arrivals now (event ∷ found.0)) = subst (λ came. AllByRecursion P came)
    (arrivals_after (take i all) (event ∷ found.0)) (subst (λ (es : List Event). AllByRecursion P (arrivals 0 es)) (sym parts) h) in
    let here : AllByRecursion P (arrivals now (event ∷ [] ++ found.0)) = all_right P (arrivals 0 (take i all)) (arrivals now (event ∷ found.0)) whole in
    all_left P (arrivals now (event ∷ [])) (arrivals (now + slots (event ∷ [])) found.0)
    (subst (λ came. AllByRecursion P came) (arrivals_append now (now + slots (event ∷ [])) (event ∷ []) found.0 refl) here)

-- A breach breaks

within : (t : TaskTerms) → IsTaskTerms t → (n : TermsNumber) → IsWithin t n
within t h number.Period = h.some_period
within t h number.Deadline = h.some_deadline
within t h number.Held = (h.few_deadline, h.few_held)
within t h number.Work = (h.some_work, h.few_work)
within t h number.Writes = h.few_writes
within t h number.CollectPeriod = (h.some_collect_period, h.few_collect_period)
within t h number.CollectDeadline = (h.some_collect_deadline, h.few_collect_deadline)

job_holds : (plan : DiePlan) (terms : Terms) (a : TaskArrival) → IsDemandedJob plan terms a → (rule : JobRule) → JobHolds plan terms a rule
job_holds plan terms a h job.Task = h.task
job_holds plan terms a h job.Release = h.comes
job_holds plan terms a h job.Due = h.due
job_holds plan terms a h job.Held = h.soon
job_holds plan terms a h job.LastDue = h.due_limit
job_holds plan terms a h job.SomeOps = h.some
job_holds plan terms a h job.FewOps = h.few
job_holds plan terms a h job.Pages = h.pages

collection_holds : (plan : DiePlan) (terms : Terms) (end : ℕ) (a : TaskArrival) → IsDemandedCollection plan terms end a → (rule : CollectionRule)
    → CollectionHolds plan terms end a rule
collection_holds plan terms end a h collection.Task = h.task
collection_holds plan terms end a h collection.Release = h.comes
collection_holds plan terms end a h collection.Multiple = h.slot.multiple
collection_holds plan terms end a h collection.BeforeEnd = h.slot.before_end
collection_holds plan terms end a h collection.Due = h.due
collection_holds plan terms end a h collection.LastDue = omega (arith, h.due, h.slot.due_limit)

overfull : (c : Count) (task period limit : ℕ) (all : List Event) (start : ℕ) → IsFirstOverfull c task period limit all start
    → KeepsLimit c task period limit all → ⊥
overfull c task period limit all start h keeps =
    omega (arith, h.above, keeps start, first_in_all (amount_in c task start (start + period)) all (h.index + 1))

module _ (plan : DiePlan) (terms : Terms) where
  job_keeps : (end now : ℕ) (rule : JobRule) (event : Event) → AllByRecursion (IsDemanded plan terms end) (arrivals now (event ∷ []))
      → BreaksJob plan terms now rule event → ⊥
  job_keeps end now rule (events.Submit task release due ops) h broken =
      broken.fails (job_holds plan terms (job_of now task release due ops) h.0 rule)
  job_keeps end now rule (events.Collect task release due) h broken = broken
  job_keeps end now rule events.Slot h broken = broken

  collection_keeps : (end now : ℕ) (rule : CollectionRule) (event : Event) → AllByRecursion (IsDemanded plan terms end) (arrivals now (event ∷ []))
      → BreaksCollection plan terms end now rule event → ⊥
  collection_keeps end now rule (events.Submit task release due ops) h broken = broken
  collection_keeps end now rule (events.Collect task release due) h broken =
      broken.fails (collection_holds plan terms end (collection_of now task release due) h.0 rule)
  collection_keeps end now rule events.Slot h broken = broken

  pub breaks : (all : List Event) (said : Breach) → IsFirstBreach plan terms all said → KeepsDemandPlan plan terms all → ⊥
  breaks all (breach.Limits (limit.Tasks have)) h keeps = h.1 keeps.has.one_each
  breaks all (breach.Limits (limit.Number task n)) h keeps =
      h.out (within (get_or terms.tasks task no_terms) (keeps.has.each task no_terms h.there) n)
  breaks all breach.Slots h keeps = omega (arith, h.1, keeps.few_slots)
  breaks all breach.Arrivals h keeps = omega (arith, h.2, keeps.few_arrivals)
  breaks all (breach.Job index rule) h keeps =
      job_keeps (slots all) (slots (take index all)) rule h.1.event
      (all_at (IsDemanded plan terms (slots all)) all index h.1.event h.1.there
      (recursion_from_All (IsDemanded plan terms (slots all)) (arrivals 0 all) keeps.planned)) h.1.broken
  breaks all (breach.Collection index rule) h keeps =
      collection_keeps (slots all) (slots (take index all)) rule h.1.event
      (all_at (IsDemanded plan terms (slots all)) all index h.1.event h.1.there
      (recursion_from_All (IsDemanded plan terms (slots all)) (arrivals 0 all) keeps.planned)) h.1.broken
  breaks all (breach.Operations task start) h keeps = overfull count.Operations task (terms_of terms task).period (terms_of terms task).work
      all start h.1
      (λ slot. keeps.few_operations task slot h.0.is_task)
  breaks all (breach.Writes task start) h keeps = overfull count.Writes task (terms_of terms task).period (terms_of terms task).writes
      all start h.2
      (λ slot. keeps.few_writes task slot h.0.is_task)
  breaks all (breach.Collections task slot) h keeps = h.3.other (keeps.collected task slot h.0.is_task h.3.planned)

  -- the first event of which a condition doesn't hold
  pub alone : (all : List Event) (index : ℕ) (event : Event) → slice_get all index ≡ Some event → (now end : ℕ) → now ≡ slots (take index all)
      → end ≡ slots all → ArePlanned plan terms all (take index all) → (said : Breach) → BreaksAlone plan terms end now index event said
      → IsFirstBreach plan terms all said
  alone all index event there now end at is_end planned (breach.Job place rule) h =
      subst (λ (n : ℕ). ArePlanned plan terms all (take n all) × BreaksAt (λ now event. BreaksJob plan terms now rule event) all n) (sym h.0)
      (planned, record { event = event; there = there; broken = subst (λ (n : ℕ). BreaksJob plan terms n rule event) at h.1 })
  alone all index event there now end at is_end planned (breach.Collection place rule) h =
      subst (λ (n : ℕ). ArePlanned plan terms all (take n all)
      × BreaksAt (λ now event. BreaksCollection plan terms (slots all) now rule event) all n) (sym h.0) (
        planned,
        record {
          event = event;
          there = there;
          broken = subst (λ (n : ℕ). BreaksCollection plan terms (slots all) n rule event) at
              (subst (λ (n : ℕ). BreaksCollection plan terms n now rule event) is_end h.1);
        },
      )
  alone all index event there now end at is_end planned (breach.Limits fault) h = absurd h
  alone all index event there now end at is_end planned breach.Slots h = absurd h
  alone all index event there now end at is_end planned breach.Arrivals h = absurd h
  alone all index event there now end at is_end planned (breach.Operations task start) h = absurd h
  alone all index event there now end at is_end planned (breach.Writes task start) h = absurd h
  alone all index event there now end at is_end planned (breach.Collections task slot) h = absurd h

  -- all is kept
  pub keeps_if : (all : List Event) → ArePlanned plan terms all all → AreTasksKept terms (length plan.caps) all → KeepsDemandPlan plan terms all
  keeps_if all planned kept = record {
    has = planned.limits.has;
    few_slots = planned.limits.few_slots;
    few_arrivals = planned.limits.few_arrivals;
    planned = planned.each;
    few_operations = λ task slot lt. (kept task lt).few_operations slot;
    few_writes = λ task slot lt. (kept task lt).few_writes slot;
    collected = λ task slot lt at. (kept task lt).collected slot at;
  }
