-- A condition that doesn't hold breaks the plan.
use Rattle.std.proofs.Common.{◌≡◌, ◌≢◌, ℕ, ◌+◌, ◌<◌, ◌≤◌, Bool, true, false, List, length, map, count_by, get_or, slice_get, Option, Some}
use Rattle.std.proofs.Common.{refl, sym, ap, subst, ◌∙◌, arith}
use Rattle.std.specs.Prelude.{IsTrue, not, option_map, All, MatchBool}
use Rattle.std.proofs.lemmas.Bool.{true≢false}
use Rattle.std.proofs.lemmas.Option.{slice_get-map, slice_get_within, get_or_from_slice_get}
use Rattle.slot_types.specs.declared.plans.DiePlan.{DiePlan}
use Rattle.slot_types.specs.declared.plans.Times.{Times}
use Rattle.slot_types.specs.declared.events.Event.{Event}
use Rattle.plan_rules.specs.Keeping.{TaskArrival, AreApart, IsPlanned, IsPlannedJob, IsPlannedCollection, KeepsPlan, arrivals, slots}
use Rattle.flashplan_breaches.specs.declared.coming.Arrived.{Arrived}
use Rattle.flashplan_breaches.specs.declared.rules.JobRule.{JobRule}
use Rattle.flashplan_breaches.specs.declared.rules.JobRule.TheVariants as job
use Rattle.flashplan_breaches.specs.declared.rules.CollectionRule.{CollectionRule}
use Rattle.flashplan_breaches.specs.declared.rules.CollectionRule.TheVariants as collection
use Rattle.flashplan_breaches.specs.declared.breaches.Breach.{Breach}
use Rattle.flashplan_breaches.specs.declared.breaches.Breach.TheVariants as breach
use Rattle.flashplan_breaches.specs.Arrivals.{arrival_of}
use Rattle.flashplan_breaches.specs.Breaches.{BreaksCollection, BreaksCount, BreaksJob, BreaksPeriod, CollectionHolds, IsBreach, IsNearAt, JobHolds}

pub not_both : (b : Bool) → IsTrue (not b) → IsTrue b → ⊥
not_both true n y = true≢false (sym n)
not_both false n y = true≢false (sym y)

pub there_is : (all : List Arrived) (place : ℕ) (a : Arrived) → slice_get all place ≡ Some a
    → slice_get (map arrival_of all) place ≡ Some (arrival_of a)
there_is all place a h = slice_get-map arrival_of all place ∙ ap (option_map arrival_of) h

-- what holds of all holds of what is at a place
at_place : {A : Type 0} (P : A → Type 0) (xs : List A) (place : ℕ) (a : A) → slice_get xs place ≡ Some a → All P xs → P a
at_place P xs place a h all = subst P (get_or_from_slice_get xs place a a h) (all place a (slice_get_within xs place a h))

job_of : (b : Bool) (P Q : Type 0) → b ≡ false → MatchBool b P Q → Q
job_of true P Q h m = absurd (true≢false h)
job_of false P Q h m = m

collection_of : (b : Bool) (P Q : Type 0) → b ≡ true → MatchBool b P Q → P
collection_of true P Q h m = m
collection_of false P Q h m = absurd (true≢false (sym h))

planned_job_holds : (plan : DiePlan) (times : Times) (a : TaskArrival) (rule : JobRule) → IsPlannedJob plan times a → JobHolds plan times a rule
planned_job_holds plan times a job.Task h = h.task
planned_job_holds plan times a job.Release h = h.comes
planned_job_holds plan times a job.Due h = h.due
planned_job_holds plan times a job.LastDue h = h.due_limit
planned_job_holds plan times a job.SomeOps h = h.some
planned_job_holds plan times a job.FewOps h = h.few
planned_job_holds plan times a job.Pages h = h.pages
planned_job_holds plan times a job.FewWrites h = h.few_writes

planned_collection_holds : (plan : DiePlan) (times : Times) (end : ℕ) (a : TaskArrival) (rule : CollectionRule)
    → IsPlannedCollection plan times end a → CollectionHolds plan times end a rule
planned_collection_holds plan times end a collection.Task h = h.task
planned_collection_holds plan times end a collection.Release h = h.comes
planned_collection_holds plan times end a collection.Multiple h = h.slot.multiple
planned_collection_holds plan times end a collection.BeforeEnd h = h.slot.before_end
planned_collection_holds plan times end a collection.Due h = h.due
planned_collection_holds plan times end a collection.LastDue h = h.slot.due_limit

planned_at : (plan : DiePlan) (times : Times) (all : List Event) (place : ℕ) (a : TaskArrival) → KeepsPlan plan times all
    → slice_get (arrivals 0 all) place ≡ Some a → IsPlanned plan times (slots all) a
planned_at plan times all place a keeps h = at_place (IsPlanned plan times (slots all)) (arrivals 0 all) place a h keeps.planned

apart_at : (times : Times) (all : List TaskArrival) (earlier later : ℕ) (a b : TaskArrival) → slice_get all earlier ≡ Some a
    → slice_get all later ≡ Some b → AreApart times (get_or all earlier a) (get_or all later a) → AreApart times a b
apart_at times all earlier later a b first second apart =
    subst (AreApart times a) (get_or_from_slice_get all later b a second)
    (subst (λ (x : TaskArrival). AreApart times x (get_or all later a)) (get_or_from_slice_get all earlier a a first) apart)

pub breaks : (plan : DiePlan) (times : Times) (all : List Event) (said : Breach) → IsBreach plan times all said → KeepsPlan plan times all → ⊥
breaks plan times all (breach.Job place rule) b keeps =
    b.broken (planned_job_holds plan times b.arrival rule
    (job_of b.arrival.collects _ _ b.job (planned_at plan times all place b.arrival keeps b.there)))
breaks plan times all (breach.Collection place rule) b keeps =
    b.broken (planned_collection_holds plan times (slots all) b.arrival rule
    (collection_of b.arrival.collects _ _ b.collects (planned_at plan times all place b.arrival keeps b.there)))
breaks plan times all (breach.Period earlier later) b keeps =
    b.near.broken (apart_at times (arrivals 0 all) earlier later b.first b.near.second b.there b.near.there
    (keeps.apart earlier later b.first b.order (slice_get_within (arrivals 0 all) later b.near.second b.near.there)))
breaks plan times all (breach.Count task slot came) b keeps =
    b.broken (sym b.counted ∙ keeps.collected task slot b.own b.planned)
breaks plan times all breach.TooMany b keeps = omega (arith, b, keeps.few_arrivals)
breaks plan times all breach.TooManySlots b keeps = omega (arith, b, keeps.few_slots)
