-- Conditions that were tried at each place hold of all.
use Rattle.std.proofs.Common.{◌≡◌, ℕ, ◌+◌, ◌<◌, ◌≤◌, List, length, map, get_or, slice_get, Some, sym, subst, arith, inl, inr}
use Rattle.std.specs.Prelude.{All, AllPairs}
use Rattle.std.proofs.lemmas.Bool.{cases_lt}
use Rattle.std.proofs.lemmas.List.{length-map}
use Rattle.std.proofs.lemmas.List.Elements.{All-map}
use Rattle.std.proofs.lemmas.Option.{slice_get-get_or, slice_get_cases, get_or_from_slice_get}
use Rattle.slot_types.specs.declared.plans.DiePlan.{DiePlan}
use Rattle.slot_types.specs.declared.plans.Times.{Times}
use Rattle.slot_types.specs.declared.events.Event.{Event}
use Rattle.slot_types.specs.declared.limits.TheConstants.{MAX_JOBS, MAX_SLOT}
use Rattle.plan_rules.specs.Times.{HasTimes}
use Rattle.plan_rules.specs.Keeping.{AreApart, KeepsPlan, TaskArrival, arrivals, slots}
use Rattle.flashplan_breaches.specs.declared.coming.Arrived.{Arrived}
use Rattle.flashplan_breaches.specs.Arrivals.{arrival_of}
use Rattle.flashplan_breaches.specs.Trials.{ApartBefore, KeepAll}
use Rattle.flashplan_breaches.proofs.Breaking.{there_is}

-- what holds of the arrival at each place below n
abbrev pub HoldsBelow : (TaskArrival → Type 0) → List Arrived → ℕ → Type 0
HoldsBelow P all n = (place : ℕ) → place < n → (a : Arrived) → slice_get all place ≡ Some a → P (arrival_of a)

-- each below n is apart from those before it
abbrev pub ApartBelow : Times → List Arrived → ℕ → Type 0
ApartBelow times all n = (later : ℕ) → later < n → ApartBefore times all later

pub holds_of_all : (P : TaskArrival → Type 0) (all : List Arrived) (n : ℕ) → n ≡ length all → HoldsBelow P all n → All P (map arrival_of all)
holds_of_all P all n is each =
    All-map P arrival_of all
    (λ i d below. each i (subst (λ (m : ℕ). i < m) (sym is) below) (get_or all i d) (slice_get-get_or all i d below))

length_mapped : (all : List Arrived) → length (map arrival_of all) ≡ length all
length_mapped all = length-map all arrival_of

there : (all : List Arrived) (place : ℕ) (a : Arrived) (d : TaskArrival) → slice_get all place ≡ Some a
    → get_or (map arrival_of all) place d ≡ arrival_of a
there all place a d h = get_or_from_slice_get (map arrival_of all) place (arrival_of a) d (there_is all place a h)

pub apart_all : (times : Times) (all : List Arrived) (n : ℕ) → n ≡ length all → ApartBelow times all n
    → AllPairs (AreApart times) (map arrival_of all)
apart_all times all n is each i j d before below =
    let inside : j < length all = subst (λ (m : ℕ). j < m) (length_mapped all) below in
    elim ((slice_get_cases all i).1) [
      | inl (a, at_a, is_a, own_a) ↦ elim ((slice_get_cases all j).1) [
        | inl (b, at_b, is_b, own_b) ↦
            subst (λ (x : TaskArrival). AreApart times x (get_or (map arrival_of all) j d)) (sym (there all i a d is_a))
            (subst (AreApart times (arrival_of a)) (sym (there all j b d is_b))
            (each j (subst (λ (m : ℕ). j < m) (sym is) inside) i before a b is_a is_b))
        | inr (past, none) ↦ absurd (omega (arith, past, inside))
      ]
      | inr (past, none) ↦ absurd (omega (arith, past, inside, before))
    ]

-- each condition holds of all that comes, and so the events keep the plan
pub keeps_plan : (plan : DiePlan) (times : Times) (events : List Event) (all : List Arrived) (end : ℕ) → HasTimes plan times
    → slots events ≤ MAX_SLOT → end ≡ slots events → map arrival_of all ≡ arrivals 0 events → KeepAll plan times end (map arrival_of all)
    → KeepsPlan plan times events
keeps_plan plan times events all end timed few ends is keep =
    let kept : KeepAll plan times (slots events) (arrivals 0 events) = rw (sym ends, sym is) keep in
    record { timed = timed; few_slots = few; few_arrivals = kept.few; planned = kept.planned; apart = kept.apart; collected = kept.collected }

-- what holds at each place below n, and at n, holds at each place below the next
pub below_more : (P : ℕ → Type 0) (n : ℕ) → ((k : ℕ) → k < n → P k) → P n → (k : ℕ) → k < n + 1 → P k
below_more P n each at k below =
    elim (cases_lt k n) [
      | inl less ↦ each k less
      | inr most ↦ subst P (omega (arith, below, most)) at
    ]

pub few_mapped : (all : List Arrived) → length all ≤ MAX_JOBS → length (map arrival_of all) ≤ MAX_JOBS
few_mapped all few = subst (λ (n : ℕ). n ≤ MAX_JOBS) (sym (length_mapped all)) few
