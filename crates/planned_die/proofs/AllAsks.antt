-- One task's asks among those of all.
use Rattle.std.proofs.Common.{◌≡◌, ◌≢◌, ℕ, ◌<◌, ◌≤◌, List, [], length, get_or, set, map, Option, None, Some, ap, sym, subst, ◌∙◌, inl, inr, arith}
use Rattle.std.specs.Prelude.{All, IfNone}
use Rattle.std.proofs.lemmas.Bool.{cases_lt}
use Rattle.std.proofs.lemmas.List.{get_or-set_same, get_or-set_other, get_or-map, length-map, length-set, map-set}
use Rattle.demand_rules.specs.declared.terms.Terms.{Terms}
use Rattle.demand_rules.specs.Demand.{terms_of}
use Rattle.planned_die.specs.declared.memory.AskedJob.{AskedJob}
use Rattle.planned_die.specs.declared.task_asks.TaskAsks.{TaskAsks}
use Rattle.planned_die.specs.Remembered.{IsKeptFor, AreKept, jobs_of}

other_kept : (terms : Terms) (clock : ℕ) (asked : List TaskAsks) (task : ℕ) (t : TaskAsks) (i : ℕ) (d : TaskAsks) → AreKept terms clock asked
    → i < length asked → i ≢ task → IsKeptFor (terms_of terms i).period clock (get_or (set asked task t) i d)
other_kept terms clock asked task t i d kept lt ne = rw (get_or-set_other asked task i t d ne) (kept i d lt)

own_kept : (terms : Terms) (clock : ℕ) (asked : List TaskAsks) (task : ℕ) (t : TaskAsks) (i : ℕ) (d : TaskAsks)
    → IsKeptFor (terms_of terms task).period clock t → i < length asked → i ≡ task
    → IsKeptFor (terms_of terms i).period clock (get_or (set asked task t) i d)
own_kept terms clock asked task t i d new lt is =
    rw is (rw (get_or-set_same asked task t d (omega (arith, lt, is))) new)

pub set_kept : (terms : Terms) (clock : ℕ) (asked : List TaskAsks) (task : ℕ) (t : TaskAsks) → AreKept terms clock asked
    → IsKeptFor (terms_of terms task).period clock t → AreKept terms clock (set asked task t)
set_kept terms clock asked task t kept new i d lt =
    let within : i < length asked = omega (arith, lt, length-set asked task t) in
    elim (cases_lt i task) [
      | inl less ↦ other_kept terms clock asked task t i d kept within (λ e. absurd (omega (arith, e, less)))
      | inr more ↦ elim (cases_lt task i) [
        | inl less ↦ other_kept terms clock asked task t i d kept within (λ e. absurd (omega (arith, e, less)))
        | inr less ↦ own_kept terms clock asked task t i d new within (omega (arith, more, less))
      ]
    ]

pub early_at : (asked : List TaskAsks) (task : ℕ) (u r d : TaskAsks) → task < length asked
    → All (All (λ (j : AskedJob). j.at ≤ 4611686018427387904)) (map jobs_of asked) → u.jobs.items ≡ (get_or asked task d).jobs.items
    → All (λ (j : AskedJob). j.at ≤ 4611686018427387904) (get_or (set asked task u) task r).jobs.items
early_at asked task u r d lt early same =
    rw (get_or-set_same asked task u r lt)
    (subst (All (λ (j : AskedJob). j.at ≤ 4611686018427387904)) (get_or-map jobs_of asked task d [] lt ∙ sym same)
    (early task [] (omega (arith, lt, length-map asked jobs_of))))

pub none_then : {A B : Type 0} (o : Option ℕ) → (A → B) → IfNone o A → IfNone o B
none_then None f a = f a
none_then (Some n) f a = a

pub jobs_set : (asked : List TaskAsks) (task : ℕ) (u d : TaskAsks) (jobs : List AskedJob) → u.jobs.items ≡ jobs
    → map jobs_of (set asked task u) ≡ set (map jobs_of asked) task jobs
jobs_set asked task u d jobs is = map-set jobs_of asked task u ∙ ap (set (map jobs_of asked) task) is
