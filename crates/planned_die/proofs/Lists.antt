-- Memory for what each task asks for: one job more may always be noted.
use Rattle.std.proofs.Common.{◌≡◌, ◌≢◌, ℕ, ◌+◌, ◌<◌, ◌≤◌, List, [], ◌∷◌, ◌++◌, length, get_or, set, drop, sum_by, sym, subst, arith, inl, inr}
use Rattle.std.specs.List.{AllByRecursion}
use Rattle.std.specs.VecDeque.{deque_capacity}
use Rattle.std.proofs.lemmas.Bool.{cases_lt}
use Rattle.std.proofs.lemmas.List.{get_or-set_same, get_or-set_other, get_or_append_left, get_or_push, length-set, length_push}
use Rattle.std.proofs.lemmas.List.Sums.{sum_by-cons}
use Rattle.std.proofs.lemmas.List.Elements.{All-push, All-drop, recursion_from_All}
use Rattle.demand_rules.specs.declared.terms.Terms.{Terms}
use Rattle.demand_rules.specs.Demand.{terms_of}
use Rattle.planned_die.specs.declared.memory.AskedJob.{AskedJob}
use Rattle.planned_die.specs.declared.task_asks.TaskAsks.{TaskAsks}
use Rattle.planned_die.specs.Remembered.{IsKeptFor, HasMemory, HaveMemory, HasRoomForOne}

-- no more jobs than operations
few_jobs : (jobs : List AskedJob) → AllByRecursion (λ (j : AskedJob). 1 ≤ j.operations) jobs → length jobs ≤ sum_by (λ (j : AskedJob). j.operations) jobs
few_jobs [] some = omega arith
few_jobs (j ∷ jobs) some = omega (arith, sum_by-cons (λ (j : AskedJob). j.operations) j jobs, some.0, few_jobs jobs some.1)

pub room_for : (period clock work more : ℕ) (t : TaskAsks) → IsKeptFor period clock t → HasMemory work t → 1 ≤ more → t.operations + more ≤ work
    → HasRoomForOne t
room_for period clock work more t k m some fits =
    omega (
      arith,
      few_jobs (drop t.passed t.jobs.items) (recursion_from_All (λ (j : AskedJob). 1 ≤ j.operations) (drop t.passed t.jobs.items)
          (All-drop (λ (j : AskedJob). 1 ≤ j.operations) t.passed t.jobs.items m.some)),
      k.operations,
      some,
      fits,
      m.room,
    )

-- the same jobs, of which no more count
pub fewer_count : (work : ℕ) (t u : TaskAsks) → HasMemory work t → u.jobs ≡ t.jobs → u.operations ≤ t.operations → HasMemory work u
fewer_count work t u m same fewer = record {
  some = rw same m.some;
  few = omega (arith, fewer, m.few);
  room = rw same m.room;
}

-- one job more, which fits
pub one_noted : (work : ℕ) (t u : TaskAsks) (j : AskedJob) → HasMemory work t → 1 ≤ j.operations → t.operations + j.operations ≤ work
    → u.jobs.items ≡ drop t.passed t.jobs.items ++ j ∷ [] → u.operations ≡ t.operations + j.operations
    → deque_capacity u.jobs ≡ deque_capacity t.jobs → HasMemory work u
one_noted work t u j m some fits is operations stays = record {
  some = rw is (All-push (λ (i : AskedJob). 1 ≤ i.operations) (drop t.passed t.jobs.items) j
      (All-drop (λ (i : AskedJob). 1 ≤ i.operations) t.passed t.jobs.items m.some) some);
  few = omega (arith, operations, fits);
  room = omega (arith, stays, m.room);
}

-- nothing asked for
pub none_asked : (work : ℕ) (t : TaskAsks) → t.jobs.items ≡ [] → t.operations ≡ 0 → work ≤ deque_capacity t.jobs → HasMemory work t
none_asked work t empty none room = record {
  some = rw empty (λ k d lt. absurd (omega (arith, lt)));
  few = omega (arith, none);
  room = room;
}

-- Of all tasks

pub memory_set : (terms : Terms) (asked : List TaskAsks) (task : ℕ) (t : TaskAsks) → HaveMemory terms asked → HasMemory (terms_of terms task).work t
    → HaveMemory terms (set asked task t)
memory_set terms asked task t have new i d lt =
    elim (cases_lt i task) [
      | inl less ↦ other (λ e. absurd (omega (arith, e, less)))
      | inr more ↦ elim (cases_lt task i) [
        | inl less ↦ other (λ e. absurd (omega (arith, e, less)))
        | inr less ↦ own (omega (arith, more, less))
      ]
    ]
  where
    within : i < length asked
    within = omega (arith, lt, length-set asked task t)

    other : i ≢ task → HasMemory (terms_of terms i).work (get_or (set asked task t) i d)
    other ne = rw (get_or-set_other asked task i t d ne) (have i d within)

    own : i ≡ task → HasMemory (terms_of terms i).work (get_or (set asked task t) i d)
    own is = rw is (rw (get_or-set_same asked task t d (omega (arith, within, is))) new)

pub memory_push : (terms : Terms) (asked : List TaskAsks) (t : TaskAsks) → HaveMemory terms asked → HasMemory (terms_of terms (length asked)).work t
    → HaveMemory terms (asked ++ t ∷ [])
memory_push terms asked t have new task d lt = elim (cases_lt task (length asked)) [
  | inl less ↦ rw (get_or_append_left asked (t ∷ []) d task less) (have task d less)
  | inr more ↦ last (omega (arith, more, lt, length_push asked t))
]
  where
    last : task ≡ length asked → HasMemory (terms_of terms task).work (get_or (asked ++ t ∷ []) task d)
    last is = rw (get_or_push asked t d task (sym is)) (subst (λ n. HasMemory (terms_of terms n).work t) (sym is) new)
