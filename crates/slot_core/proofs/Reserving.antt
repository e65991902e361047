-- Room that is kept beforehand: for a waiver of each collection that is neither done nor waived, as a die's jobs come and go,
-- and for what is reserved, now and from the beginning of a log on.
use Rattle.std.proofs.Common.{◌≡◌, ℕ, zero, suc, ◌+◌, ◌-◌, ◌≤◌, ◌&&◌, not, Bool, true, false, cond, List, [], ◌∷◌, ◌++◌, Some, refl, ap}
use Rattle.std.proofs.Common.{sym, ◌∙◌, subst, length, map, filter, count_by, slice_get, arith}
use Rattle.std.proofs.lemmas.Bool.{true≢false}
use Rattle.std.proofs.lemmas.List.Sums.{sum_by-cons}
use Rattle.std.proofs.lemmas.Option.{none-some, same_Some}
use Rattle.std.proofs.lemmas.Bool.Decides.{nat_tests}
use Rattle.std.specs.Prelude.{Result, Ok, Err, OnOk, OnErr, max, nat_lt, ◌<◌}
use Rattle.std.proofs.Common.{◌⊎◌, inl, inr}
use Rattle.slot_types.specs.declared.plans.DiePlan.{DiePlan}
use Rattle.slot_types.specs.declared.refusals.Refusal.{Refusal}
use Rattle.slot_types.specs.declared.events.Op.{Op}
use Rattle.plan_rules.specs.Bound.{MeetsBound}
use Rattle.slot_types.specs.declared.acts.Act.{Act}
use Rattle.slot_types.specs.declared.acts.Act.TheVariants as does
use Rattle.job_table.specs.declared.stages.Stage.TheVariants.{Done, Waived as Gone}
use Rattle.job_table.specs.Jobs.{JobRecord, new_job, new_collection, is_pending, with_one_more_slot, with_stage}
use Rattle.job_table.specs.Reserves.{Reserve, no_reserve, reserve_with}
use Rattle.job_table.specs.Table.{Table, with_job, changed_at}
use Rattle.die_log.specs.Model.Log.{Log, Job, jobs, acts, waived_collections, is_waived}
use Rattle.die_log.specs.Model.Work.{is_done}
use Rattle.die_log.specs.Model.Answers.{IsExact}
use Rattle.die_log.specs.Invariants.TrueAccounts.{is_pending as pending}
use Rattle.slot_core.specs.Records.{record_with, job_records}
use Rattle.event_log.specs.Notes.{Note}
use Rattle.slot_core.specs.Agreement.{AgreeWithLog}
use Rattle.slot_core.specs.Device.{FlashState}
use Rattle.slot_core.specs.TableLog.{SaysLog}
use Rattle.slot_core.specs.Core.{Reserved, IsWithin}
use Rattle.slot_core.specs.ReservedSlots.{is_open, open_collections, HasReservedRoom, HasLastingRoom}
use Rattle.slot_core.specs.declared.head_step.HeadStep.{HeadStep}
use Rattle.slot_core.specs.HeadSteps.{after_read, table_after_step}
use Rattle.slot_core.proofs.Slotting.{turned, turn_change}
use Rattle.slot_core.proofs.Heading.{pending_is}
use Rattle.slot_core.proofs.Waiving.{tasks_of, few_pending}
use Rattle.die_log.specs.Model.Start.{Start}
use Rattle.die_log.specs.Model.Opening.{IsOpening}

abbrev one_if : JobRecord → ℕ
one_if r = cond (is_open r) 1 0

open_more : (r : JobRecord) (js : List JobRecord) → open_collections (r ∷ js) ≡ one_if r + open_collections js
open_more r js = sum_by-cons one_if r js

-- A job changes

one_no_more : (r s : JobRecord) → (is_open s ≡ true → is_open r ≡ true) → one_if s ≤ one_if r
one_no_more r s h = by_kinds (is_open r) (is_open s) h where
  by_kinds : (a b : Bool) → (b ≡ true → a ≡ true) → cond b 1 0 ≤ cond a 1 0
  by_kinds true true h = omega arith
  by_kinds true false h = omega arith
  by_kinds false true h = absurd (true≢false (sym (h refl)))
  by_kinds false false h = omega arith

-- a change that opens nothing
pub open_changed : (js : List JobRecord) (n : ℕ) (f : JobRecord → JobRecord) → ((r : JobRecord) → is_open (f r) ≡ true → is_open r ≡ true)
    → open_collections (changed_at js n f) ≤ open_collections js
open_changed [] n f h = omega arith
open_changed (r ∷ js) zero f h = omega (arith, open_more r js, open_more (f r) js, one_no_more r (f r) (h r))
open_changed (r ∷ js) (suc n) f h = omega (arith, open_more r js, open_more r (changed_at js n f), open_changed js n f h)

-- a change that closes one
pub open_closed : (js : List JobRecord) (n : ℕ) (r : JobRecord) (f : JobRecord → JobRecord) → slice_get js n ≡ Some r → is_open r ≡ true
    → is_open (f r) ≡ false → open_collections (changed_at js n f) + 1 ≡ open_collections js
open_closed [] n r f at opened closed = absurd (none-some r at)
open_closed (x ∷ js) zero r f at opened closed =
    let it : x ≡ r = same_Some x r at in
    let one : one_if x ≡ 1 = ap {B = ℕ} (λ b. cond b 1 0) (ap is_open it ∙ opened) in
    let none : one_if (f x) ≡ 0 = ap {B = ℕ} (λ b. cond b 1 0) (ap (λ y. is_open (f y)) it ∙ closed) in
    omega (arith, open_more x js, open_more (f x) js, one, none)
open_closed (x ∷ js) (suc n) r f at opened closed = omega
    (arith, open_more x js, open_more x (changed_at js n f), open_closed js n r f at opened closed)

-- A step of the head

act_opens_nothing : (act : Act) (r : JobRecord) → is_open (after_read act (with_one_more_slot r)) ≡ is_open r
act_opens_nothing (does.Read page bytes) r = refl
act_opens_nothing (does.Write page bytes) r = refl
act_opens_nothing (does.Trim page) r = refl
act_opens_nothing (does.CopyRead page) r = refl
act_opens_nothing (does.CopyProgram page) r = refl
act_opens_nothing (does.Erase block) r = refl

never_both : (b : Bool) → (b && false) ≡ false
never_both true = refl
never_both false = refl

turned_open : (turn : HeadStep) (completion : ℕ) (r : JobRecord) → is_open (turned turn completion r) ≡ true → is_open r ≡ true
turned_open turn completion r = by_last turn.last where
  by_last : (b : Bool) → is_open (cond b (with_stage (Done completion turn.given) (after_read turn.act (with_one_more_slot r)))
      (after_read turn.act (with_one_more_slot r))) ≡ true → is_open r ≡ true
  by_last true e = absurd (true≢false (sym e ∙ never_both (after_read turn.act (with_one_more_slot r)).collects))
  by_last false e = sym (act_opens_nothing turn.act r) ∙ e

pub turn_opens_nothing : (t : Table) (n : ℕ) (turn : HeadStep) (completion : ℕ) → open_collections (table_after_step t n turn completion).jobs
    ≤ open_collections t.jobs
turn_opens_nothing t n turn completion =
    subst (λ (x : Table). open_collections x.jobs ≤ open_collections t.jobs) (sym (turn_change t n turn completion))
    (open_changed t.jobs n (turned turn completion) (turned_open turn completion))

pub step_keeps_reserve : (t : Table) (n : ℕ) (turn : HeadStep) (completion : ℕ)
    → (table_after_step t n turn completion).reserve.arrivals ≡ t.reserve.arrivals
step_keeps_reserve t n turn completion = ap (λ (x : Table). x.reserve.arrivals) (turn_change t n turn completion)

pub step_keeps_lasting : (t : Table) (n : ℕ) (turn : HeadStep) (completion : ℕ) → (table_after_step t n turn completion).lasting ≡ t.lasting
step_keeps_lasting t n turn completion = ap (λ (x : Table). x.lasting) (turn_change t n turn completion)

-- A collection is waived

pub waiver_closes : (js : List JobRecord) (n given : ℕ) (r : JobRecord) → slice_get js n ≡ Some r → is_open r ≡ true
    → open_collections (changed_at js n (with_stage (Gone given))) + 1 ≡ open_collections js
waiver_closes js n given r at opened = open_closed js n r (with_stage (Gone given)) at opened (never_both r.collects)

-- A job comes

pub open_job : (js : List JobRecord) (task release due : ℕ) (ops : List Op) → open_collections (js ++ new_job task release due ops ∷ [])
    ≡ open_collections js
open_job [] task release due ops = refl
open_job (r ∷ js) task release due ops = open_more r (js ++ new_job task release due ops ∷ [])
    ∙ ap (λ n. one_if r + n) (open_job js task release due ops) ∙ sym (open_more r js)

pub open_one_more : (js : List JobRecord) (r : JobRecord) → open_collections (js ++ r ∷ []) ≤ open_collections js + 1
open_one_more [] r = omega (arith, open_more r [], one_at_most (is_open r)) where
  one_at_most : (b : Bool) → cond b 1 0 ≤ 1
  one_at_most true = omega arith
  one_at_most false = omega arith
open_one_more (x ∷ js) r = omega (arith, open_more x js, open_more x (js ++ r ∷ []), open_one_more js r)

-- a collection uses up what was reserved for one
pub collect_uses : (t u : Table) (task release due : ℕ) → u ≡ with_job t (new_collection task release due)
    → u.reserve ≡ record t.reserve { arrivals = t.reserve.arrivals - 1 }
collect_uses t u task release due h =
    ap (λ (x : Table). x.reserve) h
    ∙ ap (λ (n : ℕ). record t.reserve { arrivals = t.reserve.arrivals - 1; operations = n }) (takes_none t.reserve.operations)
  where
    takes_none : (n : ℕ) → n - 0 ≡ n
    takes_none n = omega arith

-- More is reserved

pub reserved_says : {A : Type 0} (r : Result A Refusal) (start : Start) (present : ℕ) (t u : Table) (x y : Reserve) (notes : List Note)
    (failed : Bool) (f : FlashState) → OnOk r (u ≡ record t { reserve = x; lasting = y }) → OnErr r (u ≡ t)
    → SaysLog start present t notes failed f → SaysLog start present u notes failed f
reserved_says (Ok a) start present t u x y notes failed f made stays says =
    subst (λ (v : Table). SaysLog start present v notes failed f) (sym made)
    (record {
      kept = record {
        exact = says.kept.exact;
        bound = says.kept.bound;
        left = says.kept.left;
        now_is = says.kept.now_is;
        tasks_are = says.kept.tasks_are;
        clock_by = says.kept.clock_by;
        ended_is = says.kept.ended_is;
        jobs_are = says.kept.jobs_are;
        places_are = says.kept.places_are;
        flash = says.kept.flash;
      };
      fits = says.fits;
    })
reserved_says (Err e) start present t u x y notes failed f made stays says =
    subst (λ (v : Table). SaysLog start present v notes failed f) (sym stays) says

pub reserved_jobs : {A : Type 0} (r : Result A Refusal) (t u : Table) (x y : Reserve) → OnOk r (u ≡ record t { reserve = x; lasting = y })
    → OnErr r (u ≡ t) → u.jobs ≡ t.jobs
reserved_jobs (Ok a) t u x y made stays = ap (λ (v : Table). v.jobs) made
reserved_jobs (Err e) t u x y made stays = ap (λ (v : Table). v.jobs) stays

-- the table with at least these arrivals and operations reserved
abbrev pub reserved_table : ℕ → ℕ → Table → Table
reserved_table arrivals operations t =
    record t { reserve = reserve_with arrivals operations t.reserve; lasting = reserve_with arrivals operations t.lasting }

more_reserved : {A : Type 0} (r : Result A Refusal) (t u : Table) (arrivals operations : ℕ)
    → OnOk r (u ≡ reserved_table arrivals operations t) → OnErr r (u ≡ t)
    → (u.reserve.arrivals ≡ max t.reserve.arrivals arrivals) ⊎ (u.reserve.arrivals ≡ t.reserve.arrivals)
more_reserved (Ok a) t u arrivals operations made stays = inl (ap (λ (y : Table). y.reserve.arrivals) made)
more_reserved (Err e) t u arrivals operations made stays = inr (ap (λ (y : Table). y.reserve.arrivals) stays)

lt_of : (m n : ℕ) → nat_lt m n ≡ true → m < n
lt_of m n h = grind (arith, nat_tests)

not_lt_of : (m n : ℕ) → nat_lt m n ≡ false → n ≤ m
not_lt_of m n h = grind (arith, nat_tests)

pub arrivals_room : {A : Type 0} (r : Result A Refusal) (t u : Table) (slots arrivals operations room waiver_room before : ℕ)
    → OnOk r (u ≡ reserved_table arrivals operations t) → OnErr r (u ≡ t)
    → slots + max t.reserve.arrivals arrivals ≤ room
    → cond (nat_lt t.reserve.arrivals arrivals) (t.tasks + arrivals) 0 ≤ waiver_room
    → open_collections t.jobs + t.reserve.arrivals ≤ before → before ≤ waiver_room → open_collections t.jobs ≤ t.tasks
    → HasReservedRoom slots u.reserve.arrivals u.jobs room waiver_room
arrivals_room r t u slots arrivals operations room waiver_room before made stays roomy waived had more few =
    subst (λ (js : List JobRecord). HasReservedRoom slots u.reserve.arrivals js room waiver_room) (sym (reserved_jobs r t u _ _ made stays)) (record {
      entries = by_entries (more_reserved r t u arrivals operations made stays);
      waivers = by_waivers (nat_lt t.reserve.arrivals arrivals) refl (more_reserved r t u arrivals operations made stays);
    })
  where
    by_entries : (u.reserve.arrivals ≡ max t.reserve.arrivals arrivals) ⊎ (u.reserve.arrivals ≡ t.reserve.arrivals)
        → slots + u.reserve.arrivals ≤ room
    by_entries (inl is) = omega (arith, is, roomy)
    by_entries (inr is) = omega (arith, is, roomy)

    by_waivers : (b : Bool) → nat_lt t.reserve.arrivals arrivals ≡ b
        → (u.reserve.arrivals ≡ max t.reserve.arrivals arrivals) ⊎ (u.reserve.arrivals ≡ t.reserve.arrivals)
        → open_collections t.jobs + u.reserve.arrivals ≤ waiver_room
    by_waivers true e (inl is) =
        let below : t.reserve.arrivals < arrivals = lt_of t.reserve.arrivals arrivals e in
        omega (arith, is, few, below, subst (λ (b : Bool). cond b (t.tasks + arrivals) 0 ≤ waiver_room) e waived)
    by_waivers false e (inl is) = omega (arith, is, had, more, not_lt_of t.reserve.arrivals arrivals e)
    by_waivers b e (inr is) = omega (arith, is, had, more)

-- Of slots or arrivals `wanted` are reserved, with those of the other kind: so there is room for both, and memory for
-- both from the beginning of a log on
pub room_ahead : (before lasting wanted other beside room after memory memory_after : ℕ) → before + other ≤ room → room ≤ after
    → cond (nat_lt before wanted) (wanted + beside) 0 ≤ after → before ≤ lasting → other ≤ beside → lasting + beside ≤ memory
    → memory ≤ memory_after → after ≤ memory_after
    → (max before wanted + other ≤ after) × (max lasting wanted + beside ≤ memory_after)
room_ahead before lasting wanted other beside room after memory memory_after had more asked most fewer lasts kept within =
    by (nat_lt before wanted) refl
  where
    by : (b : Bool) → nat_lt before wanted ≡ b → (max before wanted + other ≤ after) × (max lasting wanted + beside ≤ memory_after)
    by true e =
        let below : before < wanted = lt_of before wanted e in
        let asks : wanted + beside ≤ after = subst (λ (b : Bool). cond b (wanted + beside) 0 ≤ after) e asked in
        (omega (arith, below, asks, fewer), omega (arith, below, asks, lasts, kept, within))
    by false e =
        let above : wanted ≤ before = not_lt_of before wanted e in
        (omega (arith, above, had, more), omega (arith, above, most, lasts, kept))

-- and for a waiver of each arrival
pub waivers_last : (before lasting arrivals tasks after memory memory_after : ℕ) → cond (nat_lt before arrivals) (tasks + arrivals) 0 ≤ after
    → before ≤ lasting → lasting ≤ memory → memory ≤ memory_after → after ≤ memory_after → max lasting arrivals ≤ memory_after
waivers_last before lasting arrivals tasks after memory memory_after asked most lasts kept within = by (nat_lt before arrivals) refl
  where
    by : (b : Bool) → nat_lt before arrivals ≡ b → max lasting arrivals ≤ memory_after
    by true e = omega (arith, lasts, kept, within, subst (λ (b : Bool). cond b (tasks + arrivals) 0 ≤ after) e asked)
    by false e = omega (arith, most, lasts, kept, not_lt_of before arrivals e)

-- for what a die has reserved beside its table
abbrev pub reserved_of : ℕ → Reserve → Reserved
reserved_of slots reserve = record { slots = slots; arrivals = reserve.arrivals; operations = reserve.operations }

pub arrivals_last : {A : Type 0} (r : Result A Refusal) (t u : Table) (slots lasting arrivals operations memory waiver_memory : ℕ)
    → OnOk r (u ≡ reserved_table arrivals operations t) → OnErr r (u ≡ t) → IsWithin (reserved_of slots t.reserve) (reserved_of lasting t.lasting)
    → max t.lasting.arrivals arrivals + lasting ≤ memory → max t.lasting.arrivals arrivals ≤ waiver_memory
    → HasLastingRoom (reserved_of slots u.reserve) (reserved_of lasting u.lasting) memory waiver_memory
arrivals_last (Ok a) t u slots lasting arrivals operations memory waiver_memory made stays within roomy waived =
    subst (λ (v : Table). HasLastingRoom (reserved_of slots v.reserve) (reserved_of lasting v.lasting) memory waiver_memory) (sym made) (record {
      within = record {
        slots = within.slots;
        arrivals = omega (arith, within.arrivals);
        operations = omega (arith, within.operations);
      };
      entries = omega (arith, roomy);
      waivers = waived;
    })
arrivals_last (Err e) t u slots lasting arrivals operations memory waiver_memory made stays within roomy waived =
    subst (λ (v : Table). HasLastingRoom (reserved_of slots v.reserve) (reserved_of lasting v.lasting) memory waiver_memory) (sym stays) (record {
      within = within;
      entries = omega (arith, roomy);
      waivers = omega (arith, waived);
    })

-- What comes uses up what is reserved, and none of what lasts

pub job_lasts : (t u : Table) (job : JobRecord) (slots lasting memory after waiver_memory waivers_after : ℕ) → u ≡ with_job t job
    → memory ≤ after → waiver_memory ≤ waivers_after
    → HasLastingRoom (reserved_of slots t.reserve) (reserved_of lasting t.lasting) memory waiver_memory
    → HasLastingRoom (reserved_of slots u.reserve) (reserved_of lasting u.lasting) after waivers_after
job_lasts t u job slots lasting memory after waiver_memory waivers_after is more waives h =
    subst (λ (v : Table). HasLastingRoom (reserved_of slots v.reserve) (reserved_of lasting v.lasting) after waivers_after) (sym is) (record {
      within = record {
        slots = h.within.slots;
        arrivals = omega (arith, h.within.arrivals);
        operations = omega (arith, h.within.operations);
      };
      entries = omega (arith, h.entries, more);
      waivers = omega (arith, h.waivers, waives);
    })

-- also where it is refused
pub collect_lasts : (r : Result ℕ Refusal) (t u : Table) (job : JobRecord) (slots lasting memory after waiver_memory waivers_after : ℕ)
    → OnOk r (u ≡ with_job t job) → OnErr r (u ≡ t) → memory ≤ after → waiver_memory ≤ waivers_after
    → HasLastingRoom (reserved_of slots t.reserve) (reserved_of lasting t.lasting) memory waiver_memory
    → HasLastingRoom (reserved_of slots u.reserve) (reserved_of lasting u.lasting) after waivers_after
collect_lasts (Ok number) t u job slots lasting memory after waiver_memory waivers_after is same more waives h =
    job_lasts t u job slots lasting memory after waiver_memory waivers_after is more waives h
collect_lasts (Err refusal) t u job slots lasting memory after waiver_memory waivers_after is same more waives h =
    subst (λ (v : Table). HasLastingRoom (reserved_of slots v.reserve) (reserved_of lasting v.lasting) after waivers_after) (sym same) (record {
      within = h.within;
      entries = omega (arith, h.entries, more);
      waivers = omega (arith, h.waivers, waives);
    })

-- a die that is renewed has reserved all that lasts
pub renewed_room : (u : Table) (lasting : Reserve) (slots memory waiver_memory room waiver_room memory_after waivers_after : ℕ)
    → u.reserve ≡ lasting → u.lasting ≡ lasting → u.jobs ≡ [] → slots + lasting.arrivals ≤ memory → lasting.arrivals ≤ waiver_memory
    → room ≡ memory → waiver_room ≡ waiver_memory → memory_after ≡ memory → waivers_after ≡ waiver_memory
    → HasReservedRoom slots u.reserve.arrivals u.jobs room waiver_room
    × HasLastingRoom (reserved_of slots u.reserve) (reserved_of slots u.lasting) memory_after waivers_after
renewed_room u lasting slots memory waiver_memory room waiver_room memory_after waivers_after reserve lasts none entries waivers all all_waivers kept
    kept_waivers =
    rw (reserve, lasts, none) (
      record { entries = omega (arith, entries, all); waivers = omega (arith, waivers, all_waivers) },
      record {
        within = record { slots = omega arith; arrivals = omega arith; operations = omega arith };
        entries = omega (arith, entries, kept);
        waivers = omega (arith, waivers, kept_waivers);
      },
    )

-- a table and a log without memory have reserved nothing
pub empty_room : (u : Table) → u.reserve ≡ no_reserve → u.lasting ≡ no_reserve → u.jobs ≡ [] → (room waiver_room memory waiver_memory : ℕ)
    → HasReservedRoom 0 u.reserve.arrivals u.jobs room waiver_room
    × HasLastingRoom (reserved_of 0 u.reserve) (reserved_of 0 u.lasting) memory waiver_memory
empty_room u reserve lasts none room waiver_room memory waiver_memory =
    rw (reserve, lasts, none) (
      record { entries = omega arith; waivers = omega arith },
      record {
        within = record { slots = omega arith; arrivals = omega arith; operations = omega arith };
        entries = omega arith;
        waivers = omega arith;
      },
    )

-- At most one collection a task

open_is : (start : Start) (log : Log) (j : Job) → is_open (record_with start log (waived_collections log) j)
    ≡ pending start.plan (λ n. acts n log) (is_waived log) j
open_is start log j = by_kind j.collects where
  by_kind : (c : Bool) → (c && is_pending (record_with start log (waived_collections log) j).stage)
      ≡ ((c && not (is_done start.plan log j)) && not (is_waived log j.number))
  by_kind true = pending_is start log (waived_collections log) j
  by_kind false = refl

open_tasks : (start : Start) (log : Log) (js : List Job) → open_collections (map (record_with start log (waived_collections log)) js)
    ≡ length (tasks_of (pending start.plan (λ n. acts n log) (is_waived log)) js)
open_tasks start log [] = refl
open_tasks start log (j ∷ js) =
    open_more (record_with start log (waived_collections log) j) (map (record_with start log (waived_collections log)) js)
    ∙ by_kind (is_open (record_with start log (waived_collections log) j)) (pending start.plan (λ n. acts n log) (is_waived log) j) (open_is start log j)
    (open_tasks start log js)
  where
    rest : List Job
    rest = filter (pending start.plan (λ n. acts n log) (is_waived log)) js

    by_kind : (a b : Bool) → a ≡ b → open_collections (map (record_with start log (waived_collections log)) js) ≡ length (map (λ (i : Job). i.task) rest)
        → cond a 1 0 + open_collections (map (record_with start log (waived_collections log)) js)
        ≡ length (map (λ (i : Job). i.task) (cond b (j ∷ rest) rest))
    by_kind true true same h = omega (arith, h)
    by_kind true false same h = absurd (true≢false same)
    by_kind false true same h = absurd (true≢false (sym same))
    by_kind false false same h = omega (arith, h)

pub few_open : (start : Start) (log : Log) (js : List JobRecord) → IsOpening start → IsExact start log → js ≡ job_records start log
    → open_collections js ≤ length start.plan.caps
few_open start log js bound exact is =
    subst (λ (xs : List JobRecord). open_collections xs ≤ length start.plan.caps) (sym is)
    (subst (λ (n : ℕ). n ≤ length start.plan.caps) (sym (open_tasks start log (jobs log))) (few_pending start log bound exact))

-- so there is room for a waiver of each, where there is for one a task
-- or memory for one of those reserved is used
pub collect_room : (r : Result ℕ Refusal) (start : Start) (log : Log) (t u : Table) (task release due before after : ℕ) → IsOpening start
    → IsExact start log → u.jobs ≡ job_records start log → t.tasks ≡ length start.plan.caps
    → OnOk r (t.reserve.arrivals ≡ 0 → t.tasks ≤ after) → OnOk r (u ≡ with_job t (new_collection task release due)) → OnErr r (u ≡ t)
    → open_collections t.jobs + t.reserve.arrivals ≤ before → before ≤ after → open_collections u.jobs + u.reserve.arrivals ≤ after
collect_room (Ok number) start log t u task release due before after bound exact jobs_are tasks_are made entered stays had more =
    by_reserve t.reserve.arrivals refl
  where
    left : u.reserve.arrivals ≡ t.reserve.arrivals - 1
    left = ap (λ (x : Table). x.reserve.arrivals) entered

    by_reserve : (n : ℕ) → t.reserve.arrivals ≡ n → open_collections u.jobs + u.reserve.arrivals ≤ after
    by_reserve zero none = omega (arith, few_open start log u.jobs bound exact jobs_are, tasks_are, made none, none, left)
    by_reserve (suc n) some =
        omega (arith, had, more, some, left, ap (λ (x : Table). open_collections x.jobs) entered, open_one_more t.jobs (new_collection task release due))
collect_room (Err refusal) start log t u task release due before after bound exact jobs_are tasks_are made entered stays had more = omega
    (arith, ap (λ (x : Table). open_collections x.jobs) stays, ap (λ (x : Table). x.reserve.arrivals) stays, had, more)
