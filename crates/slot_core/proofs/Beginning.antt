-- What comes before the head's act: collections are waived, or one takes its victim.
use Rattle.std.proofs.Common.{◌≡◌, ℕ, ◌+◌, ◌<◌, ◌≤◌, ◌==◌, ◌&&◌, nat_le, Bool, true, false, cond, List, [], ◌∷◌, ◌++◌, Option, Some, None}
use Rattle.std.proofs.Common.{refl, ap, sym, ◌∙◌, subst, length, map, slice_get, slice_set, append_assoc, arith}
use Rattle.std.specs.List.{last_or}
use Rattle.std.proofs.lemmas.Bool.{true≢false, and_parts, and_from, eqb-true, eq-eqb, ne_eqb}
use Rattle.std.proofs.lemmas.Bool.Decides.{nat_tests}
use Rattle.std.proofs.lemmas.Option.{same_Some, none-some}
use Rattle.slot_types.specs.declared.plans.DiePlan.{DiePlan}
use Rattle.slot_types.specs.declared.acts.Act.{Act}
use Rattle.slot_types.specs.declared.replies.Waived.{Waived}
use Rattle.plan_rules.specs.Accounts.{Accounts, given_of}
use Rattle.plan_rules.specs.Accounts as moves
use Rattle.flash_die.specs.Flash as device
use Rattle.flash_volume.specs.declared.collection.Collection.{Collection}
use Rattle.flash_volume.specs.Acts.{Waives, Begins}
use Rattle.flash_volume.specs.Running.{running_of}
use Rattle.flash_volume.specs.State.{State}
use Rattle.job_table.specs.declared.stages.Stage.TheVariants.{Waived as Gone}
use Rattle.job_table.specs.Jobs.{JobRecord, with_stage, is_pending}
use Rattle.job_table.specs.Table.{Table, changed_at, with_change}
use Rattle.job_table.specs.Order as table
use Rattle.job_table.specs.Waivers.{jobs_after_waiver as gone_after, IsPendingAt}
use Rattle.job_table.proofs.Waivers.{head_pending, waived_push, WerePending-push}
use Rattle.die_log.specs.Model.Log.{Log, Job, jobs, job_at, acts, waived_collections, work}
use Rattle.die_log.specs.Model.Work.{victim_of}
use Rattle.die_log.specs.Model.Accounts.{accounts, after_waiver, after_waivers}
use Rattle.die_log.specs.Model.Answers.{is_running, is_waivable, buffer_after, victim}
use Rattle.die_log.proofs.LogInvariants.OneMoreEntry.{number_at, stands_at}
use Rattle.die_log.proofs.LogInvariants.HeadActs.{runs_from}
use Rattle.slot_core.specs.Records.{record_with, job_records, waiver_among}
use Rattle.slot_core.specs.Device.{FlashState, flash_of, page_held, AreRunning}
use Rattle.slot_core.specs.WithinSlot.{ChoiceGoesOn, IsWaivedTable, InSlot, RunsHead, IsHeadInSlot}
use Rattle.slot_core.specs.ReservedSlots.{open_collections}
use Rattle.slot_core.specs.HeadSteps.{is_fresh, BeginsBy, BeginsAs}
use Rattle.slot_core.proofs.Choosing.{waiver_of, waives}
use Rattle.slot_core.proofs.Collections.{own_running, running_pending, one_pending, others_run, others_begun, runs_none}
use Rattle.slot_core.proofs.Recording.{map_changed}
use Rattle.slot_core.proofs.Turning.{IsHeadJob, head_job}
use Rattle.slot_core.proofs.Victims.{victim_is}
use Rattle.slot_core.proofs.Waiving.{waiver_fits}
use Rattle.slot_core.proofs.Reserving.{waiver_closes}
use Rattle.die_log.specs.Model.Start.{Start, over}

-- The head, and its record

-- the head's job, and that its record is read off the log
head_record : (start : Start) (log : Log) (ws : List Waived) (t : Table) (n : ℕ) (j : Job) (r : JobRecord) → IsHeadJob start log ws t n j
    → slice_get t.jobs n ≡ Some r → record_with start log (waived_collections log ++ ws) j ≡ r
head_record start log ws t n j r h at = same_Some (record_with start log (waived_collections log ++ ws) j) r (sym h.record_at ∙ at)

fresh_is : (start : Start) (log : Log) (ws : List Waived) (t : Table) (n : ℕ) (j : Job) (r : JobRecord) → IsHeadJob start log ws t n j
    → slice_get t.jobs n ≡ Some r → is_fresh r ≡ (j.collects && (work j.number log == 0))
fresh_is start log ws t n j r h at = sym (ap is_fresh (head_record start log ws t n j r h at))

-- what the volume asks for before a head begins
pub begin_fits : (start : Start) {N : Type 0} (blocks_of : N → List device.Block) (log : Log) (present : ℕ) (ws : List Waived) (t : Table) (n : ℕ)
    (v : State N) (r : JobRecord) → InSlot (over v.accounts.plan start) log present ws t (flash_of blocks_of v) → table.IsHead t n → slice_get t.jobs n
    ≡ Some r
    → (r.task < length v.accounts.plan.caps) × (is_fresh r ≡ true → running_of v.running r.task ≡ None)
begin_fits start blocks_of log present ws t n v r s head at =
    let found = head_job (over v.accounts.plan start) log present ws t n s.slot s.table head in
    let record_is = head_record (over v.accounts.plan start) log ws t n found.0 r found.1 at in
    let task_is : found.0.task ≡ r.task = ap (λ (x : JobRecord). x.task) record_is in (
      subst (λ (k : ℕ). k < length v.accounts.plan.caps) task_is found.1.limits.task,
      λ fresh.
          let parts = and_parts found.0.collects (work found.0.number log == 0)
          (sym (fresh_is (over v.accounts.plan start) log ws t n found.0 r found.1 at) ∙ fresh) in
          ap (running_of v.running) (sym task_is)
          ∙ runs_none (over v.accounts.plan start) log found.0 v.running found.1.both.1.true_accounts found.1.both.0.numbered found.1.own_at
          (found.1.pending_if parts.0) (eqb-true (work found.0.number log) 0 parts.1) s.running,
    )

-- A waiver

-- it changes nothing of the volume but its accounts
pub record LeavesRest {N : Type 0} (v w : State N) : Type 0 where
  pub plan : w.accounts.plan ≡ v.accounts.plan
  pub failed : w.failed ≡ v.failed
  pub device : w.device ≡ v.device
  pub places : w.places ≡ v.places

pub begin_leaves : {N : Type 0} (blocks_of : N → List device.Block) (v w : State N) (r : JobRecord) (o : Option ℕ)
    → BeginsAs blocks_of v r o w → LeavesRest v w
begin_leaves {N = N} blocks_of v w r o h = by_fresh (is_fresh r) o h
  where
    same : (u : State N) → w ≡ u → u.accounts.plan ≡ v.accounts.plan → u.failed ≡ v.failed → u.device ≡ v.device → u.places ≡ v.places → LeavesRest v w
    same u is a b c d = record {
      plan = ap (λ (x : State N). x.accounts.plan) is ∙ a;
      failed = ap (λ (x : State N). x.failed) is
          ∙ b;
      device = ap (λ (x : State N). x.device) is ∙ c;
      places = ap (λ (x : State N). x.places) is ∙ d;
    }

    by_fresh : (b : Bool) (o : Option ℕ) → BeginsBy blocks_of v r.task b o w → LeavesRest v w
    by_fresh true (Some given) h = same (record v { accounts = moves.accounts_after_waiver v.accounts r.task }) h.moved refl refl refl refl
    by_fresh true None h = same _ h.1.moved refl refl refl refl
    by_fresh false o h = same v h.1 refl refl refl refl

-- the waiver of a head
pub record IsHeadWaiver {N : Type 0} (v : State N) (r : JobRecord) (given : ℕ) (w : State N) : Type 0 where
  pub fresh : is_fresh r ≡ true
  pub waives : Waives v r.task given w

pub head_waiver : {N : Type 0} (blocks_of : N → List device.Block) (v w : State N) (r : JobRecord) (given : ℕ)
    → BeginsAs blocks_of v r (Some given) w → IsHeadWaiver v r given w
head_waiver blocks_of v w r given h = by_fresh (is_fresh r) refl h
  where
    by_fresh : (b : Bool) → is_fresh r ≡ b → BeginsBy blocks_of v r.task b (Some given) w → IsHeadWaiver v r given w
    by_fresh true e k = record { fresh = e; waives = k }
    by_fresh false e k = absurd (none-some given (sym k.0))

spares : (m n : ℕ) → m ≤ n → nat_le m n ≡ true
spares m n h = grind (arith, nat_tests)

waivable_is : (plan : DiePlan) (log : Log) (a : Accounts) (j : Job) → (j.collects && (work j.number log == 0)) ≡ true → plan.alpha ≤ a.spare
    → is_waivable plan log a j ≡ true
waivable_is plan log a j fresh enough = and_from (j.collects && (work j.number log == 0)) (nat_le plan.alpha a.spare) fresh
    (spares plan.alpha a.spare enough)

-- there is room for the waiver of a head
pub waiver_room : (start : Start) {N : Type 0} (blocks_of : N → List device.Block) (log : Log) (present : ℕ) (ws : List Waived) (t : Table) (n given : ℕ)
    (v w : State N) (r : JobRecord) → InSlot (over v.accounts.plan start) log present ws t (flash_of blocks_of v) → table.IsHead t n
    → slice_get t.jobs n ≡ Some r → BeginsAs blocks_of v r (Some given) w → length ws < t.tasks
waiver_room start blocks_of log present ws t n given v w r s head at h =
    let found = head_job (over v.accounts.plan start) log present ws t n s.slot s.table head in
    let waiver = head_waiver blocks_of v w r given h in
    let fits = waiver_fits (over v.accounts.plan start) log ws v.accounts found.0 s.slot.bound s.slot.exact s.goes_on found.1.least_is
    (waivable_is v.accounts.plan log v.accounts found.0 (sym (fresh_is (over v.accounts.plan start) log ws t n found.0 r found.1 at) ∙ waiver.fresh)
    waiver.waives.spare) in
    omega (arith, fits, s.table.tasks_are)

waivers_more : (past : Log) (ws : List Waived) (w : Waived) (a : Accounts) → after_waivers past (ws ++ w ∷ []) a
    ≡ after_waiver (job_at past w.number) (after_waivers past ws a)
waivers_more past [] w a = refl
waivers_more past (x ∷ ws) w a = waivers_more past ws w (after_waiver (job_at past x.number) a)

among_other : (n : ℕ) (ws : List Waived) (w : Waived) → (w.number == n) ≡ false → waiver_among n (ws ++ w ∷ []) ≡ waiver_among n ws
among_other n [] w e = rw e refl
among_other n (x ∷ ws) w e = ap (λ (o : Option Waived). cond (x.number == n) (Some x) o) (among_other n ws w e)

among_own : (n : ℕ) (ws : List Waived) (w : Waived) → w.number ≡ n → waiver_among n ws ≡ None → waiver_among n (ws ++ w ∷ []) ≡ Some w
among_own n [] w e none = rw (eq-eqb w.number n e) refl
among_own n (x ∷ ws) w e none = by_test (x.number == n) none (λ rest. among_own n ws w e rest)
  where
    by_test : (b : Bool) → cond b (Some x) (waiver_among n ws) ≡ None → (waiver_among n ws ≡ None → waiver_among n (ws ++ w ∷ []) ≡ Some w)
        → cond b (Some x) (waiver_among n (ws ++ w ∷ [])) ≡ Some w
    by_test true h again = absurd (none-some x (sym h))
    by_test false h again = again h

-- the table after one more waiver
table_waived : (start : Start) (log : Log) (ws : List Waived) (t : Table) (n given : ℕ) (j : Job) → IsWaivedTable start log ws t
    → IsHeadJob start log ws t n j → table.IsHead t n
    → IsWaivedTable start log (ws ++ record { number = n; given = given } ∷ []) (with_change t n (with_stage (Gone given)))
table_waived start log ws t n given j k h head = record {
  tasks_are = k.tasks_are;
  clock_is = k.clock_is;
  running = k.running;
  jobs_are = ap (λ (js : List JobRecord). changed_at js n (with_stage (Gone given))) k.jobs_are
      ∙ (map_changed (record_with start log (waived_collections log ++ ws)) (record_with start log ((waived_collections log ++ ws) ++ w ∷ [])) (jobs log) n
      (with_stage (Gone given)) others here
      ∙ ap (λ (l : List Waived). map (record_with start log l) (jobs log)) (append_assoc (waived_collections log) ws (w ∷ [])));
  were_pending = WerePending-push (job_records start log) ws w k.were_pending
      (subst (λ (js : List JobRecord). IsPendingAt js n) k.were (head_pending t n head));
  were = ap (λ (js : List JobRecord). gone_after js w) k.were ∙ sym (waived_push (job_records start log) ws w);
}
  where
    w : Waived
    w = record { number = n; given = given }

    none : waiver_among j.number (waived_collections log ++ ws) ≡ None
    none = unwaived_pending (waiver_among j.number (waived_collections log ++ ws)) refl
      where
        not_pending : (x : Waived) → waiver_among j.number (waived_collections log ++ ws) ≡ Some x → ⊥
        not_pending x e =
            let pending_one = head_pending t n head in
            let same : pending_one.job ≡ record_with start log (waived_collections log ++ ws) j = same_Some pending_one.job
            (record_with start log (waived_collections log ++ ws) j) (sym pending_one.is_at ∙ h.record_at) in
            let gone : (record_with start log (waived_collections log ++ ws) j).stage ≡ Gone x.given = rw e refl in
            absurd (let clash = sym pending_one.pending_is ∙ (ap (λ (r : JobRecord). r.stage) same ∙ gone) in cc)

        unwaived_pending : (o : Option Waived) → waiver_among j.number (waived_collections log ++ ws) ≡ o → o ≡ None
        unwaived_pending None e = refl
        unwaived_pending (Some x) e = absurd (not_pending x e)

    others : (k : ℕ) (i : Job) → slice_get (jobs log) k ≡ Some i → (k ≡ n → ⊥) → record_with start log (waived_collections log ++ ws) i
        ≡ record_with start log ((waived_collections log ++ ws) ++ w ∷ []) i
    others k i at other =
        let is : i.number ≡ 0 + k = number_at 0 (jobs log) k i h.both.0.numbered at in
        rw (among_other i.number (waived_collections log ++ ws) w (ne_eqb n i.number (λ same. other (omega (arith, same, is))))) refl

    here : (i : Job) → slice_get (jobs log) n ≡ Some i → with_stage (Gone given) (record_with start log (waived_collections log ++ ws) i)
        ≡ record_with start log ((waived_collections log ++ ws) ++ w ∷ []) i
    here i at =
        let it : j ≡ i = same_Some j i (sym h.at ∙ at) in
        subst (λ (x : Job). with_stage (Gone given) (record_with start log (waived_collections log ++ ws) x)
        ≡ record_with start log ((waived_collections log ++ ws) ++ w ∷ []) x) it
        (rw (among_own j.number (waived_collections log ++ ws) w (sym h.number_is) none) refl)

-- what holds within the slot holds after one more waiver
pub waives_head : (start : Start) {N : Type 0} (blocks_of : N → List device.Block) (log : Log) (present : ℕ) (ws : List Waived) (t : Table) (n given : ℕ)
    (v w : State N) (r : JobRecord) → InSlot (over v.accounts.plan start) log present ws t (flash_of blocks_of v) → table.IsHead t n
    → slice_get t.jobs n ≡ Some r → BeginsAs blocks_of v r (Some given) w
    → InSlot (over v.accounts.plan start) log present (ws ++ record { number = n; given = given } ∷ []) (with_change t n (with_stage (Gone given)))
    (flash_of blocks_of w)
waives_head start {N = N} blocks_of log present ws t n given v w r s head at h =
    subst (λ (x : State N). InSlot (over v.accounts.plan start) log present (ws ++ record { number = n; given = given } ∷ [])
    (with_change t n (with_stage (Gone given))) (flash_of blocks_of x)) (sym waiver.waives.moved) (record {
      slot = s.slot;
      table = table_waived (over v.accounts.plan start) log ws t n given j s.table job head;
      goes_on = subst (λ (x : Waived). ChoiceGoesOn (over v.accounts.plan start) log (ws ++ x ∷ []) (moves.accounts_after_waiver v.accounts r.task)) waiver_is
          (subst (λ (k : ℕ). ChoiceGoesOn (over v.accounts.plan start) log (ws ++ waiver_of v.accounts j ∷ []) (moves.accounts_after_waiver v.accounts k)) task_is
          (waives (over v.accounts.plan start) log ws v.accounts j s.goes_on job.least_is waivable));
      flash = record {
        accounts_are = ap (λ (a : Accounts). moves.accounts_after_waiver a r.task) s.flash.accounts_are
            ∙ (ap (λ (k : ℕ). moves.accounts_after_waiver (after_waivers log ws (accounts (over v.accounts.plan start) log)) k) (sym task_is)
            ∙ sym (waivers_more log ws (record { number = n; given = given }) (accounts (over v.accounts.plan start) log)
            ∙ ap (λ (o : Option Job). after_waiver o (after_waivers log ws (accounts (over v.accounts.plan start) log))) job.at));
        pages_are = s.flash.pages_are;
        places_are = s.flash.places_are;
        blocks_are = s.flash.blocks_are;
      };
      running = s.running;
    })
  where
    j : Job
    j = (head_job (over v.accounts.plan start) log present ws t n s.slot s.table head).0

    job : IsHeadJob (over v.accounts.plan start) log ws t n (head_job (over v.accounts.plan start) log present ws t n s.slot s.table head).0
    job = (head_job (over v.accounts.plan start) log present ws t n s.slot s.table head).1

    waiver : IsHeadWaiver v r given w
    waiver = head_waiver blocks_of v w r given h

    task_is : (head_job (over v.accounts.plan start) log present ws t n s.slot s.table head).0.task ≡ r.task
    task_is = ap (λ (x : JobRecord). x.task) (head_record (over v.accounts.plan start) log ws t n j r job at)

    waivable : is_waivable v.accounts.plan log v.accounts (head_job (over v.accounts.plan start) log present ws t n s.slot s.table head).0 ≡ true
    waivable = waivable_is v.accounts.plan log v.accounts j (sym (fresh_is (over v.accounts.plan start) log ws t n j r job at) ∙ waiver.fresh)
        waiver.waives.spare

    same_waiver : (m k : ℕ) (a b : ℕ) → m ≡ k → a ≡ b → ◌≡◌ {A = Waived} (record { number = m; given = a })
        (record { number = k; given = b })
    same_waiver m k a b x y = rw x (rw y refl)

    waiver_is : waiver_of v.accounts (head_job (over v.accounts.plan start) log present ws t n s.slot s.table head).0
        ≡ record { number = n; given = given }
    waiver_is = same_waiver j.number n (given_of v.accounts j.task) given job.number_is (ap (given_of v.accounts) task_is
        ∙ sym waiver.waives.given)

-- The step begins

not_spare : (m n : ℕ) → n < m → nat_le m n ≡ false
not_spare m n h = grind (arith, nat_tests)

no_more : (a : Accounts) (plan : DiePlan) (b c : Bool) → c ≡ false → (b && c) ≡ false
no_more a plan true c e = e
no_more a plan false c e = refl

-- a collection that has begun runs on the volume
begun_runs : (start : Start) {N : Type 0} (blocks_of : N → List device.Block) (log : Log) (ws : List Waived) (t : Table) (n : ℕ) (v : State N) (j : Job)
    → IsHeadJob (over v.accounts.plan start) log ws t n j → AreRunning (over v.accounts.plan start) log v.running
    → j.collects ≡ true → (work j.number log == 0) ≡ false → (c : Collection) × RunsHead (over v.accounts.plan start) log j (flash_of blocks_of v) c
begun_runs start blocks_of log ws t n v j h r collects begun =
    let shown = h.both.0.collects.shown j h.stands running in
    let found = r.all j shown.0 shown.1 in
    let own = r.each j.task found.0 found.1 in
    let it : own.0 ≡ j = one_pending (over v.accounts.plan start) log own.0 j h.both.1.true_accounts
    (stands_at (jobs log) own.0 h.both.0.numbered own.1.runs.stands) h.own_at
    (running_pending (over v.accounts.plan start) log own.0 h.both.1.true_accounts own.1.runs.running) (h.pending_if collects) own.1.task_is in (
      found.0,
      record {
        runs = found.1;
        victim = ap (λ (b : Bool). cond b (victim (over v.accounts.plan start) log) (victim_of (over v.accounts.plan start) j.number log)) begun
            ∙ (shown.1.victim ∙ ap Some (sym found.2));
        holds = own.1.holds ∙ ap (λ (x : Job). page_held log x.number) it;
      },
    )
  where
    above : (k : ℕ) → (k == 0) ≡ false → 0 < k
    above k e = grind (arith, nat_tests)

    running : is_running v.accounts.plan log j ≡ true
    running = runs_from v.accounts.plan j (acts j.number log)
        (record { collects = collects; begun = above (work j.number log) begun; undone = h.undone })

turn_unfresh : (start : Start) {N : Type 0} (blocks_of : N → List device.Block) (log : Log) (present : ℕ) (ws : List Waived) (t : Table) (n : ℕ)
    (v : State N) (j : Job) → InSlot (over v.accounts.plan start) log present ws t (flash_of blocks_of v) → table.IsHead t n
    → IsHeadJob (over v.accounts.plan start) log ws t n j → (j.collects && (work j.number log == 0)) ≡ false
    → IsHeadInSlot (over v.accounts.plan start) log present ws t (flash_of blocks_of v) n
turn_unfresh start blocks_of log present ws t n v j s head h unfresh = record {
  slot = s.slot;
  table = s.table;
  goes_on = s.goes_on;
  flash = s.flash;
  head = head;
  job = j;
  at = h.at;
  unwaivable = ap (λ (b : Bool). b && nat_le v.accounts.plan.alpha v.accounts.spare) unfresh;
  runs = λ collects. begun_runs start blocks_of log ws t n v j h s.running collects
      (sym (ap (λ (b : Bool). b && (work j.number log == 0)) collects) ∙ unfresh);
  others = others_run (over v.accounts.plan start) log j (flash_of blocks_of v) h.both.1.true_accounts h.both.0.numbered h.own_at h.pending_if s.running;
}

nil_by : (xs : List Act) → length xs ≡ 0 → xs ≡ []
nil_by [] h = refl
nil_by (x ∷ xs) h = absurd (omega (arith, h))

-- a collection that has not begun takes its victim
turn_fresh : (start : Start) {N : Type 0} (blocks_of : N → List device.Block) (log : Log) (present : ℕ) (ws : List Waived) (t : Table) (n block : ℕ)
    (v : State N) (w : State N) (j : Job) → InSlot (over v.accounts.plan start) log present ws t (flash_of blocks_of v) → table.IsHead t n
    → IsHeadJob (over v.accounts.plan start) log ws t n j → (j.collects && (work j.number log == 0)) ≡ true → Begins blocks_of v j.task block w
    → IsHeadInSlot (over v.accounts.plan start) log present ws t (record (flash_of blocks_of v)
    { running = slice_set v.running j.task (Some (record { victim = block; buffer = None })) }) n
turn_fresh start blocks_of log present ws t n block v w j s head h fresh begins = record {
  slot = s.slot;
  table = s.table;
  goes_on = s.goes_on;
  flash = record {
    accounts_are = s.flash.accounts_are;
    pages_are = s.flash.pages_are;
    places_are = s.flash.places_are;
    blocks_are =
        s.flash.blocks_are;
  };
  head = head;
  job = j;
  at = h.at;
  unwaivable = no_more v.accounts v.accounts.plan (j.collects && (work j.number log == 0)) (nat_le v.accounts.plan.alpha v.accounts.spare)
      (not_spare v.accounts.plan.alpha v.accounts.spare begins.short);
  runs = λ collects. (
    taken,
    record {
      runs = own_running v.running j.task (Some taken) (omega (arith, h.limits.task, s.running.len));
      victim = ap (λ (b : Bool). cond b (victim (over v.accounts.plan start) log) (victim_of (over v.accounts.plan start) j.number log)) parts.1
          ∙ victim_is (over v.accounts.plan start) log (blocks_of v.device) v.places v.running block h.both.0.collects.sound s.flash.blocks_are
          s.flash.places_are s.running begins.victim;
      holds = ap (λ (own : List Act). buffer_after (last_or None own))
          (sym (nil_by (acts j.number log) (eqb-true (work j.number log) 0 parts.1)));
    },
  );
  others = others_begun (over v.accounts.plan start) log j (flash_of blocks_of v)
      (record (flash_of blocks_of v) { running = slice_set v.running j.task (Some taken) }) (Some taken) parts.0 refl
      (others_run (over v.accounts.plan start) log j (flash_of blocks_of v) h.both.1.true_accounts h.both.0.numbered h.own_at h.pending_if s.running);
}
  where
    taken : Collection
    taken = record { victim = block; buffer = None }

    parts : (j.collects ≡ true) × ((work j.number log == 0) ≡ true)
    parts = and_parts j.collects (work j.number log == 0) fresh

-- who is not waived is the head
pub turn_begins : (start : Start) {N : Type 0} (blocks_of : N → List device.Block) (log : Log) (present : ℕ) (ws : List Waived) (t : Table) (n : ℕ)
    (v w : State N) (r : JobRecord) → InSlot (over v.accounts.plan start) log present ws t (flash_of blocks_of v) → table.IsHead t n
    → slice_get t.jobs n ≡ Some r → BeginsAs blocks_of v r None w → IsHeadInSlot (over v.accounts.plan start) log present ws t (flash_of blocks_of w) n
turn_begins start {N = N} blocks_of log present ws t n v w r s head at h = by_fresh (is_fresh r) refl h
  where
    j : Job
    j = (head_job (over v.accounts.plan start) log present ws t n s.slot s.table head).0

    job : IsHeadJob (over v.accounts.plan start) log ws t n (head_job (over v.accounts.plan start) log present ws t n s.slot s.table head).0
    job = (head_job (over v.accounts.plan start) log present ws t n s.slot s.table head).1

    task_is : r.task ≡ (head_job (over v.accounts.plan start) log present ws t n s.slot s.table head).0.task
    task_is = sym (ap (λ (x : JobRecord). x.task) (head_record (over v.accounts.plan start) log ws t n j r job at))

    by_fresh : (b : Bool) → is_fresh r ≡ b → BeginsBy blocks_of v r.task b None w
        → IsHeadInSlot (over v.accounts.plan start) log present ws t (flash_of blocks_of w) n
    by_fresh true e k =
        let begins : Begins blocks_of v j.task k.0 w = subst (λ (task : ℕ). Begins blocks_of v task k.0 w) task_is k.1 in
        subst (λ (x : State N). IsHeadInSlot (over v.accounts.plan start) log present ws t (flash_of blocks_of x) n) (sym begins.moved)
        (turn_fresh start blocks_of log present ws t n k.0 v w j s head job (sym (fresh_is (over v.accounts.plan start) log ws t n j r job at) ∙ e) begins)
    by_fresh false e k =
        subst (λ (x : State N). IsHeadInSlot (over v.accounts.plan start) log present ws t (flash_of blocks_of x) n) (sym k.1)
        (turn_unfresh start blocks_of log present ws t n v j s head job (sym (fresh_is (over v.accounts.plan start) log ws t n j r job at) ∙ e))

-- The table is asked for its head

-- asked again in one slot, the table stays
pub head_asked : (start : Start) (log : Log) (present : ℕ) (ws : List Waived) (t u : Table) (f : FlashState)
    → InSlot start log present ws t f → u ≡ record t { clock = present } → u ≡ t
head_asked start log present ws t u f s is = is ∙ ap (λ (c : ℕ). record t { clock = c }) (s.slot.now_is ∙ sym s.table.clock_is)

-- One look at the head, with a call's values as they come

abbrev Within : (start : Start) {N : Type 0} → (N → List device.Block) → Log → ℕ → List Waived → Table → State N → Type 0
Within start blocks_of log present ws t v = InSlot (over v.accounts.plan start) log present ws t (flash_of blocks_of v)

asked : (start : Start) {N : Type 0} (blocks_of : N → List device.Block) (log : Log) (present : ℕ) (ws : List Waived) (t u : Table) (v : State N)
    → Within start blocks_of log present ws t v → u ≡ record t { clock = present } → Within start blocks_of log present ws u v
asked start blocks_of log present ws t u v s is = subst (λ (x : Table). Within start blocks_of log present ws x v)
    (sym (head_asked (over v.accounts.plan start) log present ws t u (flash_of blocks_of v) s is)) s

pub looks_idle : (start : Start) {N : Type 0} (blocks_of : N → List device.Block) (log : Log) (present : ℕ) (ws : List Waived) (t u : Table) (v : State N)
    → Within start blocks_of log present ws t v → u ≡ record t { clock = present } → Within start blocks_of log present ws u v
looks_idle start blocks_of log present ws t u v s is = asked start blocks_of log present ws t u v s is

pub looks_fit : (start : Start) {N : Type 0} (blocks_of : N → List device.Block) (log : Log) (present : ℕ) (ws : List Waived) (t u : Table) (n : ℕ)
    (v : State N) (r : JobRecord) → Within start blocks_of log present ws t v → u ≡ record t { clock = present } → table.IsHead u n
    → slice_get u.jobs n ≡ Some r → (r.task < length v.accounts.plan.caps) × (is_fresh r ≡ true → running_of v.running r.task ≡ None)
looks_fit start blocks_of log present ws t u n v r s is head at = begin_fits start blocks_of log present ws u n v r
    (asked start blocks_of log present ws t u v s is) head at

pub looks_turn : (start : Start) {N : Type 0} (blocks_of : N → List device.Block) (log : Log) (present : ℕ) (ws : List Waived) (t u : Table) (n : ℕ)
    (v w : State N) (r : JobRecord) → Within start blocks_of log present ws t v → u ≡ record t { clock = present } → table.IsHead u n
    → slice_get u.jobs n ≡ Some r → BeginsAs blocks_of v r None w → IsHeadInSlot (over w.accounts.plan start) log present ws u (flash_of blocks_of w) n
looks_turn start blocks_of log present ws t u n v w r s is head at h =
    subst (λ (p : DiePlan). IsHeadInSlot (over p start) log present ws u (flash_of blocks_of w) n) (sym (begin_leaves blocks_of v w r None h).plan)
    (turn_begins start blocks_of log present ws u n v w r (asked start blocks_of log present ws t u v s is) head at h)

pub looks_waived : (start : Start) {N : Type 0} (blocks_of : N → List device.Block) (log : Log) (present : ℕ) (ws after : List Waived) (t u x : Table)
    (n given : ℕ) (v w : State N) (r : JobRecord) → Within start blocks_of log present ws t v → u ≡ record t { clock = present }
    → table.IsHead u n → slice_get u.jobs n ≡ Some r → BeginsAs blocks_of v r (Some given) w → x ≡ with_change u n (with_stage (Gone given))
    → after ≡ ws ++ record { number = n; given = given } ∷ [] → Within start blocks_of log present after (record x { clock = present }) w
looks_waived start blocks_of log present ws after t u x n given v w r s is head at h changed more =
    let same : record u { clock = present } ≡ u = ap (λ (y : Table). record y { clock = present }) is ∙ sym is in
    rw changed (rw more (subst (λ (p : DiePlan). InSlot (over p start) log present (ws ++ record { number = n; given = given } ∷ [])
    (with_change (record u { clock = present }) n (with_stage (Gone given))) (flash_of blocks_of w))
    (sym (begin_leaves blocks_of v w r (Some given) h).plan)
    (subst (λ (y : Table). InSlot (over v.accounts.plan start) log present (ws ++ record { number = n; given = given } ∷ [])
    (with_change y n (with_stage (Gone given))) (flash_of blocks_of w)) (sym same)
    (waives_head start blocks_of log present ws u n given v w r (asked start blocks_of log present ws t u v s is) head at h))))

pub looks_few : (start : Start) {N : Type 0} (blocks_of : N → List device.Block) (log : Log) (present : ℕ) (ws : List Waived) (t u : Table) (n given : ℕ)
    (v w : State N) (r : JobRecord) → Within start blocks_of log present ws t v → u ≡ record t { clock = present }
    → table.IsHead u n → slice_get u.jobs n ≡ Some r → BeginsAs blocks_of v r (Some given) w → length ws < 16
looks_few start blocks_of log present ws t u n given v w r s is head at h =
    let within = asked start blocks_of log present ws t u v s is in
    omega (
      arith,
      waiver_room start blocks_of log present ws u n given v w r within head at h,
      within.table.tasks_are,
      within.slot.bound.bound.limits.few_tasks,
    )

-- a waiver leaves one collection less that is neither done nor waived
pub looks_closed : {N : Type 0} (blocks_of : N → List device.Block) (present : ℕ) (t u x : Table) (n given : ℕ) (v w : State N)
    (r : JobRecord) → u ≡ record t { clock = present } → table.IsHead u n → slice_get u.jobs n ≡ Some r
    → BeginsAs blocks_of v r (Some given) w → x ≡ with_change u n (with_stage (Gone given)) → open_collections x.jobs + 1
    ≡ open_collections t.jobs
looks_closed blocks_of present t u x n given v w r is head at h changed =
    let same : head.head ≡ r = same_Some head.head r (sym head.is_at ∙ at) in
    let waits : is_pending r.stage ≡ true = ap (λ (y : JobRecord). is_pending y.stage) (sym same)
    ∙ (and_parts (nat_le head.head.release u.clock) (is_pending head.head.stage) head.ready).1 in
    let collects : r.collects ≡ true = (and_parts r.collects (r.work == 0) (head_waiver blocks_of v w r given h).fresh).0 in
    ap (λ (y : Table). open_collections y.jobs + 1) changed
    ∙ (waiver_closes u.jobs n given r at (and_from r.collects (is_pending r.stage) collects waits)
    ∙ ap (λ (y : Table). open_collections y.jobs) is)
