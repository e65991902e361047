-- An exact log keeps to the limits of its die.
use Rattle.std.proofs.Common.{◌≡◌, ℕ, ◌+◌, ◌<◌, ◌≤◌, ◌==◌, nat_le, Bool, true, false, cond, List, [], ◌∷◌, ◌++◌, length, Option}
use Rattle.std.proofs.Common.{Some, None, option_map, is_some, find, get_or, set, refl, ap, inl, inr, arith}
use Rattle.std.specs.List.{AllByRecursion, cons_option, filter_map}
use Rattle.std.proofs.lemmas.Bool.{cases_eq, cases_lt, leb-false, ltb-false}
use Rattle.std.proofs.lemmas.List.{length_push, get_or-set_same, get_or-set_other, set_past}
use Rattle.std.proofs.lemmas.List.Elements.{All-contains, All-from_recursion}
use Rattle.slot_types.specs.declared.plans.DiePlan.{DiePlan}
use Rattle.slot_types.specs.declared.limits.TheConstants.{MAX_SLOT, MAX_JOBS, MAX_OPS}
use Rattle.slot_types.specs.declared.acts.Act.TheVariants as does
use Rattle.slot_types.specs.declared.events.Op.{Op}
use Rattle.slot_types.specs.declared.events.Event.{Event}
use Rattle.slot_types.specs.declared.events.Event.TheVariants as events
use Rattle.slot_types.specs.declared.replies.Reply.{Reply}
use Rattle.slot_types.specs.declared.replies.Reply.TheVariants as replies
use Rattle.die_log.specs.Model.Log.{Log, Job, Carried, jobs, now, carried_slots, with_slot, act_of, work}
use Rattle.die_log.specs.Model.Flash.{Block, Cells, cells, cells_after, block_at, free_block, open_block, cells_after_program_in, block_after_erase_slot, ran_by}
use Rattle.slot_types.specs.Operations.{page_of}
use Rattle.die_log.specs.Model.Answers.{IsExact, reply_if_accepted, refusals, bad_page, choice, slot_reply}
use Rattle.die_log.specs.Results.Limits.{IsWithinLimits, KeepsLimits}
use Rattle.die_log.proofs.Legality.{entry, in_time, exact_induction}
use Rattle.die_log.proofs.Known.{all_append}
use Rattle.die_log.specs.Model.Start.{Start}

-- Work

pub few_found : {X Y : Type 0} (f : X → Option Y) (xs : List X) → length (filter_map f xs) ≤ length xs
few_found f [] = omega arith
few_found {Y = Y} f (x ∷ xs) = by_head (f x) (few_found f xs)
  where
    by_head : (o : Option Y) → length (filter_map f xs) ≤ length xs → length (cons_option o (filter_map f xs)) ≤ length (x ∷ xs)
    by_head None h = omega (arith, h)
    by_head (Some y) h = omega (arith, h)

-- what took slots took no more than there were
pub few_work : (n : ℕ) (log : Log) → work n log ≤ now log
few_work n log = few_found (λ c. act_of n c) (carried_slots log)

-- Jobs

no_bad_page : (plan : DiePlan) (ops : List Op) → is_some (bad_page plan ops) ≡ false → AllByRecursion (λ op. page_of op < plan.logical) ops
no_bad_page plan [] e = tt
no_bad_page plan (op ∷ ops) e = by_test (nat_le plan.logical (page_of op)) refl e (no_bad_page plan ops)
  where
    by_test : (b : Bool) → nat_le plan.logical (page_of op) ≡ b
        → is_some (option_map page_of (cond b (Some op) (find (λ o. nat_le plan.logical (page_of o)) ops))) ≡ false
        → (is_some (bad_page plan ops) ≡ false → AllByRecursion (λ o. page_of o < plan.logical) ops)
        → AllByRecursion (λ o. page_of o < plan.logical) (op ∷ ops)
    by_test true is none rest = absurd cc
    by_test false is none rest = (leb-false plan.logical (page_of op) is, rest none)

some_operation : (ops : List Op) → (length ops == 0) ≡ false → 0 < length ops
some_operation [] e = absurd cc
some_operation (op ∷ ops) e = omega arith

abbrev AreWithin : DiePlan → Log → Type 0
AreWithin plan log = AllByRecursion (IsWithinLimits plan) (jobs log)

all_within : (start : Start) (log : Log) → IsExact start log → AreWithin start.plan log
all_within start = exact_induction start (AreWithin start.plan) tt step
  where
    step : (past : Log) (caller : ℕ) (event : Event) → IsExact start past → AreWithin start.plan past
        → AllByRecursion (λ c. c.0 ≡ false) (refusals start past event)
        → AreWithin start.plan (entry caller event (reply_if_accepted start past event) ∷ past)
    step past caller (events.Submit task release due ops) exact h none =
        let time = in_time start past (events.Submit task release due ops) none in
        let pages = All-from_recursion (λ op. page_of op < start.plan.logical) ops (no_bad_page start.plan ops none.1.1.1.0) in
        all_append (IsWithinLimits start.plan) (jobs past) (_ ∷ []) h (
          record {
            task = leb-false (length start.plan.caps) task none.0;
            time = time.1;
            due = time.2;
            few = ltb-false MAX_OPS (length ops) none.1.1.0;
            some = λ kind. some_operation ops none.1.0;
            pages = λ op k. All-contains (λ o. page_of o < start.plan.logical) ops op pages k;
          },
          tt,
        )
    step past caller (events.Collect task release due) exact h none =
        let time = in_time start past (events.Collect task release due) none in
        all_append (IsWithinLimits start.plan) (jobs past) (_ ∷ []) h (
          record {
            task = leb-false (length start.plan.caps) task none.0;
            time = time.1;
            due = time.2;
            few = omega arith;
            some = λ kind. absurd cc;
            pages = λ op k. absurd (omega (arith, k.1));
          },
          tt,
        )
    step past caller events.Slot exact h none = h

-- Counts

few_slots : (start : Start) (log : Log) → IsExact start log → now log ≤ MAX_SLOT
few_slots start = exact_induction start (λ log. now log ≤ MAX_SLOT) (omega arith) step
  where
    step : (past : Log) (caller : ℕ) (event : Event) → IsExact start past → now past ≤ MAX_SLOT
        → AllByRecursion (λ c. c.0 ≡ false) (refusals start past event) → now (entry caller event (reply_if_accepted start past event) ∷ past)
        ≤ MAX_SLOT
    step past caller (events.Submit task release due ops) exact h none = h
    step past caller (events.Collect task release due) exact h none = h
    step past caller events.Slot exact h none =
        omega (
          arith,
          length_push (carried_slots past) (slot_reply start past (choice start past).waived (choice start past).head).ran,
          leb-false
              MAX_SLOT (now past) none.0,
        )

one_more : (js : List Job) (j : Job) → nat_le MAX_JOBS (length js) ≡ false → length (js ++ j ∷ []) ≤ MAX_JOBS
one_more js j h = omega (arith, length_push js j, leb-false MAX_JOBS (length js) h)

few_jobs : (start : Start) (log : Log) → IsExact start log → length (jobs log) ≤ MAX_JOBS
few_jobs start = exact_induction start (λ log. length (jobs log) ≤ MAX_JOBS) (omega arith) step
  where
    step : (past : Log) (caller : ℕ) (event : Event) → IsExact start past → length (jobs past) ≤ MAX_JOBS
        → AllByRecursion (λ c. c.0 ≡ false) (refusals start past event)
        → length (jobs (entry caller event (reply_if_accepted start past event) ∷ past)) ≤ MAX_JOBS
    step past caller (events.Submit task release due ops) exact h none = one_more (jobs past) _ none.1.1.1.1.1.1.0
    step past caller (events.Collect task release due) exact h none = one_more (jobs past) _ none.1.1.1.1.0
    step past caller events.Slot exact h none = h

-- Erases: at most one a slot, of any log

set_erases : (blocks : List Block) (b a : ℕ) (s : Block) → s.erases ≤ (get_or blocks b free_block).erases + 1
    → (get_or (set blocks b s) a free_block).erases ≤ (get_or blocks a free_block).erases + 1
set_erases blocks b a s le = elim (cases_lt b (length blocks)) [
  | inl lt ↦ elim (cases_eq a b) [
    | inl e ↦ rw e (omega (arith, le, ap (λ (x : Block). x.erases) (get_or-set_same blocks b s free_block lt)))
    | inr apart ↦ omega (arith, ap (λ (x : Block). x.erases) (get_or-set_other blocks b a s free_block apart))
  ]
  | inr past ↦ omega (arith, ap (λ (bs : List Block). (get_or bs a free_block).erases) (set_past blocks b s past))
]

program_erases : (plan : DiePlan) (page : ℕ) (c : Cells) (o : Option ℕ) (a : ℕ) → (block_at (cells_after_program_in page o c) a).erases
    ≤ (block_at c a).erases + 1
program_erases plan page c None a = omega arith
program_erases plan page c (Some b) a = set_erases c.blocks b a (record (block_at c b) { filled = (block_at c b).filled + 1 }) (omega arith)

once_erases : (s : Block) (b : Bool) → (cond b (record { filled = 0; erasing = 0; erases = s.erases + 1 })
    (record s { erasing = s.erasing + 1 })).erases ≤ s.erases + 1
once_erases s true = omega arith
once_erases s false = omega arith

step_erases : (plan : DiePlan) (ran : Carried) (c : Cells) (a : ℕ) → (block_at (cells_after plan ran c) a).erases
    ≤ (block_at c a).erases + 1
step_erases plan None c a = omega arith
step_erases plan (Some (n, does.Read page bytes)) c a = omega arith
step_erases plan (Some (n, does.Write page bytes)) c a = program_erases plan page c (open_block plan c) a
step_erases plan (Some (n, does.Trim page)) c a = omega arith
step_erases plan (Some (n, does.CopyRead page)) c a = omega arith
step_erases plan (Some (n, does.CopyProgram page)) c a = program_erases plan page c (open_block plan c) a
step_erases plan (Some (n, does.Erase b)) c a = set_erases c.blocks b a (block_after_erase_slot plan (block_at c b))
    (once_erases (block_at c b) ((block_at c b).erasing + 1 == plan.shape.erase_slots))

entry_erases : (start : Start) (past : Log) (r : Reply) (a : ℕ) → (block_at (cells start past) a).erases ≤ (block_at start.cells a).erases + now past
    → (block_at (cells_after start.plan (ran_by r) (cells start past)) a).erases ≤ (block_at start.cells a).erases + length (with_slot r (carried_slots past))
entry_erases start past (replies.Taken number) a h = h
entry_erases start past (replies.Refused refusal) a h = h
entry_erases start past (replies.Slot s) a h = omega (arith, h, step_erases start.plan s.ran (cells start past) a, length_push (carried_slots past) s.ran)

few_erases : (start : Start) (log : Log) (a : ℕ) → (block_at (cells start log) a).erases ≤ (block_at start.cells a).erases + now log
few_erases start [] a = omega arith
few_erases start (e ∷ past) a = entry_erases start past e.reply a (few_erases start past a)

pub keeps_limits : (start : Start) (log : Log) → IsExact start log → KeepsLimits start log
keeps_limits start log exact = record {
  slots = few_slots start log exact;
  few_jobs = few_jobs start log exact;
  each = λ j h. All-contains (IsWithinLimits start.plan) (jobs log) j
      (All-from_recursion (IsWithinLimits start.plan) (jobs log) (all_within start log exact)) h;
  erases = few_erases start log;
}
