-- How great the numbers of an exact log's rows are.
use Rattle.std.proofs.Common.{◌≡◌, ℕ, ◌<◌, ◌≤◌, ◌==◌, Bool, true, false, cond, List, [], ◌∷◌, ◌++◌, Option, Some, None, refl, ◌∙◌, subst}
use Rattle.std.proofs.Common.{length, arith}
use Rattle.std.specs.Prelude.{Contains, count_by}
use Rattle.std.specs.List.{AllByRecursion}
use Rattle.std.proofs.lemmas.Bool.{eqb-true}
use Rattle.std.proofs.lemmas.List.{length_push}
use Rattle.slot_types.specs.declared.limits.TheConstants.{MAX_OPS}
use Rattle.slot_types.specs.declared.plans.DiePlan.{DiePlan}
use Rattle.slot_types.specs.declared.acts.Act.{Act}
use Rattle.slot_types.specs.declared.replies.Reply.{Reply}
use Rattle.slot_types.specs.declared.replies.Reply.TheVariants as replies
use Rattle.slot_types.specs.declared.replies.SlotReply.{SlotReply}
use Rattle.slot_types.specs.declared.replies.Waived.{Waived}
use Rattle.plan_rules.specs.Accounts.{Accounts, given_of}
use Rattle.plan_rules.specs.Accounts as moves
use Rattle.plan_rules.specs.Bound.{MeetsBound}
use Rattle.die_log.specs.Model.Log.{Log, Job, jobs, job_at, now, carried_slots, with_slot, with_waived, act_of, acts, waived_collections, work}
use Rattle.die_log.specs.Model.Flash.{ran_by}
use Rattle.die_log.specs.Model.Work.{are_all, is_done, is_erase, completion, ended_by}
use Rattle.die_log.specs.Model.Accounts.{accounts, after_waivers}
use Rattle.die_log.specs.Model.Answers.{IsExact}
use Rattle.die_log.specs.Results.Legal.{IsLegal, IsLegalReply, AreWaivers}
use Rattle.die_log.specs.Results.Limits.{IsWithinLimits}
use Rattle.die_log.proofs.AccountsPlan.{accounts_plan, waivers_plan}
use Rattle.die_log.proofs.Choices.{OfSome}
use Rattle.die_log.proofs.Known.{all_append}
use Rattle.die_log.proofs.Legal.Exact.{has_slots}
use Rattle.die_log.proofs.Limits.{few_found, keeps_limits}
use Rattle.slot_core.specs.Records.{bytes_read, gift_by, gift_of, pages_given, given_by, reads_of, waiver_among}
use Rattle.die_log.specs.Model.Start.{fresh}

-- Completions

before_end : (past : Log) (reply : Reply) (act : Option Act) (earlier n : ℕ) → act_of n (ran_by reply) ≡ act → earlier ≤ now past
    → ended_by act earlier (now past) ≤ length (with_slot reply (carried_slots past))
before_end past (replies.Slot s) None earlier n e h = omega (arith, h, length_push (carried_slots past) s.ran)
before_end past (replies.Slot s) (Some act) earlier n e h = omega (arith, length_push (carried_slots past) s.ran)
before_end past (replies.Taken number) None earlier n e h = h
before_end past (replies.Taken number) (Some act) earlier n e h = absurd cc
before_end past (replies.Refused refusal) None earlier n e h = h
before_end past (replies.Refused refusal) (Some act) earlier n e h = absurd cc

pub completed_by_now : (n : ℕ) (log : Log) → completion n log ≤ now log
completed_by_now n [] = omega arith
completed_by_now n (e ∷ past) = before_end past e.reply (act_of n (ran_by e.reply)) (completion n past) n refl (completed_by_now n past)

-- What is done

-- whatever is done took a slot
pub done_worked : (plan : DiePlan) (log : Log) (j : Job) → MeetsBound plan → IsExact (fresh plan) log → Contains (jobs log) j → is_done plan log j
    ≡ true → 0 < work j.number log
done_worked plan log j bound exact stands = by_acts (acts j.number log)
  where
    within : IsWithinLimits plan j
    within = (keeps_limits (fresh plan) log exact).each j stands

    none_done : (b : Bool) → j.collects ≡ b → cond b (0 == plan.shape.erase_slots) (0 == length j.ops) ≡ true → ⊥
    none_done true kind e = omega (arith, eqb-true 0 plan.shape.erase_slots e, has_slots plan bound)
    none_done false kind e = omega (arith, eqb-true 0 (length j.ops) e, within.some kind)

    by_acts : (own : List Act) → are_all plan j own ≡ true → 0 < length own
    by_acts [] e = absurd (none_done j.collects refl e)
    by_acts (act ∷ own) e = omega arith

job_reads : (plan : DiePlan) (j : Job) (own : List Act) → j.collects ≡ false → are_all plan j own ≡ true → length own ≡ length j.ops
job_reads plan j own kind e = eqb-true (length own) (length j.ops)
    (subst (λ (b : Bool). cond b (count_by is_erase own == plan.shape.erase_slots) (length own == length j.ops) ≡ true) kind e)

-- a done job gave no more pages than a job has operations
pub few_reads : (plan : DiePlan) (log : Log) (j : Job) → IsExact (fresh plan) log → Contains (jobs log) j → j.collects ≡ false → is_done plan log j
    ≡ true → length (reads_of (acts j.number log)) ≤ MAX_OPS
few_reads plan log j exact stands kind done =
    omega (
      arith,
      few_found bytes_read (acts j.number log),
      job_reads plan j (acts j.number log) kind done,
      ((keeps_limits (fresh plan) log exact).each j stands).few,
    )

-- What collections give

few_given : (a : Accounts) (task : ℕ) → given_of a task ≤ a.plan.alpha
few_given a task = omega arith

given_plan : (plan : DiePlan) (a : Accounts) (task : ℕ) → a.plan ≡ plan → given_of a task ≤ plan.alpha
given_plan plan a task e = subst (λ (p : DiePlan). given_of a task ≤ p.alpha) e (few_given a task)

gift_few : (plan : DiePlan) (past : Log) (s : SlotReply) (o : Option Job) → gift_of (fresh plan) past s o ≤ plan.alpha
gift_few plan past s None = omega arith
gift_few plan past s (Some j) = by_kind j.collects
  where
    settled : Accounts
    settled = after_waivers past s.waived (accounts (fresh plan) past)

    by_kind : (b : Bool) → cond b (given_of settled j.task) 0 ≤ plan.alpha
    by_kind true = given_plan plan settled j.task (waivers_plan past s.waived (accounts (fresh plan) past) ∙ accounts_plan (fresh plan) past)
    by_kind false = omega arith

gift_by_few : (plan : DiePlan) (past : Log) (s : SlotReply) (number : ℕ) (o : Option ℕ) (earlier : ℕ) → earlier ≤ plan.alpha
    → gift_by (fresh plan) past s number o earlier ≤ plan.alpha
gift_by_few plan past s number None earlier h = h
gift_by_few plan past s number (Some n) earlier h = by_number (n == number)
  where
    by_number : (b : Bool) → cond b (gift_of (fresh plan) past s (job_at past number)) earlier ≤ plan.alpha
    by_number true = gift_few plan past s (job_at past number)
    by_number false = h

given_by_few : (plan : DiePlan) (past : Log) (reply : Reply) (number earlier : ℕ) → earlier ≤ plan.alpha
    → given_by (fresh plan) past reply number earlier ≤ plan.alpha
given_by_few plan past (replies.Slot s) number earlier h = gift_by_few plan past s number s.finished earlier h
given_by_few plan past (replies.Taken n) number earlier h = h
given_by_few plan past (replies.Refused refusal) number earlier h = h

pub done_gives_few : (plan : DiePlan) (number : ℕ) (log : Log) → pages_given (fresh plan) number log ≤ plan.alpha
done_gives_few plan number [] = omega arith
done_gives_few plan number (e ∷ past) = given_by_few plan past e.reply number (pages_given (fresh plan) number past) (done_gives_few plan number past)

-- What waived collections give

abbrev GivesFew : DiePlan → Waived → Type 0
GivesFew plan w = w.given ≤ plan.alpha

waivers_few : (plan : DiePlan) (past : Log) (earlier : List Waived) (a : Accounts) (ws : List Waived) → a.plan ≡ plan
    → AreWaivers plan past earlier a ws → AllByRecursion (GivesFew plan) ws
waivers_few plan past earlier a [] e h = tt
waivers_few plan past earlier a (w ∷ ws) e h =
    (omega (arith, h.1.gives, given_plan plan a h.0.task e), waivers_few plan past (earlier ++ w ∷ []) (moves.accounts_after_waiver a h.0.task) ws e h.2)

reply_few : (plan : DiePlan) (past : Log) (reply : Reply) → IsLegalReply (fresh plan) past reply → AllByRecursion (GivesFew plan) (waived_collections past)
    → AllByRecursion (GivesFew plan) (with_waived reply (waived_collections past))
reply_few plan past (replies.Slot s) h k = all_append (GivesFew plan) (waived_collections past) s.waived k
    (waivers_few plan past (waived_collections past) (accounts (fresh plan) past) s.waived (accounts_plan (fresh plan) past) h.0)
reply_few plan past (replies.Taken n) h k = k
reply_few plan past (replies.Refused refusal) h k = k

all_few : (plan : DiePlan) (log : Log) → IsLegal (fresh plan) log → AllByRecursion (GivesFew plan) (waived_collections log)
all_few plan [] h = tt
all_few plan (e ∷ past) h = reply_few plan past e.reply h.1.slot (all_few plan past h.0)

among_few : (plan : DiePlan) (number : ℕ) (ws : List Waived) → AllByRecursion (GivesFew plan) ws
    → OfSome (GivesFew plan) (waiver_among number ws)
among_few plan number [] h = tt
among_few plan number (w ∷ ws) h = by_number (w.number == number) (among_few plan number ws h.1)
  where
    by_number : (b : Bool) → OfSome (GivesFew plan) (waiver_among number ws)
        → OfSome (GivesFew plan) (cond b (Some w) (waiver_among number ws))
    by_number true later = h.0
    by_number false later = later

pub waived_gives_few : (plan : DiePlan) (log : Log) (number : ℕ) → IsLegal (fresh plan) log
    → OfSome (λ (w : Waived). w.given ≤ plan.alpha) (waiver_among number (waived_collections log))
waived_gives_few plan log number legal = among_few plan number (waived_collections log) (all_few plan log legal)
