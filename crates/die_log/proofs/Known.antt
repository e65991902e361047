-- Carried and waived numbers are of jobs that stand.
use Rattle.std.proofs.Common.{◌≡◌, ℕ, ◌+◌, ◌<◌, ◌≤◌, false, List, [], ◌∷◌, ◌++◌, Option, Some, None, refl, arith, length, length-append}
use Rattle.std.specs.List.{AllByRecursion}
use Rattle.slot_types.specs.declared.plans.DiePlan.{DiePlan}
use Rattle.slot_types.specs.declared.acts.Act.{Act}
use Rattle.slot_types.specs.declared.replies.Waived.{Waived}
use Rattle.slot_types.specs.declared.events.Event.{Event}
use Rattle.slot_types.specs.declared.events.Event.TheVariants as events
use Rattle.die_log.specs.Model.Log.{Log, Job, Carried, jobs, carried_slots, waived_collections}
use Rattle.die_log.specs.Model.Work.{is_ready, ready}
use Rattle.die_log.specs.Model.Accounts.{accounts}
use Rattle.die_log.specs.Model.Answers.{IsExact, choice, act_for, reply_with, slot_reply, reply_if_accepted, refusals}
use Rattle.die_log.proofs.Choices.{all_kept, names_waiting, Names, OfSome, OfWaived}
use Rattle.die_log.proofs.Legality.{exact_induction, entry}
use Rattle.die_log.specs.Model.Start.{Start}

pub all_append : {X : Type 0} (P : X → Type 0) (xs ys : List X) → AllByRecursion P xs → AllByRecursion P ys → AllByRecursion P (xs ++ ys)
all_append P [] ys h k = k
all_append P (x ∷ xs) ys h k = (h.0, all_append P xs ys h.1 k)

pub all_map : {X : Type 0} (P Q : X → Type 0) → ((x : X) → P x → Q x) → (xs : List X) → AllByRecursion P xs → AllByRecursion Q xs
all_map P Q f [] h = tt
all_map P Q f (x ∷ xs) h = (f x h.0, all_map P Q f xs h.1)

abbrev pub IsBelow : ℕ → Job → Type 0
IsBelow n j = j.number < n

abbrev pub WaivedBelow : ℕ → Waived → Type 0
WaivedBelow n w = w.number < n

abbrev pub CarriedBelow : ℕ → Carried → Type 0
CarriedBelow n None = Unit {0}
CarriedBelow n (Some (number, act)) = number < n

-- every number is of a job that stands
pub record AreKnown (log : Log) : Type 0 where
  pub of_jobs : AllByRecursion (IsBelow (length (jobs log))) (jobs log)
  pub of_waived : AllByRecursion (WaivedBelow (length (jobs log))) (waived_collections log)
  pub of_carried : AllByRecursion (CarriedBelow (length (jobs log))) (carried_slots log)

job_more : (n m : ℕ) → n ≤ m → (xs : List Job) → AllByRecursion (IsBelow n) xs → AllByRecursion (IsBelow m) xs
job_more n m le xs h = all_map (IsBelow n) (IsBelow m) (λ j p. omega arith) xs h

waived_more : (n m : ℕ) → n ≤ m → (xs : List Waived) → AllByRecursion (WaivedBelow n) xs → AllByRecursion (WaivedBelow m) xs
waived_more n m le xs h = all_map (WaivedBelow n) (WaivedBelow m) (λ j p. omega arith) xs h

carried_one : (n m : ℕ) → n ≤ m → (c : Carried) → CarriedBelow n c → CarriedBelow m c
carried_one n m le None p = tt
carried_one n m le (Some (number, act)) p = omega arith

carried_more : (n m : ℕ) → n ≤ m → (xs : List Carried) → AllByRecursion (CarriedBelow n) xs → AllByRecursion (CarriedBelow m) xs
carried_more n m le xs h = all_map (CarriedBelow n) (CarriedBelow m) (carried_one n m le) xs h

-- one more job, of the next number
taken_known : (past : Log) (j : Job) → j.number ≡ length (jobs past) → AreKnown past
    → AllByRecursion (IsBelow (length (jobs past ++ j ∷ []))) (jobs past ++ j ∷ [])
    × AllByRecursion (WaivedBelow (length (jobs past ++ j ∷ []))) (waived_collections past)
    × AllByRecursion (CarriedBelow (length (jobs past ++ j ∷ []))) (carried_slots past)
taken_known past j is k =
    let n = length (jobs past) in
    let more : length (jobs past ++ j ∷ []) ≡ n + 1 = length-append (jobs past) (j ∷ []) in
    let le : n ≤ length (jobs past ++ j ∷ []) = omega arith in (
      all_append _ (jobs past) (j ∷ []) (job_more n _ le (jobs past) k.of_jobs) (omega arith, tt),
      waived_more n _ le (waived_collections past) k.of_waived,
      carried_more n _ le (carried_slots past) k.of_carried,
    )

waiver_known : (n : ℕ) (w : Waived) → OfWaived (IsBelow n) w → WaivedBelow n w
waiver_known n w (j, p, e) = omega arith

ran_act : (plan : DiePlan) (past : Log) (ws : List Waived) (j : Job) (o : Option Act) (n : ℕ) → j.number < n
    → CarriedBelow n (reply_with plan past ws j o).ran
ran_act plan past ws j None n p = tt
ran_act plan past ws j (Some act) n p = p

ran_known : (start : Start) (past : Log) (ws : List Waived) (o : Option Job) (n : ℕ) → OfSome (IsBelow n) o
    → CarriedBelow n (slot_reply start past ws o).ran
ran_known start past ws None n p = tt
ran_known start past ws (Some j) n p = ran_act start.plan past ws j (act_for start past j) n p

waived_act : (plan : DiePlan) (past : Log) (ws : List Waived) (j : Job) (o : Option Act) → (reply_with plan past ws j o).waived ≡ ws
waived_act plan past ws j None = refl
waived_act plan past ws j (Some act) = refl

-- what a slot waives is what was chosen
pub waived_is : (start : Start) (past : Log) (ws : List Waived) (o : Option Job) → (slot_reply start past ws o).waived ≡ ws
waived_is start past ws None = refl
waived_is start past ws (Some j) = waived_act start.plan past ws j (act_for start past j)

pub known : (start : Start) (log : Log) → IsExact start log → AreKnown log
known start = exact_induction start AreKnown (record { of_jobs = tt; of_waived = tt; of_carried = tt }) step
  where
    step : (past : Log) (caller : ℕ) (event : Event) → IsExact start past → AreKnown past
        → AllByRecursion (λ c. c.0 ≡ false) (refusals start past event) → AreKnown (entry caller event (reply_if_accepted start past event) ∷ past)
    step past caller (events.Submit task release due ops) x k h = let t = taken_known past _ refl k in record
        { of_jobs = t.0; of_waived = t.1; of_carried = t.2 }
    step past caller (events.Collect task release due) x k h = let t = taken_known past _ refl k in record
        { of_jobs = t.0; of_waived = t.1; of_carried = t.2 }
    step past caller events.Slot x k h =
        let n = length (jobs past) in
        let c = choice start past in
        let names : Names (IsBelow n) c = names_waiting (IsBelow n) start.plan past (length (ready start.plan past)) (accounts start past)
        (ready start.plan past) (all_kept (IsBelow n) (is_ready start.plan past) (jobs past) k.of_jobs) in
        record {
          of_jobs = k.of_jobs;
          of_waived = all_append (WaivedBelow n) (waived_collections past) (slot_reply start past c.waived c.head).waived k.of_waived
              (rw (waived_is start past c.waived c.head) (all_map (OfWaived (IsBelow n)) (WaivedBelow n) (waiver_known n) c.waived
              names.waived));
          of_carried = all_append (CarriedBelow n) (carried_slots past) _ k.of_carried (ran_known start past c.waived c.head n names.head, tt);
        }
