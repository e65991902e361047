-- Over an exact log of a plan within its bound, the accounts are true, if the cells serve.
use Rattle.std.proofs.Common.{◌≡◌, ℕ, zero, suc, ◌≤◌, false, List, [], ◌∷◌, ◌++◌, Option, Some, None, MatchOption, refl, ap, ◌∙◌, slice_get}
use Rattle.std.specs.List.{AllByRecursion}
use Rattle.slot_types.specs.declared.acts.Act.{Act}
use Rattle.slot_types.specs.declared.events.Event.{Event}
use Rattle.slot_types.specs.declared.events.Event.TheVariants as events
use Rattle.slot_types.specs.declared.replies.Reply.TheVariants as replies
use Rattle.slot_types.specs.declared.replies.Waived.{Waived}
use Rattle.die_log.specs.Model.Log.{Log, Job, jobs, job_at, now, waived_collections}
use Rattle.die_log.specs.Model.Flash.{free}
use Rattle.die_log.specs.Model.Work.{owed_writes}
use Rattle.die_log.specs.Model.Accounts.{accounts}
use Rattle.die_log.specs.Model.Answers.{IsExact, reply_if_accepted, refusals, choice, slot_reply, reply_with, act_for}
use Rattle.die_log.specs.Results.Legal.{AreWaivers}
use Rattle.die_log.proofs.Legality.{entry}
use Rattle.die_log.proofs.Tokens.Waivers.{Waits}
use Rattle.die_log.proofs.Tokens.Given.{CellsServe}
use Rattle.die_log.specs.Invariants.TrueAccounts.{AreTrueAccounts}
use Rattle.die_log.proofs.LogInvariants.CellsFromAccounts.{FindsBy}
use Rattle.die_log.proofs.Tokens.Waivers.{choice_is}
use Rattle.die_log.proofs.Tokens.Taking.{keeps_submit, keeps_collect}
use Rattle.die_log.proofs.Tokens.Slots.{keeps_idle}
use Rattle.die_log.proofs.Tokens.Doing.{act_kind}
use Rattle.die_log.proofs.Tokens.Turns.{keeps_act, owed_fits}
use Rattle.die_log.specs.Model.Start.{Start}
use Rattle.die_log.specs.Model.Opening.{IsOpening}

all_from : {X : Type 0} (P : X → Type 0) (xs : List X) → ((k : ℕ) (x : X) → slice_get xs k ≡ Some x → P x) → AllByRecursion P xs
all_from P [] h = tt
all_from P (x ∷ xs) h = (h zero x refl, all_from P xs (λ k y e. h (suc k) y e))

pub all_known : (past : Log) → ((k : ℕ) (j : Job) → job_at past k ≡ Some j → j.number ≡ k)
    → AllByRecursion (λ j. job_at past j.number ≡ Some j) (jobs past)
all_known past numbered = all_from (λ j. job_at past j.number ≡ Some j) (jobs past) (λ k j e. ap (λ n. job_at past n) (numbered k j e) ∙ e)

by_act : (start : Start) (past : Log) (caller : ℕ) (ws : List Waived) (j : Job) (o : Option Act) → IsOpening start → AreTrueAccounts start past
    → CellsServe start past → AreWaivers start.plan past (waived_collections past) (accounts start past) ws
    → Waits start.plan past (waived_collections past ++ ws) j → act_for start past j ≡ o
    → AreTrueAccounts start (entry caller events.Slot (replies.Slot (reply_with start.plan past ws j o)) ∷ past)
    × FindsBy start past (reply_with start.plan past ws j o).ran
by_act start past caller ws j None bound h c are waits e = (keeps_idle start past caller (now past) ws None h c are, tt)
by_act start past caller ws j (Some act) bound h c are waits e =
    keeps_act start past caller (now past) ws (reply_with start.plan past ws j (Some act)).finished j act bound
    (record { true_before = h; serve = c; waivers = are; waits = waits; does_it = e }) (act_kind start past j act e)

by_head : (start : Start) (past : Log) (caller : ℕ) (ws : List Waived) (o : Option Job) → IsOpening start → AreTrueAccounts start past
    → CellsServe start past → AreWaivers start.plan past (waived_collections past) (accounts start past) ws
    → MatchOption o (Unit {0}) (λ j. Waits start.plan past (waived_collections past ++ ws) j)
    → AreTrueAccounts start (entry caller events.Slot (replies.Slot (slot_reply start past ws o)) ∷ past)
    × FindsBy start past (slot_reply start past ws o).ran
by_head start past caller ws None bound h c are waits = (keeps_idle start past caller (now past) ws None h c are, tt)
by_head start past caller ws (Some j) bound h c are waits = by_act start past caller ws j (act_for start past j) bound h c are waits refl

-- a slot keeps the accounts true, and finds a free cell where it programs
pub keeps_slot : (start : Start) (past : Log) (caller : ℕ) → IsOpening start → AreTrueAccounts start past → CellsServe start past
    → AreTrueAccounts start (entry caller events.Slot (reply_if_accepted start past events.Slot) ∷ past)
    × FindsBy start past (slot_reply start past (choice start past).waived (choice start past).head).ran
keeps_slot start past caller bound h c =
    let is = choice_is start past (all_known past c.numbered) in
    by_head start past caller (choice start past).waived (choice start past).head bound h c is.waivers is.head

-- an accepted event keeps the accounts true
pub keeps : (start : Start) (past : Log) (caller : ℕ) (event : Event) → IsOpening start → IsExact start past → AreTrueAccounts start past
    → CellsServe start past → AllByRecursion (λ c. c.0 ≡ false) (refusals start past event)
    → AreTrueAccounts start (entry caller event (reply_if_accepted start past event) ∷ past)
keeps start past caller (events.Submit task release due ops) bound exact h c none = keeps_submit start past caller task release due ops exact
    h none
keeps start past caller (events.Collect task release due) bound exact h c none = keeps_collect start past caller task release due exact h none
keeps start past caller events.Slot bound exact h c none = (keeps_slot start past caller bound h c).0

-- no more is owed than is free
pub owed_is_free : (start : Start) (log : Log) → AreTrueAccounts start log → owed_writes log ≤ free start log
owed_is_free start log h = owed_fits start (accounts start log) _ _ (owed_writes log) (free start log) h.agree
