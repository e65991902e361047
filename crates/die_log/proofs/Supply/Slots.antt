-- What a slot leaves of a task's account.
use Rattle.std.proofs.Common.{◌≡◌, ℕ, ◌≤◌, List, ◌∷◌, ◌++◌, Option, Some, None, MatchOption, refl}
use Rattle.slot_types.specs.declared.acts.Act.{Act}
use Rattle.slot_types.specs.declared.events.Event.TheVariants as events
use Rattle.slot_types.specs.declared.replies.Reply.TheVariants as replies
use Rattle.slot_types.specs.declared.replies.Waived.{Waived}
use Rattle.plan_rules.specs.Accounts.{Accounts}
use Rattle.die_log.specs.Model.Log.{Log, Job, job_at, now, acts, waived_collections}
use Rattle.die_log.specs.Model.Accounts.{accounts, after_act, after_waivers}
use Rattle.die_log.specs.Model.Answers.{reply_if_accepted, choice, slot_reply, reply_with, act_for}
use Rattle.die_log.specs.Results.Legal.{AreWaivers}
use Rattle.die_log.specs.Invariants.TrueAccounts.{AreTrueAccounts}
use Rattle.die_log.specs.Results.Supply.{pending_at}
use Rattle.die_log.proofs.Legality.{entry}
use Rattle.die_log.proofs.Tokens.Given.{CellsServe}
use Rattle.die_log.proofs.Tokens.Waivers.{Waits, choice_is}
use Rattle.die_log.proofs.Tokens.Slots.{slot_entry}
use Rattle.die_log.proofs.Tokens.TrueAccounts.{all_known}
use Rattle.die_log.proofs.Supply.Gains.{Rises, Gains, rises_then, waivers_rise, act_rises}
use Rattle.die_log.proofs.Supply.Closing.{idle_gains, turn_gains}
use Rattle.die_log.specs.Model.Start.{Start}

-- the task's balance isn't less, nor its hold more; and where its pending collection was closed, it gained
pub record Leaves (start : Start) (past log : Log) (task : ℕ) : Type 0 where
  pub rises : Rises (accounts start past) (accounts start log) task
  pub gains : 1 ≤ pending_at start.plan past task → pending_at start.plan log task ≤ 0 → Gains start.plan (accounts start past) (accounts start log) task

leaves_idle : (start : Start) (past : Log) (caller slot : ℕ) (ws : List Waived) (finished : Option ℕ) (t : ℕ) → AreTrueAccounts start past
    → CellsServe start past → AreWaivers start.plan past (waived_collections past) (accounts start past) ws
    → Leaves start past (slot_entry caller slot ws None finished ∷ past) t
leaves_idle start past caller slot ws finished t h c are = record {
  rises = waivers_rise past ws (accounts start past) t;
  gains = idle_gains start past caller slot ws finished t h c are;
}

leaves_act : (start : Start) (past : Log) (caller : ℕ) (ws : List Waived) (j : Job) (o : Option Act) (t : ℕ) → AreTrueAccounts start past
    → CellsServe start past → AreWaivers start.plan past (waived_collections past) (accounts start past) ws
    → Waits start.plan past (waived_collections past ++ ws) j → act_for start past j ≡ o
    → Leaves start past (entry caller events.Slot (replies.Slot (reply_with start.plan past ws j o)) ∷ past) t
leaves_act start past caller ws j None t h c are waits e = leaves_idle start past caller (now past) ws None t h c are
leaves_act start past caller ws j (Some act) t h c are waits e =
    let a : Accounts = accounts start past in
    let b : Accounts = after_waivers past ws a in
    record {
      rises = rises_then a b (after_act start.plan (job_at past j.number) (acts j.number past) act b) t (waivers_rise past ws a t)
          (act_rises start.plan (job_at past j.number) (acts j.number past) act b t);
      gains = turn_gains start past caller (now past) ws (reply_with start.plan past ws j (Some act)).finished j act t
          (record { true_before = h; serve = c; waivers = are; waits = waits; does_it = e });
    }

leaves_head : (start : Start) (past : Log) (caller : ℕ) (ws : List Waived) (o : Option Job) (t : ℕ) → AreTrueAccounts start past
    → CellsServe start past → AreWaivers start.plan past (waived_collections past) (accounts start past) ws
    → MatchOption o (Unit {0}) (λ j. Waits start.plan past (waived_collections past ++ ws) j)
    → Leaves start past (entry caller events.Slot (replies.Slot (slot_reply start past ws o)) ∷ past) t
leaves_head start past caller ws None t h c are waits = leaves_idle start past caller (now past) ws None t h c are
leaves_head start past caller ws (Some j) t h c are waits = leaves_act start past caller ws j (act_for start past j) t h c are waits refl

pub slot_leaves : (start : Start) (past : Log) (caller : ℕ) (t : ℕ) → AreTrueAccounts start past → CellsServe start past
    → Leaves start past (entry caller events.Slot (reply_if_accepted start past events.Slot) ∷ past) t
slot_leaves start past caller t h c =
    let is = choice_is start past (all_known past c.numbered) in
    leaves_head start past caller (choice start past).waived (choice start past).head t h c is.waivers is.head
