-- A head that begins finds its block.
use Rattle.std.proofs.Common.{◌≡◌, ℕ, ◌<◌, ◌≤◌, ◌==◌, ◌&&◌, nat_le, not, true, false, List, ◌++◌, Some, sym, ◌∙◌, inl, inr}
use Rattle.std.proofs.lemmas.Bool.{true≢false, and_parts, and_from, and_cases, leb-false, eq-eqb}
use Rattle.slot_types.specs.declared.plans.DiePlan.{DiePlan}
use Rattle.slot_types.specs.declared.replies.Waived.{Waived}
use Rattle.die_log.specs.Model.Log.{Log, Job, jobs, now, acts, waived_collections, is_waived, work}
use Rattle.die_log.specs.Model.Flash.{cells, valid, free}
use Rattle.die_log.specs.Model.Work.{is_done, is_ready, ready, owed_writes}
use Rattle.plan_rules.specs.Accounts.{Accounts}
use Rattle.die_log.specs.Model.Accounts.{accounts, after_waivers}
use Rattle.die_log.specs.Invariants.TrueAccounts.{reserve_full}
use Rattle.die_log.specs.Model.Answers.{is_waivable, victim}
use Rattle.die_log.specs.Results.Legal.{AreWaivers}
use Rattle.die_log.proofs.Tokens.Waivers.{Waits}
use Rattle.die_log.proofs.Tokens.Given.{CellsServe}
use Rattle.die_log.specs.Invariants.TrueAccounts.{is_pending, HasTaskAndOps, AreTrueAccounts}
use Rattle.die_log.proofs.Tokens.Sums.{all_at}
use Rattle.die_log.proofs.Tokens.Reserves.{few_free}
use Rattle.die_log.proofs.Tokens.Slots.{agree_waivers}
use Rattle.die_log.proofs.Tokens.VictimsExist.{takable, victim_found}
use Rattle.die_log.specs.Model.Start.{Start}
use Rattle.die_log.specs.Model.Opening.{IsOpening}

-- A collection that begins

pub is_pending_if : (plan : DiePlan) (past : Log) (j : Job) → is_ready plan past j ≡ true → j.collects ≡ true
    → is_pending plan (λ n. acts n past) (is_waived past) j ≡ true
is_pending_if plan past j ready is =
    let parts = and_parts (nat_le j.release (now past) && not (is_done plan past j)) (not (is_waived past j.number)) ready in
    let undone = (and_parts (nat_le j.release (now past)) (not (is_done plan past j)) parts.0).1 in
    and_from (j.collects && not (is_done plan past j)) (not (is_waived past j.number))
    (and_from j.collects (not (is_done plan past j)) is undone) parts.1

too_few : (plan : DiePlan) (past : Log) (a : Accounts) (j : Job) → is_waivable plan past a j ≡ false → j.collects ≡ true
    → work j.number past ≡ 0 → a.spare < plan.alpha
too_few plan past a j e is fresh = elim (and_cases (j.collects && (work j.number past == 0)) (nat_le plan.alpha a.spare) e) [
  | inl never ↦ absurd (true≢false (sym (and_from j.collects (work j.number past == 0) is (eq-eqb (work j.number past) 0 fresh)) ∙ never))
  | inr short ↦ leb-false plan.alpha a.spare short
]

-- a head that begins finds its block, which has so few placed pages that they fit its collector's reserve
pub fresh_finds : (start : Start) (past : Log) (ws : List Waived) (j : Job) → IsOpening start → AreTrueAccounts start past → CellsServe start past
    → AreWaivers start.plan past (waived_collections past) (accounts start past) ws
    → Waits start.plan past (waived_collections past ++ ws) j → is_waivable start.plan past (after_waivers past ws (accounts start past)) j ≡ false → j.collects
    ≡ true → work j.number past ≡ 0
    → (v : ℕ) × (victim start past ≡ Some v) × (valid (cells start past) v ≤ reserve_full start.plan)
fresh_finds start past ws j bound h c waivers waits unwaivable is fresh =
    let a : Accounts = after_waivers past ws (accounts start past) in
    let few = few_free start.plan a _ _ (owed_writes past) (free start past)
    (agree_waivers start past (waived_collections past) (accounts start past) ws _ _ (owed_writes past) (free start past) h.taken h.agree waivers)
    (too_few start.plan past a j unwaivable is fresh) in
    let t = takable start past j bound h c.sound waits.known (is_pending_if start.plan past j waits.ready is) fresh few
    (λ i k e. (all_at (HasTaskAndOps start.plan) (jobs past) k i h.taken e).task) in
    victim_found start past t.0 t.1
