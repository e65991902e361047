use Rattle.std.proofs.Common.{refl, arith}
use Rattle.plan_rules.proofs.Owned.{admitted_owned, spent_owned, spent_others, settled_others, waived_others}
use Rattle.page_ledger.proofs.laws.writes_alone_lower_owned.Goals as goal

pub returns : goal.returns
returns c = record {
  hold_spent = λ a task sound h some. spent_owned a task (omega (arith, sound.holds_len, h)) some;
  hold_spent_others = spent_others;
  admitted = λ a task writes other sound h have.
      admitted_owned a task writes other (omega (arith, sound.balances_len, h)) (omega (arith, sound.holds_len, h)) have;
  reserve_spent = λ a task other. refl;
  settled_others = settled_others;
  waived_others = waived_others;
}
