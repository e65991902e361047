use Rattle.std.proofs.Common.{◌≡◌, ℕ, ◌%◌, ◌<◌, ◌≤◌, take}
use Rattle.std.specs.Prelude.{count_by}
use Rattle.plan_rules.specs.Keeping.{arrivals, slots, is_collection_at}
use Rattle.demand_keeping.proofs.collecting.wrong_collection.Given as goal

abbrev pub invariant-loop-i : goal.invariant-loop-i
invariant-loop-i l = record {
  now : l.now ≡ slots (take l.i l.events);
  multiple : l.next % l.own.collect_period ≡ 0;
  before : (slot : ℕ) → slot % l.own.collect_period ≡ 0 → slot < l.next
      → count_by (is_collection_at l.task slot) (arrivals 0 (take l.i l.events)) ≡ 1;
  after : (slot : ℕ) → l.next ≤ slot → count_by (is_collection_at l.task slot) (arrivals 0 (take l.i l.events)) ≡ 0;
}
