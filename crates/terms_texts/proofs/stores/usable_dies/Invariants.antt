use Rattle.std.proofs.Common.{◌≡◌, ℕ, ◌<◌, map}
use Rattle.std.specs.List.{range_with_len}
use Rattle.terms_texts.specs.Stores.{IsUsable, die_of}
use Rattle.terms_texts.proofs.stores.usable_dies.Given as goal

abbrev pub invariant-loop-die : goal.invariant-loop-die
invariant-loop-die l = record {
  made : l.store ≡ map (die_of l.plan) (range_with_len 0 l.die);
  usable : (d : ℕ) → d < l.die → IsUsable (die_of l.plan d);
}
