use Rattle.std.proofs.Common.{◌≡◌, ◌++◌, drop}
use Rattle.terms_texts.specs.Stores.{caps_of}
use Rattle.terms_texts.proofs.stores.caps.Given as goal

abbrev pub invariant-loop-task : goal.invariant-loop-task
invariant-loop-task l = l.caps ++ caps_of (drop l.task-index l.tasks) l.die ≡ caps_of l.tasks l.die
