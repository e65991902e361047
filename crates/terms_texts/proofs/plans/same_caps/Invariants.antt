use Rattle.std.proofs.Common.{◌≡◌, ◌++◌, drop}
use Rattle.terms_texts.proofs.plans.same_caps.Given as goal

abbrev pub invariant-loop-cap : goal.invariant-loop-cap
invariant-loop-cap l = l.same ++ drop l.cap-index l.caps ≡ l.caps
