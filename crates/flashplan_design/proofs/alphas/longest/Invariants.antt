use Rattle.std.proofs.Common.{ℕ, ◌≡◌, ◌⊎◌, ◌<◌, ◌≤◌, ◌%◌, ◌*◌, get_or}
use Rattle.flashplan_design.specs.Alphas.{GivesBack}
use Rattle.flashplan_design.specs.Divisors.{Divides}
use Rattle.flashplan_design.proofs.alphas.longest.Given as goal

abbrev pub invariant-loop-n : goal.invariant-loop-n
invariant-loop-n l = record {
  own : (l.best ≡ 0) ⊎ (Divides l.common l.best × GivesBack l.alpha l.common l.task l.best);
  below : (k : ℕ) → k < l.n-index → GivesBack l.alpha l.common l.task (get_or l.divisors k 0) → get_or l.divisors k 0 ≤ l.best;
}
