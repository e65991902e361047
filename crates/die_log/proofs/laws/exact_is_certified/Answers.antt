use Rattle.die_log.proofs.Least.Certificates.{none_is, worst_certified}
use Rattle.die_log.proofs.laws.exact_is_certified.Goals as goal

pub returns : goal.returns
returns c = record {
  none = λ plan bound log exact. none_is plan log bound exact;
  worst = λ plan bound log exact j is. worst_certified plan
      log j bound exact is;
}
