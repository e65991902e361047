use Rattle.std.proofs.Common.{ap, ◌∙◌}
use Rattle.terms_texts.specs.declared.stores.DieTerms.{DieTerms}
use Rattle.flashplan_terms_margins.specs.Changes.{with_own}
use Rattle.flashplan_terms_margins.proofs.Alike.{changed-again}
use Rattle.flashplan_terms_margins.proofs.attempts.tried.Goals as goal

pub returns-clause-alike : goal.returns-clause-alike
returns-clause-alike c own =
    ap (λ (made : DieTerms). with_own made c.args.task own) c.with_own-made.ensures ∙ changed-again c.args.made c.args.task c.args.own own
