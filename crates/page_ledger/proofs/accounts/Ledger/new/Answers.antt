use Rattle.std.proofs.Common.{rules}
use Rattle.plan_rules.proofs.Totals.{opening_sound}
use Rattle.page_ledger.proofs.accounts.Ledger.new.Goals as goal

pub invariant_of-result : goal.invariant_of-result
invariant_of-result c = opening_sound c.args.plan _ _ _ _ c.requires (search rules) (search rules) (search rules) (search rules)
