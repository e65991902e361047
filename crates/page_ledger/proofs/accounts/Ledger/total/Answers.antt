-- What the three sums are, and that the accounts of a ledger are sound.
use Rattle.std.proofs.Common.{◌≡◌, sum, ap, ◌∙◌, arith}
use Rattle.page_ledger.specs.Ledger.{accounts_of}
use Rattle.plan_rules.proofs.Totals.{few_free}
use Rattle.page_ledger.proofs.accounts.Ledger.total.Goals as goal

pub returns-clause-few : goal.returns-clause-few
returns-clause-few c =
    let balances : c.pages_in.result ≡ sum c.self.inside.balances.items = c.pages_in.ensures ∙ ap sum c.deref.ensures.value in
    let holds : c.pages_in-2.result ≡ sum c.self.inside.holds.items = c.pages_in-2.ensures ∙ ap sum c.deref-2.ensures.value in
    let reserves : c.pages_in-3.result ≡ sum c.self.inside.reserves.items = c.pages_in-3.ensures ∙ ap sum c.deref-3.ensures.value in
    rw (← c.self.view_is) (λ short. omega (arith, balances, holds, reserves, few_free (accounts_of c.self.inside) c.self.invariant short))
