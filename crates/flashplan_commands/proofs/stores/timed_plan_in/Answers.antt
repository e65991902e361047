use Rattle.std.proofs.Common.{rules, ◌∙◌, sym}
use Rattle.flashplan_commands.specs.PlanKinds.{IsReadOf}
use Rattle.flashplan_commands.proofs.PlansRead.{reads-plain, reads-terms}
use Rattle.flashplan_commands.proofs.stores.timed_plan_in.Goals as goal

pub returns-then-branch : goal.returns-then-branch
returns-then-branch g c =
    let plan = g.R.Read.remaining c.args.plan in
    let text = c.in_ok-text.text.items in
    let read : IsReadOf plan text = search rules in
    reads-terms plan text c.in_ok-store.store read (sym (rw c.deref-2.ensures.value at c.in_ok-is_terms_text.ensures.kind) ∙ c.if-branch.true)
    (rw c.deref-then-branch.ensures.value at c.in_ok-store.ensures.ok) c.in_ok-store.ensures.some c.in_ok-store.ensures.few
    c.in_ok-store.ensures.usable

pub returns : goal.returns
returns g c =
    let plan = g.R.Read.remaining c.args.plan in
    let text = c.in_ok-text.text.items in
    let read : IsReadOf plan text = search rules in
    reads-plain plan text c.in_ok-store-2.store read (sym (rw c.deref-2.ensures.value at c.in_ok-is_terms_text.ensures.kind) ∙ c.if-branch.false)
    (rw c.deref-else-branch.ensures.value at c.in_ok-store-2.ensures.ok) c.in_ok-store-2.ensures.some c.in_ok-store-2.ensures.few
    c.in_ok-store-2.ensures.bound
