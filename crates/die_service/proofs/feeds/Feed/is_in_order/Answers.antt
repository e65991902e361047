use Rattle.std.proofs.Common.{◌≡◌, sym, ap, ◌∙◌, subst}
use Rattle.die_service.specs.Feeds.{IsInOrder, all_follow}
use Rattle.die_service.proofs.Feeding.{in_order, order_reports, all_arrive}
use Rattle.die_service.proofs.feeds.Feed.is_in_order.Goals as goal

pub returns-clause-exact : goal.returns-clause-exact
returns-clause-exact c =
    let f = c.self.inside in
    let said : c.are_in_order.result ≡ all_follow 0 f.rows.items = c.are_in_order.ensures ∙ ap (all_follow 0) c.as_slice.ensures.value in (
      λ yes. subst (IsInOrder 0) c.self.view_is (in_order f.ops 0 0 f.rows.items (sym said ∙ yes)),
      λ is. said ∙ order_reports f.ops 0 0 f.rows.items (subst (IsInOrder 0) (sym c.self.view_is) is),
    )

pub returns-clause-arrive : goal.returns-clause-arrive
returns-clause-arrive c = λ yes. all_arrive 0 c.args.self.now ((returns-clause-exact c).0 yes)
