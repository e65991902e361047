use Rattle.std.proofs.Common.{◌≡◌, ◌+◌, subst, ◌∷◌, ◌++◌, [], List, length, length-append, ap, sym, ◌∙◌}
use Rattle.slot_core.specs.Events.{with_ops}
use Rattle.slot_types.specs.Operations.{writes}
use Rattle.slot_types.specs.declared.events.Op.{Op}
use Rattle.die_service.specs.declared.feeds.Arrival.{Arrival}
use Rattle.die_service.specs.declared.feeds.FeedRow.{FeedRow}
use Rattle.die_service.specs.Feeds.{feed_from, AreRowsOf, last_end}
use Rattle.die_service.proofs.Feeding.{feed_more, rows_more, end_more}
use Rattle.die_service.proofs.feeds.Feed.push_row.Goals as goal

pub returns-clause-ok : goal.returns-clause-ok
returns-clause-ok c =
    let f = c.self.inside in
    let row : FeedRow = record { ops_end = c.len.result; writes_end = c.writes-2.result; at = c.args.at; head = c.args.head } in
    let pushed = c.in_ok-push_all.ensures.ok in
    let long : row.ops_end ≡ length f.ops + length c.args.ops.now =
    c.len.ensures ∙ (ap length pushed ∙ length-append f.ops c.args.ops.now) in
    ap (feed_from c.push_all.new.self 0) (c.push_reserved.ensures.items
    ∙ ap (λ (l : List FeedRow). l ++ row ∷ []) c.in_ok-reserve.ensures.items)
    ∙ ap (λ (l : List Op). feed_from l 0 (f.rows.items ++ row ∷ [])) pushed
    ∙ feed_more f.ops c.args.ops.now 0 f.rows.items row c.self.invariant.0 c.self.invariant.1 long
    ∙ ap (λ (l : List Arrival). l ++ record { at = c.args.at; event = with_ops c.args.head c.args.ops.now } ∷ []) c.self.view_is

pub invariant_of-self-2 : goal.invariant_of-self-2
invariant_of-self-2 c =
    let f = c.self.inside in
    let row : FeedRow = record { ops_end = c.len.result; writes_end = c.writes-2.result; at = c.args.at; head = c.args.head } in
    let pushed = c.in_ok-push_all.ensures.ok in
    let long : row.ops_end ≡ length f.ops + length c.args.ops.now =
    c.len.ensures ∙ (ap length pushed ∙ length-append f.ops c.args.ops.now) in
    let rows_is = c.push_reserved.ensures.items ∙ ap (λ (l : List FeedRow). l ++ row ∷ []) c.in_ok-reserve.ensures.items in
    subst (λ (rows : List FeedRow). AreRowsOf c.push_all.new.self 0 rows × (last_end 0 rows ≡ length c.push_all.new.self)) (sym rows_is)
    (subst (λ (ops : List Op). AreRowsOf ops 0 (f.rows.items ++ row ∷ []) × (last_end 0 (f.rows.items ++ row ∷ []) ≡ length ops)) (sym pushed) (
      rows_more f.ops c.args.ops.now 0 f.rows.items row c.self.invariant.0 c.self.invariant.1 long (c.writes-2.ensures ∙ ap writes pushed),
      end_more 0 f.rows.items row ∙ (long ∙ sym (length-append f.ops c.args.ops.now)),
    ))
