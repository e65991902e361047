use Rattle.std.proofs.Common.{◌≡◌, List, length, slice_get, sym, ap, ◌∙◌, arith}
use Rattle.slot_core.specs.Events.{with_ops}
use Rattle.slot_types.specs.declared.events.Op.{Op}
use Rattle.die_service.specs.declared.feeds.Arrival.{Arrival}
use Rattle.die_service.specs.Feeds.{ops_between, ops_in}
use Rattle.die_service.proofs.Feeding.{item_within, op_between}
use Rattle.die_service.proofs.feeds.FeedItem.op.Goals as goal

pub count_writes-requires : goal.count_writes-requires
count_writes-requires c =
    let i = c.self.inside in
    let own : List Op = ops_between i.ops.now i.first_op i.ops_end in
    let count_is : c.len-count.result ≡ length (ops_in (with_ops i.head own)) =
    c.len-count.ensures ∙ sym (ap (λ (a : Arrival). length (ops_in a.event)) c.self.view_is) in
    let within = item_within i.head i.ops.now i.first_op i.ops_end c.args.place c.self.invariant.0 c.self.invariant.1
    (omega (arith, c.if-place-count.false, count_is)) in
    let place = within.2 c.len-count.result count_is in
    record { rise = omega (arith, place, within.0); there = c.self.invariant.1 }

pub get-requires : goal.get-requires
get-requires c =
    let i = c.self.inside in
    let own : List Op = ops_between i.ops.now i.first_op i.ops_end in
    let count_is : c.len-count.result ≡ length (ops_in (with_ops i.head own)) =
    c.len-count.ensures ∙ sym (ap (λ (a : Arrival). length (ops_in a.event)) c.self.view_is) in
    let within = item_within i.head i.ops.now i.first_op i.ops_end c.args.place c.self.invariant.0 c.self.invariant.1
    (omega (arith, c.if-place-count.false, count_is)) in
    let place = within.2 c.len-count.result count_is in
    record { there = omega (arith, place, within.0, c.self.invariant.1); writes = omega (arith, c.self.invariant.2, c.count_writes.ensures) }

pub returns : goal.returns
returns c =
    let i = c.self.inside in
    let own : List Op = ops_between i.ops.now i.first_op i.ops_end in
    let count_is : c.len-count.result ≡ length (ops_in (with_ops i.head own)) =
    c.len-count.ensures ∙ sym (ap (λ (a : Arrival). length (ops_in a.event)) c.self.view_is) in
    let within = item_within i.head i.ops.now i.first_op i.ops_end c.args.place c.self.invariant.0 c.self.invariant.1
    (omega (arith, c.if-place-count.false, count_is)) in
    sym (ap (λ (a : Arrival). slice_get (ops_in a.event) c.args.place) c.self.view_is)
    ∙ ap (λ (l : List Op). slice_get l c.args.place) within.1
    ∙ op_between i.ops.now i.first_op i.ops_end c.args.place within.0
    ∙ ap (slice_get i.ops.now) (within.2 c.len-count.result count_is)
    ∙ c.get.ensures
