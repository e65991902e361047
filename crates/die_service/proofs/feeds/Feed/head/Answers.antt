use Rattle.std.proofs.Common.{◌<◌, List, Some, length, slice_get, refl, sym, ap, ◌∙◌, arith}
use Rattle.std.specs.Prelude.{option_map}
use Rattle.std.proofs.lemmas.Option.{slice_get_read}
use Rattle.slot_core.specs.Events.{with_ops}
use Rattle.die_service.specs.declared.feeds.Arrival.{Arrival}
use Rattle.die_service.specs.Feeds.{feed_from, ops_at, ops_between, begins_at}
use Rattle.die_service.proofs.Feeding.{length_feed, place_at, event_at}
use Rattle.die_service.proofs.feeds.Feed.head.Goals as goal

pub index-requires : goal.index-requires
index-requires c =
    let f = c.self.inside in
    let len = ap length c.self.view_is in
    omega (arith, len, length_feed f.ops 0 f.rows.items, c.requires, f.rows.ok.0)

pub returns : goal.returns
returns c =
    let f = c.self.inside in
    let row = c.index.result.now in
    let len = ap length c.self.view_is in
    let within : c.args.place < length f.rows.items = omega (arith, len, length_feed f.ops 0 f.rows.items, c.requires) in
    let at_n = slice_get_read f.rows.items (length f.rows.items) c.args.place row refl within c.index.ensures in
    sym (ap (λ (l : List Arrival). option_map (λ (a : Arrival). a.event) (slice_get l c.args.place)) c.self.view_is)
    ∙ event_at (feed_from f.ops 0 f.rows.items) c.args.place row.at row.head
    (ops_between f.ops (begins_at 0 f.rows.items c.args.place) row.ops_end) (place_at f.ops 0 f.rows.items c.args.place row at_n)
    ∙ ap (λ (l : List Arrival). Some (with_ops row.head (ops_at l c.args.place))) c.self.view_is
