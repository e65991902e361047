use Rattle.std.proofs.Common.{◌≡◌, ℕ, List, Some, None, slice_get, sym, ap, ◌∙◌, arith}
use Rattle.die_service.specs.declared.feeds.Arrival.{Arrival}
use Rattle.die_service.specs.declared.feeds.FeedRow.{FeedRow}
use Rattle.die_service.specs.Feeds.{arrival_at, begins_at}
use Rattle.die_service.proofs.Feeding.{row_at, place_at, none_at, get_at, get_past}
use Rattle.die_service.proofs.feeds.Feed.get.Goals as goal

pub invariant_of-result : goal.invariant_of-result
invariant_of-result c =
    let f = c.self.inside in
    let row = c.in-Some.row.now in
    let at_n : slice_get f.rows.items c.args.place ≡ Some row =
    ap (λ (l : List FeedRow). slice_get l c.args.place) (sym c.deref.ensures.value)
    ∙ get_at c.deref.result.now c.args.place row c.in-Some.ensures.lookup.3.0 (c.in-Some.ensures.lookup.3.1 row) in
    let lies = row_at f.ops 0 f.rows.items c.args.place row at_n c.self.invariant.0 in
    let first : c.begin_of.result.op ≡ begins_at 0 f.rows.items c.args.place = c.begin_of.ensures.op
    ∙ ap (λ (l : List FeedRow). begins_at 0 l c.args.place) c.as_slice.ensures.value in
    let ends = c.self.invariant.1 in
    (omega (arith, lies.0, first), omega (arith, lies.1, ends), lies.2)

pub returns-in-Some : goal.returns-in-Some
returns-in-Some c =
    let f = c.self.inside in
    let row = c.in-Some.row.now in
    let at_n : slice_get f.rows.items c.args.place ≡ Some row =
    ap (λ (l : List FeedRow). slice_get l c.args.place) (sym c.deref.ensures.value)
    ∙ get_at c.deref.result.now c.args.place row c.in-Some.ensures.lookup.3.0 (c.in-Some.ensures.lookup.3.1 row) in
    let first : c.begin_of.result.op ≡ begins_at 0 f.rows.items c.args.place = c.begin_of.ensures.op
    ∙ ap (λ (l : List FeedRow). begins_at 0 l c.args.place) c.as_slice.ensures.value in
    sym (ap (λ (l : List Arrival). slice_get l c.args.place) c.self.view_is)
    ∙ (place_at f.ops 0 f.rows.items c.args.place row at_n ∙ ap (λ (n : ℕ). Some (arrival_at f.ops n row)) (sym first))

pub returns-in-None : goal.returns-in-None
returns-in-None c =
    let f = c.self.inside in
    let at_n : slice_get f.rows.items c.args.place ≡ None =
    ap (λ (l : List FeedRow). slice_get l c.args.place) (sym c.deref.ensures.value)
    ∙ get_past c.deref.result.now c.args.place c.in-None.ensures.lookup.3 in
    sym (ap (λ (l : List Arrival). slice_get l c.args.place) c.self.view_is) ∙ none_at f.ops 0 f.rows.items c.args.place at_n
