use Rattle.std.proofs.Common.{◌≡◌, true, false, ℕ, List, Some, None, length, take, slice_get, rules, refl, sym, ap, ◌∙◌, arith}
use Rattle.std.proofs.lemmas.Grind.{common_steps}
use Rattle.slot_types.specs.Operations.{writes}
use Rattle.die_service.specs.declared.feeds.Arrival.{Arrival}
use Rattle.die_service.specs.declared.feeds.FeedRow.{FeedRow}
use Rattle.die_service.specs.Feeds.{ops_at, ops_if, ops_between, is_job, begins_at, writes_before}
use Rattle.die_service.proofs.Feeding.{row_at, counted_before, place_at, none_at, get_at, get_past, other_ops, job_ops}
use Rattle.die_service.proofs.feeds.Feed.ops.Goals as goal

pub returns-in-None : goal.returns-in-None
returns-in-None c =
    let f = c.self.inside in
    let at_n : slice_get f.rows.items c.args.place ≡ None =
    ap (λ (l : List FeedRow). slice_get l c.args.place) (sym c.deref.ensures.value)
    ∙ get_past c.deref.result.now c.args.place c.in-None.ensures.lookup.3 in
    c.none.ensures ∙ sym (ap ops_if (none_at f.ops 0 f.rows.items c.args.place at_n))
    ∙ ap (λ (l : List Arrival). ops_at l c.args.place) c.self.view_is

pub returns-then-not-has_ops : goal.returns-then-not-has_ops
returns-then-not-has_ops c =
    let f = c.self.inside in
    let row = c.in-Some.row.now in
    let at_n : slice_get f.rows.items c.args.place ≡ Some row =
    ap (λ (l : List FeedRow). slice_get l c.args.place) (sym c.deref.ensures.value)
    ∙ get_at c.deref.result.now c.args.place row c.in-Some.ensures.lookup.3.0 (c.in-Some.ensures.lookup.3.1 row) in
    let no : c.has_ops.result ≡ false = first_of (search rules, grind (arith, common_steps)) in
    let none : is_job row.head ≡ false = sym c.has_ops.ensures ∙ no in
    c.none-then-not-has_ops.ensures ∙ sym ((other_ops row.head (ops_between f.ops (begins_at 0 f.rows.items c.args.place) row.ops_end) none).0)
    ∙ sym (ap ops_if (place_at f.ops 0 f.rows.items c.args.place row at_n))
    ∙ ap (λ (l : List Arrival). ops_at l c.args.place) c.self.view_is

pub begin_of-begin-requires : goal.begin_of-begin-requires
begin_of-begin-requires c =
    let same = ap length c.as_slice.ensures.value in
    let seen = ap length c.deref.ensures.value in
    omega (arith, same, seen, c.in-Some.ensures.lookup.3.0)

pub slice-requires : goal.slice-requires
slice-requires c =
    let f = c.self.inside in
    let row = c.in-Some.row.now in
    let at_n : slice_get f.rows.items c.args.place ≡ Some row =
    ap (λ (l : List FeedRow). slice_get l c.args.place) (sym c.deref.ensures.value)
    ∙ get_at c.deref.result.now c.args.place row c.in-Some.ensures.lookup.3.0 (c.in-Some.ensures.lookup.3.1 row) in
    let lies = row_at f.ops 0 f.rows.items c.args.place row at_n c.self.invariant.0 in
    let first : c.begin_of-begin.result.op ≡ begins_at 0 f.rows.items c.args.place = c.begin_of-begin.ensures.op
    ∙ ap (λ (l : List FeedRow). begins_at 0 l c.args.place) c.as_slice.ensures.value in
    let written : c.begin_of-begin.result.writes ≡ writes_before 0 f.rows.items c.args.place = c.begin_of-begin.ensures.writes
    ∙ ap (λ (l : List FeedRow). writes_before 0 l c.args.place) c.as_slice.ensures.value in
    let ends = c.self.invariant.1 in record {
      rise = omega (arith, lies.0, first);
      there = omega (arith, lies.1, ends);
      writes_from = written ∙ counted_before f.ops 0 0 f.rows.items c.args.place row at_n c.self.invariant.0 refl
          ∙ ap (λ (n : ℕ). writes (take n f.ops)) (sym first);
      writes_to = lies.2;
    }

pub returns : goal.returns
returns c =
    let f = c.self.inside in
    let row = c.in-Some.row.now in
    let at_n : slice_get f.rows.items c.args.place ≡ Some row =
    ap (λ (l : List FeedRow). slice_get l c.args.place) (sym c.deref.ensures.value)
    ∙ get_at c.deref.result.now c.args.place row c.in-Some.ensures.lookup.3.0 (c.in-Some.ensures.lookup.3.1 row) in
    let first : c.begin_of-begin.result.op ≡ begins_at 0 f.rows.items c.args.place = c.begin_of-begin.ensures.op
    ∙ ap (λ (l : List FeedRow). begins_at 0 l c.args.place) c.as_slice.ensures.value in
    let yes : c.has_ops.result ≡ true = first_of (search rules, grind (arith, common_steps)) in
    let job : is_job row.head ≡ true = sym c.has_ops.ensures ∙ yes in
    c.slice.ensures ∙ ap (λ (n : ℕ). ops_between f.ops n row.ops_end) first
    ∙ sym (job_ops row.head (ops_between f.ops (begins_at 0 f.rows.items c.args.place) row.ops_end) job)
    ∙ sym (ap ops_if (place_at f.ops 0 f.rows.items c.args.place row at_n))
    ∙ ap (λ (l : List Arrival). ops_at l c.args.place) c.self.view_is
