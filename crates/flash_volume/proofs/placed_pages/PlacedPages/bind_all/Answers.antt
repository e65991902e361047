use Rattle.std.proofs.Common.{arith, ◌≡◌, ℕ, Option, get_or, length, None, refl, ap, ◌∙◌}
use Rattle.std.proofs.lemmas.List.{length-replicate}
use Rattle.slot_types.specs.declared.pages.Place.{Place}
use Rattle.slot_types.specs.declared.plans.Shape.{Shape}
use Rattle.page_map.specs.Placing.{Placing, blank_map}
use Rattle.page_map.proofs.Laying.{laid_none, laid_some, laid_all, none_else}
use Rattle.flash_volume.proofs.Binding.{free_next}
use Rattle.flash_volume.proofs.placed_pages.PlacedPages.bind_all.Goals.{in-Some, in_default}
use Rattle.flash_volume.proofs.placed_pages.PlacedPages.bind_all.Goals as goal

-- as many pages as are given places
pages_of : (inside now : Placing) (shape : Shape) (n : ℕ) → inside ≡ now → now ≡ blank_map shape n → length inside.places ≡ n
pages_of inside now shape n view blank = ap (λ (p : Placing). length p.places) (view ∙ blank) ∙ length-replicate {A = Option Place} n None

pub bind-requires-clause-free : goal.bind-requires-clause-free
bind-requires-clause-free c = free_next c.args.places.now c.loop-page.self.places c.loop-page.page c.in-Some.place c.loop-page.invariant.so_far
    c.requires.apart c.in-Some.is

pub loop-page-preserved : goal.loop-page-preserved
loop-page-preserved c =
    let so = c.loop-page.invariant in
    elim c.match-places-page.branch [
      | in-Some w ↦ rw w.self-is (rw w.bind.ensures (record {
        shape_is = so.shape_is;
        so_far = laid_some c.args.places.now c.loop-page.self.places c.loop-page.page w.in-Some.place so.so_far
            (omega (arith, c.loop-page-test.true, c.pages-page-end.ensures, pages_of c.self.inside.map c.args.self.now c.args.self.now.shape (length c.args.places.now) c.self.view_is c.requires.blank)) w.in-Some.is
            (free_next c.args.places.now c.loop-page.self.places c.loop-page.page w.in-Some.place so.so_far c.requires.apart w.in-Some.is);
      }))
      | in_default w ↦ rw w.self-is (record {
        shape_is = so.shape_is;
        so_far = laid_none c.args.places.now c.loop-page.self.places c.loop-page.page so.so_far
            (none_else (get_or c.args.places.now c.loop-page.page None) w.in_default.not-Some);
      })
    ]

pub returns : goal.returns
returns c =
    rw c.loop-page.invariant.shape_is (rw (laid_all c.args.places.now c.loop-page.self.places c.loop-page.page c.loop-page.invariant.so_far
    (omega (arith, c.loop-page-test.false, c.pages-page-end.ensures, pages_of c.self.inside.map c.args.self.now c.args.self.now.shape (length c.args.places.now) c.self.view_is c.requires.blank))) refl)
