use Rattle.std.proofs.Common.{rules, ◌<◌, length, refl, inl, inr, arith}
use Rattle.std.proofs.lemmas.Bool.{cases_lt}
use Rattle.std.proofs.lemmas.List.{get_or_read}
use Rattle.flash_volume.proofs.FirstCells.{none_before, none_at_all}
use Rattle.flash_volume.proofs.placed_pages.PlacedPages.first_page.Goals as goal

pub returns-in-None-clause-none : goal.returns-in-None-clause-none
returns-in-None-clause-none c =
    let firsts = c.self.inside.firsts.items in
    let block = rw (← c.self.view_is) at c.requires in
    let below : c.args.block < length firsts = omega (arith, block, c.self.invariant.len) in
    let from = get_or_read firsts c.args.block c.index.result.now below c.index.ensures 0 in
    rw (← c.self.view_is) (none_at_all c.self.inside.map.shape.blocks c.self.inside.map.places firsts c.self.invariant c.args.block
    c.index.result.now c.self.inside.map.shape.pages from c.in-None.ensures.none)

pub returns-in-Some-owner-clause-some : goal.returns-in-Some-owner-clause-some
returns-in-Some-owner-clause-some c =
    let firsts = c.self.inside.firsts.items in
    let block = rw (← c.self.view_is) at c.requires in
    let below : c.args.block < length firsts = omega (arith, block, c.self.invariant.len) in
    let from = get_or_read firsts c.args.block c.index.result.now below c.index.ensures 0 in
    rw (← c.self.view_is) (
    record {
      here = refl;
      lies = c.in-Some-owner.ensures.lies;
      owns = search (rules, c.in-Some-owner.ensures.owner);
      first = λ earlier before.
          elim (cases_lt earlier c.index.result.now) [
            | inl passed ↦ none_before c.self.inside.map.shape.blocks c.self.inside.map.places firsts c.self.invariant c.args.block
                c.index.result.now earlier from passed
            | inr beyond ↦ c.in-Some.ensures.some.first earlier beyond before
          ];
    }
    )
