use Rattle.std.proofs.Common.{rules, ◌≡◌, ◌<◌, length, get_or, ap, arith}
use Rattle.std.proofs.lemmas.List.{get_or_read, length-map}
use Rattle.std.proofs.lemmas.Grind.{common_steps}
use Rattle.flash_die.specs.Flash.{Block}
use Rattle.flash_volume.proofs.Opening.{fits_next, is_next, is_cell, unplaced, seen, some_open, Ready}
use Rattle.flash_volume.proofs.Counting.{some_valid, left_open_block, left_len, few_open}
use Rattle.flash_volume.proofs.Filling.{stands_written, contents_written, free_written, closes_filled}
use Rattle.flash_volume.proofs.array.PageArray.write.Given.{Over}
use Rattle.flash_volume.proofs.array.PageArray.write.Goals as goal
use Rattle.flash_volume.proofs.array.PageArray.write.Goals.{After-next_cell-place}

-- the array stands, and the cell that was found is the next one
ready : (g : Over) (c : After-next_cell-place g) → Ready (g.N.Nand.shape_of c.self.inside.device) (g.N.Nand.failures c.self.inside.device)
    (g.N.Nand.blocks c.self.inside.device) c.self.inside.placed c.self.inside.fills c.self.inside.erases.items c.self.inside.writing
    c.self.inside.victims c.args.page c.next_cell-place.result
ready g c =
    let stands = c.self.invariant (rw (← c.self.view_is) at c.requires.alive) in
    let is = rw (← c.self.view_is) at c.next_cell-place.ensures in
    record {
      stands = stands;
      is = is;
      fit = fits_next stands (rw (← c.self.view_is) at c.requires.free) is;
      in_list = rw (← c.self.view_is) at c.requires.page;
    }

pub program_page-requires-clause-next : goal.program_page-requires-clause-next
program_page-requires-clause-next g c =
    let k = ready g (goal.at.program_page-requires-clause-next g c).After-next_cell-place in
    is_next k.stands k.fit

pub bind-requires-clause-place : goal.bind-requires-clause-place
bind-requires-clause-place g c =
    let k = ready g (goal.at.bind-requires-clause-place g c).After-next_cell-place in
    is_cell k.stands k.fit

pub bind-requires-clause-free : goal.bind-requires-clause-free
bind-requires-clause-free g c =
    let k = ready g (goal.at.bind-requires-clause-free g c).After-next_cell-place in
    unplaced k.stands k.fit

pub leave-requires : goal.leave-requires
leave-requires g c =
    let k = ready g (goal.at.leave-requires g c).After-next_cell-place in
    λ place n lay counted. some_valid c.args.page n place k.stands (rw c.map.ensures at (rw c.place-before.ensures.place at lay)) counted

pub close_when_filled-requires-clause-in_range : goal.close_when_filled-requires-clause-in_range
close_when_filled-requires-clause-in_range g c =
    let k = ready g (goal.at.close_when_filled-requires-clause-in_range g c).After-next_cell-place in
    rw c.leave.ensures (omega (
      arith,
      left_len c.place-before.result c.self.inside.victims.counts,
      k.stands.candidates_len,
      k.fit.in_range,
      k.stands.count,
    ))

pub close_when_filled-requires-clause-open : goal.close_when_filled-requires-clause-open
close_when_filled-requires-clause-open g c =
    let k = ready g (goal.at.close_when_filled-requires-clause-open g c).After-next_cell-place in
    rw c.leave.ensures (left_open_block c.place-before.result k.stands k.fit)

pub close_when_filled-requires-clause-fits : goal.close_when_filled-requires-clause-fits
close_when_filled-requires-clause-fits g c =
    let k = ready g (goal.at.close_when_filled-requires-clause-fits g c).After-next_cell-place in
    rw (c.leave.ensures, c.valid-valid.ensures, c.map-in-Ok.ensures, c.bind.ensures) (few_open c.args.page c.args.bytes k.stands k.fit k.in_list)

pub invariant_of-self-in-Ok : goal.invariant_of-self-in-Ok
invariant_of-self-in-Ok g c = λ _.
    let k = ready g (goal.at.invariant_of-self-in-Ok g c).After-next_cell-place in
    let worn = c.self.inside.erases.items in
    let block = c.next_cell-place.result.block in
    let below : block < length worn = omega (
      arith,
      k.fit.in_range,
      ap length k.stands.erases_are,
      length-map
          (g.N.Nand.blocks c.self.inside.device) (λ (b : Block). b.erases),
    ) in
    let worn_read : c.index-erases.result.now ≡ get_or worn block 0 = get_or_read worn block c.index-erases.result.now below
    c.index-erases.ensures 0 in
    rw (
      c.program_page.ensures.shape,
      c.in-Ok.ensures.fails.well,
      c.in-Ok.ensures.blocks,
      c.left_open-still_open.ensures,
      c.close_when_filled.ensures,
      c.leave.ensures,
      c.valid-valid.ensures,
      c.map-in-Ok.ensures,
      c.bind.ensures,
      c.place-before.ensures.place,
      c.map.ensures,
      c.set.ensures,
      c.shape-pages.ensures,
      c.program_page.ensures.shape,
      worn_read,
    ) (stands_written c.args.page c.args.bytes k.stands k.fit k.in_list)

pub returns-in-Ok-clause-sound : goal.returns-in-Ok-clause-sound
returns-in-Ok-clause-sound g c = λ again. seen (invariant_of-self-in-Ok g c again)

pub returns-in-Ok-clause-placed : goal.returns-in-Ok-clause-placed
returns-in-Ok-clause-placed g c =
    let k = ready g (goal.at.returns-in-Ok-clause-placed g c).After-next_cell-place in
    record {
      cells = search rules;
      placing = search rules;
      pages = rw (c.in-Ok.ensures.blocks, c.bind.ensures, ← c.self.view_is)
          (contents_written c.args.page c.args.bytes k.stands k.fit k.in_list);
      free = rw (c.program_page.ensures.shape, c.in-Ok.ensures.blocks, ← c.self.view_is) (free_written c.args.bytes k.fit);
      closed = record {
        others = grind (arith, common_steps);
        closes = rw (
          ← c.self.view_is,
          c.in-Ok.ensures.blocks,
          c.close_when_filled.ensures,
          c.leave.ensures,
          c.valid-valid.ensures,
          c.map-in-Ok.ensures,
          c.bind.ensures,
          c.place-before.ensures.place,
          c.map.ensures,
          c.shape-pages.ensures,
          c.program_page.ensures.shape,
          k.is,
        )
            (closes_filled c.args.page c.args.bytes k.stands (rw k.is at k.fit));
      };
    }

pub returns-in-Err-clause-finds : goal.returns-in-Err-clause-finds
returns-in-Err-clause-finds g c = some_open (g.N.Nand.shape_of c.args.self.now.device).pages (g.N.Nand.blocks c.args.self.now.device)
    c.requires.free

pub returns-in-Ok-clause-finds : goal.returns-in-Ok-clause-finds
returns-in-Ok-clause-finds g c = some_open (g.N.Nand.shape_of c.args.self.now.device).pages (g.N.Nand.blocks c.args.self.now.device)
    c.requires.free

pub invariant_of-self : goal.invariant_of-self
invariant_of-self g c = grind (arith, common_steps)

pub returns-in-Err-clause-once : goal.returns-in-Err-clause-once
returns-in-Err-clause-once g c = grind (arith, common_steps)

pub returns-in-Err-clause-placed : goal.returns-in-Err-clause-placed
returns-in-Err-clause-placed g c = grind (arith, common_steps)

pub returns-in-Err-clause-sound : goal.returns-in-Err-clause-sound
returns-in-Err-clause-sound g c = grind (arith, common_steps)

pub returns-in-Err-clause-stays : goal.returns-in-Err-clause-stays
returns-in-Err-clause-stays g c = grind (arith, common_steps)

pub returns-in-Err-clause-ends : goal.returns-in-Err-clause-ends
returns-in-Err-clause-ends g c = grind (arith, common_steps)

pub returns-in-Ok-clause-once : goal.returns-in-Ok-clause-once
returns-in-Ok-clause-once g c = grind (arith, common_steps)

pub returns-in-Ok-clause-stays : goal.returns-in-Ok-clause-stays
returns-in-Ok-clause-stays g c = grind (arith, common_steps)

pub returns-in-Ok-clause-ends : goal.returns-in-Ok-clause-ends
returns-in-Ok-clause-ends g c = grind (arith, common_steps)
