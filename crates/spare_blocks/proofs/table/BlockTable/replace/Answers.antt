use Rattle.std.proofs.Common.{rules, ◌≡◌, ℕ, ◌<◌, length, set, sym, subst}
use Rattle.std.proofs.lemmas.List.{get_or_read}
use Rattle.spare_blocks.specs.declared.cells.BlockUse.TheVariants as use_as
use Rattle.spare_blocks.specs.Tables.{Table, IsTable, on_part}
use Rattle.spare_blocks.proofs.Numbers.{plan_within, replaced_sound}
use Rattle.spare_blocks.proofs.table.BlockTable.replace.Goals as goal

pub index_mut-requires : goal.index_mut-requires
index_mut-requires c =
    let t : Table = record { blocks = c.self.inside.blocks.items; uses = c.self.inside.uses.items } in
    let lt = rw (← c.self.view_is) at c.requires.block in
    let e : c.index-failed.result.now ≡ on_part t c.args.block = get_or_read t.blocks c.args.block c.index-failed.result.now lt c.index-failed.ensures 0 in
    let has : c.index-failed.result.now < length t.uses = subst (λ (x : ℕ). x < length t.uses) (sym e)
    (plan_within t (on_part t c.args.block) c.args.block (c.self.invariant.numbered c.args.block lt)) in
    search (rules, has)

pub invariant_of-self : goal.invariant_of-self
invariant_of-self c =
    let t : Table = record { blocks = c.self.inside.blocks.items; uses = c.self.inside.uses.items } in
    let b = c.args.block in
    let lt = rw (← c.self.view_is) at c.requires.block in
    let is = rw (← c.self.view_is) at c.requires.spare in
    let e : c.index-failed.result.now ≡ on_part t b = get_or_read t.blocks b c.index-failed.result.now lt c.index-failed.ensures 0 in
    subst (λ (x : ℕ). IsTable (record {
      blocks = set t.blocks b c.args.spare;
      uses = set (set t.uses x use_as.Bad) c.args.spare (use_as.InPlan b);
    })) (sym e) (replaced_sound t c.self.invariant b c.args.spare lt is)
