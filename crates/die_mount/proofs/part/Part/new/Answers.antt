use Rattle.std.proofs.Common.{refl}
use Rattle.die_mount.proofs.Parts.{all_closed}
use Rattle.die_mount.proofs.part.Part.new.Goals as goal

pub returns-clause-ok : goal.returns-clause-ok
returns-clause-ok c = all_closed c.args.shape c.args.map.places c.in_ok-blocks.blocks.items c.args.first _ _
    (c.in_ok-blocks.ensures.items_if_clones_equal (λ _ same. same)) refl refl
