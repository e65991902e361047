use Rattle.std.proofs.Common.{count_by, ap, ◌∙◌}
use Rattle.slot_types.specs.Places.{is_in}
use Rattle.die_mount.specs.Scanned.{Scanned}
use Rattle.die_mount.proofs.PagesFound.{found_places}
use Rattle.die_mount.proofs.scan.Scan.valid.Goals as goal

pub returns : goal.returns
returns c = λ plan seen h. c.valid.ensures ∙ ap (λ (s : Scanned). count_by (is_in c.args.block) s.places) c.self.view_is
    ∙ ap (count_by (is_in c.args.block)) (found_places plan c.args.self.now seen h)
