use Rattle.part_mount.proofs.Cuts.{shows_at_end, shows_in_call}
use Rattle.part_mount.proofs.laws.a_part_may_be_cut_anywhere.Goals as goal

pub returns-clause-in_calls : goal.returns-clause-in_calls
returns-clause-in_calls g c = λ pages seen later now after w sound well goes step sees.
    shows_in_call g.N.Nand.shape_of g.N.Nand.blocks g.N.LabelledNand.labels g.N.Nand.failures pages seen later now w (sound.on well) goes sees after step

pub returns-clause-at_end : goal.returns-clause-at_end
returns-clause-at_end g c = λ pages seen later now w sound well goes done sees.
    shows_at_end g.N.Nand.shape_of g.N.Nand.blocks g.N.LabelledNand.labels g.N.Nand.failures pages seen later now w (sound.on well) goes sees done
