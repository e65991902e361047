use Rattle.std.proofs.Common.{List, refl, ap, ◌∙◌}
use Rattle.slot_types.specs.declared.pages.PageData.{PageData}
use Rattle.slot_core.specs.Core.{Core}
use Rattle.slot_core.specs.Resumptions.{start_with}
use Rattle.stepped_die.specs.declared.mirror.MirrorNand.{MirrorNand}
use Rattle.stepped_die.proofs.Naming.{is_as_left, left_named}
use Rattle.stepped_die.proofs.die.SteppedDie.resume.Goals as goal

pub resume-requires : goal.resume-requires
resume-requires c = record {
  left = λ shape fits. rw c.in-Ok-left.ensures.left (is_as_left c.args.checkpoint.now c.args.names.now);
}

pub returns-in-Ok-resume-clause-ok : goal.returns-in-Ok-resume-clause-ok
returns-in-Ok-resume-clause-ok c =
    let ok = c.in-Ok-resume.ensures.ok in
    record {
      start = ap (λ (core : Core MirrorNand). core.start) ok
          ∙ ap (λ (pages : List PageData). start_with c.args.plan c.args.checkpoint.now pages)
          (left_named c.args.plan c.args.checkpoint.now c.args.names.now c.in-Ok-left.mirror c.in-Ok-left.mirror c.in-Ok-resume.ensures.fits
          refl c.in-Ok-left.ensures.left);
      device = ap (λ (core : Core MirrorNand). core.device) ok
          ∙ (λ i. record { memory = c.in-Ok-left.ensures.left i });
      runs = ap (λ (core : Core MirrorNand). core.stopped) ok;
      reserves = ap (λ (core : Core MirrorNand). core.reserved) ok;
      lasts = ap (λ (core : Core MirrorNand). core.lasting) ok;
      log = ap (λ (core : Core MirrorNand). core.log) ok;
      idle = refl;
    }
