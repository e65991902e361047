use Rattle.std.proofs.Common.{◌∙◌, Some, sym}
use Rattle.std.proofs.lemmas.Bool.{true≢false}
use Rattle.power_loss.specs.Aside.{part_of}
use Rattle.power_loss.specs.Recovery.{without_block}
use Rattle.device_mount.proofs.Keeping.{by_keeping, has_label, has_label_still, keeps_by, keeps_nowhere, keeps_there}
use Rattle.device_mount.proofs.undoing.keeps_page.Goals as goal

pub returns-in-None-clause-kept : goal.returns-in-None-clause-kept
returns-in-None-clause-kept g c = λ _ fit.
    let seen = (g.N.LabelledNand.labels c.args.part.now).blocks in
    keeps_nowhere (part_of c.args.plan.now) c.args.page seen c.args.without fit
    (c.in-None.ensures.newest (part_of c.args.plan.now) seen c.requires.before c.requires.page)

pub returns-then-place-without-clause-kept : goal.returns-then-place-without-clause-kept
returns-then-place-without-clause-kept g c = λ _ fit.
    let seen = (g.N.LabelledNand.labels c.args.part.now).blocks in
    keeps_there (part_of c.args.plan.now) c.args.page seen c.args.without c.in-Some.place fit
    (c.in-Some.ensures.newest (part_of c.args.plan.now) seen c.requires.before c.requires.page) c.if-place-without.true

pub has_same_bytes-requires-clause-one : goal.has_same_bytes-requires-clause-one
has_same_bytes-requires-clause-one g c =
    let seen = (g.N.LabelledNand.labels c.args.part.now).blocks in
    has_label c.args.page seen c.in-Some.place (sym (c.in-Some.ensures.newest (part_of c.args.plan.now) seen c.requires.before c.requires.page))

pub has_same_bytes-requires-clause-other : goal.has_same_bytes-requires-clause-other
has_same_bytes-requires-clause-other g c =
    let seen = (g.N.LabelledNand.labels c.args.part.now).blocks in
    has_label_still c.args.page seen c.args.without c.place-in-Some.result
    (c.place-in-Some.ensures.newest (part_of c.args.plan.now) (without_block c.args.without seen) c.requires.again c.requires.page)

pub returns-in-Ok-clause-kept : goal.returns-in-Ok-clause-kept
returns-in-Ok-clause-kept g c = λ is fit.
    let seen = (g.N.LabelledNand.labels c.args.part.now).blocks in
    keeps_by c.args.page seen c.args.without (Some c.in-Some.place) c.place-in-Some.result
    (c.in-Some.ensures.newest (part_of c.args.plan.now) seen c.requires.before c.requires.page)
    (c.place-in-Some.ensures.newest (part_of c.args.plan.now) (without_block c.args.without seen) c.requires.again c.requires.page)
    (c.in-Ok.ensures.bytes.0 is)

pub returns-in-Ok-clause-lost : goal.returns-in-Ok-clause-lost
returns-in-Ok-clause-lost g c = λ not_so keeps.
    let seen = (g.N.LabelledNand.labels c.args.part.now).blocks in
    true≢false (sym (c.in-Ok.ensures.bytes.1 (by_keeping c.args.page seen c.args.without (Some c.in-Some.place) c.place-in-Some.result
    (c.in-Some.ensures.newest (part_of c.args.plan.now) seen c.requires.before c.requires.page)
    (c.place-in-Some.ensures.newest (part_of c.args.plan.now) (without_block c.args.without seen) c.requires.again c.requires.page) keeps)) ∙ not_so)
