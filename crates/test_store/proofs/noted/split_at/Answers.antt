use Rattle.std.proofs.Common.{map, slice_get, option_map, Some, ap, sym, ◌∙◌}
use Rattle.std.proofs.Math.Seq.{map-set_same}
use Rattle.std.proofs.lemmas.Option.{slice_get-map, slice_get-get_or}
use Rattle.std.proofs.lemmas.Result.{IfOk-weaker}
use Rattle.test_store.proofs.noted.split_at.Goals as goal

pub returns-clause-same : goal.returns-clause-same
returns-clause-same g c = map-set_same (λ pass. pass.lock) c.args.passes.now c.args.number c.split.new.pass _ c.split.ensures.same
    ∙ c.requires

pub returns-clause-own : goal.returns-clause-own
returns-clause-own g c =
    IfOk-weaker c.split.result _ _ (λ made e.
    ap (λ locks. slice_get locks c.args.number) (sym c.requires)
    ∙ slice_get-map (λ pass. pass.lock) c.args.passes.now c.args.number
    ∙ ap (option_map (λ pass. pass.lock)) (slice_get-get_or c.args.passes.now c.args.number _ c.if-place-passes.false)
    ∙ ap Some (sym e)
    ) c.split.ensures.own
