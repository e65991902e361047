use Rattle.std.proofs.Common.{List, arith, subst, sym, ◌∙◌}
use Rattle.std.specs.List.{AllZip}
use Rattle.flashplan_kept_runs.specs.KeptDies.{BeginsBy, KeptStart, kept_of}
use Rattle.flashplan_kept_runs.proofs.FreshDies.{as_many}
use Rattle.flashplan_kept_runs.proofs.store_runs.run_lent.Goals as goal

pub run_dies-requires-clause-dies : goal.run_dies-requires-clause-dies
run_dies-requires-clause-dies g c =
    c.requires.dies ∙ as_many kept_of BeginsBy c.args.plans c.in_ok-dies.dies.items c.in_ok-dies.ensures.begin

pub report_of-requires : goal.report_of-requires
report_of-requires g c =
    omega (
      arith,
      c.requires.few_dies,
      c.run_dies.ensures.count,
      as_many kept_of BeginsBy c.args.plans c.in_ok-dies.dies.items c.in_ok-dies.ensures.begin,
    )

pub returns-clause-begin : goal.returns-clause-begin
returns-clause-begin g c =
    subst (λ (all : List KeptStart). AllZip BeginsBy c.args.plans all) (sym c.run_dies.ensures.begins) c.in_ok-dies.ensures.begin
