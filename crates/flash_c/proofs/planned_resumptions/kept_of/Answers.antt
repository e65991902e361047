use Rattle.std.proofs.Common.{◌∙◌}
use Rattle.flash_c.proofs.KeptMounts.{balances_full, keeps_boxed, memory_stocks, refuses_boxed, stocked_boxed}
use Rattle.flash_c.proofs.planned_resumptions.kept_of.Goals as goal

pub returns-in-Err-clause-refused : goal.returns-in-Err-clause-refused
returns-in-Err-clause-refused c = λ other. absurd (other c.no_memory.ensures)

pub returns-in-Err-clause-stocked : goal.returns-in-Err-clause-stocked
returns-in-Err-clause-stocked c = memory_stocks c.no_memory.result c.no_memory.ensures

pub returns-in-Err-copy_of-clause-refused : goal.returns-in-Err-copy_of-clause-refused
returns-in-Err-copy_of-clause-refused c = λ other. absurd (other c.no_memory-in-Err-copy_of.ensures)

pub returns-in-Err-copy_of-clause-stocked : goal.returns-in-Err-copy_of-clause-stocked
returns-in-Err-copy_of-clause-stocked c = memory_stocks c.no_memory-in-Err-copy_of.result c.no_memory-in-Err-copy_of.ensures

pub returns-clause-made : goal.returns-clause-made
returns-clause-made c = keeps_boxed c.args.mount.now c.in-Ok.end c.in-Ok-copy_of.plan c.args.terms c.args.longest c.in-Ok.ensures.end
    (c.in-Ok-copy_of.ensures.plan ∙ c.plan.ensures) c.boxed.result c.mounted.result (λ b. b.value) c.args.names.now c.requires.ended
    c.boxed.ensures.ok c.mounted.ensures.goes_on c.mounted.ensures.part c.mounted.ensures.room

pub returns-clause-refused : goal.returns-clause-refused
returns-clause-refused c = refuses_boxed c.args.mount.now c.in-Ok.end c.in-Ok-copy_of.plan c.args.terms c.args.longest c.in-Ok.ensures.end
    (c.in-Ok-copy_of.ensures.plan ∙ c.plan.ensures) c.boxed.result c.mounted.result c.boxed.ensures.refused c.mounted.ensures.refused

pub returns-clause-stocked : goal.returns-clause-stocked
returns-clause-stocked c = stocked_boxed c.boxed.result c.mounted.result c.boxed.ensures.refused
    (c.mounted.ensures.stocked (balances_full c.args.mount.now c.in-Ok.end c.in-Ok-copy_of.plan c.args.terms c.args.longest c.in-Ok.ensures.end
    (c.in-Ok-copy_of.ensures.plan ∙ c.plan.ensures)))
