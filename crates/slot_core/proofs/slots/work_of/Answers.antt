use Rattle.std.proofs.Common.{◌≡◌, ◌∙◌, sym, subst, length, take, count_by}
use Rattle.std.proofs.lemmas.Option.{same_Some}
use Rattle.job_table.specs.Jobs.{JobRecord, is_read}
use Rattle.slot_core.proofs.slots.work_of.Goals as goal

pub returns-in-Some-clause-reads : goal.returns-in-Some-clause-reads
returns-in-Some-clause-reads c = λ job at.
    subst (λ (j : JobRecord). length j.reads ≡ count_by is_read (take j.work j.ops)) (same_Some _ _ (sym c.in-Some.ensures ∙ at))
    c.work.ensures.reads
