-- Heads that are waived one after the other.
use Rattle.std.specs.Prelude.{List, [], ◌∷◌}
use Rattle.slot_types.specs.declared.replies.Waived.{Waived}
use Rattle.job_table.specs.Order.{IsHead}
use Rattle.job_table.specs.Table.{Table}
use Rattle.job_table.specs.Waivers.{jobs_after_waiver, jobs_after_waivers}

-- the table with these waived
abbrev pub with_waived : Table → List Waived → Table
with_waived table ws = record table { jobs = jobs_after_waivers table.jobs ws }

-- each of these is the head, once those before it are waived
abbrev pub WereHeads : Table → List Waived → Type 0
WereHeads table [] = Unit {0}
WereHeads table (w ∷ ws) = IsHead table w.number × WereHeads (record table { jobs = jobs_after_waiver table.jobs w }) ws
