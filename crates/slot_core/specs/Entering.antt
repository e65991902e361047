-- What the log notes of a job or a collection that is accepted under a number.
use Rattle.std.specs.Prelude.{ℕ, Bool, if◌then◌else◌}
use Rattle.event_log.specs.declared.deeds.Deed.{Deed}
use Rattle.event_log.specs.declared.deeds.Deed.TheVariants.{Submit, Collect}

abbrev pub arrival_deed : Bool → ℕ → Deed
arrival_deed collects number = if collects then Collect number else Submit number
