use Rattle.die_log.proofs.Life.Demanding.{full_stocked, full_starts, balances_full}
use Rattle.die_log.proofs.demands.full_starts_are_stocked.Goals as goal

pub returns : goal.returns
returns c = record { full = balances_full; stocked = full_starts; after = full_stocked }
