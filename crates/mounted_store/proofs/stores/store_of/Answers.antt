use Rattle.std.proofs.lemmas.List.Elements.{All-weaker}
use Rattle.slot_core.specs.Core.{Core}
use Rattle.die_service.specs.Stores.{IsAtStart}
use Rattle.device_mount.specs.Mounted.{HasBegun}
use Rattle.mounted_store.proofs.stores.store_of.Goals as goal

-- A die that has begun is at its start.
pub reopen-requires : goal.reopen-requires
reopen-requires g c =
    record {
      start = All-weaker (λ (die : Core g.row.N.Denot). HasBegun die.start.plan die) (λ (die : Core g.row.N.Denot). IsAtStart die)
          (λ die begun. record { no_call = begun.begun; runs = begun.running }) c.args.dies.items c.requires.begun;
    }
