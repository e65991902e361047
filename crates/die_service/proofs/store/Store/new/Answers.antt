use Rattle.std.proofs.lemmas.List.Elements.{All-from_recursion}
use Rattle.turn_lock.specs.Views.{IsLive}
use Rattle.die_service.specs.Stores.{DiePass}
use Rattle.die_service.proofs.Making.{first_live}
use Rattle.die_service.proofs.store.Store.new.Goals as goal

pub returns-clause-live : goal.returns-clause-live
returns-clause-live g c = All-from_recursion (λ (p : DiePass). IsLive p.view) _ (first_live _ _ c.in_ok-made.ensures.first)
