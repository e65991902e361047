use Rattle.planned_log.proofs.Kept.{collection_accepted, collection_goes_on, passed_goes_on}
use Rattle.planned_log.proofs.laws.own_collections_are_accepted.Goals as goal

pub returns : goal.returns
returns c = record { accepted = collection_accepted; kept = collection_goes_on; passed = passed_goes_on }
