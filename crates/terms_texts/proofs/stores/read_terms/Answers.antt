use Rattle.terms_texts.proofs.StoreLaws.{store_few, store_some, store_usable}
use Rattle.terms_texts.proofs.stores.read_terms.Goals as goal

pub returns-clause-some : goal.returns-clause-some
returns-clause-some c = store_some _ c.store_of.result c.store_of.ensures.ok

pub returns-clause-few : goal.returns-clause-few
returns-clause-few c = store_few _ c.store_of.result c.store_of.ensures.ok

pub returns-clause-usable : goal.returns-clause-usable
returns-clause-usable c = store_usable _ c.store_of.result c.store_of.ensures.ok
