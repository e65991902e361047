use Rattle.terms_texts.proofs.TermsFronts.{refused-front, short-front, store-front}
use Rattle.terms_texts.proofs.ReadFaults.{refused-other, tells-none}
use Rattle.terms_texts.proofs.terms_reading.read_terms_from.Goals as goal

pub returns-clause-store : goal.returns-clause-store
returns-clause-store g c = store-front (g.R.Read.remaining c.args.reader.now) c.in_ok-text.text.items c.read_terms.result
    c.in_ok-text.ensures.text (rw c.deref.ensures.value at c.read_terms.ensures.ok)

pub returns-clause-short : goal.returns-clause-short
returns-clause-short g c = short-front (g.R.Read.remaining c.args.reader.now) c.read_terms.result
    (store-front (g.R.Read.remaining c.args.reader.now) c.in_ok-text.text.items c.read_terms.result c.in_ok-text.ensures.text
    (rw c.deref.ensures.value at c.read_terms.ensures.ok))

pub returns-clause-flag : goal.returns-clause-flag
returns-clause-flag g c = tells-none c.read_terms.result _ _ c.in_ok-text.ensures.flag
    (refused-other c.in_ok-text.text.items c.read_terms.result (rw c.deref.ensures.value at c.read_terms.ensures.err))

pub returns-clause-refused : goal.returns-clause-refused
returns-clause-refused g c = refused-front (g.R.Read.remaining c.args.reader.now) c.in_ok-text.text.items c.read_terms.result
    c.in_ok-text.ensures.text (rw c.deref.ensures.value at c.read_terms.ensures.err)
