use Rattle.std.proofs.Common.{refl}
use Rattle.terms_texts.proofs.Written.{view-inserted}
use Rattle.terms_texts.proofs.writing.put.Goals as goal

pub returns-clause-ok : goal.returns-clause-ok
returns-clause-ok c = rw (c.in_ok-insert.ensures.entries, view-inserted c.in_ok-name.name c.args.value c.args.table.now.entries, c.in_ok-name.ensures.ok, c.name.ensures) refl
