use Rattle.flashplan_commands.proofs.Verdicts.{says-terms, says-times}
use Rattle.flashplan_commands.proofs.keeping.kept_of.Goals.{in-Plain+in_ok-kept-in-Plain, in-WithTerms+in_ok-kept-in-WithTerms}
use Rattle.flashplan_commands.proofs.keeping.kept_of.Goals as goal

pub returns : goal.returns
returns g c =
    let plan = g.P.Read.remaining c.args.plan in
    let script = g.S.Read.remaining c.args.script in
    let text = c.in_ok-text.text.items in
    let keeps = c.match-read-2.kept.keeps in
    record {
      said = elim c.match-read-2.branch [
        | in-Plain+in_ok-kept-in-Plain w ↦
            let read = rw w.in-Plain.is at c.in_ok-read.ensures in
            says-times plan script c.args.slots w.in-Plain.store text keeps read.kind read.made c.in_ok-text.ensures
            (rw (w.deref.ensures.value, ← w.kept-is) at w.in_ok-kept-in-Plain.ensures)
        | in-WithTerms+in_ok-kept-in-WithTerms w ↦
            let read = rw w.in-WithTerms.is at c.in_ok-read.ensures in
            says-terms plan script c.args.slots w.in-WithTerms.store text keeps read.kind read.made c.in_ok-text.ensures
            (rw (w.deref-in-WithTerms.ensures.value, ← w.kept-is) at w.in_ok-kept-in-WithTerms.ensures)
      ];
    }
