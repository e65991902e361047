use Rattle.die_service.proofs.Lists.{log_of_calls}
use Rattle.die_service.proofs.book.DieBookBook.ask.Goals as goal

pub returns-in-Outcome : goal.returns-in-Outcome
returns-in-Outcome g c = rw (c.in-Outcome.is, log_of_calls c.args.self.now.log, ← c.self.view_is, ← c.deref.ensures) (record {
  ok = c.outcome.ensures.ok;
  unknown = c.outcome.ensures.unknown;
  nothing = c.outcome.ensures.nothing;
  refused = c.outcome.ensures.refused;
})

pub returns-in-Worst : goal.returns-in-Worst
returns-in-Worst g c = rw (c.in-Worst.is, log_of_calls c.args.self.now.log, ← c.self.view_is, ← c.deref-in-Worst.ensures) c.worst.ensures

pub returns-in-Certificate : goal.returns-in-Certificate
returns-in-Certificate g c = rw (c.in-Certificate.is, log_of_calls c.args.self.now.log, ← c.self.view_is, ← c.deref-in-Certificate.ensures)
    (record {
      ok = c.certificate.ensures.ok;
      none = c.certificate.ensures.none;
      worst = c.certificate.ensures.worst;
      holds = c.certificate.ensures.holds;
      binds = c.certificate.ensures.binds;
      nothing = c.certificate.ensures.nothing;
      refused = c.certificate.ensures.refused;
    })

pub returns-in-Now : goal.returns-in-Now
returns-in-Now g c = rw (c.in-Now.is, log_of_calls c.args.self.now.log, ← c.self.view_is, ← c.deref-in-Now.ensures) c.now.ensures
