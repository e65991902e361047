-- What is promised of an exact log is promised of what a pass has seen.
use Rattle.std.proofs.Common.{◌≡◌, List, ◌++◌, map, reverse, ap, ◌∙◌, subst}
use Rattle.std.proofs.lemmas.List.{reverse-append, map-append}
use Rattle.turn_lock.specs.Views.{SeesFitting}
use Rattle.die_log.specs.Model.Answers.{IsExact}
use Rattle.die_log.specs.Results.Promises.{KeepsPromises}
use Rattle.die_log.proofs.Promises.{keeps_promises, moment_promises}
use Rattle.die_service.specs.Logs.{DieCall, entry_of, log_of}
use Rattle.die_service.specs.Replies.{HasExactLog}
use Rattle.die_service.specs.Passes.{DieView, SeesPromised}
use Rattle.die_log.specs.Model.Start.{Start}

pub seen_promised : (start : Start) (seen : List DieCall) → HasExactLog start seen → KeepsPromises start (log_of seen)
seen_promised start seen h = keeps_promises start h.opens (log_of seen) h.exact

-- the log of calls and later ones
log_of_more : (first later : List DieCall) → log_of (first ++ later) ≡ log_of later ++ log_of first
log_of_more first later = ap reverse (map-append entry_of first later) ∙ reverse-append (map entry_of first) (map entry_of later)

pub beginning_promised : (start : Start) (first later : List DieCall) → HasExactLog start (first ++ later) → KeepsPromises start (log_of first)
beginning_promised start first later h = moment_promises start h.opens (log_of later) (log_of first)
    (subst (IsExact start) (log_of_more first later) h.exact)

pub sees_promised : (v : DieView) → SeesFitting HasExactLog v → SeesPromised v
sees_promised v fits = record { start = fits.0; about_is = fits.1; exact = fits.2; promised = seen_promised fits.0 v.seen fits.2 }
