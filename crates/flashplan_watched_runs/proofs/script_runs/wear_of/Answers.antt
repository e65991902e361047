use Rattle.flashplan_script_runs.specs.RunningDies.{starts_of}
use Rattle.std.proofs.Common.{map}
use Rattle.flashplan_watched_runs.specs.Runs.{begun}
use Rattle.flashplan_watched_runs.proofs.WornDies.{is_wear_text}
use Rattle.flashplan_watched_runs.proofs.script_runs.wear_of.Goals as goal

pub returns-clause-text : goal.returns-clause-text
returns-clause-text g c = λ text is.
    is_wear_text (starts_of (map begun c.args.dies.items)) text c.args.slots _ c.of-counts.result _ c.in_ok-tallies.tallies.items
    c.in_ok-text.text.items (c.in_ok-dies.ensures.ran text is) (rw c.deref.ensures.value at c.of-counts.ensures) c.in_ok-tallies.ensures.tallies
    (c.in_ok-dies.ensures.well c.requires.well) c.in_ok-tallies.ensures.worn (rw c.deref-2.ensures.value at c.in_ok-text.ensures.text)
