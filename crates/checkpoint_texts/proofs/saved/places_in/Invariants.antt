use Rattle.std.proofs.Common.{◌≡◌, ◌++◌, drop}
use Rattle.checkpoint_texts.specs.SavedDies.{places_of}
use Rattle.checkpoint_texts.proofs.saved.places_in.Given as goal

abbrev pub invariant-loop-page : goal.invariant-loop-page
invariant-loop-page l = l.places ++ places_of (drop l.page-index l.pages) ≡ places_of l.pages
