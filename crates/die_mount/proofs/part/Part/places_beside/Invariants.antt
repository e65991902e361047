use Rattle.std.proofs.Common.{◌≡◌, take}
use Rattle.std.specs.Prelude.{vec_capacity}
use Rattle.power_loss.specs.Aside.{on_die, renumbered_places}
use Rattle.die_mount.proofs.part.Part.places_beside.Given as goal

abbrev pub invariant-loop-page : goal.invariant-loop-page
invariant-loop-page l = record {
  so_far : l.places.items ≡ renumbered_places (on_die l.last l.aside) (take l.page l.self.cells.places);
  room : vec_capacity l.places ≡ vec_capacity l.fn.room;
}
