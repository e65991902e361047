use Rattle.std.proofs.Common.{◌≡◌}
use Rattle.page_map.proofs.Laying.{IsLaid}
use Rattle.page_map.proofs.map.PageMap.of_places.Given as goal

abbrev pub invariant-loop-page : goal.invariant-loop-page
invariant-loop-page l = record { shape_is : l.map.shape ≡ l.fn.shape; so_far : IsLaid l.fn.places l.map.places l.page }
