use Rattle.std.proofs.Common.{◌≡◌}
use Rattle.page_map.proofs.Laying.{IsLaid}
use Rattle.flash_volume.proofs.placed_pages.PlacedPages.bind_all.Given as goal

abbrev pub invariant-loop-page : goal.invariant-loop-page
invariant-loop-page l = record { shape_is : l.self.shape ≡ l.fn.self.shape; so_far : IsLaid l.places l.self.places l.page }
