use Rattle.std.proofs.Common.{◌≡◌, ℕ, ◌<◌, length}
use Rattle.slot_types.specs.Places.{place_of}
use Rattle.page_map.proofs.map.PageMap.to_places.Given as goal

abbrev pub invariant-loop-page : goal.invariant-loop-page
invariant-loop-page l = record {
  len : length l.places.items ≡ length l.self.places;
  so_far : (k : ℕ) → k < l.page → place_of l.places.items k ≡ place_of l.self.places k;
}
