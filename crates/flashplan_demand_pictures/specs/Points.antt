-- The points of a picture of what may be asked for.
use Rattle.std.specs.Prelude.{ℕ, ◌*◌, List, map}
use Rattle.std.specs.List.{range_with_len}
use Rattle.demand_rules.specs.Demand.{demand_in}
use Rattle.terms_texts.specs.declared.stores.DieTerms.{DieTerms}
use Rattle.flashplan_demand_pictures.specs.declared.sampling.Point.{Point}

-- what may be asked of an interval of this length
abbrev pub point_at : DieTerms → ℕ → Point
point_at made slots = record { slots = slots; demand = demand_in made.plan made.terms slots }

-- `count` points, at the multiples of `step`
abbrev pub points_of : DieTerms → (step count : ℕ) → List Point
points_of made step count = map (λ (n : ℕ). point_at made (n * step)) (range_with_len 0 count)
