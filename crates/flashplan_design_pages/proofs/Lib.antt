pub mod PlanBounds
