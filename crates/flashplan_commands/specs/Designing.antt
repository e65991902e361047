-- The page of a datasheet that is printed.
use Rattle.std.specs.Prelude.{ℕ, List, Option}
use Rattle.std.specs.Io.KnownBytes.{Appends}
use Rattle.flashplan_design_pages.specs.Pages.{IsPageFor}
use Rattle.flashplan_commands.specs.PlanKinds.{IsReadOf}

-- the page has a plan of the datasheet that was read, which passes its test, and a run of it
pub record IsDesignOf (sheet : Option (List ℕ)) (page : List ℕ) : Type 0 where
  pub text : List ℕ
  pub read : IsReadOf sheet text
  pub designed : IsPageFor text page

-- such a page is printed
pub record PrintsDesign (sheet old new : Option (List ℕ)) : Type 0 where
  pub page : List ℕ
  pub designed : IsDesignOf sheet page
  pub written : Appends old new page
