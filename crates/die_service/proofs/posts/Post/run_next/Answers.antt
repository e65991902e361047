use Rattle.std.proofs.Common.{◌∙◌, List, subst, sym}
use Rattle.std.specs.List.{FoldsTo}
use Rattle.die_service.proofs.posts.Post.run_next.Goals as goal

pub returns : goal.returns
returns g c =
    let a = c.is_empty.ensures.looked.0 in
    let b = c.run_known.ensures.same.0 in
    rw (← c.self.view_is) (
      ((b.0.0 ∙ a.0.0, b.0.1 ∙ a.0.1, b.0.2 ∙ a.0.2, b.0.3 ∙ a.0.3), b.1 ∙ a.1),
      λ first ran. c.run_known.ensures.same.1 first
          (subst (λ (batches : List g.row.B.Denot). FoldsTo g.M.Runner.runs first batches c.self.inside.runner) (sym c.is_empty.ensures.looked.1) ran),
    )
