use Rattle.std.proofs.Common.{◌≡◌, List, ◌++◌}
use Rattle.die_service.specs.Shares.{AreSharesOf}
use Rattle.die_service.specs.Posts.{PostState}
use Rattle.die_service.proofs.workers.share_out.Given as goal

abbrev pub invariant-loop-signal : goal.invariant-loop-signal
invariant-loop-signal g l =
    (given : List (PostState g.row.M.Denot g.row.B.Denot)) × (l.fn.posts.items ≡ given ++ l.left.items) × AreSharesOf g.M.Runner.runs given l.shares.items
