use Rattle.std.proofs.Common.{length, sym, ap, ◌∙◌}
use Rattle.die_service.proofs.Feeding.{length_feed}
use Rattle.die_service.proofs.feeds.Feed.len.Goals as goal

pub returns : goal.returns
returns c = let f = c.self.inside in
    c.len.ensures ∙ f.rows.ok.0 ∙ sym (length_feed f.ops 0 f.rows.items) ∙ ap length c.self.view_is
