use Rattle.std.proofs.Common.{ap}
use Rattle.flashplan_keeping.proofs.Fronts.{front_read}
use Rattle.flashplan_keeping.proofs.whole_texts.script_text.Goals as goal

pub returns-in-Ok : goal.returns-in-Ok
returns-in-Ok g c =
    front_read (g.R.Read.remaining c.take-front.result.inner) (g.R.Read.remaining c.args.reader) c.take-front.result.limit
    c.new-text.result.items c.read_to_end.new.buf.items (ap g.R.Read.remaining c.take-front.ensures.inner) c.new-text.ensures.items
    c.take-front.ensures.limit c.in-Ok.ensures.bytes
