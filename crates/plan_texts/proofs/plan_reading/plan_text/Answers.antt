use Rattle.std.proofs.Common.{rules, ◌≡◌, List, ℕ, length, sym, subst}
use Rattle.std.specs.Io.KnownBytes.{Consumes}
use Rattle.std.proofs.KnownBytes.{Consumes-trans}
use Rattle.plan_texts.proofs.PlanFronts.{read-first, read-whole}
use Rattle.plan_texts.proofs.plan_reading.plan_text.Goals as goal

pub returns-then-more-eq0-clause-text : goal.returns-then-more-eq0-clause-text
returns-then-more-eq0-clause-text g c =
    let got : List ℕ = c.read_more.new.text.items in
    let more = c.in_ok-more.ensures.more in
    let read : Consumes (g.R.Read.remaining c.args.reader.now) (g.R.Read.remaining c.read_more.new.reader) got =
    subst (Consumes (g.R.Read.remaining c.args.reader.now) (g.R.Read.remaining c.read_more.new.reader)) (sym more.1)
    (Consumes-trans _ _ _ _ _ c.loop-reader.invariant.read more.3) in
    read-whole (g.R.Read.remaining c.args.reader.now) (g.R.Read.remaining c.read_more.new.reader) got read (more.4 c.if-more-eq0.true)
    c.in_ok-more.ensures.room

pub returns-clause-text : goal.returns-clause-text
returns-clause-text g c =
    let full : length c.loop-reader.text.items ≡ 1048577 = search rules in
    read-first (g.R.Read.remaining c.args.reader.now) (g.R.Read.remaining c.loop-reader.reader) c.loop-reader.text.items
    c.loop-reader.invariant.read full
