use Rattle.std.proofs.Common.{rules, ◌≡◌, false}
use Rattle.script_texts.proofs.RowItems.{job-read}
use Rattle.script_texts.proofs.ScriptPages.{put_read}
use Rattle.script_texts.proofs.script_rows.read_ops.Goals as goal

pub returns-then-not-head-clause-item : goal.returns-then-not-head-clause-item
returns-then-not-head-clause-item g c =
    let job : c.args.head.now.job.collects ≡ false = search rules in
    job-read c.args.head.now c.args.text.now (g.O.WordSink.items c.put_ops.new.ops) c.put_ops.result job c.put_ops.ensures.ops

pub returns-then-not-head-clause-pages : goal.returns-then-not-head-clause-pages
returns-then-not-head-clause-pages g c =
    let job : c.args.head.now.job.collects ≡ false = search rules in
    put_read c.put_ops.result c.args.head.now.line c.args.text.now (g.O.WordSink.items c.put_ops.new.ops) c.args.head.now.job job c.put_ops.ensures.ops
