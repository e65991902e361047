use Rattle.checkpoint_texts.proofs.LineLaws.{die-on-ok}
use Rattle.checkpoint_texts.proofs.writing.put_die.Goals as goal

pub returns : goal.returns
returns c =
    die-on-ok c.put_end.result c.args.number c.args.die.now c.args.text.now.items _ _ _ _
    (rw c.as_slice.ensures at c.in_ok-put_pages.ensures) (rw c.as_slice-2.ensures at c.in_ok-put_blocks.ensures)
    (rw c.as_slice-3.ensures at c.in_ok-put_tasks.ensures) c.put_end.ensures
