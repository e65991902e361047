use Rattle.std.proofs.Common.{length-set, arith, ◌∙◌, refl, replicate}
use Rattle.hex.proofs.Pairs.{decode_start}
use Rattle.text_base.proofs.PageLaws.{read-all, read-more}
use Rattle.text_base.proofs.pages.clean_page.Goals as goal

pub loop-i-init : goal.loop-i-init
loop-i-init c = record { len = refl; read = λ _. decode_start c.args.digits.now (replicate 16 0) }

pub loop-i-preserved : goal.loop-i-preserved
loop-i-preserved c = record {
  len = length-set c.loop-i.bytes c.loop-i.i _ ∙ c.loop-i.invariant.len;
  read = λ small. read-more c.args.digits.now c.loop-i.bytes c.loop-i.i c.digit_value-high.result c.digit_value-low.result _
      (omega arith) (omega arith) (omega (arith, c.loop-i.invariant.len)) c.digit_value-high.ensures c.digit_value-low.ensures
      (omega (arith, small)) (omega (arith, small)) (omega arith) (c.loop-i.invariant.read (omega (arith, small)));
}

pub returns : goal.returns
returns c = read-all c.args.digits.now c.loop-i.bytes c.loop-i.i (omega arith) c.loop-i.invariant.len (omega arith)
    (c.loop-i.invariant.read (omega arith))
