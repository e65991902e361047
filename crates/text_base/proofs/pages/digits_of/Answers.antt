use Rattle.std.proofs.Common.{ℕ, ◌*◌, ◌∙◌, ap, arith, length-set, set, slice_index}
use Rattle.std.proofs.lemmas.Nat.{and_mask}
use Rattle.hex.specs.Hex.{lower_digits}
use Rattle.hex.proofs.Pairs.{encode_done, encode_step}
use Rattle.text_base.proofs.pages.digits_of.Goals as goal

pub loop-i-preserved : goal.loop-i-preserved
loop-i-preserved c =
    let byte : ℕ = slice_index c.args.page.now.0 c.loop-i.i in
    record {
      len = length-set (set c.loop-i.digits (2 * c.loop-i.i) c.digit.result) _ _ ∙ length-set c.loop-i.digits _ _ ∙ c.loop-i.invariant.len;
      made = encode_step lower_digits c.args.page.now.0 c.loop-i.digits c.loop-i.i _ _ (omega arith) (omega arith) c.digit.ensures
          (c.digit-in-loop-i.ensures ∙ ap (λ (k : ℕ). slice_index lower_digits k) (and_mask byte 4)) c.loop-i.invariant.made;
    }

pub returns : goal.returns
returns c = encode_done lower_digits c.args.page.now.0 c.loop-i.digits c.loop-i.i (omega arith) (omega arith) c.loop-i.invariant.made
