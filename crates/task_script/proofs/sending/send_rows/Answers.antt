use Rattle.std.proofs.Common.{◌≡◌, ◌∙◌, ◌∷◌, ◌++◌, ◌<◌, [], List, ap, append_assoc, arith, length, length-append, subst, sym}
use Rattle.std.proofs.lemmas.Grind.{common_steps}
use Rattle.std.specs.Vec.Iter.{into_iter_items}
use Rattle.die_service.specs.Runners.{with_batch}
use Rattle.script_texts.specs.RowTexts.{RowText}
use Rattle.task_script.specs.RanScripts.{MayAllFollow, batch_with, sent_more}
use Rattle.task_script.proofs.Sent.{follow_long, next_follows, sent_next}
use Rattle.task_script.proofs.sending.send_rows.Goals as goal

pub send-requires : goal.send-requires
send-requires g c =
    let was = c.loop-own.invariant in
    let parts = was.rows ∙ ap (λ (xs : List (List RowText)). c.loop-own.yielded ++ xs) c.in-Some.ensures.steps.0 in
    rw (was.sent, was.place) (next_follows c.args.until c.loop-own.yielded _ c.in-Some.own c.args.run.now
    (subst (λ (rows : List (List RowText)). MayAllFollow c.args.until rows c.args.run.now) parts c.requires.follow))

pub loop-own-preserved : goal.loop-own-preserved
loop-own-preserved g c =
    let was = c.loop-own.invariant in
    let own = c.in-Some.own in
    let parts = was.rows ∙ ap (λ (xs : List (List RowText)). c.loop-own.yielded ++ xs) c.in-Some.ensures.steps.0 in
    let below : length c.loop-own.yielded < length c.args.run.now = omega (
      arith,
      follow_long c.args.until c.args.rows.items c.args.run.now c.requires.follow,
      ap length parts,
      length-append c.loop-own.yielded (own ∷ into_iter_items c.next.new.self),
    ) in record {
      can_next = tt;
      is_finite = tt;
      rows = parts ∙ sym (append_assoc c.loop-own.yielded (own ∷ []) _);
      place = omega (arith, length-append c.loop-own.yielded (own ∷ []), was.place);
      sent = c.send.ensures ∙ ((λ i. with_batch (was.place i) (batch_with c.args.until own) (was.sent i))
          ∙ sent_next c.args.until c.loop-own.yielded own c.args.run.now below);
    }

pub returns : goal.returns
returns g c =
    let all : c.args.rows.items ≡ c.loop-own.yielded = grind (arith, common_steps) in
    c.loop-own.invariant.sent ∙ ap (λ rows. sent_more c.args.until rows c.args.run.now) (sym all)
