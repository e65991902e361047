use Rattle.std.proofs.Common.{◌≡◌, ◌-◌, ◌∙◌, ℕ, length, refl, sym, ap, arith}
use Rattle.late_cert.specs.Schedule.{Slots}
use Rattle.late_cert.specs.BusyInterval.{start_of}
use Rattle.late_cert.proofs.Marks.{marks-start}
use Rattle.late_cert.proofs.Runs.{prefix-whole}
use Rattle.late_cert.proofs.Walking.{start-run, start-stays, marks-step, IsLastRun, last-run}
use Rattle.late_cert.proofs.busy_intervals.walk_back.Goals as goal
use Rattle.late_cert.proofs.busy_intervals.walk_back.Goals.{then-begin-start+in-Some, else-begin-start}

pub returns-then-end-completion-clause-marks : goal.returns-then-end-completion-clause-marks
returns-then-end-completion-clause-marks c = marks-start _ _ _ _ (c.in_ok-marks.ensures.items_if_clones_equal (λ y e. e))

pub loop-i-init : goal.loop-i-init
loop-i-init c = record {
  inside = omega arith;
  ends = c.len-end.ensures ∙ ap (λ (f : Slots). length f) (sym c.runs-runs.ensures) ∙ sym (prefix-whole c.runs-runs.result.now);
  reached = omega arith;
  ordered = omega arith;
  same = refl;
  marked = marks-start _ _ _ _ (c.in_ok-marks.ensures.items_if_clones_equal (λ y e. e));
}

pub overflow_sub-begin : goal.overflow_sub-begin
overflow_sub-begin c =
    (last-run c.runs-runs.result.now c.args.carried.now c.loop-i.i c.index-runs-i.result c.loop-i.end c.runs-runs.ensures (omega arith)
    c.loop-i.invariant.inside c.loop-i.invariant.ends c.index-runs-i.is).fits

pub returns-in_default-clause-start : goal.returns-in_default-clause-start
returns-in_default-clause-start c =
    let q : IsLastRun c.runs-runs.result.now c.args.carried.now c.loop-i.i c.index-runs-i.result c.loop-i.end =
    last-run c.runs-runs.result.now c.args.carried.now c.loop-i.i c.index-runs-i.result c.loop-i.end c.runs-runs.ensures (omega arith)
    c.loop-i.invariant.inside c.loop-i.invariant.ends c.index-runs-i.is in
    sym (c.loop-i.invariant.same
    ∙ start-stays c.args.rows.now c.args.carried.now c.args.job c.loop-i.start (c.loop-i.start - 1) c.index-runs-i.result.number
    (omega arith)
    (q.carries (c.loop-i.start - 1) (omega arith) (let r = c.loop-i.invariant.reached in omega arith)) c.in_default.ensures.outside)

pub loop-i-preserved : goal.loop-i-preserved
loop-i-preserved c =
    let q : IsLastRun c.runs-runs.result.now c.args.carried.now c.loop-i.i c.index-runs-i.result c.loop-i.end =
    last-run c.runs-runs.result.now c.args.carried.now c.loop-i.i c.index-runs-i.result c.loop-i.end c.runs-runs.ensures (omega arith)
    c.loop-i.invariant.inside c.loop-i.invariant.ends c.index-runs-i.is in
    let begin : ℕ = c.loop-i.end - c.index-runs-i.result.length in
    elim c.if-begin-start.branch [
      | then-begin-start+in-Some w ↦
          let same : c.if-begin-start.start ≡ begin = w.start-is in
          record {
            inside = omega arith;
            ends = q.begins;
            reached = omega arith;
            ordered = omega arith;
            same =
                c.loop-i.invariant.same
                ∙ start-run c.args.rows.now c.args.carried.now c.args.job begin c.loop-i.start c.index-runs-i.result.number (omega arith)
                (λ t a b. q.carries t a (omega arith)) w.in-Some.ensures.within
                ∙ ap (start_of c.args.rows.now c.args.carried.now c.args.job) (sym same);
            marked =
                rw (w.start-is, w.marks-is)
                (marks-step c.args.rows.now c.requires.rise c.args.carried.now c.args.job begin c.loop-i.start c.args.completion
                c.index-runs-i.result.number _ _
                c.loop-i.invariant.marked w.if-begin-start.true c.loop-i.invariant.ordered (λ t a b. q.carries t a (omega arith))
                w.in-Some.ensures.within w.in-Some.ensures.inside w.in-Some.ensures.named);
          }
      | else-begin-start w ↦
          let same : c.if-begin-start.start ≡ c.loop-i.start = w.start-is in
          record {
            inside = omega arith;
            ends = q.begins;
            reached = omega arith;
            ordered = omega arith;
            same = c.loop-i.invariant.same ∙ ap (start_of c.args.rows.now c.args.carried.now c.args.job) (sym same);
            marked = rw (w.start-is, w.marks-is) c.loop-i.invariant.marked;
          }
    ]
