use Rattle.std.proofs.Common.{◌≡◌, ◌≤◌, ◌<◌, ◌+◌, ℕ, ◌∙◌, refl, arith}
use Rattle.std.proofs.lemmas.Grind.{common_steps}
use Rattle.script_texts.specs.RowTexts.{row_text}
use Rattle.script_texts.specs.ScriptLeft.{ops_text}
use Rattle.task_script.proofs.Dealing.{few_more, few_none, of_reader, reads_end, reads_fault, reads_none, reads_row}
use Rattle.task_script.proofs.feeds.read_rows.Goals as goal

-- Numbers, apart from what else is known where they are compared

same_line : (n : ℕ) → n ≤ n
same_line n = omega arith

first_line : (n : ℕ) → n + 0 ≤ n
first_line n = omega arith

none_below : (n m : ℕ) → 0 < 0 → n ≤ m
none_below n m some = omega arith

later_line : (old n line row new : ℕ) → line ≤ row → new ≡ row + 1 → old + n ≤ line → old < new
later_line old n line row new up next later = omega arith

later_count : (old n line row new : ℕ) → line ≤ row → new ≡ row + 1 → old + n ≤ line → old + (n + 1) ≤ new
later_count old n line row new up next later = omega arith

few_lines : (row new : ℕ) → new ≡ row + 1 → row ≤ 1000001 → new ≤ 1000002
few_lines row new next few = omega arith

few_in_all : (dealt n : ℕ) → dealt ≤ n → n < 8192 → dealt ≤ 8192
few_in_all dealt n few more = omega arith

known_die : (die now dies long : ℕ) → die < now → now ≡ dies → long ≡ dies → die < long
known_die die now dies long below same all = omega arith

pub loop-init : goal.loop-init
loop-init g c = record {
  dies = refl;
  slots = refl;
  read = reads_none _ _ _ _ _ _ c.requires.empty (same_line _);
  few = few_none _ _ c.requires.empty;
  later = first_line _;
  below = none_below _ _;
}

pub returns-in-Ok-None-clause-rows : goal.returns-in-Ok-None-clause-rows
returns-in-Ok-None-clause-rows g c =
    reads_end _ _ _ _ _ _ _ _ _ (rw c.in-Ok-None.field-0-is at c.in-Ok-None.ensures.gives) c.loop.invariant.read

pub returns-in-Err-clause-rows : goal.returns-in-Err-clause-rows
returns-in-Err-clause-rows g c = reads_fault _ _ _ _ _ _ _ _ _ c.in-Err.refusal c.in-Err.ensures.gives c.loop.invariant.read

pub returns-in-Err-clause-failed : goal.returns-in-Err-clause-failed
returns-in-Err-clause-failed g c = of_reader _ _ c.in-Err.refusal c.in-Err.ensures.failed

pub returns-then-size-left-clause-more : goal.returns-then-size-left-clause-more
returns-then-size-left-clause-more g c =
    let lines = rw c.in-Ok-Some.field-0-is at c.in-Ok-Some.ensures.line in
    let few = rw c.in-Ok-Some.field-0-is at c.in-Ok-Some.ensures.few in
    (later_line _ _ _ _ _ lines.0 lines.1 c.loop.invariant.later, few_lines _ _ lines.1 few)

pub returns-then-size-left-clause-rows : goal.returns-then-size-left-clause-rows
returns-then-size-left-clause-rows g c =
    let head = rw c.in-Ok-Some.field-0-is at c.in-Ok-Some.ensures.row in
    let lines = rw c.in-Ok-Some.field-0-is at c.in-Ok-Some.ensures.line in
    let step = rw c.in-Ok-Some.field-0-is at c.in-Ok-Some.ensures.gives in
    let added = rw c.ops_text-ops.ensures at c.in_ok-add-in-Ok-Some.ensures.ok in
    reads_row _ _ _ _ _ _ _ _ _ _ (row_text c.in-Ok-Some.head (ops_text c.next_row.new.self)) _ _
    (rw (c.loop.invariant.dies, c.loop.invariant.slots) at head) lines c.index_mut.ensures.value added refl step c.loop.invariant.read

pub loop-preserved : goal.loop-preserved
loop-preserved g c =
    let head = rw c.in-Ok-Some.field-0-is at c.in-Ok-Some.ensures.row in
    let lines = rw c.in-Ok-Some.field-0-is at c.in-Ok-Some.ensures.line in
    let step = rw c.in-Ok-Some.field-0-is at c.in-Ok-Some.ensures.gives in
    let added = rw c.ops_text-ops.ensures at c.in_ok-add-in-Ok-Some.ensures.ok in
    let row = row_text c.in-Ok-Some.head (ops_text c.next_row.new.self) in
    let few = rw c.in-Ok-Some.field-0-is at c.in-Ok-Some.ensures.few in
    record {
      dies = c.next_row.ensures.dies ∙ c.loop.invariant.dies;
      slots = c.next_row.ensures.slots ∙ c.loop.invariant.slots;
      read = reads_row _ _ _ _ _ _ _ _ _ _ row _ _ (rw (c.loop.invariant.dies, c.loop.invariant.slots) at head) lines
          c.index_mut.ensures.value added refl step c.loop.invariant.read;
      few = few_more _ _ row _ _ _ (known_die _ _ _ _ head.0 c.loop.invariant.dies c.loop.invariant.read.dealt.all)
          c.index_mut.ensures.value added refl c.loop.invariant.few;
      later = later_count _ _ _ _ _ lines.0 lines.1 c.loop.invariant.later;
      below = λ some. few_lines _ _ lines.1 few;
    }

pub returns-clause-rows : goal.returns-clause-rows
returns-clause-rows g c = c.loop.invariant.read

pub returns-in-Ok-None-clause-few : goal.returns-in-Ok-None-clause-few
returns-in-Ok-None-clause-few g c = few_in_all _ _ c.loop.invariant.few c.loop-test.true

pub returns-in-Err-clause-few : goal.returns-in-Err-clause-few
returns-in-Err-clause-few g c = few_in_all _ _ c.loop.invariant.few c.loop-test.true

pub returns-then-size-left-clause-few : goal.returns-then-size-left-clause-few
returns-then-size-left-clause-few g c = grind (arith, common_steps)

pub returns-clause-dies : goal.returns-clause-dies
returns-clause-dies g c = c.loop.invariant.dies

pub returns-clause-slots : goal.returns-clause-slots
returns-clause-slots g c = c.loop.invariant.slots

pub returns-clause-few : goal.returns-clause-few
returns-clause-few g c = omega arith

pub overflow_sub-left : goal.overflow_sub-left
overflow_sub-left g c = omega arith

pub returns-in-Ok-None-clause-dies : goal.returns-in-Ok-None-clause-dies
returns-in-Ok-None-clause-dies g c = c.next_row.ensures.dies ∙ c.loop.invariant.dies

pub returns-in-Ok-None-clause-slots : goal.returns-in-Ok-None-clause-slots
returns-in-Ok-None-clause-slots g c = c.next_row.ensures.slots ∙ c.loop.invariant.slots

pub returns-in-Err-clause-dies : goal.returns-in-Err-clause-dies
returns-in-Err-clause-dies g c = c.next_row.ensures.dies ∙ c.loop.invariant.dies

pub returns-in-Err-clause-slots : goal.returns-in-Err-clause-slots
returns-in-Err-clause-slots g c = c.next_row.ensures.slots ∙ c.loop.invariant.slots

pub returns-then-size-left-clause-dies : goal.returns-then-size-left-clause-dies
returns-then-size-left-clause-dies g c = c.next_row.ensures.dies ∙ c.loop.invariant.dies

pub returns-then-size-left-clause-slots : goal.returns-then-size-left-clause-slots
returns-then-size-left-clause-slots g c = c.next_row.ensures.slots ∙ c.loop.invariant.slots

pub returns-in_err-add-in-Ok-Some-clause-dies : goal.returns-in_err-add-in-Ok-Some-clause-dies
returns-in_err-add-in-Ok-Some-clause-dies g c = c.next_row.ensures.dies ∙ c.loop.invariant.dies

pub returns-in_err-add-in-Ok-Some-clause-slots : goal.returns-in_err-add-in-Ok-Some-clause-slots
returns-in_err-add-in-Ok-Some-clause-slots g c = c.next_row.ensures.slots ∙ c.loop.invariant.slots
