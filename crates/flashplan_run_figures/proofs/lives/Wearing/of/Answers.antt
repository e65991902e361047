use Rattle.std.proofs.Common.{◌≡◌, ◌≤◌, ℕ, List, [], drop, length, take, ◌∙◌, sym, ap, arith}
use Rattle.std.specs.Prelude.{fold, max, min, sum}
use Rattle.std.proofs.lemmas.Grind.{common_steps}
use Rattle.flashplan_run_figures.specs.SlotCounts.{capped}
use Rattle.flashplan_run_figures.proofs.lives.Wearing.of.Goals as goal

none_left : (xs : List ℕ) (n : ℕ) → length xs ≤ n → drop n xs ≡ []
none_left xs n all = grind (arith, common_steps)

all_taken : (xs : List ℕ) (n : ℕ) → length xs ≤ n → take n xs ≡ xs
all_taken xs n all = grind (arith, common_steps)

pub returns : goal.returns
returns c =
    let all : length c.args.erases.now ≤ c.loop-count.count-index = c.loop-count-test.false in
    let taken = all_taken c.args.erases.now c.loop-count.count-index all in
    let left = none_left c.args.erases.now c.loop-count.count-index all in
    record {
      slots_are = c.loop-count.invariant.slots;
      erases_are = c.loop-count.invariant.erases ∙ ap (λ (xs : List ℕ). capped (sum xs)) taken;
      blocks_are = c.loop-count.invariant.blocks ∙ ap (λ (xs : List ℕ). capped (length xs)) taken;
      least_is = sym (ap (fold min c.loop-count.wearing.least) left) ∙ c.loop-count.invariant.least;
      greatest_is = sym (ap (fold max c.loop-count.wearing.greatest) left) ∙ c.loop-count.invariant.greatest;
    }
