-- One spare block more was tried, and failed.
use Rattle.std.proofs.Common.{◌≡◌, ◌≢◌, ℕ, ◌+◌, ◌*◌, ◌<◌, ◌≤◌, List, ap, sym, ◌∙◌, subst, arith}
use Rattle.spare_blocks.specs.Parts.{PartBlock, part_block}
use Rattle.spare_blocks.specs.Tables.{Table, IsTable, IsSpare, use_of, without_spare}
use Rattle.spare_blocks.specs.Trying.{IsUsedUp, IsOnlyAt, AreFree, cost_with}
use Rattle.spare_blocks.proofs.Numbers.{without_other, without_spares, spares_given_up, cost_less, cost_later}

-- what holds while spare blocks are tried
pub record IsTrying (first now : Table) (blocks_first blocks_now : List PartBlock) (pages total spent : ℕ) : Type 0 where
  pub used : IsUsedUp first now
  pub free : AreFree now blocks_now
  pub others : (x : ℕ) → (IsSpare first x → ⊥) → part_block blocks_now x ≡ part_block blocks_first x
  pub cost : cost_with pages now spent ≤ total

within : (a b c d k p : ℕ) → a + 2 * p ≡ b → b ≤ c + (2 * k + 1) → k < p → c ≤ d → a ≤ d
within a b c d k p e f g h = omega (arith, e, f, g, h)

pub tried_one : (first t u : Table) (blocks_first before after : List PartBlock) (pages total m n cells spare : ℕ) → IsTable t
    → IsUsedUp first t → AreFree t before
    → ((x : ℕ) → (IsSpare first x → ⊥) → part_block before x ≡ part_block blocks_first x)
    → cost_with pages t m ≤ total → IsSpare t spare → IsOnlyAt spare before after → n ≤ m + (2 * cells + 1) → cells < pages
    → u ≡ without_spare spare t → IsTrying first u blocks_first after pages total n
tried_one first t u blocks_first before after pages total m n cells spare s used free others cost is only one room e =
    subst (λ (v : Table). IsTrying first v blocks_first after pages total n) (sym e) (record {
      used = record {
        numbers = used.numbers;
        others = λ x other. without_other t s spare x (apart x other) ∙ used.others x other;
        spares = λ x has. used.spares x (without_spares t s spare x is has).1;
      };
      free = λ x has.
          let r = without_spares t s spare x is has in
          only x r.0 ∙ free x r.1;
      others = λ x other. only x (apart x other) ∙ others x other;
      cost = within (cost_with pages (without_spare spare t) n) (cost_with pages t n) (cost_with pages t m) total cells pages
          (cost_less pages n t (without_spare spare t) (spares_given_up t spare is))
          (cost_later pages t n m (2 * cells + 1) one) room cost;
    })
  where
    apart : (x : ℕ) → (IsSpare first x → ⊥) → x ≢ spare
    apart x other same = other (ap (use_of first) same ∙ used.spares spare is)
