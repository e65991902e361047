-- The pages that come in a number of slots.
use Rattle.std.proofs.Common.{ℕ, ◌*◌, ◌≤◌, subst}
use Rattle.std.proofs.Math.Nat.{mul_left_comm}

pub paced : (pages slots slot_us most : ℕ) → slots * (pages * slot_us) ≤ most → pages * (slots * slot_us) ≤ most
paced pages slots slot_us most h = subst (λ n. n ≤ most) (mul_left_comm slots pages slot_us) h
