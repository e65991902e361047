-- The filling history: jobs and waived collections until nothing is spare; and the same with one write less.
use Rattle.std.proofs.Common.{◌≡◌, ℕ, ◌+◌, List, [], ◌∷◌, ◌++◌, map, Some, None, refl, pos}
use Rattle.slot_types.specs.declared.events.Event.{Event}
use Rattle.die_log.specs.Model.Log.{Log, now, waived_collections}
use Rattle.die_log.specs.Model.Flash.{cells, valid_pages, free}
use Rattle.die_log.specs.Model.Accounts.{accounts}
use Rattle.die_log.specs.Model.Work.{completion, owed_writes}
use Rattle.die_log.specs.Model.Answers.{run, answer}
use Rattle.die_log.proofs.Worked.Plans.{tight, amounts, submit, collect, slot, put, numbers, worst_of, programs}

-- a collection that is waived in its slot, and then more calls
abbrev waiver : ℕ → List (ℕ × Event) → List (ℕ × Event)
waiver at rest = collect at (at + 1) ∷ slot ∷ rest

-- a job that writes two pages, and its slots
abbrev writer : ℕ → ℕ → List (ℕ × Event)
writer at page = submit at (at + 2) (put page ∷ put 4 ∷ []) ∷ slot ∷ slot ∷ []

abbrev pub opening_calls : List (ℕ × Event)
opening_calls =
    submit 0 100 (put 0 ∷ put 1 ∷ put 4 ∷ put 4 ∷ []) ∷ slot ∷ slot ∷ slot ∷ slot
    ∷ waiver 4 (writer 5 2) ++ waiver 7 (writer 8 4) ++ waiver 10 (writer 11 3) ++ waiver 13 (writer 14 4)

abbrev pub full_calls : List (ℕ × Event)
full_calls = opening_calls ++ waiver 16 (writer 17 4)

abbrev pub full : Log
full = run tight [] full_calls

-- the same with one write less
abbrev pub one_less : Log
one_less = run tight [] (opening_calls ++ waiver 16 (submit 17 19 (put 4 ∷ []) ∷ slot ∷ []))

carries : numbers full ≡ Some 0 ∷ Some 0 ∷ Some 0 ∷ Some 0 ∷ None ∷ Some 2 ∷ Some 2 ∷ None ∷ Some 4 ∷ Some 4 ∷ None ∷ Some 6 ∷ Some 6 ∷ None
    ∷ Some 8 ∷ Some 8 ∷ None ∷ Some 10 ∷ Some 10 ∷ []
unfolding answer
carries = refl

gives : map {B = ℕ × ℕ} (λ w. (w.number, w.given)) (waived_collections full) ≡ (1, 2) ∷ (3, 2) ∷ (5, 2) ∷ (7, 2) ∷ (9, 2) ∷ []
unfolding answer
gives = refl

-- four pages a block, in the order of the blocks
contents_by_cell : programs full ≡ 0 ∷ 1 ∷ 4 ∷ 4 ∷ 2 ∷ 4 ∷ 4 ∷ 4 ∷ 3 ∷ 4 ∷ 4 ∷ 4 ∷ 4 ∷ 4 ∷ []
unfolding answer
contents_by_cell = refl

filled : map (λ s. s.filled) (cells tight full).blocks ≡ 4 ∷ 4 ∷ 4 ∷ 2 ∷ []
unfolding answer
filled = refl

valid_by_block : map (λ b. valid_pages tight.plan (cells tight full) b) (0 ∷ 1 ∷ 2 ∷ 3 ∷ []) ≡ (0 ∷ 1 ∷ []) ∷ (2 ∷ []) ∷ (3 ∷ []) ∷ (4 ∷ []) ∷ []
unfolding answer
valid_by_block = refl

tokens : accounts tight full ≡ amounts tight.plan 0 0 0 2
unfolding answer
tokens = refl

left_free : (now full ∷ free tight full ∷ owed_writes full ∷ []) ≡ 19 ∷ 2 ∷ 0 ∷ []
unfolding answer
left_free = refl

is_worst : worst_of tight.plan full ≡ Some (2, pos 0)
unfolding answer
is_worst = refl

ends : completion 2 full ≡ 7
unfolding answer
ends = refl

-- One write less

less_filled : map (λ s. s.filled) (cells tight one_less).blocks ≡ 4 ∷ 4 ∷ 4 ∷ 1 ∷ []
unfolding answer
less_filled = refl

less_tokens : accounts tight one_less ≡ amounts tight.plan 0 1 0 2
unfolding answer
less_tokens = refl

less_left_free : (now one_less ∷ free tight one_less ∷ []) ≡ 18 ∷ 3 ∷ []
unfolding answer
less_left_free = refl

-- Part of the way: spare falls by two a waiver

abbrev tokens_after : List (ℕ × Event) → ℕ
tokens_after calls = (accounts tight (run tight [] calls)).spare

abbrev start : List (ℕ × Event)
start = submit 0 100 (put 0 ∷ put 1 ∷ put 4 ∷ put 4 ∷ []) ∷ slot ∷ slot ∷ slot ∷ slot ∷ []

spare_falls : map tokens_after ([] ∷ (start ++ waiver 4 []) ∷ (start ++ waiver 4 (writer 5 2) ++ waiver 7 []) ∷ []) ≡ 10 ∷ 8 ∷ 6 ∷ []
unfolding answer
spare_falls = refl
