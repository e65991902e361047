-- The order of keys.
use Rattle.std.specs.Prelude.{ℕ, ◌==◌, nat_lt, nat_le, ◌&&◌, ◌||◌, Bool, cond, Option, Some, None}
use Rattle.due_queue.specs.declared.keys.Key.{Key}
use Rattle.due_queue.specs.declared.keys.WaitKey.{WaitKey}

-- the earlier deadline goes first, and of equal ones the smaller number
abbrev pub is_due_before : Key → Key → Bool
is_due_before k l = nat_lt k.due l.due || (k.due == l.due && nat_lt k.number l.number)

-- the earlier release goes first, and of equal ones the smaller number
abbrev pub is_released_before : WaitKey → WaitKey → Bool
is_released_before k l = nat_lt k.release l.release || (k.release == l.release && nat_lt k.number l.number)

abbrev pub key_of : ℕ × ℕ → Key
key_of p = record { due = p.0; number = p.1 }

abbrev pub wait_key_of : ℕ × ℕ → WaitKey
wait_key_of p = record { release = p.0; number = p.1 }

-- the key if its release has come
abbrev pub released_by : ℕ → Option WaitKey → Option WaitKey
released_by now None = None
released_by now (Some key) = cond (nat_le key.release now) (Some key) None
