-- What follows of a call that ends well.
use Rattle.std.proofs.Common.{Result, Ok, Err}
use Rattle.std.specs.Prelude.{IfOk}

pub ok_weaker : {T E : Type 0} (A B : T → Type 0) (result : Result T E) → ((made : T) → A made → B made) → IfOk result A → IfOk result B
ok_weaker A B (Ok made) f a = f made a
ok_weaker A B (Err e) f a = tt
