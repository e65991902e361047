-- What is true of a result once it came out well.
use Rattle.std.proofs.Common.{Result, Ok, Err}
use Rattle.std.specs.Prelude.{IfOk}

pub ok_more : {A E : Type 0} (r : Result A E) (P Q : A → Type 0) → IfOk r P → ((x : A) → P x → Q x) → IfOk r Q
ok_more (Ok x) P Q h f = f x h
ok_more (Err e) P Q h f = tt
