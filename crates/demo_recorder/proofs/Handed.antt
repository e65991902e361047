-- What is known of an answer is known of what it hands over.
use Rattle.std.proofs.Common.{◌≡◌, Result, Ok, IfOk, subst}

pub ok_of : {T E : Type 0} (P : T → Type 0) (answer : Result T E) (value : T) → answer ≡ Ok value → IfOk answer P → P value
ok_of {T} {E} P answer value is h = subst (λ (r : Result T E). IfOk r P) is h
