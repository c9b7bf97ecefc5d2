-- What is said of a call whose answer a definition computes, and which memory alone may stop.
use Rattle.std.specs.Prelude.{◌≡◌, ◌⊎◌, Result, Ok, Err}

-- the result with its value seen through `view`
abbrev pub result_map : {X Y E : Type 0} → (X → Y) → Result X E → Result Y E
result_map view (Ok x) = Ok (view x)
result_map view (Err e) = Err e

-- the result, seen through `view`, is the wanted one, or else memory ran out
abbrev pub Gives : {X Y E : Type 0} → E → (X → Y) → Result X E → Result Y E → Type 0
Gives no_memory view result wanted = (result_map view result ≡ wanted) ⊎ (result ≡ Err no_memory)
