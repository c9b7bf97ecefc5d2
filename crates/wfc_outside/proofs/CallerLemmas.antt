-- What callers cite of counts, of answers that memory may stop, and of texts that are put in parts.
use Rattle.std.proofs.Common.{◌≡◌, ℕ, ◌+◌, ◌≤◌, ◌⊎◌, inl, inr, min, List, [], ◌∷◌, ◌++◌, length, take, None, Some, Result, Ok, Err, refl, ap, sym, ◌∙◌, subst, append_assoc, append-nil, arith}
use Rattle.std.proofs.lemmas.List.{take-append-le, take_min, take_all}
use Rattle.std.proofs.Math.Seq.{take-append-add}
use Rattle.wfc_outside.specs.Count.{HasRisen}
use Rattle.wfc_outside.specs.Gives.{Gives}
use Rattle.wfc_outside.specs.Sink.{Taken, SinkView, with_bytes, after_bytes, IsFault, IsFaultAfterFront, Puts}

-- a count that rose, or stands where it can rise no further, did not fall
pub never_falls : (old new : ℕ) → HasRisen old new → old ≤ new
never_falls old new risen = elim risen [
  | inl more ↦ omega arith
  | inr most ↦ omega (arith, most.0, most.1)
]

-- a value that was given is the wanted one
pub gives_value : {X Y E : Type 0} (no_memory : E) (view : X → Y) (x : X) (wanted : Result Y E) → Gives no_memory view (Ok x) wanted → wanted ≡ Ok (view x)
gives_value no_memory view x wanted (inl is) = sym is
gives_value no_memory view x wanted (inr short) = cc

-- a fault that was given is the wanted one, or memory ran out
pub gives_fault : {X Y E : Type 0} (no_memory : E) (view : X → Y) (fault : E) (wanted : Result Y E) → Gives no_memory view (Err fault) wanted → (wanted ≡ Err fault) ⊎ (fault ≡ no_memory)
gives_fault no_memory view fault wanted (inl is) = inl (sym is)
gives_fault {X} {Y} {E} no_memory view fault wanted (inr short) = let same : fault ≡ no_memory = cc in inr same

with_bytes-append : (t : Taken) (a b : List ℕ) → with_bytes (with_bytes t a) b ≡ with_bytes t (a ++ b)
with_bytes-append t [] [] = refl
with_bytes-append t [] (y ∷ b) = refl
with_bytes-append t (x ∷ a) [] = ap (λ l. with_bytes t (x ∷ l)) (sym (append-nil a))
with_bytes-append t (x ∷ a) (y ∷ b) = rw append_assoc

-- a sink that takes one piece and then another has taken both
pub after_bytes-append : (s : SinkView) (a b : List ℕ) → after_bytes (after_bytes s a) b ≡ after_bytes s (a ++ b)
after_bytes-append s a b = elim s.told as (λ told. after_bytes (after_bytes (record s { told = told }) a) b ≡ after_bytes (record s { told = told }) (a ++ b)) [
  | None ↦ refl
  | Some taken ↦ ap (λ (t : Taken). let sink : SinkView = record { told = Some t; faults = s.faults } in sink) (with_bytes-append taken a b)
]

-- a sink that took no bytes is as before
pub puts_none : (sink : SinkView) → sink ≡ after_bytes sink []
puts_none sink = elim sink.told as (λ told. let s : SinkView = record sink { told = told } in s ≡ after_bytes s []) [ None ↦ refl | Some taken ↦ refl ]

-- a fault in the first part of a text is a fault in the text
pub fault_out : (old new : SinkView) (first rest : List ℕ) → IsFaultAfterFront old new first → IsFaultAfterFront old new (first ++ rest)
fault_out old new first rest fault =
    let n : ℕ = fault.front.0 in
    let k : ℕ = min n (length first) in
    let same : take k (first ++ rest) ≡ take n first = take-append-le k first rest (omega arith) ∙ take_min n first in
    record { front = (k, fault.front.1 ∙ ap (λ xs. (after_bytes old xs).told) (sym same)); counted = fault.counted }

-- the first part was put, and then a fault came in the rest
pub fault_on : (old mid new : SinkView) (first rest : List ℕ) → mid ≡ after_bytes old first → IsFaultAfterFront mid new rest → IsFaultAfterFront old new (first ++ rest)
fault_on old mid new first rest same fault =
    let n : ℕ = fault.front.0 in
    record {
      front = (
        length first + n,
        fault.front.1 ∙ ap (λ (s : SinkView). (after_bytes s (take n rest)).told) same
            ∙ ap (λ (s : SinkView). s.told) (after_bytes-append old first (take n rest))
            ∙ ap (λ xs. (after_bytes old xs).told) (sym (take-append-add first rest n)),
      );
      counted = subst (λ faults. HasRisen faults new.faults) (ap (λ (s : SinkView). s.faults) same) fault.counted;
    }

-- the first part was put, and what becomes of the rest becomes of the text
pub puts_on : {T E : Type 0} (old mid new : SinkView) (first rest : List ℕ) (result : Result T E) → mid ≡ after_bytes old first → Puts mid new rest result → Puts old new (first ++ rest) result
puts_on old mid new first rest (Ok done) same put = put ∙ ap (λ s. after_bytes s rest) same ∙ after_bytes-append old first rest
puts_on old mid new first rest (Err fault) same after = fault_on old mid new first rest same after

-- a fault after a whole text, as of a finishing
pub fault_behind : (old mid new : SinkView) (text : List ℕ) → mid ≡ after_bytes old text → IsFault mid new → IsFaultAfterFront old new text
fault_behind old mid new text same fault = record {
  front = (length text, fault.same ∙ ap (λ (s : SinkView). s.told) same ∙ ap (λ xs. (after_bytes old xs).told) (sym (take_all (length text) text (omega arith))));
  counted = subst (λ faults. HasRisen faults new.faults) (ap (λ (s : SinkView). s.faults) same) fault.counted;
}
