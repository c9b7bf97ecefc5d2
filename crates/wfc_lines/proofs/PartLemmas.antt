-- A fault in one of several parts that are written one behind another.
use Rattle.std.proofs.Common.{◌≡◌, ℕ, ◌+◌, ◌<◌, List, ◌∷◌, ◌++◌, length, take, drop, get_or, ap, sym, ◌∙◌, subst, Bor}
use Rattle.std.specs.List.{flat_map}
use Rattle.std.proofs.lemmas.Grind.{flat_map-append}
use Rattle.std.proofs.lemmas.List.{take-append-drop, drop_more}
use Rattle.wfc_outside.specs.Sink.{SinkView, after_bytes, IsFaultAfterFront}
use Rattle.wfc_outside.proofs.CallerLemmas.{fault_on, fault_out}

-- what all parts hold: what those before one hold, that one, and what those behind it hold
parts_around : {X : Type 0} (f : X → List ℕ) (parts : List X) (i : ℕ) (d : X) → i < length parts → flat_map f parts ≡ flat_map f (take i parts) ++ (f (get_or parts i d) ++ flat_map f (drop (i + 1) parts))
parts_around f parts i d inside =
    ap (flat_map f) (sym (take-append-drop i parts) ∙ ap (λ xs. take i parts ++ xs) (drop_more parts i d inside))
    ∙ flat_map-append f (take i parts) (get_or parts i d ∷ drop (i + 1) parts)

pub fault_in_list : (old mid new : SinkView) (parts : List (Bor (List ℕ))) (i : ℕ) (d : Bor (List ℕ)) → i < length parts
    → mid ≡ after_bytes old (flat_map (λ (part : Bor (List ℕ)). part.now) (take i parts)) → IsFaultAfterFront mid new (get_or parts i d).now
    → IsFaultAfterFront old new (flat_map (λ (part : Bor (List ℕ)). part.now) parts)
fault_in_list old mid new parts i d inside same fault =
    let now : Bor (List ℕ) → List ℕ = λ part. part.now in
    subst (λ bytes. IsFaultAfterFront old new bytes) (sym (parts_around now parts i d inside))
    (fault_on old mid new (flat_map now (take i parts)) ((get_or parts i d).now ++ flat_map now (drop (i + 1) parts)) same (fault_out mid new (get_or parts i d).now (flat_map now (drop (i + 1) parts)) fault))
