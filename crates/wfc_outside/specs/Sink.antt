-- What a sink is seen as, and what its calls do to it.
use Rattle.std.specs.Prelude.{◌≡◌, ℕ, Bool, true, false, List, [], ◌∷◌, ◌++◌, take, Option, Result, MatchResult}
use Rattle.std.specs.Option.{option_map}
use Rattle.wfc_outside.specs.Count.{HasRisen}

-- the bytes that a sink took, and whether they are finished
pub record Taken : Type 0 where
  pub bytes : List ℕ
  pub finished : Bool

-- a sink: what it took, where that is told, and the count of its faults
pub record SinkView : Type 0 where
  pub told : Option Taken
  pub faults : ℕ

-- what was taken, after more bytes: a byte more makes them unfinished
abbrev pub with_bytes : Taken → List ℕ → Taken
with_bytes taken [] = taken
with_bytes taken (byte ∷ bytes) = record { bytes = taken.bytes ++ (byte ∷ bytes); finished = false }

-- the sink after it took these bytes
abbrev pub after_bytes : SinkView → List ℕ → SinkView
after_bytes sink bytes = record sink { told = option_map (λ (taken : Taken). with_bytes taken bytes) sink.told }

-- the sink after its bytes were finished
abbrev pub after_finish : SinkView → SinkView
after_finish sink = record sink { told = option_map (λ (taken : Taken). record taken { finished = true }) sink.told }

-- a fault was counted, and beside it the sink is as before
pub record IsFault (old new : SinkView) : Type 0 where
  pub same : new.told ≡ old.told
  pub counted : HasRisen old.faults new.faults

-- a fault was counted after the sink took a front of these bytes
pub record IsFaultAfterFront (old new : SinkView) (bytes : List ℕ) : Type 0 where
  pub front : (n : ℕ) × (new.told ≡ (after_bytes old (take n bytes)).told)
  pub counted : HasRisen old.faults new.faults

-- a piece was put: the sink took the whole of it, or a front of it and then a fault was counted
abbrev pub Puts : {T E : Type 0} → SinkView → SinkView → List ℕ → Result T E → Type 0
Puts old new bytes result = MatchResult result (λ _. new ≡ after_bytes old bytes) (λ _. IsFaultAfterFront old new bytes)

-- the bytes were finished, or a fault was counted
abbrev pub Finishes : {T E : Type 0} → SinkView → SinkView → Result T E → Type 0
Finishes old new result = MatchResult result (λ _. new ≡ after_finish old) (λ _. IsFault old new)
