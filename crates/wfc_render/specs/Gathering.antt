-- What becomes of bytes that are gathered before a sink gets them.
use Rattle.std.specs.Prelude.{◌≡◌, ℕ, List, ◌++◌, Result, MatchResult}
use Rattle.wfc_outside.specs.Sink.{SinkView, after_bytes, IsFaultAfterFront}

-- the sink took the first of the bytes that were held and came, and the others are held
pub record Passes (old new : SinkView) (held : List ℕ) (came : List ℕ) (left : List ℕ) : Type 0 where
  pub taken : List ℕ
  pub cut : held ++ came ≡ taken ++ left
  pub sink : new ≡ after_bytes old taken

-- the bytes passed, or a fault was counted after the sink took a front of what was held and came
abbrev pub Gathers : {T E : Type 0} → SinkView → SinkView → List ℕ → List ℕ → List ℕ → Result T E → Type 0
Gathers old new held came left result =
    MatchResult result (λ _. Passes old new held came left)
    (λ _. IsFaultAfterFront old new (held ++ came))
