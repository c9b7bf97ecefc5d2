-- Bytes that pass one after another.
use Rattle.std.proofs.Common.{◌≡◌, ◌+◌, ◌-◌, ◌<◌, List, ℕ, ◌++◌, [], ap, sym, ◌∙◌, subst, append_assoc, append-nil, Result, Ok, Err}
use Rattle.std.specs.List.{flat_map, range_with_len}
use Rattle.wfc_outside.specs.Sink.{SinkView, after_bytes, IsFaultAfterFront, Puts}
use Rattle.wfc_outside.proofs.CallerLemmas.{after_bytes-append, fault_out, fault_on, puts_none, puts_on}
use Rattle.wfc_render.proofs.RangeLemmas.{flat_map-next, flat_map-around}
use Rattle.wfc_render.specs.Gathering.{Passes, Gathers}

-- no bytes pass, and nothing changes
pub passes_none : (sink : SinkView) (held : List ℕ) → Passes sink sink held [] held
passes_none sink held = record { taken = []; cut = append-nil held; sink = puts_none sink }

-- what is held before some bytes come behind others
rejoined : (held first rest taken left : List ℕ) → held ++ first ≡ taken ++ left → held ++ (first ++ rest) ≡ taken ++ (left ++ rest)
rejoined held first rest taken left cut = sym (append_assoc held first rest) ∙ ap (λ bytes. bytes ++ rest) cut ∙ append_assoc taken left rest

-- the bytes by another name
pub passes_as : (old new : SinkView) (held text same left : List ℕ) → text ≡ same → Passes old new held same left → Passes old new held text left
passes_as old new held text same left is passes = subst (λ bytes. Passes old new held bytes left) (sym is) passes

pub fault_as : (old new : SinkView) (held text same : List ℕ) → text ≡ same → IsFaultAfterFront old new (held ++ same) → IsFaultAfterFront old new (held ++ text)
fault_as old new held text same is fault = subst (λ bytes. IsFaultAfterFront old new (held ++ bytes)) (sym is) fault

pub gathers_as : {T E : Type 0} (old new : SinkView) (held text same left : List ℕ) (result : Result T E) → text ≡ same → Gathers old new held same left result → Gathers old new held text left result
gathers_as old new held text same left (Ok done) is passes = passes_as old new held text same left is passes
gathers_as old new held text same left (Err fault) is after = fault_as old new held text same is after

-- some bytes pass, and then more
pub passes_on : (old mid new : SinkView) (held between left first rest : List ℕ) → Passes old mid held first between → Passes mid new between rest left → Passes old new held (first ++ rest) left
passes_on old mid new held between left first rest one other = record {
  taken = one.taken ++ other.taken;
  cut = rejoined held first rest one.taken between one.cut ∙ ap (λ bytes. one.taken ++ bytes) other.cut ∙ sym (append_assoc one.taken other.taken left);
  sink = other.sink ∙ ap (λ sink. after_bytes sink other.taken) one.sink ∙ after_bytes-append old one.taken other.taken;
}

-- a fault among the first bytes is one among all
pub fault_first : (old new : SinkView) (held first rest : List ℕ) → IsFaultAfterFront old new (held ++ first) → IsFaultAfterFront old new (held ++ (first ++ rest))
fault_first old new held first rest fault = subst (IsFaultAfterFront old new) (append_assoc held first rest) (fault_out old new (held ++ first) rest fault)

-- some bytes pass, and a fault among those behind them is one among all
pub fault_then : (old mid new : SinkView) (held between first rest : List ℕ) → Passes old mid held first between → IsFaultAfterFront mid new (between ++ rest) → IsFaultAfterFront old new (held ++ (first ++ rest))
fault_then old mid new held between first rest one fault = subst (IsFaultAfterFront old new) (sym (rejoined held first rest one.taken between one.cut)) (fault_on old mid new one.taken (between ++ rest) one.sink fault)

-- some bytes pass, and what becomes of those behind them becomes of all
pub gathers_on : {T E : Type 0} (old mid new : SinkView) (held between left first rest : List ℕ) (result : Result T E) → Passes old mid held first between → Gathers mid new between rest left result → Gathers old new held (first ++ rest) left result
gathers_on old mid new held between left first rest (Ok done) one other = passes_on old mid new held between left first rest one other
gathers_on old mid new held between left first rest (Err fault) one other = fault_then old mid new held between first rest one other

-- where nothing was held, all bytes passed and what is left is put, the text is put
pub puts_left : {T E : Type 0} (old mid new : SinkView) (held text left : List ℕ) (result : Result T E) → held ≡ [] → Passes old mid held text left → Puts mid new left result → Puts old new text result
puts_left {T} {E} old mid new held text left result none one put =
    let all : text ≡ one.taken ++ left = ap (λ bytes. bytes ++ text) (sym none) ∙ one.cut in
    rw all (puts_on old mid new one.taken left result one.sink put)

-- where nothing was held, a fault among the bytes is one of the text
pub fault_of_text : (old new : SinkView) (held text : List ℕ) → held ≡ [] → IsFaultAfterFront old new (held ++ text) → IsFaultAfterFront old new text
fault_of_text old new held text none fault = subst (λ bytes. IsFaultAfterFront old new (bytes ++ text)) none fault

-- what was held passes, and the bytes are held
pub passes_flushed : (old new : SinkView) (held bytes left : List ℕ) → new ≡ after_bytes old held → left ≡ bytes → Passes old new held bytes left
passes_flushed old new held bytes left sink same = record { taken = held; cut = ap (λ b. held ++ b) (sym same); sink = sink }

-- the bytes are held behind what was
pub passes_held : (old new : SinkView) (held bytes left : List ℕ) → new ≡ old → left ≡ held ++ bytes → Passes old new held bytes left
passes_held old new held bytes left sink same = record { taken = []; cut = sym same; sink = sink ∙ puts_none old }

-- after the bytes of the numbers below one, those of that one pass
pub passes_next : (f : ℕ → List ℕ) (k : ℕ) (old mid new : SinkView) (held between left : List ℕ) → Passes old mid held (flat_map f (range_with_len 0 k)) between → Passes mid new between (f k) left → Passes old new held (flat_map f (range_with_len 0 (k + 1))) left
passes_next f k old mid new held between left one other = subst (λ bytes. Passes old new held bytes left) (sym (flat_map-next f k)) (passes_on old mid new held between left (flat_map f (range_with_len 0 k)) (f k) one other)

-- a fault among them is one among the bytes of all numbers
pub fault_next : (f : ℕ → List ℕ) (k n : ℕ) (old mid new : SinkView) (held between : List ℕ) → k < n → Passes old mid held (flat_map f (range_with_len 0 k)) between → IsFaultAfterFront mid new (between ++ f k) → IsFaultAfterFront old new (held ++ flat_map f (range_with_len 0 n))
fault_next f k n old mid new held between below one fault = subst (λ bytes. IsFaultAfterFront old new (held ++ bytes)) (sym (flat_map-around f k n below))
    (fault_then old mid new held between (flat_map f (range_with_len 0 k)) (f k ++ flat_map f (range_with_len (k + 1) (n - (k + 1)))) one (fault_first mid new between (f k) (flat_map f (range_with_len (k + 1) (n - (k + 1)))) fault))
