-- What sinks are after several pieces.
use Rattle.std.proofs.Common.{◌≡◌, ℕ, ◌+◌, List, take, drop, ap, sym, ◌∙◌}
use Rattle.std.proofs.Math.Seq.{take-add}
use Rattle.wfc_outside.specs.Sink.{SinkView, after_bytes}
use Rattle.wfc_outside.proofs.CallerLemmas.{after_bytes-append}

-- a sink that took the first bytes and then the next ones
pub after_next_bytes : (start here new : SinkView) (i n : ℕ) (l : List ℕ) → here ≡ after_bytes start (take i l) → new ≡ after_bytes here (take n (drop i l)) → new ≡ after_bytes start (take (i + n) l)
after_next_bytes start here new i n l before now =
    now ∙ ap (λ s. after_bytes s (take n (drop i l))) before ∙ after_bytes-append start (take i l) (take n (drop i l)) ∙ ap (after_bytes start) (sym (take-add i n l))
