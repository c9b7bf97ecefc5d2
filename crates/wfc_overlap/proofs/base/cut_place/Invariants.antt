use Rattle.std.proofs.Common.{◌*◌, length}
use Rattle.std.specs.Prelude.{slice_index}
use Rattle.wfc_pattern.specs.Patterns.{window_at}
use Rattle.wfc_places.specs.Marks.{suits}
use Rattle.wfc_places.proofs.CallerLemmas.{IsCutTo}
use Rattle.wfc_overlap.proofs.base.cut_place.Given as goal

abbrev pub invariant-loop-v : goal.invariant-loop-v
invariant-loop-v l = IsCutTo l.initial.flags l.flags (l.cell * length l.patterns.windows) l.v (λ v. suits l.mark (slice_index (window_at l.patterns v) l.entry))
