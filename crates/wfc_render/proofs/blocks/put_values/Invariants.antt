-- What passed so far is the text of the values below this one.
use Rattle.std.proofs.Common.{◌∷◌, [], filter}
use Rattle.std.specs.List.{flat_map, range_with_len}
use Rattle.wfc_log.specs.Domains.{has}
use Rattle.wfc_render.specs.Gathering.{Passes}
use Rattle.wfc_render.specs.Numbers.{blank_numbers}
use Rattle.wfc_render.proofs.blocks.put_values.Given as goal

abbrev pub invariant-loop-value : goal.invariant-loop-value
invariant-loop-value g l = Passes (g.S.Sink.seen l.initial.sink) (g.S.Sink.seen l.sink) l.initial.piece (flat_map (λ v. blank_numbers (filter (has l.domains l.cell) (v ∷ []))) (range_with_len 0 l.value)) l.piece
