use Rattle.std.proofs.Common.{◌≡◌, ◌++◌}
use Rattle.wfc_ac4.specs.Links.{links_upto}
use Rattle.wfc_ac4.proofs.links.push_value.Given as goal

-- the directions so far have their links
abbrev pub invariant-loop-dir : goal.invariant-loop-dir
invariant-loop-dir l = record { more : l.links.items ≡ l.fn.links.items ++ links_upto l.problem l.value l.dir }
