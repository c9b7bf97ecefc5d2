use Rattle.std.proofs.Common.{◌≡◌, ◌++◌, take}
use Rattle.wfc_ac4.specs.Links.{side_links}
use Rattle.wfc_ac4.proofs.links.push_side.Given as goal

-- the supports so far have their links
abbrev pub invariant-loop-other : goal.invariant-loop-other
invariant-loop-other l = record { more : l.links.items ≡ l.fn.links.items ++ take l.other-index (side_links l.problem l.value l.dir) }
