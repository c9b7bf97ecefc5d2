use Rattle.std.proofs.Common.{◌≡◌, ◌≤◌, length, fold}
use Rattle.wfc_pattern.specs.declared.TheConstants.{MAX_PATTERNS}
use Rattle.wfc_pattern.specs.Arising.{images_in_row}
use Rattle.wfc_pattern.specs.Tally.{recount}
use Rattle.wfc_pattern.proofs.learner.Learner.note_row.Given as goal

abbrev pub invariant-loop-x : goal.invariant-loop-x
invariant-loop-x l = record {
  n : l.self.n ≡ l.initial.self.n;
  symmetry : l.self.symmetry ≡ l.initial.self.symmetry;
  few : length l.self.tally ≤ MAX_PATTERNS;
  noted : l.self.tally ≡ fold recount l.initial.self.tally (images_in_row l.picture l.initial.self.n l.initial.self.symmetry l.x l.y);
}
