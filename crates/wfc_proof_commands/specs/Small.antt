-- A small request, a shape of its size, and lines that a run tells.
use Rattle.std.specs.Prelude.{Bool, List, [], true, ℕ, ◌∷◌}
use Rattle.wfc_proof.specs.declared.Line.{Line}
use Rattle.wfc_proof.specs.declared.Line.TheVariants.{Empty, End, Remove, Try}
use Rattle.wfc_proof.specs.declared.heads.Shape.{Shape}
use Rattle.wfc_words.specs.RequestView.{RequestView, default_request}
use Rattle.wfc_words.specs.declared.kinds.CommandKind.TheVariants.{Check}
use Rattle.wfc_words.specs.declared.kinds.SourceModel.{SourceModel}

-- a map of five by seven of this, whose sample wraps and has all images
abbrev pub five_by_seven : SourceModel → Bool → RequestView
five_by_seven source wrap_out = record (default_request Check) {
  source = source;
  width = 5;
  height = 7;
  depth = 9;
  symmetry = 8;
  wrap_in = true;
  wrap_out = wrap_out;
}

-- the shape of a map of five by seven, with windows of this side, so many images, and edges of sample and map that wrap or don't
abbrev pub five_by_seven_shape : ℕ → ℕ → Bool → Bool → Shape
five_by_seven_shape n symmetry wrap_in wrap_out = record {
  n = n;
  width = 5;
  height = 7;
  depth = 1;
  symmetry = symmetry;
  wrap_in = wrap_in;
  wrap_out = wrap_out;
}

-- a choice, removals by three cells and directions, of which two follow each other once, and the end
abbrev pub removals_told : List Line
removals_told =
    Try 1 3 ∷ Remove 0 0 2 ∷ Remove 0 1 2 ∷ Remove 0 2 1 ∷ Remove 4 3 1 ∷ Remove 4 5 1 ∷ Empty 0 ∷ End ∷ []
