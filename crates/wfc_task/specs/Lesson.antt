-- What holds of a sample, of its numbers and of what it teaches, whatever the files are.
use Rattle.std.specs.Prelude.{All, IsTrue, List, length, ℕ, ◌<◌, ◌≡◌, ◌≤◌}
use Rattle.wfc_model.specs.Legal.{Pin}
use Rattle.wfc_model.specs.Raster.{IsFilled, IsRaster, Raster, numbers_of}
use Rattle.wfc_overlap.specs.Sample.{output_with, problem_of_sample}
use Rattle.wfc_pattern.specs.Patterns.{IsPatterns, PatternsView}
use Rattle.wfc_picture.specs.declared.palette.TheConstants.{MAX_PIXELS}
use Rattle.wfc_picture.specs.declared.symbol.Kind.{Kind}
use Rattle.wfc_picture.specs.declared.symbol.Symbol.{Symbol}
use Rattle.wfc_problem.specs.Network.{IsProblem, Network}
use Rattle.wfc_render.specs.Map.{is_of_kind, maxval_of}
use Rattle.wfc_task.specs.Sampled.{SampledView}
use Rattle.wfc_task.specs.declared.lesson.Taught.{Taught}
use Rattle.wfc_words.specs.RequestView.{RequestView}

-- the symbols of a palette are some that a sample of this kind can show, whose greatest sample fits two bytes
pub record IsShown (kind : Kind) (palette : List Symbol) : Type 0 where
  pub maxval : maxval_of kind ≤ 65535
  pub symbols : All (λ symbol. IsTrue (is_of_kind kind symbol)) palette
  pub some_symbol : 0 < length palette

-- what a sample shows are the pixels of a picture that isn't too large, each of which a sample of its kind can show
pub record IsSampled (sampled : SampledView) : Type 0 where
  pub height : ℕ
  pub filled : IsFilled sampled.width height sampled.symbols
  pub small : length sampled.symbols ≤ MAX_PIXELS
  pub maxval : maxval_of sampled.kind ≤ 65535
  pub symbols : All (λ symbol. IsTrue (is_of_kind sampled.kind symbol)) sampled.symbols

-- the numbers of a picture are those of a palette that a sample of this kind can show
pub record HasShownNumbers (kind : Kind) (picture : Raster) (palette : List Symbol) : Type 0 where
  pub raster : IsRaster picture
  pub shown : IsShown kind palette
  pub numbers : All (λ number. number < length palette) (numbers_of picture)

-- what was learned are patterns, whose numbers are those of the palette
pub record IsLesson (taught : Taught) : Type 0 where
  pub patterns : IsPatterns taught.patterns
  pub shown : IsShown taught.kind taught.palette
  pub numbers : All (λ window. All (λ number. number < length taught.palette) window) taught.patterns.windows

-- the problem is one of these patterns, for an output that has room for a window
pub record IsPosed (asked : RequestView) (patterns : PatternsView) (P : Network) : Type 0 where
  pub sound : IsProblem P
  pub wide : patterns.n ≤ asked.width
  pub high : patterns.n ≤ asked.height
  pub problem : (pins : List Pin)
      × (P ≡ problem_of_sample patterns (output_with asked.width asked.height asked.wrap_out) pins)
