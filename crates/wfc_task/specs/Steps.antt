-- The steps of tasks that read no file, each with its first fault.
use Rattle.std.specs.Prelude.{Bool, List, Result, false, true, ℕ}
use Rattle.wfc_grid.specs.Grid.{GridView}
use Rattle.wfc_grid.specs.Reading.{grid_of}
use Rattle.wfc_model.specs.Raster.{Raster}
use Rattle.wfc_outside.specs.Gives.{result_map}
use Rattle.wfc_overlap.specs.Built.{picture_problem}
use Rattle.wfc_overlap.specs.Sample.{Output, output_with}
use Rattle.wfc_pattern.specs.Learning.{patterns_of}
use Rattle.wfc_pattern.specs.Patterns.{PatternsView}
use Rattle.wfc_picture.specs.Palette.{picture_and_palette}
use Rattle.wfc_picture.specs.declared.symbol.Kind.{Kind}
use Rattle.wfc_picture.specs.declared.symbol.Symbol.{Symbol}
use Rattle.wfc_pins.specs.PinView.{PinView}
use Rattle.wfc_pins.specs.Pins.{pins_of}
use Rattle.wfc_plan.specs.Plan.{or_refuse}
use Rattle.wfc_plan.specs.declared.fault.Refusal.{Refusal}
use Rattle.wfc_plan.specs.declared.fault.Refusal.TheVariants.{Build, Colours, Grid, Learn, Pins, Ppm, Render}
use Rattle.wfc_plan.specs.declared.fault.Source.{Source}
use Rattle.wfc_plan.specs.declared.fault.Source.TheVariants.{Sample}
use Rattle.wfc_ppm.specs.Ppm.{PpmView}
use Rattle.wfc_ppm.specs.Reading.{ppm_of}
use Rattle.wfc_problem.specs.Network.{Network}
use Rattle.wfc_render.specs.Layout.{layout_of}
use Rattle.wfc_render.specs.declared.form.Layout.{Layout}
use Rattle.wfc_task.specs.Sampled.{SampledView, shown_by_grid, shown_by_ppm}
use Rattle.wfc_task.specs.Sources.{window_side_of}
use Rattle.wfc_task.specs.declared.steps.AskedOutput.{AskedOutput}
use Rattle.wfc_tileset.specs.Document.{is_ppm_name}
use Rattle.wfc_words.specs.RequestView.{RequestView}

-- the grid that a file spells
abbrev pub grid_in : Source → List ℕ → Result GridView Refusal
grid_in source text = or_refuse (Grid source) (grid_of text)

-- the picture of colours that a file spells
abbrev pub ppm_of_file : Source → List ℕ → Result PpmView Refusal
ppm_of_file source text = or_refuse (Ppm source) (ppm_of text)

-- what the bytes of a sample show: a picture of colours where its name says so, else a grid
abbrev pub shown_in : Bool → List ℕ → Result SampledView Refusal
shown_in true text = result_map shown_by_ppm (ppm_of_file Sample text)
shown_in false text = result_map shown_by_grid (grid_in Sample text)

-- what the bytes of the sample of a request show, by the name of its file
abbrev pub sampled_in : RequestView → List ℕ → Result SampledView Refusal
sampled_in asked text = shown_in (is_ppm_name asked.file) text

-- the picture of a sample in numbers, and the palette that says what they stand for
abbrev pub sample_in_numbers : SampledView → Result (Raster × List Symbol) Refusal
sample_in_numbers sampled = or_refuse Colours (picture_and_palette sampled.symbols sampled.width)

-- what a picture teaches by a request
abbrev pub patterns_taught : RequestView → Raster → Result PatternsView Refusal
patterns_taught asked picture = or_refuse Learn (patterns_of picture (window_side_of asked.source) asked.symmetry asked.wrap_in)

-- how the map of a sample of this kind is written
abbrev pub sample_layout : Kind → RequestView → Result Layout Refusal
sample_layout kind asked = or_refuse Render (layout_of kind asked.form asked.width asked.height 1)

-- the pins and bans that a file has
abbrev pub read_pin_lines : List ℕ → Result (List PinView) Refusal
read_pin_lines text = or_refuse Pins (pins_of text)

-- the problem of learned patterns and the lines of a pins file
abbrev pub problem_of_lines : RequestView → PatternsView → List Symbol → List PinView → Result Network Refusal
problem_of_lines asked patterns palette lines =
    or_refuse Build (picture_problem patterns palette (output_with asked.width asked.height asked.wrap_out) lines)

-- the output that is asked for: its size, and whether it wraps
abbrev pub output_of_asked : AskedOutput → Output
output_of_asked output = output_with output.width output.height output.wrap
