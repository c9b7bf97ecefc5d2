-- The answer of `fill` to its task.
use Rattle.std.specs.Prelude.{List, None, Option, Some, true, ℕ}
use Rattle.wfc_choose.specs.Pick.{Rule}
use Rattle.wfc_overlap.specs.Bridge.{picture_of}
use Rattle.wfc_pattern.specs.Patterns.{PatternsView}
use Rattle.wfc_picture.specs.declared.symbol.Symbol.{Symbol}
use Rattle.wfc_problem.specs.Network.{Network}
use Rattle.wfc_render.specs.Map.{map_text}
use Rattle.wfc_render.specs.Tiled.{tile_text}
use Rattle.wfc_render.specs.declared.form.Layout.{Layout}
use Rattle.wfc_reply.specs.Outcomes.{verdict_of}
use Rattle.wfc_reply.specs.Reply.{Answered}
use Rattle.wfc_reply.specs.RunEnds.{end_of}
use Rattle.wfc_search.specs.Run.{State}
use Rattle.wfc_search.specs.Search.{assignment_of}
use Rattle.wfc_search.specs.declared.Outcome.{Outcome}
use Rattle.wfc_search.specs.declared.Outcome.TheVariants as outcome
use Rattle.wfc_task.specs.Maps.{asked_output}
use Rattle.wfc_tiled.specs.Maps.{tile_map}
use Rattle.wfc_tiled.specs.Mask.{MaskView}
use Rattle.wfc_tileset.specs.Tiles.{TileSetView}
use Rattle.wfc_words.specs.RequestView.{RequestView}

-- the text of the picture that an assignment of patterns paints
abbrev pub picture_text : RequestView → PatternsView → List Symbol → Layout → List ℕ → List ℕ
picture_text asked patterns palette layout a = map_text layout palette (picture_of patterns (asked_output asked) a)

-- the text of the map that an assignment of variants makes
abbrev pub tiles_text : TileSetView → MaskView → Layout → List ℕ → List ℕ
tiles_text set mask layout a = tile_text layout set (tile_map mask a)

-- what `fill` writes of an end, where this is the text of an assignment: that of the map that was found, or nothing
abbrev pub fill_text : (List ℕ → List ℕ) → Network → Outcome × State → Option (List ℕ)
fill_text text P (outcome.Map, s) = Some (text (assignment_of P s.standing))
fill_text text P (_, s) = None

-- the answer of `fill` with this budget, where its run has this end
abbrev pub fill_answer : (List ℕ → List ℕ) → ℕ → Network → Option (Outcome × State) → Option Answered
fill_answer text budget P None = None
fill_answer text budget P (Some end) =
    Some (record { verdict = verdict_of budget end.0; text = fill_text text P end; whole = true })

-- the answer of `fill` by the rules of the choosers
abbrev pub fill_by : List Rule → RequestView → (List ℕ → List ℕ) → Network → Option Answered
fill_by rules asked text P = fill_answer text asked.budget P (end_of rules asked.rule P asked.budget asked.seed)
