-- Legal maps of a request and legal assignments of its problem are each other's, whatever the map is made of.
use Rattle.std.proofs.Common.{Bool, Err, List, None, Ok, Option, Result, Some, [], ap, arith, false, if◌then◌else◌, length, nat_lt, position, refl, subst, suc, sym, true, zero, ℕ, ◌&&◌, ◌<◌, ◌∷◌, ◌≡◌}
use Rattle.std.proofs.lemmas.Bool.Decides.{nat_tests}
use Rattle.std.proofs.lemmas.List.Elements.{All-cons, All-nil}
use Rattle.std.specs.Option.{ok_or, option_map}
use Rattle.std.specs.Prelude.{All, codes}
use Rattle.std.specs.Str.{bytes_eq}
use Rattle.wfc_model.specs.Legal.{Pin}
use Rattle.wfc_model.specs.Raster.{Raster}
use Rattle.wfc_outside.specs.Folder.{File}
use Rattle.wfc_overlap.proofs.CallerLemmas.{back, sample_problem, there}
use Rattle.wfc_overlap.specs.Bridge.{AreInside, IsTaughtBy, numbers_of_windows}
use Rattle.wfc_overlap.specs.Built.{picture_pin, marked_pin, picture_pins, texts_of}
use Rattle.wfc_pattern.specs.Patterns.{PatternsView}
use Rattle.wfc_pins.specs.InOrder.{and_rest}
use Rattle.wfc_pins.specs.PinView.{PinView}
use Rattle.wfc_pins.specs.declared.fault.BuildFault.{BuildFault}
use Rattle.wfc_pins.specs.declared.fault.BuildFault.TheVariants.{PinOutside, UnknownSymbol}
use Rattle.wfc_problem.specs.Assignment.{IsLegalAssignment}
use Rattle.wfc_problem.specs.Network.{IsProblem, Network}
use Rattle.wfc_task.proofs.GivenLemmas.{sample_lesson}
use Rattle.wfc_task.proofs.LessonLemmas.{learned_is}
use Rattle.wfc_task.proofs.RequestLemmas.{command_output, command_source}
use Rattle.wfc_task.proofs.TilingLemmas.{held_mask, pins_placed}
use Rattle.wfc_task.specs.Asked.{AskedBy, IsOutputAsked}
use Rattle.wfc_task.specs.MapKind.{IsMapProblem, MapKind}
use Rattle.wfc_task.specs.Maps.{flat_maps, IsLegal, IsLegalBy, map_by, asked_output, rules_of}
use Rattle.wfc_task.specs.Posed.{OfTiles, Posed, PosedBy}
use Rattle.wfc_task.specs.Sources.{window_side_of}
use Rattle.wfc_task.specs.TileGiven.{HoldsPicture, HoldsPictures, IsTileSetOf}
use Rattle.wfc_tiled.proofs.CallerLemmas.{assignment_is_map, map_is_assignment, tiles_problem}
use Rattle.wfc_tiled.specs.Maps.{numbers_of_places}
use Rattle.wfc_tiled.specs.Mask.{IsMask}
use Rattle.wfc_tileset.proofs.CallerLemmas.{document_is_set, pictured_is_set}
use Rattle.wfc_tileset.specs.Pictures.{picture_name}
use Rattle.wfc_tileset.specs.TileSets.{IsTileSet}
use Rattle.wfc_tileset.specs.Tiles.{TileSetView}
use Rattle.wfc_words.proofs.RangeLemmas.{asked-in_range}
use Rattle.wfc_words.specs.Commands.{requires_word}
use Rattle.wfc_words.specs.Request.{request_of}
use Rattle.wfc_words.specs.RequestView.{RequestView}
use Rattle.wfc_words.specs.declared.kinds.CommandKind.{CommandKind}
use Rattle.wfc_words.specs.declared.kinds.SourceModel.{SourceModel}
use Rattle.wfc_words.specs.declared.kinds.SourceModel.TheVariants.{Overlap, Tiles}

-- ---- the pins of a sample's map

-- the pins that lines mean are inside
pin_inside : (texts : List (List ℕ)) (width height : ℕ) (line : PinView) (pin : Pin) → picture_pin texts width height line ≡ Ok pin → (pin.column < width) × (pin.row < height)
pin_inside texts width height line pin is = by_tests (nat_lt line.x width) (nat_lt line.y height) (position (λ text. bytes_eq text line.symbol) texts) refl refl is
  where
    by_tests : (wide high : Bool) (place : Option ℕ) → nat_lt line.x width ≡ wide → nat_lt line.y height ≡ high
        → (if wide && high then ok_or (option_map (marked_pin line) place) (UnknownSymbol line.line) else Err (PinOutside line.line)) ≡ Ok pin → (pin.column < width) × (pin.row < height)
    by_tests true true (Some number) p q is =
        let same : marked_pin line number ≡ pin = cc (is) in
        let x_in : line.x < width = grind (arith, nat_tests, p) in
        let y_in : line.y < height = grind (arith, nat_tests, q) in
        subst (λ (pin : Pin). (pin.column < width) × (pin.row < height)) same (x_in, y_in)
    by_tests true true None p q is = absurd (cc (is))
    by_tests true false place p q is = absurd (cc (is))
    by_tests false high place p q is = absurd (cc (is))

pub pins_inside : (texts : List (List ℕ)) (width height : ℕ) (lines : List PinView) (pins : List Pin) → picture_pins texts width height lines ≡ Ok pins → All (λ (pin : Pin). (pin.column < width) × (pin.row < height)) pins
pins_inside texts width height [] pins is =
    let same : (let none : List Pin = [] in none) ≡ pins = cc (is) in subst (All (λ (pin : Pin). (pin.column < width) × (pin.row < height))) same (All-nil (λ (pin : Pin). (pin.column < width) × (pin.row < height)))
pins_inside texts width height (line ∷ lines) pins is = by_first (picture_pin texts width height line) (picture_pins texts width height lines) refl refl is (λ rest known. pins_inside texts width height lines rest known)
  where
    by_first : (first : Result Pin BuildFault) (rest : Result (List Pin) BuildFault) → picture_pin texts width height line ≡ first → picture_pins texts width height lines ≡ rest → and_rest first rest ≡ Ok pins
        → ((rest : List Pin) → picture_pins texts width height lines ≡ Ok rest → All (λ (pin : Pin). (pin.column < width) × (pin.row < height)) rest) → All (λ (pin : Pin). (pin.column < width) × (pin.row < height)) pins
    by_first (Err fault) rest p q is known = absurd (cc (is))
    by_first (Ok pin) (Err fault) p q is known = absurd (cc (is))
    by_first (Ok pin) (Ok rest) p q is known =
        let same : pin ∷ rest ≡ pins = cc (is) in
        subst (All (λ (pin : Pin). (pin.column < width) × (pin.row < height))) same
        (All-cons (λ (pin : Pin). (pin.column < width) × (pin.row < height)) pin rest (pin_inside texts width height line pin p) (known rest q))

-- ---- tile sets

picture_keeps : (files : List File) (name : Option (List ℕ)) (before after : TileSetView) → IsTileSet before → HoldsPicture files name before after → IsTileSet after
picture_keeps files None before after is holds = subst IsTileSet holds is
picture_keeps files (Some name) before after is holds = pictured_is_set before holds.0 after is holds.2

pictures_keep : (files : List File) (left : ℕ) (before after : TileSetView) → IsTileSet before → HoldsPictures files left before after → IsTileSet after
pictures_keep files zero before after is holds = subst IsTileSet holds is
pictures_keep files (suc left) before after is holds =
    pictures_keep files left holds.0 after (picture_keeps files (picture_name before (length before.pictures)) before holds.0 is holds.1) holds.2

-- the tile set of a request is one
pub set_is : (asked : RequestView) (files : List File) (set : TileSetView) → IsTileSetOf asked files set → IsTileSet set
set_is asked files set of = pictures_keep files (length of.document.tiles) of.document set (document_is_set of.bytes of.document of.spelled) of.pictures

-- ---- maps and assignments

-- the problem is one; a legal assignment makes a legal map, and where there is a legal map there is a legal assignment
pub record IsBridged (source : SourceModel) (asked : RequestView) (files : List File) (P : Network) (posed : PosedBy source asked files P) : Type 0 where
  pub problem : IsProblem P
  pub makes : (a : List ℕ) → IsLegalAssignment P a → IsLegalBy source asked files P posed (map_by source asked files P posed a)
  pub assigned : (m : Raster) → IsLegalBy source asked files P posed m → (a : List ℕ) × IsLegalAssignment P a

tiles_bridged : (asked : RequestView) (files : List File) (P : Network) (of : OfTiles asked files P) → IsMask of.mask → IsBridged Tiles asked files P of
tiles_bridged asked files P of mask =
    let problem = of.problem in
    let is = tiles_problem of.set of.mask asked.wrap_out problem.pins (set_is asked files of.set of.tiles) mask problem.few_pairs in
    let placed = pins_placed of.set.tiles of.mask problem.lines problem.pins problem.meant in
    record {
      problem = subst IsProblem (sym problem.problem) is;
      makes = λ a legal. assignment_is_map of.set of.mask asked.wrap_out problem.pins a mask is placed (subst (λ P. IsLegalAssignment P a) problem.problem legal);
      assigned = λ m legal. (
        numbers_of_places of.mask m,
        subst (λ P. IsLegalAssignment P (numbers_of_places of.mask m)) (sym problem.problem) (map_is_assignment of.set of.mask asked.wrap_out problem.pins m mask legal),
      );
    }

pub bridged : (source : SourceModel) (asked : RequestView) (files : List File) (P : Network) (posed : PosedBy source asked files P) → AskedBy source asked → IsOutputAsked asked → IsBridged source asked files P posed
bridged Tiles asked files P of asks output = tiles_bridged asked files P of (held_mask asked files asked.mask of.mask output of.problem.masked)
bridged (Overlap n) asked files P of asks output =
    let sample = of.sample in
    let problem = of.problem in
    let lesson = sample_lesson asked files of.kind of.patterns of.palette asks sample in
    let learned = learned_is sample.picture (window_side_of asked.source) asked.symmetry asked.wrap_in of.patterns sample.learned in
    let taught : IsTaughtBy sample.picture (rules_of asked) of.patterns (asked_output asked) =
    record { same_side = ap (λ (p : PatternsView). p.n) learned.2; same_wrap = refl; windows = ap (λ (p : PatternsView). p.windows) learned.2 } in
    let inside : AreInside (asked_output asked) problem.pins = pins_inside (texts_of of.palette) asked.width asked.height problem.lines problem.pins problem.meant in
    record {
      problem = subst IsProblem (sym problem.problem) (sample_problem of.patterns (asked_output asked) problem.pins lesson.patterns problem.room);
      makes = λ a legal. back sample.picture (rules_of asked) of.patterns (asked_output asked) problem.pins a lesson.patterns problem.room taught inside
          (subst (λ P. IsLegalAssignment P a) problem.problem legal);
      assigned = λ m legal. (
        numbers_of_windows of.patterns (asked_output asked) m,
        subst (λ P. IsLegalAssignment P (numbers_of_windows of.patterns (asked_output asked) m)) (sym problem.problem)
            (there sample.picture (rules_of asked) of.patterns (asked_output asked) problem.pins m lesson.patterns taught legal),
      );
    }

-- where the problem has no legal assignment no map is legal
pub no_legal : (asked : RequestView) (files : List File) (P : Network) (posed : Posed asked files P) → IsBridged asked.source asked files P posed → ((a : List ℕ) → IsLegalAssignment P a → ⊥) → (m : Raster) → IsLegal asked files P posed m → ⊥
no_legal asked files P posed bridge has_none m legal = let found = bridge.assigned m legal in has_none found.0 found.1

-- ---- of a command

-- a command has words for what a map is made of and for its sides
pub record TakesSides (command : CommandKind) : Type 0 where
  pub model : requires_word command (codes "MODEL") ≡ true
  pub width : requires_word command (codes "WIDTH") ≡ true
  pub height : requires_word command (codes "HEIGHT") ≡ true

-- so is the problem of such a command
pub command_bridged : (command : CommandKind) (words : List (List ℕ)) (asked : RequestView) (files : List File) (P : Network) (posed : Posed asked files P) → TakesSides command
    → request_of words ≡ Ok asked → asked.command ≡ command → IsBridged asked.source asked files P posed
command_bridged command words asked files P posed has spelled is =
    let range = asked-in_range words asked spelled in
    bridged asked.source asked files P posed (command_source asked command range is has.model) (command_output asked command range is has.width has.height)

-- as maps of windows and of tiles
pub flat_problem : (asked : RequestView) (files : List File) (P : Network) (posed : Posed asked files P) → IsBridged asked.source asked files P posed → IsMapProblem flat_maps asked files P posed
flat_problem asked files P posed sure = record { problem = sure.problem; makes = sure.makes; assigned = sure.assigned }

-- where a problem of any kind of maps has no legal assignment no map is legal
pub no_map_of : (maps : MapKind) (asked : RequestView) (files : List File) (P : Network) (posed : maps.IsPosed asked files P) → IsMapProblem maps asked files P posed → ((a : List ℕ) → IsLegalAssignment P a → ⊥)
    → (m : maps.Map) → maps.IsLegal asked files P posed m → ⊥
no_map_of maps asked files P posed sure has_none m legal = let found = sure.assigned m legal in has_none found.0 found.1
