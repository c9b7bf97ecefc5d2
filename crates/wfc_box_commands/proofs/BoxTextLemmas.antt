-- What `box-fill` has to know before it writes a box.
use Rattle.std.proofs.Common.{List, None, Ok, Result, arith, inl, inr, length, subst, sym, ℕ, ◌∙◌, ◌≡◌, ◌⊎◌}
use Rattle.wfc_box.proofs.CallerLemmas.{answered_again, assignment_written}
use Rattle.wfc_box.specs.BoxPinView.{BoxPinView}
use Rattle.wfc_box.specs.BoxText.{box_layout_of}
use Rattle.wfc_box.specs.Boxes.{IsFrame}
use Rattle.wfc_box.specs.Built.{box_built}
use Rattle.wfc_box.specs.Written.{IsWrittenBox}
use Rattle.wfc_box_commands.proofs.BoxGivenLemmas.{box_built_is}
use Rattle.wfc_box_commands.specs.BoxFilling.{IsBoxFilling, IsBoxed}
use Rattle.wfc_box_commands.specs.BoxSteps.{frame_asked}
use Rattle.wfc_box_commands.specs.declared.filling.BoxFilling.{BoxFilling}
use Rattle.wfc_outside.specs.Folder.{FolderView}
use Rattle.wfc_outside.specs.Gives.{Gives}
use Rattle.wfc_picture.specs.declared.symbol.Kind.{Kind}
use Rattle.wfc_picture.specs.declared.symbol.Kind.TheVariants as kinds
use Rattle.wfc_pins.specs.declared.fault.BuildFault.{BuildFault}
use Rattle.wfc_pins.specs.declared.fault.BuildFault.TheVariants as builds
use Rattle.wfc_plan.proofs.CallerLemmas.{unrefused}
use Rattle.wfc_plan.specs.Plan.{Goes}
use Rattle.wfc_plan.specs.declared.fault.Refusal.TheVariants as refusals
use Rattle.wfc_problem.specs.Assignment.{IsLegalAssignment}
use Rattle.wfc_problem.specs.Network.{IsProblem, Network}
use Rattle.wfc_task.proofs.CallerLemmas.{all_taken}
use Rattle.wfc_task.specs.TilePlans.{pictures_plan}
use Rattle.wfc_tileset.specs.Pictures.{IsPictured, kind_of, picture_name, side_of}
use Rattle.wfc_tileset.specs.Tiles.{TileSetView}
use Rattle.wfc_words.specs.RequestView.{RequestView}

-- a tile set whose pictures were read has all that it names
pub set_pictured : (document set : TileSetView) (before after : FolderView) → Goes (pictures_plan (length document.tiles) document) before after (Ok set) → picture_name set (length set.pictures) ≡ None
set_pictured document set before after (inr short) = absurd (cc (short.1.2))
set_pictured document set before after (inl follows) = all_taken (length document.tiles) document set before after (inr (omega arith)) follows

-- the problem that is answered
pub boxed_result : (asked : RequestView) (set : TileSetView) (stacked : List (ℕ × ℕ)) (lines : List BoxPinView) (P : Network)
    → Gives builds.NoMemory (λ problem. problem) (let made : Result Network BuildFault = Ok P in made) (box_built set stacked (frame_asked asked) lines) → IsBoxed asked set P
boxed_result asked set stacked lines P (inr short) = absurd (cc (short))
boxed_result asked set stacked lines P (inl is) =
    let made = box_built_is set stacked (frame_asked asked) lines P (sym is) in record { stacked = stacked; pins = made.1.0; problem = made.1.2 }

-- the box of a legal assignment can be written
pub layers_written : (asked : RequestView) (task : BoxFilling) (kind : Kind) (a : List ℕ) → IsFrame (frame_asked asked) → IsBoxFilling asked task → IsProblem task.problem → kind ≡ kind_of task.tiles.pictures
    → (picture_name task.tiles (length task.tiles.pictures) ≡ None → (kind ≡ kinds.Plain) ⊎ IsPictured task.tiles) → IsLegalAssignment task.problem a → IsWrittenBox task.form task.tiles asked.width asked.height asked.depth a
layers_written asked task kind a frame filling problem kind_is complete legal =
    let set = task.tiles in
    let boxed = filling.boxed in
    let laid = unrefused refusals.Render (box_layout_of (kind_of set.pictures) asked.form asked.width asked.height asked.depth (side_of set.pictures)) task.form filling.layout in
    assignment_written set boxed.stacked (frame_asked asked) boxed.pins a task.form frame (subst IsProblem boxed.problem problem) (subst (λ P. IsLegalAssignment P a) boxed.problem legal)
    (answered_again (kind_of set.pictures) asked.form task.form asked.width asked.height asked.depth (side_of set.pictures) laid)
    (elim (complete filling.pictured) [ inl plain ↦ inl (sym kind_is ∙ plain) | inr pictured ↦ inr pictured ])
