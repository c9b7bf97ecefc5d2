-- The stacks that the document of a tile set declares, or the first thing that is wrong with them.
use Rattle.std.specs.Prelude.{ℕ, List, [], ◌∷◌, ◌++◌, length, take, drop, codes, Option, Some, None, Result, Ok, Err, if◌then◌else◌}
use Rattle.std.specs.Option.{ok_or}
use Rattle.std.specs.List.{position}
use Rattle.std.specs.Str.{is_utf8}
use Rattle.toml.specs.Data.{Data, Items, no_items, item, Members, get_member, as_str, as_array, as_table}
use Rattle.toml.specs.Parse.{parse_document}
use Rattle.wfc_tileset.specs.Document.{pair_end_with, has_name, name_length, turn_digit}
use Rattle.wfc_tileset.specs.Tiles.{TileView}
use Rattle.wfc_tileset.specs.declared.tile.End.{End}
use Rattle.wfc_box.specs.declared.fault.StackFault.{StackFault}
use Rattle.wfc_box.specs.declared.fault.StackFault.TheVariants as fault
use Rattle.wfc_box.specs.declared.fault.StackKey.{StackKey}
use Rattle.wfc_box.specs.declared.fault.StackKey.TheVariants as key
use Rattle.wfc_box.specs.declared.stack.Stack.{Stack}

-- the first step, and the second with what the first gave, up to the first fault
abbrev pub then_stack : {A B : Type 0} → Result A StackFault → (A → Result B StackFault) → Result B StackFault
then_stack (Ok x) f = f x
then_stack (Err e) f = Err e

-- a text that has to be there
abbrev pub stack_text : ℕ → StackKey → Option Data → Result (List ℕ) StackFault
stack_text stack key None = Err (fault.MissingKey stack key)
stack_text stack key (Some d) = ok_or (as_str d) (fault.NotText stack key)

-- an end of a stack: a tile's name, and behind a blank an action
abbrev pub stack_end_from : List TileView → ℕ → List ℕ → Result End StackFault
stack_end_from tiles stack text =
    then_stack (ok_or (position (has_name (take (name_length text) text)) tiles) (fault.UnknownTile stack))
    (λ tile. then_stack (ok_or (turn_digit (drop (name_length text) text)) (fault.BadTurn stack))
    (λ turn. Ok (pair_end_with tile turn)))

-- an end of a stack that has to be there, by its key
abbrev pub stack_end : List TileView → ℕ → StackKey → Option Data → Result End StackFault
stack_end tiles stack key d = then_stack (stack_text stack key d) (stack_end_from tiles stack)

-- the stack of a lower and an upper end
abbrev pub stack_with : End → End → Stack
stack_with lower upper = record { lower = lower; upper = upper }

-- the lower end, and then the upper one
abbrev pub stack_from : List TileView → ℕ → Members → Result Stack StackFault
stack_from tiles stack ms =
    then_stack (stack_end tiles stack key.Lower (get_member (codes "lower") ms)) (λ lower.
    then_stack (stack_end tiles stack key.Upper (get_member (codes "upper") ms)) (λ upper. Ok (stack_with lower upper)))

-- an element of the array, which has to be a table
abbrev pub stack_table_in : ℕ → Data → Result Members StackFault
stack_table_in stack d = ok_or (as_table d) (fault.NotTable stack)

-- the stacks behind those before them
abbrev pub stacks_from : List TileView → List Stack → Items → Result (List Stack) StackFault
stacks_from tiles before no_items = Ok before
stacks_from tiles before (item d ds) =
    then_stack (then_stack (stack_table_in (length before) d) (stack_from tiles (length before)))
    (λ stack. stacks_from tiles (before ++ stack ∷ []) ds)

-- the elements of the array, none where it is missing
abbrev pub stack_elements : Option Data → Result Items StackFault
stack_elements None = Ok no_items
stack_elements (Some d) = ok_or (as_array d) fault.NotArray

-- the stacks of a document, none where there is no document
abbrev pub stacks_in : List TileView → Option Members → Result (List Stack) StackFault
stacks_in tiles None = Ok []
stacks_in tiles (Some ms) = then_stack (stack_elements (get_member (codes "stack") ms)) (stacks_from tiles [])

-- the document that bytes spell, if they spell one
abbrev pub stack_document : List ℕ → Option Members
stack_document bytes = if is_utf8 bytes then parse_document bytes else None

-- the stacks that bytes declare for these tiles
abbrev pub stacks_of : List TileView → List ℕ → Result (List Stack) StackFault
stacks_of tiles bytes = stacks_in tiles (stack_document bytes)
