-- One stack of a document after another, and which bytes spell one.
use Rattle.std.proofs.Common.{◌≡◌, ℕ, List, [], ◌∷◌, ◌++◌, length, Result, Ok, Err, None, inl, inr}
use Rattle.std.specs.Prelude.{IsUtf8}
use Rattle.std.specs.Str.{is_utf8}
use Rattle.std.proofs.lemmas.Bool.{cases_Bool}
use Rattle.std.proofs.lemmas.Str.{IsUtf8-from_is_utf8, is_utf8-from_IsUtf8}
use Rattle.toml.specs.Data.{Data, Items, item}
use Rattle.toml.specs.Parse.{parse_document}
use Rattle.wfc_tileset.specs.Tiles.{TileView}
use Rattle.wfc_box.specs.StackDocument.{then_stack, stack_document, stack_from, stacks_from, stack_table_in}
use Rattle.wfc_box.specs.declared.fault.StackFault.{StackFault}
use Rattle.wfc_box.specs.declared.stack.Stack.{Stack}

-- the stack of an element
abbrev pub stack_in : List TileView → ℕ → Data → Result Stack StackFault
stack_in tiles stack d = then_stack (stack_table_in stack d) (stack_from tiles stack)

-- the stacks behind a first one
pub stacks_next : (tiles : List TileView) (before : List Stack) (d : Data) (ds : Items) (stack : Stack) → Ok stack ≡ stack_in tiles (length before) d → stacks_from tiles before (item d ds) ≡ stacks_from tiles (before ++ stack ∷ []) ds
stacks_next tiles before d ds stack is = rw (← is)

-- or its fault
pub stacks_fault : (tiles : List TileView) (before : List Stack) (d : Data) (ds : Items) (fault : StackFault) → Err fault ≡ stack_in tiles (length before) d → stacks_from tiles before (item d ds) ≡ Err fault
stacks_fault tiles before d ds fault is = rw (← is)

-- bytes that are no text spell no document
pub spelled_no_text : (bytes : List ℕ) → (IsUtf8 bytes → ⊥) → stack_document bytes ≡ None
spelled_no_text bytes other = elim (cases_Bool (is_utf8 bytes)) [
  | inl stack_document ↦ absurd (other (IsUtf8-from_is_utf8 bytes stack_document))
  | inr unspelled ↦ rw unspelled
]

-- a text spells what toml reads
pub spelled_text : (bytes text : List ℕ) → text ≡ bytes → IsUtf8 bytes → stack_document bytes ≡ parse_document text
spelled_text bytes text same is = rw (is_utf8-from_IsUtf8 bytes is, same)
