-- The text that a run leaves which doesn't close its proof, in each format.
use Rattle.std.specs.Prelude.{◌≡◌, ℕ, List, [], ◌∷◌, ◌++◌}
use Rattle.wfc_problem.specs.Network.{Network, in_base}
use Rattle.wfc_proof.specs.Lines.{SpellsNodes}
use Rattle.wfc_proof.specs.Proof.{Proof, FollowsFrom, StopsThere, nodes}
use Rattle.wfc_proof.specs.ProofText.{AreOfFormat, head_in}
use Rattle.wfc_proof.specs.Telling.{text_of}
use Rattle.wfc_proof.specs.declared.Line.{Line}
use Rattle.wfc_proof.specs.declared.heads.Format.{Format}
use Rattle.wfc_proof.specs.declared.heads.Shape.{Shape}

-- the bytes are the text of the proof in this format, of which branches may be left off: the head,
-- lines of the format that spell the nodes, and then
-- this line; the proof follows from the base domains, and after a branch that was left off nothing comes
pub record IsOpenTextOf (P : Network) (shape : Shape) (format : Format) (proof : Proof)
    (last : Line) (bytes : List ℕ) : Type 0 where
  pub follows : FollowsFrom P (in_base P) proof
  pub stops : StopsThere proof
  pub lines : List Line
  pub formed : AreOfFormat format lines
  pub spells : SpellsNodes lines (nodes proof)
  pub text : bytes ≡ head_in format P shape ++ text_of (lines ++ last ∷ [])

-- the bytes are the text of some such proof in either format
pub record IsJournalText (P : Network) (shape : Shape) (last : Line) (bytes : List ℕ) : Type 0 where
  pub format : Format
  pub proof : Proof
  pub is : IsOpenTextOf P shape format proof last bytes
