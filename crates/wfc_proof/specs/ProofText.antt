-- The text of a proof that a problem has no legal assignment, in each format.
use Rattle.std.specs.Prelude.{◌≡◌, ℕ, List, [], ◌∷◌, ◌++◌, ⊤}
use Rattle.wfc_problem.specs.Network.{Network, values, in_base}
use Rattle.wfc_proof.specs.Heads.{head_text, head_2_text}
use Rattle.wfc_proof.specs.Lines.{SpellsNodes}
use Rattle.wfc_proof.specs.Proof.{Proof, Closes, nodes}
use Rattle.wfc_proof.specs.Telling.{text_of}
use Rattle.wfc_proof.specs.Text.{IsOfFormat1, IsOfFormat2}
use Rattle.wfc_proof.specs.declared.Line.{Line}
use Rattle.wfc_proof.specs.declared.Line.TheVariants.{End}
use Rattle.wfc_proof.specs.declared.heads.Format.{Format}
use Rattle.wfc_proof.specs.declared.heads.Format.TheVariants.{One, Two}
use Rattle.wfc_proof.specs.declared.heads.Shape.{Shape}

-- a line of the format
abbrev pub IsOfFormat : Format → Line → Type 0
IsOfFormat One line = IsOfFormat1 line
IsOfFormat Two line = IsOfFormat2 line

-- lines of the format
abbrev pub AreOfFormat : Format → List Line → Type 0
AreOfFormat format [] = ⊤
AreOfFormat format (line ∷ lines) = IsOfFormat format line × AreOfFormat format lines

-- the head in format 1, with the problem's numbers
abbrev pub head_1_for : Network → List ℕ
head_1_for P = head_text P.cells (values P)

-- the head in format 2, with the problem's numbers, and the shape
abbrev pub head_2_for : Network → Shape → List ℕ
head_2_for P shape = head_2_text shape P.cells (values P)

-- the head of the format
abbrev pub head_in : Format → Network → Shape → List ℕ
head_in One P shape = head_1_for P
head_in Two P shape = head_2_for P shape

-- the bytes are the text of the proof in this format: the head, lines of the format that spell the
-- nodes, and the end; the proof closes the base domains
pub record IsTextOf (P : Network) (shape : Shape) (format : Format) (proof : Proof) (bytes : List ℕ) : Type 0 where
  pub closes : Closes P (in_base P) proof
  pub lines : List Line
  pub formed : AreOfFormat format lines
  pub spells : SpellsNodes lines (nodes proof)
  pub text : bytes ≡ head_in format P shape ++ text_of (lines ++ End ∷ [])

-- the bytes are the text of some proof in either format
pub record IsProofText (P : Network) (shape : Shape) (bytes : List ℕ) : Type 0 where
  pub format : Format
  pub proof : Proof
  pub is : IsTextOf P shape format proof bytes
