-- A kind of maps that requests may ask for: of windows or of tiles, or boxes of tiles.
use Rattle.std.specs.Prelude.{List, ℕ}
use Rattle.wfc_outside.specs.Folder.{File}
use Rattle.wfc_problem.specs.Assignment.{IsLegalAssignment}
use Rattle.wfc_problem.specs.Network.{IsProblem, Network}
use Rattle.wfc_words.specs.RequestView.{RequestView}

-- that a problem is the one of a request over files that are told; how its map is laid out; which maps
-- the request asks for; the map that an assignment makes; and the text of a map
pub record MapKind : Type 1 where
  pub Map : Type 0
  pub Layout : Type 0
  pub IsPosed : RequestView → List File → Network → Type 0
  pub IsLaid : (asked : RequestView) (files : List File) (P : Network) → IsPosed asked files P → Layout → Type 0
  pub IsLegal : (asked : RequestView) (files : List File) (P : Network) → IsPosed asked files P → Map → Type 0
  pub map_of : (asked : RequestView) (files : List File) (P : Network) → IsPosed asked files P → List ℕ → Map
  pub text_of : (asked : RequestView) (files : List File) (P : Network) → IsPosed asked files P → Layout → Map
      → List ℕ

-- the problem is one, each of its legal assignments makes a map that the request asks for, and each such map has one
pub record IsMapProblem (maps : MapKind) (asked : RequestView) (files : List File) (P : Network)
    (posed : maps.IsPosed asked files P) : Type 0 where
  pub problem : IsProblem P
  pub makes : (a : List ℕ) → IsLegalAssignment P a → maps.IsLegal asked files P posed (maps.map_of asked files P posed a)
  pub assigned : (m : maps.Map) → maps.IsLegal asked files P posed m → (a : List ℕ) × IsLegalAssignment P a
