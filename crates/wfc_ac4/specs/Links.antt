-- What may stand beside each value, of all directions in one list.
use Rattle.std.specs.Prelude.{◌≡◌, ℕ, zero, suc, ◌+◌, ◌*◌, ◌≤◌, List, [], ◌∷◌, ◌++◌, length, map, slice_index, Option, Some, None}
use Rattle.wfc_model.specs.Direction.{opposite}
use Rattle.wfc_problem.specs.Network.{Network, values, neighbour, supports_of}
use Rattle.wfc_problem.specs.Strides.{AreStrides}
use Rattle.wfc_domains.specs.Counters.{counter_place}
use Rattle.wfc_domains.specs.Pairs.{unit_at, mask_at}
use Rattle.wfc_ac4.specs.declared.links.SupportLink.{SupportLink}
use Rattle.wfc_ac4.specs.declared.links.Links.{Links}

-- what is read where there is no link
abbrev pub no_link : SupportLink
no_link = record { offset = 0; dir = 0; back = 0; unit = 0; mask = 0 }

-- the link that lowers the counter at an offset within a cell in direction d, with what one more there is in a byte of two
abbrev pub link_at : ℕ → ℕ → SupportLink
link_at offset d = record { offset = offset; dir = d; back = opposite d; unit = unit_at offset; mask = mask_at offset }

-- the link to w in direction d: the counter of w for the way back, the direction, and the way back
abbrev pub link_to : Network → ℕ → ℕ → SupportLink
link_to P d w = link_at (counter_place P 0 w (opposite d)) d

-- the links of v in direction d
abbrev pub side_links : Network → ℕ → ℕ → List SupportLink
side_links P v d = map (link_to P d) (supports_of P v d)

-- those in the first directions
abbrev pub links_upto : Network → ℕ → ℕ → List SupportLink
links_upto P v zero = []
links_upto P v (suc d) = links_upto P v d ++ side_links P v d

-- all of them
abbrev pub links_of : Network → ℕ → List SupportLink
links_of P v = links_upto P v P.dirs

-- those of the first values
abbrev pub all_upto : Network → ℕ → List SupportLink
all_upto P zero = []
all_upto P (suc v) = all_upto P v ++ links_of P v

-- how many counters a cell has
abbrev pub counter_row : Network → ℕ
counter_row P = values P * P.dirs

-- the lists of all values, one after the other, and where each begins; and the sides of cells in the table of counters
pub record AreLinks (P : Network) (x : Links) : Type 0 where
  pub starts : (v : ℕ) → v ≤ values P → slice_index x.starts.items v ≡ length (all_upto P v)
  pub whole : length x.starts.items ≡ values P + 1
  pub links : x.links.items ≡ all_upto P (values P)
  pub strides : AreStrides P (counter_row P) x.strides

-- the counter that a link of a removed value lowers, if there is a cell in its direction
abbrev pub link_place : Network → SupportLink → Option ℕ → List ℕ
link_place P l None = []
link_place P l (Some n) = (counter_place P n 0 0 + l.offset) ∷ []

-- the counters that links of a value removed at c lower
abbrev pub link_places : Network → ℕ → List SupportLink → List ℕ
link_places P c [] = []
link_places P c (l ∷ ls) = link_place P l (neighbour P c l.dir) ++ link_places P c ls
