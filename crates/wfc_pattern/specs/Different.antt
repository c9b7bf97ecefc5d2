-- The images that arise in a sample by their number, and which of them are kept as different.
use Rattle.std.specs.Prelude.{◌≡◌, ℕ, ◌/◌, ◌%◌, List, map, nat_eq}
use Rattle.std.specs.Cmp.Lexicographic.{pointwise}
use Rattle.wfc_lists.specs.WithoutRepeats.{with_new}
use Rattle.wfc_model.specs.Raster.{Raster}
use Rattle.wfc_model.specs.Window.{window}
use Rattle.wfc_model.specs.Image.{image}
use Rattle.wfc_pattern.specs.Chains.{hash_of}
use Rattle.wfc_pattern.specs.declared.different.Arising.{Arising}

-- image `at` of those that arise: symmetry images for each place, and the places row by row, so many to a row
abbrev pub arisen : Raster → ℕ → ℕ → ℕ → ℕ → List ℕ
arisen sample n symmetry columns at =
    image n (window sample (at / symmetry % columns) (at / symmetry / columns) n) (at % symmetry)

-- the images with these numbers
abbrev pub images_of : Raster → ℕ → ℕ → ℕ → List ℕ → List (List ℕ)
images_of sample n symmetry columns numbers = map (arisen sample n symmetry columns) numbers

-- their hashes are kept
abbrev pub HashesAre : Raster → ℕ → ℕ → ℕ → List ℕ → List ℕ → Type 0
HashesAre sample n symmetry columns numbers hashes =
    hashes ≡ map (λ at. hash_of (arisen sample n symmetry columns at)) numbers

-- the same of a sample with all that its images arise by
abbrev pub image_in : Arising → ℕ → List ℕ
image_in arising at = arisen arising.picture.now arising.n arising.symmetry arising.columns at

-- the images with these numbers, of such a sample
abbrev pub images_in : Arising → List ℕ → List (List ℕ)
images_in arising numbers = images_of arising.picture.now arising.n arising.symmetry arising.columns numbers

-- these hashes are those of the images with these numbers, in the same order
abbrev pub AreHashesIn : Arising → List ℕ → List ℕ → Type 0
AreHashesIn arising numbers hashes =
    HashesAre arising.picture.now arising.n arising.symmetry arising.columns numbers hashes

-- the images with these numbers and behind them the next one, where it is none of them
abbrev pub images_with : Arising → List ℕ → ℕ → List (List ℕ)
images_with arising numbers at = with_new (pointwise nat_eq) (images_in arising numbers) (image_in arising at)
