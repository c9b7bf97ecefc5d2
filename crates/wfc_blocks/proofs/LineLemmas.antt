-- Lines that are made of pins.
use Rattle.std.proofs.Common.{◌≡◌, ℕ, ◌+◌, Option, None, Some, List, map, refl, ◌∙◌}
use Rattle.std.specs.List.{flat_map, range_with_len}
use Rattle.wfc_lists.proofs.Lists.{map_lists}
use Rattle.wfc_blocks.specs.Canvas.{Canvas, made_if_set, made_in_row, made_in_block}
use Rattle.wfc_blocks.specs.declared.block.Block.{Block}

-- ---- what is made of what is set, mapped

lists_same : {X : Type 0} (F G : ℕ → List X) (ns : List ℕ) → ((n : ℕ) → F n ≡ G n) → flat_map F ns ≡ flat_map G ns
lists_same F G ns same = λ i. flat_map (λ n. same n i) ns

map_if_set : {X Y : Type 0} (g : X → Y) (make : ℕ → ℕ → ℕ → X) (i j : ℕ) (o : Option ℕ) → map g (made_if_set make i j o) ≡ made_if_set (λ i j number. g (make i j number)) i j o
map_if_set g make i j None = refl
map_if_set g make i j (Some number) = refl

map_row : {X Y : Type 0} (g : X → Y) (make : ℕ → ℕ → ℕ → X) (canvas : Canvas) (block : Block) (j : ℕ) → map g (made_in_row make canvas block j) ≡ made_in_row (λ i j number. g (make i j number)) canvas block j
map_row g make canvas block j =
    map_lists g (λ i. made_if_set make i j (canvas (block.x + i) (block.y + j))) (range_with_len 0 block.width)
    ∙ lists_same (λ i. map g (made_if_set make i j (canvas (block.x + i) (block.y + j)))) (λ i. made_if_set (λ i j number. g (make i j number)) i j (canvas (block.x + i) (block.y + j))) (range_with_len 0 block.width)
    (λ i. map_if_set g make i j (canvas (block.x + i) (block.y + j)))

pub map_block : {X Y : Type 0} (g : X → Y) (make : ℕ → ℕ → ℕ → X) (canvas : Canvas) (block : Block) → map g (made_in_block make canvas block) ≡ made_in_block (λ i j number. g (make i j number)) canvas block
map_block g make canvas block =
    map_lists g (λ j. made_in_row make canvas block j) (range_with_len 0 block.height)
    ∙ lists_same (λ j. map g (made_in_row make canvas block j)) (λ j. made_in_row (λ i j number. g (make i j number)) canvas block j) (range_with_len 0 block.height) (λ j. map_row g make canvas block j)
