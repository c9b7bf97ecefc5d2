-- Where blocks lie: each window of an area lies in one of them, and in no other.
use Rattle.std.proofs.Common.{◌≡◌, ℕ, suc, ◌+◌, ◌-◌, ◌*◌, ◌/◌, ◌%◌, ◌<◌, ◌≤◌, min, true, false, ◌⊎◌, inl, inr, sym, subst, ap, ◌∙◌, arith}
use Rattle.std.proofs.lemmas.Bool.{and_parts, and_from, leb-true, le-leb, ltb-true, lt-ltb}
use Rattle.std.proofs.lemmas.Grind.{div_ceil_times}
use Rattle.std.proofs.lemmas.Nat.{div-add-mod', div-mul-add, mod-mul-add, mul-add-lt, mod_below}
use Rattle.std.proofs.Math.Nat.{mul-le-mul_right}
use Rattle.wfc_model.specs.Window.{starts}
use Rattle.wfc_blocks.specs.Blocks.{Area, stride, blocks_along, blocks_across, blocks_down, block_count, block_from, block_at, lies_in, HasWindow}
use Rattle.wfc_blocks.specs.declared.block.Block.{Block}

-- ---- along a side

-- the block along a side in which the window that begins at a place lies
pub record IsAlong (n side whole u i : ℕ) : Type 0 where
  pub inside : i < blocks_along n side whole
  pub begins : i * stride n side ≤ u
  pub ends : u + n ≤ i * stride n side + min side (whole - i * stride n side)

-- it's the one whose number is that of the strides before the place
pub along : (n side whole u : ℕ) → n ≤ side → u < starts whole n false → IsAlong n side whole u (u / stride n side)
along n side whole u long start =
    let s = stride n side in
    let some : 0 < s = omega arith in
    let i = u / s in
    let split : i * s + u % s ≡ u = div-add-mod' u s in
    let rest : u % s < s = mod_below u s some in
    let cover = div_ceil_times (starts whole n false) s some in
    let low : i < blocks_along n side whole = below i s u some (omega (arith, split)) (omega (arith, start, cover.0)) in
    record { inside = low; begins = omega (arith, split); ends = fits s (i * s) (u % s) split rest }
  where
    below : {q : ℕ} (i s u : ℕ) → 0 < s → i * s ≤ u → u < q * s → i < q
    below {q = q} i s u some before behind = elim (either i q) [ inl less ↦ less | inr more ↦ absurd (omega (arith, before, behind, mul-le-mul_right s more)) ]
      where
        either : (i q : ℕ) → (i < q) ⊎ (q ≤ i)
        either i q = grind arith

    fits : (s at rest : ℕ) → at + rest ≡ u → rest < stride n side → u + n ≤ at + min side (whole - at)
    fits s at rest split small = omega arith

-- no other block along the side has the window
pub along_one : (n side whole u i : ℕ) → n ≤ side → i * stride n side ≤ u → u + n ≤ i * stride n side + min side (whole - i * stride n side) → u / stride n side ≡ i
along_one n side whole u i long begins ends =
    let s = stride n side in
    let rest : u - i * s < s = omega arith in
    let split : i * s + (u - i * s) ≡ u = omega arith in
    ap (λ k. k / s) (sym split) ∙ div-mul-add i s (u - i * s) rest

-- a block along a side is no longer than the first
pub no_longer : (side whole at : ℕ) → min side (whole - at) ≤ min side (whole - 0)
no_longer side whole at = omega arith

-- a window has room in each block along a side
pub has_room : (n side whole i : ℕ) → n ≤ side → i < blocks_along n side whole → n ≤ whole → n ≤ min side (whole - i * stride n side)
has_room n side whole i long inside fits =
    let s = stride n side in
    let some : 0 < s = omega arith in
    let cover = div_ceil_times (starts whole n false) s some in
    let q = blocks_along n side whole in
    let next : suc i * s ≤ q * s = mul-le-mul_right s inside in
    let more : suc i * s ≡ i * s + s = omega arith in
    omega (arith, next, more, cover.1)

-- ---- in an area

-- the block in column i and row j of blocks
pub block_in : (n : ℕ) (area : Area) (i j : ℕ) → i < blocks_across n area → block_at n area (j * blocks_across n area + i) ≡ block_from area (j * blocks_across n area + i) (i * stride n area.side) (j * stride n area.side)
block_in n area i j column =
    let across = blocks_across n area in
    let k = j * across + i in
    ap (λ x. block_from area k (x * stride n area.side) (k / across * stride n area.side)) (mod-mul-add j across i column)
    ∙ ap (λ y. block_from area k (i * stride n area.side) (y * stride n area.side)) (div-mul-add j across i column)

-- the block that has a window
pub record IsFound (n : ℕ) (area : Area) (x y : ℕ) : Type 0 where
  pub number : ℕ
  pub inside : number < block_count n area
  pub has : HasWindow n (block_at n area number) x y

pub found : (n : ℕ) (area : Area) (x y : ℕ) → n ≤ area.side → x < starts area.width n false → y < starts area.height n false → IsFound n area x y
found n area x y long column row =
    let s = stride n area.side in
    let across = along n area.side area.width x long column in
    let down = along n area.side area.height y long row in
    let k = y / s * blocks_across n area + x / s in
    record {
      number = k;
      inside = omega (arith, mul-add-lt (y / s) (blocks_across n area) (x / s) (blocks_down n area) down.inside across.inside);
      has = subst (λ block. HasWindow n block x y) (sym (block_in n area (x / s) (y / s) across.inside))
          (record { left = across.begins; right = across.ends; top = down.begins; bottom = down.ends });
    }

-- no other block has it
pub found_one : (n : ℕ) (area : Area) (x y k l : ℕ) → n ≤ area.side → HasWindow n (block_at n area k) x y → HasWindow n (block_at n area l) x y → k ≡ l
found_one n area x y k l long here there =
    let across = blocks_across n area in
    let s = stride n area.side in
    let column : k % across ≡ l % across = sym (along_one n area.side area.width x (k % across) long here.left here.right) ∙ along_one n area.side area.width x (l % across) long there.left there.right in
    let row : k / across ≡ l / across = sym (along_one n area.side area.height y (k / across) long here.top here.bottom) ∙ along_one n area.side area.height y (l / across) long there.top there.bottom in
    sym (div-add-mod' k across) ∙ ap (λ j. j * across + k % across) row ∙ ap (λ i. l / across * across + i) column ∙ div-add-mod' l across

-- ---- pixels of a block

-- a pixel lies in a block
pub record IsIn (block : Block) (x y : ℕ) : Type 0 where
  pub left : block.x ≤ x
  pub right : x < block.x + block.width
  pub top : block.y ≤ y
  pub bottom : y < block.y + block.height

pub lies_from : (block : Block) (x y : ℕ) → IsIn block x y → lies_in block x y ≡ true
lies_from block x y is =
    and_from _ _ (and_from _ _ (and_from _ _ (le-leb block.x x is.left) (lt-ltb x (block.x + block.width) is.right)) (le-leb block.y y is.top)) (lt-ltb y (block.y + block.height) is.bottom)

pub lies_back : (block : Block) (x y : ℕ) → lies_in block x y ≡ true → IsIn block x y
lies_back block x y lies =
    let all = and_parts _ _ lies in
    let three = and_parts _ _ all.0 in
    let two = and_parts _ _ three.0 in
    record { left = leb-true block.x x two.0; right = ltb-true x (block.x + block.width) two.1; top = leb-true block.y y three.1; bottom = ltb-true y (block.y + block.height) all.1 }

-- the window nearest to a pixel has it
pub nearest_found : (n : ℕ) (area : Area) (x y : ℕ) → 0 < n → n ≤ area.side → n ≤ area.width → n ≤ area.height → x < area.width → y < area.height → (k : ℕ) × (k < block_count n area) × IsIn (block_at n area k) x y
nearest_found n area x y some long wide high column row =
    let f = found n area (min x (area.width - n)) (min y (area.height - n)) long (omega arith) (omega arith) in (
      f.number,
      f.inside,
      record { left = omega (arith, f.has.left); right = omega (arith, f.has.right); top = omega (arith, f.has.top); bottom = omega (arith, f.has.bottom) },
    )

-- a block that has room lies in the area
pub block_inside : (side whole at n : ℕ) → 0 < n → n ≤ min side (whole - at) → at + min side (whole - at) ≤ whole
block_inside side whole at n some room = omega arith
