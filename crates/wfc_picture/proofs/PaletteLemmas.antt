-- A palette that is made symbol by symbol.
use Rattle.std.proofs.Common.{◌≡◌, ℕ, ◌+◌, ◌/◌, ◌<◌, ◌≤◌, Bool, ltb, List, [], ◌∷◌, ◌++◌, length, get_or, take, map, None, Some, Result, Ok, Err, refl, sym, subst, ap, ◌∙◌, arith, ◌⊎◌, inl, inr}
use Rattle.std.specs.List.{position_or_len, range_with_len}
use Rattle.std.proofs.lemmas.Bool.{lt-ltb, le-ltb}
use Rattle.std.proofs.lemmas.List.{take_more, map_more, take-map, get_or_default}
use Rattle.std.proofs.lemmas.List.FromFn.{length-range_with_len, get_or-range_with_len}
use Rattle.wfc_lists.specs.WithoutRepeats.{with_new}
use Rattle.wfc_model.specs.Raster.{Raster, raster_of}
use Rattle.wfc_outside.specs.Gives.{Gives, result_map}
use Rattle.wfc_picture.specs.declared.palette.PaletteFault.{PaletteFault}
use Rattle.wfc_picture.specs.declared.palette.PaletteFault.TheVariants.{TooManyColours, NoMemory}
use Rattle.wfc_picture.specs.declared.symbol.Symbol.{Symbol}
use Rattle.wfc_picture.specs.Symbol.{same_symbol}
use Rattle.wfc_picture.specs.declared.palette.TheConstants.{MAX_COLOURS}
use Rattle.wfc_picture.specs.Palette.{palette_of, palette_numbers, first_past, unless_past, picture_and_palette}
use Rattle.wfc_lists.proofs.WithoutRepeats.{unrepeated_push, place_in_all}
use Rattle.wfc_lists.proofs.Positions.{position_at, position_none}
use Rattle.wfc_picture.proofs.SymbolLemmas.{same_symbol-sound, same_symbol-whole}

-- the palette of the first i symbols holds at most 4,096
abbrev pub IsFewUpTo : List Symbol → ℕ → Type 0
IsFewUpTo symbols i = (j : ℕ) → j ≤ i → length (palette_of (take j symbols)) ≤ MAX_COLOURS

module _ (symbols : List Symbol) (i : ℕ) (d : Symbol) (keys : List Symbol) (within : i < length symbols) (found : keys ≡ palette_of (take i symbols)) where
  -- with the next symbol it is the palette of one more
  pub found_more : (new : List Symbol) → new ≡ with_new same_symbol keys (get_or symbols i d) → new ≡ palette_of (take (i + 1) symbols)
  found_more new kept =
      kept
      ∙ ap (λ ks. with_new same_symbol ks (get_or symbols i d)) found
      ∙ sym (unrepeated_push same_symbol same_symbol-sound same_symbol-whole (take i symbols) (get_or symbols i d))
      ∙ ap palette_of (sym (take_more symbols i d within))

  -- the number that the symbol is given is its number in the end
  pub cells_more : (cells : List ℕ) (number : ℕ) → number ≡ position_or_len (same_symbol (get_or symbols i d)) keys → cells ≡ take i (palette_numbers symbols) → cells ++ number ∷ [] ≡ take (i + 1) (palette_numbers symbols)
  cells_more cells number place so_far =
      let x : Symbol = get_or symbols i d in
      let f : Symbol → ℕ = λ symbol. position_or_len (same_symbol symbol) (palette_of symbols) in
      let last : number ≡ f x =
      place
      ∙ ap (position_or_len (same_symbol x)) found
      ∙ sym (place_in_all same_symbol same_symbol-sound same_symbol-whole symbols i x within (get_or_default symbols i d x within)) in
      ap (λ ns. ns ++ number ∷ []) (so_far ∙ take-map f i symbols)
      ∙ ap (λ n. map f (take i symbols) ++ n ∷ []) last
      ∙ sym (map_more f symbols i d within)
      ∙ sym (take-map f (i + 1) symbols)

  -- and it holds at most 4,096 as long as it may
  pub few_more : (new : List Symbol) → new ≡ with_new same_symbol keys (get_or symbols i d) → length new ≤ MAX_COLOURS → IsFewUpTo symbols i → IsFewUpTo symbols (i + 1)
  few_more new kept limit few j upto =
      elim (last_or_before i j upto) [
        | inl before ↦ few j before
        | inr last ↦ subst (λ k. length (palette_of (take k symbols)) ≤ MAX_COLOURS) (sym last) (subst (λ ks. length ks ≤ MAX_COLOURS) (found_more new kept) limit)
      ]
    where
      last_or_before : (i j : ℕ) → j ≤ i + 1 → (j ≤ i) ⊎ (j ≡ i + 1)
      last_or_before i j upto = grind arith

  -- the first one too many
  pub past_at : MAX_COLOURS < length (with_new same_symbol keys (get_or symbols i d)) → IsFewUpTo symbols i → first_past MAX_COLOURS symbols ≡ Some i
  past_at many few =
      let p : ℕ → Bool = λ at. ltb MAX_COLOURS (length (palette_of (take (at + 1) symbols))) in
      let n = length symbols in
      position_at p (range_with_len 0 n) i 0 (omega (arith, length-range_with_len 0 n))
      (ap p (get_or-range_with_len 0 n i 0 within) ∙ lt-ltb MAX_COLOURS (length (palette_of (take (0 + i + 1) symbols))) (subst (λ k. MAX_COLOURS < length (palette_of (take (k + 1) symbols))) (zero_plus i) (subst (λ ks. MAX_COLOURS < length ks) (found_more _ refl) many)))
      (λ k before. ap p (get_or-range_with_len 0 n k 0 (omega arith)) ∙ le-ltb MAX_COLOURS (length (palette_of (take (0 + k + 1) symbols))) (few (0 + k + 1) (omega arith)))
    where
      zero_plus : (i : ℕ) → i ≡ 0 + i
      zero_plus i = omega arith

-- none is too many
pub none_past : (symbols : List Symbol) (n : ℕ) → length symbols ≤ n → IsFewUpTo symbols n → first_past MAX_COLOURS symbols ≡ None
none_past symbols n all few =
    let p : ℕ → Bool = λ at. ltb MAX_COLOURS (length (palette_of (take (at + 1) symbols))) in
    position_none p (range_with_len 0 (length symbols)) 0 (λ k within.
    let below : k < length symbols = omega (arith, length-range_with_len 0 (length symbols)) in
    ap p (get_or-range_with_len 0 (length symbols) k 0 below) ∙ le-ltb MAX_COLOURS (length (palette_of (take (0 + k + 1) symbols))) (few (0 + k + 1) (omega arith)))

-- where none is too many, the picture of the numbers and the palette are what the symbols are numbered as
pub indexed-made : (symbols : List Symbol) (width : ℕ) (picture : Raster) (palette : List Symbol) → first_past MAX_COLOURS symbols ≡ None
    → picture ≡ raster_of width (length symbols / width) (palette_numbers symbols) → palette ≡ palette_of symbols → Ok (picture, palette) ≡ picture_and_palette symbols width
indexed-made symbols width picture palette none picture_is palette_is =
    ap (λ (m : Raster). made (m, palette)) picture_is
    ∙ ap (λ (p : List Symbol). made (raster_of width (length symbols / width) (palette_numbers symbols), p)) palette_is
    ∙ sym (ap (λ at. unless_past at symbols width) none)
  where
    made : Raster × List Symbol → Result (Raster × List Symbol) PaletteFault
    made both = Ok both

-- where one is too many, it is named
pub indexed-past : (symbols : List Symbol) (width at : ℕ) → first_past MAX_COLOURS symbols ≡ Some at → Err (TooManyColours at) ≡ picture_and_palette symbols width
indexed-past symbols width at past = sym (ap (λ o. unless_past o symbols width) past)

-- a fault is the wanted answer, or want of memory
pub gives_fault : {X : Type 0} (result wanted : Result X PaletteFault) (fault : PaletteFault) → result ≡ Err fault → ((at : ℕ) → fault ≡ TooManyColours at → Err (TooManyColours at) ≡ wanted) → Gives NoMemory (λ made. made) result wanted
gives_fault {X = X} result wanted (TooManyColours at) is past = inl (ap same is ∙ past at refl)
  where
    same : Result X PaletteFault → Result X PaletteFault
    same r = result_map (λ made. made) r
gives_fault result wanted NoMemory is past = inr is
