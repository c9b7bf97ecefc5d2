-- Where names first stand, one tile after another, and that they end where a character begins.
use Rattle.std.proofs.Common.{◌≡◌, ℕ, suc, ◌+◌, ◌<◌, ◌≤◌, Bool, true, false, not, cond, ltb, List, [], ◌∷◌, ◌++◌, length, position, Option, None, Some, String, BTreeMap, refl, sym, ap, ◌∙◌, arith, inl, inr, length-append, ◌||◌, if◌then◌else◌}
use Rattle.std.specs.Prelude.{◌==◌, IfSome}
use Rattle.std.specs.Str.{IsCharBoundary}
use Rattle.std.specs.BTreeMap.{IsEmpty, get_by_text}
use Rattle.std.specs.List.{list_any, position_or_len}
use Rattle.std.specs.Map.{update}
use Rattle.std.specs.Option.{option_or, is_some}
use Rattle.std.specs.Str.{bytes_eq}
use Rattle.std.proofs.lemmas.Bool.{cases_Bool, cases_lt, cond-true, cond-false, eqb-true, eq-eqb, false≢true, lt-ltb, le-ltb, ltb-true}
use Rattle.std.proofs.lemmas.List.Folds.{position_or_len_push}
use Rattle.std.proofs.lemmas.List.Sums.{passes_at_first}
use Rattle.std.proofs.lemmas.Slice.Eq.{bytes_eq-Decides}
use Rattle.std.proofs.lemmas.Str.{IsCharBoundary-before_ascii}
use Rattle.wfc_lists.proofs.Positions.{place_absent}
use Rattle.wfc_tileset.specs.Document.{has_name, name_length}
use Rattle.wfc_tileset.specs.Names.{AreNames, IsNoted}
use Rattle.wfc_tileset.specs.Tiles.{TileView}

-- ---- the first place that passes a test

-- it is within the list exactly where something passes
place_within : {X : Type 0} (p : X → Bool) (xs : List X) → ltb (position_or_len p xs) (length xs) ≡ list_any p xs
place_within p [] = refl
place_within p (x ∷ xs) = by (p x) (place_within p xs)
  where
    by : (b : Bool) → ltb (position_or_len p xs) (length xs) ≡ list_any p xs → ltb (cond (not b) (1 + position_or_len p xs) 0) (suc (length xs)) ≡ (b || list_any p xs)
    by true e = lt-ltb 0 (suc (length xs)) (omega arith)
    by false e = elim (cases_lt (position_or_len p xs) (length xs)) [
      | inl l ↦ lt-ltb (1 + position_or_len p xs) (suc (length xs)) (omega arith) ∙ sym (lt-ltb (position_or_len p xs) (length xs) l) ∙ e
      | inr l ↦ le-ltb (1 + position_or_len p xs) (suc (length xs)) (omega arith) ∙ sym (le-ltb (position_or_len p xs) (length xs) l) ∙ e
    ]

-- there is one exactly where something passes
pub some_place : {X : Type 0} (p : X → Bool) (xs : List X) → is_some (position p xs) ≡ list_any p xs
some_place p xs = by (ltb (position_or_len p xs) (length xs)) ∙ place_within p xs
  where
    by : (b : Bool) → is_some (cond b (Some (position_or_len p xs)) None) ≡ b
    by true = refl
    by false = refl

-- with one element more it is the one that was, or that element's
pub position_push : {X : Type 0} (p : X → Bool) (xs : List X) (x : X) → position p (xs ++ x ∷ []) ≡ option_or (position p xs) (if p x then Some (length xs) else None)
position_push p xs x = elim (cases_Bool (list_any p xs)) [
  | inl there ↦
      let n = position_or_len p xs in
      let inside : ltb n (length xs) ≡ true = place_within p xs ∙ there in
      let same : position_or_len p (xs ++ x ∷ []) ≡ n = position_or_len_push p xs x ∙ kept n (length xs) (length xs + cond (p x) 0 1) inside in
      ap (λ k. cond (ltb k (length (xs ++ x ∷ []))) (Some k) None) same
      ∙ ap (λ b. cond b (Some n) None) (longer n (length xs) (length (xs ++ x ∷ [])) inside (omega (arith, length-append xs (x ∷ []))))
      ∙ sym (ap (λ b. option_or (cond b (Some n) None) (if p x then Some (length xs) else None)) inside)
  | inr none ↦
      let outside : position_or_len p xs ≡ length xs = place_absent p xs none in
      let next : position_or_len p (xs ++ x ∷ []) ≡ length xs + cond (p x) 0 1 =
      position_or_len_push p xs x ∙ ap (λ b. cond b (length xs + cond (p x) 0 1) (position_or_len p xs)) (eq-eqb (position_or_len p xs) (length xs) outside) in
      ap (λ k. cond (ltb k (length (xs ++ x ∷ []))) (Some k) None) next
      ∙ last (p x) (length xs) (length (xs ++ x ∷ [])) (omega (arith, length-append xs (x ∷ [])))
      ∙ sym (ap (λ b. option_or (cond b (Some (position_or_len p xs)) None) (if p x then Some (length xs) else None)) (place_within p xs ∙ none))
]
  where
    kept : (n m k : ℕ) → ltb n m ≡ true → cond (n == m) k n ≡ n
    kept n m k inside = elim (cases_Bool (n == m)) [
      | inl same ↦ absurd (omega (arith, ltb-true n m inside, eqb-true n m same))
      | inr other ↦ cond-false (n == m) k n other
    ]

    longer : (n m k : ℕ) → ltb n m ≡ true → k ≡ m + 1 → ltb n k ≡ true
    longer n m k inside e = lt-ltb n k (omega (arith, ltb-true n m inside))

    last : (b : Bool) (m k : ℕ) → k ≡ m + 1 → cond (ltb (m + cond b 0 1) k) (Some (m + cond b 0 1)) None ≡ (if b then Some m else None)
    last true m k e = cond-true (ltb (m + 0) k) (Some (m + 0)) None (lt-ltb (m + 0) k (omega arith)) ∙ ap Some (let same : m + 0 ≡ m = omega arith in same)
    last false m k e = cond-false (ltb (m + 1) k) (Some (m + 1)) None (le-ltb (m + 1) k (omega arith))

-- and it is within the list
pub place_inside : {X : Type 0} (p : X → Bool) (xs : List X) (found : Option ℕ) → found ≡ position p xs → IfSome found (λ at. at < length xs)
place_inside p xs None e = tt
place_inside p xs (Some at) e = by (ltb (position_or_len p xs) (length xs)) refl e
  where
    by : (b : Bool) → ltb (position_or_len p xs) (length xs) ≡ b → Some at ≡ cond b (Some (position_or_len p xs)) None → at < length xs
    by true inside same = let place : at ≡ position_or_len p xs = cc in omega (arith, ltb-true (position_or_len p xs) (length xs) inside)
    by false inside same = absurd (cc (same))

-- ---- names

module _ {Y : Type 0} where
  -- names of no tiles
  pub no_names : (names : BTreeMap (String Y) ℕ) → IsEmpty names → AreNames names []
  no_names names empty name = rw empty refl

  -- what was found of a name that was there already
  pub noted_again : (old : BTreeMap (String Y) ℕ) (noted : List ℕ) (number : ℕ) → is_some (get_by_text old noted) ≡ true → IsNoted old old noted number
  noted_again old noted number there name = elim (cases_Bool (bytes_eq noted name)) [
    | inl same ↦
        let known : is_some (get_by_text old name) ≡ true = ap (λ q. is_some (get_by_text old q)) (sym ((bytes_eq-Decides noted name).0 same)) ∙ there in
        some (get_by_text old name) (if bytes_eq noted name then Some number else None) known
    | inr other ↦ none (get_by_text old name) ∙ ap (option_or (get_by_text old name)) (sym (cond-false (bytes_eq noted name) (Some number) None other))
  ]
    where
      some : (found later : Option ℕ) → is_some found ≡ true → found ≡ option_or found later
      some (Some k) later e = refl
      some None later e = absurd (false≢true e)

      none : (found : Option ℕ) → found ≡ option_or found None
      none (Some k) = refl
      none None = refl

  -- a name that was not there, with its number
  pub noted_new : (old new : BTreeMap (String Y) ℕ) (noted : List ℕ) (number : ℕ) → is_some (get_by_text old noted) ≡ false
      → ((name : List ℕ) → get_by_text new name ≡ update bytes_eq (get_by_text old) noted (Some number) name) → IsNoted old new noted number
  noted_new old new noted number absent updated name = updated name ∙ by (bytes_eq noted name) refl
    where
      none : (found : Option ℕ) → is_some found ≡ false → found ≡ None
      none (Some k) e = absurd (false≢true (sym e))
      none None e = refl

      none_later : (found : Option ℕ) → found ≡ option_or found None
      none_later (Some k) = refl
      none_later None = refl

      by : (b : Bool) → bytes_eq noted name ≡ b → cond (bytes_eq noted name) (Some number) (get_by_text old name) ≡ option_or (get_by_text old name) (if bytes_eq noted name then Some number else None)
      by true same =
          let gone : get_by_text old name ≡ None = none (get_by_text old name) (ap (λ q. is_some (get_by_text old q)) (sym ((bytes_eq-Decides noted name).0 same)) ∙ absent) in
          rw (same, gone) refl
      by false other = rw other (none_later (get_by_text old name))

  -- with the name of one tile more they are the names of that tile too
  pub one_more_name : (old new : BTreeMap (String Y) ℕ) (tiles : List TileView) (tile : TileView) (number : ℕ) → AreNames old tiles → number ≡ length tiles
      → IsNoted old new tile.name number → AreNames new (tiles ++ tile ∷ [])
  one_more_name old new tiles tile number before counted noted name =
      noted name
      ∙ ap (λ found. option_or found (if bytes_eq tile.name name then Some number else None)) (before name)
      ∙ ap (λ n. option_or (position (has_name name) tiles) (if bytes_eq tile.name name then Some n else None)) counted
      ∙ sym (position_push (has_name name) tiles tile)

-- ---- where a name ends

-- a character begins where the first blank stands, or the text ends there
pub name_boundary : (text : List ℕ) → name_length text ≤ length text → IsCharBoundary text (name_length text)
name_boundary text upto = elim (cases_lt (name_length text) (length text)) [
  | inl within ↦ IsCharBoundary-before_ascii text (name_length text) within (omega (arith, eqb-true _ 32 (passes_at_first (λ byte. byte == 32) text 0 within)))
  | inr past ↦ (upto, λ within. absurd (omega arith))
]
