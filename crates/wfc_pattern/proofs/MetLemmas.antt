-- Where the windows of a tally stand, and what is remembered of the windows that were met.
use Rattle.std.proofs.Common.{◌≡◌, ℕ, zero, suc, ◌+◌, ◌/◌, ◌%◌, ◌==◌, ◌<◌, ◌≤◌, Bool, true, false, cond, List, [], ◌∷◌, ◌++◌, length, get_or, map, fold, take, Option, None, Some, Vec, Result, Ok, Err, OnOk, OnErr, refl, sym, subst, ap, ◌∙◌, arith, if◌then◌else◌, nat_eq}
use Rattle.std.specs.Map.{lookup}
use Rattle.std.specs.Vec.{with_items}
use Rattle.std.proofs.lemmas.List.{length-map, get_or-map, length-take-le}
use Rattle.std.proofs.lemmas.List.Sums.{fold_more}
use Rattle.std.proofs.lemmas.List.FromFn.{map-range_with_len_more, length-map-range_with_len}
use Rattle.std.proofs.lemmas.Option.{slice_get_within, get_or_from_slice_get}
use Rattle.indexmap.specs.IndexMap.{insert_entry}
use Rattle.std.specs.Cmp.Lexicographic.{pointwise}
use Rattle.wfc_model.specs.Image.{image, after_turns, reflected}
use Rattle.wfc_pattern.specs.Met.{first_images, noted_at, StandsAt, HasKept, ArePlacesOf, AreMet, entries_met}
use Rattle.wfc_pattern.specs.Tally.{recount, total, windows_of}
use Rattle.wfc_pattern.proofs.NotedLemmas.{holds}
use Rattle.wfc_pattern.proofs.TallyLemmas.{sound, total-fold}

-- what is written over a vector's elements leaves it as long
pub length_rewritten : {X Z : Type 0} (v : Vec X Z) (xs : List X) → length (with_items v xs).items ≡ length v.items
length_rewritten v xs = omega (arith, (with_items v xs).ok.0, v.ok.0)

-- one more window leaves each where it stood
pub kept_noted : (es : List (List ℕ × ℕ)) (v : List ℕ) → HasKept es (recount es v)
kept_noted [] v at w stands = absurd (no w stands)
  where
    no : (x : List ℕ) → (let none : Option (List ℕ) = None in none) ≡ Some x → ⊥
    no x same = cc
kept_noted (e ∷ es) v at w stands = by (pointwise nat_eq v e.0) at stands (kept_noted es v)
  where
    by : (b : Bool) (i : ℕ) → StandsAt (e ∷ es) i w → HasKept es (recount es v) → StandsAt (if b then (e.0, e.1 + 1) ∷ es else e ∷ recount es v) i w
    by true zero there rest = there
    by true (suc i) there rest = there
    by false zero there rest = there
    by false (suc i) there rest = rest i w there

-- the places of windows stay theirs
pub kept_places : (old new : List (List ℕ × ℕ)) → HasKept old new → (ats : List ℕ) (ws : List (List ℕ)) → ArePlacesOf old ats ws → ArePlacesOf new ats ws
kept_places old new kept [] [] are = tt
kept_places old new kept [] (w ∷ ws) are = absurd are
kept_places old new kept (at ∷ ats) [] are = absurd are
kept_places old new kept (at ∷ ats) (w ∷ ws) are = (kept at w are.0, kept_places old new kept ats ws are.1)

-- one more place, and the window that stands there
pub places_more : (es : List (List ℕ × ℕ)) (ats : List ℕ) (ws : List (List ℕ)) (at : ℕ) (w : List ℕ) → ArePlacesOf es ats ws → StandsAt es at w → ArePlacesOf es (ats ++ at ∷ []) (ws ++ w ∷ [])
places_more es [] [] at w are stands = (stands, tt)
places_more es [] (v ∷ ws) at w are stands = absurd are
places_more es (i ∷ ats) [] at w are stands = absurd are
places_more es (i ∷ ats) (v ∷ ws) at w are stands = (are.0, places_more es ats ws at w are.1 stands)

-- what stands at the places of windows are these windows
pub noted_places : (es : List (List ℕ × ℕ)) (ats : List ℕ) (ws : List (List ℕ)) → ArePlacesOf es ats ws → map (noted_at es) ats ≡ ws
noted_places es [] [] are = refl
noted_places es [] (w ∷ ws) are = absurd are
noted_places es (at ∷ ats) [] are = absurd are
noted_places es (at ∷ ats) (w ∷ ws) are = ap (λ v. v ∷ map (noted_at es) ats) (get_or_from_slice_get (windows_of es) at w [] are.0) ∙ ap (λ vs. w ∷ vs) (noted_places es ats ws are.1)

-- and they are places of the tally
pub places_within : (es : List (List ℕ × ℕ)) (ats : List ℕ) (ws : List (List ℕ)) → ArePlacesOf es ats ws → (k d : ℕ) → k < length ats → get_or ats k d < length es
places_within es [] ws are k d below = absurd (omega arith)
places_within es (at ∷ ats) [] are k d below = absurd are
places_within es (at ∷ ats) (w ∷ ws) are zero d below = omega (arith, slice_get_within (windows_of es) at w are.0, length-map es (λ (e : List ℕ × ℕ). e.0))
places_within es (at ∷ ats) (w ∷ ws) are (suc k) d below = places_within es ats ws are.1 k d (omega arith)

-- as many as the images
pub length_places : (es : List (List ℕ × ℕ)) (ats : List ℕ) (n s : ℕ) (w : List ℕ) → ArePlacesOf es ats (first_images n s w) → length ats ≡ s
length_places es ats n s w are = sym (length-map ats (noted_at es)) ∙ ap length (noted_places es ats (first_images n s w) are) ∙ length-map-range_with_len (image n w) 0 s

-- what is remembered of the windows that were met stays right
pub kept_met : (n s : ℕ) (old new : List (List ℕ × ℕ)) → HasKept old new → (met : List (List ℕ × List ℕ)) → AreMet n s old met → AreMet n s new met
kept_met n s old new kept [] are = tt
kept_met n s old new kept (e ∷ met) are = (kept_places old new kept e.1 (first_images n s e.0) are.0, kept_met n s old new kept met are.1)

-- one more image has its place
pub image_placed : (n : ℕ) (w : List ℕ) (k : ℕ) (v : List ℕ) (es : List (List ℕ × ℕ)) (ats : List ℕ) (at : ℕ) → v ≡ after_turns n w (k / 2) → ArePlacesOf es ats (first_images n k w) → StandsAt es at (if k % 2 == 0 then v else reflected n v)
    → ArePlacesOf es (ats ++ at ∷ []) (first_images n (k + 1) w)
image_placed n w k v es ats at so_far are stands =
    let here : StandsAt es at (image n w k) = subst (λ u. StandsAt es at (if k % 2 == 0 then u else reflected n u)) so_far stands in
    subst (ArePlacesOf es (ats ++ at ∷ [])) (sym (map-range_with_len_more (image n w) 0 k k (omega arith))) (places_more es ats (first_images n k w) at (image n w k) are here)

-- one more of the windows at some places is noted
pub raised_more : (start es now : List (List ℕ × ℕ)) (ats : List ℕ) (i : ℕ) → i < length ats → es ≡ fold recount start (take i (map (noted_at start) ats)) → windows_of es ≡ windows_of start → now ≡ recount es (noted_at es (get_or ats i 0))
    → now ≡ fold recount start (take (i + 1) (map (noted_at start) ats))
raised_more start es now ats i within before same step =
    let ws = map (noted_at start) ats in
    let there : i < length ws = omega (arith, within, length-map ats (noted_at start)) in
    step
    ∙ ap (recount es) (ap (λ vs. get_or vs (get_or ats i 0) []) same)
    ∙ ap (recount es) (sym (get_or-map (noted_at start) ats i 0 [] within))
    ∙ ap (λ t. recount t (get_or ws i [])) before
    ∙ sym (fold_more recount start ws i [] there)

-- and how many were noted
pub total_raised : (start es : List (List ℕ × ℕ)) (ats : List ℕ) (i : ℕ) → i ≤ length ats → es ≡ fold recount start (take i (map (noted_at start) ats)) → total es ≡ total start + i
total_raised start es ats i within before =
    let ws = map (noted_at start) ats in
    let there : i ≤ length ws = omega (arith, within, length-map ats (noted_at start)) in
    ap total before ∙ total-fold start (take i ws) ∙ ap (λ m. total start + m) (length-take-le i ws there)

same_list : {X : Type 0} (a b : X) → (let some : Option X = Some a in some) ≡ Some b → a ≡ b
same_list a b same = cc

module _ {Y Z : Type 0} where
  -- a window that was met has the places of its images
  pub met_places : (n s : ℕ) (es : List (List ℕ × ℕ)) (met : List (Vec ℕ Z × Vec ℕ Y)) (w : List ℕ) (v : Vec ℕ Y) → AreMet n s es (entries_met met) → lookup (holds w) met ≡ Some v → ArePlacesOf es v.items (first_images n s w)
  met_places n s es [] w v are found = absurd (no v found)
    where
      no : (x : Vec ℕ Y) → (let none : Option (Vec ℕ Y) = None in none) ≡ Some x → ⊥
      no x same = cc
  met_places n s es (e ∷ met) w v are found = by (holds w e.0) refl (met_places n s es met w v are.1)
    where
      by : (b : Bool) → holds w e.0 ≡ b → (lookup (holds w) met ≡ Some v → ArePlacesOf es v.items (first_images n s w)) → ArePlacesOf es v.items (first_images n s w)
      by true same rest =
          let is : e.1 ≡ v = same_list e.1 v (sym (ap (λ b. cond b (Some e.1) (lookup (holds w) met)) same) ∙ found) in
          subst (λ u. ArePlacesOf es u.items (first_images n s w)) is (subst (λ u. ArePlacesOf es e.1.items (first_images n s u)) (sym (sound w e.0.items same)) are.0)
      by false other rest = rest (sym (ap (λ b. cond b (Some e.1) (lookup (holds w) met)) other) ∙ found)

  -- the same where the places were lent
  pub places_lent : (n s : ℕ) (es : List (List ℕ × ℕ)) (met : List (Vec ℕ Z × Vec ℕ Y)) (w : List ℕ) (v : Vec ℕ Y) (ats : List ℕ) → AreMet n s es (entries_met met) → Some v ≡ lookup (holds w) met → ats ≡ v.items → ArePlacesOf es ats (first_images n s w)
  places_lent n s es met w v ats are found lent = subst (λ is. ArePlacesOf es is (first_images n s w)) (sym lent) (met_places n s es met w v are (sym found))

  -- one more window with its places
  pub met_more : (n s : ℕ) (es : List (List ℕ × ℕ)) (met : List (Vec ℕ Z × Vec ℕ Y)) (key : Vec ℕ Z) (v : Vec ℕ Y) → AreMet n s es (entries_met met) → ArePlacesOf es v.items (first_images n s key.items)
      → AreMet n s es (entries_met (insert_entry (λ k l. pointwise nat_eq k.items l.items) met key v))
  met_more n s es [] key v are places = (places, tt)
  met_more n s es (e ∷ met) key v are places = by (pointwise nat_eq key.items e.0.items) refl (met_more n s es met key v are.1 places)
    where
      by : (b : Bool) → pointwise nat_eq key.items e.0.items ≡ b → AreMet n s es (entries_met (insert_entry (λ k l. pointwise nat_eq k.items l.items) met key v))
          → AreMet n s es (entries_met (if b then (e.0, v) ∷ met else e ∷ insert_entry (λ k l. pointwise nat_eq k.items l.items) met key v))
      by true same rest = (subst (λ u. ArePlacesOf es v.items (first_images n s u)) (sound key.items e.0.items same) places, are.1)
      by false other rest = (are.0, rest)

  -- whether or not there was memory for it
  pub met_after : {A E : Type 0} (r : Result A E) (n s : ℕ) (es : List (List ℕ × ℕ)) (met new : List (Vec ℕ Z × Vec ℕ Y)) (key : Vec ℕ Z) (v : Vec ℕ Y) → AreMet n s es (entries_met met) → ArePlacesOf es v.items (first_images n s key.items)
      → OnOk r (new ≡ insert_entry (λ k l. pointwise nat_eq k.items l.items) met key v) → OnErr r (new ≡ met) → AreMet n s es (entries_met new)
  met_after (Ok a) n s es met new key v are places inserted kept = subst (λ m. AreMet n s es (entries_met m)) (sym inserted) (met_more n s es met key v are places)
  met_after (Err e) n s es met new key v are places inserted kept = subst (λ m. AreMet n s es (entries_met m)) (sym kept) are
