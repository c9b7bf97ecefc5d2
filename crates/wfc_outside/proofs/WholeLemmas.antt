-- The first bytes of a file that is read whole in pieces.
use Rattle.std.proofs.Common.{◌≡◌, ℕ, ◌+◌, ◌-◌, ◌<◌, ◌≤◌, List, [], ◌++◌, length, take, drop, refl, ap, sym, ◌∙◌, subst, Option, None, Some, arith, length-append}
use Rattle.std.proofs.lemmas.List.{length-take}
use Rattle.std.proofs.Math.Seq.{take-add}
use Rattle.wfc_outside.specs.Folder.{File, FolderView, file_of, IsPieceOf, GivesFrom}
use Rattle.wfc_outside.specs.Whole.{IsLongerThan}

-- these are the first bytes of the file
pub record Begins (file front : List ℕ) : Type 0 where
  pub fits : length front ≤ length file
  pub same : front ≡ take (length front) file

-- where the files are told, these are the first bytes of the named one, if it is there
abbrev pub IsFrontOf : Option (List File) → List ℕ → List ℕ → Type 0
IsFrontOf None name front = Unit {0}
IsFrontOf (Some files) name front = (file : List ℕ) → file_of files name ≡ Some file → Begins file front

-- nothing is a front of any file
pub nothing_is_front : (contents : Option (List File)) (name : List ℕ) → IsFrontOf contents name []
nothing_is_front None name = tt
nothing_is_front (Some files) name = λ file is. record { fits = omega arith; same = refl }

-- the first bytes with the piece that follows them are first bytes
begins_more : (file front buffer : List ℕ) (n : ℕ) → Begins file front → IsPieceOf file (length front) buffer n → n ≤ length buffer → Begins file (front ++ take n buffer)
begins_more file front buffer n begins piece fits =
    let len : length (front ++ take n buffer) ≡ length front + n = length-append front (take n buffer) ∙ ap (λ m. length front + m) (length-take n buffer ∙ omega arith) in
    let inside : n ≤ length file - length front = piece.inside in
    let both : front ++ take n buffer ≡ take (length front + n) file =
    ap (λ l. front ++ l) piece.same ∙ ap (λ l. l ++ take n (drop (length front) file)) begins.same ∙ sym (take-add (length front) n file) in
    let before : length front ≤ length file = begins.fits in
    record {
      fits = omega arith;
      same = both ∙ ap (λ m. take m file) (sym len);
    }

-- the bytes that a reading gives from the end of the first bytes on make more first bytes
pub front_more : (contents : Option (List File)) (name front buffer : List ℕ) (n : ℕ) → IsFrontOf contents name front → GivesFrom contents name (length front) buffer n → n ≤ length buffer → IsFrontOf contents name (front ++ take n buffer)
front_more None name front buffer n begins given fits = tt
front_more (Some files) name front buffer n begins given fits = λ file is.
    let same : given.0 ≡ file = let both : Some given.0 ≡ Some file = sym given.1 ∙ is in cc in
    let piece : IsPieceOf file (length front) buffer n = subst (λ (f : List ℕ). IsPieceOf f (length front) buffer n) same given.2 in
    begins_more file front buffer n (begins file is) piece fits

-- where a reading gives bytes past the limit, the file is longer than the limit
pub front_longer : (contents : Option (List File)) (name front buffer : List ℕ) (n limit : ℕ) → IsFrontOf contents name front → GivesFrom contents name (length front) buffer n → n ≤ length buffer → limit < length front + n → IsLongerThan contents name limit
front_longer None name front buffer n limit begins given fits past =
    let len : length (front ++ take n buffer) ≡ length front + n = length-append front (take n buffer) ∙ ap (λ m. length front + m) (length-take n buffer ∙ omega arith) in
    (front ++ take n buffer, omega arith, tt)
front_longer (Some files) name front buffer n limit begins given fits past =
    let before : length front ≤ length given.0 = (begins given.0 given.1).fits in
    let inside : n ≤ length given.0 - length front = given.2.inside in
    (given.0, omega arith, given.1)

-- what a reading at the end of the first bytes gives, of a folder that is seen as before
pub given_next : (start here : FolderView) (name front buffer : List ℕ) (at n : ℕ) → here ≡ start → at ≡ length front → GivesFrom here.contents name at buffer n → GivesFrom start.contents name (length front) buffer n
given_next start here name front buffer at n same place given =
    subst (λ (m : ℕ). GivesFrom start.contents name m buffer n) place (subst (λ (folder : FolderView). GivesFrom folder.contents name at buffer n) same given)
