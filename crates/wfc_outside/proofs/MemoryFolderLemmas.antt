-- What the files of a folder in memory tell, by the place of a name among them.
use Rattle.std.proofs.Common.{◌≡◌, ◌≢◌, ℕ, zero, suc, ◌+◌, ◌-◌, ◌<◌, ◌≤◌, true, false, cond, not, ltb, List, [], ◌∷◌, ◌++◌, length, map, take, drop, min, get_or, set, refl, ap, sym, ◌∙◌, subst, Option, None, Some, arith, position}
use Rattle.std.specs.List.{position_or_len}
use Rattle.std.proofs.lemmas.Bool.Decides.{nat_tests}
use Rattle.std.proofs.lemmas.List.Quantifiers.{position-Some}
use Rattle.std.proofs.lemmas.Slice.Eq.{bytes_eq-Decides}
use Rattle.std.specs.Str.{bytes_eq}
use Rattle.wfc_outside.specs.Count.{next_count, HasRisen}
use Rattle.wfc_outside.proofs.CallerLemmas.{never_falls}
use Rattle.wfc_outside.specs.Folder.{File, file_of, IsPieceOf}
use Rattle.wfc_outside.specs.MemoryFolder.{MemoryFile, told_file, faults_of, with_file, with_fault}

-- the first file of that name stands at this place
abbrev pub IsFirstAt : List MemoryFile → List ℕ → ℕ → Type 0
IsFirstAt [] name place = ⊥
IsFirstAt (file ∷ files) name zero = bytes_eq file.name name ≡ true
IsFirstAt (file ∷ files) name (suc place) = (bytes_eq file.name name ≡ false) × IsFirstAt files name place

-- no file has that name
abbrev pub IsNowhere : List MemoryFile → List ℕ → Type 0
IsNowhere [] name = Unit {0}
IsNowhere (file ∷ files) name = (bytes_eq file.name name ≡ false) × IsNowhere files name

-- the first place at which the test for the name passes
first_by_tests : (files : List MemoryFile) (name : List ℕ) (place : ℕ) → place < length files → ((d : MemoryFile) → bytes_eq (get_or files place d).name name ≡ true) → ((k : ℕ) (d : MemoryFile) → k < place → bytes_eq (get_or files k d).name name ≡ false) → IsFirstAt files name place
first_by_tests [] name place inside named before = absurd (omega arith)
first_by_tests (file ∷ files) name zero inside named before = named file
first_by_tests (file ∷ files) name (suc place) inside named before =
    (before 0 file (omega arith), first_by_tests files name place (omega arith) named (λ k d lt. before (suc k) d (omega arith)))

-- the place that `position` gives is that of the first file of that name
pub first_at : (files : List MemoryFile) (name : List ℕ) (place : ℕ) → position (λ (f : MemoryFile). bytes_eq f.name name) files ≡ Some place → IsFirstAt files name place
first_at files name place is =
    let at : (d : MemoryFile) → (place < length files) × (bytes_eq (get_or files place d).name name ≡ true) × ((k : ℕ) → k < place → bytes_eq (get_or files k d).name name ≡ false) =
    λ d. position-Some (λ (f : MemoryFile). bytes_eq f.name name) files place d is in
    let any : MemoryFile = record { name = []; bytes = []; faults = 0 } in
    first_by_tests files name place (at any).0 (λ d. (at d).1) (λ k d lt. (at d).2 k lt)

-- where the test passes at no place, no file has that name
nowhere_by_length : (files : List MemoryFile) (name : List ℕ) → length files ≤ position_or_len (λ (f : MemoryFile). bytes_eq f.name name) files → IsNowhere files name
nowhere_by_length [] name all = tt
nowhere_by_length (file ∷ files) name all =
    elim (bytes_eq file.name name) as (λ b. suc (length files) ≤ cond (not b) (1 + position_or_len (λ (f : MemoryFile). bytes_eq f.name name) files) 0 → (b ≡ false) × IsNowhere files name) [
      | true ↦ λ past. absurd (omega arith)
      | false ↦ λ past. (refl, nowhere_by_length files name (omega arith))
    ] all

-- `position` gives none only where its place would lie past the end
none_at_end : (n m : ℕ) → cond (ltb n m) (Some n) None ≡ None → m ≤ n
none_at_end n m is = grind (arith, nat_tests)

-- where `position` gives none, no file has that name
pub nowhere : (files : List MemoryFile) (name : List ℕ) → position (λ (f : MemoryFile). bytes_eq f.name name) files ≡ None → IsNowhere files name
nowhere files name is = nowhere_by_length files name (none_at_end _ _ is)

-- no bytes are told of a name that no file has
pub absent : (files : List MemoryFile) (name : List ℕ) → IsNowhere files name → file_of (map told_file files) name ≡ None
absent [] name not_here = refl
absent (file ∷ files) name not_here = rw not_here.0 (absent files name not_here.1)

-- a new name goes to the end
pub with_file_new : (files : List MemoryFile) (name bytes : List ℕ) → IsNowhere files name → with_file files name bytes ≡ files ++ (record { name = name; bytes = bytes; faults = 0 } ∷ [])
with_file_new [] name bytes not_here = refl
with_file_new (file ∷ files) name bytes not_here = rw not_here.0 (ap (λ (fs : List MemoryFile). file ∷ fs) (with_file_new files name bytes not_here.1))

-- the told bytes of a name are those of its first file
pub present : (files : List MemoryFile) (name : List ℕ) (place : ℕ) (file : MemoryFile) → IsFirstAt files name place → file ≡ get_or files place file → file_of (map told_file files) name ≡ Some file.bytes
present [] name place file first is = absurd first
present (f ∷ files) name zero file first is = rw first (ap (λ (g : MemoryFile). Some g.bytes) (sym is))
present (f ∷ files) name (suc place) file first is = rw first.0 (present files name place file first.1 is)

-- the bytes of a name are replaced at the place of its first file
pub with_file_at : (files : List MemoryFile) (name : List ℕ) (place : ℕ) (file : MemoryFile) (bytes : List ℕ) → IsFirstAt files name place → file ≡ get_or files place file → with_file files name bytes ≡ set files place (record file { bytes = bytes })
with_file_at [] name place file bytes first is = absurd first
with_file_at (f ∷ files) name zero file bytes first is = rw first (ap (λ (g : MemoryFile). record g { bytes = bytes } ∷ files) (sym is))
with_file_at (f ∷ files) name (suc place) file bytes first is = rw first.0 (ap (λ (fs : List MemoryFile). f ∷ fs) (with_file_at files name place file bytes first.1 is))

-- a fault of a name is counted at the place of its first file
pub with_fault_at : (files : List MemoryFile) (name : List ℕ) (place : ℕ) (file : MemoryFile) → IsFirstAt files name place → file ≡ get_or files place file → with_fault files name ≡ set files place (record file { faults = next_count file.faults })
with_fault_at [] name place file first is = absurd first
with_fault_at (f ∷ files) name zero file first is = rw first (ap (λ (g : MemoryFile). record g { faults = next_count g.faults } ∷ files) (sym is))
with_fault_at (f ∷ files) name (suc place) file first is = rw first.0 (ap (λ (fs : List MemoryFile). f ∷ fs) (with_fault_at files name place file first.1 is))

-- a fault changes nothing of what is told
pub told-with_fault : (files : List MemoryFile) (name : List ℕ) → map told_file (with_fault files name) ≡ map told_file files
told-with_fault [] name = refl
told-with_fault (file ∷ files) name =
    elim (bytes_eq file.name name) as (λ b. map told_file (cond b (record file { faults = next_count file.faults } ∷ files) (file ∷ with_fault files name)) ≡ map told_file (file ∷ files)) [
      | true ↦ refl
      | false ↦ ap (λ (fs : List File). told_file file ∷ fs) (told-with_fault files name)
    ]

-- a fault raises the count of its name
pub faults_rise : (files : List MemoryFile) (name : List ℕ) (place : ℕ) (file : MemoryFile) → IsFirstAt files name place → file ≡ get_or files place file → HasRisen file.faults (next_count file.faults) → HasRisen (faults_of files name) (faults_of (with_fault files name) name)
faults_rise [] name place file first is rises = absurd first
faults_rise (f ∷ files) name zero file first is rises =
    let rises_here : HasRisen f.faults (next_count f.faults) = subst (λ (g : MemoryFile). HasRisen g.faults (next_count g.faults)) is rises in
    simp first rises_here
faults_rise (f ∷ files) name (suc place) file first is rises = simp first.0 (faults_rise files name place file first.1 is rises)

-- a fault lowers no count
pub faults_stay : (files : List MemoryFile) (name : List ℕ) (place : ℕ) (file : MemoryFile) → IsFirstAt files name place → file ≡ get_or files place file → HasRisen file.faults (next_count file.faults) → (other : List ℕ) → faults_of files other ≤ faults_of (with_fault files name) other
faults_stay [] name place file first is rises other = absurd first
faults_stay (f ∷ files) name zero file first is rises other =
    let rises_here : f.faults ≤ next_count f.faults = never_falls f.faults (next_count f.faults) (subst (λ (g : MemoryFile). HasRisen g.faults (next_count g.faults)) is rises) in
    rw first (elim (bytes_eq f.name other) as (λ b. cond b f.faults (faults_of files other) ≤ cond b (next_count f.faults) (faults_of files other)) [
      | true ↦ rises_here
      | false ↦ omega arith
    ])
faults_stay (f ∷ files) name (suc place) file first is rises other =
    rw first.0 (elim (bytes_eq f.name other) as (λ b. cond b f.faults (faults_of files other) ≤ cond b f.faults (faults_of (with_fault files name) other)) [
      | true ↦ omega arith
      | false ↦ faults_stay files name place file first.1 is rises other
    ])

-- two different names fail the test
bytes_differ : (a b : List ℕ) → a ≢ b → bytes_eq a b ≡ false
bytes_differ a b differ =
    elim (bytes_eq a b) as (λ t. bytes_eq a b ≡ t → t ≡ false) [
      | true ↦ λ is. absurd (differ ((bytes_eq-Decides a b).0 is))
      | false ↦ λ is. refl
    ] refl

-- what was added is told
pub told-with_file : (files : List MemoryFile) (name bytes : List ℕ) → file_of (map told_file (with_file files name bytes)) name ≡ Some bytes
told-with_file [] name bytes = let same : bytes_eq name name ≡ true = (bytes_eq-Decides name name).1 refl in rw same
told-with_file (file ∷ files) name bytes =
    elim (bytes_eq file.name name) as (λ b. bytes_eq file.name name ≡ b → file_of (map told_file (cond b (record file { bytes = bytes } ∷ files) (file ∷ with_file files name bytes))) name ≡ Some bytes) [
      | true ↦ λ is. rw is
      | false ↦ λ is. rw is (told-with_file files name bytes)
    ] refl

-- what was added changes nothing that is told of other names
pub others-with_file : (files : List MemoryFile) (name bytes other : List ℕ) → other ≢ name → file_of (map told_file (with_file files name bytes)) other ≡ file_of (map told_file files) other
others-with_file [] name bytes other differs = let not_same : bytes_eq name other ≡ false = bytes_differ name other (λ is. differs (sym is)) in rw not_same
others-with_file (file ∷ files) name bytes other differs =
    elim (bytes_eq file.name name) as (λ b. bytes_eq file.name name ≡ b → file_of (map told_file (cond b (record file { bytes = bytes } ∷ files) (file ∷ with_file files name bytes))) other ≡ file_of (map told_file (file ∷ files)) other) [
      | true ↦ λ is.
          let not_same : bytes_eq file.name other ≡ false = bytes_differ file.name other (λ named. differs (sym named ∙ (bytes_eq-Decides file.name name).0 is)) in
          rw not_same
      | false ↦ λ is. ap (λ (rest : Option (List ℕ)). cond (bytes_eq file.name other) (Some file.bytes) rest) (others-with_file files name bytes other differs)
    ] refl

-- the place that a search for the name found
abbrev pub Found : List MemoryFile → List ℕ → Option ℕ → Type 0
Found files name found = found ≡ position (λ (f : MemoryFile). bytes_eq f.name name) files

-- the files after the bytes at the place that was found were replaced
pub replaced : (files : List MemoryFile) (name bytes : List ℕ) (place : ℕ) (file new : MemoryFile) → Found files name (Some place) → file ≡ get_or files place file → new ≡ record file { bytes = bytes } → set files place new ≡ with_file files name bytes
replaced files name bytes place file new found is made =
    ap (λ (f : MemoryFile). set files place f) made ∙ sym (with_file_at files name place file bytes (first_at files name place (sym found)) is)

-- the files after a name that was not found was put at the end
pub appended : (files : List MemoryFile) (name bytes : List ℕ) → Found files name None → files ++ (record { name = name; bytes = bytes; faults = 0 } ∷ []) ≡ with_file files name bytes
appended files name bytes found = sym (with_file_new files name bytes (nowhere files name (sym found)))

-- where no place was found, nothing is told of the name
pub absent_found : (files : List MemoryFile) (name : List ℕ) → Found files name None → file_of (map told_file files) name ≡ None
absent_found files name found = absent files name (nowhere files name (sym found))

-- where a place was found, the bytes of the file there are told
pub present_found : (files : List MemoryFile) (name : List ℕ) (place : ℕ) (file : MemoryFile) → Found files name (Some place) → file ≡ get_or files place file → file_of (map told_file files) name ≡ Some file.bytes
present_found files name place file found is = present files name place file (first_at files name place (sym found)) is

-- the files after a fault was counted at the place that was found
pub counted : (files : List MemoryFile) (name : List ℕ) (place : ℕ) (file new : MemoryFile) → Found files name (Some place) → file ≡ get_or files place file → new ≡ record file { faults = next_count file.faults } → set files place new ≡ with_fault files name
counted files name place file new found is made =
    ap (λ (f : MemoryFile). set files place f) made ∙ sym (with_fault_at files name place file (first_at files name place (sym found)) is)

-- the bytes of one piece are given
pub is_piece : (file buffer old : List ℕ) (at piece n : ℕ) → n ≡ min (min (length file - at) (length old)) piece → length buffer ≡ length old → 0 < piece → take n buffer ≡ take n (drop at file) → IsPieceOf file at buffer n
is_piece file buffer old at piece n count same_length some same = record {
  same = same;
  inside = omega arith;
  at_end = λ none room. omega arith;
}
