-- In which order the last turns of runners stand in rounds.
use Rattle.std.proofs.Common.{◌≡◌, ◌⊎◌, ℕ, zero, suc, ◌+◌, ◌-◌, ◌/◌, ◌<◌, ◌≤◌, min, List, [], ◌∷◌, ◌++◌, refl, sym, ◌∙◌, ap, subst, arith, inl, inr}
use Rattle.std.specs.Prelude.{sum, replicate, slice_index}
use Rattle.std.proofs.Math.Nat.{div-eq_of_lt, div-eq-sub-div}
use Rattle.std.proofs.lemmas.Bool.{cases_lt}
use Rattle.std.proofs.lemmas.List.Sums.{sum_by-cons}
use Rattle.wfc_race.specs.Racers.{occurrences}
use Rattle.wfc_race.specs.Rounds.{lap, left_rounds}
use Rattle.wfc_race.specs.Winner.{IsNoLater}
use Rattle.wfc_race.proofs.Afters.{both_lists, same_number}
use Rattle.wfc_race.proofs.Laps.{mins, rests, same_repeated, other_repeated, below_lap}
use Rattle.wfc_race.proofs.Races.{never_empty}

-- ---- numbers in places

-- at most so many, of the number in a place
mins_at : (quantum : ℕ) (left : List ℕ) (k : ℕ) → slice_index (mins quantum left) k ≡ min quantum (slice_index left k)
mins_at quantum [] k = omega arith
mins_at quantum (n ∷ left) zero = refl
mins_at quantum (n ∷ left) (suc k) = mins_at quantum left k

-- and what is left of it
rests_at : (quantum : ℕ) (left : List ℕ) (k : ℕ) → slice_index (rests quantum left) k ≡ slice_index left k - quantum
rests_at quantum [] k = omega arith
rests_at quantum (n ∷ left) zero = refl
rests_at quantum (n ∷ left) (suc k) = rests_at quantum left k

-- a number in a place is no more than the sum
pub at_most_sum : (left : List ℕ) (k : ℕ) → slice_index left k ≤ sum left
at_most_sum [] k = omega arith
at_most_sum (n ∷ left) zero = (let e = sum_by-cons (λ x. x) n left in omega (arith, e))
at_most_sum (n ∷ left) (suc k) = (let e = sum_by-cons (λ x. x) n left in let h = at_most_sum left k in omega (arith, e, h))

-- ---- how often a number occurs

-- in a lap as often as it has turns
count_lap : (i k first : ℕ) (turns : List ℕ) → k ≡ first + i → occurrences k (lap first turns) ≡ slice_index turns i
count_lap i k first [] at = refl
count_lap zero k first (n ∷ turns) at =
    let both = both_lists k (replicate n first) (lap (first + 1) turns) in
    let same : first ≡ k = omega (arith, at) in
    let here = subst (λ x. occurrences k (replicate n x) ≡ n) (sym same) (same_repeated k n) in
    let behind = below_lap k (first + 1) turns (omega (arith, at)) in
    omega (arith, both, here, behind)
count_lap (suc i) k first (n ∷ turns) at =
    let both = both_lists k (replicate n first) (lap (first + 1) turns) in
    let here = other_repeated k first n (λ e. omega (arith, e, at)) in
    let behind = count_lap i k (first + 1) turns (omega (arith, at)) in
    omega (arith, both, here, behind)

-- in the first lap of rounds
count_first : (quantum : ℕ) (left : List ℕ) (k : ℕ) → occurrences k (lap 0 (mins quantum left)) ≡ min quantum (slice_index left k)
count_first quantum left k = count_lap k k 0 (mins quantum left) (omega arith) ∙ mins_at quantum left k

-- in rounds no more often than it has turns left
count_few : (n quantum : ℕ) (left : List ℕ) (k : ℕ) → occurrences k (left_rounds n quantum left) ≤ slice_index left k
count_few zero quantum left k = omega arith
count_few (suc n) quantum left k =
    let both = both_lists k (lap 0 (mins quantum left)) (left_rounds n quantum (rests quantum left)) in
    let first = count_first quantum left k in
    let later = count_few n quantum (rests quantum left) k in
    let rest = rests_at quantum left k in
    omega (arith, both, first, later, rest)

-- and as often, if these rounds are enough
pub count_all : (n quantum : ℕ) (left : List ℕ) (k : ℕ) → 1 ≤ quantum → slice_index left k ≤ n → occurrences k (left_rounds n quantum left) ≡ slice_index left k
count_all zero quantum left k some enough = (let none : slice_index left k ≡ 0 = omega (arith, enough) in sym none)
count_all (suc n) quantum left k some enough =
    let both = both_lists k (lap 0 (mins quantum left)) (left_rounds n quantum (rests quantum left)) in
    let first = count_first quantum left k in
    let rest = rests_at quantum left k in
    let later = count_all n quantum (rests quantum left) k some (omega (arith, rest, some, enough)) in
    omega (arith, both, first, later, rest)

-- ---- where a number stands in two lists together

-- in the first list, with what stands behind it there, or in the second, with what stands before it there
pub record IsInFirst (xs ys before : List ℕ) (w : ℕ) (later : List ℕ) : Type 0 where
  pub mid : List ℕ
  pub there : xs ≡ before ++ w ∷ mid
  pub behind : later ≡ mid ++ ys

pub record IsInSecond (xs ys before : List ℕ) (w : ℕ) (later : List ℕ) : Type 0 where
  pub front : List ℕ
  pub there : ys ≡ front ++ w ∷ later

split : (xs ys before : List ℕ) (w : ℕ) (later : List ℕ) → xs ++ ys ≡ before ++ w ∷ later → IsInFirst xs ys before w later ⊎ IsInSecond xs ys before w later
split [] ys before w later is = inr (record { front = before; there = is })
split (x ∷ xs) ys [] w later is =
    let same : x ≡ w = (let e = is in cc) in
    let rest : xs ++ ys ≡ later = (let e = is in cc) in
    inl (record { mid = xs; there = ap (λ y. y ∷ xs) same; behind = sym rest })
split (x ∷ xs) ys (b ∷ before) w later is =
    let same : x ≡ b = (let e = is in cc) in
    let rest : xs ++ ys ≡ before ++ w ∷ later = (let e = is in cc) in
    elim (split xs ys before w later rest) [
      | inl f ↦ inl (record { mid = f.mid; there = ap (λ y. y ∷ xs) same ∙ ap (λ (t : List ℕ). b ∷ t) f.there; behind = f.behind })
      | inr s ↦ inr (record { front = s.front; there = s.there })
    ]

-- a number that stands in a list occurs there
occurs : (before : List ℕ) (w : ℕ) (later xs : List ℕ) → xs ≡ before ++ w ∷ later → 1 + occurrences w later ≤ occurrences w xs
occurs before w later xs is =
    let same = ap (λ (t : List ℕ). occurrences w t) is in
    let both = both_lists w before (w ∷ later) in
    let one = same_number w w later refl in
    omega (arith, same, both, one)

-- what occurs behind occurs in the whole
occurs_behind : (before : List ℕ) (w : ℕ) (later xs : List ℕ) (i : ℕ) → xs ≡ before ++ w ∷ later → occurrences i later ≤ occurrences i xs
occurs_behind before w later xs i is =
    let same = ap (λ (t : List ℕ). occurrences i t) is in
    let both = both_lists i before (w ∷ later) in
    let more = both_lists i (w ∷ []) later in
    omega (arith, same, both, more)

-- ---- one lap

-- its numbers rise
lap_rises : (turns : List ℕ) (first : ℕ) (before : List ℕ) (w : ℕ) (later : List ℕ) (i : ℕ) → lap first turns ≡ before ++ w ∷ later → 1 ≤ occurrences i later → w ≤ i
lap_rises [] first before w later i is more = never_empty (w ≤ i) before later w is
lap_rises (n ∷ turns) first before w later i is more = elim (split (replicate n first) (lap (first + 1) turns) before w later is) [
  | inl f ↦ elim (cases_lt i w) [
    | inl less ↦ elim (cases_lt first w) [
      | inl above ↦
          let here = occurs before w f.mid (replicate n first) f.there in
          let none = other_repeated w first n (λ e. omega (arith, e, above)) in
          absurd (omega (arith, here, none))
      | inr low ↦
          let here = occurs_behind before w later (lap first (n ∷ turns)) i is in
          let none = below_lap i first (n ∷ turns) (omega (arith, less, low)) in
          absurd (omega (arith, here, none, more))
    ]
    | inr low ↦ low
  ]
  | inr s ↦ lap_rises turns (first + 1) s.front w later i s.there more
]

-- ---- rounds

-- the round of a number's last turn
abbrev round_at : ℕ → List ℕ → ℕ → ℕ
round_at quantum left k = (slice_index left k - 1) / quantum

-- it is the first where no turn is left behind it
first_round : (quantum : ℕ) (left : List ℕ) (k : ℕ) → 1 ≤ quantum → slice_index left k ≤ quantum → round_at quantum left k ≡ 0
first_round quantum left k some few = div-eq_of_lt (omega (arith, some, few))

-- and else one more than in the rounds behind it
next_round : (quantum : ℕ) (left : List ℕ) (k : ℕ) → 1 ≤ quantum → quantum < slice_index left k → round_at quantum left k ≡ round_at quantum (rests quantum left) k + 1
next_round quantum left k some more =
    let one = div-eq-sub-div {m = quantum} {n = slice_index left k - 1} (omega (arith, some)) (omega (arith, more)) in
    let same : slice_index left k - 1 - quantum ≡ slice_index (rests quantum left) k - 1 = (let e = rests_at quantum left k in omega (arith, e)) in
    one ∙ ap (λ m. m / quantum + 1) same

-- in the first round a number comes before what stands behind it
no_later_first : (round w other i : ℕ) → round ≡ 0 → w ≤ i → IsNoLater round w other i
no_later_first round w zero i none less = inr (none, less)
no_later_first round w (suc other) i none less = inl (omega (arith, none))

-- a round behind another is one more
no_later_next : (round w other i r o : ℕ) → round ≡ r + 1 → other ≡ o + 1 → IsNoLater r w o i → IsNoLater round w other i
no_later_next round w other i r o a b (inl less) = inl (omega (arith, a, b, less))
no_later_next round w other i r o a b (inr same) = inr (let e = same.0 in omega (arith, a, b, e), same.1)

-- where it stands in the first round
in_first : (n quantum : ℕ) (left before : List ℕ) (w : ℕ) (later : List ℕ) (i : ℕ) → 1 ≤ quantum → occurrences w (left_rounds (suc n) quantum left) ≡ slice_index left w
    → IsInFirst (lap 0 (mins quantum left)) (left_rounds n quantum (rests quantum left)) before w later → occurrences w later ≡ 0 → 1 ≤ occurrences i later
    → IsNoLater (round_at quantum left w) w (round_at quantum left i) i
in_first n quantum left before w later i some all f last more =
    let A : List ℕ = lap 0 (mins quantum left) in
    let B : List ℕ = left_rounds n quantum (rests quantum left) in
    let both = both_lists w A B in
    let one = count_first quantum left w in
    let none = ap (λ (t : List ℕ). occurrences w t) f.behind ∙ both_lists w f.mid B in
    let first = first_round quantum left w some (omega (arith, all, both, one, none, last)) in
    elim (cases_lt (occurrences i B) 1) [
      | inl gone ↦
          let there = ap (λ (t : List ℕ). occurrences i t) f.behind ∙ both_lists i f.mid B in
          no_later_first (round_at quantum left w) w (round_at quantum left i) i first (lap_rises (mins quantum left) 0 before w f.mid i f.there (omega (arith, there, gone, more)))
      | inr there ↦
          let few = count_few n quantum (rests quantum left) i in
          let rest = rests_at quantum left i in
          let next = next_round quantum left i some (omega (arith, few, rest, there)) in
          inl (omega (arith, first, next))
    ]

-- in rounds that hold all turns of one number, its last turn comes before the last of each number that occurs behind it
pub last_turns : (n quantum : ℕ) (left before : List ℕ) (w : ℕ) (later : List ℕ) (i : ℕ) → 1 ≤ quantum → occurrences w (left_rounds n quantum left) ≡ slice_index left w
    → left_rounds n quantum left ≡ before ++ w ∷ later → occurrences w later ≡ 0 → 1 ≤ occurrences i later → IsNoLater (round_at quantum left w) w (round_at quantum left i) i
last_turns zero quantum left before w later i some all is last more = never_empty (IsNoLater (round_at quantum left w) w (round_at quantum left i) i) before later w is
last_turns (suc n) quantum left before w later i some all is last more =
    elim (split (lap 0 (mins quantum left)) (left_rounds n quantum (rests quantum left)) before w later is) [
      | inl f ↦ in_first n quantum left before w later i some all f last more
      | inr s ↦
          let B : List ℕ = left_rounds n quantum (rests quantum left) in
          let both = both_lists w (lap 0 (mins quantum left)) B in
          let one = count_first quantum left w in
          let rest = rests_at quantum left w in
          let rest_i = rests_at quantum left i in
          let here = occurs s.front w later B s.there in
          let there = occurs_behind s.front w later B i s.there in
          let few = count_few n quantum (rests quantum left) i in
          let all_behind : occurrences w B ≡ slice_index (rests quantum left) w = omega (arith, both, one, rest, all) in
          no_later_next (round_at quantum left w) w (round_at quantum left i) i (round_at quantum (rests quantum left) w) (round_at quantum (rests quantum left) i)
          (next_round quantum left w some (omega (arith, here, all_behind, rest)))
          (next_round quantum left i some (omega (arith, there, few, rest_i, more)))
          (last_turns n quantum (rests quantum left) s.front w later i some all_behind s.there last more)
    ]
