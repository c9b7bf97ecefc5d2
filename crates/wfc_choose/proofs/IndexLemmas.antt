-- An index of sizes: how it is mended, and how the first cell is found by it.
use Rattle.std.proofs.Common.{◌≡◌, ◌≢◌, ℕ, ◌+◌, ◌-◌, ◌*◌, ◌/◌, ◌<◌, ◌≤◌, ◌^◌, List, [], length, get_or, set, refl, sym, ◌∙◌, ap, subst, arith, inl, inr, ◌⊎◌, Some, None}
use Rattle.std.specs.Prelude.{min, nat_le}
use Rattle.std.proofs.lemmas.Bool.{cases_lt, cases_eq, cond-true, cond-false, le-leb, lt-leb}
use Rattle.std.proofs.lemmas.List.{length-set, get_or-set_same, get_or-set_other, set-get_or, set-set}
use Rattle.wfc_choose.specs.Index.{time_of, IsInBlock, IsLeastIn, IsSummary, IsFirst, IsIndex}
use Rattle.wfc_choose.specs.Pick.{Rule, picked_cell}
use Rattle.wfc_choose.specs.declared.index.TheConstants.{FAN}
use Rattle.wfc_choose.specs.declared.RuleKind.TheVariants.{Fewest}
use Rattle.wfc_choose.proofs.PickLemmas.{picked_is, picked_is_none}

-- when an open size comes
pub time_of_open : (s : ℕ) → 2 ≤ s → time_of s + 2 ≡ s
time_of_open s l = let e : time_of s ≡ s - 2 = cond-true (nat_le 2 s) (s - 2) (s + 65534) (le-leb 2 s l) in omega arith

-- when a closed one comes
pub time_of_closed : (s : ℕ) → s ≤ 1 → time_of s ≡ s + 65534
time_of_closed s l = cond-false (nat_le 2 s) (s - 2) (s + 65534) (lt-leb 2 s (omega arith))

-- no two small sizes come at one time
pub time_of_injective : (a b : ℕ) → a < 2 ^ 16 → b < 2 ^ 16 → time_of a ≡ time_of b → a ≡ b
time_of_injective a b la lb e = elim (cases_lt 1 a) [
  | inl oa ↦ elim (cases_lt 1 b) [
    | inl ob ↦ omega (arith, e, time_of_open a oa, time_of_open b ob)
    | inr cb ↦ omega (arith, e, time_of_open a oa, time_of_closed b cb)
  ]
  | inr ca ↦ elim (cases_lt 1 b) [
    | inl ob ↦ omega (arith, e, time_of_closed a ca, time_of_open b ob)
    | inr cb ↦ omega (arith, e, time_of_closed a ca, time_of_closed b cb)
  ]
]

-- the time that comes first in a block up to an entry
pub record IsLeastBelow (list : List ℕ) (block high time : ℕ) : Type 0 where
  pub at : ℕ
  pub inside : IsInBlock list block at
  pub stands : time_of (get_or list at 0) ≡ time
  pub least : (j : ℕ) → block * FAN ≤ j → j < high → time ≤ time_of (get_or list j 0)

-- the earlier of two times
min_cases : (a b : ℕ) → ((min a b ≡ a) × (a ≤ b)) ⊎ ((min a b ≡ b) × (b ≤ a))
min_cases a b = elim (cases_lt a b) [ inl l ↦ inl (omega arith, omega arith) | inr l ↦ inr (omega arith, omega arith) ]

-- with one entry more
pub least_more : (list : List ℕ) (block at time : ℕ) → IsLeastBelow list block at time → IsInBlock list block at
    → IsLeastBelow list block (at + 1) (min time (time_of (get_or list at 0)))
least_more list block at time h i = elim (min_cases time (time_of (get_or list at 0))) [
  | inl m ↦ record {
    at = h.at;
    inside = h.inside;
    stands = h.stands ∙ sym m.0;
    least = λ j low l. elim (cases_lt j at) [
      | inl before ↦ let le = h.least j low before in omega (arith, m.0)
      | inr here ↦ let e : j ≡ at = omega arith in subst (λ (n : ℕ). min time (time_of (get_or list at 0)) ≤ time_of (get_or list n 0)) (sym e) (omega (arith, m.0, m.1))
    ];
  }
  | inr m ↦ record {
    at = at;
    inside = i;
    stands = sym m.0;
    least = λ j low l. elim (cases_lt j at) [
      | inl before ↦ let le = h.least j low before in omega (arith, m.0, m.1)
      | inr here ↦ let e : j ≡ at = omega arith in subst (λ (n : ℕ). min time (time_of (get_or list at 0)) ≤ time_of (get_or list n 0)) (sym e) (omega (arith, m.0))
    ];
  }
]

-- the size of that time, where the entries reach to the end of the block
pub least_is : (list : List ℕ) (block high time size : ℕ) → IsLeastBelow list block high time → ((j : ℕ) → IsInBlock list block j → j < high)
    → time_of size ≡ time → size < 2 ^ 16 → ((k : ℕ) → get_or list k 0 < 2 ^ 16) → IsLeastIn list block size
least_is list block high time size h whole is small smalls = record {
  at = h.at;
  inside = h.inside;
  stands = time_of_injective (get_or list h.at 0) size (smalls h.at) small (h.stands ∙ sym is);
  least = λ j i. let le = h.least j i.low (whole j i) in omega (arith, is);
}

-- each entry is the size that comes first in its block
pub record AreLeast (below above : List ℕ) : Type 0 where
  pub each : (block : ℕ) → block < length above → IsLeastIn below block (get_or above block 0)

-- ---- an entry mended

-- a block without the changed entry
least_elsewhere : (below : List ℕ) (at was block size : ℕ) → at < length below → block ≢ at / FAN → IsLeastIn (set below at was) block size → IsLeastIn below block size
least_elsewhere below at was block size l ne h =
    let off : (j : ℕ) → IsInBlock below block j → get_or (set below at was) j 0 ≡ get_or below j 0 = λ j i. get_or-set_other below at j was 0 (let low = i.low in let high = i.high in omega arith) in
    let here : IsInBlock below block h.at = record { low = h.inside.low; high = h.inside.high; within = omega (arith, h.inside.within, length-set below at was) } in
    record {
      at = h.at;
      inside = here;
      stands = sym (off h.at here) ∙ h.stands;
      least = λ j i.
          let there : IsInBlock (set below at was) block j = record { low = i.low; high = i.high; within = omega (arith, i.within, length-set below at was) } in
          subst (λ (n : ℕ). time_of size ≤ time_of n) (off j i) (h.least j there);
    }

-- the list above, with the size of the one block that changed
pub summary_with : (below above : List ℕ) (at was size : ℕ) → at < length below → IsSummary (set below at was) above → IsLeastIn below (at / FAN) size
    → IsSummary below (set above (at / FAN) size)
summary_with below above at was size l h new = record {
  long = length-set above (at / FAN) size ∙ h.long ∙ ap (λ (n : ℕ). (n + (FAN - 1)) / FAN) (length-set below at was);
  each = λ block inside.
      let within : block < length above = omega (arith, inside, length-set above (at / FAN) size) in
      elim (cases_eq block (at / FAN)) [
        | inl e ↦ subst (λ (n : ℕ). IsLeastIn below n (get_or (set above (at / FAN) size) n 0)) (sym e)
            (subst (λ (n : ℕ). IsLeastIn below (at / FAN) n) (sym (get_or-set_same above (at / FAN) size 0 (omega (arith, e)))) new)
        | inr ne ↦ subst (λ (n : ℕ). IsLeastIn below block n) (sym (get_or-set_other above (at / FAN) block size 0 ne))
            (least_elsewhere below at was block (get_or above block 0) l ne (h.each block within))
      ];
}

-- an entry that comes before all of its block
pub least_falls : (below : List ℕ) (at was old : ℕ) → at < length below → IsLeastIn (set below at was) (at / FAN) old → time_of (get_or below at 0) < time_of old
    → IsLeastIn below (at / FAN) (get_or below at 0)
least_falls below at was old l h less = record {
  at = at;
  inside = record { low = omega arith; high = omega arith; within = l };
  stands = refl;
  least = λ j i. elim (cases_eq j at) [
    | inl e ↦ subst (λ (n : ℕ). time_of (get_or below at 0) ≤ time_of (get_or below n 0)) (sym e) (omega arith)
    | inr ne ↦
        let there : IsInBlock (set below at was) (at / FAN) j = record { low = i.low; high = i.high; within = omega (arith, i.within, length-set below at was) } in
        let le : time_of old ≤ time_of (get_or below j 0) = subst (λ (n : ℕ). time_of old ≤ time_of n) (get_or-set_other below at j was 0 ne) (h.least j there) in
        omega arith
  ];
}

-- an entry that wasn't the one that comes first, and doesn't come before it now
pub least_stays : (below : List ℕ) (at was old : ℕ) → at < length below → IsLeastIn (set below at was) (at / FAN) old → time_of old ≤ time_of (get_or below at 0)
    → time_of old < time_of was → IsLeastIn below (at / FAN) old
least_stays below at was old l h le less =
    let other : h.at ≢ at = λ e. let same : was ≡ old = sym (get_or-set_same below at was 0 l) ∙ ap (λ (n : ℕ). get_or (set below at was) n 0) (sym e) ∙ h.stands in
    let clash : time_of was ≡ time_of old = ap time_of same in omega arith in
    record {
      at = h.at;
      inside = record { low = h.inside.low; high = h.inside.high; within = omega (arith, h.inside.within, length-set below at was) };
      stands = sym (get_or-set_other below at h.at was 0 other) ∙ h.stands;
      least = λ j i. elim (cases_eq j at) [
        | inl e ↦ subst (λ (n : ℕ). time_of old ≤ time_of (get_or below n 0)) (sym e) le
        | inr ne ↦
            let there : IsInBlock (set below at was) (at / FAN) j = record { low = i.low; high = i.high; within = omega (arith, i.within, length-set below at was) } in
            subst (λ (n : ℕ). time_of old ≤ time_of n) (get_or-set_other below at j was 0 ne) (h.least j there)
      ];
    }

-- the block of the changed entry, as it was
pub least_before : (below above : List ℕ) (at was : ℕ) → at < length below → IsSummary (set below at was) above → IsLeastIn (set below at was) (at / FAN) (get_or above (at / FAN) 0)
least_before below above at was l h = h.each (at / FAN) (omega (arith, h.long, length-set below at was))

-- the list above, where the block's size is as it was
pub summary_same : (below above : List ℕ) (at was : ℕ) → at < length below → IsSummary (set below at was) above → IsLeastIn below (at / FAN) (get_or above (at / FAN) 0)
    → IsSummary below above
summary_same below above at was l h new =
    subst (λ (xs : List ℕ). IsSummary below xs) (set-get_or above (at / FAN) 0) (summary_with below above at was (get_or above (at / FAN) 0) l h new)

-- the list above, where the entry needs no mending
pub summary_stays : (below above : List ℕ) (at was : ℕ) → at < length below → IsSummary (set below at was) above → time_of (get_or above (at / FAN) 0) ≤ time_of (get_or below at 0)
    → time_of (get_or above (at / FAN) 0) < time_of was → IsSummary below above
summary_stays below above at was l h le less =
    summary_same below above at was l h (least_stays below at was (get_or above (at / FAN) 0) l (least_before below above at was l h) le less)

-- the list above, where the changed entry comes first
pub summary_falls : (below above : List ℕ) (at was : ℕ) → at < length below → IsSummary (set below at was) above → time_of (get_or below at 0) < time_of (get_or above (at / FAN) 0)
    → IsSummary below (set above (at / FAN) (get_or below at 0))
summary_falls below above at was l h less =
    summary_with below above at was (get_or below at 0) l h (least_falls below at was (get_or above (at / FAN) 0) l (least_before below above at was l h) less)

-- what stood there goes back
pub set_back : (xs : List ℕ) (i x : ℕ) → set (set xs i x) i (get_or xs i 0) ≡ xs
set_back xs i x = set-set xs i x (get_or xs i 0) ∙ set-get_or xs i 0

-- the whole index, where the new size comes not before the first of its block, which the size that was there didn't come first in
pub index_stays : (sizes blocks areas regions : List ℕ) (cell size : ℕ) → cell < length sizes → IsIndex sizes blocks areas regions
    → time_of (get_or blocks (cell / FAN) 0) ≤ time_of size → time_of (get_or blocks (cell / FAN) 0) < time_of (get_or sizes cell 0)
    → IsIndex (set sizes cell size) blocks areas regions
index_stays sizes blocks areas regions cell size l index le less =
    let was = get_or sizes cell 0 in
    let inside : cell < length (set sizes cell size) = omega (arith, l, length-set sizes cell size) in
    let before : IsSummary (set (set sizes cell size) cell was) blocks = subst (λ (xs : List ℕ). IsSummary xs blocks) (sym (set_back sizes cell size)) index.blocks in
    let le_now : time_of (get_or blocks (cell / FAN) 0) ≤ time_of (get_or (set sizes cell size) cell 0) = subst (λ (n : ℕ). time_of (get_or blocks (cell / FAN) 0) ≤ time_of n) (sym (get_or-set_same sizes cell size 0 l)) le in
    record {
      limit = omega (arith, index.limit, length-set sizes cell size);
      blocks = summary_stays (set sizes cell size) blocks cell was inside before le_now less;
      areas = index.areas;
      regions = index.regions;
    }

-- ---- the first entry

-- of the entries below n none comes before this one, and each before it comes later
pub record IsFirstBelow (list : List ℕ) (n at : ℕ) : Type 0 where
  pub within : at < n
  pub least : (j : ℕ) → j < n → time_of (get_or list at 0) ≤ time_of (get_or list j 0)
  pub first : (j : ℕ) → j < at → time_of (get_or list at 0) < time_of (get_or list j 0)

-- the first of one entry
pub first_one : (list : List ℕ) → IsFirstBelow list 1 0
first_one list = record {
  within = omega arith;
  least = λ j l. let e : j ≡ 0 = omega arith in subst (λ (n : ℕ). time_of (get_or list 0 0) ≤ time_of (get_or list n 0)) (sym e) (omega arith);
  first = λ j l. absurd (omega arith);
}

-- one entry more that comes before all
pub first_falls : (list : List ℕ) (n at : ℕ) → IsFirstBelow list n at → time_of (get_or list n 0) < time_of (get_or list at 0) → IsFirstBelow list (n + 1) n
first_falls list n at h less = record {
  within = omega arith;
  least = λ j l. elim (cases_lt j n) [
    | inl before ↦ let le = h.least j before in omega arith
    | inr here ↦ let e : j ≡ n = omega arith in subst (λ (m : ℕ). time_of (get_or list n 0) ≤ time_of (get_or list m 0)) (sym e) (omega arith)
  ];
  first = λ j l. let le = h.least j l in omega arith;
}

-- one entry more that doesn't
pub first_stays : (list : List ℕ) (n at : ℕ) → IsFirstBelow list n at → time_of (get_or list at 0) ≤ time_of (get_or list n 0) → IsFirstBelow list (n + 1) at
first_stays list n at h le = record {
  within = omega (arith, h.within);
  least = λ j l. elim (cases_lt j n) [
    | inl before ↦ h.least j before
    | inr here ↦ let e : j ≡ n = omega arith in subst (λ (m : ℕ). time_of (get_or list at 0) ≤ time_of (get_or list m 0)) (sym e) le
  ];
  first = h.first;
}

-- the first of all entries
pub first_all : (list : List ℕ) (n at : ℕ) → n ≡ length list → IsFirstBelow list n at → IsFirst list at
first_all list n at e h = record { within = omega (arith, h.within); least = λ j l. h.least j (omega arith); first = h.first }

-- the first entry of a list, told from the block that comes first
pub first_down : (below above : List ℕ) (block at : ℕ) → IsSummary below above → IsFirst above block → ((k : ℕ) → get_or below k 0 < 2 ^ 16) → IsInBlock below block at
    → get_or below at 0 ≡ get_or above block 0 → ((j : ℕ) → block * FAN ≤ j → j < at → get_or below j 0 ≢ get_or above block 0) → IsFirst below at
first_down below above block at h f smalls i is others = record {
  within = i.within;
  least = λ j l.
      let up = h.each (j / FAN) (omega (arith, h.long)) in
      let le = up.least j (record { low = omega arith; high = omega arith; within = l }) in
      let over = f.least (j / FAN) (omega (arith, h.long)) in
      subst (λ (n : ℕ). time_of n ≤ time_of (get_or below j 0)) (sym is) (omega arith);
  first = λ j l.
      let inside : j < length below = omega (arith, i.within) in
      let up = h.each (j / FAN) (omega (arith, h.long)) in
      let le = up.least j (record { low = omega arith; high = omega arith; within = inside }) in
      subst (λ (n : ℕ). time_of n < time_of (get_or below j 0)) (sym is) (elim (cases_lt (j / FAN) block) [
        | inl before ↦ let less = f.first (j / FAN) before in omega arith
        | inr here ↦
            let e : j / FAN ≡ block = omega (arith, i.high) in
            let le_here : time_of (get_or above block 0) ≤ time_of (get_or below j 0) = subst (λ (n : ℕ). time_of (get_or above n 0) ≤ time_of (get_or below j 0)) e le in
            elim (cases_lt (time_of (get_or above block 0)) (time_of (get_or below j 0))) [
              | inl less ↦ less
              | inr same ↦ absurd (others j (omega arith) l (time_of_injective (get_or below j 0) (get_or above block 0) (smalls j) (subst (λ (n : ℕ). n < 2 ^ 16) is (smalls at)) (omega arith)))
            ]
      ]);
}

-- ---- the pick

-- an open size comes before no smaller one
open_le : (a b : ℕ) → 2 ≤ a → 2 ≤ b → time_of a ≤ time_of b → a ≤ b
open_le a b oa ob le = omega (arith, time_of_open a oa, time_of_open b ob)

-- the first of all, if it is open, is the picked one
pub first_picked : (sizes : List ℕ) (at : ℕ) → IsFirst sizes at → 2 ≤ get_or sizes at 0 → picked_cell (record { kind = Fewest; ranks = [] }) sizes ≡ Some at
first_picked sizes at h o =
    let rule : Rule = record { kind = Fewest; ranks = [] } in
    picked_is rule sizes at h.within o
    (λ other l oo. open_le (get_or sizes at 0) (get_or sizes other 0) o oo (h.least other l))
    (λ other l oo. let less = h.first other l in omega (arith, time_of_open (get_or sizes at 0) o, time_of_open (get_or sizes other 0) oo))

-- and if it isn't, none is
pub first_none : (sizes : List ℕ) (at : ℕ) → IsFirst sizes at → ((k : ℕ) → get_or sizes k 0 < 2 ^ 16) → get_or sizes at 0 ≤ 1 → picked_cell (record { kind = Fewest; ranks = [] }) sizes ≡ None
first_none sizes at h smalls closed =
    let rule : Rule = record { kind = Fewest; ranks = [] } in
    picked_is_none rule sizes (λ c l. elim (cases_lt 1 (get_or sizes c 0)) [
      | inl o ↦ let le = h.least c l in let small = smalls c in absurd (omega (arith, time_of_closed (get_or sizes at 0) closed, time_of_open (get_or sizes c 0) o))
      | inr few ↦ few
    ])

-- without regions there are no cells, and none is picked
pub empty_none : (sizes blocks areas regions : List ℕ) → IsIndex sizes blocks areas regions → length regions ≡ 0
    → picked_cell (record { kind = Fewest; ranks = [] }) sizes ≡ None
empty_none sizes blocks areas regions index none =
    let rule : Rule = record { kind = Fewest; ranks = [] } in
    picked_is_none rule sizes (λ c l. absurd (omega (arith, index.blocks.long, index.areas.long, index.regions.long)))
