-- The links of all values in one list, and the counters that a value's links lower.
use Rattle.std.proofs.Common.{◌≡◌, ℕ, zero, suc, ◌+◌, ◌-◌, ◌*◌, ◌/◌, ◌%◌, ◌<◌, ◌≤◌, List, [], ◌∷◌, ◌++◌, length, get_or, take, drop, map, refl, sym, ◌∙◌, ap, subst, add-one, arith, Option, Some, None, inl, inr}
use Rattle.std.specs.Prelude.{Contains, ◌==◌, if◌then◌else◌, slice_index, slice_set}
use Rattle.std.proofs.lemmas.Bool.{cases_eq, cases_lt}
use Rattle.std.proofs.lemmas.List.{get_or_default, get_or_append_left, get_or-append-add, get_or-append_right, get_or-map, length-map, length-append, length-drop, length-set, length_push, take-append-le, drop-append-le, take-append-drop, take_more, take_all, append_assoc, append-nil}
use Rattle.std.proofs.Math.Seq.{drop-append_seam}
use Rattle.std.proofs.lemmas.Nat.{div-mul-add}
use Rattle.std.proofs.Math.Nat.{mul_assoc, mul-add-mod_self_right, mul-le-mul, mul-le-mul_right}
use Rattle.wfc_model.specs.Direction.{opposite}
use Rattle.wfc_problem.specs.Hops.{hop_cell, hop_end}
use Rattle.wfc_problem.specs.Strides.{AreSides}
use Rattle.wfc_problem.specs.declared.strides.FourSides.{FourSides}
use Rattle.wfc_problem.specs.Network.{Network, values, neighbour, entry_cell, beside, supports_of, IsProblem}
use Rattle.wfc_problem.proofs.CallerLemmas.{hop_names}
use Rattle.wfc_domains.specs.Counters.{Table, FitsTable, counter_place, count_place, entry_of, with_count, counters_of, cost_at}
use Rattle.wfc_domains.specs.declared.board.Board.{Board}
use Rattle.wfc_domains.proofs.Places.{place-is}
use Rattle.wfc_domains.proofs.Loading.{place_in-row}
use Rattle.wfc_domains.proofs.Problems.{in_values, in_cells, back, opposite-in, supports-below, few_values, few_pairs, dirs-le}
use Rattle.wfc_ac4.specs.Places.{side_places, places_upto, counter_places, times}
use Rattle.wfc_domains.specs.Pairs.{unit_at, mask_at}
use Rattle.wfc_ac4.specs.Links.{no_link, link_at, counter_row, AreLinks, link_to, side_links, links_upto, links_of, all_upto, link_place, link_places}
use Rattle.wfc_ac4.specs.State.{IsWorking, counted_base}
use Rattle.wfc_ac4.specs.declared.links.SupportLink.{SupportLink}
use Rattle.wfc_ac4.specs.declared.links.Links.{Links}
use Rattle.wfc_ac4.proofs.PlaceLemmas.{times-append}
use Rattle.wfc_ac4.proofs.Costs.{cost-is}
use Rattle.wfc_ac4.proofs.Steps.{SideStep, still_counts, counted_base-in, working-range}

-- ---- where the links of a value stand

all-mono : (P : Network) (a b : ℕ) → a ≤ b → length (all_upto P a) ≤ length (all_upto P b)
all-mono P a zero h = let e : a ≡ 0 = omega arith in let same = ap (λ x. length (all_upto P x)) e in omega arith
all-mono P a (suc b) h = elim (cases_lt a (suc b)) [
  | inl l ↦
      let rest = all-mono P a b (omega arith) in
      omega (arith, length-append (all_upto P b) (links_of P b))
  | inr l ↦ let e : a ≡ suc b = omega arith in let same = ap (λ x. length (all_upto P x)) e in omega arith
]

part-is : (P : Network) (n v : ℕ) → v < n → take (length (all_upto P (suc v)) - length (all_upto P v)) (drop (length (all_upto P v)) (all_upto P n)) ≡ links_of P v
part-is P zero v h = absurd (omega arith)
part-is P (suc m) v h = elim (cases_eq v m) [
  | inl e ↦
      let len = length-append (all_upto P v) (links_of P v) in
      let size : length (all_upto P (suc v)) - length (all_upto P v) ≡ length (links_of P v) = omega arith in
      let behind : drop (length (all_upto P v)) (all_upto P (suc m)) ≡ links_of P v = ap (λ x. drop (length (all_upto P v)) (all_upto P (suc x))) (sym e) ∙ drop-append_seam (all_upto P v) (links_of P v) in
      ap (λ x. take x (drop (length (all_upto P v)) (all_upto P (suc m)))) size ∙ ap (take (length (links_of P v))) behind ∙ take_all (length (links_of P v)) (links_of P v) (omega arith)
  | inr ne ↦
      let l : v < m = omega arith in
      let low = all-mono P v m (omega arith) in
      let high = all-mono P (suc v) m (omega arith) in
      let rest = drop (length (all_upto P v)) (all_upto P m) in
      let len : length rest ≡ length (all_upto P m) - length (all_upto P v) = length-drop (length (all_upto P v)) (all_upto P m) in
      ap (take (length (all_upto P (suc v)) - length (all_upto P v))) (drop-append-le (length (all_upto P v)) (all_upto P m) (links_of P m) low)
      ∙ take-append-le (length (all_upto P (suc v)) - length (all_upto P v)) rest (links_of P m) (omega arith)
      ∙ part-is P m v l
]

-- one value more has its place among where the links begin
pub starts_more : (P : Network) (k n : ℕ) (old new : List ℕ) → length old ≡ k + 1 → ((v : ℕ) → v ≤ k → get_or old v 0 ≡ length (all_upto P v)) → new ≡ old ++ n ∷ [] → n ≡ length (all_upto P (k + 1))
    → (v : ℕ) → v ≤ k + 1 → get_or new v 0 ≡ length (all_upto P v)
starts_more P k n old new so_many h is last v l = elim (cases_eq v (k + 1)) [
  | inl same ↦
      ap (λ xs. get_or xs v 0) is ∙ ap (λ i. get_or (old ++ n ∷ []) i 0) (let z : v ≡ length old + 0 = omega (arith, so_many, same) in z) ∙ get_or-append-add old (n ∷ []) 0 0 ∙ last
      ∙ ap (λ j. length (all_upto P j)) (sym same)
  | inr ne ↦ ap (λ xs. get_or xs v 0) is ∙ get_or_append_left old (n ∷ []) 0 v (omega (arith, so_many, l, ne)) ∙ h v (omega (arith, l, ne))
]

-- and its links behind the others
pub upto_more : (P : Network) (k : ℕ) (old new : List SupportLink) → old ≡ all_upto P k → new ≡ old ++ links_of P k → new ≡ all_upto P (k + 1)
upto_more P k old new e is = is ∙ ap (λ ls. ls ++ links_of P k) e ∙ ap (all_upto P) (sym (add-one k))

-- the links of a value lie within the list
pub of_within : (P : Network) (x : Links) (v : ℕ) → AreLinks P x → v < values P → (slice_index x.starts.items v ≤ slice_index x.starts.items (v + 1)) × (slice_index x.starts.items (v + 1) ≤ length x.links.items)
of_within P x v h l =
    let here = h.starts v (omega arith) in
    let next = h.starts (v + 1) (omega arith) in
    let a = all-mono P v (v + 1) (omega arith) in
    let b = all-mono P (v + 1) (values P) (omega arith) in
    let all = ap length h.links in
    (omega arith, omega arith)

-- and are what stands between where they begin and where the next begin
pub of_is : (P : Network) (x : Links) (v : ℕ) → AreLinks P x → v < values P → take (slice_index x.starts.items (v + 1) - slice_index x.starts.items v) (drop (slice_index x.starts.items v) x.links.items) ≡ links_of P v
of_is P x v h l =
    let here = h.starts v (omega arith) in
    let next = h.starts (v + 1) (omega arith) ∙ ap (λ k. length (all_upto P k)) (add-one v) in
    ap (λ n. take (n - slice_index x.starts.items v) (drop (slice_index x.starts.items v) x.links.items)) next
    ∙ ap (λ n. take (length (all_upto P (suc v)) - n) (drop n x.links.items)) here
    ∙ ap (λ ls. take (length (all_upto P (suc v)) - length (all_upto P v)) (drop (length (all_upto P v)) ls)) h.links
    ∙ part-is P (values P) v l

-- where the counter of a link stands fits sixteen bits
pub offset-few : (P : Network) → IsProblem P → (v d k : ℕ) (xs : List ℕ) → xs ≡ supports_of P v d → d < P.dirs → k < length xs → (get_or xs k 0 * P.dirs ≤ 24576) × (opposite d < 6)
offset-few P p v d k xs is_xs hd l =
    let w : get_or xs k 0 ≤ 4096 = omega (arith, supports-below P p v d xs is_xs hd k 0 l, few_values P p) in
    let dirs = dirs-le P p in
    (mul-le-mul w dirs, omega (arith, opposite-in P p d hd))

-- one link more of a side
pub side_more : (P : Network) (v d k at turned unit mask : ℕ) (xs : List ℕ) (old now : List SupportLink) → xs ≡ supports_of P v d → k < length xs → turned ≡ opposite d → at ≡ counter_place P 0 (get_or xs k 0) (opposite d)
    → unit ≡ unit_at at → mask ≡ mask_at at
    → now ≡ old ++ take k (side_links P v d) → now ++ record { offset = at; dir = d; back = turned; unit = unit; mask = mask } ∷ [] ≡ old ++ take (k + 1) (side_links P v d)
side_more P v d k at turned unit mask xs old now is_xs l is_turned is_at is_unit is_mask is_now =
    let l' : k < length (supports_of P v d) = omega (arith, ap length is_xs) in
    let side = side_links P v d in
    let link : SupportLink = record { offset = at; dir = d; back = turned; unit = unit; mask = mask } in
    let made : link ≡ link_at at d =
    ap (λ t. record link { back = t }) is_turned ∙ ap (λ u. record link { back = opposite d; unit = u }) is_unit ∙ ap (λ m. record (link_at at d) { mask = m }) is_mask in
    let one : link ≡ get_or side k no_link =
    made ∙ ap (λ x. link_at x d) is_at ∙ ap (λ ys. link_to P d (get_or ys k 0)) is_xs ∙ sym (get_or-map (link_to P d) (supports_of P v d) k 0 no_link l') in
    ap (λ ls. ls ++ link ∷ []) is_now
    ∙ append_assoc old (take k side) _
    ∙ ap (λ x. old ++ (take k side ++ x ∷ [])) one
    ∙ ap (λ x. old ++ x) (sym (take_more side k no_link (omega (arith, length-map (supports_of P v d) (link_to P d)))))

-- all links of a side
pub side_whole : (P : Network) (v d k : ℕ) (xs : List ℕ) (old now : List SupportLink) → xs ≡ supports_of P v d → length xs ≤ k → now ≡ old ++ take k (side_links P v d) → now ≡ old ++ side_links P v d
side_whole P v d k xs old now is_xs l is_now =
    is_now ∙ ap (λ x. old ++ x) (take_all k (side_links P v d) (omega (arith, length-map (supports_of P v d) (link_to P d), ap length is_xs)))

-- one side more
pub value_more : (P : Network) (v d : ℕ) (old now new : List SupportLink) → now ≡ old ++ links_upto P v d → new ≡ now ++ side_links P v d → new ≡ old ++ links_upto P v (d + 1)
value_more P v d old now new is_now is_new =
    is_new ∙ ap (λ ls. ls ++ side_links P v d) is_now ∙ append_assoc old (links_upto P v d) (side_links P v d)
    ∙ ap (λ k. old ++ links_upto P v k) (sym (add-one d))

-- ---- what is so of each link

-- the link is one of v: its value is supported in its direction, and its counter is the one for the way back
pub record IsLink (P : Network) (v : ℕ) (l : SupportLink) : Type 0 where
  pub dir_in : l.dir < P.dirs
  pub back_is : l.back ≡ opposite l.dir
  pub offset_is : l.offset ≡ counter_place P 0 (l.offset / P.dirs) (opposite l.dir)
  pub supported : Contains (supports_of P v l.dir) (l.offset / P.dirs)
  pub unit_is : l.unit ≡ unit_at l.offset
  pub mask_is : l.mask ≡ mask_at l.offset

-- the value of a link
link-value : (P : Network) → IsProblem P → (d w : ℕ) → d < P.dirs → (link_to P d w).offset / P.dirs ≡ w
link-value P p d w h = div-mul-add (0 * values P + w) P.dirs (opposite d) (opposite-in P p d h) ∙ (let z : 0 * values P + w ≡ w = omega arith in z)

links-are : (P : Network) → IsProblem P → (v m k : ℕ) → m ≤ P.dirs → k < length (links_upto P v m) → IsLink P v (get_or (links_upto P v m) k no_link)
links-are P p v zero k hm l = absurd (omega arith)
links-are P p v (suc m) k hm l = elim (cases_lt k (length (links_upto P v m))) [
  | inl before ↦ subst (IsLink P v) (sym (get_or_append_left (links_upto P v m) (side_links P v m) no_link k before)) (links-are P p v m k (omega arith) before)
  | inr after ↦
      let n = length (links_upto P v m) in
      let xs = supports_of P v m in
      let j = k - n in
      let lj : j < length xs = omega (arith, length-append (links_upto P v m) (side_links P v m), length-map xs (link_to P m)) in
      let w = get_or xs j 0 in
      let hm' : m < P.dirs = omega arith in
      let turned = sym (link-value P p m w hm') in
      let is : get_or (links_upto P v (suc m)) k no_link ≡ link_to P m w = get_or-append_right (links_upto P v m) (side_links P v m) n k no_link refl after ∙ get_or-map (link_to P m) xs j 0 no_link lj in
      subst (IsLink P v) (sym is) (record {
        dir_in = hm';
        back_is = refl;
        offset_is = ap (λ x. counter_place P 0 x (opposite m)) turned;
        supported = subst (λ x. Contains xs x) turned (j, lj, get_or_default xs j w 0 lj);
        unit_is = refl;
        mask_is = refl;
      })
]

pub is_link : (P : Network) → IsProblem P → (v k : ℕ) (ls : List SupportLink) → ls ≡ links_of P v → k < length ls → IsLink P v (get_or ls k no_link)
is_link P p v k ls e l =
    subst (λ xs. IsLink P v (get_or xs k no_link)) (sym e) (links-are P p v P.dirs k (omega arith) (omega (arith, ap length e)))

-- ---- the counters that links lower

-- a counter of a cell stands behind where those of the cell begin
pub row-offset : (P : Network) (n w d : ℕ) → counter_place P n 0 0 + counter_place P 0 w d ≡ counter_place P n w d
row-offset P n w d = omega arith

places-append : (P : Network) (c : ℕ) (xs ys : List SupportLink) → link_places P c (xs ++ ys) ≡ link_places P c xs ++ link_places P c ys
places-append P c [] ys = refl
places-append P c (l ∷ xs) ys =
    ap (λ ps. link_place P l (neighbour P c l.dir) ++ ps) (places-append P c xs ys)
    ∙ sym (append_assoc (link_place P l (neighbour P c l.dir)) (link_places P c xs) (link_places P c ys))

side-some : (P : Network) (c d n : ℕ) (ws : List ℕ) → neighbour P c d ≡ Some n → link_places P c (map (link_to P d) ws) ≡ map (λ w. counter_place P n w (opposite d)) ws
side-some P c d n [] e = refl
side-some P c d n (w ∷ ws) e =
    ap (λ o. link_place P (link_to P d w) o ++ link_places P c (map (link_to P d) ws)) e
    ∙ ap (λ x. x ∷ link_places P c (map (link_to P d) ws)) (row-offset P n w (opposite d))
    ∙ ap (λ ps. counter_place P n w (opposite d) ∷ ps) (side-some P c d n ws e)

side-none : (P : Network) (c d : ℕ) (ws : List ℕ) → neighbour P c d ≡ None → link_places P c (map (link_to P d) ws) ≡ []
side-none P c d [] e = refl
side-none P c d (w ∷ ws) e =
    ap (λ o. link_place P (link_to P d w) o ++ link_places P c (map (link_to P d) ws)) e ∙ side-none P c d ws e

side-is : (P : Network) (c v d : ℕ) → link_places P c (side_links P v d) ≡ side_places P v d (neighbour P c d)
side-is P c v d =
    let Q : Option ℕ → Type 0 = λ o. neighbour P c d ≡ o → link_places P c (side_links P v d) ≡ side_places P v d o in
    elim (neighbour P c d) as Q [
      | None ↦ λ e. side-none P c d (supports_of P v d) e
      | Some n ↦ λ e. side-some P c d n (supports_of P v d) e
    ] refl

upto-is : (P : Network) (c v m : ℕ) → link_places P c (links_upto P v m) ≡ places_upto P c v m
upto-is P c v zero = refl
upto-is P c v (suc m) =
    places-append P c (links_upto P v m) (side_links P v m)
    ∙ ap (λ ps. ps ++ link_places P c (side_links P v m)) (upto-is P c v m)
    ∙ ap (λ ps. places_upto P c v m ++ ps) (side-is P c v m)

-- all links of a value lower all counters that count it
pub links-places : (P : Network) (c v : ℕ) (ls : List SupportLink) → ls ≡ links_of P v → link_places P c ls ≡ counter_places P c v
links-places P c v ls e = ap (link_places P c) e ∙ upto-is P c v P.dirs

pub whole-places : (P : Network) (c v k : ℕ) (ls : List SupportLink) → ls ≡ links_of P v → length ls ≤ k → link_places P c (take k ls) ≡ counter_places P c v
whole-places P c v k ls e l = ap (link_places P c) (take_all k ls l) ∙ links-places P c v ls e

pub whole-cost : (P : Network) (c v k : ℕ) (ls : List SupportLink) → ls ≡ links_of P v → length ls ≤ k → length (link_places P c (take k ls)) ≡ cost_at P c v
whole-cost P c v k ls e l = ap length (whole-places P c v k ls e l) ∙ cost-is P c v

-- one link more
link-next : (P : Network) (c k : ℕ) (ls : List SupportLink) (o : Option ℕ) → k < length ls → neighbour P c (get_or ls k no_link).dir ≡ o → link_places P c (take (k + 1) ls) ≡ link_places P c (take k ls) ++ link_place P (get_or ls k no_link) o
link-next P c k ls o l e =
    ap (link_places P c) (take_more ls k no_link l) ∙ places-append P c (take k ls) (get_or ls k no_link ∷ [])
    ∙ ap (λ ps. link_places P c (take k ls) ++ ps) (append-nil (link_place P (get_or ls k no_link) (neighbour P c (get_or ls k no_link).dir)) ∙ ap (link_place P (get_or ls k no_link)) e)

pub link-some : (P : Network) (c k n : ℕ) (ls : List SupportLink) → k < length ls → neighbour P c (get_or ls k no_link).dir ≡ Some n
    → link_places P c (take (k + 1) ls) ≡ link_places P c (take k ls) ++ (counter_place P n 0 0 + (get_or ls k no_link).offset) ∷ []
link-some P c k n ls l e = link-next P c k ls (Some n) l e

pub link-none : (P : Network) (c k : ℕ) (ls : List SupportLink) → k < length ls → neighbour P c (get_or ls k no_link).dir ≡ None → link_places P c (take (k + 1) ls) ≡ link_places P c (take k ls)
link-none P c k ls l e = link-next P c k ls None l e ∙ append-nil (link_places P c (take k ls))

pub length-some : (P : Network) (c k n : ℕ) (ls : List SupportLink) → k < length ls → neighbour P c (get_or ls k no_link).dir ≡ Some n
    → length (link_places P c (take (k + 1) ls)) ≡ length (link_places P c (take k ls)) + 1
length-some P c k n ls l e = ap length (link-some P c k n ls l e) ∙ length_push (link_places P c (take k ls)) _

-- the counters lowered so far are a part of all
part-le : (P : Network) (c v k i : ℕ) (ls : List SupportLink) → ls ≡ links_of P v → times i (link_places P c (take k ls)) ≤ times i (counter_places P c v)
part-le P c v k i ls e =
    let split = ap (link_places P c) (sym (take-append-drop k ls)) ∙ places-append P c (take k ls) (drop k ls) in
    let sum = times-append i (link_places P c (take k ls)) (link_places P c (drop k ls)) in
    let all = ap (times i) (sym split ∙ links-places P c v ls e) in
    omega arith

-- ---- where the counters of the neighbours stand

-- a problem has few counters
counters-few : (P : Network) → IsProblem P → counters_of P ≤ 50331648
counters-few P p = let few : counters_of P ≤ 8388608 * 6 = mul-le-mul (few_pairs P p) (dirs-le P p) in omega arith

pub table-few : (P : Network) (T : Table) → IsProblem P → FitsTable P T → length T.counts ≤ 50331648
table-few P T p fits = omega (arith, fits.whole, counters-few P p)

-- so the rows of counters of all cells fit 32 bits
pub rows_few : (P : Network) → IsProblem P → P.cells * counter_row P < 4294967296
rows_few P p = let same : P.cells * counter_row P ≡ counters_of P = sym (mul_assoc P.cells (values P) P.dirs) in omega (arith, same, counters-few P p)

-- the counters of a cell begin within them
pub begin_few : (P : Network) → IsProblem P → (T : Table) → FitsTable P T → (c n : ℕ) → c < P.cells → n ≡ T.values * T.dirs → c * n ≤ 50331648
begin_few P p T fits c n l e =
    let wide : n ≡ counter_row P = e ∙ (λ i. fits.same_values i * fits.same_dirs i) in
    let le : c * counter_row P ≤ P.cells * counter_row P = mul-le-mul_right (counter_row P) (let z : c ≤ P.cells = omega arith in z) in
    let same : P.cells * counter_row P ≡ counters_of P = sym (mul_assoc P.cells (values P) P.dirs) in
    omega (arith, ap (λ m. c * m) wide, le, same, counters-few P p)

-- these hops from a cell lead to its neighbours
abbrev pub LeadBeside : Network → ℕ → List ℕ → Type 0
LeadBeside P c hops = map (hop_cell c) hops ≡ map entry_cell (beside P c)

-- ---- one link worked off

-- what holds of a link that leads to cell n, where its counter stands at i
pub record LinkStep (P : Network) (lowered next : List ℕ) (c v n i : ℕ) (l : SupportLink) (T : Table) : Type 0 where
  pub beside : neighbour P c l.dir ≡ Some n
  pub dir_in : l.dir < P.dirs
  pub back_is : l.back ≡ opposite l.dir
  pub unit_is : l.unit ≡ unit_at l.offset
  pub mask_is : l.mask ≡ mask_at l.offset
  pub row_is : i ≡ n * counter_row P + l.offset
  pub place_is : i ≡ count_place T.values T.dirs n (l.offset / P.dirs) (opposite l.dir)
  pub place_of : i ≡ counter_place P n (l.offset / P.dirs) (opposite l.dir)
  pub inside : i < length T.counts
  pub some : 0 < slice_index T.counts i % 32768
  pub side : SideStep P lowered next c v n (l.offset / P.dirs) (opposite l.dir) T

link_step : (b : Board) (T : Table) (head c v k n row : ℕ) (ls : List SupportLink)
    → IsWorking b T head c v (link_places b.problem.now c (take k ls)) → ls ≡ links_of b.problem.now v → k < length ls → neighbour b.problem.now c (get_or ls k no_link).dir ≡ Some n → row ≡ values b.problem.now * b.problem.now.dirs
    → LinkStep b.problem.now (link_places b.problem.now c (take k ls)) (link_places b.problem.now c (take (k + 1) ls)) c v n (n * row + (get_or ls k no_link).offset) (get_or ls k no_link) T
link_step b T head c v k n row ls h e l beside wide =
    let P = b.problem.now in
    let p = h.board.traced.problem in
    let x = get_or ls k no_link in
    let s = is_link P p v k ls e l in
    let w = x.offset / P.dirs in
    let turned = opposite x.dir in
    let hw = in_values P p v w x.dir s.dir_in s.supported in
    let hb : turned < P.dirs = opposite-in P p x.dir s.dir_in in
    let hn = in_cells P p c x.dir n beside in
    let lowered = link_places P c (take k ls) in
    let at : counter_place P n 0 0 + x.offset ≡ counter_place P n w turned = ap (λ o. counter_place P n 0 0 + o) s.offset_is ∙ row-offset P n w turned in
    let next : lowered ++ counter_place P n w turned ∷ [] ≡ link_places P c (take (k + 1) ls) = ap (λ i. lowered ++ i ∷ []) (sym at) ∙ sym (link-some P c k n ls l beside) in
    let part : times (counter_place P n w turned) (lowered ++ counter_place P n w turned ∷ []) ≤ times (counter_place P n w turned) (counter_places P c v) =
    omega (arith, ap (times (counter_place P n w turned)) next, part-le P c v (k + 1) (counter_place P n w turned) ls e) in
    let above = still_counts P p (counted_base b head) lowered T c v n w turned h.counters h.still_counted hn hw hb part in
    let begins : n * row ≡ counter_place P n 0 0 = ap (λ m. n * m) wide ∙ omega (arith, place_in-row (values P) P.dirs n 0 0) in
    let place_of : n * row + x.offset ≡ counter_place P n w turned = ap (λ i. i + x.offset) begins ∙ at in
    let place_is : n * row + x.offset ≡ count_place T.values T.dirs n w turned = place_of ∙ place-is P T h.counters.fits n w turned in
    record {
      beside = beside;
      dir_in = s.dir_in;
      back_is = s.back_is;
      unit_is = s.unit_is;
      mask_is = s.mask_is;
      row_is = ap (λ m. n * m + x.offset) wide;
      place_is = place_is;
      place_of = place_of;
      inside = subst (λ i. i < length T.counts) (sym place_is) (counted_base-in T n w turned above);
      some = subst (λ i. 0 < slice_index T.counts i % 32768) (sym place_is) above;
      side = record {
        cell_in = hn;
        value_in = hw;
        dir_in = hb;
        above_zero = above;
        part = part;
        beside = back P p c x.dir n beside;
        next_is = next;
      };
    }

-- the same, where the facts are those of the board and the table at entry
pub link_hop : (b a : Board) (T A : Table) (head c v k n row : ℕ) (ls : List SupportLink) (hops : List ℕ) → b.problem ≡ a.problem → FitsTable a.problem.now A
    → IsWorking b T head c v (link_places b.problem.now c (take k ls)) → ls ≡ links_of a.problem.now v → k < length ls
    → LeadBeside a.problem.now c hops → row ≡ A.values * A.dirs → hop_cell c (slice_index hops (get_or ls k no_link).dir) ≡ Some n
    → LinkStep b.problem.now (link_places b.problem.now c (take k ls)) (link_places b.problem.now c (take (k + 1) ls)) c v n (n * row + (get_or ls k no_link).offset) (get_or ls k no_link) T
link_hop b a T A head c v k n row ls hops same fits h e l lead wide is =
    let N = ap (λ p. p.now) same in
    let x = get_or ls k no_link in
    let e' = e ∙ ap (λ P. links_of P v) (sym N) in
    let hd = (is_link b.problem.now h.board.traced.problem v k ls e' l).dir_in in
    let wide' : row ≡ values b.problem.now * b.problem.now.dirs = wide ∙ (λ i. fits.same_values i * fits.same_dirs i) ∙ ap (λ P. values P * P.dirs) (sym N) in
    let named = hop_names b.problem.now h.board.traced.problem c x.dir hops (working-range h).0 hd (lead ∙ ap (λ P. map entry_cell (beside P c)) (sym N)) in
    link_step b T head c v k n row ls h e' l (named ∙ is) wide'

-- a link whose hop leads nowhere leads to no cell
pub no_neighbour : (b a : Board) (T : Table) (head c v k : ℕ) (lowered : List ℕ) (ls : List SupportLink) (hops : List ℕ) → b.problem ≡ a.problem → IsWorking b T head c v lowered
    → ls ≡ links_of a.problem.now v → k < length ls → LeadBeside a.problem.now c hops → hop_cell c (slice_index hops (get_or ls k no_link).dir) ≡ None → neighbour a.problem.now c (get_or ls k no_link).dir ≡ None
no_neighbour b a T head c v k lowered ls hops same h e l lead none =
    let N = ap (λ p. p.now) same in
    let p = subst IsProblem N h.board.traced.problem in
    let hc = subst (λ (P : Network). c < P.cells) N (working-range h).0 in
    hop_names a.problem.now p c (get_or ls k no_link).dir hops hc (is_link a.problem.now p v k ls e l).dir_in lead ∙ none

-- where there are four directions a cell's counters are even in number, so a place has the half of its byte that the offset has
even_row : (n m o : ℕ) → (n * (m * 4) + o) % 2 ≡ o % 2
even_row n m o =
    let twice : n * (m * 4) + o ≡ (n * m * 2) * 2 + o = omega arith in
    ap (λ i. i % 2) twice ∙ mul-add-mod_self_right (n * m * 2) 2 o

pub half-of : (P : Network) (lowered next : List ℕ) (c v n i : ℕ) (l : SupportLink) (T : Table) → LinkStep P lowered next c v n i l T → P.dirs ≡ 4 → (l.unit ≡ unit_at i) × (l.mask ≡ mask_at i)
half-of P lowered next c v n i l T s four =
    let same : l.offset % 2 ≡ i % 2 = sym (even_row n (values P) l.offset) ∙ ap (λ d. (n * (values P * d) + l.offset) % 2) (sym four) ∙ ap (λ j. j % 2) (sym s.row_is) in
    (s.unit_is ∙ ap (λ r. if r == 0 then 1 else 16) same, s.mask_is ∙ ap (λ r. if r == 0 then 15 else 240) same)

-- where a cell has sides there are four directions
pub four_dirs : (b a : Board) (c : ℕ) (x : FourSides) → b.problem ≡ a.problem → AreSides a.problem.now (counter_row a.problem.now) c x → b.problem.now.dirs ≡ 4
four_dirs b a c x same s = ap (λ p. p.now.dirs) same ∙ s.four

-- so a link leads in one of four
pub four_in : (b a : Board) (T : Table) (head c v k : ℕ) (ls : List SupportLink) (x : FourSides) → b.problem ≡ a.problem
    → IsWorking b T head c v (link_places b.problem.now c (take k ls)) → ls ≡ links_of a.problem.now v → k < length ls
    → AreSides a.problem.now (counter_row a.problem.now) c x → (get_or ls k no_link).dir < 4
four_in b a T head c v k ls x same h e l s =
    let N = ap (λ p. p.now) same in
    let e' = e ∙ ap (λ P. links_of P v) (sym N) in
    omega (arith, (is_link b.problem.now h.board.traced.problem v k ls e' l).dir_in, four_dirs b a c x same s)

-- the same along the side of a cell, from where its counters begin to where those of the neighbours do
pub link_along : (b a : Board) (T A : Table) (head c v k n base : ℕ) (starts : List ℕ) (ls : List SupportLink) (x : FourSides) → b.problem ≡ a.problem → FitsTable a.problem.now A
    → IsWorking b T head c v (link_places b.problem.now c (take k ls)) → ls ≡ links_of a.problem.now v → k < length ls
    → AreSides a.problem.now (counter_row a.problem.now) c x → base ≡ c * (A.values * A.dirs)
    → ((d : ℕ) → d < 4 → slice_index starts d ≡ hop_end base (slice_index x.strides d)) → n ≡ hop_end c (slice_index x.hops (get_or ls k no_link).dir)
    → LinkStep b.problem.now (link_places b.problem.now c (take k ls)) (link_places b.problem.now c (take (k + 1) ls)) c v n (slice_index starts (get_or ls k no_link).dir + (get_or ls k no_link).offset) (get_or ls k no_link) T
link_along b a T A head c v k n base starts ls x same fits h e l s is_base are_starts is =
    let N = ap (λ p. p.now) same in
    let one = get_or ls k no_link in
    let row = A.values * A.dirs in
    let wide : row ≡ counter_row a.problem.now = λ i. fits.same_values i * fits.same_dirs i in
    let four = four_in b a T head c v k ls x same h e l s in
    let side = s.each one.dir four in
    let beside : neighbour b.problem.now c one.dir ≡ Some n = ap (λ P. neighbour P c one.dir) N ∙ side.beside ∙ ap (λ (m : ℕ). Some m) (sym is) in
    let begins : slice_index starts one.dir ≡ n * row =
    are_starts one.dir four ∙ ap (λ m. hop_end m (slice_index x.strides one.dir)) (is_base ∙ ap (λ m. c * m) wide) ∙ side.begins ∙ ap (λ m. m * counter_row a.problem.now) (sym is) ∙ ap (λ m. n * m) (sym wide) in
    subst (λ i. LinkStep b.problem.now (link_places b.problem.now c (take k ls)) (link_places b.problem.now c (take (k + 1) ls)) c v n (i + one.offset) one T)
    (sym begins)
    (link_step b T head c v k n row ls h (e ∙ ap (λ P. links_of P v) (sym N)) l beside (wide ∙ ap counter_row (sym N)))

-- the place of a counter, of a value and a direction that are called otherwise
pub placed_as : (P : Network) (i n w w' d d' : ℕ) → i ≡ counter_place P n w d → w ≡ w' → d ≡ d' → i ≡ counter_place P n w' d'
placed_as P i n w w' d d' is value way = is ∙ ap (λ v. counter_place P n v d) value ∙ ap (counter_place P n w') way

-- the table with the counter at a link's place lowered
pub lowered-at : (T T' : Table) (i n w d : ℕ) → i ≡ count_place T.values T.dirs n w d → T' ≡ record T { counts = slice_set T.counts i (slice_index T.counts i - 1) } → T' ≡ with_count T n w d (entry_of T n w d - 1)
lowered-at T T' i n w d e is = is ∙ ap (λ j. record T { counts = slice_set T.counts j (slice_index T.counts j - 1) }) e

-- its limit stays
pub limit-lowered : (T T' : Table) (i x : ℕ) → T' ≡ record T { counts = slice_set T.counts i x } → T'.limit ≡ T.limit
limit-lowered T T' i x is = ap (λ t. t.limit) is

-- it is a table of the problem's size
pub fits-lowered : (P : Network) (T T' : Table) (i x : ℕ) → FitsTable P T → T' ≡ record T { counts = slice_set T.counts i x } → FitsTable P T'
fits-lowered P T T' i x fits is = record {
  same_cells = ap (λ t. t.cells) is ∙ fits.same_cells;
  same_values = ap (λ t. t.values) is ∙ fits.same_values;
  same_dirs = ap (λ t. t.dirs) is ∙ fits.same_dirs;
  whole = ap (λ t. length t.counts) is ∙ length-set T.counts i x ∙ fits.whole;
  few = λ v d. omega (arith, fits.few v d, ap (λ t. t.limit) is);
}

-- a link that leads to no cell lowers nothing
pub link_skipped : (b a : Board) (T : Table) (head c v k : ℕ) (ls : List SupportLink) → b.problem ≡ a.problem
    → IsWorking b T head c v (link_places b.problem.now c (take k ls)) → k < length ls → neighbour a.problem.now c (get_or ls k no_link).dir ≡ None
    → IsWorking b T head c v (link_places b.problem.now c (take (k + 1) ls))
link_skipped b a T head c v k ls same h l none =
    let N = ap (λ p. p.now) same in
    subst (IsWorking b T head c v) (sym (link-none b.problem.now c k ls l (ap (λ P. neighbour P c (get_or ls k no_link).dir) N ∙ none))) h

-- all links are gone through
pub all_links : (b a : Board) (T : Table) (head c v k : ℕ) (ls : List SupportLink) → b.problem ≡ a.problem
    → IsWorking b T head c v (link_places b.problem.now c (take k ls)) → ls ≡ links_of a.problem.now v → length ls ≤ k
    → IsWorking b T head c v (counter_places b.problem.now c v)
all_links b a T head c v k ls same h e l =
    let N = ap (λ p. p.now) same in
    subst (IsWorking b T head c v) (whole-places b.problem.now c v k ls (e ∙ ap (λ P. links_of P v) (sym N)) l) h
