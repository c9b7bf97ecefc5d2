-- What a chooser was told of a level's removals, on the way from one list of sizes to the other.
use Rattle.std.proofs.Common.{◌≡◌, ◌≢◌, ◌+◌, ◌-◌, ◌<◌, ◌≤◌, ℕ, suc, Bool, false, List, [], length, take, drop, refl, sym, ◌∙◌, ap, subst, get_or, set, arith, inl, inr}
use Rattle.std.specs.Prelude.{◌||◌, ◌==◌, slice_index}
use Rattle.std.proofs.lemmas.Bool.{eq-eqb, ne_eqb, cases_eq, or_parts, false≢true}
use Rattle.std.proofs.lemmas.List.{length-set, get_or-set_same, get_or-set_other}
use Rattle.std.proofs.lemmas.Grind.{same_number_lists}
use Rattle.wfc_choose.specs.Pick.{Rule}
use Rattle.wfc_choose.specs.Told.{Told}
use Rattle.wfc_domains.specs.Removals.{without}
use Rattle.wfc_log.specs.declared.Removal.{Removal}
use Rattle.wfc_problem.specs.Domains.{Test}
use Rattle.wfc_problem.specs.Network.{Network}
use Rattle.wfc_problem.specs.Sizes.{size_at, sizes_of}
use Rattle.wfc_problem.proofs.CallerLemmas.{length-sizes_of, sizes_of_at}
use Rattle.wfc_search.proofs.Removals.{touches, size_untouched, IsStep, touches_drop, touches_take}

-- the chooser has the sizes of E but where one of the pending removals is of the cell
pub record AreTold (P : Network) (E : Test) (pending : List Removal) (rule : Rule) (now : Told) : Type 0 where
  pub same_rule : now.rule ≡ rule
  pub cells : length now.sizes ≡ P.cells
  pub told : (c : ℕ) → c < P.cells → touches pending c ≡ false → slice_index now.sizes c ≡ size_at P E c

-- at first all removals are pending
pub told_first : (P : Network) (D E : Test) (rs : List Removal) (now : Told) → E ≡ without D rs → now.sizes ≡ sizes_of P D → AreTold P E rs now.rule now
told_first P D E rs now left sizes = subst (λ (F : Test). AreTold P F rs now.rule now) (sym left) (record {
  same_rule = refl;
  cells = ap length sizes ∙ length-sizes_of P D;
  told = λ c l none. ap (λ (s : List ℕ). slice_index s c) sizes ∙ sizes_of_at P D c 0 l ∙ sym (size_untouched P D rs c none);
})

-- so they are on the way back
pub told_last : (P : Network) (D E : Test) (rs : List Removal) (now : Told) → E ≡ without D rs → now.sizes ≡ sizes_of P E → AreTold P D rs now.rule now
told_last P D E rs now left sizes = record {
  same_rule = refl;
  cells = ap length sizes ∙ length-sizes_of P E;
  told = λ c l none. ap (λ (s : List ℕ). slice_index s c) sizes ∙ sizes_of_at P E c 0 l ∙ ap (λ (F : Test). size_at P F c) left ∙ size_untouched P D rs c none;
}

-- where none is pending the chooser has all sizes
pub all_told : (P : Network) (E : Test) (pending : List Removal) (rule : Rule) (now : Told) → AreTold P E pending rule now → ((c : ℕ) → touches pending c ≡ false)
    → now ≡ record { rule = rule; sizes = sizes_of P E }
all_told P E pending rule now are none =
    let same : now.sizes ≡ sizes_of P E = same_number_lists now.sizes (sizes_of P E) (are.cells ∙ sym (length-sizes_of P E))
    (λ k l. let inside : k < P.cells = omega (arith, are.cells) in are.told k inside (none k) ∙ sym (sizes_of_at P E k 0 inside)) in
    ap (λ (r : Rule). record { rule = r; sizes = now.sizes }) are.same_rule ∙ ap (λ (s : List ℕ). record { rule = rule; sizes = s }) same

-- a size that was told
told_set : (P : Network) (E : Test) (pending less : List Removal) (rule : Rule) (was now : Told) (cell size : ℕ) → AreTold P E pending rule was → cell < P.cells
    → (touches less cell ≡ false → size ≡ size_at P E cell) → ((c : ℕ) → c ≢ cell → touches less c ≡ false → touches pending c ≡ false)
    → now ≡ record was { sizes = set was.sizes cell size } → AreTold P E less rule now
told_set P E pending less rule was now cell size are inside right others is =
    subst (λ (t : Told). AreTold P E less rule t) (sym is) (record {
      same_rule = are.same_rule;
      cells = length-set was.sizes cell size ∙ are.cells;
      told = λ c l none. elim (cases_eq c cell) [
        | inl e ↦
            let within : cell < length was.sizes = omega (arith, are.cells) in
            ap (slice_index (set was.sizes cell size)) e ∙ get_or-set_same was.sizes cell size 0 within
            ∙ right (subst (λ (k : ℕ). touches less k ≡ false) e none) ∙ sym (ap (size_at P E) e)
        | inr ne ↦ get_or-set_other was.sizes cell c size 0 ne ∙ are.told c l (others c ne none)
      ];
    })

-- what isn't of the removal at i is pending before and behind it alike
other_drop : (rs : List Removal) (i : ℕ) (d : Removal) → i < length rs → (c : ℕ) → c ≢ (get_or rs i d).cell → touches (drop (i + 1) rs) c ≡ false → touches (drop i rs) c ≡ false
other_drop rs i d inside c ne none =
    let next : suc i ≡ i + 1 = omega arith in
    touches_drop rs i c d inside
    ∙ neither ((get_or rs i d).cell == c) (touches (drop (suc i) rs) c) (ne_eqb (get_or rs i d).cell c (λ e. ne (sym e))) (ap (λ (k : ℕ). touches (drop k rs) c) next ∙ none)
  where
    neither : (a b : Bool) → a ≡ false → b ≡ false → (a || b) ≡ false
    neither a b e f = grind arith

-- the removal at i, whose cell's last size was told
pub told_next : (P : Network) (D E : Test) (rs : List Removal) (rule : Rule) (was now : Told) (i size : ℕ) (d : Removal) → i < length rs → IsStep P D E rs i (get_or rs i d)
    → AreTold P E (drop i rs) rule was → size ≡ size_at P E (get_or rs i d).cell
    → now ≡ record was { sizes = set was.sizes (get_or rs i d).cell size } → AreTold P E (drop (i + 1) rs) rule now
told_next P D E rs rule was now i size d inside step are right is =
    told_set P E (drop i rs) (drop (i + 1) rs) rule was now (get_or rs i d).cell size are step.cell_in (λ none. right) (other_drop rs i d inside) is

-- the removal at i, behind which there is one of its cell
pub told_skip : (P : Network) (D E : Test) (rs : List Removal) (rule : Rule) (was : Told) (i size : ℕ) (d : Removal) → i < length rs → IsStep P D E rs i (get_or rs i d)
    → AreTold P E (drop i rs) rule was → size ≡ size_at P E (get_or rs i d).cell
    → ((get_or rs i d).before ≡ size + 1 → ⊥) → AreTold P E (drop (i + 1) rs) rule was
told_skip P D E rs rule was i size d inside step are right differs = record {
  same_rule = are.same_rule;
  cells = are.cells;
  told = λ c l none. elim (cases_eq c (get_or rs i d).cell) [
    | inl e ↦
        let next : suc i ≡ i + 1 = omega arith in
        let here : touches (drop (suc i) rs) (get_or rs i d).cell ≡ false = ap (λ (k : ℕ). touches (drop k rs) (get_or rs i d).cell) next ∙ subst (λ (k : ℕ). touches (drop (i + 1) rs) k ≡ false) e none in
        absurd (differs (sym (step.after here) ∙ ap (λ (k : ℕ). k + 1) (sym right)))
    | inr ne ↦ are.told c l (other_drop rs i d inside c ne none)
  ];
}

-- what isn't of the last of the first removals is of another of them, or of none
other_take : (rs : List Removal) (at : ℕ) (d : Removal) → 0 < at → at ≤ length rs → (c : ℕ) → c ≢ (get_or rs (at - 1) d).cell → touches (take (at - 1) rs) c ≡ false → touches (take at rs) c ≡ false
other_take rs at d some within c ne none =
    let one_more : suc (at - 1) ≡ at = omega arith in
    ap (λ (k : ℕ). touches (take k rs) c) (sym one_more) ∙ touches_take rs (at - 1) c d (omega arith)
    ∙ neither (touches (take (at - 1) rs) c) ((get_or rs (at - 1) d).cell == c) none (ne_eqb (get_or rs (at - 1) d).cell c (λ e. ne (sym e)))
  where
    neither : (a b : Bool) → a ≡ false → b ≡ false → (a || b) ≡ false
    neither a b e f = grind arith

-- the last of the first removals, before which the cell's size was told
pub told_back : (P : Network) (D E : Test) (rs : List Removal) (rule : Rule) (was now : Told) (at : ℕ) (d : Removal) → 0 < at → at ≤ length rs → IsStep P D E rs (at - 1) (get_or rs (at - 1) d)
    → AreTold P D (take at rs) rule was
    → now ≡ record was { sizes = set was.sizes (get_or rs (at - 1) d).cell (get_or rs (at - 1) d).before } → AreTold P D (take (at - 1) rs) rule now
told_back P D E rs rule was now at d some within step are is =
    told_set P D (take at rs) (take (at - 1) rs) rule was now (get_or rs (at - 1) d).cell (get_or rs (at - 1) d).before are step.cell_in step.first (other_take rs at d some within) is

-- the last of the first removals, where the one before it is of the same cell
pub told_wait : (P : Network) (D : Test) (rs : List Removal) (rule : Rule) (was : Told) (at : ℕ) (d : Removal) → 1 < at → at ≤ length rs
    → AreTold P D (take at rs) rule was → (get_or rs (at - 1 - 1) d).cell ≡ (get_or rs (at - 1) d).cell → AreTold P D (take (at - 1) rs) rule was
told_wait P D rs rule was at d some within are same = record {
  same_rule = are.same_rule;
  cells = are.cells;
  told = λ c l none. elim (cases_eq c (get_or rs (at - 1) d).cell) [
    | inl e ↦
        let one_more : suc (at - 1 - 1) ≡ at - 1 = omega arith in
        let here = ap (λ (k : ℕ). touches (take k rs) c) one_more ∙ none in
        let parts = or_parts _ _ (sym (touches_take rs (at - 1 - 1) c d (omega arith)) ∙ here) in
        absurd (false≢true (sym parts.1 ∙ eq-eqb (get_or rs (at - 1 - 1) d).cell c (same ∙ sym e)))
    | inr ne ↦ are.told c l (other_take rs at d (omega arith) within c ne none)
  ];
}

-- ---- all sizes, one cell after another

-- the chooser has the sizes of E at the first n cells
pub record AreFirstTold (P : Network) (E : Test) (n : ℕ) (rule : Rule) (now : Told) : Type 0 where
  pub same_rule : now.rule ≡ rule
  pub cells : length now.sizes ≡ P.cells
  pub told : (c : ℕ) → c < n → slice_index now.sizes c ≡ size_at P E c

-- the next cell, whose size was told
pub first_told_more : (P : Network) (E : Test) (n : ℕ) (rule : Rule) (was now : Told) (size : ℕ) → AreFirstTold P E n rule was → n < P.cells → size ≡ size_at P E n
    → now ≡ record was { sizes = set was.sizes n size } → AreFirstTold P E (n + 1) rule now
first_told_more P E n rule was now size are inside right is =
    subst (λ (t : Told). AreFirstTold P E (n + 1) rule t) (sym is) (record {
      same_rule = are.same_rule;
      cells = length-set was.sizes n size ∙ are.cells;
      told = λ c l. elim (cases_eq c n) [
        | inl e ↦
            let within : n < length was.sizes = omega (arith, are.cells) in
            ap (slice_index (set was.sizes n size)) e ∙ get_or-set_same was.sizes n size 0 within ∙ right ∙ sym (ap (size_at P E) e)
        | inr ne ↦ get_or-set_other was.sizes n c size 0 ne ∙ are.told c (omega (arith, ne))
      ];
    })

-- at the last cell the chooser has all sizes
pub first_told_all : (P : Network) (E : Test) (n : ℕ) (rule : Rule) (now : Told) → AreFirstTold P E n rule now → P.cells ≤ n → now ≡ record { rule = rule; sizes = sizes_of P E }
first_told_all P E n rule now are all =
    all_told P E [] rule now (record {
      same_rule = are.same_rule;
      cells = are.cells;
      told = λ c l none. are.told c (omega (arith, l, all));
    }) (λ k. refl)
