-- What a store shows of its board.
use Rattle.std.proofs.Common.{◌≡◌, ℕ, ◌*◌, ◌/◌, ◌%◌, ◌<◌, false, length, get_or, map, drop, sym, ◌∙◌, ap, arith}
use Rattle.std.specs.List.{range_with_len}
use Rattle.std.proofs.lemmas.List.{ext_get_or, get_or-take, get_or-drop}
use Rattle.std.proofs.lemmas.List.FromFn.{get_or-map-range_with_len, length-map-range_with_len}
use Rattle.std.proofs.lemmas.Nat.{div-mul-add, mod-mul-add}
use Rattle.wfc_problem.specs.Network.{Network, values, row_of}
use Rattle.wfc_problem.specs.Domains.{Test}
use Rattle.wfc_domains.specs.declared.board.Board.{Board}
use Rattle.wfc_log.specs.Domains.{Flags, has, flags_of}
use Rattle.wfc_domains.specs.Store.{left_of}
use Rattle.wfc_domains.specs.Board.{view_of, IsTraced}
use Rattle.wfc_domains.proofs.Places.{row_at}

-- domains of the problem's size are those that their test describes
flags_are : (P : Network) (D : Flags) (E : Test) → D.cells ≡ P.cells → D.values ≡ values P → length D.flags ≡ P.cells * values P → has D ≡ E → D ≡ flags_of P E
flags_are P D E same_cells same_values whole stands = λ i. record { cells = same_cells i; values = same_values i; flags = flags i }
  where
    n : ℕ
    n = values P

    flags : D.flags ≡ map (λ i. E (i / n) (i % n)) (range_with_len 0 (P.cells * n))
    flags = ext_get_or false D.flags _ (whole ∙ sym (length-map-range_with_len (λ i. E (i / n) (i % n)) 0 (P.cells * n))) (λ i l.
        let hi : i < P.cells * n = omega (arith, whole) in
        let r = row_at P.cells n i hi in
        let div : i / n ≡ r.0 = ap (λ x. x / n) r.4 ∙ div-mul-add r.0 n r.1 r.3 in
        let rest : i % n ≡ r.1 = ap (λ x. x % n) r.4 ∙ mod-mul-add r.0 n r.1 r.3 in
        ap (λ x. get_or D.flags x false) r.4
        ∙ sym (get_or-take n (drop (r.0 * n) D.flags) r.1 false r.3 ∙ get_or-drop (r.0 * n) D.flags r.1 false)
        ∙ ap (λ m. get_or (row_of m D.flags r.0) r.1 false) (sym same_values)
        ∙ ap (λ f. f r.0 r.1) stands ∙ sym (ap (λ x. E x (i % n)) div ∙ ap (E r.0) rest)
        ∙ sym (get_or-map-range_with_len (λ j. E (j / n) (j % n)) 0 (P.cells * n) i i false hi (omega arith)))

-- so are those of a board
pub board-flags : (b : Board) → IsTraced b → b.domains ≡ flags_of b.problem.now (left_of (view_of b))
board-flags b t = flags_are b.problem.now b.domains (left_of (view_of b)) t.same_cells t.same_values t.whole t.stands
