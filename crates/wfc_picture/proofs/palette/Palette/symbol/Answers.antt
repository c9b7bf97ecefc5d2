use Rattle.std.proofs.Common.{◌≡◌, Some, get_or, sym, subst, rules}
use Rattle.std.specs.List.{IsDistinct}
use Rattle.wfc_picture.specs.declared.symbol.Symbol.TheVariants.{Char}
use Rattle.wfc_picture.specs.Symbol.{same_symbol}
use Rattle.wfc_picture.specs.Palette.{symbol_number}
use Rattle.wfc_lists.proofs.Positions.{own_place}
use Rattle.wfc_picture.proofs.SymbolLemmas.{same_symbol-sound, same_symbol-whole}
use Rattle.wfc_picture.proofs.palette.Palette.symbol.Goals as goal

pub returns-clause-inverse : goal.returns-clause-inverse
returns-clause-inverse c =
    let palette = c.args.self.now in
    let all : c.as_slice.result.now ≡ palette = cc in
    let apart : IsDistinct same_symbol palette = search (rules, c.as_slice.ensures.unique) in
    subst (λ ks. symbol_number palette (get_or ks c.args.number (Char 0)) ≡ Some c.args.number) (sym all)
    (own_place same_symbol same_symbol-sound same_symbol-whole palette c.args.number (Char 0) apart c.requires.number_in)
