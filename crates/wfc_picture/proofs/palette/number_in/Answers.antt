use Rattle.std.proofs.Common.{◌≡◌, ◌≤◌, length, sym, subst, arith, rules}
use Rattle.std.specs.List.{position_or_len}
use Rattle.wfc_lists.specs.WithoutRepeats.{with_new}
use Rattle.wfc_picture.specs.declared.palette.TheConstants.{MAX_COLOURS}
use Rattle.wfc_picture.specs.Symbol.{same_symbol}
use Rattle.wfc_lists.proofs.Positions.{length_inserted}
use Rattle.wfc_picture.proofs.palette.number_in.Goals as goal

pub returns-clause-within : goal.returns-clause-within
returns-clause-within c =
    let keys = c.args.found.now.keys in
    let kept : c.insert_full.new.self.keys ≡ with_new same_symbol keys c.args.symbol = search rules in
    let place : c.in_ok-number.number ≡ position_or_len (same_symbol c.args.symbol) keys = search rules in
    subst (λ ks. length ks ≤ MAX_COLOURS) (sym kept) (length_inserted same_symbol c.args.symbol keys MAX_COLOURS c.requires.few (omega (arith, place)))
