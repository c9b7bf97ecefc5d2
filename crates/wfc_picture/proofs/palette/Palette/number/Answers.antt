use Rattle.std.proofs.Common.{◌≡◌, Some, position, rules}
use Rattle.wfc_picture.specs.Symbol.{same_symbol}
use Rattle.wfc_lists.proofs.Positions.{stands_at, there_at}
use Rattle.wfc_picture.proofs.SymbolLemmas.{same_symbol-sound, same_symbol-whole}
use Rattle.wfc_picture.proofs.palette.Palette.number.Goals as goal

pub returns-clause-inverse : goal.returns-clause-inverse
returns-clause-inverse c =
    let found : position (same_symbol c.args.symbol) c.args.self.now ≡ Some c.in_ok-number.number = search rules in
    stands_at same_symbol same_symbol-sound same_symbol-whole c.args.symbol c.args.self.now c.in_ok-number.number found

pub returns-clause-absent : goal.returns-clause-absent
returns-clause-absent c =
    let found : position (same_symbol c.args.symbol) c.args.self.now ≡ Some c.in_ok-number.number = search rules in
    (λ e _. cc, λ missing. absurd (missing (there_at same_symbol same_symbol-sound same_symbol-whole c.args.symbol c.args.self.now c.in_ok-number.number found)))
