use Rattle.std.proofs.Common.{ℕ, ◌+◌, ◌*◌, ◌<◌, Bool, true, List, [], ◌∷◌, ◌++◌, get_or, length, set, take, sym, subst, arith}
use Rattle.std.proofs.lemmas.List.{take_more}
use Rattle.wfc_box.specs.StackTable.{AreStackFlags}
use Rattle.wfc_box.proofs.StackLemmas.{flags_more}
use Rattle.wfc_box.proofs.allowed.set_all.Goals as goal

pub loop-pair-preserved : goal.loop-pair-preserved
loop-pair-preserved c =
    let pairs = c.args.pairs.now in
    let side = c.args.side in
    let k = c.loop-pair.pair-index in
    let pair : ℕ × ℕ = get_or pairs k (0, 0) in
    let inside : k < length pairs = omega arith in
    let both : (pair.0 < side) × (pair.1 < side) = c.requires.within k (0, 0) inside in
    let more : AreStackFlags side (take k pairs ++ pair ∷ []) (set c.loop-pair.flags (pair.0 * side + pair.1) true) =
    flags_more side (take k pairs) c.loop-pair.flags pair.0 pair.1 both.0 both.1 c.loop-pair.invariant in
    subst (λ (ps : List (ℕ × ℕ)). AreStackFlags side ps c.set_flag.new.flags) (sym (take_more pairs k (0, 0) inside))
    (subst (λ (fs : List Bool). AreStackFlags side (take k pairs ++ pair ∷ []) fs) (sym c.set_flag.ensures.set) more)
