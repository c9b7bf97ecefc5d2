use Rattle.std.proofs.Common.{◌≡◌, [], drop, take, arith}
use Rattle.std.specs.Vec.{with_items}
use Rattle.std.proofs.lemmas.List.{drop_all, length-take, with_items_is}
use Rattle.wfc_check.proofs.StreamLemmas.{read_left, read_steps}
use Rattle.wfc_check.proofs.stream.Stream.refill.Goals as goal

pub returns-clause-steps : goal.returns-clause-steps
returns-clause-steps g c = λ _.
    let none : drop c.args.self.now.from (take c.args.self.now.to c.args.self.now.piece.items) ≡ [] =
    drop_all c.args.self.now.from _ (omega (arith, length-take c.args.self.now.to c.args.self.now.piece.items, c.if-self.false)) in
    let same : (with_items c.args.self.now.piece c.read_at.new.buf).items ≡ c.read_at.new.buf = with_items_is c.args.self.now.piece c.read_at.new.buf (omega arith) in
    read_steps _ c.args.self.now.name.now _ _ c.read_at.new.buf c.args.self.now.at c.in_ok-given.given c.args.self.now.room none same c.in_ok-given.ensures.given

pub returns-clause-left : goal.returns-clause-left
returns-clause-left g c = λ _ _. read_left _ c.args.self.now.name.now _ c.read_at.new.buf c.args.self.now.at c.in_ok-given.given c.args.self.now.room c.in_ok-given.ensures.given
