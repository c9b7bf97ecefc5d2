use Rattle.std.proofs.Common.{arith}
use Rattle.wfc_picture.proofs.PictureLemmas.{width_seen, height_seen, place_seen, number_seen}
use Rattle.wfc_picture.proofs.picture.Picture.at.Goals as goal

pub index-requires : goal.index-requires
index-requires c =
    let p = c.self.inside in
    let width = width_seen p.width p.height p.cells.items c.args.self.now c.self.view_is in
    let height = height_seen p.width p.height p.cells.items c.args.self.now c.self.view_is in
    omega (arith, place_seen p.width p.height p.cells.items c.args.self.now c.self.view_is c.self.invariant c.args.x c.args.y (omega arith) (omega arith))

pub returns : goal.returns
returns c =
    let p = c.self.inside in
    let width = width_seen p.width p.height p.cells.items c.args.self.now c.self.view_is in
    let height = height_seen p.width p.height p.cells.items c.args.self.now c.self.view_is in
    record { value = number_seen p.width p.height p.cells.items c.args.self.now c.self.view_is c.self.invariant c.args.x c.args.y _ (omega arith) (omega arith) c.index.ensures }
