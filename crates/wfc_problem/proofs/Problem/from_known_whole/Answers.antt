-- Without its flags the base is whole.
use Rattle.std.proofs.Common.{◌*◌, true}
use Rattle.wfc_problem.specs.Network.{values}
use Rattle.wfc_problem.specs.Whole.{network_of}
use Rattle.wfc_problem.proofs.Whole.{kept_whole, set_pass}
use Rattle.wfc_problem.proofs.Problem.from_known_whole.Goals as goal

pub kept-requires : goal.kept-requires
kept-requires c = record {
  kept = kept_whole (network_of true c.args.parts) c.forget_base.new.self c.requires.problem (set_pass (c.args.parts.cells * values c.args.parts)) c.forget_base.ensures.rest;
}
