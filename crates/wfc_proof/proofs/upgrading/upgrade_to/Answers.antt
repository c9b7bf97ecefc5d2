use Rattle.std.proofs.Common.{◌<◌, ◌^◌, ◌∙◌, subst, arith}
use Rattle.wfc_outside.proofs.CallerLemmas.{fault_out}
use Rattle.wfc_outside.specs.Sink.{after_bytes, IsFaultAfterFront}
use Rattle.wfc_problem.specs.Network.{values}
use Rattle.wfc_proof.specs.Heads.{IsShape, head_2_text}
use Rattle.wfc_proof.proofs.UpgradeLemmas.{proof_led, proof_kept, led_put}
use Rattle.wfc_proof.proofs.upgrading.upgrade_to.Goals as goal

pub upgrade_proof-requires : goal.upgrade_proof-requires
upgrade_proof-requires g c =
    let is : IsShape c.args.shape = record { n = c.requires.limit; width = omega arith; height = omega arith; depth = omega arith; symmetry = omega arith } in
    let cells : c.args.problem.now.cells < 2 ^ 32 = omega (arith, c.cells.ensures.value) in
    let values_fit : values c.args.problem.now < 2 ^ 32 = omega (arith, c.values.ensures.value) in
    record { lines = (proof_led c.args.problem.now c.args.shape c.requires.proof.format c.requires.proof.proof c.args.bytes.now is cells values_fit c.requires.proof.is).lines }

pub returns-in-Ok-clause-put : goal.returns-in-Ok-clause-put
returns-in-Ok-clause-put g c =
    let is : IsShape c.args.shape = record { n = c.requires.limit; width = omega arith; height = omega arith; depth = omega arith; symmetry = omega arith } in
    let cells : c.args.problem.now.cells < 2 ^ 32 = omega (arith, c.cells.ensures.value) in
    let values_fit : values c.args.problem.now < 2 ^ 32 = omega (arith, c.values.ensures.value) in
    led_put (g.S.Sink.seen c.args.sink.now) (g.S.Sink.seen c.write_header_2.new.sink) (g.S.Sink.seen c.upgrade_proof.new.sink) c.args.problem.now c.args.shape c.args.bytes.now c.upgrade_proof.result
    (proof_led c.args.problem.now c.args.shape c.requires.proof.format c.requires.proof.proof c.args.bytes.now is cells values_fit c.requires.proof.is)
    (c.in-Ok.ensures.put ∙ (λ i. after_bytes (g.S.Sink.seen c.args.sink.now) (head_2_text c.args.shape (c.cells.ensures.value i) (c.values.ensures.value i)))) c.upgrade_proof.ensures.put

pub returns-in-Ok-clause-same_proof : goal.returns-in-Ok-clause-same_proof
returns-in-Ok-clause-same_proof g c format proof text =
    let is : IsShape c.args.shape = record { n = c.requires.limit; width = omega arith; height = omega arith; depth = omega arith; symmetry = omega arith } in
    let cells : c.args.problem.now.cells < 2 ^ 32 = omega (arith, c.cells.ensures.value) in
    let values_fit : values c.args.problem.now < 2 ^ 32 = omega (arith, c.values.ensures.value) in
    proof_kept c.args.problem.now c.args.shape format proof c.args.bytes.now is cells values_fit text

pub returns-in-Err-clause-put : goal.returns-in-Err-clause-put
returns-in-Err-clause-put g c =
    fault_out (g.S.Sink.seen c.args.sink.now) (g.S.Sink.seen c.write_header_2.new.sink) (head_2_text c.args.shape c.args.problem.now.cells (values c.args.problem.now)) _
    (subst (λ (h : _). IsFaultAfterFront (g.S.Sink.seen c.args.sink.now) (g.S.Sink.seen c.write_header_2.new.sink) h) (λ i. head_2_text c.args.shape (c.cells.ensures.value i) (c.values.ensures.value i)) c.in-Err.ensures.put)

pub returns-in-Err-clause-same_proof : goal.returns-in-Err-clause-same_proof
returns-in-Err-clause-same_proof g c format proof text =
    let is : IsShape c.args.shape = record { n = c.requires.limit; width = omega arith; height = omega arith; depth = omega arith; symmetry = omega arith } in
    let cells : c.args.problem.now.cells < 2 ^ 32 = omega (arith, c.cells.ensures.value) in
    let values_fit : values c.args.problem.now < 2 ^ 32 = omega (arith, c.values.ensures.value) in
    proof_kept c.args.problem.now c.args.shape format proof c.args.bytes.now is cells values_fit text
