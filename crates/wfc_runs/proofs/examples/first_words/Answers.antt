use Rattle.std.proofs.Common.{refl}
use Rattle.rand_core.specs.Steps.{stream_of}
use Rattle.wfc_runs.proofs.examples.first_words.Goals as goal

pub returns-clause-first : goal.returns-clause-first
unfolding stream_of
returns-clause-first c = refl

pub returns-clause-second : goal.returns-clause-second
unfolding stream_of
returns-clause-second c = refl
