-- The words of a seed.
use Rattle.std.specs.Prelude.{ℕ}
use Rattle.rand_core.specs.Pcg32Seed.{pcg32_seed}
use Rattle.rand_core.specs.Steps.{stream_of, steps_u64_low}
use Rattle.rand_core.specs.Stream.{Stream}
use Rattle.rand_pcg.specs.Lcg.{Lcg}
use Rattle.rand_pcg.specs.Pcg.{pcg64, pcg64_of_seed}

-- the words that a generator Pcg64 gives
abbrev pub generator_words : Lcg → Stream
generator_words generator = stream_of (steps_u64_low pcg64) generator

-- the words of the generator Pcg64 that is seeded by a number
unfoldable pub words_of_seed : ℕ → Stream
words_of_seed seed = generator_words (pcg64_of_seed (pcg32_seed 32 seed))
