-- The texts of a sample of which nothing is learned.
use Rattle.std.specs.Prelude.{ℕ, List, codes}
use Rattle.wfc_pattern.specs.declared.learning.LearnFault.{LearnFault}
use Rattle.wfc_pattern.specs.declared.learning.LearnFault.TheVariants as faults
use Rattle.wfc_lines.specs.Line.{about, numbered_text}
use Rattle.wfc_lines.specs.Outcome.{no_memory_text}

-- why a sample teaches no patterns: it is smaller than a window, it has too many of them, or memory ran out
abbrev pub text_of_learn : LearnFault → List ℕ → List ℕ
text_of_learn faults.SampleBelowN file = about (codes "learn SampleBelowN") file
text_of_learn (faults.TooManyPatterns count) file = numbered_text (codes "learn TooManyPatterns count=") count file
text_of_learn faults.NoMemory file = no_memory_text
