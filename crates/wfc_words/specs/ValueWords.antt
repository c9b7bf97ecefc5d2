-- The word of each value.
use Rattle.std.specs.Prelude.{codes}
use Rattle.clap.specs.Walk.{Text}
use Rattle.wfc_words.specs.declared.fault.ValueName.{ValueName}
use Rattle.wfc_words.specs.declared.fault.ValueName.TheVariants.{Model, Width, Height, Symmetry, Seed, Budget, Rule, Form}
use Rattle.wfc_words.specs.declared.fault.ValueName.TheVariants.{Number, Format, Mask, Seeds, Quantum, Block, Depth}

-- the word by which the user gives a value
abbrev pub word_of : ValueName → Text
word_of Model = codes "MODEL"
word_of Width = codes "WIDTH"
word_of Height = codes "HEIGHT"
word_of Symmetry = codes "symmetry"
word_of Seed = codes "seed"
word_of Budget = codes "budget"
word_of Rule = codes "rule"
word_of Form = codes "form"
word_of Number = codes "NUMBER"
word_of Format = codes "format"
word_of Mask = codes "mask"
word_of Seeds = codes "seeds"
word_of Quantum = codes "quantum"
word_of Block = codes "block"
word_of Depth = codes "DEPTH"
