-- What a request holds for the words that its command doesn't have.
use Rattle.std.specs.Prelude.{◌≡◌, false, codes}
use Rattle.wfc_words.specs.Commands.{takes_word}
use Rattle.wfc_words.specs.RequestView.{RequestView, default_request}
use Rattle.wfc_words.specs.ValueWords.{word_of}
use Rattle.wfc_words.specs.declared.fault.ValueName.TheVariants as names

-- for a word that the command doesn't have, a field holds what stands for none
pub record HoldsDefaults (asked : RequestView) : Type 0 where
  pub file : takes_word asked.command (codes "FILE") ≡ false → asked.file ≡ (default_request asked.command).file
  pub source : takes_word asked.command (word_of names.Model) ≡ false → asked.source ≡ (default_request asked.command).source
  pub width : takes_word asked.command (word_of names.Width) ≡ false → asked.width ≡ (default_request asked.command).width
  pub height : takes_word asked.command (word_of names.Height) ≡ false → asked.height ≡ (default_request asked.command).height
  pub symmetry : takes_word asked.command (word_of names.Symmetry) ≡ false → asked.symmetry ≡ (default_request asked.command).symmetry
  pub wrap_in : takes_word asked.command (codes "wrap-in") ≡ false → asked.wrap_in ≡ (default_request asked.command).wrap_in
  pub wrap_out : takes_word asked.command (codes "wrap-out") ≡ false → asked.wrap_out ≡ (default_request asked.command).wrap_out
  pub pins : takes_word asked.command (codes "pins") ≡ false → asked.pins ≡ (default_request asked.command).pins
  pub steps : takes_word asked.command (codes "steps") ≡ false → asked.steps ≡ (default_request asked.command).steps
  pub refutation : takes_word asked.command (codes "REFUTATION") ≡ false → asked.refutation ≡ (default_request asked.command).refutation
  pub seed : takes_word asked.command (word_of names.Seed) ≡ false → asked.seed ≡ (default_request asked.command).seed
  pub budget : takes_word asked.command (word_of names.Budget) ≡ false → asked.budget ≡ (default_request asked.command).budget
  pub rule : takes_word asked.command (word_of names.Rule) ≡ false → asked.rule ≡ (default_request asked.command).rule
  pub form : takes_word asked.command (word_of names.Form) ≡ false → asked.form ≡ (default_request asked.command).form
  pub number : takes_word asked.command (word_of names.Number) ≡ false → asked.number ≡ (default_request asked.command).number
  pub format : takes_word asked.command (word_of names.Format) ≡ false → asked.format ≡ (default_request asked.command).format
  pub mask : takes_word asked.command (word_of names.Mask) ≡ false → asked.mask ≡ (default_request asked.command).mask
  pub seeds : takes_word asked.command (word_of names.Seeds) ≡ false → asked.seeds ≡ (default_request asked.command).seeds
  pub quantum : takes_word asked.command (word_of names.Quantum) ≡ false → asked.quantum ≡ (default_request asked.command).quantum
  pub block : takes_word asked.command (word_of names.Block) ≡ false → asked.block ≡ (default_request asked.command).block
  pub depth : takes_word asked.command (word_of names.Depth) ≡ false → asked.depth ≡ (default_request asked.command).depth
