-- A fault with the status of want of memory has its line.
use Rattle.std.proofs.Common.{List, arith, refl, ℕ, ◌≡◌}
use Rattle.wfc_cli.specs.ErrorLine.{fault_text, unread_text}
use Rattle.wfc_lines.specs.Outcome.{no_memory_text}
use Rattle.wfc_outside.specs.declared.whole.ReadFault.TheVariants as reads
use Rattle.wfc_plan.specs.Fault.{status_of}
use Rattle.wfc_plan.specs.declared.fault.Fault.{Fault}
use Rattle.wfc_plan.specs.declared.fault.Fault.TheVariants.{Refused, Unread}
use Rattle.wfc_plan.specs.declared.fault.Refusal.TheVariants as refused
use Rattle.wfc_plan.specs.declared.fault.Source.{Source}
use Rattle.wfc_plan.specs.declared.fault.Source.TheVariants as source
use Rattle.wfc_reply.specs.FileNames.{name_of}
use Rattle.wfc_words.specs.RequestView.{RequestView}

-- ---- want of memory has one line

reading_memory : (which : Source) (file : List ℕ) → unread_text which reads.NoMemory file ≡ no_memory_text
reading_memory source.Sample file = refl
reading_memory source.Pins file = refl
reading_memory source.Steps file = refl
reading_memory source.Refutation file = refl
reading_memory (source.Picture tile) file = refl
reading_memory source.Mask file = refl

-- a fault with the status of want of memory has its text
pub memory_text : (asked : RequestView) (fault : Fault) → status_of fault ≡ 6 → fault_text asked fault ≡ no_memory_text
memory_text asked (Unread which reads.NoMemory) six = reading_memory which (name_of asked which)
memory_text asked (Unread which reads.Missing) six = absurd (omega (arith, six))
memory_text asked (Unread which reads.Failed) six = absurd (omega (arith, six))
memory_text asked (Unread which reads.TooLong) six = absurd (omega (arith, six))
memory_text asked (Refused (refused.Chooser rule)) six = absurd (omega (arith, six))
memory_text asked (Refused (refused.Grid which fault)) six = absurd (omega (arith, six))
memory_text asked (Refused (refused.Ppm which fault)) six = absurd (omega (arith, six))
memory_text asked (Refused (refused.Colours fault)) six = absurd (omega (arith, six))
memory_text asked (Refused (refused.Learn fault)) six = absurd (omega (arith, six))
memory_text asked (Refused (refused.Render fault)) six = absurd (omega (arith, six))
memory_text asked (Refused (refused.Pins fault)) six = absurd (omega (arith, six))
memory_text asked (Refused (refused.Build fault)) six = absurd (omega (arith, six))
memory_text asked (Refused (refused.Steps fault)) six = absurd (omega (arith, six))
memory_text asked (Refused (refused.Range fault)) six = absurd (omega (arith, six))
memory_text asked (Refused (refused.TooLong which)) six = absurd (omega (arith, six))
memory_text asked (Refused refused.NoMemory) six = refl
memory_text asked (Refused (refused.Tiles fault)) six = absurd (omega (arith, six))
memory_text asked (Refused (refused.Mask fault)) six = absurd (omega (arith, six))
memory_text asked (Refused (refused.Stacks fault)) six = absurd (omega (arith, six))
memory_text asked (Refused (refused.RaceTooLarge product)) six = absurd (omega (arith, six))
memory_text asked (Refused (refused.TooManyPins count)) six = absurd (omega (arith, six))
memory_text asked (Refused (refused.TooManyBlocks count)) six = absurd (omega (arith, six))
