use Rattle.wfc_tiled.proofs.TileLemmas as lemma
use Rattle.wfc_tiled.proofs.examples.builds_by_pairs.Goals as goal

pub returns-clause-crowded_mask : goal.returns-clause-crowded_mask
returns-clause-crowded_mask c = lemma.crowded_mask

pub returns-clause-crowded_pins : goal.returns-clause-crowded_pins
returns-clause-crowded_pins c = lemma.crowded_pins
