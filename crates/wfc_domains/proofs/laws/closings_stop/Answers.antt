use Rattle.wfc_domains.proofs.Stops.{sound-stopped, sound-filled}
use Rattle.wfc_domains.proofs.laws.closings_stop.Goals as goal

pub returns : goal.returns
returns c = record {
  stops = sound-stopped;
  filled = sound-filled;
  began = λ v s some. (s.began some).1;
  opening = λ v cell s none e. ((s.opening none).empty cell e).0;
}
