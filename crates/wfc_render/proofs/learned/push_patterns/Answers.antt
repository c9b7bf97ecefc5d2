use Rattle.wfc_render.specs.Learned.{pattern_line}
use Rattle.wfc_render.proofs.RangeLemmas.{written_next}
use Rattle.wfc_render.proofs.learned.push_patterns.Goals as goal

pub loop-p-preserved : goal.loop-p-preserved
loop-p-preserved c = written_next (pattern_line c.args.patterns.now) c.loop-p.p c.push_head.new.text.items c.loop-p.text.items c.push_pattern.new.text.items c.loop-p.invariant c.in_ok-push_pattern.ensures.line
