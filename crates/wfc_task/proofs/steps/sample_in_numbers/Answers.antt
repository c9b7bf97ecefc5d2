use Rattle.wfc_task.proofs.LessonLemmas.{numbered_result, sampled_rows, sampled_some}
use Rattle.wfc_task.proofs.steps.sample_in_numbers.Goals as goal
use Rattle.wfc_task.specs.Sampled.{sampled_view}

pub numbered_picture-requires-clause-rows : goal.numbered_picture-requires-clause-rows
numbered_picture-requires-clause-rows c = rw c.deref.ensures.value (sampled_rows (sampled_view c.args.sampled.now) c.requires.sampled)

pub numbered_picture-requires-clause-some_pixel : goal.numbered_picture-requires-clause-some_pixel
numbered_picture-requires-clause-some_pixel c = rw c.deref.ensures.value (sampled_some (sampled_view c.args.sampled.now) c.requires.sampled)

pub returns-clause-numbered : goal.returns-clause-numbered
returns-clause-numbered c = numbered_result (sampled_view c.args.sampled.now) _ c.requires.sampled (rw c.deref.ensures.value at c.numbered_picture.ensures.exact)
