use Rattle.std.proofs.Common.{refl}
use Rattle.std.proofs.lemmas.Result.{err_from_is_err_and}
use Rattle.wfc_grow_command.proofs.GrowEndLemmas.{map_cut, map_done, map_short}
use Rattle.wfc_grow_command.proofs.grow_command.put_map.Goals as goal
use Rattle.wfc_grow_command.specs.GrowTask.{growing_view}
use Rattle.wfc_outside.proofs.CallerLemmas.{fault_behind}

pub returns-in_err-text : goal.returns-in_err-text
returns-in_err-text g c =
    let p = err_from_is_err_and c.from_residual.result c.from_residual.ensures.1 in
    record { puts = λ rule. rw (p.1, p.2) (map_short rule c.args.request.now (growing_view c.args.growing.now) _ _ _ refl) }

pub returns-in_err-write_all : goal.returns-in_err-write_all
returns-in_err-write_all g c =
    let p = err_from_is_err_and c.from_residual-in_err-write_all.result c.from_residual-in_err-write_all.ensures.1 in
    record { puts = λ rule. rw (p.1, p.2) (map_cut rule c.args.request.now (growing_view c.args.growing.now) c.args.picture.now _ _ c.in_ok-text.text.items c.in_ok-text.ensures.text (rw c.deref.ensures.value at c.in_err-write_all.ensures.put)) }

pub returns-in_err-finish : goal.returns-in_err-finish
returns-in_err-finish g c =
    let p = err_from_is_err_and c.from_residual-in_err-finish.result c.from_residual-in_err-finish.ensures.1 in
    record {
      puts = λ rule. rw (p.1, p.2)
          (map_cut rule c.args.request.now (growing_view c.args.growing.now) c.args.picture.now _ _ c.in_ok-text.text.items c.in_ok-text.ensures.text
          (fault_behind _ _ _ c.in_ok-text.text.items (rw c.deref.ensures.value at c.in_ok-write_all.ensures.put) c.in_err-finish.ensures.finished));
    }

pub returns : goal.returns
returns g c = record {
  puts = λ rule. map_done rule c.args.request.now (growing_view c.args.growing.now) c.args.picture.now _ _ _ c.in_ok-text.text.items c.in_ok-text.ensures.text (rw c.deref.ensures.value at c.in_ok-write_all.ensures.put) c.in_ok-finish.ensures.finished;
}
