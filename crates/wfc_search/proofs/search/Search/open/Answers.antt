use Rattle.std.proofs.Common.{◌∙◌, List, ℕ, length, sym, ap, subst, arith}
use Rattle.wfc_choose.specs.Told.{Told}
use Rattle.wfc_domains.specs.Store.{StoreView, left_of}
use Rattle.wfc_problem.specs.declared.Literal.{Literal}
use Rattle.wfc_problem.proofs.CallerLemmas.{few_cells, length-sizes_of}
use Rattle.wfc_search.specs.Between.{IsBetween}
use Rattle.wfc_search.proofs.Runs.{between_none}
use Rattle.wfc_search.proofs.Stores.{sizes_small}
use Rattle.wfc_search.proofs.search.Search.open.Goals as goal

pub load-requires-clause-limit : goal.load-requires-clause-limit
load-requires-clause-limit g c =
    let store : StoreView = g.S.Store.view c.args.store in
    omega (arith, ap (λ (xs : List ℕ). length xs) (c.deref.ensures.value ∙ c.in-Ok.ensures.ok), length-sizes_of store.problem (left_of store), few_cells store.problem c.in-Ok.ensures.sound.problem)

pub load-requires-clause-small : goal.load-requires-clause-small
load-requires-clause-small g c = sizes_small (g.S.Store.view c.args.store) c.in-Ok.ensures.sound _ (c.deref.ensures.value ∙ c.in-Ok.ensures.ok)

pub returns-clause-ready : goal.returns-clause-ready
returns-clause-ready g c =
    let store : StoreView = g.S.Store.view c.args.store in
    record {
      problem = c.requires.same_problem;
      keeps = record { sound = c.in-Ok.ensures.sound; sizes = ap (λ (t : Told). t.sizes) c.in-Ok-load.ensures.ok ∙ c.deref.ensures.value ∙ c.in-Ok.ensures.ok };
      between = subst (λ (ls : List Literal). IsBetween c.args.problem.now c.args.budget ls 0) (sym c.requires.empty) (between_none c.args.problem.now c.args.budget);
      room = omega (arith, c.requires.spare);
      outcome = λ o e. cc;
    }
