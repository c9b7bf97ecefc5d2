use Rattle.std.proofs.Common.{◌≡◌, [], ◌∷◌, All, None, map, sym, subst}
use Rattle.std.proofs.lemmas.List.Elements.{All-cons, All-nil}
use Rattle.wfc_race.specs.Seen.{AreRunners, Seen, runner_seen}
use Rattle.wfc_race.proofs.CallerLemmas.{two_runners}
use Rattle.wfc_runs.specs.Words.{generator_words}
use Rattle.wfc_search_tests.proofs.races.race_of_two.Goals as goal

-- neither of two has an outcome
two_free : {X : Type 0} (f : X → Seen) (x y : X) → (f x).search.course.outcome ≡ None → (f y).search.course.outcome ≡ None → All (λ z. (f z).search.course.outcome ≡ None) (x ∷ y ∷ [])
two_free {X} f x y one other =
    let Q : X → Type 0 = λ z. (f z).search.course.outcome ≡ None in
    All-cons Q x (y ∷ []) one (All-cons Q y [] other (All-nil Q))

pub new-requires-clause-ready : goal.new-requires-clause-ready
new-requires-clause-ready g c =
    let f = runner_seen (λ store. store) generator_words (λ x. (goal.Chooser-dyn g x).told x.1) in
    subst (λ xs. AreRunners (map f xs)) (sym c.in_ok-vec.ensures.items) (two_runners c.args.problem.now f c.in_ok-first.first c.in_ok-second.second c.in_ok-first.ensures.runner c.in_ok-second.ensures.runner)

pub new-requires-clause-going : goal.new-requires-clause-going
new-requires-clause-going g c =
    let f = runner_seen (λ store. store) generator_words (λ x. (goal.Chooser-dyn g x).told x.1) in
    subst (All (λ z. (f z).search.course.outcome ≡ None)) (sym c.in_ok-vec.ensures.items) (two_free f c.in_ok-first.first c.in_ok-second.second c.in_ok-first.ensures.free c.in_ok-second.ensures.free)
