-- What a search came to, as the run of a problem.
use Rattle.std.proofs.Common.{◌≡◌, ℕ, List, [], Some, Result, Ok, Err, ap, sym, ◌∙◌, subst}
use Rattle.std.specs.Prelude.{IfOk}
use Rattle.rand_core.specs.Pcg32Seed.{pcg32_seed}
use Rattle.rand_core.specs.Stream.{Stream}
use Rattle.rand_pcg.specs.Lcg.{Lcg}
use Rattle.rand_pcg.specs.Pcg.{pcg64_of_seed}
use Rattle.wfc_outside.specs.declared.NoMemory.{NoMemory}
use Rattle.wfc_choose.specs.Pick.{Rule}
use Rattle.wfc_problem.specs.Assignment.{IsLegalAssignment}
use Rattle.wfc_problem.specs.Network.{Network, IsProblem}
use Rattle.wfc_problem.specs.declared.Literal.{Literal}
use Rattle.wfc_search.specs.Ends.{EndsIn}
use Rattle.wfc_search.specs.Run.{State, end_from, outcome_of}
use Rattle.wfc_search.specs.declared.Outcome.{Outcome}
use Rattle.wfc_search.specs.declared.Outcome.TheVariants as outcome
use Rattle.wfc_search.proofs.CallerLemmas.{outcome_map}
use Rattle.wfc_runs.specs.Runs.{IsRunEnd, HoldsOutcome, IsLegalEnd, IsRan}
use Rattle.wfc_runs.specs.Words.{generator_words, words_of_seed}
use Rattle.wfc_runs.specs.declared.runs.RunEnd.{RunEnd}
use Rattle.wfc_runs.specs.declared.runs.RunEnd.TheVariants as held
use Rattle.wfc_runs.specs.declared.runs.Ran.{Ran}

-- the words of a generator that is seeded by a number
pub seeded_words : (g : Lcg) (seed : ℕ) → g ≡ pcg64_of_seed (pcg32_seed 32 seed) → generator_words g ≡ words_of_seed seed
unfolding words_of_seed
seeded_words g seed is = ap generator_words is

-- from these literals and retractions, the run with these words comes to this outcome
abbrev Comes : Network → Rule → ℕ → List Literal → ℕ → Stream → Outcome → List Literal → ℕ → Stream → Type 0
Comes P rule budget before unmade words outcome after made left =
    (draws : ℕ) → (more : ℕ) × (end_from P rule budget (record { standing = before; retractions = unmade; draws = draws; words = words }) ≡ Some (outcome, record { standing = after; retractions = made; draws = more; words = left }))

-- so it does with the words of the seed
pub seeded_end : (P : Network) (rule : Rule) (budget : ℕ) (before : List Literal) (unmade : ℕ) (words : Stream) (outcome : Outcome) (after : List Literal) (made : ℕ) (left : Stream) (seed : ℕ) → words ≡ words_of_seed seed
    → Comes P rule budget before unmade words outcome after made left → (rest : Stream) × Comes P rule budget before unmade (words_of_seed seed) outcome after made rest
seeded_end P rule budget before unmade words outcome after made left seed is end = (left, subst (λ (w : Stream). Comes P rule budget before unmade w outcome after made left) is end)

-- the end from the state of a search that has just begun is that of the run
begun_end : (P Q : Network) (rule r : Rule) (budget b seed : ℕ) (s t : State) (outcome : Outcome) → end_from Q r b s ≡ Some (outcome, t) → Q ≡ P → r ≡ rule → b ≡ budget
    → s.standing ≡ [] → s.retractions ≡ 0 → s.draws ≡ 0 → s.words ≡ words_of_seed seed → outcome_of P rule budget (words_of_seed seed) ≡ Some (outcome, t)
begun_end P Q rule r budget b seed s t outcome end problem same bound none unmade undrawn words =
    (λ i. end_from (sym problem i) (sym same i) (sym bound i) (record { standing = sym none i; retractions = sym unmade i; draws = sym undrawn i; words = sym words i })) ∙ end

-- so it has that end
pub begun_ends : (P Q : Network) (rule r : Rule) (budget b seed : ℕ) (s t : State) (outcome : Outcome) → end_from Q r b s ≡ Some (outcome, t) → Q ≡ P → r ≡ rule → b ≡ budget
    → s.standing ≡ [] → s.retractions ≡ 0 → s.draws ≡ 0 → s.words ≡ words_of_seed seed → EndsIn P rule budget (words_of_seed seed) outcome
begun_ends P Q rule r budget b seed s t outcome end problem same bound none unmade undrawn words =
    (t, begun_end P Q rule r budget b seed s t outcome end problem same bound none unmade undrawn words)

-- and what is answered of it is the run's, if memory was enough
pub answers_ran : (P Q : Network) (rule r : Rule) (budget b seed : ℕ) (s t : State) (outcome : Outcome) (result : Result Ran NoMemory) → end_from Q r b s ≡ Some (outcome, t) → Q ≡ P → r ≡ rule → b ≡ budget
    → s.standing ≡ [] → s.retractions ≡ 0 → s.draws ≡ 0 → s.words ≡ words_of_seed seed → IfOk result (λ ran. HoldsOutcome P t.standing outcome ran.end) → IfOk result (λ ran. ran.retractions ≡ t.retractions) → IfOk result (IsRan P rule budget seed)
answers_ran P Q rule r budget b seed s t outcome (Err cause) end problem same bound none unmade undrawn words is_held many = tt
answers_ran P Q rule r budget b seed s t outcome (Ok ran) end problem same bound none unmade undrawn words is_held many = record {
  outcome = outcome;
  state = t;
  ends = begun_end P Q rule r budget b seed s t outcome end problem same bound none unmade undrawn words;
  held = is_held;
  retractions = many;
}

-- a run has the end that it came to
pub ran_end : (P : Network) (rule : Rule) (budget seed : ℕ) (ran : Ran) → IsRan P rule budget seed ran → IsRunEnd P rule budget seed ran.end
ran_end P rule budget seed ran is = by_end is.outcome ran.end is.held is.ends
  where
    by_end : (o : Outcome) (end : RunEnd) → HoldsOutcome P is.state.standing o end → outcome_of P rule budget (words_of_seed seed) ≡ Some (o, is.state) → IsRunEnd P rule budget seed end
    by_end outcome.Map (held.Map assignment) same ends = (is.state, ends, same)
    by_end outcome.NoMap held.NoMap same ends = (is.state, ends)
    by_end outcome.Spent held.Spent same ends = (is.state, ends)
    by_end outcome.NoMap (held.Map assignment) same ends = absurd same
    by_end outcome.Spent (held.Map assignment) same ends = absurd same
    by_end outcome.Map held.NoMap same ends = absurd same
    by_end outcome.Spent held.NoMap same ends = absurd same
    by_end outcome.Map held.Spent same ends = absurd same
    by_end outcome.NoMap held.Spent same ends = absurd same

-- what a run holds that ended in a map is legal
pub ran_legal : (P : Network) → IsProblem P → (rule : Rule) (budget seed : ℕ) (ran : Ran) → IsRan P rule budget seed ran → IsLegalEnd P ran.end
ran_legal P p rule budget seed ran is = by_end is.outcome ran.end is.held is.ends
  where
    by_end : (o : Outcome) (end : RunEnd) → HoldsOutcome P is.state.standing o end → outcome_of P rule budget (words_of_seed seed) ≡ Some (o, is.state) → IsLegalEnd P end
    by_end outcome.Map (held.Map assignment) same ends = subst (IsLegalAssignment P) (sym same) (outcome_map P p rule budget (words_of_seed seed) is.state ends).1
    by_end outcome.NoMap (held.Map assignment) same ends = absurd same
    by_end outcome.Spent (held.Map assignment) same ends = absurd same
    by_end o held.NoMap same ends = tt
    by_end o held.Spent same ends = tt

pub answers_legal : (P : Network) → IsProblem P → (rule : Rule) (budget seed : ℕ) (result : Result Ran NoMemory) → IfOk result (IsRan P rule budget seed) → IfOk result (λ ran. IsLegalEnd P ran.end)
answers_legal P p rule budget seed (Err cause) is = tt
answers_legal P p rule budget seed (Ok ran) is = ran_legal P p rule budget seed ran is
