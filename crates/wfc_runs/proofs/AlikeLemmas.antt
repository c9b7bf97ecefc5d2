-- Rules that pick alike, and the runs by them.
use Rattle.std.proofs.Common.{◌≡◌, ℕ, zero, suc, List, [], Option, get_or, refl, ap, sym, ◌∙◌, cond}
use Rattle.std.specs.Prelude.{All}
use Rattle.rand_core.specs.Stream.{Stream}
use Rattle.wfc_choose.specs.Pick.{Rule, picked_cell}
use Rattle.wfc_choose.specs.declared.RuleKind.{RuleKind}
use Rattle.wfc_choose.specs.declared.RuleKind.TheVariants.{Scanline, Fewest, Ranked}
use Rattle.wfc_problem.specs.Network.{Network}
use Rattle.wfc_problem.specs.Rounds.{greatest}
use Rattle.wfc_problem.specs.Sizes.{is_dead, sizes_of}
use Rattle.wfc_search.specs.Run.{State, alive_turn, dead_turn, end_after, end_from, end_within, last_choice, most_turns, outcome_of, start, turn_of}
use Rattle.wfc_runs.specs.Alike.{IsPlain, PickAlike, PicksAs}

-- rules of one kind pick alike, but where they go by ranks
pub kinds_alike : (kind : RuleKind) (ranks others : List ℕ) → IsPlain kind → PicksAs (record { kind = kind; ranks = ranks }) (record { kind = kind; ranks = others })
unfolding picked_cell
kinds_alike Scanline ranks others plain sizes = refl
kinds_alike Fewest ranks others plain sizes = refl
kinds_alike Ranked ranks others plain sizes = absurd plain

-- so two rules that are of such a kind
pub plain_alike : (rule other : Rule) (kind : RuleKind) → IsPlain kind → rule.kind ≡ kind → other.kind ≡ kind → PicksAs rule other
plain_alike rule other kind plain is it sizes =
    ap (λ k. picked_cell (record { kind = k; ranks = rule.ranks }) sizes) is
    ∙ kinds_alike kind rule.ranks other.ranks plain sizes
    ∙ ap (λ k. picked_cell (record { kind = k; ranks = other.ranks }) sizes) (sym it)

-- so all rules of such a kind
pub rules_alike : (rules : List Rule) (kind : RuleKind) → IsPlain kind → All (λ (r : Rule). r.kind ≡ kind) rules → PickAlike rules
rules_alike rules kind plain each =
    let one : Rule = record { kind = kind; ranks = [] } in
    (one, λ k d h. plain_alike (get_or rules k d) one kind plain (each k d h) refl)

-- a turn goes by the picks of its rule alone
pub turn_alike : (r rule : Rule) → PicksAs r rule → (P : Network) (budget : ℕ) (s : State) → turn_of P r budget s ≡ turn_of P rule budget s
unfolding turn_of
turn_alike r rule alike P budget s =
    let D = greatest P s.standing in
    ap (λ (o : Option ℕ). cond (is_dead P D) (dead_turn budget s (last_choice s.standing)) (alive_turn P s D o)) (alike (sizes_of P D))

-- so do turns up to some number
within_alike : (r rule : Rule) → PicksAs r rule → (turns : ℕ) (P : Network) (budget : ℕ) (s : State) → end_within turns P r budget s ≡ end_within turns P rule budget s
unfolding end_within
within_alike r rule alike zero P budget s = refl
within_alike r rule alike (suc turns) P budget s = λ i. end_after (turn_alike r rule alike P budget s i) (λ next. within_alike r rule alike turns P budget next i)

-- and the end from a state
pub from_alike : (r rule : Rule) → PicksAs r rule → (P : Network) (budget : ℕ) (s : State) → end_from P r budget s ≡ end_from P rule budget s
unfolding end_from
from_alike r rule alike P budget s = within_alike r rule alike (most_turns P budget) P budget s

-- and the end of a run
pub runs_alike : (r rule : Rule) → PicksAs r rule → (P : Network) (budget : ℕ) (words : Stream) → outcome_of P r budget words ≡ outcome_of P rule budget words
runs_alike r rule alike P budget words = from_alike r rule alike P budget (start words)

-- so two rules of a kind that doesn't go by ranks make one run
pub plain_runs : (P : Network) (rule other : Rule) (kind : RuleKind) (budget : ℕ) (words : Stream) → rule.kind ≡ kind → other.kind ≡ kind → IsPlain kind → outcome_of P rule budget words ≡ outcome_of P other budget words
plain_runs P rule other kind budget words is it plain = runs_alike rule other (plain_alike rule other kind plain is it) P budget words
