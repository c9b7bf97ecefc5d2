-- What a turn leaves of what holds between turns of a search.
use Rattle.std.proofs.Common.{◌≡◌, ◌≢◌, ℕ, ◌+◌, ◌<◌, true, false, List, [], ◌∷◌, ◌++◌, length, take, refl, sym, ◌∙◌, ap, subst, arith, inr, Option, Some, None, length-append}
use Rattle.std.specs.Option.{ForSome}
use Rattle.std.proofs.lemmas.List.{length-take-le}
use Rattle.rand_core.specs.Stream.{Stream, next_u64}
use Rattle.wfc_choose.specs.Draw.{drawn_value}
use Rattle.wfc_choose.specs.Pick.{Rule, picked_cell}
use Rattle.wfc_choose.specs.Told.{Told}
use Rattle.wfc_domains.specs.Store.{StoreView, left_of}
use Rattle.wfc_log.specs.declared.Verdict.TheVariants.{Alive, Dead}
use Rattle.wfc_problem.specs.Domains.{Test}
use Rattle.wfc_problem.specs.Network.{Network, IsProblem, values}
use Rattle.wfc_problem.specs.Rounds.{greatest}
use Rattle.wfc_problem.specs.Sizes.{values_at, size_at, sizes_of, is_dead}
use Rattle.wfc_problem.specs.declared.Literal.{Literal}
use Rattle.wfc_problem.specs.declared.Literal.TheVariants.{Is, Not}
use Rattle.wfc_problem.proofs.CallerLemmas.{base_inside, greatest_base, length-sizes_of, sizes_of_at}
use Rattle.wfc_choose.proofs.CallerLemmas.{picked_open}
use Rattle.wfc_search.specs.Between.{IsBetween, Cuts}
use Rattle.wfc_search.specs.Follow.{Keeps, IsPutOn, IsCutBack}
use Rattle.wfc_search.specs.Last.{choice_in}
use Rattle.wfc_search.specs.Run.{State, Choice, last_choice, after_choice, turn_of}
use Rattle.wfc_proof.specs.Journal.{JournalView, after_lines, IsCutOff}
use Rattle.wfc_proof.proofs.CallerLemmas.{cut_off_behind}
use Rattle.wfc_search.specs.Telling.{opening_lines, turn_lines, IsCutOffFrom}
use Rattle.wfc_search.specs.Search.{SearchView, state_at, outcome_after, IsTurnFrom, HoldsBetween, IsReady, IsTrueEnd}
use Rattle.wfc_search.specs.declared.course.Course.{Course}
use Rattle.wfc_search.specs.declared.last.LastChoice.{LastChoice}
use Rattle.wfc_search.specs.declared.Outcome.{Outcome}
use Rattle.wfc_search.specs.declared.Outcome.TheVariants.{Map, NoMap, Spent}
use Rattle.wfc_search.specs.declared.Turn.{Turn}
use Rattle.wfc_search.specs.declared.Turn.TheVariants.{Chose, Retracted, Ended}
use Rattle.wfc_search.proofs.Literals.{last_is}
use Rattle.wfc_search.proofs.Made.{made_choice, made_retraction}
use Rattle.wfc_search.proofs.Runs.{between_next, between_few, map_legal, no_map_none, spent_volume}
use Rattle.wfc_search.proofs.Stores.{alive_left, alive_alive, dead_dead}
use Rattle.wfc_search.proofs.Turns.{choice_cuts, leads_on, ended_same}

-- ---- what a store says

-- the store's problem is one
pub ready_problem : (P : Network) (store : StoreView) (chooser : Told) (course : Course) → HoldsBetween P store chooser course → IsProblem P
ready_problem P store chooser course ready = subst (λ (Q : Network). IsProblem Q) ready.problem ready.keeps.sound.problem

-- a store that is dead
pub ready_dead : (P : Network) (store : StoreView) (chooser : Told) (course : Course) (cell : ℕ) → HoldsBetween P store chooser course → Dead cell ≡ store.verdict → is_dead P (greatest P store.standing) ≡ true
ready_dead P store chooser course cell ready is =
    subst (λ (Q : Network). is_dead Q (greatest Q store.standing) ≡ true) ready.problem (dead_dead store cell ready.keeps.sound (sym is))

-- what is known of a store that is alive, and of its chooser
pub record IsAlive (P : Network) (store : StoreView) (chooser : Told) : Type 0 where
  pub left : left_of store ≡ greatest P store.standing
  pub alive : is_dead P (greatest P store.standing) ≡ false
  pub sizes : chooser.sizes ≡ sizes_of P (greatest P store.standing)

-- so it is
pub ready_alive : (P : Network) (store : StoreView) (chooser : Told) (course : Course) → HoldsBetween P store chooser course → store.verdict ≡ Alive → IsAlive P store chooser
ready_alive P store chooser course ready is = subst (λ (Q : Network). IsAlive Q store chooser) ready.problem (record {
  left = alive_left store ready.keeps.sound is;
  alive = alive_alive store ready.keeps.sound is;
  sizes = ready.keeps.sizes ∙ ap (sizes_of store.problem) (alive_left store ready.keeps.sound is);
})

-- ---- turns that lead on

-- after a turn that leads on the literals and the retractions are those of a run
turn_between : (P : Network) → IsProblem P → (rule : Rule) (budget : ℕ) (s t : State) (turn : Turn) → IsBetween P budget s.standing s.retractions → turn_of P rule budget s ≡ (turn, t)
    → ((outcome : Outcome) → turn ≡ Ended outcome → ⊥) → IsBetween P budget t.standing t.retractions
turn_between P p rule budget s t turn b is goes = between_next P p rule budget s t b (leads_on (turn_of P rule budget s) turn t is goes)

-- what a literal cuts is of the problem
cuts_in : (P : Network) → IsProblem P → (ls : List Literal) (c v : ℕ) → Cuts P (greatest P ls) (Is v c) → (c < P.cells) × (v < values P)
cuts_in P p ls c v cuts = base_inside P p c v (greatest_base P p ls c v cuts.1)

-- without an outcome nothing is said of it
no_outcome : (P : Outcome → Type 0) (outcome : Option Outcome) → outcome ≡ None → ForSome outcome P
no_outcome P outcome none o is = cc

-- ---- a choice

-- the cell that is picked is one, and not empty
pub pick_open : (P : Network) (rule : Rule) (store : StoreView) (chooser : Told) (cell : ℕ) → IsAlive P store chooser → Some cell ≡ picked_cell rule chooser.sizes
    → (picked_cell rule (sizes_of P (greatest P store.standing)) ≡ Some cell) × (cell < P.cells) × (0 < size_at P (left_of store) cell)
pick_open P rule store chooser cell alive is =
    let picks : picked_cell rule (sizes_of P (greatest P store.standing)) ≡ Some cell = ap (picked_cell rule) (sym alive.sizes) ∙ sym is in
    let opened = picked_open rule (sizes_of P (greatest P store.standing)) cell picks in
    let inside : cell < P.cells = omega (arith, opened.0, length-sizes_of P (greatest P store.standing)) in
    let two = opened.1 in
    let size : size_at P (left_of store) cell ≡ size_at P (greatest P store.standing) cell = ap (λ (D : Test). size_at P D cell) alive.left in
    (picks, inside, omega (arith, two, size, sizes_of_at P (greatest P store.standing) cell 0 inside))

-- a cell is picked, and the word draws this value of it
pub record Draws (P : Network) (rule : Rule) (store : StoreView) (words left : Stream) (cell value word : ℕ) : Type 0 where
  pub picks : picked_cell rule (sizes_of P (greatest P store.standing)) ≡ Some cell
  pub word_is : (word, left) ≡ next_u64 words
  pub value_is : value ≡ drawn_value P (values_at P (greatest P store.standing) cell) word

-- so it is, told from the domains that are read
pub draws_is : (P : Network) (rule : Rule) (store : StoreView) (chooser : Told) (D : Test) (words left : Stream) (cell value word : ℕ) → IsAlive P store chooser → Some cell ≡ picked_cell rule chooser.sizes
    → D ≡ left_of store → ◌≡◌ {A = ℕ × Stream} (word, left) (next_u64 words) → value ≡ drawn_value P (values_at P D cell) word → Draws P rule store words left cell value word
draws_is P rule store chooser D words left cell value word alive picks read word_is value_is = record {
  picks = (pick_open P rule store chooser cell alive picks).0;
  word_is = word_is;
  value_is = value_is ∙ ap (λ (E : Test). drawn_value P (values_at P E cell) word) (read ∙ alive.left);
}

-- the turn that it is
choice_turn : (P : Network) (rule : Rule) (budget : ℕ) (s : State) (cell value word : ℕ) (left : Stream) → is_dead P (greatest P s.standing) ≡ false
    → picked_cell rule (sizes_of P (greatest P s.standing)) ≡ Some cell → ◌≡◌ {A = ℕ × Stream} (word, left) (next_u64 s.words) → value ≡ drawn_value P (values_at P (greatest P s.standing) cell) word
    → turn_of P rule budget s ≡ (Chose cell value, after_choice s cell value left)
choice_turn P rule budget s cell value word left alive picks word_is value_is =
    made_choice P rule budget s cell alive picks
    ∙ ap (λ (next : ℕ × Stream). (Chose cell (drawn_value P (values_at P (greatest P s.standing) cell) next.0), after_choice s cell (drawn_value P (values_at P (greatest P s.standing) cell) next.0) next.1)) (sym word_is)
    ∙ ap (λ (v : ℕ). (Chose cell v, after_choice s cell v left)) (sym value_is)

-- of the search
pub choice_made : (P : Network) (rule : Rule) (old new : StoreView) (chooser : Told) (course : Course) (words left : Stream) (cell value word : ℕ) → IsAlive P old chooser
    → Draws P rule old words left cell value word → new.standing ≡ old.standing ++ Is value cell ∷ [] → IsTurnFrom P rule old course words (Chose cell value) new course left
choice_made P rule old new chooser course words left cell value word alive d standing draws =
    choice_turn P rule course.budget (state_at old course draws words) cell value word left alive.alive d.picks d.word_is d.value_is
    ∙ ap (λ (ls : List Literal). (Chose cell value, record { standing = ls; retractions = course.retractions; draws = draws + 1; words = left })) (sym standing)

-- what the choice cuts
choice_cut : (P : Network) → IsProblem P → (rule : Rule) (old : StoreView) (chooser : Told) (words left : Stream) (cell value word : ℕ) → IsAlive P old chooser
    → Draws P rule old words left cell value word → Cuts P (greatest P old.standing) (Is value cell)
choice_cut P p rule old chooser words left cell value word alive d =
    let s : State = record { standing = old.standing; retractions = 0; draws = 0; words = words } in
    choice_cuts P p rule s (after_choice s cell value left) old.standing
    (record { alive = alive.alive; cell = cell; value = value; words = left; picks = d.picks; draws = d.value_is ∙ ap (λ (next : ℕ × Stream). drawn_value P (values_at P (greatest P old.standing) cell) next.0) d.word_is; next = refl })

-- it is a literal of the problem
pub choice_in_problem : (P : Network) → IsProblem P → (rule : Rule) (old : StoreView) (chooser : Told) (words left : Stream) (cell value word : ℕ) → IsAlive P old chooser
    → Draws P rule old words left cell value word → (cell < P.cells) × (value < values P)
choice_in_problem P p rule old chooser words left cell value word alive d =
    cuts_in P p old.standing cell value (choice_cut P p rule old chooser words left cell value word alive d)

-- the literals and the retractions after it
choice_between : (P : Network) → IsProblem P → (rule : Rule) (old : StoreView) (chooser : Told) (course : Course) (words left : Stream) (cell value word : ℕ) → IsAlive P old chooser
    → Draws P rule old words left cell value word → IsBetween P course.budget old.standing course.retractions → IsBetween P course.budget (old.standing ++ Is value cell ∷ []) course.retractions
choice_between P p rule old chooser course words left cell value word alive d between =
    let s : State = state_at old course 0 words in
    turn_between P p rule course.budget s (after_choice s cell value left) (Chose cell value) between
    (choice_turn P rule course.budget s cell value word left alive.alive d.picks d.word_is d.value_is) (λ o e. cc)

-- there is room for it
pub choice_room : (P : Network) → IsProblem P → (rule : Rule) (old : StoreView) (chooser : Told) (course : Course) (words left : Stream) (cell value word : ℕ) → IsAlive P old chooser
    → Draws P rule old words left cell value word → HoldsBetween P old chooser course → 0 < old.spare
choice_room P p rule old chooser course words left cell value word alive d ready =
    let few = between_few P p course.budget course.retractions (old.standing ++ Is value cell ∷ []) (choice_between P p rule old chooser course words left cell value word alive d ready.between) in
    omega (arith, few, ready.room, length-append old.standing (Is value cell ∷ []))

-- what holds after it
pub choice_ready : (P : Network) → IsProblem P → (rule : Rule) (old new : StoreView) (chooser told : Told) (course : Course) (words left : Stream) (cell value word : ℕ) → IsAlive P old chooser
    → Draws P rule old words left cell value word → HoldsBetween P old chooser course → course.outcome ≡ None → IsPutOn old new (Is value cell) → Keeps new told → HoldsBetween P new told course
choice_ready P p rule old new chooser told course words left cell value word alive d ready going put keeps = record {
  problem = put.problem ∙ ready.problem;
  keeps = keeps;
  between = subst (λ (ls : List Literal). IsBetween P course.budget ls course.retractions) (sym put.standing) (choice_between P p rule old chooser course words left cell value word alive d ready.between);
  room = omega (arith, ready.room, put.spare, ap (λ (ls : List Literal). length ls) put.standing, length-append old.standing (Is value cell ∷ []));
  outcome = no_outcome _ course.outcome going;
}

-- what is known of a cell that is picked, and of the value that is drawn
pub record IsKnown (old : SearchView) (words left : Stream) (cell value : ℕ) : Type 0 where
  pub in_problem : (cell < old.store.problem.cells) × (value < values old.store.problem)
  pub room : 0 < old.store.spare
  pub turn : (new : StoreView) → new.standing ≡ old.store.standing ++ Is value cell ∷ [] → IsTurnFrom old.problem old.chooser.rule old.store old.course words (Chose cell value) new old.course left
  pub ready : (new : StoreView) (told : Told) → old.course.outcome ≡ None → IsPutOn old.store new (Is value cell) → Keeps new told → HoldsBetween old.problem new told old.course

-- so it is, told from the domains that are read
pub choice_known : (old : SearchView) (D : Test) (words left : Stream) (cell value word : ℕ) → IsReady old → old.store.verdict ≡ Alive → Some cell ≡ picked_cell old.chooser.rule old.chooser.sizes
    → D ≡ left_of old.store → ◌≡◌ {A = ℕ × Stream} (word, left) (next_u64 words) → value ≡ drawn_value old.problem (values_at old.problem D cell) word → IsKnown old words left cell value
choice_known old D words left cell value word ready alive_is picks read word_is value_is =
    let P : Network = old.problem in
    let rule : Rule = old.chooser.rule in
    let alive : IsAlive P old.store old.chooser = ready_alive P old.store old.chooser old.course ready alive_is in
    let d : Draws P rule old.store words left cell value word = draws_is P rule old.store old.chooser D words left cell value word alive picks read word_is value_is in
    let p : IsProblem P = ready_problem P old.store old.chooser old.course ready in
    record {
      in_problem = subst (λ (Q : Network). (cell < Q.cells) × (value < values Q)) (sym ready.problem)
          (choice_in_problem P p rule old.store old.chooser words left cell value word alive d);
      room = choice_room P p rule old.store old.chooser old.course words left cell value word alive d ready;
      turn = λ new standing. choice_made P rule old.store new old.chooser old.course words left cell value word alive d standing;
      ready = λ new told going put keeps. choice_ready P p rule old.store new old.chooser told old.course words left cell value word alive d ready going put keeps;
    }

-- ---- a retraction

-- the last choice of a store's literals, by its place
abbrev pub choice_at : StoreView → LastChoice → Choice
choice_at store last = record { before = take last.at store.standing; cell = last.cell; value = last.value }

-- a choice is taken back, where a retraction is left
pub record Retracts (P : Network) (store : StoreView) (course : Course) (last : LastChoice) : Type 0 where
  pub dead : is_dead P (greatest P store.standing) ≡ true
  pub found : choice_in store.standing (Some last) ≡ last_choice store.standing
  pub within : last.at < length store.standing
  pub left : course.retractions ≢ course.budget

-- what is ruled out is a literal of the problem
pub retraction_in_problem : (P : Network) → IsProblem P → (old : StoreView) (course : Course) (last : LastChoice) → Retracts P old course last → IsBetween P course.budget old.standing course.retractions
    → (last.cell < P.cells) × (last.value < values P)
retraction_in_problem P p old course last r between =
    let l = last_is old.standing (choice_at old last) (sym r.found) in
    cuts_in P p (take last.at old.standing) last.cell last.value (between.grown (take last.at old.standing) l.after (Is last.value last.cell) l.whole)

-- the turn that it is
pub retraction_made : (P : Network) (rule : Rule) (old new : StoreView) (course next : Course) (words : Stream) (last : LastChoice) → Retracts P old course last
    → new.standing ≡ take last.at old.standing ++ Not last.value last.cell ∷ [] → next.retractions ≡ course.retractions + 1 → IsTurnFrom P rule old course words (Retracted last.cell last.value) new next words
retraction_made P rule old new course next words last r standing more draws =
    made_retraction P rule course.budget (state_at old course draws words) (choice_at old last) r.dead (sym r.found) r.left
    ∙ ap (λ (ls : List Literal). (Retracted last.cell last.value, record { standing = ls; retractions = course.retractions + 1; draws = draws; words = words })) (sym standing)
    ∙ ap (λ (n : ℕ). (Retracted last.cell last.value, record { standing = new.standing; retractions = n; draws = draws; words = words })) (sym more)

-- what holds after it
pub retraction_ready : (P : Network) → IsProblem P → (rule : Rule) (old mid new : StoreView) (chooser told : Told) (course next : Course) (words : Stream) (last : LastChoice) → Retracts P old course last
    → HoldsBetween P old chooser course → course.outcome ≡ None → IsCutBack old mid last.at → IsPutOn mid new (Not last.value last.cell) → Keeps new told
    → next ≡ record course { retractions = course.retractions + 1 } → HoldsBetween P new told next
retraction_ready P p rule old mid new chooser told course next words last r ready going cut put keeps is =
    let standing : new.standing ≡ take last.at old.standing ++ Not last.value last.cell ∷ [] = put.standing ∙ ap (λ (ls : List Literal). ls ++ Not last.value last.cell ∷ []) cut.standing in
    let more : Course = record course { retractions = course.retractions + 1 } in
    let s : State = state_at old course 0 words in
    let between : IsBetween P course.budget new.standing (course.retractions + 1) =
    turn_between P p rule course.budget s (state_at new more 0 words) (Retracted last.cell last.value) ready.between (retraction_made P rule old new course more words last r standing refl 0) (λ o e. cc) in
    subst (λ (n : Course). HoldsBetween P new told n) (sym is) (record {
      problem = put.problem ∙ cut.problem ∙ ready.problem;
      keeps = keeps;
      between = between;
      room = omega (arith, ready.room, put.spare, cut.spare, ap (λ (ls : List Literal). length ls) standing, length-append (take last.at old.standing) (Not last.value last.cell ∷ []), length-take-le last.at old.standing (omega (arith, r.within)));
      outcome = no_outcome _ course.outcome going;
    })

-- ---- ends

-- at an end nothing changes
end_same : (P : Network) (rule : Rule) (budget : ℕ) (s u : State) (outcome : Outcome) → turn_of P rule budget s ≡ (Ended outcome, u) → u ≡ s
end_same P rule budget s u outcome is = ap (λ (x : Turn × State). x.1) (sym is ∙ ended_same P rule budget s u outcome is)

-- what an end says is true
pub end_true : (P : Network) → IsProblem P → (rule : Rule) (old new : StoreView) (course next : Course) (words left : Stream) (outcome : Outcome) → IsBetween P course.budget old.standing course.retractions
    → IsTurnFrom P rule old course words (Ended outcome) new next left → IsTrueEnd P course.budget old.standing outcome
end_true P p rule old new course next words left Map between turn = map_legal P p rule course.budget (state_at old course 0 words) (state_at new next 0 left) (turn 0)
end_true P p rule old new course next words left NoMap between turn = no_map_none P p rule course.budget (state_at old course 0 words) (state_at new next 0 left) between (turn 0)
end_true P p rule old new course next words left Spent between turn = (spent_volume P p rule course.budget (state_at old course 0 words) (state_at new next 0 left) between (turn 0)).1

-- what the outcome after a turn says is true
turn_true : (P : Network) → IsProblem P → (rule : Rule) (old new : StoreView) (course next : Course) (words left : Stream) (turn : Turn) → IsBetween P course.budget old.standing course.retractions
    → IsTurnFrom P rule old course words turn new next left → ForSome (outcome_after turn) (IsTrueEnd P course.budget new.standing)
turn_true P p rule old new course next words left (Chose cell value) between turn o is = cc
turn_true P p rule old new course next words left (Retracted cell value) between turn o is = cc
turn_true P p rule old new course next words left (Ended outcome) between turn o is =
    let standing : new.standing ≡ old.standing = ap (λ (s : State). s.standing) (end_same P rule course.budget (state_at old course 0 words) (state_at new next 0 left) outcome (turn 0)) in
    let same : outcome ≡ o = cc in
    subst (λ (x : Outcome). IsTrueEnd P course.budget new.standing x) same
    (subst (λ (ls : List Literal). IsTrueEnd P course.budget ls outcome) (sym standing) (end_true P p rule old new course next words left outcome between turn))

-- so after a turn all holds with the outcome that there is then
pub turn_ready : (P : Network) → IsProblem P → (rule : Rule) (old new : StoreView) (chooser : Told) (course next : Course) (words left : Stream) (turn : Turn) → IsBetween P course.budget old.standing course.retractions
    → IsTurnFrom P rule old course words turn new next left → HoldsBetween P new chooser next → next.budget ≡ course.budget → HoldsBetween P new chooser (record next { outcome = outcome_after turn })
turn_ready P p rule old new chooser course next words left turn between is ready budget = record {
  problem = ready.problem;
  keeps = ready.keeps;
  between = ready.between;
  room = ready.room;
  outcome = subst (λ (b : ℕ). ForSome (outcome_after turn) (IsTrueEnd P b new.standing)) (sym budget) (turn_true P p rule old new course next words left turn between is);
}

-- ---- a turn that is told

-- the lines of a turn that were cut off
pub turn_cut_off : (P : Network) (rule : Rule) (old new : StoreView) (chooser : Told) (course next : Course) (words left : Stream) (turn : Turn) (first mid last : JournalView)
    → IsTurnFrom P rule old course words turn new next left → HoldsBetween P new chooser next
    → mid ≡ after_lines first (opening_lines old) → IsCutOff mid last (turn_lines turn new)
    → IsCutOffFrom P rule old course words new first last
turn_cut_off P rule old new chooser course next words left turn first mid last is ready told cut draws =
    inr (
      record { problem = ready.problem; standing = ap (λ (x : Turn × State). x.1.standing) (sym (is draws)); sound = ready.keeps.sound },
      subst (λ (t : Turn). IsCutOff first last (opening_lines old ++ turn_lines t new)) (ap (λ (x : Turn × State). x.0) (sym (is draws)))
          (cut_off_behind first mid last (opening_lines old) (turn_lines turn new) told cut),
    )

-- words that say nothing
pub no_words : Stream
no_words = record { u32_after = λ cs. 0; u64_after = λ cs. 0; bytes_after = λ cs n. [] }
