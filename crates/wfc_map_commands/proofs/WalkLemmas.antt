-- Steps that are made, and the blocks that are put.
use Rattle.std.proofs.Common.{List, None, Result, Some, [], ap, append-nil, append_assoc, arith, drop, false, get_or, if◌then◌else◌, inl, inr, length, length-append, length-take, map, refl, subst, sym, take, true, ℕ, ◌++◌, ◌+◌, ◌-◌, ◌<◌, ◌∙◌, ◌∷◌, ◌≡◌, ◌≤◌}
use Rattle.std.proofs.Math.Seq.{take-append-add}
use Rattle.std.proofs.lemmas.Bool.{cases_lt, false_from_ne_true, false≢true}
use Rattle.std.proofs.lemmas.List.{drop_all, drop_more, get_or_default, take_more}
use Rattle.wfc_domains.specs.Store.{IsAssumed, IsOpened, IsSound, StoreView, left_of, without_last}
use Rattle.wfc_log.specs.declared.Verdict.{Verdict}
use Rattle.wfc_log.specs.declared.Verdict.TheVariants.{Alive, Dead}
use Rattle.wfc_map_commands.specs.DomainsAnswer.{after_step, domains_answer, literals_after_steps, root_verdict, shown_domains, steps_text}
use Rattle.wfc_map_commands.specs.Walk.{IsWalk, WalksTo, left_text, literals_after_all}
use Rattle.wfc_outside.proofs.CallerLemmas.{fault_out, puts_none, puts_on}
use Rattle.wfc_outside.specs.Sink.{IsFaultAfterFront, Puts, SinkView, after_bytes}
use Rattle.wfc_outside.specs.declared.SinkFault.{SinkFault}
use Rattle.wfc_pins.specs.declared.steps.Step.TheVariants.{Assume, Undo}
use Rattle.wfc_pins.specs.declared.steps.StepLine.{StepLine}
use Rattle.wfc_problem.proofs.CallerLemmas.{dead_iff, greatest_base, greatest_is, greatest_lower}
use Rattle.wfc_problem.specs.Domains.{Test}
use Rattle.wfc_problem.specs.Network.{IsProblem, Network, values}
use Rattle.wfc_problem.specs.Rounds.{greatest}
use Rattle.wfc_problem.specs.Sizes.{is_dead}
use Rattle.wfc_problem.specs.declared.Literal.{Literal}
use Rattle.wfc_render.specs.Block.{block_text, blocks_from}
use Rattle.wfc_reply.specs.Reply.{Answered}
use Rattle.wfc_reply.specs.declared.reply.CommandVerdict as verdict_type
use Rattle.wfc_reply.specs.declared.reply.CommandVerdict.TheVariants as verdict
use Rattle.wfc_search.proofs.CallerLemmas.{alive_alive, alive_left, dead_dead}

-- ---- dead and alive

-- more literals bring nothing back
dead_longer : (P : Network) → IsProblem P → (literals more : List Literal) → is_dead P (greatest P literals) ≡ true → is_dead P (greatest P (literals ++ more)) ≡ true
dead_longer P p literals more dead =
    let empty = (dead_iff P p (greatest P literals) (greatest_base P p literals)).0 dead in
    (dead_iff P p (greatest P (literals ++ more)) (greatest_base P p (literals ++ more))).1 (
      empty.0,
      empty.1,
      λ v. false_from_ne_true (greatest P (literals ++ more) empty.0 v) (λ stands.
          false≢true (sym (empty.2 v) ∙ (greatest_is P p literals empty.0 v).1 (greatest_lower P literals more empty.0 v ((greatest_is P p (literals ++ more) empty.0 v).0 stands)))),
    )

-- where a store is not alive some cell is empty
not_alive : (v : StoreView) → IsSound v → (v.verdict ≡ Alive → ⊥) → is_dead v.problem (greatest v.problem v.standing) ≡ true
not_alive v sound not = by_verdict v.verdict refl
  where
    by_verdict : (verdict : Verdict) → v.verdict ≡ verdict → is_dead v.problem (greatest v.problem v.standing) ≡ true
    by_verdict Alive is = absurd (not is)
    by_verdict (Dead cell) is = dead_dead v cell sound is

-- of a walk that is not alive, some cell is empty under all that stands
walk_dead : (v : StoreView) (beside : ℕ) (standing : List Literal) → IsWalk v beside standing → (beside ≡ 0 → v.verdict ≡ Alive → ⊥) → is_dead v.problem (greatest v.problem v.standing) ≡ true
walk_dead v beside standing walk not = elim (cases_lt 0 beside) [
  | inl some ↦ walk.dead some
  | inr none ↦ not_alive v walk.sound (not (omega arith))
]

all_dead : (v : StoreView) (beside : ℕ) (standing : List Literal) → IsWalk v beside standing → (beside ≡ 0 → v.verdict ≡ Alive → ⊥) → is_dead v.problem (greatest v.problem standing) ≡ true
all_dead v beside standing walk not =
    subst (λ (ls : List Literal). is_dead v.problem (greatest v.problem ls) ≡ true) (sym walk.stands) (dead_longer v.problem walk.sound.problem v.standing walk.extra (walk_dead v beside standing walk not))

-- of one that is alive the engine has all that stands
no_extra : (xs : List Literal) → length xs ≡ 0 → xs ≡ []
no_extra [] none = refl
no_extra (x ∷ xs) none = absurd (omega arith)

all_stand : (v : StoreView) (beside : ℕ) (standing : List Literal) → IsWalk v beside standing → beside ≡ 0 → standing ≡ v.standing
all_stand v beside standing walk none = walk.stands ∙ ap (λ xs. v.standing ++ xs) (no_extra walk.extra (walk.many ∙ none)) ∙ append-nil v.standing

all_alive : (v : StoreView) (beside : ℕ) (standing : List Literal) → IsWalk v beside standing → beside ≡ 0 → v.verdict ≡ Alive → is_dead v.problem (greatest v.problem standing) ≡ false
all_alive v beside standing walk none alive =
    subst (λ (ls : List Literal). is_dead v.problem (greatest v.problem ls) ≡ false) (sym (all_stand v beside standing walk none)) (alive_alive v walk.sound alive)

-- ---- what is shown

pub shown_dead : (v : StoreView) (beside : ℕ) (standing : List Literal) → IsWalk v beside standing → (beside ≡ 0 → v.verdict ≡ Alive → ⊥) → shown_domains v.problem standing ≡ None
shown_dead v beside standing walk not = ap (λ b. if b then None else Some (greatest v.problem standing)) (all_dead v beside standing walk not)

pub shown_alive : (v : StoreView) (beside : ℕ) (standing : List Literal) (D : Test) → IsWalk v beside standing → beside ≡ 0 → v.verdict ≡ Alive → D ≡ left_of v → shown_domains v.problem standing ≡ Some D
shown_alive v beside standing D walk none alive is =
    ap (λ b. if b then None else Some (greatest v.problem standing)) (all_alive v beside standing walk none alive)
    ∙ ap Some (ap (greatest v.problem) (all_stand v beside standing walk none) ∙ sym (alive_left v walk.sound alive) ∙ sym is)

-- how the command ends
pub root_dead : (v : StoreView) (beside : ℕ) → IsWalk v beside [] → (beside ≡ 0 → v.verdict ≡ Alive → ⊥) → verdict.Dead ≡ root_verdict v.problem
root_dead v beside walk not = sym (ap (λ b. if b then verdict.Dead else verdict.Done) (all_dead v beside [] walk not))

pub root_alive : (v : StoreView) (beside : ℕ) → IsWalk v beside [] → beside ≡ 0 → v.verdict ≡ Alive → verdict.Done ≡ root_verdict v.problem
root_alive v beside walk none alive = sym (ap (λ b. if b then verdict.Dead else verdict.Done) (all_alive v beside [] walk none alive))

-- ---- steps

-- a literal that the engine took
pub assumed_on : (old new : StoreView) (beside : ℕ) (literal : Literal) → beside ≡ 0 → IsAssumed old new literal → IsSound new → WalksTo old beside new beside (Assume literal)
assumed_on old new beside literal none assumed sound standing walk = record {
  sound = sound;
  extra = [];
  stands = ap (λ ls. ls ++ literal ∷ []) (all_stand old beside standing walk none) ∙ sym assumed.standing ∙ sym (append-nil new.standing);
  many = sym none;
  dead = λ some. absurd (omega (arith, some, none));
}

-- one that is counted
pub assumed_beside : (v : StoreView) (beside : ℕ) (literal : Literal) → (beside ≡ 0 → v.verdict ≡ Alive → ⊥) → WalksTo v beside v (beside + 1) (Assume literal)
assumed_beside v beside literal not standing walk = record {
  sound = walk.sound;
  extra = walk.extra ++ literal ∷ [];
  stands = ap (λ ls. ls ++ literal ∷ []) walk.stands ∙ append_assoc v.standing walk.extra (literal ∷ []);
  many = omega (arith, length-append walk.extra (literal ∷ []), walk.many);
  dead = λ some. walk_dead v beside standing walk not;
}

-- one that was counted is counted back
pub undone_beside : (v : StoreView) (beside : ℕ) → 0 < beside → WalksTo v beside v (beside - 1) Undo
undone_beside v beside some standing walk =
    let long : length standing ≡ length v.standing + beside = ap length walk.stands ∙ length-append v.standing walk.extra ∙ ap (λ k. length v.standing + k) walk.many in
    let keep : length standing - 1 ≡ length v.standing + (beside - 1) = omega (arith, long, some) in
    record {
      sound = walk.sound;
      extra = take (beside - 1) walk.extra;
      stands = ap (λ k. take k standing) keep ∙ ap (take (length v.standing + (beside - 1))) walk.stands ∙ take-append-add v.standing walk.extra (beside - 1);
      many = omega (arith, length-take (beside - 1) walk.extra, walk.many);
      dead = λ more. walk.dead some;
    }

-- one that the engine gave back
pub undone_on : (old new : StoreView) (beside : ℕ) → beside ≡ 0 → new ≡ without_last old → IsSound new → WalksTo old beside new beside Undo
undone_on old new beside none last sound standing walk =
    let same : standing ≡ old.standing = all_stand old beside standing walk none in
    record {
      sound = sound;
      extra = [];
      stands = ap (λ (ls : List Literal). take (length ls - 1) ls) same ∙ sym (ap (λ (v : StoreView). v.standing) last) ∙ sym (append-nil new.standing);
      many = sym none;
      dead = λ some. absurd (omega (arith, some, none));
    }

-- and where none stands nothing is done
pub undone_none : (v : StoreView) (beside : ℕ) → beside ≡ 0 → length v.standing ≡ 0 → WalksTo v beside v beside Undo
undone_none v beside none empty standing walk =
    let same : standing ≡ [] = all_stand v beside standing walk none ∙ no_extra v.standing empty in
    subst (IsWalk v beside) (same ∙ sym (ap (λ (ls : List Literal). take (length ls - 1) ls) same)) walk

-- ---- blocks

literals_after_all-append : (standing : List Literal) (lines : List StepLine) (line : StepLine) → literals_after_all standing (lines ++ line ∷ []) ≡ after_step (literals_after_all standing lines) line.step
literals_after_all-append standing [] line = refl
literals_after_all-append standing (first ∷ lines) line = literals_after_all-append (after_step standing first.step) lines line

-- the literals that stand after one step more
pub literals_after_all_next : (lines : List StepLine) (i : ℕ) (line : StepLine) → i < length lines → get_or lines i line ≡ line → literals_after_all [] (take (i + 1) lines) ≡ after_step (literals_after_all [] (take i lines)) line.step
literals_after_all_next lines i line inside is =
    ap (literals_after_all []) (take_more lines i line inside ∙ ap (λ l. take i lines ++ l ∷ []) is) ∙ literals_after_all-append [] (take i lines) line

-- the next block, and those behind it
left_more : (P : Network) (values cells : ℕ) (lines : List StepLine) (i : ℕ) (line : StepLine) → i < length lines → get_or lines i line ≡ line
    → left_text P values cells lines i ≡ block_text (i + 1) (shown_domains P (literals_after_all [] (take (i + 1) lines))) values cells ++ left_text P values cells lines (i + 1)
left_more P values cells lines i line inside is =
    ap (λ ls. blocks_from (i + 1) (map (shown_domains P) (literals_after_steps (literals_after_all [] (take i lines)) ls)) values cells) (drop_more lines i line inside ∙ ap (λ l. l ∷ drop (i + 1) lines) is)
    ∙ ap (λ (ls : List Literal). block_text (i + 1) (shown_domains P ls) values cells ++ blocks_from (i + 1 + 1) (map (shown_domains P) (literals_after_steps ls (drop (i + 1) lines))) values cells) (sym (literals_after_all_next lines i line inside is))

-- a block was put, and what is left of the blocks makes those that were left before
pub blocks_on : (P : Network) (values cells : ℕ) (lines : List StepLine) (i : ℕ) (line : StepLine) → i < length lines → get_or lines i line ≡ line
    → (old mid new : SinkView) (result : Result (Unit {0}) SinkFault) → mid ≡ after_bytes old (block_text (i + 1) (shown_domains P (literals_after_all [] (take (i + 1) lines))) values cells)
    → Puts mid new (left_text P values cells lines (i + 1)) result → Puts old new (left_text P values cells lines i) result
blocks_on P values cells lines i line inside is old mid new result put rest =
    subst (λ text. Puts old new text result) (sym (left_more P values cells lines i line inside is))
    (puts_on old mid new (block_text (i + 1) (shown_domains P (literals_after_all [] (take (i + 1) lines))) values cells) (left_text P values cells lines (i + 1)) result put rest)

-- the fault of a block is one of those that were left
pub blocks_out : (P : Network) (values cells : ℕ) (lines : List StepLine) (i : ℕ) (line : StepLine) → i < length lines → get_or lines i line ≡ line
    → (old new : SinkView) → IsFaultAfterFront old new (block_text (i + 1) (shown_domains P (literals_after_all [] (take (i + 1) lines))) values cells) → IsFaultAfterFront old new (left_text P values cells lines i)
blocks_out P values cells lines i line inside is old new fault =
    subst (λ text. IsFaultAfterFront old new text) (sym (left_more P values cells lines i line inside is))
    (fault_out old new (block_text (i + 1) (shown_domains P (literals_after_all [] (take (i + 1) lines))) values cells) (left_text P values cells lines (i + 1)) fault)

-- the walk after one step more
pub walk_next : (lines : List StepLine) (i : ℕ) (d : StepLine) (old new : StoreView) (before behind : ℕ) → i < length lines → WalksTo old before new behind (get_or lines i d).step
    → IsWalk old before (literals_after_all [] (take i lines)) → IsWalk new behind (literals_after_all [] (take (i + 1) lines))
walk_next lines i d old new before behind inside walks walk =
    subst (IsWalk new behind) (sym (literals_after_all_next lines i (get_or lines i d) inside (get_or_default lines i (get_or lines i d) d inside))) (walks (literals_after_all [] (take i lines)) walk)

-- the first block was put, and those that are left make all of them
pub blocks_start : (P Q : Network) (count cells : ℕ) (lines : List StepLine) → Q ≡ P → count ≡ values P → cells ≡ P.cells
    → (old mid new : SinkView) (result : Result (Unit {0}) SinkFault) → mid ≡ after_bytes old (block_text 0 (shown_domains Q []) count cells) → Puts mid new (left_text Q count cells lines 0) result → Puts old new (steps_text P lines) result
blocks_start P Q count cells lines same counted as_many old mid new result put rest =
    subst (λ text. Puts old new text result) (λ i. block_text 0 (shown_domains (same i) []) (counted i) (as_many i) ++ left_text (same i) (counted i) (as_many i) lines 0)
    (puts_on old mid new (block_text 0 (shown_domains Q []) count cells) (left_text Q count cells lines 0) result put rest)

-- the fault of the first block
pub start_out : (P Q : Network) (count cells : ℕ) (lines : List StepLine) → Q ≡ P → count ≡ values P → cells ≡ P.cells
    → (old new : SinkView) → IsFaultAfterFront old new (block_text 0 (shown_domains Q []) count cells) → IsFaultAfterFront old new (steps_text P lines)
start_out P Q count cells lines same counted as_many old new fault =
    subst (λ text. IsFaultAfterFront old new text) (λ i. block_text 0 (shown_domains P []) (counted i) (as_many i) ++ left_text P (counted i) (as_many i) lines 0)
    (fault_out old new (block_text 0 (shown_domains P []) count cells) (left_text P count cells lines 0) (subst (λ R. IsFaultAfterFront old new (block_text 0 (shown_domains R []) count cells)) same fault))

-- a step where there is none
no_step : StepLine
no_step = record { line = 0; step = Undo }

-- the block of a step, as the code puts it
pub next_on : (P Q : Network) (count cells : ℕ) (lines : List StepLine) (i k : ℕ) → i < length lines → Q ≡ P → k ≡ i
    → (old mid new : SinkView) (result : Result (Unit {0}) SinkFault) → mid ≡ after_bytes old (block_text (k + 1) (shown_domains Q (literals_after_all [] (take (i + 1) lines))) count cells)
    → Puts mid new (left_text P count cells lines (i + 1)) result → Puts old new (left_text P count cells lines i) result
next_on P Q count cells lines i k inside same number old mid new result put rest =
    blocks_on P count cells lines i (get_or lines i no_step) inside (get_or_default lines i (get_or lines i no_step) no_step inside) old mid new result
    (put ∙ (λ j. after_bytes old (block_text (number j + 1) (shown_domains (same j) (literals_after_all [] (take (i + 1) lines))) count cells))) rest

-- and its fault
pub next_out : (P Q : Network) (count cells : ℕ) (lines : List StepLine) (i k : ℕ) → i < length lines → Q ≡ P → k ≡ i
    → (old new : SinkView) → IsFaultAfterFront old new (block_text (k + 1) (shown_domains Q (literals_after_all [] (take (i + 1) lines))) count cells) → IsFaultAfterFront old new (left_text P count cells lines i)
next_out P Q count cells lines i k inside same number old new fault =
    let text : block_text (k + 1) (shown_domains Q (literals_after_all [] (take (i + 1) lines))) count cells ≡ block_text (i + 1) (shown_domains P (literals_after_all [] (take (i + 1) lines))) count cells =
    λ j. block_text (number j + 1) (shown_domains (same j) (literals_after_all [] (take (i + 1) lines))) count cells in
    blocks_out P count cells lines i (get_or lines i no_step) inside (get_or_default lines i (get_or lines i no_step) no_step inside) old new (subst (λ t. IsFaultAfterFront old new t) text fault)

-- behind the last step nothing is left
pub blocks_end : (P : Network) (count cells : ℕ) (lines : List StepLine) (i : ℕ) (sink : SinkView) → length lines ≤ i → sink ≡ after_bytes sink (left_text P count cells lines i)
blocks_end P count cells lines i sink past =
    let none : left_text P count cells lines i ≡ [] = ap (λ ls. blocks_from (i + 1) (map (shown_domains P) (literals_after_steps (literals_after_all [] (take i lines)) ls)) count cells) (drop_all i lines past) in
    subst (λ text. sink ≡ after_bytes sink text) (sym none) (puts_none sink)

-- ---- the command

-- a walk that has begun
pub walk_begun : (v : StoreView) (P : Network) (levels beside : ℕ) → IsOpened v P levels → beside ≡ 0 → IsWalk v beside []
walk_begun v P levels beside opened none = record {
  sound = opened.sound;
  extra = [];
  stands = sym (append-nil v.standing ∙ opened.standing);
  many = sym none;
  dead = λ some. absurd (omega (arith, some, none));
}

-- the answer with its verdict
pub steps_answer : (P Q : Network) (lines : List StepLine) (v : verdict_type.CommandVerdict) → Q ≡ P → v ≡ root_verdict Q → domains_answer P lines ≡ record { verdict = v; text = Some (steps_text P lines); whole = true }
steps_answer P Q lines v same is = ap (λ w. let answer : Answered = record { verdict = w; text = Some (steps_text P lines); whole = true } in answer) (sym (is ∙ ap root_verdict same))
