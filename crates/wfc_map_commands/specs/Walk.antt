-- Where the steps of `domains` have led.
use Rattle.std.specs.Prelude.{List, Result, [], drop, length, map, take, true, ℕ, ◌++◌, ◌+◌, ◌<◌, ◌∷◌, ◌≡◌}
use Rattle.wfc_domains.specs.Store.{IsSound, StoreView}
use Rattle.wfc_map_commands.specs.DomainsAnswer.{after_step, literals_after_steps, shown_domains}
use Rattle.wfc_outside.specs.Sink.{Puts, SinkView}
use Rattle.wfc_pins.specs.declared.steps.Step.{Step}
use Rattle.wfc_pins.specs.declared.steps.StepLine.{StepLine}
use Rattle.wfc_problem.specs.Network.{Network}
use Rattle.wfc_problem.specs.Rounds.{greatest}
use Rattle.wfc_problem.specs.Sizes.{is_dead}
use Rattle.wfc_problem.specs.declared.Literal.{Literal}
use Rattle.wfc_render.specs.Block.{block_text, blocks_from}

-- an engine has the first of the literals that stand; the others were assumed while some cell had no value
pub record IsWalk (v : StoreView) (beside : ℕ) (standing : List Literal) : Type 0 where
  pub sound : IsSound v
  pub extra : List Literal
  pub stands : standing ≡ v.standing ++ extra
  pub many : length extra ≡ beside
  pub dead : 0 < beside → is_dead v.problem (greatest v.problem v.standing) ≡ true

-- where steps led to this engine, with so many literals beside it, the block of this number was put
abbrev pub PutsWalk : {T E : Type 0} → StoreView → ℕ → ℕ → ℕ → ℕ → SinkView → SinkView → Result T E → Type 0
PutsWalk v beside number count cells old new result =
    (standing : List Literal) → IsWalk v beside standing
    → Puts old new (block_text number (shown_domains v.problem standing) count cells) result

-- a step leads from there to there
abbrev pub WalksTo : StoreView → ℕ → StoreView → ℕ → Step → Type 0
WalksTo old before new behind step =
    (standing : List Literal) → IsWalk old before standing
    → IsWalk new behind (after_step standing step)

-- the literals that stand after steps
abbrev pub literals_after_all : List Literal → List StepLine → List Literal
literals_after_all standing [] = standing
literals_after_all standing (line ∷ lines) = literals_after_all (after_step standing line.step) lines

-- the blocks that are still to be put after so many steps
abbrev pub left_text : Network → ℕ → ℕ → List StepLine → ℕ → List ℕ
left_text P values cells lines i =
    blocks_from (i + 1) (map (shown_domains P) (literals_after_steps (literals_after_all [] (take i lines)) (drop i lines))) values
    cells
