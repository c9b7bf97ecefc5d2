-- What `refute` writes: the lines of its run, which are told as it is made.
use Rattle.std.specs.Prelude.{List, None, Option, Some, false, length, take, true, ℕ, ◌≡◌, ◌≤◌, ◌⊎◌}
use Rattle.wfc_choose.specs.Pick.{Rule}
use Rattle.wfc_problem.specs.Network.{Network}
use Rattle.wfc_proof.specs.declared.Line.{Line}
use Rattle.wfc_reply.specs.Outcomes.{refute_verdict}
use Rattle.wfc_reply.specs.Putting.{IsTextBrokenOff}
use Rattle.wfc_reply.specs.Reply.{Answered}
use Rattle.wfc_proof_commands.specs.ProofKind.{ProofKind}
use Rattle.wfc_reply.specs.RunText.{IsBegunBy, IsToldBy, writing_text}
use Rattle.wfc_reply.specs.declared.putting.RunWriting.{RunWriting}
use Rattle.wfc_runs.specs.Words.{words_of_seed}
use Rattle.wfc_search.specs.Run.{start}
use Rattle.wfc_search.specs.declared.Outcome.{Outcome}
use Rattle.wfc_words.specs.RequestView.{RequestView}

-- how the run of a request is made, and how its lines are written
abbrev pub writing_of : ProofKind → RequestView → RunWriting
writing_of space asked = record { format = asked.format; shape = space.shape_of asked; budget = asked.budget; seed = asked.seed }

-- the text of these lines, behind the head of the problem and the shape asked for
abbrev pub refutation_text : ProofKind → RequestView → Network → List Line → List ℕ
refutation_text space asked P lines = writing_text (writing_of space asked) P lines

-- the whole text of a run
pub record RefutesWhole (space : ProofKind) (rule : Rule) (asked : RequestView) (P : Network) (answered : Answered) : Type 0 where
  pub outcome : Outcome
  pub lines : List Line
  pub told : IsToldBy rule asked.budget P (start (words_of_seed asked.seed)) outcome lines
  pub is : answered ≡ record {
    verdict = refute_verdict asked.budget outcome;
    text = Some (refutation_text space asked P lines);
    whole = true;
  }

-- a front of the text of some of the first lines of a run; a failed sink took no more than it
pub record RefutesFront (space : ProofKind) (rule : Rule) (asked : RequestView) (P : Network) (answered : Answered) : Type 0 where
  pub lines : List Line
  pub begun : IsBegunBy rule asked.budget P (start (words_of_seed asked.seed)) lines
  pub count : ℕ
  pub within : count ≤ length lines
  pub bytes : ℕ
  pub broken : IsTextBrokenOff (writing_of space asked) P (take count lines) bytes
  pub front : answered.whole ≡ false
  pub text : answered.text ≡ Some (take bytes (refutation_text space asked P (take count lines)))

-- an answer of `refute` by this rule, if there is one
abbrev pub RefutesBy : ProofKind → Option Rule → RequestView → Network → Answered → Type 0
RefutesBy space None asked P answered = ⊥
RefutesBy space (Some rule) asked P answered =
    RefutesWhole space rule asked P answered ⊎ RefutesFront space rule asked P answered
