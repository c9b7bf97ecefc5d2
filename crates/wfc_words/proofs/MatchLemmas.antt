-- What `clap` answers is what the definition says.
use Rattle.std.proofs.Common.{◌≡◌, ◌∙◌, ◌⊎◌, inl, inr, ap, sym, refl, true, List, [], ◌∷◌, Result, Ok, Err, Some}
use Rattle.clap.specs.Kinds.{HasKind, IsAmong, Kinds}
use Rattle.clap.specs.Faults.{fault_of, is_simple_and_free}
use Rattle.clap.specs.Matches.{found_of}
use Rattle.clap.specs.Simple.{App, HasMatchesOf, is_simple, matches_of}
use Rattle.clap.specs.Walk.{Row, Text, rows_of}
use Rattle.clap.specs.Values.{kind_of}
use Rattle.clap.specs.declared.error.Error.{Error}
use Rattle.clap.specs.declared.error.kind.ErrorKind.{ErrorKind}
use Rattle.clap.specs.declared.error.kind.ErrorKind.TheVariants.{OutOfMemory}
use Rattle.clap.specs.declared.parser.matches.ArgMatches.{ArgMatches}
use Rattle.wfc_words.specs.Commands.{app_of_command, command_named, command_row}
use Rattle.wfc_words.specs.Request.{fault_by, matches_by, unless_refused}
use Rattle.wfc_words.specs.declared.fault.CommandFault.{CommandFault}
use Rattle.wfc_words.specs.declared.fault.CommandFault.TheVariants.{NoMemory, Refused}
use Rattle.wfc_words.specs.declared.kinds.CommandKind.{CommandKind}
use Rattle.wfc_words.specs.declared.kinds.CommandKind.TheVariants.{Learn, Fill, Domains, Refute, Check, Upgrade, Demo, Race, Explain, Grow, BoxFill, BoxRefute, BoxCheck}

-- every command of the table is simple
pub commands_are_simple : (kind : CommandKind) → is_simple (app_of_command (command_row kind)) ≡ true
commands_are_simple Learn = refl
commands_are_simple Fill = refl
commands_are_simple Domains = refl
commands_are_simple Refute = refl
commands_are_simple Check = refl
commands_are_simple Upgrade = refl
commands_are_simple Demo = refl
commands_are_simple Race = refl
commands_are_simple Explain = refl
commands_are_simple Grow = refl
commands_are_simple BoxFill = refl
commands_are_simple BoxRefute = refl
commands_are_simple BoxCheck = refl

-- and no word of it has a rule on another
pub commands_are_free : (kind : CommandKind) → is_simple_and_free (app_of_command (command_row kind)) ≡ true
commands_are_free Learn = refl
commands_are_free Fill = refl
commands_are_free Domains = refl
commands_are_free Refute = refl
commands_are_free Check = refl
commands_are_free Upgrade = refl
commands_are_free Demo = refl
commands_are_free Race = refl
commands_are_free Explain = refl
commands_are_free Grow = refl
commands_are_free BoxFill = refl
commands_are_free BoxRefute = refl
commands_are_free BoxCheck = refl

-- the name of a command names it
pub commands_are_named : (kind : CommandKind) → command_named (command_row kind).name ≡ Some kind
commands_are_named Learn = refl
commands_are_named Fill = refl
commands_are_named Domains = refl
commands_are_named Refute = refl
commands_are_named Check = refl
commands_are_named Upgrade = refl
commands_are_named Demo = refl
commands_are_named Race = refl
commands_are_named Explain = refl
commands_are_named Grow = refl
commands_are_named BoxFill = refl
commands_are_named BoxRefute = refl
commands_are_named BoxCheck = refl

-- a fault in place of what was found
abbrev pub err : {X : Type 0} → CommandFault → Result X CommandFault
err fault = Err fault

module _ (kind : CommandKind) (words : List Text) (app : App) (is : app ≡ app_of_command (command_row kind)) where
  pub is_free : is_simple_and_free app ≡ true
  is_free = ap is_simple_and_free is ∙ commands_are_free kind

  -- where the words are taken, the matches are the defined ones
  pub matches-taken : (found : ArgMatches) → fault_of app words ≡ [] → HasMatchesOf app words found → Ok (rows_of (found_of found)) ≡ matches_by kind words
  matches-taken found none has =
      ap Ok ((has (ap is_simple is ∙ commands_are_simple kind)).0 ∙ ap (λ (a : App). matches_of a words) is)
      ∙ ap (λ kinds. unless_refused kinds (matches_of (app_of_command (command_row kind)) words)) (sym none ∙ ap (λ (a : App). fault_of a words) is)

  refused_by : (k : ErrorKind) (kinds : Kinds) (rows : List Row) → IsAmong k kinds → err Refused ≡ unless_refused kinds rows
  refused_by k [] rows among = absurd among
  refused_by k (first ∷ kinds) rows among = refl

  -- the fault is the defined one, or memory ran out
  abbrev pub Refuses : CommandFault → Type 0
  Refuses fault = (err fault ≡ matches_by kind words) ⊎ (err {X = ArgMatches} fault ≡ err NoMemory)

  by_kind : (k : ErrorKind) → err Refused ≡ matches_by kind words → Refuses (fault_by k)
  by_kind OutOfMemory refused = inr refl
  by_kind _ refused = inl refused

  -- where they are refused, so they are by the definition, or memory ran out
  pub matches-refused : (error : Error) → HasKind (fault_of app words) error
      → Refuses (fault_by (kind_of error))
  matches-refused error (inl memory) = inr (ap (λ k. err (fault_by k)) memory)
  matches-refused error (inr among) =
      by_kind (kind_of error) (refused_by (kind_of error) (fault_of app words) (matches_of (app_of_command (command_row kind)) words) among
      ∙ ap (λ (a : App). unless_refused (fault_of a words) (matches_of (app_of_command (command_row kind)) words)) is)
