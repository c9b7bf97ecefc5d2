-- The request of the words.
use Rattle.std.specs.Prelude.{Bool, false, List, [], ◌∷◌, map, codes, Result, Ok, Err, unwrap_or}
use Rattle.std.specs.Option.{option_map_or}
use Rattle.std.specs.String.{string_bytes}
use Rattle.std.specs.Str.{bytes_eq}
use Rattle.std.specs.declared.alloc.Global.{Global}
use Rattle.std.specs.declared.string.String.{String}
use Rattle.clap.specs.Faults.{fault_of}
use Rattle.clap.specs.Simple.{matches_of}
use Rattle.clap.specs.Kinds.{Kinds}
use Rattle.clap.specs.Walk.{Row, Text}
use Rattle.clap.specs.declared.error.kind.ErrorKind.{ErrorKind}
use Rattle.clap.specs.declared.error.kind.ErrorKind.TheVariants.{OutOfMemory}
use Rattle.wfc_words.specs.Commands.{app_of_command, command_named, command_row, word_text}
use Rattle.wfc_words.specs.RequestView.{RequestView}
use Rattle.wfc_words.specs.ValueWords.{word_of}
use Rattle.wfc_words.specs.Values.{values_of, with_value}
use Rattle.wfc_words.specs.declared.fault.CommandFault.{CommandFault}
use Rattle.wfc_words.specs.declared.fault.CommandFault.TheVariants.{NoMemory, Refused}
use Rattle.wfc_words.specs.declared.fault.ValueName.TheVariants as names
use Rattle.wfc_words.specs.declared.kinds.CommandKind.{CommandKind}
use Rattle.wfc_words.specs.declared.values.Values.{Values}

-- the bytes of each word
abbrev pub texts : List (String Global) → List Text
texts words = map (λ (word : String Global). string_bytes word) words

-- what was found, where nothing is refused
abbrev pub unless_refused : Kinds → List Row → Result (List Row) CommandFault
unless_refused [] rows = Ok rows
unless_refused (kind ∷ kinds) rows = Err Refused

-- what `clap` finds among the words behind the command's name, where it takes them
abbrev pub matches_by : CommandKind → List Text → Result (List Row) CommandFault
matches_by kind words =
    unless_refused (fault_of (app_of_command (command_row kind)) words)
    (matches_of (app_of_command (command_row kind)) words)

-- what an error of `clap` is to a caller
abbrev pub fault_by : ErrorKind → CommandFault
fault_by OutOfMemory = NoMemory
fault_by _ = Refused

-- whether a flag is given
abbrev pub is_flag_given : CommandKind → Text → List Row → Bool
is_flag_given kind name rows = option_map_or (λ text. bytes_eq text (codes "true")) (word_text kind name rows) false

-- the request with these values and the texts that were found
abbrev pub request_with : CommandKind → List Row → Values → RequestView
request_with kind rows values = record {
  command = kind;
  file = unwrap_or (word_text kind (codes "FILE") rows) [];
  source = values.map.source;
  width = values.map.width;
  height = values.map.height;
  symmetry = values.map.symmetry;
  wrap_in = is_flag_given kind (codes "wrap-in") rows;
  wrap_out = is_flag_given kind (codes "wrap-out") rows;
  pins = word_text kind (codes "pins") rows;
  steps = word_text kind (codes "steps") rows;
  refutation = word_text kind (codes "REFUTATION") rows;
  seed = values.run.seed;
  budget = values.run.budget;
  rule = values.run.rule;
  form = values.writing.form;
  number = values.writing.number;
  format = values.writing.format;
  mask = word_text kind (word_of names.Mask) rows;
  seeds = values.race.seeds;
  quantum = values.race.quantum;
  block = values.space.block;
  depth = values.space.depth;
}

-- the request of what was found, or the first value that isn't in its range
abbrev pub request_found : CommandKind → List Row → Result RequestView CommandFault
request_found kind rows = with_value (values_of kind rows) (λ values. Ok (request_with kind rows values))

-- the request of the words behind the command's name
abbrev pub request_by : CommandKind → List Text → Result RequestView CommandFault
request_by kind words = with_value (matches_by kind words) (λ rows. request_found kind rows)

-- the request of the words, or why there is none
abbrev pub request_of : List Text → Result RequestView CommandFault
request_of [] = Err Refused
request_of (name ∷ words) = option_map_or (λ kind. request_by kind words) (command_named name) (Err Refused)
