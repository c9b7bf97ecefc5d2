-- What a request is seen as.
use Rattle.std.specs.Prelude.{ℕ, Bool, false, List, [], Option, None}
use Rattle.wfc_choose.specs.declared.RuleKind.{RuleKind}
use Rattle.wfc_choose.specs.declared.RuleKind.TheVariants.{Fewest}
use Rattle.wfc_render.specs.declared.form.Form.{Form}
use Rattle.wfc_words.specs.declared.kinds.CommandKind.{CommandKind}
use Rattle.wfc_words.specs.declared.kinds.SourceModel.{SourceModel}
use Rattle.wfc_words.specs.declared.kinds.SourceModel.TheVariants.{Overlap}

-- what a command is asked for, its texts as the bytes of the words
pub record RequestView : Type 0 where
  pub command : CommandKind
  pub file : List ℕ
  pub source : SourceModel
  pub width : ℕ
  pub height : ℕ
  pub symmetry : ℕ
  pub wrap_in : Bool
  pub wrap_out : Bool
  pub pins : Option (List ℕ)
  pub steps : Option (List ℕ)
  pub refutation : Option (List ℕ)
  pub seed : ℕ
  pub budget : ℕ
  pub rule : RuleKind
  pub form : Option Form
  pub number : ℕ
  pub format : ℕ
  pub mask : Option (List ℕ)
  pub seeds : ℕ
  pub quantum : ℕ
  pub block : ℕ
  pub depth : ℕ

-- a request that says no more than its command: each field holds what stands for a word that isn't there
abbrev pub default_request : CommandKind → RequestView
default_request kind = record {
  command = kind;
  file = [];
  source = Overlap 0;
  width = 0;
  height = 0;
  symmetry = 1;
  wrap_in = false;
  wrap_out = false;
  pins = None;
  steps = None;
  refutation = None;
  seed = 0;
  budget = 1000000;
  rule = Fewest;
  form = None;
  number = 0;
  format = 2;
  mask = None;
  seeds = 0;
  quantum = 1;
  block = 512;
  depth = 0;
}
