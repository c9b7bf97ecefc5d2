-- Small requests, and the words that ask for them, for laws.
use Rattle.clap.specs.Walk.{Text}
use Rattle.std.specs.Prelude.{true, false, List, [], ◌∷◌, codes, None, Some}
use Rattle.wfc_choose.specs.declared.RuleKind.TheVariants as rules
use Rattle.wfc_render.specs.declared.form.Form.TheVariants as forms
use Rattle.wfc_words.specs.RequestView.{RequestView, default_request}
use Rattle.wfc_words.specs.declared.kinds.CommandKind.TheVariants as kinds
use Rattle.wfc_words.specs.declared.kinds.SourceModel.TheVariants as models

-- a request for the patterns of side 6, with the mirror images
abbrev pub learn_request : RequestView
learn_request = record (default_request kinds.Learn) {
  file = codes "a";
  source = models.Overlap 6;
  symmetry = 2;
}

-- a request for a map that keeps to pins and wraps, with its own seed, rule and form
abbrev pub fill_request : RequestView
fill_request = record (default_request kinds.Fill) {
  file = codes "a.txt";
  source = models.Overlap 3;
  width = 40;
  height = 7;
  wrap_out = true;
  pins = Some (codes "p.txt");
  seed = 12;
  rule = rules.Scanline;
  form = Some forms.Cells;
}

-- a request for the domains after the steps of a file
abbrev pub domains_request : RequestView
domains_request = record (default_request kinds.Domains) {
  file = codes "a";
  source = models.Overlap 2;
  width = 3;
  height = 4096;
  steps = Some (codes "s");
}

-- a request for a refutation in format 1 of a tile map, whose choices are ranked and of which none is taken back
abbrev pub refute_request : RequestView
refute_request = record (default_request kinds.Refute) {
  file = codes "a";
  source = models.Tiles;
  width = 3;
  height = 4;
  format = 1;
  budget = 0;
  rule = rules.Ranked;
}

-- a request to check the refutation of a tile map with a mask, of a sample that wraps and in all eight images
abbrev pub check_request : RequestView
check_request = record (default_request kinds.Check) {
  file = codes "a";
  source = models.Tiles;
  width = 5;
  height = 6;
  symmetry = 8;
  wrap_in = true;
  refutation = Some (codes "r.txt");
  mask = Some (codes "m");
}

-- a request to bring the refutation of a map with pins to the newer format
abbrev pub upgrade_request : RequestView
upgrade_request = record (default_request kinds.Upgrade) {
  file = codes "a";
  source = models.Overlap 1;
  width = 5;
  height = 6;
  refutation = Some (codes "r");
  pins = Some (codes "q");
}

-- a request for a race of the last eight seeds, 30 turns at a time
abbrev pub race_request : RequestView
race_request = record (default_request kinds.Race) {
  file = codes "a";
  source = models.Overlap 2;
  width = 9;
  height = 8;
  seed = 18446744073709551608;
  rule = rules.Scanline;
  seeds = 8;
  quantum = 30;
}

-- a request for the pins that are to blame in a tile map with a mask
abbrev pub explain_request : RequestView
explain_request = record (default_request kinds.Explain) {
  file = codes "a";
  source = models.Tiles;
  width = 4;
  height = 5;
  wrap_in = true;
  pins = Some (codes "p");
  seed = 7;
  mask = Some (codes "m");
}

-- a request for a map that is grown in blocks of side 2, of a sample that wraps, with pins
abbrev pub grow_request : RequestView
grow_request = record (default_request kinds.Grow) {
  file = codes "a";
  source = models.Overlap 2;
  width = 90;
  height = 80;
  wrap_in = true;
  pins = Some (codes "p");
  form = Some forms.P3;
  block = 2;
}

-- a request for a box of 256 layers that wraps, as a grid
abbrev pub box_fill_request : RequestView
box_fill_request = record (default_request kinds.BoxFill) {
  file = codes "a";
  width = 7;
  height = 6;
  wrap_out = true;
  rule = rules.Ranked;
  form = Some forms.Grid;
  depth = 256;
}

-- a request for a refutation in format 1 of a box with pins
abbrev pub box_refute_request : RequestView
box_refute_request = record (default_request kinds.BoxRefute) {
  file = codes "a";
  width = 7;
  height = 6;
  pins = Some (codes "p");
  seed = 9;
  budget = 3;
  format = 1;
  depth = 5;
}

-- a request to check the refutation of a box that wraps
abbrev pub box_check_request : RequestView
box_check_request = record (default_request kinds.BoxCheck) {
  file = codes "a";
  width = 7;
  height = 6;
  wrap_out = true;
  refutation = Some (codes "r");
  depth = 5;
}

-- a request to learn whose words say nothing else, each field by its name
abbrev pub bare_learn_request : RequestView
bare_learn_request = record {
  command = kinds.Learn;
  file = [];
  source = models.Overlap 0;
  width = 0;
  height = 0;
  symmetry = 1;
  wrap_in = false;
  wrap_out = false;
  pins = None;
  steps = None;
  refutation = None;
  seed = 0;
  budget = 1000000;
  rule = rules.Fewest;
  form = None;
  number = 0;
  format = 2;
  mask = None;
  seeds = 0;
  quantum = 1;
  block = 512;
  depth = 0;
}

-- the words that ask for a fill with pins, its seed, its rule and its form
abbrev pub fill_words : List Text
fill_words =
    codes "fill" ∷ codes "--pins=p.txt" ∷ codes "a.txt" ∷ codes "3" ∷ codes "--wrap-out" ∷ codes "40"
    ∷ codes "007" ∷ codes "--seed" ∷ codes "12" ∷ codes "--rule=scanline" ∷ codes "--form=cells" ∷ []

-- the words that ask for a refutation in format 1
abbrev pub refute_words : List Text
refute_words =
    codes "refute" ∷ codes "a" ∷ codes "tiles" ∷ codes "3" ∷ codes "4" ∷ codes "--format=1"
    ∷ codes "--budget=0" ∷ codes "--rule" ∷ codes "ranked" ∷ []

-- the words that ask for a check with a mask
abbrev pub check_words : List Text
check_words =
    codes "check" ∷ codes "a" ∷ codes "tiles" ∷ codes "5" ∷ codes "6" ∷ codes "r.txt" ∷ codes "--symmetry"
    ∷ codes "8" ∷ codes "--wrap-in" ∷ codes "--mask" ∷ codes "m" ∷ []

-- the words that ask for a race of eight seeds
abbrev pub race_words : List Text
race_words =
    codes "race" ∷ codes "a" ∷ codes "2" ∷ codes "9" ∷ codes "8" ∷ codes "--quantum=30" ∷ codes "--seeds"
    ∷ codes "8" ∷ codes "--seed=18446744073709551608" ∷ codes "--rule=scanline" ∷ []

-- the words that ask for an explanation of the lines of `p`
abbrev pub explain_words : List Text
explain_words =
    codes "explain" ∷ codes "a" ∷ codes "tiles" ∷ codes "4" ∷ codes "5" ∷ codes "--mask=m" ∷ codes "--pins"
    ∷ codes "p" ∷ codes "--wrap-in" ∷ codes "--seed=7" ∷ []

-- the words that ask for a growth in blocks of two
abbrev pub grow_words : List Text
grow_words =
    codes "grow" ∷ codes "a" ∷ codes "2" ∷ codes "90" ∷ codes "80" ∷ codes "--block=2" ∷ codes "--pins"
    ∷ codes "p" ∷ codes "--wrap-in" ∷ codes "--form=p3" ∷ []

-- the words that ask for a box of 256 layers that wrap
abbrev pub box_fill_words : List Text
box_fill_words =
    codes "box-fill" ∷ codes "a" ∷ codes "7" ∷ codes "6" ∷ codes "256" ∷ codes "--wrap-out"
    ∷ codes "--rule=ranked" ∷ codes "--form" ∷ codes "grid" ∷ []

-- the words that ask for a refutation of a box in format 1
abbrev pub box_refute_words : List Text
box_refute_words =
    codes "box-refute" ∷ codes "a" ∷ codes "--format=1" ∷ codes "7" ∷ codes "6" ∷ codes "5"
    ∷ codes "--pins=p" ∷ codes "--seed=9" ∷ codes "--budget" ∷ codes "3" ∷ []
