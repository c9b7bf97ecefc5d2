use Rattle.std.proofs.Common.{[], ◌∷◌, ◌++◌, length, codes, get_or, inl, inr, refl, ap, arith}
use Rattle.std.specs.Char.{is_ascii_digit}
use Rattle.std.specs.List.{concat}
use Rattle.std.proofs.lemmas.List.Elements.{All-cons, All-nil}
use Rattle.wfc_ppm.specs.Spelling.{IsField, IsSeparator}
use Rattle.wfc_ppm.specs.declared.reading.PpmForm.TheVariants.{Raw}
use Rattle.wfc_ppm.proofs.FrontLemmas.{blank_apart, digit_field, magic_goes, open_front, some_separator}
use Rattle.wfc_ppm.proofs.laws.heads_by_example.Goals as goal

pub returns-clause-blank : goal.returns-clause-blank
returns-clause-blank c = (9, inr (inl refl), refl)

pub returns-clause-comment : goal.returns-clause-comment
returns-clause-comment c ends = omega (arith, ap length ends.2)

pub returns-clause-two : goal.returns-clause-two
returns-clause-two c ends = omega (arith, ap length ends.2)

pub returns-clause-separator : goal.returns-clause-separator
returns-clause-separator c = record {
  gaps = (32 ∷ []) ∷ (35 ∷ 99 ∷ 10 ∷ []) ∷ [];
  some = omega arith;
  each = (
    inl (32, inl refl, refl),
    (
      inr (record {
        front = 35 ∷ 99 ∷ [];
        «end» = 10;
        is = refl;
        comment = record { body = 99 ∷ []; is = refl; no_end = ((λ e. omega (arith, e), λ e. omega (arith, e)), tt) };
        ends = inl refl;
      }),
      tt,
    ),
  );
  is = refl;
}

pub returns-clause-none : goal.returns-clause-none
returns-clause-none c ends = omega (arith, some_separator [] ends)

pub returns-clause-magic : goal.returns-clause-magic
returns-clause-magic c = open_front Raw (codes "P6") (magic_goes Raw)

pub returns-clause-other_magic : goal.returns-clause-other_magic
returns-clause-other_magic c starts = omega (arith, ap (λ t. get_or t 1 0) starts.1.is)

pub returns-clause-taken : goal.returns-clause-taken
returns-clause-taken c = record {
  wide = codes " 3";
  high = codes " 2";
  most = codes " 0";
  behind = codes "#\n";
  width = 3;
  height = 2;
  maxval = 0;
  is = refl;
  wide_is = digit_field 51 refl;
  some_width = omega arith;
  high_is = digit_field 50 refl;
  some_height = omega arith;
  most_is = digit_field 48 refl;
  behind_is = record {
    gaps = (35 ∷ 10 ∷ []) ∷ [];
    some = omega arith;
    each = (inr (record { front = 35 ∷ []; «end» = 10; is = refl; comment = record { body = []; is = refl; no_end = tt }; ends = inl refl }), tt);
    is = refl;
  };
}
