-- What the reading of a file comes to over told files.
use Rattle.std.proofs.Common.{Bool, Err, List, None, Ok, Option, Result, Some, ap, arith, false, if◌then◌else◌, length, nat_lt, refl, subst, true, ℕ, ◌≡◌}
use Rattle.std.proofs.lemmas.Bool.Decides.{nat_tests}
use Rattle.wfc_outside.specs.Folder.{File, file_of}
use Rattle.wfc_outside.specs.declared.whole.ReadFault.TheVariants as reading
use Rattle.wfc_plan.specs.Files.{IsFile, file_plan}
use Rattle.wfc_plan.specs.Plan.{after_reading, most_bytes, outcome, reading_of}
use Rattle.wfc_plan.specs.declared.fault.Fault.{Fault}
use Rattle.wfc_plan.specs.declared.fault.Source.{Source}

-- files
pub file_given : (source : Source) (name : List ℕ) (files : List File) (bytes : List ℕ) → outcome (file_plan source name) files ≡ Ok bytes → IsFile files name bytes
file_given source name files bytes is = by_file (file_of files name) refl is
  where
    by_length : (kept : List ℕ) → file_of files name ≡ Some kept → (long : Bool) → nat_lt 16777216 (length kept) ≡ long
        → after_reading source (λ bytes. let end : Result (List ℕ) Fault = Ok bytes in end) (if long then Err reading.TooLong else Ok kept) ≡ Ok bytes → IsFile files name bytes
    by_length kept there true test is = absurd (cc)
    by_length kept there false test is = let same : kept ≡ bytes = cc in subst (IsFile files name) same (record { there = there; short = grind (arith, nat_tests, test) })

    by_file : (file : Option (List ℕ)) → file_of files name ≡ file → after_reading source (λ bytes. let end : Result (List ℕ) Fault = Ok bytes in end) (reading_of most_bytes file) ≡ Ok bytes → IsFile files name bytes
    by_file None was is = absurd (cc)
    by_file (Some kept) was is = by_length kept was (nat_lt 16777216 (length kept)) refl is

pub given_file : (source : Source) (name : List ℕ) (files : List File) (bytes : List ℕ) → IsFile files name bytes → outcome (file_plan source name) files ≡ Ok bytes
given_file source name files bytes file =
    let short : nat_lt 16777216 (length bytes) ≡ false = grind (arith, nat_tests, file.short) in
    let reading : reading_of most_bytes (file_of files name) ≡ Ok bytes = rw (file.there, short) refl in
    ap (after_reading source (λ bytes. let end : Result (List ℕ) Fault = Ok bytes in end)) reading

-- a file has one content
pub one_file : (files : List File) (name bytes other : List ℕ) → IsFile files name bytes → IsFile files name other → other ≡ bytes
one_file files name bytes other is also = cc (is.there, also.there)
