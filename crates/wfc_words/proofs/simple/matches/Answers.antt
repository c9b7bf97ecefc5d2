use Rattle.std.proofs.Common.{◌≡◌, ◌∙◌, ap, sym, subst, inl}
use Rattle.clap.specs.Simple.{app_of}
use Rattle.wfc_words.specs.Commands.{app_of_command, command_row}
use Rattle.wfc_words.specs.Request.{texts}
use Rattle.wfc_words.specs.declared.fault.CommandFault.{CommandFault}
use Rattle.wfc_words.proofs.MatchLemmas.{Refuses, is_free, matches-refused, matches-taken}
use Rattle.wfc_words.proofs.simple.matches.Goals as goal

pub returns-in-Ok : goal.returns-in-Ok
returns-in-Ok c =
    let app : app_of c.in_ok-simple.field-0 ≡ app_of_command (command_row c.args.kind) = c.in_ok-simple.ensures.app ∙ ap app_of_command c.row.ensures.value in
    let words = texts c.args.words.now in
    let taken = c.in-Ok.ensures.kinds (is_free c.args.kind words _ app) in
    record { exact = inl (matches-taken c.args.kind words _ app c.in-Ok.found taken c.in-Ok.ensures.matches) }

pub returns-in-Err : goal.returns-in-Err
returns-in-Err c =
    let app : app_of c.in_ok-simple.field-0 ≡ app_of_command (command_row c.args.kind) = c.in_ok-simple.ensures.app ∙ ap app_of_command c.row.ensures.value in
    let words = texts c.args.words.now in
    let refused = matches-refused c.args.kind words _ app c.in-Err.error (c.in-Err.ensures.kinds (is_free c.args.kind words _ app)) in
    let P : CommandFault → Type 0 = λ fault. Refuses c.args.kind words _ app fault in
    record { exact = subst P (sym c.fault.ensures.value) refused }
