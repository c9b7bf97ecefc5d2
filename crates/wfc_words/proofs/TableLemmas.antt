-- A test of the words of a row, as the code has them and as the definitions see them.
use Rattle.std.proofs.Common.{◌≡◌, ◌∙◌, ◌||◌, Bool, ap, refl, List, [], ◌∷◌, map}
use Rattle.std.specs.Borrow.{Bor}
use Rattle.std.specs.List.{list_any}
use Rattle.clap.proofs.WalkLemmas.{list_any-map}
use Rattle.wfc_words.specs.Commands.{Word}
use Rattle.wfc_words.specs.Rows.{group_view, some_word, word_view}
use Rattle.wfc_words.specs.declared.groups.Argument.{Argument}

-- some word of some group passes the test
pub list_any_groups : (test : Word → Bool) (groups : List (Bor (List Argument)))
    → list_any (λ group. some_word test group.now) groups
    ≡ list_any (λ group. list_any test group) (map (λ group. group_view group.now) groups)
list_any_groups test [] = refl
list_any_groups test (group ∷ groups) =
    ap (λ b. b || list_any (λ group. some_word test group.now) groups) (list_any-map test word_view group.now)
    ∙ ap (λ b. list_any test (group_view group.now) || b) (list_any_groups test groups)
