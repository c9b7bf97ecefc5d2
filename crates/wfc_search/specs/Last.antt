-- A choice by its place, as a choice by what stands before it.
use Rattle.std.specs.Prelude.{List, Option, Some, None, take}
use Rattle.wfc_problem.specs.declared.Literal.{Literal}
use Rattle.wfc_search.specs.Run.{Choice}
use Rattle.wfc_search.specs.declared.last.LastChoice.{LastChoice}

-- the choice at a place of the list, if there is one
abbrev pub choice_in : List Literal → Option LastChoice → Option Choice
choice_in literals None = None
choice_in literals (Some last) = Some (record { before = take last.at literals; cell = last.cell; value = last.value })
