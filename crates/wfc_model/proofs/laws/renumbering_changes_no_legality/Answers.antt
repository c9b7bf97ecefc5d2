use Rattle.wfc_model.proofs.RenumberedLemmas.{legal_there, legal_back, legal_found}
use Rattle.wfc_model.proofs.laws.renumbering_changes_no_legality.Goals as goal

pub returns-clause-exactly : goal.returns-clause-exactly
returns-clause-exactly c f sample pins renumbering m rules w h sized known =
    (legal_there f sample rules pins renumbering w h m known, legal_back f sample rules pins renumbering w h m known sized)

pub returns-clause-each : goal.returns-clause-each
returns-clause-each c f sample pins renumbering m rules w h some legal = legal_found f sample rules pins renumbering w h m some legal
