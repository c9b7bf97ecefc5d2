-- What the crates above cite.
pub use Rattle.wfc_choose.proofs.PickLemmas.{picked_open, picked_none, picked_least, picked_first, picked_is, picked_is_none, best_picked, none_single}
pub use Rattle.wfc_choose.proofs.DrawLemmas.{sum_some, drawn_one}
pub use Rattle.wfc_choose.proofs.ShareLemmas.{drawn_share}
