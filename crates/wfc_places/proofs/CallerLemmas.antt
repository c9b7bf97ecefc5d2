-- What callers cite: where steps lead and back, when a number suits a pin, tables of flags, and lists of supports.
pub use Rattle.wfc_places.proofs.StepLemmas.{IsStepped, apart-stepped, apart-there, exact, forth_there, mod_low, mod_once, one_across, one_down, same_column, same_row, stay_there, stayed, step-apart, step_across, step_down, step_from, stepped-is, stepped-stepped, stepped_modulo, there_again}
pub use Rattle.wfc_places.proofs.MarkLemmas.{held-from_suits, suits-from}
pub use Rattle.wfc_places.proofs.FlagLemmas.{IsCutTo, all_flags, flags-table, row_cut, rows_cut}
pub use Rattle.wfc_places.proofs.SupportLemmas.{IsFitting, fits-support, length-supports, supports-at, support-fits, supports_rise}
