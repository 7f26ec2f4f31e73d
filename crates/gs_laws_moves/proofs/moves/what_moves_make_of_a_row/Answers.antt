use Rattle.gs_laws_moves.proofs.lemmas.moves.Rows.{copies_are_listed, copies_are_new, each_row_goes, epochs_leave, listed_stay, new_are_unled, rows_go_over}
use Rattle.gs_laws_moves.proofs.moves.what_moves_make_of_a_row.Goals as goal

pub returns : goal.returns
returns c = record { moves = each_row_goes; chains = rows_go_over; listed = listed_stay; epochs = epochs_leave; unled = new_are_unled; copies = copies_are_listed; fresh = copies_are_new }
