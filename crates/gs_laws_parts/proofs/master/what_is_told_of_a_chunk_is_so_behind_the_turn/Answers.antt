use Rattle.gs_laws_parts.proofs.lemmas.master.Located.{kept_are_looked_up, moves_locate, sent_are_looked_up}
use Rattle.gs_laws_parts.proofs.master.what_is_told_of_a_chunk_is_so_behind_the_turn.Goals as goal

pub returns : goal.returns
returns c = record { moves = moves_locate; kept = kept_are_looked_up; sent = sent_are_looked_up }
