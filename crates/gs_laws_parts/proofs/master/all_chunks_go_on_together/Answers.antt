use Rattle.gs_laws_parts.proofs.lemmas.master.Families.{families_cut, families_go, family_lists, starts_unborn, written_families_go}
use Rattle.gs_laws_parts.proofs.master.all_chunks_go_on_together.Goals as goal

pub returns : goal.returns
returns c = record { chains = families_go; lists = family_lists; written = written_families_go; cut = families_cut; start = starts_unborn }
