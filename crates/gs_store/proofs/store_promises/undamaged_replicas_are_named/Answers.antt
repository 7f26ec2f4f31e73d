use Rattle.gs_store.proofs.Named.{names_slot, named_there, live_sound, whole_sound}
use Rattle.gs_store.proofs.store_promises.undamaged_replicas_are_named.Goals as goal

pub returns-clause-names : goal.returns-clause-names
returns-clause-names c epoch handle s = names_slot handle epoch s

pub returns-clause-named : goal.returns-clause-named
returns-clause-named c epoch handle s is = named_there handle epoch s is

pub returns-clause-sound : goal.returns-clause-sound
returns-clause-sound c block chunk s edits stands undamaged = live_sound block chunk s.live edits stands undamaged

pub returns-clause-whole : goal.returns-clause-whole
returns-clause-whole c s some whole undamaged = whole_sound s.live some whole.live undamaged
