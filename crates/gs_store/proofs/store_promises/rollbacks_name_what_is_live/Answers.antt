use Rattle.gs_store.proofs.Named.{live_is, named_is, sealed_is}
use Rattle.gs_store.proofs.store_promises.rollbacks_name_what_is_live.Goals as goal

pub returns-clause-live : goal.returns-clause-live
returns-clause-live c epoch handle s s2 next is = live_is epoch handle s s2 next is

pub returns-clause-named : goal.returns-clause-named
returns-clause-named c epoch handle s s2 next is whole low = named_is epoch handle s s2 next is whole low

pub returns-clause-sealed : goal.returns-clause-sealed
returns-clause-sealed c epoch handle s s2 edits next is stood live = sealed_is epoch handle s s2 edits next is stood live
