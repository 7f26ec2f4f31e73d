-- What each world that the machine reaches gives to the servers, and what of it stays.
use Rattle.std.proofs.Common.{◌≡◌, ℕ, ◌≤◌, List, length, Some, None, true, refl, sym, ap, subst, ◌∙◌, arith}
use Rattle.std.proofs.lemmas.List.{take_all}
use Rattle.gs_replica.specs.Stands.{Edit}
use Rattle.gs_laws_chunk.specs.machine.Machine.{ChunkWorld}
use Rattle.gs_laws_chunk.specs.machine.Events.{Leads}
use Rattle.gs_laws_chunk.specs.machine.Laws.{IsReached, world_of}
use Rattle.gs_laws_chunk.proofs.lemmas.machine.Known.{Later}
use Rattle.gs_laws_chunk.proofs.lemmas.machine.Worlds.{WorldOk, leads_later, leads_then}
use Rattle.gs_laws_chunk.proofs.lemmas.machine.Facts.{reached_world}
use Rattle.gs_laws_chunk.specs.machine.Lists.{ListsAreOld}
use Rattle.gs_laws_parts.specs.master.Families.{IsFixed}

module _ (w : ChunkWorld) (reached : IsReached w) where
  ok : WorldOk w
  ok = reached_world w reached

  -- the epochs that are known are those of the master
  pub current_is : w.known.current ≡ w.entry.epoch
  current_is = sym (ok.entry).epoch

  pub how_is : (e : ℕ) → w.known.how e ≡ w.entry.how e
  how_is e = sym ((ok.entry).how e)

  pub later : (v : ChunkWorld) → Leads w v → Later w.known v.known
  later v leads = leads_later w v leads ok

unfoldable pub reached_then : (w : ChunkWorld) → IsReached w → (v : ChunkWorld) → Leads w v → IsReached v
reached_then w reached v leads = (reached.0, leads_then (world_of reached.0) w v reached.1 leads)

-- ---- a view in which nobody may number any more

-- a member that promises it and has a replica has just that list
pub fixed_whole : (w : ChunkWorld) (t me : ℕ) (edits r : List Edit) → IsReached w → IsFixed w t me edits → (w.members me).promise ≡ t → (w.members me).live ≡ Some r → r ≡ edits
fixed_whole w t me edits r reached f at live =
    let ok = reached_world w reached in
    let within : (w.members me).promise ≤ w.known.view = subst (λ n. n ≤ w.known.view) (sym at) f.within in
    let member : w.known.members (w.members me).promise me ≡ true = subst (λ n. w.known.members n me ≡ true) (sym at) f.member in
    let m = (ok.views me).member within member r live in
    let q : length (w.known.list (w.members me).promise) ≡ w.known.base (w.members me).promise = ok.known.quiet (w.members me).promise within (subst (λ n. w.known.holder n ≡ None) (sym at) f.free) in
    let least = m.0 in
    let most = m.1.within in
    m.1.stands ∙ take_all (length r) (w.known.list (w.members me).promise) (omega arith) ∙ ap w.known.list at ∙ f.list

-- ---- lists of old ones

pub old_itself : (w : ChunkWorld) → ListsAreOld w w
old_itself w stamp many = (stamp, many, refl)
