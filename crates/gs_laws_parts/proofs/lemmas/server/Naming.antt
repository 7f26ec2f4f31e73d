-- A server that is intact names the chunk where the machine can.
use Rattle.std.proofs.Common.{◌≡◌, ℕ, Bool, true, false, cond, List, [], ◌∷◌, length, Option, Some, None, refl, sym, ap, subst, ◌∙◌, inr}
use Rattle.std.specs.Prelude.{◌&&◌, is_none, is_some, Contains, filter}
use Rattle.std.specs.FinMap as fin
use Rattle.std.specs.Ordering.{nat_cmp, eq_by_cmp}
use Rattle.gs_base.specs.Stamps.{is_same}
use Rattle.gs_base.specs.declared.epoch.EpochEnd.TheVariants.{Rollback}
use Rattle.gs_block.specs.Stored.{count_of, first_damaged}
use Rattle.gs_block.proofs.Back.{eq_true}
use Rattle.gs_replica.specs.Stands.{Edit}
use Rattle.gs_store.specs.Slots.{Live, Slot}
use Rattle.gs_store.specs.Learning.{is_named, is_sound, start_of}
use Rattle.gs_store.specs.Standing.{LiveStandsFor, LiveUndamaged}
use Rattle.gs_store.specs.Stores.{Store, or_nothing, slot_of, named}
use Rattle.gs_store.proofs.Places.{same_key}
use Rattle.gs_server.specs.Servers.{Server, place_of, store_of}
use Rattle.gs_laws_chunk.specs.machine.Machine.{ChunkWorld}
use Rattle.gs_laws_chunk.specs.machine.Events.{Names, Can}
use Rattle.gs_laws_chunk.specs.machine.Stamps as stamps
use Rattle.gs_server.specs.Runs.{slot_in}
use Rattle.gs_laws_chunk.specs.machine.Stamps.{stamp_at}
use Rattle.gs_laws_parts.specs.server.Showing.{Setting, ShowsLive, ShowsMember}
use Rattle.gs_laws_parts.proofs.lemmas.server.Stamps.{start_stamp, is_itself}
use Rattle.gs_laws_parts.proofs.lemmas.server.Lists.{cons_first, cons_more, into_filter, into_map}
use Rattle.gs_laws_parts.proofs.lemmas.server.Leasing.{shown_late}

-- a replica of which no block is damaged has the digests of its blocks
sound_live : (block size : ℕ) (live : Option Live) (xs : List Edit) → LiveStandsFor block size live xs → LiveUndamaged live → is_sound live ≡ true
sound_live block size None xs stands undamaged = elim stands [ ]
sound_live block size (Some l) xs stands undamaged =
    let s = l.replica.held.chunk in
    let written = stands.bytes in
    let stored = written.stored in
    let counted : length s.digests ≡ count_of s.block (length s.bytes) = stored.each in
    let none : first_damaged s.block s.bytes s.digests 0 (count_of s.block (length s.bytes)) ≡ None = subst (λ n. first_damaged s.block s.bytes s.digests 0 n ≡ None) counted undamaged in
    ap (λ b. b && is_none (first_damaged s.block s.bytes s.digests 0 (count_of s.block (length s.bytes)))) (eq_true (length s.digests) (count_of s.block (length s.bytes)) counted) ∙ ap is_none none

-- the entry of a key that is found
found_there : (es : List (ℕ × Slot)) (k : ℕ) (t : Slot) → fin.find nat_cmp k es ≡ Some t → Contains es (k, t)
found_there [] k t is = absurd (cc)
found_there (e ∷ es) k t is = by_case (eq_by_cmp nat_cmp k e.0) refl is (found_there es k t)
  where
    by_case : (b : Bool) → eq_by_cmp nat_cmp k e.0 ≡ b → cond b (Some e.1) (fin.find nat_cmp k es) ≡ Some t → (fin.find nat_cmp k es ≡ Some t → Contains es (k, t)) → Contains (e ∷ es) (k, t)
    by_case true same is rest = cons_first e es (k, t) (let a : e.0 ≡ k = sym (same_key k e.0 same) in let b : e.1 ≡ t = cc in λ i. (a i, b i))
    by_case false same is rest = cons_more e es (k, t) (rest is)

never_nothing : (epoch : ℕ) (o : Option Slot) → is_named epoch (or_nothing o) ≡ true → (t : Slot) × (o ≡ Some t) × (is_named epoch t ≡ true)
never_nothing epoch None named = by_case (is_same (or_nothing None).promise (start_of epoch)) named
  where
    by_case : (b : Bool) → (b && is_sound (or_nothing None).live) ≡ true → (t : Slot) × ((let o : Option Slot = None in o) ≡ Some t) × (is_named epoch t ≡ true)
    by_case true is = absurd (cc)
    by_case false is = absurd (cc)
never_nothing epoch (Some t) named = (t, refl, named)

pub named_there : (epoch : ℕ) (s : Store) (handle : ℕ) → is_named epoch (slot_of handle s) ≡ true → Contains (named epoch s) handle
named_there epoch s handle is =
    let t = never_nothing epoch (fin.get s.slots handle) is in
    let there = found_there (fin.entries s.slots) handle t.0 (sym (fin.get-entries s.slots handle) ∙ t.1) in
    into_map (λ (e : ℕ × Slot). e.0) (filter (λ (e : ℕ × Slot). is_named epoch e.1) (fin.entries s.slots)) (handle, t.0) (into_filter (λ (e : ℕ × Slot). is_named epoch e.1) (fin.entries s.slots) (handle, t.0) there t.2)

pub names_chunk : (c : Setting) (chunk : ℕ) (w : ChunkWorld) (s : Server) (edits : List Edit) → ShowsMember c chunk w s → (w.members s.me).intact ≡ true → w.known.how (w.members s.me).epoch ≡ Rollback → Can w (Names s.me edits) → Contains (named s.kept.epoch (store_of s)) chunk
names_chunk c chunk w s edits shows intact rolled can =
    let m = w.members s.me in
    let stands = subst (ShowsLive c (slot_in chunk s)) can.0 shows.live in
    let sound : is_sound (slot_in chunk s).live ≡ true = sound_live c.block c.size (slot_in chunk s).live edits stands ((shows.intact intact).0 (inr rolled)) in
    let live : is_some (slot_in chunk s).live ≡ true = sound_is_live (slot_in chunk s).live sound in
    let epoch : m.epoch ≡ s.kept.epoch = shows.epoch_is (shown_late c w.known s.kept.epoch (place_of chunk s) m shows live) in
    let promise : (slot_in chunk s).promise ≡ start_of s.kept.epoch = shows.promise ∙ ap stamp_at (can.1 ∙ ap stamps.start_of epoch) ∙ start_stamp s.kept.epoch in
    let same : is_same (slot_in chunk s).promise (start_of s.kept.epoch) ≡ true = subst (λ p. is_same p (start_of s.kept.epoch) ≡ true) (sym promise) (is_itself (start_of s.kept.epoch)) in
    named_there s.kept.epoch (store_of s) chunk (ap (λ b. b && is_sound (slot_in chunk s).live) same ∙ sound)
  where
    sound_is_live : (live : Option Live) → is_sound live ≡ true → is_some live ≡ true
    sound_is_live None is = absurd (cc)
    sound_is_live (Some l) is = refl
