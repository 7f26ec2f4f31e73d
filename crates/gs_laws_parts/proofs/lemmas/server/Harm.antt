-- What accounts say is intact at a server is so in the machine of the chunk.
use Rattle.std.proofs.Common.{◌≡◌, ℕ, ◌+◌, ◌<◌, ◌⊎◌, inl, inr, Bool, true, false, cond, List, Option, Some, None, refl, sym, ap, subst, ◌∙◌, arith}
use Rattle.std.specs.Prelude.{◌&&◌, ◌||◌, ◌==◌, length, is_none, is_some, Result, Ok, Err}
use Rattle.std.proofs.lemmas.Bool.{false≢true}
use Rattle.gs_base.specs.Stamps.{is_before}
use Rattle.gs_base.specs.declared.numbers.Stamp.{Stamp}
use Rattle.gs_base.specs.declared.refusal.Refusal.{Refusal}
use Rattle.gs_base.specs.declared.epoch.EpochEnd.TheVariants.{Rollback}
use Rattle.gs_block.specs.Stored.{count_of, first_damaged}
use Rattle.gs_replica.specs.Copies.{Image, SealedImage, and_then}
use Rattle.gs_replica.specs.Seals.{State, Sealed}
use Rattle.gs_msg.specs.declared.body.Body.{Body}
use Rattle.gs_msg.specs.declared.body.Body.TheVariants as bodies
use Rattle.gs_msg.specs.declared.chunk.Chunk.{Chunk}
use Rattle.gs_msg.specs.declared.chunk.Chunk.TheVariants as chunks
use Rattle.gs_msg.specs.declared.message.Message.{Message}
use Rattle.gs_store.specs.Slots.{Live, Slot, again, lose, damage, replaced}
use Rattle.gs_store.specs.Learning.{is_sound}
use Rattle.gs_store.specs.Moves.{copied_in, copy_in, in_trash, replicas_of}
use Rattle.gs_store.specs.Standing.{LiveUndamaged}
use Rattle.gs_store.proofs.Laws.{Holds, of_cond, of_ok}
use Rattle.gs_store.specs.Calls as calls
use Rattle.gs_store.specs.Calls.{Call}
use Rattle.gs_server.specs.Servers.{Server, place_of}
use Rattle.gs_server.specs.Runs.{BecomesBy, Event, Hears, Ticks, Restarts, behind, slot_in}
use Rattle.gs_server.specs.Runs as runs
use Rattle.gs_laws_server.specs.servers.Calling.{call_by, if_done}
use Rattle.gs_laws_server.proofs.lemmas.servers.Calling.{event_calls}
use Rattle.gs_laws_chunk.specs.machine.Machine.{Member, ChunkWorld}
use Rattle.gs_laws_chunk.specs.machine.Laws.{IsReached, IsUpgrading}
use Rattle.gs_laws_chunk.proofs.lemmas.machine.Facts.{reached_world}
use Rattle.gs_laws_chunk.proofs.lemmas.machine.Lasting.{agrees}
use Rattle.gs_laws_chunk.proofs.lemmas.machine.Worlds.{WorldOk}
use Rattle.gs_laws_chunk.specs.machine.Stamps.{stamp_at}
use Rattle.gs_laws_parts.specs.server.Showing.{IsLaterOne, LiveIsLater, Setting, ShowsMember, ShowsPlace}
use Rattle.gs_laws_parts.specs.server.Causes.{Calm, cause_by, cause_in, cause_of, spares, struck_by}
use Rattle.gs_laws_parts.specs.server.Moving.{IsSteps}
use Rattle.gs_laws_parts.specs.server.Harm.{intact_behind, is_later_one, is_unsealed}
use Rattle.gs_laws_parts.proofs.lemmas.server.Stamps.{before_less, never_same}
use Rattle.gs_laws_parts.proofs.lemmas.server.Leasing.{shown_late}
use Rattle.gs_laws_parts.proofs.lemmas.server.Promising.{again_holds}
use Rattle.gs_laws_parts.proofs.lemmas.server.Quiet.{damaged_later}
use Rattle.gs_laws_parts.proofs.lemmas.server.Ticks.{eq_same}

both : (a b : Bool) → (a && b) ≡ true → (a ≡ true) × (b ≡ true)
both true true is = (refl, refl)
both true false is = absurd (false≢true is)
both false b is = absurd (false≢true is)

either : (a b : Bool) → (a || b) ≡ true → (a ≡ true) ⊎ (b ≡ true)
either true b is = inl refl
either false b is = inr is

-- ---- what counts for the upgrade that stands

module _ (w : ChunkWorld) (reached : IsReached w) where
  -- what is live of a server that has learned of the prepare counts no more
  later_there : (upgrade epoch : ℕ) → epoch ≡ upgrade → IsUpgrading w upgrade → LiveIsLater w.known epoch
  later_there upgrade epoch at up = elim up [
    | inl x ↦ (
      (agrees w ok).how epoch ∙ ap w.entry.how at ∙ x.1,
      (λ e above within prepare. absurd (let y = x.0 in let n = (agrees w ok).epoch in omega arith)),
    )
    | inr x ↦
        let r = (ok.entry).rolling x.1 in
        let y = x.0 in let n = (agrees w ok).epoch in let next = r.next in
        let same : epoch ≡ r.e = omega arith in (
          ap w.known.how same ∙ r.was,
          (λ e above within prepare.
              let last : e ≡ r.e + 1 = omega arith in
              absurd (let how : w.known.how e ≡ Rollback = ap w.known.how last ∙ r.how in (cc))),
        )
  ]
    where
      ok : WorldOk w
      ok = reached_world w reached

nothing : (o : Option Sealed) → is_none o ≡ true → o ≡ None
nothing None is = refl
nothing (Some t) is = absurd (false≢true is)

unsealed : (o : Option Live) → is_unsealed o ≡ true → (l : Live) × (o ≡ Some l) × (l.replica.sealed ≡ None)
unsealed None is = absurd (false≢true is)
unsealed (Some l) is = (l, refl, nothing l.replica.sealed is)

later_one : (upgrade chunk : ℕ) (s : Server) → is_later_one upgrade chunk s ≡ true → (s.kept.epoch ≡ upgrade) × IsLaterOne (slot_in chunk s)
later_one upgrade chunk s is = let x = both (s.kept.epoch == upgrade) (is_unsealed (slot_in chunk s).live) is in (sym (eq_same s.kept.epoch upgrade x.0), unsealed (slot_in chunk s).live x.1)

-- ---- a copy that carries an image

trashed_carried : (trash : Option State) (s : Slot) → (in_trash trash s).carried ≡ s.carried
trashed_carried None s = refl
trashed_carried (Some r) s = refl

-- is told by the slot, where it raises the promise
copy_carried : (block size : ℕ) (stamp : Stamp) (image : Image) (sealed : SealedImage) (s t : Slot) → copy_in block size stamp image (Some sealed) s ≡ Ok t → is_before s.promise t.promise ≡ true → t.carried ≡ true
copy_carried block size stamp image sealed s t made =
    of_ok P (copy_in block size stamp image (Some sealed) s) t made
    (of_cond P (is_before s.promise stamp) (copied_in block size stamp image (Some sealed) s) (again stamp s)
    (λ above. by_made (replicas_of block size stamp image (Some sealed)))
    (λ below. again_holds P stamp s (λ same live above. never_same s.promise above)))
  where
    P : Slot → Type 0
    P y = is_before s.promise y.promise ≡ true → y.carried ≡ true

    by_made : (r : Result (State × Option State) Refusal) → Holds P (and_then r (λ p. Ok (in_trash p.1 (replaced stamp true p.0 s))))
    by_made (Ok p) = λ above. trashed_carried p.1 (replaced stamp true p.0 s)
    by_made (Err e) = tt

-- ---- what survives

said_spares : (said : Chunk) → spares (cause_of said) ≡ true
said_spares (chunks.Edit req stamp op) = refl
said_spares said = refl

heard_spares : (chunk : ℕ) (body : Body) → spares (cause_in chunk body) ≡ true
heard_spares chunk (bodies.About handle said) = by_case (chunk == handle)
  where
    by_case : (b : Bool) → spares (cond b (cause_of said) Calm) ≡ true
    by_case true = said_spares said
    by_case false = refl
heard_spares chunk body = refl

-- what makes no call strikes nothing
event_spares : (chunk : ℕ) (s : Server) (event : Event) → call_by chunk event s ≡ None → spares (cause_by chunk event s) ≡ true
event_spares chunk s (Hears message moment) none = heard_spares chunk message.body
event_spares chunk s (Ticks moment) none = refl
event_spares chunk s Restarts none = refl
event_spares chunk s (runs.Loses handle) none = ap (λ call. spares (struck_by call)) none
event_spares chunk s (runs.Damages handle block) none = ap (λ call. spares (struck_by call)) none

-- nor does any but a loss or damage
abbrev other_call : Call → Type 0
other_call calls.Loses = ⊥
other_call (calls.Damages block) = ⊥
other_call call = Unit {0}

event_other : (chunk : ℕ) (s : Server) (event : Event) (call : Call) → call_by chunk event s ≡ Some call → other_call call → spares (cause_by chunk event s) ≡ true
event_other chunk s (Hears message moment) call is other = heard_spares chunk message.body
event_other chunk s (Ticks moment) call is other = refl
event_other chunk s Restarts call is other = refl
event_other chunk s (runs.Loses handle) call is other = absurd (lost_call (chunk == handle) (lose (slot_in handle s)) call is other)
  where
    lost_call : (b : Bool) (r : Result Slot Refusal) (call : Call) → cond b (if_done calls.Loses r) None ≡ Some call → other_call call → ⊥
    lost_call true (Ok t) call is other = subst other_call (let same : call ≡ calls.Loses = cc in same) other
    lost_call true (Err e) call is other = absurd (cc)
    lost_call false r call is other = absurd (cc)
event_other chunk s (runs.Damages handle block) call is other = absurd (damaged_call (chunk == handle) (damage block (slot_in handle s)) call is other)
  where
    damaged_call : (b : Bool) (r : Result Slot Refusal) (call : Call) → cond b (if_done (calls.Damages block) r) None ≡ Some call → other_call call → ⊥
    damaged_call true (Ok t) call is other = subst other_call (let same : call ≡ calls.Damages block = cc in same) other
    damaged_call true (Err e) call is other = absurd (cc)
    damaged_call false r call is other = absurd (cc)

module _ (c : Setting) (chunk : ℕ) (w : ChunkWorld) (s : Server) (reached : IsReached w) (upgrade : ℕ) (stands : IsUpgrading w upgrade) (shows : ShowsMember c chunk w s) (so_far : Bool) (before : so_far ≡ true → (w.members s.me).intact ≡ true)
    (event : Event) (about : Option ℕ) (sent : List Message) (steps : IsSteps (cause_by chunk event s) c chunk w s.me about (behind event s) sent) where
  abbrev m : Member
  m = w.members s.me

  abbrev n : Member
  n = steps.world.members s.me

  abbrev after : Server
  after = behind event s

  shown : ShowsPlace c steps.world.known after.kept.epoch (place_of chunk after) n
  shown = subst (λ k. ShowsPlace c steps.world.known after.kept.epoch (place_of chunk after) (steps.world.members k)) steps.same.0 steps.shows

  -- a later replica that is damaged counts no more
  damaged_stays : (block : ℕ) → damage block (slot_in chunk s) ≡ Ok (slot_in chunk after) → (so_far && is_later_one upgrade chunk s) ≡ true → n.intact ≡ true
  damaged_stays block made is =
      let y = both so_far (is_later_one upgrade chunk s) is in
      let z = later_one upgrade chunk s y.1 in
      let live : is_some (slot_in chunk s).live ≡ true = ap is_some z.1.1 in
      let at : m.epoch ≡ upgrade = shows.epoch_is (shown_late c w.known s.kept.epoch (place_of chunk s) m shows live) ∙ z.0 in
      steps.intact (inr (damaged_later block (slot_in chunk s) (slot_in chunk after) made z.1, later_there w reached upgrade m.epoch at stands)) (before y.0)

  brought : (stamp : Stamp) (image : Image) (sealed : SealedImage) → copy_in s.block s.chunk stamp image (Some sealed) (slot_in chunk s) ≡ Ok (slot_in chunk after) → is_before (slot_in chunk s).promise (slot_in chunk after).promise ≡ true → n.intact ≡ true
  brought stamp image sealed made above =
      let less : m.promise < n.promise = before_less m.promise n.promise (subst (λ y. is_before y (stamp_at n.promise) ≡ true) shows.promise (subst (λ y. is_before (slot_in chunk s).promise y ≡ true) shown.promise above)) in
      let gains = steps.gains in
      gains.brought less (shown.carried ∙ copy_carried s.block s.chunk stamp image sealed (slot_in chunk s) (slot_in chunk after) made above)

  by_call : (call : Option Call) → call_by chunk event s ≡ call → BecomesBy s.block s.chunk (slot_in chunk s) call (slot_in chunk after) → intact_behind so_far (Some upgrade) chunk call (Some s) (Some after) ≡ true → n.intact ≡ true
  by_call None is_so becomes is = steps.intact (inl (event_spares chunk s event is_so)) (before is)
  by_call (Some calls.Loses) is_so becomes is = absurd (false≢true is)
  by_call (Some (calls.Damages block)) is_so becomes is = damaged_stays block becomes is
  by_call (Some (calls.CopiesIn stamp image (Some sealed))) is_so becomes is = elim (either so_far (is_before (slot_in chunk s).promise (slot_in chunk after).promise) is) [
    | inl told ↦ steps.intact (inl (event_other chunk s event (calls.CopiesIn stamp image (Some sealed)) is_so tt)) (before told)
    | inr above ↦ brought stamp image sealed becomes above
  ]
  by_call (Some (calls.CopiesIn stamp image None)) is_so becomes is = steps.intact (inl (event_other chunk s event (calls.CopiesIn stamp image None) is_so tt)) (before is)
  by_call (Some call) is_so becomes is = steps.intact (inl (event_other chunk s event call is_so tt)) (before is)

  -- whatever happens at the server
  pub survives : intact_behind so_far (Some upgrade) chunk (call_by chunk event s) (Some s) (Some (behind event s)) ≡ true → n.intact ≡ true
  survives is = by_call (call_by chunk event s) refl (event_calls chunk event s) is

-- where a server stays as it is, so does what is said of it
pub survives_still : (so_far : Bool) (upgrade chunk : ℕ) (call : Option Call) (s : Server) → intact_behind so_far (Some upgrade) chunk call (Some s) (Some s) ≡ true → so_far ≡ true
survives_still so_far upgrade chunk (Some calls.Loses) s is = absurd (false≢true is)
survives_still so_far upgrade chunk (Some (calls.Damages block)) s is = (both so_far (is_later_one upgrade chunk s) is).0
survives_still so_far upgrade chunk (Some (calls.CopiesIn stamp image (Some sealed))) s is = elim (either so_far (is_before (slot_in chunk s).promise (slot_in chunk s).promise) is) [
  | inl told ↦ told
  | inr above ↦ never_same (slot_in chunk s).promise above
]
survives_still so_far upgrade chunk (Some (calls.CopiesIn stamp image None)) s is = is
survives_still so_far upgrade chunk None s is = is
survives_still so_far upgrade chunk call s is = is

-- ---- a replica that is whole

-- no block of it is damaged
pub sound_undamaged : (live : Option Live) → is_sound live ≡ true → LiveUndamaged live × (is_some live ≡ true)
sound_undamaged None is = absurd (false≢true is)
sound_undamaged (Some l) is =
    let s = l.replica.held.chunk in
    let x = both (length s.digests == count_of s.block (length s.bytes)) (is_none (first_damaged s.block s.bytes s.digests 0 (count_of s.block (length s.bytes)))) is in
    let counted : length s.digests ≡ count_of s.block (length s.bytes) = sym (eq_same (length s.digests) (count_of s.block (length s.bytes)) x.0) in
    (subst (λ n. first_damaged s.block s.bytes s.digests 0 n ≡ None) (sym counted) (none (first_damaged s.block s.bytes s.digests 0 (count_of s.block (length s.bytes))) x.1), refl)
  where
    none : (o : Option ℕ) → is_none o ≡ true → o ≡ None
    none None is = refl
    none (Some n) is = absurd (false≢true is)
