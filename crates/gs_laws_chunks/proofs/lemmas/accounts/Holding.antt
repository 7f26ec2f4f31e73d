-- What holds over runs of a store, from what is seen of its chunks.
use Rattle.gs_laws_lift.specs.stores.Left.{left_in}
use Rattle.std.proofs.Common.{◌≡◌, ◌∙◌, ◌+◌, ◌-◌, ◌&&◌, ◌++◌, ◌⊎◌, ℕ, List, [], ◌∷◌, Bool, true, false, None, Ok, Option, Some, refl, sym, ap, subst, inl, inr, arith}
use Rattle.std.specs.Prelude.{◌||◌, is_some, length, slice_get, take}
use Rattle.std.proofs.lemmas.Bool.{false≢true}
use Rattle.std.specs.FinMap as fin
use Rattle.gs_base.specs.Members.{is_member}
use Rattle.gs_base.specs.Stamps.{is_before}
use Rattle.gs_base.specs.declared.numbers.ReqId.{ReqId}
use Rattle.gs_base.specs.declared.numbers.Stamp.{Stamp}
use Rattle.gs_laws_chunks.specs.accounts.Accounts.{Account, text_of, view_at}
use Rattle.gs_laws_chunks.specs.accounts.Running.{IsGiven, IsReached, Moves, Runs, Setup}
use Rattle.gs_block.specs.Written.{TellsApart}
use Rattle.gs_laws_chunk.specs.machine.Owning.{AreOwn}
use Rattle.gs_lease.specs.declared.view.View.{View}
use Rattle.gs_laws_lift.proofs.lemmas.stores.AskingRuns.{of_one_edit, pushes_right}
use Rattle.gs_laws_lift.proofs.lemmas.stores.Running.{before}
use Rattle.gs_laws_lift.proofs.lemmas.stores.Telling.{asks_one, tells_first}
use Rattle.gs_laws_lift.specs.stores.Answers.{HasDone, HasDoneBody, HasPassed}
use Rattle.gs_laws_lift.specs.stores.Doing.{HasDurable}
use Rattle.gs_laws_lift.specs.stores.Asking.{AreAskedIn}
use Rattle.gs_laws_lift.specs.stores.Going.{AllSent, heard_in}
use Rattle.gs_laws_lift.specs.stores.Joint.{AtMaster, AtServer, Elsewhere, GoesBy}
use Rattle.gs_laws_lift.specs.stores.Living.{GoesOn}
use Rattle.gs_laws_lift.specs.stores.Saying.{PushRight}
use Rattle.gs_laws_lift.specs.stores.Showing.{IsAlive, Life, setting}
use Rattle.gs_laws_lift.specs.stores.Numbered.{asked_under}
use Rattle.gs_laws_lift.specs.stores.Owning.{WasAskedFor}
use Rattle.gs_laws_lift.specs.stores.Telling.{AskedIn, EditsStandFirst}
use Rattle.gs_laws_lift.specs.stores.Waiting.{AsksFor}
use Rattle.gs_laws_lift.proofs.lemmas.stores.Mastering.{both}
use Rattle.gs_laws_parts.specs.server.Answering.{IsAnswered}
use Rattle.gs_laws_parts.proofs.lemmas.server.Stamps.{neither_same, same_stamp}
use Rattle.gs_laws_parts.specs.server.Requests.{Asked, IsOfOneEdit, bytes_in}
use Rattle.gs_laws_moves.specs.moves.Epochs.{Begun, Committed, EpochGoes, Finalized, Prepared, Stays, prepares}
use Rattle.gs_msg.specs.declared.body.Body.TheVariants as bodies
use Rattle.gs_replica.specs.Stands.{Edit, outcome_at}
use Rattle.gs_replica.specs.declared.op.EditOutcome.{EditOutcome}
use Rattle.gs_master_record.specs.declared.checkpoint.Phase.{Phase}
use Rattle.gs_master_record.specs.declared.checkpoint.Phase.TheVariants.{Ordinary, Rolling, Upgrade}
use Rattle.gs_world.proofs.Reaching.{HaveSizes}
use Rattle.gs_world.specs.Histories.{History}
use Rattle.gs_world.specs.Runs.{StaySent, Step}
use Rattle.gs_world.specs.Sent.{Sent}
use Rattle.gs_master_spec.specs.Applied.{view_in}
use Rattle.gs_master_spec.specs.Chunks.{members_in}
use Rattle.gs_master_spec.specs.Durable.{Durable, Settled, is_listed, is_ordinary, is_upgrade, prepared_view, upgrade_epoch}
use Rattle.gs_laws_chunks.proofs.lemmas.accounts.Well.{IsWell}
use Rattle.gs_laws_chunks.proofs.lemmas.accounts.Copying.{seen_inherits}
use Rattle.gs_laws_chunks.proofs.lemmas.accounts.Asked.{edits_were_asked}
use Rattle.gs_laws_chunks.proofs.lemmas.accounts.Done.{dones_stay}
use Rattle.gs_laws_chunks.proofs.lemmas.accounts.Durables.{told_is_had}
use Rattle.gs_laws_chunks.proofs.lemmas.accounts.Edits.{AreNumbered}
use Rattle.gs_laws_chunks.proofs.lemmas.accounts.Fetching.{reads_are_legal}
use Rattle.gs_laws_chunks.proofs.lemmas.accounts.Intact.{never_both, told_same}
use Rattle.gs_laws_chunks.proofs.lemmas.accounts.Naming.{seen_survivors_name}
use Rattle.gs_laws_chunks.proofs.lemmas.accounts.Preparing.{prepares_settled}
use Rattle.gs_laws_chunks.proofs.lemmas.accounts.Quiet.{AreCalled, seen_still}
use Rattle.gs_laws_chunks.proofs.lemmas.accounts.Reached.{run_stays}
use Rattle.gs_laws_chunks.proofs.lemmas.accounts.Runs.{both_seen, keeps_told, living_copied, living_listed, living_told, seen_next, seen_of}
use Rattle.gs_laws_chunks.proofs.lemmas.accounts.SeeingThrough.{reached_well, SeesNextThrough, each_is_seen_through, each_sees_on_through, sees_step_through}
use Rattle.gs_laws_chunks.proofs.lemmas.accounts.Standing.{seen_stands, unborn_none}
use Rattle.gs_laws_chunks.proofs.lemmas.accounts.Surviving.{seen_survivors_keep}
use Rattle.gs_laws_chunks.specs.accounts.Copying.{CopiesInherit}
use Rattle.gs_laws_chunks.specs.accounts.Acknowledged.{DoneStays, IsNumbered, IsSettledStill, PassedFull, RepeatsAreAlike, WasDone, is_undone}
use Rattle.gs_laws_chunks.specs.accounts.Joined.{SeenSince}
use Rattle.gs_laws_chunks.specs.accounts.Reading.{ReadsAreLegal}
use Rattle.gs_laws_chunks.specs.accounts.SeenEdits.{WerePushed}
use Rattle.gs_laws_chunks.specs.accounts.Sealing.{SurvivorsKeepTheirText, SurvivorsName}
use Rattle.gs_laws_chunks.specs.accounts.Seeing.{Sees, SeesOn}
use Rattle.gs_laws_chunks.specs.accounts.SeenThrough.{SeesBothThrough}
use Rattle.gs_laws_chunks.specs.accounts.Standing.{IsBeginningOf, QuietStaysStill, ReplicasStand}
use Rattle.gs_laws_chunks.specs.accounts.Upgrading.{IsUpgrading, RunsUpgraded, Survives, is_holder}

-- ---- runs, one behind the other

module _ {D : Type 0} (x : Setup D) where
  pub runs_then : (first then : List Step) (old mid new : History D) (a c b : Account) → Runs x first old a mid c → Runs x then mid c new b → Runs x (first ++ then) old a new b
  runs_then [] then old mid new a c b one more = subst (λ (h : History D). Runs x then h a new b) one.0 (subst (λ (d : Account). Runs x then mid d new b) one.1 more)
  runs_then (step ∷ first) then old mid new a c b (next, d, moves, rest) more = (next, d, moves, runs_then first then next mid new d c b rest more)

  pub reach_more : (now later : History D) (a b : Account) (steps : List Step) → IsReached x now a → Runs x steps now a later b → IsReached x later b
  reach_more now later a b steps r runs = record { apart = r.apart; begun = r.begun; first = r.first; steps = r.steps ++ steps; begins = r.begins; runs = runs_then r.steps steps r.begun now later r.first a b r.runs runs }

  pub runs_of : (steps : List Step) (old new : History D) (a b : Account) → RunsUpgraded x steps old a new b → Runs x steps old a new b
  runs_of [] old new a b runs = runs
  runs_of (step ∷ steps) old new a b (mid, c, moves, upgraded, rest) = (mid, c, moves, runs_of steps mid new c b rest)

-- ---- in one world

view_told : (o : Option Settled) (view : View) → view_in o ≡ Some view → is_some o ≡ true
view_told None view is = absurd (cc)
view_told (Some y) view is = refl

-- ---- one request is numbered once

-- under one stamp, since no list of a lower one has its edit
numbered_under : (size : ℕ) (sent : Sent) (a : Account) (chunk : ℕ) (req : ReqId) (one other : EditOutcome) (p : IsNumbered size sent a chunk req one) (q : IsNumbered size sent a chunk req other) → q.stamp ≡ p.stamp
numbered_under size sent a chunk req one other p q = by_order (is_before p.stamp q.stamp) (is_before q.stamp p.stamp) refl refl
  where
    by_order : (first second : Bool) → is_before p.stamp q.stamp ≡ first → is_before q.stamp p.stamp ≡ second → q.stamp ≡ p.stamp
    by_order true second lower order = absurd (q.first p.stamp p.place p.once.edit lower p.once.stands p.once.is)
    by_order false true order lower = absurd (p.first q.stamp q.place q.once.edit lower q.once.stands q.once.is)
    by_order false false one other = same_stamp q.stamp p.stamp (neither_same q.stamp p.stamp other one)

same_edit : (one other : Edit) → Some one ≡ Some other → one ≡ other
same_edit one other is = cc

-- at one place, with one outcome
numbered_alike : (size : ℕ) (sent : Sent) (a : Account) (chunk : ℕ) (req : ReqId) (one other : EditOutcome) → IsNumbered size sent a chunk req one → IsNumbered size sent a chunk req other → one ≡ other
numbered_alike size sent a chunk req one other p q =
    let under : q.stamp ≡ p.stamp = numbered_under size sent a chunk req one other p q in
    let stands : slice_get (a.list chunk p.stamp) q.place ≡ Some q.once.edit = subst (λ s. slice_get (a.list chunk s) q.place ≡ Some q.once.edit) under q.once.stands in
    let place : q.place ≡ p.place = p.once.once q.place q.once.edit stands q.once.is in
    let edit : q.once.edit ≡ p.once.edit = same_edit q.once.edit p.once.edit (sym stands ∙ ap (λ n. slice_get (a.list chunk p.stamp) n) place ∙ p.once.stands) in
    p.answered ∙ ap (λ (e : Edit). outcome_at e.op (length (text_of size (take p.place (a.list chunk p.stamp))))) (sym edit)
    ∙ ap (λ n. outcome_at q.once.edit.op (length (text_of size (take n (a.list chunk p.stamp))))) (sym place)
    ∙ ap (λ s. outcome_at q.once.edit.op (length (text_of size (take q.place (a.list chunk s))))) (sym under) ∙ sym q.answered

-- of one chunk
asks_one_chunk : (asked : ℕ → Asked) (chunk other : ℕ) (req : ReqId) → AsksFor asked chunk req → AsksFor asked other req → other ≡ chunk
asks_one_chunk asked chunk other req asks also = by_stamp (asked_under asked chunk req) refl
  where
    by_stamp : (o : Option Stamp) → asked_under asked chunk req ≡ o → other ≡ chunk
    by_stamp None is = absurd (false≢true (sym (ap is_some is) ∙ asks))
    by_stamp (Some stamp) is = asks_one asked chunk other req stamp is also

module _ (sizes : HaveSizes) (law : AreNumbered) {D : Type 0} (x : Setup D) where
  pub replicas_stand : ReplicasStand x
  replicas_stand now a id chunk s l r found live = by_life (sees.2.lives.life chunk) refl
    where
      sees : (asked : ℕ → Asked) × AreAskedIn asked now × Sees x asked (left_in now) a
      sees = each_is_seen_through sizes law x now a r

      by_life : (life : Life x.seen x.config (bytes_in sees.0) chunk (left_in now)) → sees.2.lives.life chunk ≡ life → IsBeginningOf x.config.chunk chunk a now.sent s l
      by_life (inl unborn) is = absurd (let none = unborn_none x.seen (left_in now) id chunk s unborn found in cc)
      by_life (inr alive) is = seen_stands x (bytes_in sees.0) (left_in now) a id chunk s l (seen_of x sees.0 (left_in now) a sees.2 r.apart chunk alive is).0 found live

  pub quiet_stays_still : AreCalled → QuietStaysStill x
  quiet_stays_still called now a id chunk view s r quiet member found =
      let sees = each_is_seen_through sizes law x now a r in
      let living = living_told x sees.0 (left_in now) a sees.2 chunk (ap is_some quiet.told) in
      seen_still called x (bytes_in sees.0) (left_in now) a id chunk view s (seen_of x sees.0 (left_in now) a sees.2 r.apart chunk living.0 living.1).0 quiet member found

  -- ---- in two worlds

  pub reads_legal : ReadsAreLegal x
  reads_legal looked now next a b c steps event said chunk epoch view req asked given r is runs moves happens fetch gives =
      let sees = each_sees_on_through sizes law x looked now a b steps r runs in
      let living = living_told x sees.asked (left_in looked) a sees.first chunk (view_told (fin.get a.durable.chunks chunk) view is.settled) in
      let seen = both_seen x sees.asked (left_in looked) (left_in now) a b sees.first sees.last r.apart chunk (sees.on chunk) living.0 living.1 in
      reads_are_legal x (bytes_in sees.asked) looked now next a b event said chunk epoch view req asked given seen.first seen.last seen.on is happens fetch gives

  pub copies_inherit : CopiesInherit x
  copies_inherit now later a b steps chunk source at view r copied runs told =
      let sees = each_sees_on_through sizes law x now later a b steps r runs in
      let living = living_copied x sees.asked (left_in now) a sees.first chunk source at copied in
      let seen = both_seen x sees.asked (left_in now) (left_in later) a b sees.first sees.last r.apart chunk (sees.on chunk) living.0 living.1 in
      seen_inherits x (bytes_in sees.asked) chunk source at (left_in now) (left_in later) a b view seen.first seen.last seen.on copied told

  -- what a client was told done was numbered, and stays settled, of a chunk for which its request asks; or it passed that chunk, which was full
  abbrev DoneIn : (asked : ℕ → Asked) → Sent → Sent → Account → Account → ReqId → EditOutcome → Type 0
  DoneIn asked sent then a b req outcome = (chunk : ℕ) × AsksFor asked chunk req × ((PassedFull x.config.chunk sent a chunk req outcome × PassedFull x.config.chunk then b chunk req outcome)
      ⊎ ((numbered : IsNumbered x.config.chunk sent a chunk req outcome)
      × (is_listed b.durable chunk ≡ true → is_undone b.durable numbered.stamp ≡ false → IsSettledStill a b chunk req numbered.stamp numbered.place)))

  done_in : (now later : History D) (a b : Account) (req : ReqId) (outcome : EditOutcome) → TellsApart x.among → (sees : SeesBothThrough x now a later b) → StaySent now.sent later.sent → ((chunk : ℕ) → WerePushed now.sent a chunk) → WasDone now.sent req outcome → DoneIn sees.asked now.sent later.sent a b req outcome
  done_in now later a b req outcome apart sees stays pushed (message, (id, is), says) = by_done (subst (HasDoneBody x.seen x.config (bytes_in sees.asked) sees.asked (left_in now) sees.first.lives.life) says (sees.first.tells.dones id message is))
    where
      by_life : (chunk : ℕ) → AsksFor sees.asked chunk req → (life : Life x.seen x.config (bytes_in sees.asked) chunk (left_in now)) → sees.first.lives.life chunk ≡ life → HasDone x.seen x.config (bytes_in sees.asked) sees.asked chunk (left_in now) life req outcome → DoneIn sees.asked now.sent later.sent a b req outcome
      by_life chunk asks (inl unborn) at done = absurd done
      by_life chunk asks (inr l) at (me, done) =
          let here = seen_of x sees.asked (left_in now) a sees.first apart chunk l at in
          let there = seen_next x sees.asked (left_in now) (left_in later) a b sees.first sees.last apart chunk (sees.on chunk) here.0
          (at ∙ ap (λ (z : IsAlive x.seen x.config (bytes_in sees.asked) chunk (left_in now)). (let life : Life x.seen x.config (bytes_in sees.asked) chunk (left_in now) = inr z in life)) (sym here.1)) in
          let first : EditsStandFirst x.seen x.config (bytes_in sees.asked) sees.asked l.world.known chunk = tells_first x.seen x.config (bytes_in sees.asked) sees.asked x.among (left_in now) sees.first.lives sees.first.tells chunk l at in
          let heard : AreOwn (λ before edit. WasAskedFor now.sent edit) l.world.known = subst (AskedIn x.seen x.config (bytes_in sees.asked) chunk (left_in now)) at (sees.first.tells.asked_for chunk) in (
            chunk,
            asks,
            dones_stay x (bytes_in sees.asked) sees.asked chunk me req outcome (left_in now) (left_in later) a b here.0 there.last there.on stays
                (subst (λ (z : IsAlive x.seen x.config (bytes_in sees.asked) chunk (left_in now)). EditsStandFirst x.seen x.config (bytes_in sees.asked) sees.asked z.world.known chunk) (sym here.1) first)
                (tells_first x.seen x.config (bytes_in sees.asked) sees.asked x.among (left_in later) sees.last.lives sees.last.tells chunk there.last.alive there.lives) sees.first.lives.pushes sees.first.tells.one sees.last.tells.one (subst (λ (z : IsAlive x.seen x.config (bytes_in sees.asked) chunk (left_in now)). AreOwn (λ before edit. WasAskedFor now.sent edit) z.world.known) (sym here.1) heard) (pushed chunk) asks (keeps_told x sees.asked (left_in later) b sees.last)
                (subst (λ (z : IsAlive x.seen x.config (bytes_in sees.asked) chunk (left_in now)). IsAnswered (setting x.config (bytes_in sees.asked) z.reached.0.epoch) z.world me req outcome ⊎ HasPassed sees.asked chunk now.sent (setting x.config (bytes_in sees.asked) z.reached.0.epoch) z.world req outcome) (sym here.1) done),
          )

      by_done : HasDoneBody x.seen x.config (bytes_in sees.asked) sees.asked (left_in now) sees.first.lives.life (bodies.Done req (Ok outcome)) → DoneIn sees.asked now.sent later.sent a b req outcome
      by_done (chunk, done, asks) = by_life chunk asks (sees.first.lives.life chunk) refl done

  pushed_for : (now : History D) (a : Account) → IsReached x now a → (chunk : ℕ) → WerePushed now.sent a chunk
  pushed_for now a r chunk under place edit at = let asked = edits_were_asked sizes law x now a chunk under place edit r at in asked.2.had

  pub done_stays : DoneStays x
  done_stays now later a b steps req outcome r runs told =
      let sees = each_sees_on_through sizes law x now later a b steps r runs in
      let done = done_in now later a b req outcome r.apart sees (run_stays x sees.asked r.begins.given steps now later a b runs) (pushed_for now a r) told in
      (done.0, done.2)

  -- a full chunk that was passed has no edit of the request
  done_alike : (sent : Sent) (a : Account) (chunk : ℕ) (req : ReqId) (one other : EditOutcome) → PassedFull x.config.chunk sent a chunk req one ⊎ IsNumbered x.config.chunk sent a chunk req one → PassedFull x.config.chunk sent a chunk req other ⊎ IsNumbered x.config.chunk sent a chunk req other → one ≡ other
  done_alike sent a chunk req one other (inl p) (inl q) = p.padded ∙ sym q.padded
  done_alike sent a chunk req one other (inl p) (inr q) = absurd (p.none q.stamp q.place q.once.edit q.once.stands q.once.is)
  done_alike sent a chunk req one other (inr p) (inl q) = absurd (q.none p.stamp p.place p.once.edit p.once.stands p.once.is)
  done_alike sent a chunk req one other (inr p) (inr q) = numbered_alike x.config.chunk sent a chunk req one other p q

  pub repeats_alike : RepeatsAreAlike x
  repeats_alike now a req one other r told again =
      let sees = each_sees_on_through sizes law x now now a a [] r (refl, refl) in
      let first = done_in now now a a req one r.apart sees (λ id message is. is) (pushed_for now a r) told in
      let then = done_in now now a a req other r.apart sees (λ id message is. is) (pushed_for now a r) again in
      let same : then.0 ≡ first.0 = asks_one_chunk sees.asked first.0 then.0 req first.1 then.1 in
      done_alike now.sent a first.0 req one other (elim first.2 [ inl passed ↦ inl passed.0 | inr stays ↦ inr stays.0 ])
      (subst (λ k. PassedFull x.config.chunk now.sent a k req other ⊎ IsNumbered x.config.chunk now.sent a k req other) same (elim then.2 [ inl passed ↦ inl passed.0 | inr stays ↦ inr stays.0 ]))

-- ---- epochs

-- behind a prepare nothing was changed yet
nothing_changed : (d e : Durable) → EpochGoes d e → prepares d e ≡ true → (e.inverses ≡ []) × ((chunk : ℕ) → fin.get e.prepared chunk ≡ None)
nothing_changed d e (Prepared next was is none kept) accepted = (none, kept)
nothing_changed d e (Stays same phase) accepted = absurd (false≢true (sym (ap (λ p. is_ordinary d.phase && is_upgrade p) phase ∙ never_both d.phase) ∙ accepted))
nothing_changed d e (Finalized next was is end) accepted = absurd (false≢true (sym (ap is_upgrade is) ∙ (both (is_ordinary d.phase) (is_upgrade e.phase) accepted).1))
nothing_changed d e (Begun next was is end) accepted = absurd (false≢true (sym (ap is_upgrade is) ∙ (both (is_ordinary d.phase) (is_upgrade e.phase) accepted).1))
nothing_changed d e (Committed same was is) accepted = absurd (false≢true (sym (ap is_upgrade is) ∙ (both (is_ordinary d.phase) (is_upgrade e.phase) accepted).1))

-- an upgrade that isn't over is the same
same_upgrade : (d e : Durable) → EpochGoes d e → is_ordinary d.phase ≡ false → is_ordinary e.phase ≡ false → upgrade_epoch e.phase e.epoch ≡ upgrade_epoch d.phase d.epoch
same_upgrade d e (Stays same phase) was is = ap (λ p. upgrade_epoch p e.epoch) phase ∙ ap (upgrade_epoch d.phase) same
same_upgrade d e (Prepared next ordinary upgrade none kept) was is = absurd (false≢true (sym was ∙ ap is_ordinary ordinary))
same_upgrade d e (Finalized next upgrade ordinary end) was is = absurd (false≢true (sym is ∙ ap is_ordinary ordinary))
same_upgrade d e (Begun next upgrade rolling end) was is = ap (λ p. upgrade_epoch p e.epoch) rolling ∙ ap Some (one_less d.epoch e.epoch next) ∙ sym (ap (λ p. upgrade_epoch p d.epoch) upgrade)
  where
    one_less : (m n : ℕ) → n ≡ m + 1 → n - 1 ≡ m
    one_less m n next = omega arith
same_upgrade d e (Committed same rolling ordinary) was is = absurd (false≢true (sym is ∙ ap is_ordinary ordinary))

upgrade_begun : (phase : Phase) (epoch : ℕ) → is_upgrade phase ≡ true → (is_ordinary phase ≡ false) × (upgrade_epoch phase epoch ≡ Some epoch)
upgrade_begun Ordinary epoch is = absurd (false≢true is)
upgrade_begun Upgrade epoch is = (refl, refl)
upgrade_begun Rolling epoch is = absurd (false≢true is)

module _ (law : AreNumbered) {D : Type 0} (x : Setup D) (asked : ℕ → Asked) (given : IsGiven x) where
  abbrev bytes : ReqId → List ℕ
  bytes = bytes_in asked

  -- what becomes of the epoch at a step behind which a chunk lives
  module _ (step : Step) (old mid : History D) (a c : Account) (moves : Moves x step old a mid c) (first : Sees x asked (left_in old) a) (next : SeesNextThrough x asked given law step old mid a c first) (chunk : ℕ) where
    abbrev Epochs : Type 0
    Epochs = EpochGoes a.durable c.durable ⊎ (a.durable ≡ c.durable)

    abbrev EpochsAt : Life x.seen x.config bytes chunk (left_in mid) → Type 0
    EpochsAt (inl unborn) = Unit {0}
    EpochsAt (inr m) = Epochs

    same_there : (left_in mid).nodes.master ≡ (left_in old).nodes.master → Epochs
    same_there master = inr (told_same x bytes chunk step (left_in old) (left_in mid) a c next.account first.lives first.agrees.told next.goes.last master)

    goes_there : (before behind : Durable) → HasDurable x.seen (left_in old).nodes.master before → HasDurable x.seen (left_in mid).nodes.master behind → EpochGoes before behind → Epochs
    goes_there before behind had has goes =
        inl (subst (λ d. EpochGoes d c.durable) (told_is_had x.seen (left_in old).nodes.master a.durable before first.lives.lasts first.agrees.told had)
        (subst (EpochGoes before) (told_is_had x.seen (left_in mid).nodes.master c.durable behind next.goes.last.lasts next.account.told has) goes))

    by_goes : (heard : Option ℕ) (l : Life x.seen x.config bytes chunk (left_in old)) (m : Life x.seen x.config bytes chunk (left_in mid)) → GoesOn x.seen x.config bytes chunk step heard (left_in old) (left_in mid) l m → EpochsAt m
    by_goes heard l (inl unborn) goes = tt
    by_goes heard (inl unborn) (inr m) comes = goes_there comes.before comes.behind comes.had comes.has comes.rows.epochs
    by_goes heard (inr l) (inr m) goes = by_what goes.by
      where
        by_what : GoesBy x.seen x.config bytes l.reached.0.epoch chunk step (left_in old) (left_in mid) l.world m.world → Epochs
        by_what (AtServer by) = same_there by.master
        by_what (AtMaster by) = goes_there by.before by.behind by.had by.has by.rows.epochs
        by_what (Elsewhere still servers master node messages moment are posted) = same_there master

    pub step_epochs : (m : IsAlive x.seen x.config bytes chunk (left_in mid)) → next.goes.last.life chunk ≡ inr m → Epochs
    step_epochs m is = subst EpochsAt is (by_goes _ (first.lives.life chunk) (next.goes.last.life chunk) (next.goes.goes chunk))

    -- one that lived lives on
    pub lives_on : (l : IsAlive x.seen x.config bytes chunk (left_in old)) → first.lives.life chunk ≡ inr l → (m : IsAlive x.seen x.config bytes chunk (left_in mid)) × (next.goes.last.life chunk ≡ inr m)
    lives_on l is = by_life (next.goes.last.life chunk) refl (subst (λ life. GoesOn x.seen x.config bytes chunk step (heard_in x.seen x.failures x.armed next.goes.kind) (left_in old) (left_in mid) life (next.goes.last.life chunk)) is (next.goes.goes chunk))
      where
        by_life : (life : Life x.seen x.config bytes chunk (left_in mid)) → next.goes.last.life chunk ≡ life → GoesOn x.seen x.config bytes chunk step (heard_in x.seen x.failures x.armed next.goes.kind) (left_in old) (left_in mid) (inr l) (next.goes.last.life chunk) → (m : IsAlive x.seen x.config bytes chunk (left_in mid)) × (next.goes.last.life chunk ≡ inr m)
        by_life (inl unborn) at goes = absurd (subst (GoesOn x.seen x.config bytes chunk step (heard_in x.seen x.failures x.armed next.goes.kind) (left_in old) (left_in mid) (inr l)) at goes)
        by_life (inr m) at goes = (m, at)

  -- over steps by which no upgrade is over it is the same
  same_upgrade_on : TellsApart x.among → (steps : List Step) (old new : History D) (a b : Account) (first : Sees x asked (left_in old) a) → IsWell x old → RunsUpgraded x steps old a new b → AllSent (PushRight bytes) new.sent → AllSent (IsOfOneEdit asked) new.sent
      → (chunk : ℕ) (l : IsAlive x.seen x.config bytes chunk (left_in old)) → first.lives.life chunk ≡ inr l → is_ordinary a.durable.phase ≡ false → upgrade_epoch b.durable.phase b.durable.epoch ≡ upgrade_epoch a.durable.phase a.durable.epoch
  same_upgrade_on apart [] old new a b first well runs right one chunk l is stands = ap (λ (c : Account). upgrade_epoch c.durable.phase c.durable.epoch) runs.1
  same_upgrade_on apart (step ∷ steps) old new a b first well (mid, c, moves, upgraded, rest) right one chunk l is stands =
      let stays = run_stays x asked given steps mid new c b (runs_of x steps mid new c b rest) in
      let next = sees_step_through x asked given law apart step old mid a c first well moves (before x.seen x.failures x.armed (PushRight bytes) mid.sent new.sent stays right) (before x.seen x.failures x.armed (IsOfOneEdit asked) mid.sent new.sent stays one) in
      let m = lives_on step old mid a c moves first next chunk l is in
      let then : Sees x asked (left_in mid) c = record { lives = next.goes.last; tells = next.tells; agrees = next.agrees; intact = next.intact } in
      same_upgrade_on apart steps mid new c b then next.well rest right one chunk m.0 m.1 upgraded
      ∙ elim (step_epochs step old mid a c moves first next chunk m.0 m.1) [
        | inl goes ↦ same_upgrade a.durable c.durable goes stands upgraded
        | inr same ↦ ap (λ (d : Durable). upgrade_epoch d.phase d.epoch) (sym same)
      ]

-- ---- an upgrade

module _ (sizes : HaveSizes) (law : AreNumbered) {D : Type 0} (x : Setup D) (prepared now : History D) (first_after after : Account) (up : IsUpgrading x prepared first_after now after) where
  pub prepared_reached : IsReached x prepared first_after
  prepared_reached = reach_more x up.old prepared up.first first_after (up.step ∷ []) up.reached (prepared, first_after, up.moves, (refl, refl))

  pub given_there : IsGiven x
  given_there = up.reached.begins.given

  upgrade_there : is_upgrade first_after.durable.phase ≡ true
  upgrade_there = (both (is_ordinary up.first.durable.phase) (is_upgrade first_after.durable.phase) up.accepted).1

  -- right behind the prepare
  unchanged_there : (chunk : ℕ) → is_listed first_after.durable chunk ≡ true → (first_after.durable.inverses ≡ []) × ((chunk : ℕ) → fin.get first_after.durable.prepared chunk ≡ None)
  unchanged_there chunk listed =
      let sees = each_sees_on_through sizes law x up.old prepared up.first first_after (up.step ∷ []) up.reached (prepared, first_after, up.moves, (refl, refl)) in
      let well = reached_well x up.old up.first up.reached in
      let next = sees_step_through x sees.asked given_there law up.reached.apart up.step up.old prepared up.first first_after sees.first well up.moves (pushes_right sees.asked prepared sees.are) (of_one_edit sees.asked prepared sees.are) in
      let then : Sees x sees.asked (left_in prepared) first_after = record { lives = next.goes.last; tells = next.tells; agrees = next.agrees; intact = next.intact } in
      let m = living_listed x sees.asked (left_in prepared) first_after then chunk listed in
      elim (step_epochs law x sees.asked given_there up.step up.old prepared up.first first_after up.moves sees.first next chunk m.0 m.1) [
        | inl goes ↦ nothing_changed up.first.durable first_after.durable goes up.accepted
        | inr same ↦ absurd (false≢true (sym (subst (λ (d : Durable). prepares up.first.durable d ≡ false) same (never_both up.first.durable.phase)) ∙ up.accepted))
      ]

  -- a chunk that a file had at the prepare is seen since
  pub record SinceSeen (asked : ℕ → Asked) (last : Sees x asked (left_in now) after) (chunk : ℕ) : Type 0 where
    pub since : SeenSince x (bytes_in asked) chunk (left_in prepared) first_after (left_in now) after
    pub lives : last.lives.life chunk ≡ inr since.last.alive

  pub since_seen : (asked : ℕ → Asked) → AllSent (PushRight (bytes_in asked)) now.sent → AllSent (IsOfOneEdit asked) now.sent → (first : Sees x asked (left_in prepared) first_after) (last : Sees x asked (left_in now) after)
      → ((chunk : ℕ) → SeesOn x (bytes_in asked) chunk (left_in prepared) first_after (left_in now) after (first.lives.life chunk) (last.lives.life chunk)) → (chunk : ℕ) → is_listed first_after.durable chunk ≡ true → SinceSeen asked last chunk
  since_seen asked right one first last on chunk listed =
      let well = reached_well x prepared first_after prepared_reached in
      let begun = upgrade_begun first_after.durable.phase first_after.durable.epoch upgrade_there in
      let unchanged = unchanged_there chunk listed in
      let living = living_listed x asked (left_in prepared) first_after first chunk listed in
      let seen = seen_of x asked (left_in prepared) first_after first up.reached.apart chunk living.0 living.1 in
      let next = seen_next x asked (left_in prepared) (left_in now) first_after after first last up.reached.apart chunk (on chunk) seen.0 (living.1 ∙ ap (λ (z : IsAlive x.seen x.config (bytes_in asked) chunk (left_in prepared)). (let life : Life x.seen x.config (bytes_in asked) chunk (left_in prepared) = inr z in life)) (sym seen.1)) in
      record {
        since = record {
          first = seen.0;
          last = next.last;
          on = next.on;
          begun = upgrade_there;
          settled = prepares_settled chunk first_after.durable seen.0.alive.world.entry seen.0.told (keeps_told x asked (left_in prepared) first_after first) upgrade_there unchanged.0 (unchanged.1 chunk);
          still = same_upgrade_on law x asked given_there up.reached.apart up.steps prepared now first_after after first well up.runs right one chunk living.0 living.1 begun.0 ∙ begun.1;
        };
        lives = next.lives;
      }

  -- for what clients have asked up to the later world
  pub sees_there : SeesBothThrough x prepared first_after now after
  sees_there = each_sees_on_through sizes law x prepared now first_after after up.steps prepared_reached (runs_of x up.steps prepared now first_after after up.runs)

  pub seen_since : (chunk : ℕ) → is_listed first_after.durable chunk ≡ true → SeenSince x (bytes_in sees_there.asked) chunk (left_in prepared) first_after (left_in now) after
  seen_since chunk listed =
      (since_seen sees_there.asked (pushes_right sees_there.asked now sees_there.are) (of_one_edit sees_there.asked now sees_there.are) sees_there.first sees_there.last sees_there.on chunk listed).since

pub listed_then : (before now : Account) (chunk id : ℕ) → Survives before now chunk id → is_listed before.durable chunk ≡ true
listed_then before now chunk id survives = (both (is_listed before.durable chunk) (is_member (members_in (view_at before chunk)) id || is_holder id (prepared_view now.durable chunk)) survives.current).0

module _ (sizes : HaveSizes) (law : AreNumbered) {D : Type 0} (x : Setup D) where
  pub survivors_keep_text : SurvivorsKeepTheirText x
  survivors_keep_text prepared now before after chunk id view s up survives is found =
      let since = seen_since sizes law x prepared now before after up chunk (listed_then before after chunk id survives) in
      seen_survivors_keep x (bytes_in (sees_there sizes law x prepared now before after up).asked) (left_in prepared) (left_in now) before after chunk id view s since survives is found

  pub survivors_name : SurvivorsName x
  survivors_name prepared now before after chunk id s up rolling survives found at =
      let since = seen_since sizes law x prepared now before after up chunk (listed_then before after chunk id survives) in
      seen_survivors_name x (bytes_in (sees_there sizes law x prepared now before after up).asked) (left_in prepared) (left_in now) before after chunk id s since rolling survives found at
