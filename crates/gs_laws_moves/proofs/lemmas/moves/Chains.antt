-- Turns that are chains of moves, and how they follow one another.
use Rattle.std.proofs.Common.{◌≡◌, ◌∙◌, ◌&&◌, ◌||◌, ◌++◌, ℕ, Bool, true, false, not, List, [], ◌∷◌, append_assoc, refl, ap, subst, sym}
use Rattle.std.specs.Prelude.{unwrap_or, Option, Some, None, Result, Ok, Err, if◌then◌else◌}
use Rattle.std.specs.FinMap as fin
use Rattle.std.specs.List.{list_all}
use Rattle.std.proofs.lemmas.Bool.{and_parts, true≢false}
use Rattle.gs_base.specs.Members.{is_member}
use Rattle.gs_base.specs.declared.config.Config.{Config}
use Rattle.gs_base.specs.declared.numbers.ReqId.{ReqId}
use Rattle.gs_base.specs.declared.refusal.Refusal.{Refusal}
use Rattle.gs_base.specs.declared.refusal.Refusal.TheVariants as refusals
use Rattle.gs_lease.specs.declared.view.Purpose.{Purpose}
use Rattle.gs_lease.specs.declared.view.Purpose.TheVariants as purposes
use Rattle.gs_msg.specs.declared.answer.Answer.{Answer}
use Rattle.gs_msg.specs.declared.answer.Answer.TheVariants as answers
use Rattle.gs_master_spec.specs.Applied.{applied, if_fits, may_propose, proposed}
use Rattle.gs_master_spec.specs.Beginning.{all_begun, begun}
use Rattle.gs_master_spec.specs.Calls.{answered_with, looked_up}
use Rattle.gs_master_spec.specs.Chunks.{has_entry}
use Rattle.gs_master_spec.specs.Durable.{is_listed}
use Rattle.gs_master_spec.specs.State.{State, Turn, unmoved, and_then, first_said, fits, if_room, joined, refused, all_ended_by, ended_by}
use Rattle.gs_master_spec.specs.Volatile.{is_pending}
use Rattle.gs_laws_master.proofs.lemmas.rooms.RoomsOfCalls.{pick}
use Rattle.gs_laws_moves.specs.moves.Guards.{Heard, IsCalledFor, IsRefusable, IsRightAnswer, May, is_location}
use Rattle.gs_laws_moves.proofs.lemmas.moves.Ended.{AllPending, ended_pending}
use Rattle.gs_laws_moves.proofs.lemmas.moves.Fitting.{mapped}
use Rattle.gs_laws_moves.specs.moves.Epochs.{EndsOnce, Within, closes, is_alone}
use Rattle.gs_laws_moves.specs.moves.ForCalls.{IsAnswerFor, IsFor}
use Rattle.gs_laws_moves.specs.moves.Moves.{Alone, Begins, BeginsRollback, Chain, Checkpoints, CommitsRollback, Copies, CopiesTree, Edits, Extends, Finalizes, Flags, Hears, Makes, Move, Moves, Prepares, Refuses, Replaces, Restores, Rests, Says, Scans, Sends, Settles, TellsRollback, Then, Waits, Answers as AnswersCall}

-- What is joined doesn't go by which two are joined first.
said_together : (a b c : Option Refusal) → first_said (first_said a b) c ≡ first_said a (first_said b c)
said_together None b c = refl
said_together (Some refusal) b c = refl

pub joined_together : (a b c : Turn) → joined (joined a b) c ≡ joined a (joined b c)
joined_together a b c =
    ap (λ r. record { after = c.after; records = r; sent = (a.sent ++ b.sent) ++ c.sent; said = first_said (first_said a.said b.said) c.said }) (append_assoc a.records b.records c.records)
    ∙ ap (λ m. record { after = c.after; records = a.records ++ (b.records ++ c.records); sent = m; said = first_said (first_said a.said b.said) c.said }) (append_assoc a.sent b.sent c.sent)
    ∙ ap (λ o. record { after = c.after; records = a.records ++ (b.records ++ c.records); sent = a.sent ++ (b.sent ++ c.sent); said = o }) (said_together a.said b.said c.said)

-- an answer that tells no place of a chunk is right
pub plain_right : (s : State) (answer : Answer) → is_location answer ≡ false → IsRightAnswer s answer
plain_right s (answers.Location chunk view epoch) e = absurd (true≢false e)
plain_right s answer e = tt

pub plain_called : (heard : Heard) (s : State) (req : ReqId) (answer : Answer) → is_location answer ≡ false → IsCalledFor heard s req answer
plain_called heard s req (answers.Location chunk view epoch) e = absurd (true≢false e)
plain_called heard s req answer e = tt

pub plain_for : (heard : Heard) (s : State) (req : ReqId) (answer : Answer) (over : Bool) → is_location answer ≡ false → IsAnswerFor heard s req answer over
plain_for heard s req (answers.Location chunk view epoch) over e = absurd (true≢false e)
plain_for heard s req answer over e = tt

-- a result tells where a chunk is
abbrev pub is_located : Result Answer Refusal → Bool
is_located (Ok answer) = is_location answer
is_located (Err refusal) = false

module _ (config : Config) (heard : Heard) where
  -- a move may be made, and isn't alone
  abbrev pub MayWithin : State → Move → Type 0
  MayWithin s (Scans removed forgotten) = ⊥
  MayWithin s (Prepares req moment) = ⊥
  MayWithin s (Finalizes req) = ⊥
  MayWithin s BeginsRollback = ⊥
  MayWithin s (CommitsRollback req names) = ⊥
  MayWithin s (AnswersCall req answer over) = May config heard s (AnswersCall req answer over) × ((is_location answer && not over) ≡ false)
  MayWithin s move = May config heard s move

  pub may_within : (s : State) (move : Move) → MayWithin s move → May config heard s move × (is_alone move ≡ false)
  may_within s (Scans removed forgotten) may = absurd may
  may_within s (Prepares req moment) may = absurd may
  may_within s (Finalizes req) may = absurd may
  may_within s BeginsRollback may = absurd may
  may_within s (CommitsRollback req names) may = absurd may
  may_within s (Begins chunk purpose call beside) may = (may, refl)
  may_within s (Makes targets req path) may = (may, refl)
  may_within s (Copies old view req beside) may = (may, refl)
  may_within s (Hears chunk asking) may = (may, refl)
  may_within s (Sends chunk asking source target) may = (may, refl)
  may_within s (Settles chunk asking carried view) may = (may, refl)
  may_within s (Edits req edit answer) may = (may, refl)
  may_within s (Extends req path chunk view) may = (may, refl)
  may_within s (CopiesTree req from to) may = (may, refl)
  may_within s (Replaces path index old new) may = (may, refl)
  may_within s (Refuses req refusal over) may = (may, refl)
  may_within s (AnswersCall req answer over) may = may
  may_within s (Waits req waiting) may = (may, refl)
  may_within s (Restores server chunks) may = (may, refl)
  may_within s (Says messages) may = (may, refl)
  may_within s (Flags req preparing epoch) may = (may, refl)
  may_within s (TellsRollback req epoch) may = (may, refl)
  may_within s Checkpoints may = (may, refl)

  abbrev pub Chained : State → Turn → Type 0
  Chained s t = Chain config (λ u move. MayWithin u move × IsFor heard u move) s t

  -- turns that end one epoch at most
  abbrev pub Turned : State → Turn → Type 0
  Turned s t = EndsOnce config (λ u move. May config heard u move × IsFor heard u move) s t

  pub within : {s : State} {t : Turn} → Chained s t → Turned s t
  within {s} {t} chain =
      Within s t (mapped config (λ u move. MayWithin u move × IsFor heard u move) (λ u move. (May config heard u move × IsFor heard u move) × (is_alone move ≡ false))
      (λ u move both. (let may = may_within u move both.0 in ((may.0, both.1), may.1))) s t chain)

  pub rests : (s : State) → Chained s (unmoved s)
  rests s = Rests s None

  pub then_chain : (s : State) (t : Turn) (f : State → Turn) → Chained s t → Chained t.after (f t.after) → Chained s (and_then t f)
  then_chain s t f a b = Then s t (f t.after) a b

  -- a call that doesn't wait may be refused
  abbrev pub MayRefuse : State → ReqId → Type 0
  MayRefuse s req = IsRefusable heard s req false

  pub refused_chain : (s : State) (req : ReqId) → MayRefuse s req → (refusal : Refusal) → Chained s (refused s req refusal)
  refused_chain s req may refusal = Moves s (Refuses req refusal false) (Some refusal) (may, tt)

  pub ended_chain : (s : State) (req : ReqId) → is_pending s.volatile.pending req ≡ true → (refusal : Refusal) → Chained s (ended_by s req refusal)
  ended_chain s req waits refusal = Moves s (Refuses req refusal true) None (waits, tt)

  -- each of them still waits when those before it have ended
  pub all_ended_chain : (reqs : List ReqId) (refusal : Refusal) (s : State) → AllPending s.volatile.pending reqs → Chained s (all_ended_by s reqs refusal)
  all_ended_chain [] refusal s all = rests s
  all_ended_chain (req ∷ reqs) refusal s all =
      then_chain s (ended_by s req refusal) (λ next. all_ended_by next reqs refusal) (ended_chain s req all.0 refusal)
      (all_ended_chain reqs refusal (ended_by s req refusal).after (subst (λ ps. AllPending ps reqs) (sym (ended_pending s req refusal)) all.1))

  pub room_chain : (s : State) (req : ReqId) → MayRefuse s req → (t : Turn) → Chained s t → Chained s (if_room s t (refused s req refusals.Full))
  room_chain s req may t a = pick (Chained s) (fits s.log t.records) t (refused s req refusals.Full) a (refused_chain s req may refusals.Full)

  -- calls that wait are refused, behind a scan, or behind the beginning of a rollback
  pub closing_chain : (reqs : List ReqId) (refusal : Refusal) (s : State) → AllPending s.volatile.pending reqs → Chain config (λ u move. (May config heard u move × IsFor heard u move) × (closes move ≡ true)) s (all_ended_by s reqs refusal)
  closing_chain [] refusal s all = Rests s None
  closing_chain (req ∷ reqs) refusal s all =
      let t = ended_by s req refusal in
      Then s t (all_ended_by t.after reqs refusal) (Moves s (Refuses req refusal true) None ((all.0, tt), refl)) (closing_chain reqs refusal t.after (subst (λ ps. AllPending ps reqs) (sym (ended_pending s req refusal)) all.1))

  pub room_turned : (s : State) (req : ReqId) → MayRefuse s req → (t : Turn) → Turned s t → Turned s (if_room s t (refused s req refusals.Full))
  room_turned s req may t a = pick (Turned s) (fits s.log t.records) t (refused s req refusals.Full) a (within (refused_chain s req may refusals.Full))

  pub test_turned : (s : State) (b : Bool) (t u : Turn) → (b ≡ true → Turned s t) → (b ≡ false → Turned s u) → Turned s (if b then t else u)
  test_turned s true t u f g = f refl
  test_turned s false t u f g = g refl

  -- where the test says which
  pub test_chain : (s : State) (b : Bool) (t u : Turn) → (b ≡ true → Chained s t) → (b ≡ false → Chained s u) → Chained s (if b then t else u)
  test_chain s true t u f g = f refl
  test_chain s false t u f g = g refl

  pub answered_chain : (s : State) (req : ReqId) (answer : Answer) → is_location answer ≡ false → Chained s (answered_with s req answer)
  answered_chain s req answer plain = Moves s (AnswersCall req answer false) None (((plain_right s answer plain, tt, plain_called heard s req answer plain), ap (λ b. b && true) plain), plain_for heard s req answer false plain)

  pub looked_chain : (s : State) (req : ReqId) → MayRefuse s req → (result : Result Answer Refusal) → is_located result ≡ false → Chained s (looked_up s req result)
  looked_chain s req may (Ok answer) plain = answered_chain s req answer plain
  looked_chain s req may (Err refusal) plain = refused_chain s req may refusal

  -- ---- what is begun

  begun_entry : (s : State) (chunk c : ℕ) (purpose : Purpose) (call : Option ReqId) → has_entry (begun s chunk purpose call).after c ≡ has_entry s c
  unfolding applied
  begun_entry s chunk c purpose call = by_fit (may_propose s.durable.phase s.durable.next_handle s.durable.next_version chunk s.durable.next_version (fin.get s.durable.chunks chunk))
    where
      by_fit : (b : Bool) → (is_listed (unwrap_or (if_fits b (proposed s.durable chunk s.durable.next_version)) s.durable) c || is_member s.volatile.unplaced c) ≡ has_entry s c
      by_fit true = refl
      by_fit false = refl

  all_entries : (many : List ℕ) (s : State) (chunk : ℕ) (purpose : Purpose) (call : Option ReqId) → list_all (has_entry s) many ≡ true → list_all (has_entry (begun s chunk purpose call).after) many ≡ true
  all_entries [] s chunk purpose call all = refl
  all_entries (c ∷ many) s chunk purpose call all =
      let parts = and_parts (has_entry s c) (list_all (has_entry s) many) all in
      ap (λ b. b && list_all (has_entry (begun s chunk purpose call).after) many) (begun_entry s chunk c purpose call ∙ parts.0) ∙ all_entries many s chunk purpose call parts.1

  pub all_begun_chain : (many : List ℕ) (call : Option ReqId) (s : State) → list_all (has_entry s) many ≡ true → Chained s (all_begun s many purposes.Quiet call)
  all_begun_chain [] call s all = rests s
  all_begun_chain (chunk ∷ many) call s all =
      let parts = and_parts (has_entry s chunk) (list_all (has_entry s) many) all in
      let next = begun s chunk purposes.Quiet call in
      then_chain s next (λ after. all_begun after many purposes.Quiet call) (Moves s (Begins chunk purposes.Quiet call Alone) None (record { known = parts.0; alone = tt; elsewhere = tt; called = tt; clear = tt; begun = tt }, tt))
      (all_begun_chain many call next.after (all_entries many s chunk purposes.Quiet call parts.1))
