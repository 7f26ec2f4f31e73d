-- Turns whose records fit and that keep what stands, and how they follow one another.
use Rattle.std.proofs.Common.{◌≡◌, ◌∙◌, ◌&&◌, ℕ, Bool, true, false, not, List, [], ◌∷◌, ◌++◌, refl, ap, subst, sym}
use Rattle.std.specs.Prelude.{fold, is_some, option_and_then, unwrap_or, Option, Some, None, Result, Ok, Err, if◌then◌else◌}
use Rattle.std.specs.FinMap as fin
use Rattle.std.proofs.lemmas.Bool.{false≢true, and_parts}
use Rattle.gs_base.specs.Members.{is_member}
use Rattle.gs_base.specs.declared.numbers.ReqId.{ReqId}
use Rattle.gs_base.specs.declared.refusal.Refusal.{Refusal}
use Rattle.gs_base.specs.declared.refusal.Refusal.TheVariants as refusals
use Rattle.gs_edit.specs.View.{NamesView}
use Rattle.gs_msg.specs.declared.answer.Answer.{Answer}
use Rattle.gs_master_record.specs.Plain.{PlainEdit, PlainEntry, Edited, Said}
use Rattle.gs_master_spec.specs.Applied.{after_edit, applied, forgotten_by, may_edit, replayed, with_edit, with_reply, without_chunks}
use Rattle.gs_master_spec.specs.Calls.{accept_plan, answered_with, edit_if, edited_by, looked_up}
use Rattle.gs_master_spec.specs.Durable.{Durable, is_rolling}
use Rattle.gs_master_spec.specs.Replies.{client_cmp, is_later, later}
use Rattle.gs_master_spec.specs.State.{State, Plan, Turn, turned, unmoved, and_then, fits, if_room, with_record, refused, ended_by, all_ended_by, is_kept, keeps_refusal, kept_in_memory, last_reply, refusal_plan, said_changes, said_records, end_changes, answer_changes}
use Rattle.gs_master_spec.specs.Undoing.{edited_names}
use Rattle.gs_master_spec.specs.Volatile.{Volatile, all_changed, is_call, without_pending}
use Rattle.gs_master_spec.specs.declared.asking.Asking.{Asking}
use Rattle.gs_master_spec.specs.declared.change.Change.{Change}
use Rattle.gs_master_spec.specs.declared.reply.KeptReply.{KeptReply}
use Rattle.gs_laws_master.specs.Numbered.{HasNumbers}
use Rattle.gs_laws_master.specs.Promises.{AllFit}
use Rattle.gs_laws_master.specs.Standing.{Stands}
use Rattle.gs_laws_master.proofs.lemmas.fitting.Accepted.{Goes, edit_applies, then_goes}
use Rattle.gs_laws_master.proofs.lemmas.upgrades.Beginnings.{fits_gives}
use Rattle.gs_laws_master.proofs.lemmas.keeping.KeptEdits.{AnswersTold, forgets_only}
use Rattle.gs_laws_master.proofs.lemmas.names.Numbered.{keeps_numbers}
use Rattle.gs_laws_master.proofs.lemmas.standing.Standing.{NotAsked, changed_more, ends, keep, recorded}
use Rattle.gs_laws_master.proofs.lemmas.standing.StandingRecords.{MayStand, edit_onto, said_onto}
use Rattle.gs_laws_master.proofs.lemmas.names.StillNamed.{IsTold}

-- What stands; and where it is asked for, no call waits while an upgrade is rolled back.
pub record Holds (b : Bool) (s : State) : Type 0 where
  pub stands : Stands s.durable s.volatile
  pub rolling : b ≡ true → is_rolling s.durable.phase ≡ true → s.volatile.pending ≡ []

-- the records fit, and so it is afterwards
pub record Good (b : Bool) (s : State) (t : Turn) : Type 0 where
  pub fits : AllFit s t
  pub holds : Holds b t.after
  pub numbers : HasNumbers s.durable → HasNumbers t.after.durable

as_goes : (s : State) (t : Turn) → AllFit s t → Goes ⊥ s t
as_goes s t f = record { fits = f; kept = λ t k. absurd t }

one_fits : (d e : Durable) (o : Option Durable) → o ≡ Some e → option_and_then (λ n. Some n) o ≡ Some (unwrap_or o d)
one_fits d e None is = absurd (false≢true (ap is_some is))
one_fits d e (Some n) is = refl

module _ (b : Bool) where
  pub then_good : (s : State) (t : Turn) (f : State → Turn) → Good b s t → Good b t.after (f t.after) → Good b s (and_then t f)
  then_good s t f one next = record { fits = (then_goes ⊥ s t f (as_goes s t one.fits) (as_goes t.after (f t.after) next.fits)).fits; holds = next.holds; numbers = λ n. next.numbers (one.numbers n) }

  pub test_good : (s : State) (c : Bool) (t u : Turn) → (c ≡ true → Good b s t) → (c ≡ false → Good b s u) → Good b s (if c then t else u)
  test_good s true t u f g = f refl
  test_good s false t u f g = g refl

  pub same_good : (s : State) (t : Turn) → t.after ≡ s → t.records ≡ [] → Holds b s → Good b s t
  same_good s t same none h = record { fits = ap (replayed s.durable) none ∙ ap (λ (x : State). Some x.durable) (sym same); holds = subst (Holds b) (sym same) h; numbers = λ n. subst (λ (x : State). HasNumbers x.durable) (sym same) n }

  pub one_good : (s : State) (entry : PlainEntry) (plan : Plan) (e : Durable) → applied s.durable entry ≡ Some e → Stands e (all_changed s.volatile plan.changes)
      → (b ≡ true → is_rolling e.phase ≡ true → (all_changed s.volatile plan.changes).pending ≡ []) → (HasNumbers s.durable → HasNumbers e) → Good b s (turned s (record plan { records = entry ∷ [] }))
  one_good s entry plan e is stands rolling numbers = record {
    numbers = λ n. subst (λ o. HasNumbers (unwrap_or o s.durable)) (sym is) (numbers n);
    fits = one_fits s.durable e (applied s.durable entry) is;
    holds = record {
      stands = subst (λ o. Stands (unwrap_or o s.durable) (all_changed s.volatile plan.changes)) (sym is) stands;
      rolling = subst (λ o. b ≡ true → is_rolling (unwrap_or o s.durable).phase ≡ true → (all_changed s.volatile plan.changes).pending ≡ []) (sym is) rolling;
    };
  }

  pub none_good : (s : State) (plan : Plan) → Stands s.durable (all_changed s.volatile plan.changes) → (b ≡ true → is_rolling s.durable.phase ≡ true → (all_changed s.volatile plan.changes).pending ≡ []) → Good b s (turned s (record plan { records = [] }))
  none_good s plan stands rolling = record { numbers = λ n. n; fits = refl; holds = record { stands = stands; rolling = rolling } }

-- an edit leaves the phase
pub phase_stays : (d : Durable) (chunks : List ℕ) → (without_chunks d chunks).phase ≡ d.phase
phase_stays d chunks = ap (λ (x : Durable). x.phase) (forgets_only d chunks)

pub edited_phase : (d e : Durable) (by : ReqId) (edit : PlainEdit) → applied d (Edited by edit) ≡ Some e → e.phase ≡ d.phase
unfolding applied
edited_phase d e by edit fit = by_names (edited_names edit d.names) fit
  where
    by_names : (names : Result NamesView Refusal) → after_edit d by edit names ≡ Some e → e.phase ≡ d.phase
    by_names (Ok names) k = ap (λ (x : Durable). x.phase) (sym (fits_gives (may_edit d edit) (with_edit d by edit names) e k).1) ∙ phase_stays d (forgotten_by edit)
    by_names (Err refusal) k = absurd (false≢true (ap is_some k))

-- ---- refusals

-- what a refusal records leaves the names
said_numbers : (s : State) (req : ReqId) (refusal : Refusal) → HasNumbers s.durable → HasNumbers (fold with_record s (said_records (keeps_refusal s req refusal) s.log req refusal)).durable
unfolding applied
said_numbers s req refusal n = by_test (keeps_refusal s req refusal && fits s.log (Said req refusal ∷ []))
  where
    by_test : (b : Bool) → HasNumbers (fold with_record s (if b then Said req refusal ∷ [] else [])).durable
    by_test true = record { now = n.now; before = n.before }
    by_test false = n

-- What a refusal leaves: perhaps a record of it, or a reply in memory.
module _ (s : State) (req : ReqId) (refusal : Refusal) (h : Stands s.durable s.volatile) where
  abbrev Leaves_all : (Durable → Volatile → Type 0) → List Change → Type 0
  Leaves_all P further = (d : Durable) (replies : fin.FinMap client_cmp KeptReply) → Stands d (record (s.volatile) { replies = replies }) → d.phase ≡ s.durable.phase → P d (all_changed (record (s.volatile) { replies = replies }) further)

  said_left : (P : Durable → Volatile → Type 0) (further : List Change) → Leaves_all P further
      → P (fold with_record s (said_records (keeps_refusal s req refusal) s.log req refusal)).durable (all_changed s.volatile (said_changes (keeps_refusal s req refusal) s.log req refusal ++ further))
  unfolding applied
  said_left P further all = by_tests (keeps_refusal s req refusal) refl (fits s.log (Said req refusal ∷ [])) refl
    where
      told : Durable
      told = record (s.durable) { replies = with_reply s.durable.replies req (Err refusal) }

      said : applied s.durable (Said req refusal) ≡ Some told
      said = refl

      reply : KeptReply
      reply = record { number = req.number; result = Err refusal }

      by_tests : (k : Bool) → keeps_refusal s req refusal ≡ k → (f : Bool) → fits s.log (Said req refusal ∷ []) ≡ f
          → P (fold with_record s (if k && f then Said req refusal ∷ [] else [])).durable (all_changed s.volatile ((if k && not f then kept_in_memory req (Err refusal) ∷ [] else []) ++ further))
      by_tests true keeps true fit =
          subst (λ o. P (unwrap_or o s.durable) (all_changed s.volatile further)) (sym said) (all told s.volatile.replies (recorded s.durable told s.volatile (said_onto s.durable told s.volatile req refusal h said) h) refl)
      by_tests true keeps false fit =
          all s.durable (fin.insert s.volatile.replies req.client reply) (keep s.durable s.volatile h req.client reply (and_parts (is_kept refusal) (is_later (last_reply s req.client) req.number) keeps).1) refl
      by_tests false keeps f fit = all s.durable s.volatile.replies h refl

  refused_fits : (further : List Change) (said : Option Refusal) → AllFit s (turned s (refusal_plan s req refusal further said))
  unfolding applied
  refused_fits further said = by_test (keeps_refusal s req refusal && fits s.log (Said req refusal ∷ []))
    where
      by_test : (c : Bool) → replayed s.durable (if c then Said req refusal ∷ [] else []) ≡ Some (fold with_record s (if c then Said req refusal ∷ [] else [])).durable
      by_test true = refl
      by_test false = refl

module _ (b : Bool) where
  pub refused_good : (s : State) (req : ReqId) (refusal : Refusal) → Holds b s → Good b s (refused s req refusal)
  refused_good s req refusal h = record {
    numbers = said_numbers s req refusal;
    fits = refused_fits s req refusal h.stands [] (Some refusal);
    holds = (let l = said_left s req refusal h.stands (λ d w. Stands d w × (b ≡ true → is_rolling d.phase ≡ true → w.pending ≡ [])) [] (λ d replies stands phase. (stands, λ e r. h.rolling e (ap is_rolling (sym phase) ∙ r))) in
        record { stands = l.0; rolling = l.1 });
  }

  pub room_good : (s : State) (req : ReqId) (t : Turn) → Holds b s → Good b s t → Good b s (if_room s t (refused s req refusals.Full))
  room_good s req t h a = test_good b s (fits s.log t.records) t (refused s req refusals.Full) (λ c. a) (λ c. refused_good s req refusals.Full h)

  record IsLeft (s : State) (req : ReqId) (d : Durable) (w : Volatile) : Type 0 where
    stands : Stands d w
    phase : d.phase ≡ s.durable.phase
    pending : w.pending ≡ without_pending s.volatile.pending req
    preparing : w.is_preparing ≡ s.volatile.is_preparing
    placed : ((c : ℕ) (a : Asking) → fin.get s.volatile.moving c ≡ Some a → is_call req a.call ≡ true → is_member s.volatile.unplaced c ≡ false) → w.unplaced ≡ s.volatile.unplaced
    bare : (c : ℕ) → fin.get s.volatile.moving c ≡ None → fin.get w.moving c ≡ None
    fewer : (q : ReqId) → NotAsked s.volatile q → NotAsked w q

  -- a call that waits is refused, and ends
  pub record IsGivenUp (s : State) (req : ReqId) (t : Turn) : Type 0 where
    pub good : Good b s t
    pub pending : t.after.volatile.pending ≡ without_pending s.volatile.pending req
    pub preparing : t.after.volatile.is_preparing ≡ s.volatile.is_preparing
    pub placed : ((c : ℕ) (a : Asking) → fin.get s.volatile.moving c ≡ Some a → is_call req a.call ≡ true → is_member s.volatile.unplaced c ≡ false) → t.after.volatile.unplaced ≡ s.volatile.unplaced
    pub bare : (c : ℕ) → fin.get s.volatile.moving c ≡ None → fin.get t.after.volatile.moving c ≡ None
    pub fewer : (q : ReqId) → NotAsked s.volatile q → NotAsked t.after.volatile q

  pub given_up : (s : State) (req : ReqId) (refusal : Refusal) → Holds b s → IsGivenUp s req (ended_by s req refusal)
  given_up s req refusal h =
      let l = said_left s req refusal h.stands (IsLeft s req) (end_changes s req)
      (λ d replies stands phase. (let e = ends req d (record (s.volatile) { replies = replies }) stands in record { stands = e.stands; phase = phase; pending = e.pending; preparing = e.preparing; placed = e.placed; bare = e.bare; fewer = e.fewer })) in
      record {
        good = record {
          numbers = said_numbers s req refusal;
          fits = refused_fits s req refusal h.stands (end_changes s req) None;
          holds = record { stands = l.stands; rolling = λ e r. l.pending ∙ ap (λ ps. without_pending ps req) (h.rolling e (ap is_rolling (sym l.phase) ∙ r)) };
        };
        pending = l.pending;
        preparing = l.preparing;
        placed = l.placed;
        bare = l.bare;
        fewer = l.fewer;
      }

  pub all_given_up : (reqs : List ReqId) (refusal : Refusal) (s : State) → Holds b s → Good b s (all_ended_by s reqs refusal)
  all_given_up [] refusal s h = same_good b s (unmoved s) refl refl h
  all_given_up (req ∷ reqs) refusal s h =
      let one = (given_up s req refusal h).good in then_good b s (ended_by s req refusal) (λ next. all_ended_by next reqs refusal) one (all_given_up reqs refusal (ended_by s req refusal).after one.holds)

  -- ---- answers of which no record tells

  -- behind other changes
  pub answered_last : (s : State) (d : Durable) (req : ReqId) (answer : Answer) (before : List Change) → (d.replies ≡ s.durable.replies) → ((all_changed s.volatile before).replies ≡ s.volatile.replies) → Stands d (all_changed s.volatile before)
      → Stands d (all_changed s.volatile (before ++ answer_changes s req answer)) × ((all_changed s.volatile (before ++ answer_changes s req answer)).pending ≡ (all_changed s.volatile before).pending)
  answered_last s d req answer before durable volatile h =
      subst (λ (w : Volatile). Stands d w × (w.pending ≡ (all_changed s.volatile before).pending)) (sym (changed_more before (answer_changes s req answer) s.volatile)) (by_test (is_later (last_reply s req.client) req.number) refl)
    where
      w : Volatile
      w = all_changed s.volatile before

      reply : KeptReply
      reply = record { number = req.number; result = Ok answer }

      by_test : (c : Bool) → is_later (last_reply s req.client) req.number ≡ c → Stands d (all_changed w (if c then kept_in_memory req (Ok answer) ∷ [] else [])) × ((all_changed w (if c then kept_in_memory req (Ok answer) ∷ [] else [])).pending ≡ w.pending)
      by_test true new = (keep d w h req.client reply (ap (λ m. is_later (later (fin.get m req.client) (fin.get w.replies req.client)) req.number) durable ∙ ap (λ m. is_later (later (fin.get s.durable.replies req.client) (fin.get m req.client)) req.number) volatile ∙ new), refl)
      by_test false new = (h, refl)

  pub answered_good : (s : State) (req : ReqId) (answer : Answer) → Holds b s → Good b s (answered_with s req answer)
  answered_good s req answer h =
      let l = answered_last s s.durable req answer [] refl refl h.stands in
      record { numbers = λ n. n; fits = refl; holds = record { stands = l.0; rolling = λ e r. l.1 ∙ h.rolling e r } }

  pub looked_good : (s : State) (req : ReqId) (result : Result Answer Refusal) → Holds b s → Good b s (looked_up s req result)
  looked_good s req (Ok answer) h = answered_good s req answer h
  looked_good s req (Err refusal) h = refused_good s req refusal h

  -- ---- edits

  edit_good : (s : State) (req : ReqId) (edit : PlainEdit) (answer : Answer) → Holds b s → ((names : NamesView) → edited_names edit s.durable.names ≡ Ok names → may_edit s.durable edit ≡ true) → IsTold edit → AnswersTold s.durable edit → MayStand edit s.volatile
      → (is_rolling s.durable.phase ≡ false) → (names : Result NamesView Refusal) → edited_names edit s.durable.names ≡ names → Good b s (edit_if s req edit answer names)
  edit_good s req edit answer h may told answers stand rolling (Ok names) e =
      let fit = edit_applies ⊥ s.durable req edit names e (may names e) in
      let next = with_edit s.durable req edit names in
      room_good s req (turned s (accept_plan req edit answer)) h
      (one_good b s (Edited req edit) (accept_plan req edit answer) next fit (recorded s.durable next s.volatile (edit_onto s.durable next s.volatile req edit h.stands told answers stand fit) h.stands)
      (λ c r. h.rolling c (ap is_rolling (sym (phase_stays s.durable (forgotten_by edit))) ∙ r)) (λ n. keeps_numbers (Edited req edit) refl s.durable next told h.stands.kept n fit))
  edit_good s req edit answer h may told answers stand rolling (Err refusal) e = refused_good s req refusal h

  pub edited_good : (s : State) (req : ReqId) (edit : PlainEdit) (answer : Answer) → Holds b s → ((names : NamesView) → edited_names edit s.durable.names ≡ Ok names → may_edit s.durable edit ≡ true) → IsTold edit → AnswersTold s.durable edit
      → MayStand edit s.volatile → is_rolling s.durable.phase ≡ false → Good b s (edited_by s req edit answer)
  edited_good s req edit answer h may told answers stand rolling = edit_good s req edit answer h may told answers stand rolling (edited_names edit s.durable.names) refl
