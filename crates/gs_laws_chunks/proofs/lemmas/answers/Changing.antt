-- The turns of a master while a change of the tree is under way.
use Rattle.std.proofs.Common.{if◌then◌else◌, ◌≡◌, ◌∙◌, inl, inr, ◌<◌, ◌≤◌, ℕ, suc, Bool, true, false, List, [], ◌∷◌, Option, Some, None, Result, Ok, Err, refl, sym, ap, subst, arith}
use Rattle.std.specs.Prelude.{◌&&◌, ◌==◌, is_none, nat_lt, not}
use Rattle.std.specs.FinMap as fin
use Rattle.gs_base.specs.Told.{IsNumber}
use Rattle.std.proofs.lemmas.Bool.{false≢true}
use Rattle.std.proofs.lemmas.Bool.Decides.{nat_tests}
use Rattle.gs_base.specs.declared.config.Config.{Config}
use Rattle.gs_base.specs.declared.numbers.ClientId.{ClientId}
use Rattle.gs_base.specs.declared.numbers.Moment.{Moment}
use Rattle.gs_base.specs.declared.numbers.ReqId.{ReqId}
use Rattle.gs_base.specs.declared.refusal.Refusal.{Refusal}
use Rattle.gs_base.specs.declared.refusal.Refusal.TheVariants as refusals
use Rattle.gs_edit.specs.Plain.{unhide_target}
use Rattle.gs_edit.specs.View.{NamesView}
use Rattle.gs_msg.specs.declared.answer.Answer.{Answer}
use Rattle.gs_msg.specs.declared.answer.Answer.TheVariants as answers
use Rattle.gs_msg.specs.declared.body.Body.{Body}
use Rattle.gs_msg.specs.declared.body.Body.TheVariants as bodies
use Rattle.gs_msg.specs.declared.call.Call.{Call}
use Rattle.gs_msg.specs.declared.call.Call.TheVariants as calls
use Rattle.gs_msg.specs.declared.message.Message.{Message}
use Rattle.gs_msg.specs.declared.node.NodeId.{NodeId}
use Rattle.gs_msg.specs.declared.node.NodeId.TheVariants as nodes
use Rattle.gs_path.specs.Path.{Path}
use Rattle.gs_tree.specs.Edits.{hidden_path, old_name, same_path, target_of}
use Rattle.gs_laws_moves.proofs.lemmas.answers.AtOnce.{pick}
use Rattle.gs_master_record.specs.Plain.{Create, Hide, Mkdirs, PlainEdit, Rename, Unhide}
use Rattle.gs_master_spec.specs.Applied.{replayed}
use Rattle.gs_master_spec.specs.Durable.{Durable}
use Rattle.gs_master_spec.specs.Handling.{Again, New, Numbered, Older, call_turn, called_unless, from_node, handle, new_call, numbered, refusal_in, replied_again, taken_as, waits_still}
use Rattle.gs_master_spec.specs.Outcomes.{cut}
use Rattle.gs_master_spec.specs.Calls.{accept_plan, answered_with, deleted, edit_if, edited_by, has_visible_child, refused_before}
use Rattle.gs_master_spec.specs.Replies.{is_later}
use Rattle.gs_master_spec.specs.State.{Failed, Fault, Sound, State, Turn, Unopened, fits, is_failed, is_kept, is_unopened, last_reply, refused, reply_to, turned, unmoved}
use Rattle.gs_master_spec.specs.declared.reply.KeptReply.{KeptReply}
use Rattle.gs_master_spec.specs.Undoing.{edited_names}
use Rattle.gs_master_spec.specs.Volatile.{is_pending}
use Rattle.gs_laws_master.proofs.lemmas.refusals.Refusing.{refused_leaves}
use Rattle.gs_laws_master.proofs.lemmas.standing.StandingRuns.{events_fit}
use Rattle.gs_laws_master.specs.Standing.{Comes as Comes_to, IsFirm, IsNamedBody, IsNamedCall}
use Rattle.gs_laws_moves.specs.answers.AtOnce.{AnswersAlone, OneSays}
use Rattle.gs_laws_moves.specs.answers.Changes.{Changes, edit_for, is_change, number_after, names_after}
use Rattle.gs_laws_moves.proofs.lemmas.answers.Changes.{changes_are_made, changes_at_once, refused_changes_leave}
use Rattle.gs_laws_moves.specs.answers.Concerned.{AnswersOnly, IsConcerned}
use Rattle.gs_laws_moves.specs.answers.Resting.{HasHad, IsFrom, LeavesNames}
use Rattle.gs_laws_moves.proofs.lemmas.answers.Resting.{no_answer, sound_so}
use Rattle.gs_laws_chunks.specs.answers.Changed.{CallsSo, IsEdited, IsOwnLooksOrOld, StandsEither}
use Rattle.gs_laws_chunks.specs.answers.Resting.{IsOldOrLooks, StandsStill}
use Rattle.gs_laws_chunks.proofs.lemmas.answers.Behind.{turn_is}
use Rattle.gs_laws_chunks.proofs.lemmas.answers.Resting.{TurnStill, below_more, heard_still, nobody_still}
use Rattle.gs_laws_chunks.proofs.lemmas.answers.Staying.{TurnSo}

-- ---- a change that is accepted fits what a firm master has

opened : (f : Fault) → is_failed f ≡ false → is_unopened f ≡ false
opened Sound is = refl
opened (Failed doubt) is = refl
opened (Unopened doubt) is = absurd (false≢true (sym is))

module _ (config : Config) (s : State) (req : ReqId) (moment : Moment) (call : Call) where
  abbrev its_message : Message
  its_message = record { from = nodes.Client req.client; to = nodes.Master; body = bodies.Call req call }

  handles : handle config s its_message moment ≡ call_turn config s req moment call
  unfolding handle
  handles = refl

  accepted_sound : (answer : Answer) → OneSays req (Ok answer) (new_call config s req moment call).sent → is_failed s.fault ≡ false
  accepted_sound answer says = by_refusal (refused_before s req call) refl says
    where
      by_refusal : (o : Option Refusal) → refused_before s req call ≡ o → OneSays req (Ok answer) (called_unless config s req moment call o).sent → is_failed s.fault ≡ false
      by_refusal None none says = sound_so s req call none
      by_refusal (Some refusal) none says = no_answer req refusal answer [] says

  pub firm_changes : (answer : Answer) → is_change call ≡ true → IsNamedCall call → IsNumber moment.0 → (is_failed s.fault ≡ false → IsFirm s) → is_pending s.volatile.pending req ≡ false → numbered (last_reply s req.client) req.number ≡ New
      → OneSays req (Ok answer) (new_call config s req moment call).sent → Changes s req (edit_for s.durable moment call) (new_call config s req moment call)
  firm_changes answer is named bound firm apart new says = changes_are_made config s req moment call answer is new says (fit (accepted_sound answer says))
    where
      fit : is_failed s.fault ≡ false → replayed s.durable (new_call config s req moment call).records ≡ Some (new_call config s req moment call).after.durable
      fit sound =
          subst (λ (u : Turn). replayed s.durable u.records ≡ Some u.after.durable) (handles ∙ turn_is config s req moment call (opened s.fault sound) apart new)
          (events_fit config s (Comes_to its_message moment) (named, bound) (firm sound)).fits

-- ---- its client has had a refusal that is kept

had_of : (number : ℕ) (o : Option KeptReply) → not (is_later o number) ≡ true → IsFrom number o
had_of number None answered = absurd (false≢true answered)
had_of number (Some r) answered = record { reply = r; has = refl; late = not_lower r.number number answered }
  where
    not_lower : (a b : ℕ) → not (nat_lt a b) ≡ true → b ≤ a
    not_lower a b is = grind (arith, nat_tests)

refused_had : (s : State) (req : ReqId) (refusal : Refusal) → is_kept refusal ≡ true → HasHad (refused s req refusal).after req.client req.number
refused_had s req refusal kept = had_of req.number (last_reply (refused s req refusal).after req.client) ((refused_leaves s req refusal refusal refl).over kept)

module _ (s : State) (req : ReqId) (refusal : Refusal) (kept : is_kept refusal ≡ true) where
  abbrev Had : Turn → Type 0
  Had t = OneSays req (Err refusal) t.sent → HasHad t.after req.client req.number

  refusal_is : (other : Refusal) → OneSays req (Err refusal) (reply_to req (Err other) ∷ []) → other ≡ refusal
  refusal_is other (inl is) = same is
    where
      same : bodies.Reply req (Err other) ≡ bodies.Reply req (Err refusal) → other ≡ refusal
      same e = cc
  refusal_is other (inr none) = absurd none

  no_refusal : {T : Type 0} (answer : Answer) → OneSays req (Err refusal) (reply_to req (Ok answer) ∷ []) → T
  no_refusal answer (inl is) = absurd (never is)
    where
      never : bodies.Reply req (Ok answer) ≡ bodies.Reply req (Err refusal) → ⊥
      never e = cc
  no_refusal answer (inr none) = absurd none

  other_had : (other : Refusal) → Had (refused s req other)
  other_had other says = refused_had s req other (subst (λ e. is_kept e ≡ true) (sym (refusal_is other says)) kept)

  edit_had : (edit : PlainEdit) (answer : Answer) (names : Result NamesView Refusal) → Had (edit_if s req edit answer names)
  edit_had edit answer (Err other) says = other_had other says
  edit_had edit answer (Ok names) says = by_room (fits s.log (turned s (accept_plan req edit answer)).records) says
    where
      by_room : (room : Bool) → OneSays req (Err refusal) (if room then turned s (accept_plan req edit answer) else refused s req refusals.Full).sent → HasHad (if room then turned s (accept_plan req edit answer) else refused s req refusals.Full).after req.client req.number
      by_room true says = no_refusal answer says
      by_room false says = other_had refusals.Full says

  deleted_had : (moment : Moment) (path : Path) (recursive : Bool) → Had (deleted s req path recursive moment)
  deleted_had moment path recursive =
      let number = s.durable.next_hidden in
      let hide = Hide path moment.0 number in
      let answer = answers.Path (hidden_path path moment.0 number) in
      let made = edited_by s req hide answer in
      let numbered_so = if number == 0 then refused s req refusals.Exhausted else made in
      let allowed = if not recursive && has_visible_child (fin.entries s.durable.names.tree) path then refused s req refusals.NotEmpty else numbered_so in
      let found = if is_none (fin.get s.durable.names.tree path) then answered_with s req answers.Absent else allowed in
      pick Had (same_path path []) (refused s req refusals.IsRoot) found (other_had refusals.IsRoot)
      (pick Had (is_none (fin.get s.durable.names.tree path)) (answered_with s req answers.Absent) allowed (λ says. no_refusal answers.Absent says)
      (pick Had (not recursive && has_visible_child (fin.entries s.durable.names.tree) path) (refused s req refusals.NotEmpty) numbered_so (other_had refusals.NotEmpty)
      (pick Had (number == 0) (refused s req refusals.Exhausted) made (other_had refusals.Exhausted) (edit_had hide answer (edited_names hide s.durable.names)))))

  called_had : (config : Config) (moment : Moment) (call : Call) → is_change call ≡ true → (o : Option Refusal) → Had (called_unless config s req moment call o)
  called_had config moment call is (Some other) = other_had other
  called_had config moment (calls.Mkdirs path) is None = edit_had (Mkdirs path) answers.Nothing (edited_names (Mkdirs path) s.durable.names)
  called_had config moment (calls.Create path) is None = edit_had (Create path) answers.Nothing (edited_names (Create path) s.durable.names)
  called_had config moment (calls.Rename from to) is None = edit_had (Rename from (target_of (fin.get s.durable.names.tree) from to)) answers.Nothing (edited_names (Rename from to) s.durable.names)
  called_had config moment (calls.Delete path recursive) is None = deleted_had moment path recursive
  called_had config moment (calls.Undelete path) is None = edit_had (Unhide path) (answers.Path (unhide_target path (old_name path))) (edited_names (Unhide path) s.durable.names)
  called_had config moment call is None = absurd (false≢true is)

-- a change that is refused is had, if the refusal is kept
pub refused_changes_had : (config : Config) (s : State) (req : ReqId) (moment : Moment) (call : Call) (refusal : Refusal) → is_change call ≡ true → is_kept refusal ≡ true → OneSays req (Err refusal) (new_call config s req moment call).sent → HasHad (new_call config s req moment call).after req.client req.number
refused_changes_had config s req moment call refusal is kept says = called_had s req refusal kept config moment call is (refused_before s req call) says

-- ---- while it is under way

-- what a call makes is by the names and the number of the next deletion
same_edit : (d e : Durable) → e.names ≡ d.names → e.next_hidden ≡ d.next_hidden → (moment : Moment) (call : Call) → edit_for e moment call ≡ edit_for d moment call
same_edit d e names hidden moment (calls.Delete path recursive) = λ i. if is_none (fin.get (names i).tree path) then None else Some (Hide path moment.0 (hidden i))
same_edit d e names hidden moment call = refl

module _ (d : Durable) (client : ClientId) (number : ℕ) (req : ReqId) (call : Call) (is : is_change call ≡ true) (mine : req.client ≡ client) where
  abbrev pub Either : State → Type 0
  Either s = StandsEither d client number req call s

  abbrev So : ReqId → Call → Type 0
  So = IsOwnLooksOrOld client number req call

  from_old : (s : State) (t : Turn) → TurnStill d client number s t → TurnSo Either s t
  from_old s t so = record { after = inl so.after; cuts = λ place within. inl (so.cuts place within) }

  from_new : (e : Durable) (moment : Moment) → IsEdited moment call d e → (s : State) (t : Turn) → TurnStill e client (suc req.number) s t → TurnSo Either s t
  from_new e moment edited s t so = record { after = inr (record { durable = e; moment = moment; edited = edited; still = so.after }); cuts = λ place within. inr (record { durable = e; moment = moment; edited = edited; still = so.cuts place within }) }

  pub nobody_either : (s : State) (t : Turn) → AnswersOnly (IsConcerned s None) s t → Either s → TurnSo Either s t
  nobody_either s t only (inl so) = from_old s t (nobody_still d client number s t only so)
  nobody_either s t only (inr new) = from_new new.durable new.moment new.edited s t (nobody_still new.durable client (suc req.number) s t only new.still)

  -- what is made of the names that stood is made of the old ones
  pub edited_then : (before : Durable) → before.names ≡ d.names → before.next_hidden ≡ d.next_hidden → before.phase ≡ d.phase → before.epoch ≡ d.epoch → (moment : Moment) (e : Durable) → names_after (edit_for before moment call) before.names ≡ Ok e.names
      → e.next_hidden ≡ number_after (edit_for before moment call) before.next_hidden → e.phase ≡ before.phase → e.epoch ≡ before.epoch → IsEdited moment call d e
  edited_then before names hidden phase epoch moment e made numbered same_phase same_epoch = (let same = same_edit d before names hidden moment call in record {
    names = sym (λ i. names_after (same i) (names i)) ∙ made;
    hidden = numbered ∙ (λ i. number_after (same i) (hidden i));
    phase = same_phase ∙ phase;
    epoch = same_epoch ∙ epoch;
  })

  -- ---- its own turn

  module _ (config : Config) (s : State) (moment : Moment) (named : IsNamedCall call) (bound : IsNumber moment.0) (firm : is_failed s.fault ≡ false → IsFirm s) (so : StandsStill d client number s) where
    quiet : (messages : List Message) (said : Option Refusal) → TurnSo Either s (record { after = s; records = []; sent = messages; said = said })
    quiet messages said = record { after = inl so; cuts = λ place within. absurd (omega arith) }

    again : (result : Result Answer Refusal) → TurnSo Either s (replied_again s req result)
    again result = quiet (reply_to req result ∷ []) (refusal_in result)

    abbrev t : Turn
    t = new_call config s req moment call

    -- accepted
    made_either : (answer : Answer) → AnswersAlone req (Ok answer) s t → Changes s req (edit_for s.durable moment call) t → Either t.after
    made_either answer alone made = inr (record {
      durable = t.after.durable;
      moment = moment;
      edited = edited_then s.durable so.names so.hidden so.phase so.epoch moment t.after.durable made.names made.hidden made.phase made.epoch;
      still = record { names = refl; hidden = refl; phase = refl; epoch = refl; none = λ other there. so.none other (alone.waits other there); had = subst (λ c. HasHad t.after c req.number) mine made.had };
    })

    -- refused
    left_either : (refusal : Refusal) → AnswersAlone req (Err refusal) s t → LeavesNames s req t → Either t.after
    left_either refusal alone leaves = inl (record {
      names = leaves.names ∙ so.names;
      hidden = leaves.hidden ∙ so.hidden;
      phase = leaves.phase ∙ so.phase;
      epoch = leaves.epoch ∙ so.epoch;
      none = λ other there. so.none other (alone.waits other there);
      had = below_more s t.after client (λ low had. subst (λ c. HasHad t.after c low) mine (leaves.had low (subst (λ c. HasHad s c low) (sym mine) had))) number so.had;
    })

    nought : {n m : ℕ} → m ≤ 1 → n < m → n ≡ 0
    nought few within = omega arith

    no_cut : (place : ℕ) → place ≡ 0 → Either (cut s t.records place)
    no_cut place same = subst (λ k. Either (cut s t.records k)) (sym same) (inl (record { names = so.names; hidden = so.hidden; phase = so.phase; epoch = so.epoch; none = so.none; had = so.had }))

    new_either : is_pending s.volatile.pending req ≡ false → numbered (last_reply s req.client) req.number ≡ New → TurnSo Either s t
    new_either apart new = by_result (changes_at_once config s req moment call is)
      where
        by_result : (result : Result Answer Refusal) × AnswersAlone req result s t → TurnSo Either s t
        by_result (Ok answer, alone) = record {
          after = made_either answer alone (firm_changes config s req moment call answer is named bound firm apart new alone.says);
          cuts = λ place within. no_cut place (nought alone.few within);
        }
        by_result (Err refusal, alone) = record { after = left_either refusal alone (refused_changes_leave config s req moment call refusal is alone.says); cuts = λ place within. no_cut place (nought alone.few within) }

    own_either : TurnSo Either s (call_turn config s req moment call)
    own_either = by_opened (is_unopened s.fault)
      where
        by_how : (how : Numbered) → numbered (last_reply s req.client) req.number ≡ how → is_pending s.volatile.pending req ≡ false → TurnSo Either s (taken_as config s req moment call how)
        by_how New new apart = new_either apart new
        by_how (Again result) new apart = again result
        by_how Older new apart = again (Err refusals.Old)

        by_fault : (b : Bool) → TurnSo Either s (if b then replied_again s req (Err refusals.Device) else unmoved s)
        by_fault true = again (Err refusals.Device)
        by_fault false = quiet [] None

        by_waits : (b : Bool) → is_pending s.volatile.pending req ≡ b → TurnSo Either s (if b then waits_still s req else taken_as config s req moment call (numbered (last_reply s req.client) req.number))
        by_waits true waits = by_fault (is_failed s.fault)
        by_waits false apart = by_how (numbered (last_reply s req.client) req.number) refl apart

        by_opened : (b : Bool) → TurnSo Either s (if b then replied_again s req (Err refusals.Device) else if is_pending s.volatile.pending req then waits_still s req else taken_as config s req moment call (numbered (last_reply s req.client) req.number))
        by_opened true = again (Err refusals.Device)
        by_opened false = by_waits (is_pending s.volatile.pending req) refl

    own_from : (from : NodeId) → TurnSo Either s (from_node config s moment (bodies.Call req call) from)
    own_from nodes.Master = quiet [] (Some refusals.Stray)
    own_from (nodes.Server server) = by_fault (is_failed s.fault)
      where
        by_fault : (b : Bool) → TurnSo Either s (if b then record { after = s; records = []; sent = []; said = Some refusals.Device } else record { after = s; records = []; sent = []; said = Some refusals.Stray })
        by_fault true = quiet [] (Some refusals.Device)
        by_fault false = quiet [] (Some refusals.Stray)
    own_from (nodes.Client other) = own_either

    own_heard : (message : Message) → message.body ≡ bodies.Call req call → TurnSo Either s (handle config s message moment)
    unfolding handle
    own_heard message asks = subst (λ (b : Body). TurnSo Either s (from_node config s moment b message.from)) (sym asks) (own_from message.from)

  -- ---- whatever it hears

  below_next : (n : ℕ) → n < suc n
  below_next n = omega arith

  one_more : (a b : ℕ) → a ≤ b → a < suc b
  one_more a b most = omega arith

  -- to who has had the change each call is old, or it looks
  pub as_old : (body : Body) → CallsSo So body → IsOldOrLooks client (suc req.number) body
  as_old (bodies.Call other said) (same, inl low) = (same, inl (one_more other.number req.number low.1))
  as_old (bodies.Call other said) (same, inr (inl looks)) = (same, inr looks)
  as_old (bodies.Call other said) (same, inr (inr own)) = (same, inl (subst (λ (r : ReqId). r.number < suc req.number) (sym own.0) (below_next req.number)))
  as_old body says = tt

  pub heard_either : (config : Config) (s : State) (message : Message) (moment : Moment) → IsNamedBody message.body → IsNumber moment.0 → (is_failed s.fault ≡ false → IsFirm s) → CallsSo So message.body → Either s → TurnSo Either s (handle config s message moment)
  heard_either config s message moment named bound firm says (inr new) =
      from_new new.durable new.moment new.edited s (handle config s message moment) (heard_still new.durable client (suc req.number) config s message moment message.body refl (as_old message.body says) new.still)
  heard_either config s message moment named bound firm says (inl so) = by_body message.body refl named says
    where
      own : (other : ReqId) (said : Call) → message.body ≡ bodies.Call other said → IsNamedCall said → (other ≡ req) × (said ≡ call) → TurnSo Either s (handle config s message moment)
      own other said asks named same = own_heard config s moment (subst IsNamedCall same.1 named) bound firm so message (asks ∙ (ap (λ r. bodies.Call r said) same.0 ∙ ap (λ c. bodies.Call req c) same.1))

      by_body : (body : Body) → message.body ≡ body → IsNamedBody body → CallsSo So body → TurnSo Either s (handle config s message moment)
      by_body (bodies.Call other said) asks named (same, inl low) = from_old s (handle config s message moment) (heard_still d client number config s message moment (bodies.Call other said) asks (same, inl low.0) so)
      by_body (bodies.Call other said) asks named (same, inr (inl looks)) = from_old s (handle config s message moment) (heard_still d client number config s message moment (bodies.Call other said) asks (same, inr looks) so)
      by_body (bodies.Call other said) asks named (same, inr (inr own_call)) = own other said asks named own_call
      by_body body asks named says = from_old s (handle config s message moment) (heard_still d client number config s message moment body asks tt so)
