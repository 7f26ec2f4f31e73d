-- A turn while one snapshot waits: it says nothing to it, and that waits on, or it is answered once, and waits no more.
use Rattle.std.proofs.Common.{◌≡◌, ◌⊎◌, inl, inr, ◌∙◌, ◌&&◌, ◌||◌, ◌++◌, Bool, true, false, not, cond, List, [], ◌∷◌, refl, ap, sym, subst, append_assoc}
use Rattle.std.specs.Prelude.{filter, fold, Option, Result, unwrap_or}
use Rattle.std.specs.List.{AllByRecursion, list_any}
use Rattle.std.proofs.lemmas.Bool.{false≢true, true≢false}
use Rattle.std.proofs.lemmas.List.Folds.{list_any-append}
use Rattle.std.proofs.lemmas.List.Sums.{fold-append}
use Rattle.gs_base.specs.declared.numbers.ReqId.{ReqId}
use Rattle.gs_base.specs.declared.refusal.Refusal.{Refusal}
use Rattle.gs_lock.specs.Operations.{same_op}
use Rattle.gs_msg.specs.declared.answer.Answer.{Answer}
use Rattle.gs_msg.specs.declared.body.Body.{Body}
use Rattle.gs_msg.specs.declared.body.Body.TheVariants as bodies
use Rattle.gs_msg.specs.declared.message.Message.{Message}
use Rattle.gs_path.specs.Path.{Path}
use Rattle.gs_laws_moves.proofs.lemmas.answers.Kept.{AllIn, AreChanges, changes_wait, itself, same_calls}
use Rattle.gs_laws_moves.proofs.lemmas.answers.Plans.{AreEntries, PlanSo, SaidSo, both_so}
use Rattle.gs_laws_moves.specs.answers.Concerned.{RepliesTo, tells_nobody}
use Rattle.gs_laws_master.proofs.lemmas.standing.Standing.{same_call, same_parts, set_so, set_waiting}
use Rattle.gs_master_record.specs.Plain.{Edited, Finalize, Holder, PlainEntry, Prepare, Propose, RollbackBegin, RollbackCommit, Said, Settle, Whole}
use Rattle.gs_master_spec.specs.Applied.{applied}
use Rattle.gs_master_spec.specs.Durable.{Durable}
use Rattle.gs_master_spec.specs.State.{Plan, State, Turn, and_then, turned, with_record}
use Rattle.gs_master_spec.specs.Volatile.{Volatile, all_changed, changed, is_pending, without_pending}
use Rattle.gs_master_spec.specs.declared.change.Change.{Change}
use Rattle.gs_master_spec.specs.declared.change.Change.TheVariants as changes
use Rattle.gs_master_spec.specs.declared.pending.Pending.{Pending}
use Rattle.gs_master_spec.specs.declared.pending.Waiting.{Waiting}
use Rattle.gs_master_spec.specs.declared.pending.Waiting.TheVariants as waits
use Rattle.gs_master_state.specs.Sane.{are_apart}
use Rattle.gs_laws_plain.proofs.lemmas.replies.Plainly.{IsPlainCopy}
use Rattle.gs_laws_plain.specs.replies.Waited.{TellsNone, GoesOnPlainly, IsAmong, RepliesSo, tells_for, led}

-- ---- what is durable behind records

-- as the records of a plan are done
pub leads : (records : List PlainEntry) (s : State) → (fold with_record s records).durable ≡ led s.durable records
leads [] s = refl
leads (entry ∷ records) s = leads records (with_record s entry)

pub led_on : (d : Durable) (xs ys : List PlainEntry) → led d (xs ++ ys) ≡ led (led d xs) ys
led_on d xs ys = fold-append (λ e entry. unwrap_or (applied e entry) e) d xs ys

-- ---- which edits are for whom

pub none_both : (req : ReqId) (xs ys : List PlainEntry) → TellsNone req xs → TellsNone req ys → TellsNone req (xs ++ ys)
none_both req xs ys a b = list_any-append (tells_for req) xs ys ∙ ap (λ c. c || list_any (tells_for req) ys) a ∙ b

-- ---- a request, and all others

module _ (own : ReqId) where
  abbrev pub Others : ReqId → Type 0
  Others req = req ≡ own → ⊥

  other_is : (req : ReqId) → Others req → same_op own req ≡ false
  other_is req other = by_test (same_op own req) refl
    where
      by_test : (b : Bool) → same_op own req ≡ b → b ≡ false
      by_test true is = absurd (other (sym (same_calls own req is)))
      by_test false is = refl

  pub is_other : (req : ReqId) → same_op own req ≡ false → Others req
  is_other req apart same = true≢false (sym (itself own) ∙ ap (same_op own) (sym same) ∙ apart)

  pub untold : (entries : List PlainEntry) → AreEntries Others entries → TellsNone own entries
  untold [] are = refl
  untold (Edited by edit ∷ entries) are = ap (λ b. b || list_any (tells_for own) entries) (by_kind are.0) ∙ untold entries are.1
    where
      never : (b : Bool) → (b && false) ≡ false
      never true = refl
      never false = refl

      by_kind : ((tells_nobody edit ≡ true) × ((req : ReqId) × Others req)) ⊎ Others by → (same_op own by && not (tells_nobody edit)) ≡ false
      by_kind (inl own_edit) = ap (λ b. same_op own by && not b) own_edit.0 ∙ never (same_op own by)
      by_kind (inr other) = ap (λ b. b && not (tells_nobody edit)) (other_is by other)
  untold (Said to refusal ∷ entries) are = ap (λ b. b || list_any (tells_for own) entries) (other_is to are.0) ∙ untold entries are.1
  untold (Prepare epoch moment chunks ∷ entries) are = untold entries are.1
  untold (Finalize epoch ∷ entries) are = untold entries are.1
  untold (RollbackBegin epoch ∷ entries) are = untold entries are.1
  untold (RollbackCommit epoch answers ∷ entries) are = untold entries are.1
  untold (Propose chunk version ∷ entries) are = untold entries are.1
  untold (Settle v ∷ entries) are = untold entries are.1
  untold (Holder chunk server ∷ entries) are = untold entries are.1
  untold (Whole c ∷ entries) are = absurd are.0

  abbrev pub Away : List Pending → Type 0
  Away ps = AllIn Others ps

  -- whatever waits, it doesn't behind its end
  pub ended_away : (ps : List Pending) → Away (without_pending ps own)
  ended_away [] = tt
  ended_away (p ∷ ps) = by_test (same_op own p.req) refl (ended_away ps)
    where
      by_test : (b : Bool) → same_op own p.req ≡ b → Away (without_pending ps own) → Away (cond (not b) (p ∷ without_pending ps own) (without_pending ps own))
      by_test true same rest = rest
      by_test false apart rest = (is_other p.req apart, rest)

  pub end_away : (cs : List Change) (v : Volatile) → Away (all_changed v (cs ++ changes.End own ∷ [])).pending
  end_away cs v = subst (λ (w : Volatile). Away w.pending) (sym (fold-append changed v cs (changes.End own ∷ []))) (ended_away (all_changed v cs).pending)

  -- a change ends another call, if any
  abbrev pub EndsOther : Change → Type 0
  EndsOther (changes.End req) = Others req
  EndsOther change = Unit {0}

  -- ---- it waits to copy a tree, and once

  module _ (from to : Path) where
    abbrev pub its_own : Pending
    its_own = record { req = own; waits = waits.Snapshot from to }

    abbrev pub Here : List Pending → Type 0
    Here [] = ⊥
    Here (p ∷ ps) = ((p ≡ its_own) × Away ps) ⊎ (Others p.req × Here ps)

    pub is_here : (ps : List Pending) → Here ps → is_pending ps own ≡ true
    is_here [] here = absurd here
    is_here (p ∷ ps) (inl first) = ap (λ (q : Pending). same_op own q.req || is_pending ps own) first.0 ∙ ap (λ b. b || is_pending ps own) (itself own)
    is_here (p ∷ ps) (inr rest) = ap (λ b. same_op own p.req || b) (is_here ps rest.1) ∙ either (same_op own p.req)
      where
        either : (b : Bool) → (b || true) ≡ true
        either true = refl
        either false = refl

    -- who waits once
    pub here_once : (ps : List Pending) → are_apart ps ≡ true → IsAmong its_own ps → Here ps
    here_once [] apart among = absurd among
    here_once (p ∷ ps) apart among = by_pending (is_pending ps p.req) refl apart among (λ rest there. here_once ps rest there)
      where
        none_of : (qs : List Pending) → is_pending qs own ≡ false → Away qs
        none_of [] none = tt
        none_of (q ∷ qs) none = by_test (same_op own q.req) refl none (none_of qs)
          where
            by_test : (b : Bool) → same_op own q.req ≡ b → (b || is_pending qs own) ≡ false → (is_pending qs own ≡ false → Away qs) → Away (q ∷ qs)
            by_test true same h rest = absurd (true≢false h)
            by_test false away h rest = (is_other q.req away, rest h)

        among_pending : (qs : List Pending) → IsAmong its_own qs → is_pending qs own ≡ true
        among_pending [] among = absurd among
        among_pending (q ∷ qs) (inl is) = ap (λ (r : Pending). same_op own r.req || is_pending qs own) is ∙ ap (λ b. b || is_pending qs own) (itself own)
        among_pending (q ∷ qs) (inr rest) = ap (λ b. same_op own q.req || b) (among_pending qs rest) ∙ either (same_op own q.req)
          where
            either : (b : Bool) → (b || true) ≡ true
            either true = refl
            either false = refl

        by_pending : (b : Bool) → is_pending ps p.req ≡ b → cond b false (are_apart ps) ≡ true → IsAmong its_own (p ∷ ps) → (are_apart ps ≡ true → IsAmong its_own ps → Here ps) → Here (p ∷ ps)
        by_pending true is h there rest = absurd (false≢true h)
        by_pending false is h (inl first) rest = inl (first, none_of ps (sym (ap (λ (q : Pending). is_pending ps q.req) first) ∙ is))
        by_pending false is h (inr there) rest = inr ((λ same. true≢false (sym (among_pending ps there) ∙ ap (is_pending ps) (sym same) ∙ is)), rest h there)

    -- ---- what changes leave

    one_more_here : (ps : List Pending) (p : Pending) → Here ps → Others p.req → Here (ps ++ p ∷ [])
    one_more_here [] p here other = absurd here
    one_more_here (q ∷ ps) p (inl first) other = inl (first.0, away_more ps first.1)
      where
        away_more : (qs : List Pending) → Away qs → Away (qs ++ p ∷ [])
        away_more [] away = (other, tt)
        away_more (r ∷ qs) away = (away.0, away_more qs away.1)
    one_more_here (q ∷ ps) p (inr rest) other = inr (rest.0, one_more_here ps p rest.1 other)

    set_here : (ps : List Pending) (req : ReqId) (waiting : Waiting) → Here ps → Others req → Here (set_waiting ps req waiting)
    set_here [] req waiting here other = absurd here
    set_here (p ∷ ps) req waiting here other = by_test (same_call p.req req) refl here (set_here ps req waiting)
      where
        new : Pending
        new = record { req = req; waits = waiting }

        away_set : (qs : List Pending) → Away qs → Away (set_waiting qs req waiting)
        away_set [] away = tt
        away_set (q ∷ qs) away = by (same_call q.req req) (away_set qs away.1)
          where
            by : (b : Bool) → Away (set_waiting qs req waiting) → Away (cond b (new ∷ qs) (q ∷ set_waiting qs req waiting))
            by true rest = (other, away.1)
            by false rest = (away.0, rest)

        by_test : (b : Bool) → same_call p.req req ≡ b → Here (p ∷ ps) → (Here ps → Others req → Here (set_waiting ps req waiting)) → Here (cond b (new ∷ ps) (p ∷ set_waiting ps req waiting))
        by_test true same (inl first) rest = absurd (other (sym (same_parts p.req req same) ∙ ap (λ (q : Pending). q.req) first.0))
        by_test true same (inr more) rest = inr (other, more.1)
        by_test false apart (inl first) rest = inl (first.0, away_set ps first.1)
        by_test false apart (inr more) rest = inr (more.0, rest more.1 other)

    -- of a part of those that wait: it is there, or not
    pub part_here : (f : Pending → Bool) (ps : List Pending) → Here ps → Here (filter f ps) ⊎ Away (filter f ps)
    part_here f [] here = absurd here
    part_here f (p ∷ ps) (inl first) = by_test (f p) (part_away ps first.1)
      where
        part_away : (qs : List Pending) → Away qs → Away (filter f qs)
        part_away [] away = tt
        part_away (q ∷ qs) away = by (f q) (part_away qs away.1)
          where
            by : (b : Bool) → Away (filter f qs) → Away (cond b (q ∷ filter f qs) (filter f qs))
            by true rest = (away.0, rest)
            by false rest = rest

        by_test : (b : Bool) → Away (filter f ps) → Here (cond b (p ∷ filter f ps) (filter f ps)) ⊎ Away (cond b (p ∷ filter f ps) (filter f ps))
        by_test true rest = inl (inl (first.0, rest))
        by_test false rest = inr rest
    part_here f (p ∷ ps) (inr more) = by_test (f p) (part_here f ps more.1)
      where
        by_test : (b : Bool) → Here (filter f ps) ⊎ Away (filter f ps) → Here (cond b (p ∷ filter f ps) (filter f ps)) ⊎ Away (cond b (p ∷ filter f ps) (filter f ps))
        by_test true (inl rest) = inl (inr (more.0, rest))
        by_test true (inr rest) = inr (more.0, rest)
        by_test false rest = rest

    fewer_here : (ps : List Pending) (req : ReqId) → Here ps → Others req → Here (without_pending ps req)
    fewer_here [] req here other = absurd here
    fewer_here (p ∷ ps) req here other = by_test (same_op req p.req) refl here (fewer_here ps req)
      where
        away_fewer : (qs : List Pending) → Away qs → Away (without_pending qs req)
        away_fewer [] away = tt
        away_fewer (q ∷ qs) away = by (not (same_op req q.req)) (away_fewer qs away.1)
          where
            by : (b : Bool) → Away (without_pending qs req) → Away (cond b (q ∷ without_pending qs req) (without_pending qs req))
            by true rest = (away.0, rest)
            by false rest = rest

        by_test : (b : Bool) → same_op req p.req ≡ b → Here (p ∷ ps) → (Here ps → Others req → Here (without_pending ps req)) → Here (cond (not b) (p ∷ without_pending ps req) (without_pending ps req))
        by_test true same (inl first) rest = absurd (other (same_calls req p.req same ∙ ap (λ (q : Pending). q.req) first.0))
        by_test true same (inr more) rest = rest more.1 other
        by_test false apart (inl first) rest = inl (first.0, away_fewer ps first.1)
        by_test false apart (inr more) rest = inr (more.0, rest more.1 other)

    change_here : (v : Volatile) (change : Change) → AreChanges Others (change ∷ []) → EndsOther change → Here v.pending → Here (changed v change).pending
    change_here v (changes.Begin p) is ends here = one_more_here v.pending p here is.0
    change_here v (changes.Wait req waiting) is ends here = subst Here (sym (set_so v.pending req waiting)) (set_here v.pending req waiting here is.0)
    change_here v (changes.End req) is ends here = fewer_here v.pending req here ends
    change_here v (changes.Keep client reply) is ends here = here
    change_here v (changes.Ask q asking) is ends here = here
    change_here v (changes.Settled q) is ends here = here
    change_here v (changes.Enter q) is ends here = here
    change_here v (changes.Place q) is ends here = here
    change_here v (changes.Lose q) is ends here = here
    change_here v (changes.Forget chunks) is ends here = here
    change_here v (changes.Prepare is_preparing) is ends here = here
    change_here v (changes.Restored server chunks) is ends here = here
    change_here v changes.RolledBack is ends here = here

    changes_here : (cs : List Change) (v : Volatile) → AreChanges Others cs → AllByRecursion EndsOther cs → Here v.pending → Here (all_changed v cs).pending
    changes_here [] v are ends here = here
    changes_here (c ∷ cs) v are ends here = changes_here cs (changed v c) are.1 ends.1 (change_here v c (are.0, tt) ends.0 here)

    -- ---- turns

    -- each reply to it says this
    abbrev pub OnlySays : Result Answer Refusal → List Message → Type 0
    OnlySays result messages = AllByRecursion (λ (m : Message). RepliesSo (λ req said. req ≡ own → said ≡ result) m.body) messages

    pub record Silent (s : State) (t : Turn) : Type 0 where
      pub sent : SaidSo Others t.sent
      pub none : TellsNone own t.records
      pub leads : t.after.durable ≡ led s.durable t.records

    pub record Answered (s : State) (t : Turn) : Type 0 where
      pub result : Result Answer Refusal
      pub goes : GoesOnPlainly s t own from to result
      pub sent : OnlySays result t.sent

    abbrev pub Ends : State → Turn → Type 0
    Ends s t = Answered s t × Away t.after.volatile.pending

    -- Where it doesn't wait, and where it does. It waits on behind a turn of another,
    pub record Stays (s : State) (t : Turn) : Type 0 where
      pub away : Away s.volatile.pending → Silent s t × Away t.after.volatile.pending
      pub here : Here s.volatile.pending → Silent s t × Here t.after.volatile.pending

    -- or it ends.
    abbrev pub Comes : State → Turn → Type 0
    Comes s t = (Silent s t × Here t.after.volatile.pending) ⊎ Ends s t

    pub record So (s : State) (t : Turn) : Type 0 where
      pub away : Away s.volatile.pending → Silent s t × Away t.after.volatile.pending
      pub here : Here s.volatile.pending → Comes s t

    pub so_of : (s : State) (t : Turn) → Stays s t → So s t
    so_of s t a = record { away = a.away; here = λ h. inl (a.here h) }

    -- ---- one behind the other

    silent_says : (result : Result Answer Refusal) (messages : List Message) → SaidSo Others messages → OnlySays result messages
    silent_says result [] said = tt
    silent_says result (m ∷ messages) said = (one m.body said.0, silent_says result messages said.1)
      where
        one : (body : Body) → RepliesTo Others body → RepliesSo (λ req heard. req ≡ own → heard ≡ result) body
        one (bodies.Reply req heard) other = λ same. absurd (other same)
        one (bodies.Call req call) other = absurd other
        one body other = tt

    pub then_silent : (s : State) (t : Turn) (f : State → Turn) → Silent s t → Silent t.after (f t.after) → Silent s (and_then t f)
    then_silent s t f a b = record {
      sent = both_so _ t.sent (f t.after).sent a.sent b.sent;
      none = none_both own t.records (f t.after).records a.none b.none;
      leads = b.leads ∙ ap (λ d. led d (f t.after).records) a.leads ∙ sym (led_on s.durable t.records (f t.after).records);
    }

    pub then_answered : (s : State) (t : Turn) (f : State → Turn) → Silent s t → Answered t.after (f t.after) → Answered s (and_then t f)
    then_answered s t f a b = record {
      result = b.result;
      goes = record {
        before = t.records ++ b.goes.before;
        behind = b.goes.behind;
        made = b.goes.made;
        is_made = b.goes.is_made;
        parts = ap (λ xs. t.records ++ xs) b.goes.parts ∙ sym (append_assoc t.records b.goes.before (b.goes.made ++ b.goes.behind));
        none_before = none_both own t.records b.goes.before a.none b.goes.none_before;
        none_behind = b.goes.none_behind;
        plainly = subst (λ (d : Durable). IsPlainCopy from to d.names b.result) (ap (λ d. led d b.goes.before) a.leads ∙ sym (led_on s.durable t.records b.goes.before)) b.goes.plainly;
      };
      sent = both_so _ t.sent (f t.after).sent (silent_says b.result t.sent a.sent) b.sent;
    }

    pub answered_then : (s : State) (t : Turn) (f : State → Turn) → Answered s t → SaidSo Others (f t.after).sent → TellsNone own (f t.after).records → Answered s (and_then t f)
    answered_then s t f a said none = record {
      result = a.result;
      goes = record {
        before = a.goes.before;
        behind = a.goes.behind ++ (f t.after).records;
        made = a.goes.made;
        is_made = a.goes.is_made;
        parts = ap (λ xs. xs ++ (f t.after).records) a.goes.parts ∙ append_assoc a.goes.before (a.goes.made ++ a.goes.behind) (f t.after).records ∙ ap (λ xs. a.goes.before ++ xs) (append_assoc a.goes.made a.goes.behind (f t.after).records);
        none_before = a.goes.none_before;
        none_behind = none_both own a.goes.behind (f t.after).records a.goes.none_behind none;
        plainly = a.goes.plainly;
      };
      sent = both_so _ t.sent (f t.after).sent a.sent (silent_says a.result (f t.after).sent said);
    }

    -- what comes behind
    pub ends_then : (s : State) (t : Turn) (f : State → Turn) → Ends s t → (Away t.after.volatile.pending → Silent t.after (f t.after) × Away (f t.after).after.volatile.pending) → Ends s (and_then t f)
    ends_then s t f a b = (let more = b a.1 in (answered_then s t f a.0 more.0.sent more.0.none, more.1))

    pub then_comes : (s : State) (t : Turn) (f : State → Turn) → Silent s t → Comes t.after (f t.after) → Comes s (and_then t f)
    then_comes s t f a (inl more) = inl (then_silent s t f a more.0, more.1)
    then_comes s t f a (inr ends) = inr (then_answered s t f a ends.0, ends.1)

    pub then_stays : (s : State) (t : Turn) (f : State → Turn) → Stays s t → Stays t.after (f t.after) → Stays s (and_then t f)
    then_stays s t f a b = record {
      away = λ w. (let first = a.away w in let second = b.away first.1 in (then_silent s t f first.0 second.0, second.1));
      here = λ h. (let first = a.here h in let second = b.here first.1 in (then_silent s t f first.0 second.0, second.1));
    }

    pub then_so : (s : State) (t : Turn) (f : State → Turn) → So s t → So t.after (f t.after) → So s (and_then t f)
    then_so s t f a b = record {
      away = λ w. (let first = a.away w in let second = b.away first.1 in (then_silent s t f first.0 second.0, second.1));
      here = λ h. by (a.here h);
    }
      where
        by : Comes s t → Comes s (and_then t f)
        by (inl waited) = then_comes s t f waited.0 (b.here waited.1)
        by (inr ends) = inr (ends_then s t f ends b.away)

    -- ---- a plan of another

    pub still : (s : State) (messages : List Message) (said : Option Refusal) → SaidSo Others messages → Stays s (record { after = s; records = []; sent = messages; said = said })
    still s messages said so = record { away = λ w. (record { sent = so; none = refl; leads = refl }, w); here = λ h. (record { sent = so; none = refl; leads = refl }, h) }

    pub planned : (s : State) (plan : Plan) → PlanSo Others plan → AllByRecursion EndsOther plan.changes → Stays s (turned s plan)
    planned s plan so ends = record { away = λ w. (silent, changes_wait Others plan.changes s.volatile so.changes w); here = λ h. (silent, changes_here plan.changes s.volatile so.changes ends h) }
      where
        silent : Silent s (turned s plan)
        silent = record { sent = so.sent; none = untold plan.records so.records; leads = leads plan.records s }
