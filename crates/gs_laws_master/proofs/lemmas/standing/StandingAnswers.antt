-- What stands is kept by each answer to a proposal, and by each step of a tick.
use Rattle.std.proofs.Common.{◌≡◌, ◌∙◌, ◌≤◌, ◌<◌, ◌+◌, ◌^◌, ◌&&◌, ◌||◌, ℕ, zero, suc, Bool, true, false, not, cond, List, [], ◌∷◌, ◌++◌, filter, refl, ap, subst, sym, arith}
use Rattle.std.specs.Prelude.{is_some, min, nat_lt, option_and_then, option_map, slice_get, slice_set, Option, Some, None, if◌then◌else◌}
use Rattle.std.specs.Cmp.{nat_cmp_total, tied_itself}
use Rattle.std.specs.FinMap as fin
use Rattle.std.specs.List.{AllByRecursion, list_all}
use Rattle.std.specs.Ordering.{eq_by_cmp, is_eq, nat_cmp}
use Rattle.std.proofs.lemmas.Bool.{false≢true, true≢false, and_parts}
use Rattle.std.proofs.lemmas.Bool.Decides.{nat_tests}
use Rattle.gs_base.specs.Members.{is_member, with_member}
use Rattle.gs_base.specs.Numbers.{last_number}
use Rattle.gs_base.specs.Stamps.{is_same}
use Rattle.gs_base.specs.Told.{IsNumber}
use Rattle.gs_base.specs.declared.numbers.Moment.{Moment}
use Rattle.gs_base.specs.declared.numbers.ReqId.{ReqId}
use Rattle.gs_base.specs.declared.numbers.Stamp.{Stamp}
use Rattle.gs_base.specs.declared.refusal.Refusal.TheVariants as refusals
use Rattle.gs_tree.proofs.Levels.{both_true}
use Rattle.gs_lease.specs.Transitions.{end_of, is_for_lease, settled_view, term_of}
use Rattle.gs_lease.specs.declared.view.Purpose.{Purpose}
use Rattle.gs_lease.specs.declared.view.Purpose.TheVariants as purposes
use Rattle.gs_lease.specs.declared.view.View.{View}
use Rattle.gs_master_record.specs.Plain.{PlainEntry, Holder, Settle}
use Rattle.gs_master_record.specs.Writable.{IsTerm}
use Rattle.gs_view.specs.Choice.{answer_of, answerers, greater, greatest, is_count}
use Rattle.gs_view.specs.Spoken.{with_no, with_yes}
use Rattle.gs_view.specs.declared.poll.Poll.{Poll}
use Rattle.gs_edit.specs.View.{NamesView}
use Rattle.gs_master_spec.specs.Applied.{applied, follows_view, held_by, is_since, is_whole_entry, may_be_settled, replayed, with_view}
use Rattle.gs_master_spec.specs.Chunks.{Chunk, chunk_at, ends_copy, has_entry, has_yes, have_all_spoken, heard_no, heard_yes, hears, holder_records, is_holder, is_target, may_settle, once_spoken, proposed_in, sent_from, settling, source_in, step_after, step_at_tick, step_of_no, step_of_target, step_of_yes, target_of, view_by, with_answers}
use Rattle.gs_master_spec.specs.Durable.{Durable, is_given, is_rolling, is_upgrade, prepared_view, upgrade_epoch, with_prepared}
use Rattle.gs_master_spec.specs.Handling.{pressed, pressed_at, pressed_if}
use Rattle.gs_master_spec.specs.Hearing.{ask_plan, heard, is_with_sealed, promised, promised_at, promised_for, send_plan, stepped, unpromised, unpromised_at, unpromised_for}
use Rattle.gs_master_state.specs.Sane.{are_apart, is_waited_by, makes, may_wait_for}
use Rattle.gs_master_spec.specs.Settling.{all_go_on, all_refused, concerned, is_copied_by, requests_of, settle_plan, settled_by, settled_if, settled_on}
use Rattle.gs_master_spec.specs.State.{State, turned, unmoved, and_then, fits}
use Rattle.gs_master_spec.specs.Volatile.{Volatile, changed, is_call, is_pending}
use Rattle.gs_master_spec.specs.declared.asking.Asking.{Asking}
use Rattle.gs_master_spec.specs.declared.asking.Step.{Step}
use Rattle.gs_master_spec.specs.declared.asking.Step.TheVariants as steps
use Rattle.gs_master_spec.specs.declared.change.Change.TheVariants as changes
use Rattle.gs_master_spec.specs.declared.pending.Pending.{Pending}
use Rattle.gs_master_spec.specs.declared.pending.Waiting.{Waiting}
use Rattle.gs_master_spec.specs.declared.pending.Waiting.TheVariants as waits
use Rattle.gs_laws_master.specs.Promises.{IsToldView}
use Rattle.gs_laws_master.specs.Standing.{CanWait, IsSought, IsToldCount, Stands, may_ask}
use Rattle.gs_laws_master.proofs.lemmas.fitting.AcceptedForgets.{folded}
use Rattle.gs_laws_master.proofs.lemmas.fitting.AcceptedViews.{or_right}
use Rattle.gs_laws_master.proofs.lemmas.views.Choosing.{picked}
use Rattle.gs_laws_master.proofs.lemmas.fitting.GoingOn.{Ready}
use Rattle.gs_laws_master.proofs.lemmas.views.ServersTold.{low_servers, servers_told}
use Rattle.gs_laws_master.proofs.lemmas.fitting.SettlingFits.{CanSettle, settling_fits, view_made}
use Rattle.gs_laws_master.proofs.lemmas.standing.Standing.{apart_parts, ask, either_none, recorded, same_back, same_call, same_number, same_parts, same_self, settled}
use Rattle.gs_laws_master.proofs.lemmas.standing.StandingGoing.{Apart, CanGo, Going, all_going, is_snapshot}
use Rattle.gs_laws_master.specs.Numbered.{HasNumbers}
use Rattle.gs_laws_master.proofs.lemmas.upgrades.Beginnings.{fits_gives}
use Rattle.gs_laws_master.proofs.lemmas.names.Numbered.{IsToldIn, keeps_numbers}
use Rattle.gs_laws_master.proofs.lemmas.standing.StandingRecords.{holder_onto, settle_onto}
use Rattle.gs_laws_master.proofs.lemmas.standing.StandingTurns.{Good, Holds, all_given_up, none_good, same_good, test_good, then_good}

-- ---- what was answered can be told

abbrev pub AreCounts : Poll → Type 0
AreCounts answers = AllByRecursion IsToldCount answers.counts

set_count : (xs : List (Option ℕ)) (i : ℕ) (x : Option ℕ) → AllByRecursion IsToldCount xs → IsToldCount x → AllByRecursion IsToldCount (slice_set xs i x)
set_count [] i x all one = tt
set_count (y ∷ xs) zero x all one = (one, all.1)
set_count (y ∷ xs) (suc i) x all one = (all.0, set_count xs i x all.1 one)

greatest_told : (xs : List (Option ℕ)) (n : ℕ) → AllByRecursion IsToldCount xs → greatest xs ≡ Some n → IsNumber n
greatest_told [] n all e = absurd (false≢true (ap is_some e))
greatest_told (x ∷ xs) n all e = by_first x (greatest xs) refl all.0 (λ m k. greatest_told xs m all.1 k) e
  where
    number_is : {a b : ℕ} → ◌≡◌ {A = Option ℕ} (Some a) (Some b) → a ≡ b
    number_is k = cc

    by_first : (x g : Option ℕ) → greatest xs ≡ g → IsToldCount x → ((m : ℕ) → greatest xs ≡ Some m → IsNumber m) → greater x g ≡ Some n → IsNumber n
    by_first None g is one rest k = rest n (is ∙ k)
    by_first (Some c) None is one rest k = subst IsNumber (number_is k) one
    by_first (Some c) (Some m) is one rest k = subst IsNumber (number_is k) (let low = rest m is in let here : IsNumber c = one in omega arith)

-- a view that is made of such answers can be told
pub view_told : (c : Chunk) (asking : Asking) (by : Poll) (moment : Moment) (view : View) → AreCounts by → IsNumber asking.stamp.epoch → IsNumber asking.stamp.version → view_by c asking by moment ≡ Some view → IsToldView view
view_told c asking by moment view counts epoch version e = by_most (greatest by.counts) refl e
  where
    late : (n : ℕ) → min n last_number < 2 ^ 64
    late n = omega arith

    low_first : (members : List ℕ) (m : ℕ) → list_all (λ x. nat_lt x 16) members ≡ true → slice_get members 0 ≡ Some m → m < 16
    low_first [] m all k = absurd (false≢true (ap is_some k))
    low_first (x ∷ xs) m all k = (let h = (and_parts (nat_lt x 16) (list_all (λ y. nat_lt y 16) xs) all).0 in let same = number_is k in below x m same h)
      where
        number_is : {a b : ℕ} → ◌≡◌ {A = Option ℕ} (Some a) (Some b) → a ≡ b
        number_is j = cc

        below : (a b : ℕ) → a ≡ b → nat_lt a 16 ≡ true → b < 16
        below a b e t = grind (arith, nat_tests)

    led : (members : List ℕ) → list_all (λ x. nat_lt x 16) members ≡ true → (o : Option ℕ) → slice_get members 0 ≡ o → IsTerm (option_map (λ primary. record { primary = primary; end = end_of moment }) o)
    led members low None is = tt
    led members low (Some m) is = (low_first members m low is, late (moment.0 + 60))

    term_told : (purpose : Purpose) (members : List ℕ) → list_all (λ x. nat_lt x 16) members ≡ true → IsTerm (term_of purpose members moment)
    term_told purposes.Quiet members low = tt
    term_told purposes.Lease members low = led members low (slice_get members 0) refl
    term_told (purposes.Copy target) members low = tt

    by_most : (most : Option ℕ) → greatest by.counts ≡ most → option_and_then (λ (ch : List ℕ × ℕ). if may_settle asking.asked ch.0 then Some (settled_view (proposed_in c asking) ch.0 ch.1 moment) else None) (option_map (λ count. (answerers by.counts count, count)) most) ≡ Some view → IsToldView view
    by_most None is h = absurd (false≢true (ap is_some h))
    by_most (Some count) is h =
        let both = picked (may_settle asking.asked (answerers by.counts count)) (settled_view (proposed_in c asking) (answerers by.counts count) count moment) view h in
        subst IsToldView both.1
        (epoch, (version, (greatest_told by.counts count counts is, (servers_told (λ server. is_count count (answer_of by.counts server)), term_told asking.purpose (answerers by.counts count) (low_servers (λ server. is_count count (answer_of by.counts server)))))))

-- what a step settles by
abbrev pub IsToldStep : Step → Type 0
IsToldStep (steps.Settle by) = AreCounts by
IsToldStep step = Unit {0}

after_told : (asking : Asking) → AreCounts asking.answers → IsToldStep (step_after asking)
after_told asking told = by_tests (not (have_all_spoken asking)) (not (has_yes asking)) asking.purpose asking.source
  where
    sent : (o : Option ℕ) (target : ℕ) → IsToldStep (sent_from o target)
    sent None target = tt
    sent (Some source) target = tt

    once : (purpose : Purpose) (source : Option ℕ) → IsToldStep (once_spoken asking purpose source)
    once purposes.Quiet source = told
    once purposes.Lease source = told
    once (purposes.Copy target) None = sent (source_in asking) target
    once (purposes.Copy target) (Some source) = tt

    by_tests : (a b : Bool) (purpose : Purpose) (source : Option ℕ) → IsToldStep (if a then steps.Wait else if b then steps.Fail else once_spoken asking purpose source)
    by_tests true b purpose source = tt
    by_tests false true purpose source = tt
    by_tests false false purpose source = once purpose source

pub yes_told : (asking : Asking) (server count : ℕ) → AreCounts asking.answers → IsNumber count → AreCounts (heard_yes asking server count).answers × IsToldStep (step_of_yes asking server count)
yes_told asking server count told low = by_member (is_member asking.asked server)
  where
    more : AreCounts (with_yes asking.answers server count)
    more = set_count asking.answers.counts server (Some count) told low

    by_target : (b : Bool) → AreCounts (if b then with_yes asking.answers server count else asking.answers)
    by_target true = more
    by_target false = told

    of_target : (source : Option ℕ) → IsToldStep (step_of_target asking server count source)
    of_target None = tt
    of_target (Some source) = by_target (is_count count (greatest asking.answers.counts))

    by_member : (b : Bool) → AreCounts (if b then with_answers asking (with_yes asking.answers server count) else asking).answers
        × IsToldStep (if b then step_after (if b then with_answers asking (with_yes asking.answers server count) else asking) else step_of_target asking server count asking.source)
    by_member true = (more, after_told (with_answers asking (with_yes asking.answers server count)) more)
    by_member false = (told, of_target asking.source)

pub no_told : (asking : Asking) (server : ℕ) → AreCounts asking.answers → AreCounts (heard_no asking server).answers × IsToldStep (step_of_no asking server)
no_told asking server told = by_tests (ends_copy asking server) (is_member asking.asked server)
  where
    by_spoken : (b : Bool) → AreCounts (if b then asking.answers else (record { counts = asking.answers.counts; refused = with_member asking.answers.refused server }))
    by_spoken true = told
    by_spoken false = told

    more : AreCounts (with_no asking.answers server)
    more = by_spoken (is_some (answer_of asking.answers.counts server))

    by_tests : (e b : Bool) → AreCounts (if b then with_answers asking (with_no asking.answers server) else asking).answers
        × IsToldStep (if e then steps.Settle asking.answers else if b then step_after (if b then with_answers asking (with_no asking.answers server) else asking) else steps.Wait)
    by_tests true true = (more, told)
    by_tests true false = (told, told)
    by_tests false true = (more, after_told (with_answers asking (with_no asking.answers server)) more)
    by_tests false false = (told, tt)

pub tick_told : (asking : Asking) → AreCounts asking.answers → IsToldStep (step_at_tick asking)
tick_told asking told = by_test (has_yes asking)
  where
    by_test : (b : Bool) → IsToldStep (if b then steps.Settle asking.answers else steps.Fail)
    by_test true = told
    by_test false = tt

-- ---- the calls that a chunk concerns

only_self : (q c : ℕ) (w : Waiting) → is_snapshot w ≡ false → may_wait_for q w ≡ true → may_wait_for c w ≡ true → q ≡ c
only_self q c (waits.Extend path new) other a b = sym (same_number new q a) ∙ same_number new c b
only_self q c (waits.Lease path index leased) other a b = sym (same_number leased q a) ∙ same_number leased c b
only_self q c (waits.Quiet path index quiet) other a b = sym (same_number quiet q a) ∙ same_number quiet c b
only_self q c (waits.Copy path index old new) other a b = sym (same_number new q a) ∙ same_number new c b
only_self q c (waits.Snapshot from to) other a b = absurd (true≢false other)
only_self q c (waits.Replicate copied target) other a b = sym (same_number copied q a) ∙ same_number copied c b

copies_so : (s : State) (chunk : ℕ) (w : Waiting) → is_copied_by s chunk w ≡ true → (may_wait_for chunk w ≡ true) × (is_snapshot w ≡ true)
copies_so s chunk (waits.Extend path new) h = absurd (false≢true h)
copies_so s chunk (waits.Lease path index leased) h = absurd (false≢true h)
copies_so s chunk (waits.Quiet path index quiet) h = absurd (false≢true h)
copies_so s chunk (waits.Copy path index old new) h = absurd (false≢true h)
copies_so s chunk (waits.Snapshot from to) h = (refl, refl)
copies_so s chunk (waits.Replicate copied target) h = absurd (false≢true h)

-- one of those that wait, each once
pub record IsOne (ps : List Pending) (p : Pending) : Type 0 where
  pub now : (f : Waiting → Bool) → is_waited_by (Some p.req) f ps ≡ f p.waits
  pub can : CanWait p
  pub each : (f : Pending → Bool) → list_all f ps ≡ true → f p ≡ true

module _ (s : State) (chunk : ℕ) (call : Option ReqId) where
  abbrev concerns : Pending → Bool
  concerns p = is_call p.req call || is_copied_by s chunk p.waits

  all_apart : (p : Pending) (ps : List Pending) → is_pending ps p.req ≡ false → concerns p ≡ true → AllByRecursion (Apart p) (filter (λ (q : Pending). is_call q.req call || is_copied_by s chunk q.waits) ps)
  all_apart p [] out mine = tt
  all_apart p (q ∷ ps) out mine = let none = either_none (same_call p.req q.req) (is_pending ps p.req) out in by_test (concerns q) refl none.0 (all_apart p ps none.1 mine)
    where
      by_kind : (a b : Bool) → is_call p.req call ≡ a → is_call q.req call ≡ b → (a || is_copied_by s chunk p.waits) ≡ true → (b || is_copied_by s chunk q.waits) ≡ true → same_call p.req q.req ≡ false → (is_snapshot p.waits || is_snapshot q.waits) ≡ true
      by_kind false b ia ib m k other = ap (λ x. x || is_snapshot q.waits) (copies_so s chunk p.waits m).1
      by_kind true false ia ib m k other = or_right (is_snapshot p.waits) (is_snapshot q.waits) (copies_so s chunk q.waits k).1
      by_kind true true ia ib m k other = absurd (true≢false (sym (both_call call ia ib) ∙ other))
        where
          both_call : (c : Option ReqId) → is_call p.req c ≡ true → is_call q.req c ≡ true → same_call p.req q.req ≡ true
          both_call None x y = absurd (false≢true x)
          both_call (Some r) x y = ap (same_call p.req) (same_parts q.req r y) ∙ x

      by_test : (b : Bool) → concerns q ≡ b → same_call p.req q.req ≡ false → AllByRecursion (Apart p) (filter (λ (x : Pending). is_call x.req call || is_copied_by s chunk x.waits) ps)
          → AllByRecursion (Apart p) (cond b (q ∷ filter (λ (x : Pending). is_call x.req call || is_copied_by s chunk x.waits) ps) (filter (λ (x : Pending). is_call x.req call || is_copied_by s chunk x.waits) ps))
      by_test true is other rest = ((other, by_kind (is_call p.req call) (is_call q.req call) refl refl mine is other), rest)
      by_test false is other rest = rest

  all_go : (v : Volatile) (ps : List Pending) → are_apart ps ≡ true → AllByRecursion (λ (p : Pending). concerns p ≡ true → CanGo chunk v p) ps → Going chunk v (filter (λ (p : Pending). is_call p.req call || is_copied_by s chunk p.waits) ps)
  all_go v [] apart all = tt
  all_go v (p ∷ ps) apart all = let parts = apart_parts p ps apart in by_test (concerns p) refl parts.0 (all_go v ps parts.1 all.1)
    where
      by_test : (b : Bool) → concerns p ≡ b → is_pending ps p.req ≡ false → Going chunk v (filter (λ (q : Pending). is_call q.req call || is_copied_by s chunk q.waits) ps)
          → Going chunk v (cond b (p ∷ filter (λ (q : Pending). is_call q.req call || is_copied_by s chunk q.waits) ps) (filter (λ (q : Pending). is_call q.req call || is_copied_by s chunk q.waits) ps))
      by_test true is out rest = (all.0 is, (all_apart p ps out is, rest))
      by_test false is out rest = rest

all_weaker : (P Q : Pending → Type 0) (ps : List Pending) → ((p : Pending) → P p → Q p) → AllByRecursion P ps → AllByRecursion Q ps
all_weaker P Q [] f all = tt
all_weaker P Q (p ∷ ps) f all = (f p all.0, all_weaker P Q ps f all.1)

none_same : (req : ReqId) (ps : List Pending) → is_pending ps req ≡ false → list_all (λ (p : Pending). not (same_call req p.req)) ps ≡ true
none_same req [] out = refl
none_same req (p ∷ ps) out = let parts = either_none (same_call req p.req) (is_pending ps req) out in both_true (not (same_call req p.req)) _ (ap not parts.0) (none_same req ps parts.1)

nobody_waits : (req : ReqId) (f : Waiting → Bool) (ps : List Pending) → is_pending ps req ≡ false → is_waited_by (Some req) f ps ≡ false
nobody_waits req f [] out = refl
nobody_waits req f (p ∷ ps) out = let parts = either_none (same_call req p.req) (is_pending ps req) out in ap (λ b. (b && f p.waits) || is_waited_by (Some req) f ps) (same_back req p.req parts.0) ∙ nobody_waits req f ps parts.1

or_nothing : (b : Bool) → (b || false) ≡ b
or_nothing true = refl
or_nothing false = refl

not_true : (b : Bool) → not b ≡ true → b ≡ false
not_true true h = absurd (false≢true h)
not_true false h = refl

-- each that waits is one of them
pub each_one : (ps : List Pending) → are_apart ps ≡ true → AllByRecursion CanWait ps → AllByRecursion (IsOne ps) ps
each_one [] apart calls = tt
each_one (p ∷ ps) apart calls =
    let parts = apart_parts p ps apart in (
      record {
        now = λ f. ap (λ b. (b && f p.waits) || is_waited_by (Some p.req) f ps) (same_self p.req) ∙ ap (λ b. f p.waits || b) (nobody_waits p.req f ps parts.0) ∙ or_nothing (f p.waits);
        can = calls.0;
        each = λ f all. (and_parts (f p) (list_all f ps) all).0;
      },
      all_weaker (IsOne ps) (IsOne (p ∷ ps)) ps
          (λ q one. record {
            now = λ f. ap (λ b. (b && f p.waits) || is_waited_by (Some q.req) f ps) (not_true (same_call p.req q.req) (one.each (λ (x : Pending). not (same_call p.req x.req)) (none_same p.req ps parts.0))) ∙ one.now f;
            can = one.can;
            each = λ f all. one.each f (and_parts (f p) (list_all f ps) all).1;
          }) (each_one ps parts.1 calls.1),
    )

-- the calls that a settled chunk concerns can go on
concerned_go : (s : State) (chunk : ℕ) (asking : Asking) → Stands s.durable s.volatile → IsSought s.durable s.volatile chunk asking → Going chunk (changed s.volatile (changes.Settled chunk)) (concerned s chunk asking.call)
concerned_go s chunk asking h sought =
    all_go s chunk asking.call (changed s.volatile (changes.Settled chunk)) s.volatile.pending h.apart
    (all_weaker (IsOne s.volatile.pending) (λ (p : Pending). concerns s chunk asking.call p ≡ true → CanGo chunk (changed s.volatile (changes.Settled chunk)) p) s.volatile.pending (λ p one mine. go p one (is_call p.req asking.call) refl mine) (each_one s.volatile.pending h.apart h.calls))
  where
    removed : fin.get (fin.remove s.volatile.moving chunk) chunk ≡ None
    removed = fin.get-remove nat_cmp_total s.volatile.moving chunk chunk ∙ ap (λ o. cond (is_eq o) None (fin.get s.volatile.moving chunk)) (tied_itself nat_cmp_total chunk)

    was : (c : ℕ) (a : Asking) → fin.get (fin.remove s.volatile.moving chunk) c ≡ Some a → fin.get s.volatile.moving c ≡ Some a
    was c a has = by_key (eq_by_cmp nat_cmp c chunk) (sym (fin.get-remove nat_cmp_total s.volatile.moving chunk c) ∙ has)
      where
        by_key : (b : Bool) → cond b None (fin.get s.volatile.moving c) ≡ Some a → fin.get s.volatile.moving c ≡ Some a
        by_key true e = absurd (false≢true (ap is_some e))
        by_key false e = e

    may_by : (p : Pending) → IsOne s.volatile.pending p → (c : ℕ) (a : Asking) → IsSought s.durable s.volatile c a → is_call p.req a.call ≡ true → may_wait_for c p.waits ≡ true
    may_by p one c a k call = ap (λ b. not b || may_wait_for c p.waits) (sym call) ∙ one.each (λ (x : Pending). not (is_call x.req a.call) || may_wait_for c x.waits) k.wanted

    no_other : (p : Pending) → IsOne s.volatile.pending p → is_call p.req asking.call ≡ true → is_snapshot p.waits ≡ false → (c : ℕ) (a : Asking) → fin.get (fin.remove s.volatile.moving chunk) c ≡ Some a → (b : Bool) → is_call p.req a.call ≡ b → b ≡ false
    no_other p one call other c a has true is =
        let same = only_self chunk c p.waits other (may_by p one chunk asking sought call) (may_by p one c a (h.asked c a (was c a has)) is) in
        absurd (false≢true (sym (ap is_some removed) ∙ ap (λ k. is_some (fin.get (fin.remove s.volatile.moving chunk) k)) same ∙ ap is_some has))
    no_other p one call other c a has false is = refl

    go : (p : Pending) → IsOne s.volatile.pending p → (b : Bool) → is_call p.req asking.call ≡ b → (b || is_copied_by s chunk p.waits) ≡ true → CanGo chunk (changed s.volatile (changes.Settled chunk)) p
    go p one true call mine = record {
      can = one.can;
      now = one.now;
      may = may_by p one chunk asking sought call;
      alone = λ other c a has. no_other p one call other c a has (is_call p.req a.call) refl;
      bare = λ other. removed;
    }
    go p one false call mine =
        let copies = copies_so s chunk p.waits mine in
        record { can = one.can; now = one.now; may = copies.0; alone = λ other. absurd (true≢false (sym copies.1 ∙ other)); bare = λ other. removed }

-- ---- the records of a view

-- of a chunk that the master knows by these names
abbrev IsOfView : NamesView → Volatile → PlainEntry → Type 0
IsOfView names v (Settle view) = IsToldView view.view × (fin.get v.moving view.handle ≡ None) × ((is_some (fin.get names.refs view.handle) || is_member v.unplaced view.handle) ≡ true)
IsOfView names v (Holder chunk server) = Unit {0}
IsOfView names v entry = ⊥

-- they leave the names
view_names : (names : NamesView) (v : Volatile) (x : PlainEntry) (d n : Durable) → IsOfView names v x → applied d x ≡ Some n → n.names ≡ d.names
unfolding applied
view_names names v (Settle view) d n of_view is = ap (λ (x : Durable). x.names) (sym (fits_gives (may_be_settled d view) (with_view d view) n is).1)
view_names names v (Holder chunk server) d n of_view is =
    ap (λ (x : Durable). x.names) (sym (fits_gives (is_upgrade d.phase && (nat_lt server 16 && is_some (prepared_view d chunk))) (record d { prepared = with_prepared d chunk (held_by server (prepared_view d chunk)) }) n is).1)
view_names names v x d n of_view is = absurd of_view

views_stand : (entries : List PlainEntry) (d e : Durable) (v : Volatile) → Stands d v → (names : NamesView) → d.names ≡ names → AllByRecursion (IsOfView names v) entries → replayed d entries ≡ Some e → Stands e v
views_stand [] d e v h names same all fit = subst (λ x. Stands x v) (some_is fit) h
  where
    some_is : {a c : Durable} → ◌≡◌ {A = Option Durable} (Some a) (Some c) → a ≡ c
    some_is k = cc
views_stand (entry ∷ entries) d e v h names same all fit = by_first (applied d entry) refl (λ n is k r. views_stand entries n e v k names (view_names names v entry d n all.0 is ∙ same) all.1 r) fit
  where
    stood : (x : PlainEntry) (n : Durable) → IsOfView names v x → applied d x ≡ Some n → Stands n v
    stood (Settle view) n told is = recorded d n v (settle_onto d n v view h told.0 told.1 (ap (λ (m : NamesView). is_some (fin.get m.refs view.handle) || is_member v.unplaced view.handle) same ∙ told.2) is) h
    stood (Holder chunk server) n told is = recorded d n v (holder_onto d n v chunk server h is) h
    stood x n told is = absurd told

    by_first : (o : Option Durable) → applied d entry ≡ o → ((n : Durable) → applied d entry ≡ Some n → Stands n v → replayed n entries ≡ Some e → Stands e v) → option_and_then (λ n. replayed n entries) o ≡ Some e → Stands e v
    by_first None is rest r = absurd (false≢true (ap is_some r))
    by_first (Some n) is rest r = rest n is (stood entry n all.0 is) r

views_numbers : (entries : List PlainEntry) (d e : Durable) (v : Volatile) → Stands d v → (names : NamesView) → d.names ≡ names → AllByRecursion (IsOfView names v) entries → replayed d entries ≡ Some e → HasNumbers d → HasNumbers e
views_numbers [] d e v h names same all fit numbers = subst HasNumbers (some_is fit) numbers
  where
    some_is : {a c : Durable} → ◌≡◌ {A = Option Durable} (Some a) (Some c) → a ≡ c
    some_is k = cc
views_numbers (entry ∷ entries) d e v h names same all fit numbers = by_first (applied d entry) refl (λ n is k r m. views_numbers entries n e v k names (view_names names v entry d n all.0 is ∙ same) all.1 r m) fit
  where
    told : (x : PlainEntry) → IsOfView names v x → (is_whole_entry x ≡ false) × IsToldIn x
    told (Settle view) of_view = (refl, tt)
    told (Holder chunk server) of_view = (refl, tt)
    told x of_view = absurd of_view

    by_first : (o : Option Durable) → applied d entry ≡ o → ((n : Durable) → applied d entry ≡ Some n → Stands n v → replayed n entries ≡ Some e → HasNumbers n → HasNumbers e) → option_and_then (λ n. replayed n entries) o ≡ Some e → HasNumbers e
    by_first None is rest r = absurd (false≢true (ap is_some r))
    by_first (Some n) is rest r =
        let so = told entry all.0 in rest n is (views_stand (entry ∷ []) d n v h names same (all.0, tt) (ap (option_and_then (λ x. Some x)) is)) r (keeps_numbers entry so.0 d n so.1 h.kept numbers is)

settling_of : (names : NamesView) (v : Volatile) (phase : _) (prepared : _) (carried : Bool) (chunk : ℕ) (asking : Asking) (view : View) → IsToldView view → fin.get v.moving chunk ≡ None → (is_some (fin.get names.refs chunk) || is_member v.unplaced chunk) ≡ true
    → AllByRecursion (IsOfView names v) (settling phase prepared carried chunk asking view)
settling_of names v phase prepared carried chunk asking view told none known = by_target (is_holder phase prepared carried asking view) (target_of asking.purpose)
  where
    by_target : (b : Bool) (target : Option ℕ) → AllByRecursion (IsOfView names v) (holder_records b chunk target ++ Settle (record { handle = chunk; view = view }) ∷ [])
    by_target b None = ((told, none, known), tt)
    by_target true (Some target) = (tt, ((told, none, known), tt))
    by_target false (Some target) = ((told, none, known), tt)

-- ---- a chunk is settled, and its calls go on

sought_on : (d : Durable) (v : Volatile) (chunk : ℕ) (asking new : Asking) → new.stamp ≡ asking.stamp → new.call ≡ asking.call → new.purpose ≡ asking.purpose → AreCounts new.answers → IsSought d v chunk asking → IsSought d v chunk new
sought_on d v chunk asking new stamp call purpose told k = record {
  known = k.known;
  handle = k.handle;
  version = ap (λ (x : Stamp). is_given d.next_version x.version) stamp ∙ k.version;
  number = subst (λ (x : Stamp). IsNumber x.version) (sym stamp) k.number;
  epoch = subst (λ (x : Stamp). x.epoch ≤ d.epoch) (sym stamp) k.epoch;
  follows = ap (follows_view (fin.get d.chunks chunk)) stamp ∙ k.follows;
  since = ap (is_since (upgrade_epoch d.phase d.epoch) (fin.get d.chunks chunk)) stamp ∙ k.since;
  told = told;
  wanted = ap (λ c. list_all (λ (p : Pending). not (is_call p.req c) || may_wait_for chunk p.waits) v.pending) call ∙ k.wanted;
  leased = λ lease. k.leased (sym (ap is_for_lease purpose) ∙ lease);
  purposed = (λ i. list_all (λ (p : Pending). not (is_call p.req (call i)) || may_ask (purpose i) p.waits) v.pending) ∙ k.purposed;
  made = λ none. ap (λ c. is_waited_by c (makes chunk) v.pending) call ∙ k.made none;
  own = λ r is here. ap (λ c. is_waited_by c (makes chunk) v.pending) call ∙ k.own r (sym call ∙ is) here;
  first = λ r is here. k.first r (sym call ∙ is) here;
  past = λ r is. k.past r (sym call ∙ is);
}

module _ (s : State) (chunk : ℕ) (asking : Asking) (h : Holds true s) (has : fin.get s.volatile.moving chunk ≡ Some asking) where
  -- the view is recorded, and what the calls that go on meet
  pub record SettlesSo (carried : Bool) (view : View) : Type 0 where
    pub good : Good true s (turned s (settle_plan (settling s.durable.phase (prepared_view s.durable chunk) carried chunk asking view) chunk view))
    pub going : Going chunk (changed s.volatile (changes.Settled chunk)) (concerned s chunk asking.call)
    pub ready : is_rolling s.durable.phase ≡ false → Ready chunk (turned s (settle_plan (settling s.durable.phase (prepared_view s.durable chunk) carried chunk asking view) chunk view)).after.durable
    pub exact : fin.get (turned s (settle_plan (settling s.durable.phase (prepared_view s.durable chunk) carried chunk asking view) chunk view)).after.durable.chunks chunk ≡ Some (record { view = view; is_moving = false })
    pub unasked : fin.get (changed s.volatile (changes.Settled chunk)).moving chunk ≡ None

  pub settles_so : (c : Chunk) (by : Poll) (carried : Bool) (moment : Moment) (view : View) → AreCounts by → view_by c asking by moment ≡ Some view → SettlesSo carried view
  settles_so c by carried moment view told e =
      let k = h.stands.asked chunk asking has in
      let v = changed s.volatile (changes.Settled chunk) in
      let records = settling s.durable.phase (prepared_view s.durable chunk) carried chunk asking view in
      let can : CanSettle s.durable chunk asking.stamp = record { handle = k.handle; version = k.version; epoch = k.epoch; follows = k.follows; since = k.since } in
      let set = settling_fits s.durable chunk asking view can (view_made c asking by moment view e) carried in
      let same = folded records s set.after set.is in
      let removed : fin.get v.moving chunk ≡ None = fin.get-remove nat_cmp_total s.volatile.moving chunk chunk ∙ ap (λ o. cond (is_eq o) None (fin.get s.volatile.moving chunk)) (tied_itself nat_cmp_total chunk) in
      let low : IsNumber asking.stamp.epoch = (let a = k.epoch in let n = h.stands.kept.now in omega arith) in
      let view_is = view_told c asking by moment view told low k.number e in
      let stands = views_stand records s.durable set.after v (settled s.durable s.volatile h.stands chunk) s.durable.names refl (settling_of s.durable.names v s.durable.phase (prepared_view s.durable chunk) carried chunk asking view view_is removed k.known) set.is in
      record {
        good = record {
          numbers = λ n. subst HasNumbers (sym same) (views_numbers records s.durable set.after v (settled s.durable s.volatile h.stands chunk) s.durable.names refl (settling_of s.durable.names v s.durable.phase (prepared_view s.durable chunk) carried chunk asking view view_is removed k.known) set.is n);
          fits = set.is ∙ ap Some (sym same);
          holds = record { stands = subst (λ d. Stands d v) (sym same) stands; rolling = λ x r. h.rolling refl (sym (ap is_rolling set.phase) ∙ sym (ap (λ (d : Durable). is_rolling d.phase) same) ∙ r) };
        };
        going = concerned_go s chunk asking h.stands k;
        ready = λ still. record { rolling = ap (λ (d : Durable). is_rolling d.phase) same ∙ ap is_rolling set.phase ∙ still; known = ap (λ (d : Durable). is_some (fin.get d.chunks chunk)) same ∙ set.known };
        exact = ap (λ (d : Durable). fin.get d.chunks chunk) same ∙ set.exact;
        unasked = removed;
      }

  settled_good : (c : Chunk) (by : Poll) (carried : Bool) (moment : Moment) (view : View) → AreCounts by → view_by c asking by moment ≡ Some view → Good true s (settled_on s chunk asking carried view)
  settled_good c by carried moment view told e =
      let records = settling s.durable.phase (prepared_view s.durable chunk) carried chunk asking view in
      let plan = settle_plan records chunk view in
      let so = settles_so c by carried moment view told e in
      test_good true s (fits s.log records) (and_then (turned s plan) (all_go_on view (concerned s chunk asking.call))) (all_refused s chunk asking.call refusals.Full)
      (λ _. then_good true s (turned s plan) (all_go_on view (concerned s chunk asking.call)) so.good
      (by_rolling view (turned s plan).after so.good.holds so.going (is_rolling s.durable.phase) refl so.ready))
      (λ _. all_given_up true (requests_of (concerned s chunk asking.call)) refusals.Full s h)
    where
      by_rolling : (view : View) (next : State) → Holds true next → Going chunk next.volatile (concerned s chunk asking.call) → (b : Bool) → is_rolling s.durable.phase ≡ b → (is_rolling s.durable.phase ≡ false → Ready chunk next.durable) → Good true next (all_go_on view (concerned s chunk asking.call) next)
      by_rolling view next held go true is ready =
          subst (λ (ps : List Pending). Good true next (all_go_on view (filter (λ (p : Pending). is_call p.req asking.call || is_copied_by s chunk p.waits) ps) next)) (sym (h.rolling refl is)) (same_good true next (unmoved next) refl refl held)
      by_rolling view next held go false is ready = all_going chunk view (concerned s chunk asking.call) next held go (ready is)

  if_good : (c : Chunk) (by : Poll) (carried : Bool) (moment : Moment) (view : Option View) → AreCounts by → view_by c asking by moment ≡ view → Good true s (settled_if s chunk asking carried view)
  if_good c by carried moment None told e = same_good true s (unmoved s) refl refl h
  if_good c by carried moment (Some view) told e = settled_good c by carried moment view told e

  stepped_good : (c : Chunk) (carried : Bool) (moment : Moment) (step : Step) → IsToldStep step → Good true s (stepped s chunk c asking carried moment step)
  unfolding settled_by
  stepped_good c carried moment steps.Wait told = same_good true s (unmoved s) refl refl h
  stepped_good c carried moment (steps.Send source target) told =
      let k = h.stands.asked chunk asking has in
      none_good true s (send_plan chunk asking source target (is_with_sealed s.durable.phase (prepared_view s.durable chunk) source))
      (ask s.durable s.volatile h.stands chunk (record asking { source = Some source }) (sought_on s.durable s.volatile chunk asking (record asking { source = Some source }) refl refl refl k.told k)) (λ x r. h.rolling x r)
  stepped_good c carried moment (steps.Settle by) told = if_good c by carried moment (view_by c asking by moment) told refl
  stepped_good c carried moment steps.Fail told = all_given_up true (requests_of (concerned s chunk asking.call)) refusals.NoReplica s h

-- ---- answers

module _ (s : State) (h : Holds true s) where
  -- what is asked now, once it was answered
  pub asked_so : (chunk : ℕ) (asking new : Asking) → fin.get s.volatile.moving chunk ≡ Some asking → new.stamp ≡ asking.stamp → new.call ≡ asking.call → new.purpose ≡ asking.purpose → AreCounts new.answers → Good true s (turned s (ask_plan chunk new))
  asked_so chunk asking new has stamp call purpose counts =
      none_good true s (ask_plan chunk new) (ask s.durable s.volatile h.stands chunk new (sought_on s.durable s.volatile chunk asking new stamp call purpose counts (h.stands.asked chunk asking has))) (λ x r. h.rolling x r)

  heard_good : (chunk : ℕ) (c : Chunk) (asking : Asking) (b : Bool) (by : Poll) (carried : Bool) (moment : Moment) (step : Step) → fin.get s.volatile.moving chunk ≡ Some asking
      → AreCounts (if b then with_answers asking by else asking).answers → IsToldStep step → Good true s (heard s chunk c (if b then with_answers asking by else asking) carried moment step)
  heard_good chunk c asking b by carried moment step has told step_told = on (if b then with_answers asking by else asking) (stamps b) (calls_same b) (purposes_same b) told
    where
      stamps : (x : Bool) → (if x then with_answers asking by else asking).stamp ≡ asking.stamp
      stamps true = refl
      stamps false = refl

      calls_same : (x : Bool) → (if x then with_answers asking by else asking).call ≡ asking.call
      calls_same true = refl
      calls_same false = refl

      purposes_same : (x : Bool) → (if x then with_answers asking by else asking).purpose ≡ asking.purpose
      purposes_same true = refl
      purposes_same false = refl

      on : (new : Asking) → new.stamp ≡ asking.stamp → new.call ≡ asking.call → new.purpose ≡ asking.purpose → AreCounts new.answers → Good true s (heard s chunk c new carried moment step)
      on new stamp call purpose counts =
          let plan = ask_plan chunk new in
          let first = asked_so chunk asking new has stamp call purpose counts in
          let now : fin.get (fin.insert s.volatile.moving chunk new) chunk ≡ Some new = fin.get-insert nat_cmp_total s.volatile.moving chunk new chunk ∙ ap (λ o. cond (is_eq o) (Some new) (fin.get s.volatile.moving chunk)) (tied_itself nat_cmp_total chunk) in
          then_good true s (turned s plan) (λ next. stepped next chunk c new carried moment step) first (stepped_good (turned s plan).after chunk new first.holds now c carried moment step step_told)

  yes_good : (server chunk : ℕ) (stamp : Stamp) (count : ℕ) (carried : Bool) (moment : Moment) (c : Chunk) (asking : Option Asking) → IsNumber count → fin.get s.volatile.moving chunk ≡ asking → Good true s (promised_for s server chunk stamp count carried moment c asking)
  yes_good server chunk stamp count carried moment c None low has = same_good true s (unmoved s) refl refl h
  yes_good server chunk stamp count carried moment c (Some asking) low has =
      let turn = heard s chunk c (heard_yes asking server count) (carried && is_target asking server) moment (step_of_yes asking server count) in
      let told = yes_told asking server count (h.stands.asked chunk asking has).told low in
      test_good true s (hears asking stamp server) turn (unmoved s)
      (λ _. heard_good chunk c asking (is_member asking.asked server) (with_yes asking.answers server count) (carried && is_target asking server) moment (step_of_yes asking server count) has told.0 told.1) (λ _. same_good true s (unmoved s) refl refl h)

  no_good : (server chunk : ℕ) (stamp : Stamp) (moment : Moment) (c : Chunk) (asking : Option Asking) → fin.get s.volatile.moving chunk ≡ asking → Good true s (unpromised_for s server chunk stamp moment c asking)
  no_good server chunk stamp moment c None has = same_good true s (unmoved s) refl refl h
  no_good server chunk stamp moment c (Some asking) has =
      let turn = heard s chunk c (heard_no asking server) false moment (step_of_no asking server) in
      let told = no_told asking server (h.stands.asked chunk asking has).told in
      test_good true s (hears asking stamp server) turn (unmoved s)
      (λ _. heard_good chunk c asking (is_member asking.asked server) (with_no asking.answers server) false moment (step_of_no asking server) has told.0 told.1) (λ _. same_good true s (unmoved s) refl refl h)

  pub promised_good : (server chunk : ℕ) (stamp : Stamp) (count : ℕ) (carried : Bool) (moment : Moment) → IsNumber count → Good true s (promised s server chunk stamp count carried moment)
  unfolding chunk_at
  promised_good server chunk stamp count carried moment low = by_entry (has_entry s chunk)
    where
      by_entry : (b : Bool) → Good true s (promised_at s server chunk stamp count carried moment (if b then Some (record { settled = fin.get s.durable.chunks chunk; asking = fin.get s.volatile.moving chunk }) else None))
      by_entry true = yes_good server chunk stamp count carried moment (record { settled = fin.get s.durable.chunks chunk; asking = fin.get s.volatile.moving chunk }) (fin.get s.volatile.moving chunk) low refl
      by_entry false = same_good true s (unmoved s) refl refl h

  pub unpromised_good : (server chunk : ℕ) (stamp : Stamp) (moment : Moment) → Good true s (unpromised s server chunk stamp moment)
  unfolding chunk_at
  unpromised_good server chunk stamp moment = by_entry (has_entry s chunk)
    where
      by_entry : (b : Bool) → Good true s (unpromised_at s server chunk stamp moment (if b then Some (record { settled = fin.get s.durable.chunks chunk; asking = fin.get s.volatile.moving chunk }) else None))
      by_entry true = no_good server chunk stamp moment (record { settled = fin.get s.durable.chunks chunk; asking = fin.get s.volatile.moving chunk }) (fin.get s.volatile.moving chunk) refl
      by_entry false = same_good true s (unmoved s) refl refl h

  -- ---- a step of a tick

  pressed_on : (chunk : ℕ) (stamp : Stamp) (moment : Moment) (c : Chunk) (asking : Option Asking) → fin.get s.volatile.moving chunk ≡ asking → Good true s (pressed_if s chunk stamp moment c asking)
  pressed_on chunk stamp moment c None has = same_good true s (unmoved s) refl refl h
  pressed_on chunk stamp moment c (Some asking) has =
      test_good true s (is_same asking.stamp stamp) (stepped s chunk c asking false moment (step_at_tick asking)) (unmoved s)
      (λ _. stepped_good s chunk asking h has c false moment (step_at_tick asking) (tick_told asking (h.stands.asked chunk asking has).told)) (λ _. same_good true s (unmoved s) refl refl h)

  pub pressed_good : (moment : Moment) (proposal : ℕ × Stamp) → Good true s (pressed moment proposal s)
  unfolding chunk_at
  pressed_good moment proposal = by_entry (has_entry s proposal.0)
    where
      by_entry : (b : Bool) → Good true s (pressed_at s proposal.0 proposal.1 moment (if b then Some (record { settled = fin.get s.durable.chunks proposal.0; asking = fin.get s.volatile.moving proposal.0 }) else None))
      by_entry true = pressed_on proposal.0 proposal.1 moment (record { settled = fin.get s.durable.chunks proposal.0; asking = fin.get s.volatile.moving proposal.0 }) (fin.get s.volatile.moving proposal.0) refl
      by_entry false = same_good true s (unmoved s) refl refl h
