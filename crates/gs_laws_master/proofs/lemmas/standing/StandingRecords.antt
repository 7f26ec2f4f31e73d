-- What stands is kept by each record.
use Rattle.std.proofs.Common.{◌≡◌, ◌⊎◌, inl, inr, ◌∙◌, ◌+◌, ◌&&◌, ◌||◌, ◌==◌, ℕ, Bool, true, false, not, cond, refl, ap, sym, arith}
use Rattle.std.specs.Prelude.{nat_lt, is_some, Option, Some, None, Result, Ok, Err, if◌then◌else◌}
use Rattle.std.specs.Cmp.{nat_cmp_total}
use Rattle.std.specs.FinMap as fin
use Rattle.std.specs.Ordering.{eq_by_cmp, nat_cmp}
use Rattle.std.proofs.lemmas.Bool.{false≢true, true≢false, and_parts}
use Rattle.std.proofs.lemmas.Bool.Decides.{nat_tests}
use Rattle.gs_base.specs.Members.{is_member}
use Rattle.gs_base.specs.Numbers.{last_number}
use Rattle.gs_base.specs.Stamps.{is_before}
use Rattle.gs_base.specs.Told.{IsNumber}
use Rattle.gs_base.specs.declared.epoch.EpochEnd.TheVariants as ends
use Rattle.gs_base.specs.declared.numbers.ReqId.{ReqId}
use Rattle.gs_base.specs.declared.numbers.Stamp.{Stamp}
use Rattle.gs_base.specs.declared.refusal.Refusal.{Refusal}
use Rattle.gs_edit.proofs.References.{among}
use Rattle.gs_edit.specs.View.{NamesView}
use Rattle.gs_msg.specs.declared.answer.Answer.{Answer}
use Rattle.gs_master_record.specs.Plain.{PlainEdit, Hide, Edited, Said, Propose, Settle, Prepare, Finalize, RollbackBegin, Holder}
use Rattle.gs_master_record.specs.declared.checkpoint.Phase.{Phase}
use Rattle.gs_master_record.specs.declared.checkpoint.Phase.TheVariants.{Ordinary, Upgrade, Rolling}
use Rattle.gs_master_record.specs.declared.entry.SettledView.{SettledView}
use Rattle.gs_master_spec.specs.Applied.{after_edit, after_if, applied, are_at_rest, chunk_of_edit, follows_view, forgotten_by, held_by, inverses_with, is_fresh, is_next_epoch, is_since, may_be_settled, may_edit, may_propose, number_of_edit, proposed, raised, view_for, with_answer, with_edit, with_epoch, with_proposal, with_reply, with_view, without_chunks, without_prepared}
use Rattle.gs_master_spec.specs.Durable.{Durable, Settled, after_number, is_listed, is_ordinary, is_rolling, is_upgrade, prepared_view, upgrade_epoch, with_prepared}
use Rattle.gs_master_spec.specs.Replies.{answer_to}
use Rattle.gs_master_spec.specs.Undoing.{edited_names, inverse_of}
use Rattle.gs_master_spec.specs.Volatile.{Volatile}
use Rattle.gs_laws_master.specs.Promises.{IsToldView}
use Rattle.gs_laws_master.specs.Standing.{Stands}
use Rattle.gs_laws_master.proofs.lemmas.upgrades.Beginnings.{fits_gives}
use Rattle.gs_laws_master.proofs.lemmas.keeping.Counters.{given_behind, given_raised}
use Rattle.gs_laws_master.proofs.lemmas.keeping.KeptEdits.{AnswersTold, WasListed, edit_kept_told, forgets_only, get_left, left_of, listed_after, listed_before}
use Rattle.gs_laws_master.proofs.lemmas.keeping.KeptEpochs.{begin_kept, finalize_kept, prepare_kept}
use Rattle.gs_laws_master.proofs.lemmas.keeping.KeptRecords.{as_next, holder_kept, propose_kept, said_kept, settle_kept_told}
use Rattle.gs_laws_master.proofs.lemmas.keeping.KeptViews.{same_key}
use Rattle.gs_laws_master.proofs.lemmas.standing.Standing.{Leaves, Onto, StaysAnswered, told_answers}
use Rattle.gs_laws_master.proofs.lemmas.names.StillNamed.{IsTold}

-- ---- a refusal

same_leaves : (d e : Durable) (chunk : ℕ) → e.names ≡ d.names → e.chunks ≡ d.chunks → upgrade_epoch e.phase e.epoch ≡ upgrade_epoch d.phase d.epoch → Leaves d e chunk
same_leaves d e chunk names chunks upgrade = record {
  listed = λ l. ap (λ (n : NamesView). is_some (fin.get n.refs chunk)) names ∙ l;
  follows = λ stamp f. ap (λ m. follows_view (fin.get m chunk) stamp) chunks ∙ f;
  since = λ stamp f. ap (λ m. is_since (upgrade_epoch e.phase e.epoch) (fin.get m chunk) stamp) chunks ∙ ap (λ u. is_since u (fin.get d.chunks chunk) stamp) upgrade ∙ f;
  none = λ n. ap (λ m. fin.get m chunk) (sym chunks) ∙ n;
  bare = λ n. ap (λ m. fin.get m chunk) chunks ∙ n;
}

pub said_onto : (d e : Durable) (v : Volatile) (to : ReqId) (refusal : Refusal) → Stands d v → applied d (Said to refusal) ≡ Some e → Onto d e v
unfolding applied
said_onto d e v to refusal h fit =
    let n = record d { replies = with_reply d.replies to (Err refusal) } in
    as_next (fits_gives true n e fit).1 (λ x. Onto d x v) (record {
      kept = said_kept d n to refusal h.kept refl;
      counters = record { handle = h.counters.handle; version = h.counters.version; hidden = h.counters.hidden };
      handles = λ q g. g;
      versions = λ q g. g;
      epoch = omega arith;
      chunks = λ q some. same_leaves d n q refl refl refl;
      settled = λ q some. inl (some, λ l. l);
      unlisted = λ q here out. out;
      answered = told_answers d v to (Err refusal);
      ordinary = λ p o. o;
    })

-- ---- edits

pub number_more : (n : ℕ) → IsNumber n → IsNumber (after_number n)
number_more n low = by_last (n == last_number) refl
  where
    by_last : (b : Bool) → (n == last_number) ≡ b → IsNumber (if b then 0 else n + 1)
    by_last true is = omega arith
    by_last false is = grind (arith, nat_tests)

number_told : (edit : PlainEdit) (next : ℕ) → IsTold edit → IsNumber next → IsNumber (after_if next (number_of_edit edit))
number_told (Hide p moment number) next told low = number_more number told.2
number_told edit next told low = low

answers_stay : (d : Durable) (v : Volatile) (by : ReqId) (o : Option Answer) → StaysAnswered d v (record d { replies = with_answer d.replies by o }) v
answers_stay d v by None req was = was
answers_stay d v by (Some answer) req was = told_answers d v by (Ok answer) req was

not_so : (b : Bool) → (b ≡ true → ⊥) → b ≡ false
not_so true f = absurd (f refl)
not_so false f = refl

-- what may be edited where chunks are asked for, and new ones have no place
pub record MayStand (edit : PlainEdit) (v : Volatile) : Type 0 where
  pub asked : (chunk : ℕ) → is_some (fin.get v.moving chunk) ≡ true → among chunk (forgotten_by edit) ≡ false
  pub placed : (chunk : ℕ) → is_member v.unplaced chunk ≡ true → chunk_of_edit edit ≡ Some chunk → ⊥

named_onto : (d e : Durable) (v : Volatile) (by : ReqId) (edit : PlainEdit) → Stands d v → IsTold edit → AnswersTold d edit → MayStand edit v → applied d (Edited by edit) ≡ Some e
    → (names : Result NamesView Refusal) → edited_names edit d.names ≡ names → after_edit d by edit names ≡ Some e → Onto d e v
named_onto d e v by edit h told answers may fit (Err refusal) named k = absurd (false≢true (ap is_some k))
named_onto d e v by edit h told answers may fit (Ok names) named k =
    let is = (fits_gives (may_edit d edit) (with_edit d by edit names) e k).1 in
    let w = left_of d (forgotten_by edit) in
    let n = record w {
      names = names;
      next_hidden = after_if d.next_hidden (number_of_edit edit);
      replies = with_answer d.replies by (answer_to edit (view_for d (chunk_of_edit edit)) d.epoch);
      inverses = inverses_with d.phase d.inverses (inverse_of edit (fin.entries d.names.tree));
    } in
    let same : n ≡ with_edit d by edit names =
    (λ i. record (sym (forgets_only d (forgotten_by edit)) i) {
      names = names;
      next_hidden = after_if d.next_hidden (number_of_edit edit);
      replies = with_answer d.replies by (answer_to edit (view_for d (chunk_of_edit edit)) d.epoch);
      inverses = inverses_with d.phase d.inverses (inverse_of edit (fin.entries d.names.tree));
    }) in
    let all = same ∙ is in
    as_next all (λ x. Onto d x v) (record {
      kept = edit_kept_told d n by edit told answers h.kept (fit ∙ ap Some (sym all));
      counters = record { handle = h.counters.handle; version = h.counters.version; hidden = number_told edit d.next_hidden told h.counters.hidden };
      handles = λ q g. g;
      versions = λ q g. g;
      epoch = omega arith;
      chunks = λ q some.
          (let same_chunk : fin.get (without_chunks d (forgotten_by edit)).chunks q ≡ fin.get d.chunks q = get_left d (forgotten_by edit) q ∙ ap (λ b. cond b None (fin.get d.chunks q)) (may.asked q some) in
          record {
            listed = λ l. listed_after edit d.names names q named l (may.asked q some);
            follows = λ stamp f. ap (λ o. follows_view o stamp) same_chunk ∙ f;
            since = λ stamp f. ap (λ o. is_since (upgrade_epoch d.phase d.epoch) o stamp) same_chunk ∙ f;
            none = λ new. sym same_chunk ∙ new;
            bare = λ new. same_chunk ∙ new;
          });
      settled = λ q some. by_forgotten q (among q (forgotten_by edit)) refl (sym (ap is_some (get_left d (forgotten_by edit) q)) ∙ some);
      unlisted = λ q here out. not_so (is_some (fin.get names.refs q)) (λ listed. by_before q here out (listed_before edit d.names names q named listed));
      answered = λ req was. answers_stay d v by (answer_to edit (view_for d (chunk_of_edit edit)) d.epoch) req was;
      ordinary = λ p o. o;
    })
  where
    by_forgotten : (q : ℕ) (b : Bool) → among q (forgotten_by edit) ≡ b → is_some (cond b None (fin.get d.chunks q)) ≡ true → ((is_some (fin.get d.chunks q) ≡ true) × (is_listed d q ≡ true → is_some (fin.get names.refs q) ≡ true)) ⊎ ((is_some (fin.get names.refs q) || is_member v.unplaced q) ≡ true)
    by_forgotten q true is some = absurd (false≢true some)
    by_forgotten q false is some = inl (some, λ l. listed_after edit d.names names q named l is)

    by_before : (q : ℕ) → is_member v.unplaced q ≡ true → is_listed d q ≡ false → WasListed edit d.names.refs q → ⊥
    by_before q here out (inl new) = may.placed q here new
    by_before q here out (inr was) = true≢false (sym was.0 ∙ out)

pub edit_onto : (d e : Durable) (v : Volatile) (by : ReqId) (edit : PlainEdit) → Stands d v → IsTold edit → AnswersTold d edit → MayStand edit v → applied d (Edited by edit) ≡ Some e → Onto d e v
unfolding applied
edit_onto d e v by edit h told answers may fit = named_onto d e v by edit h told answers may fit (edited_names edit d.names) refl fit

-- ---- proposals

pub propose_onto : (d e : Durable) (v : Volatile) (chunk version : ℕ) → Stands d v → IsNumber version → IsNumber (raised d.next_handle chunk) → applied d (Propose chunk version) ≡ Some e → Onto d e v
unfolding applied
propose_onto d e v chunk version h low few fit =
    let n = proposed d chunk version in
    let is = fits_gives (may_propose d.phase d.next_handle d.next_version chunk version (fin.get d.chunks chunk)) n e fit in
    let rest = is_some (fin.get d.chunks chunk) || is_fresh d.next_handle chunk in
    let fresh = (and_parts (is_fresh d.next_version version) rest (and_parts (not (is_rolling d.phase)) (is_fresh d.next_version version && rest) is.0).1).0 in
    as_next is.1 (λ x. Onto d x v) (record {
      kept = propose_kept d n chunk version h.kept (fit ∙ ap Some (sym is.1));
      counters = record { handle = few; version = number_more version low; hidden = h.counters.hidden };
      handles = λ q g. given_raised d.next_handle chunk q g;
      versions = λ q g. given_behind d.next_version version q fresh g;
      epoch = omega arith;
      chunks = λ q some. proposed_leaves (fin.get d.chunks chunk) refl q;
      settled = λ q some. inl (was_settled (fin.get d.chunks chunk) refl q some, λ l. l);
      unlisted = λ q here out. out;
      answered = λ req was. was;
      ordinary = λ p o. o;
    })
  where
    since_any : (u : Option ℕ) (s : Settled) (stamp : Stamp) → is_since u (Some s) stamp ≡ true
    since_any None s stamp = refl
    since_any (Some up) s stamp = refl

    moves : (a b : Bool) → (a && b) ≡ true → (true && b) ≡ true
    moves a b f = (and_parts a b f).1

    by_key : (s : Settled) (q : ℕ) → fin.get d.chunks chunk ≡ Some s → (b : Bool) → eq_by_cmp nat_cmp q chunk ≡ b → (o : Option Settled) → o ≡ cond b (Some (record s { is_moving = true })) (fin.get d.chunks q)
        → ((stamp : Stamp) → follows_view (fin.get d.chunks q) stamp ≡ true → follows_view o stamp ≡ true) × (((stamp : Stamp) → is_since (upgrade_epoch d.phase d.epoch) (fin.get d.chunks q) stamp ≡ true → is_since (upgrade_epoch d.phase d.epoch) o stamp ≡ true)
        × ((o ≡ None → fin.get d.chunks q ≡ None) × (fin.get d.chunks q ≡ None → o ≡ None)))
    by_key s q has true is o e = (
      λ stamp f. ap (λ x. follows_view x stamp) e ∙ moves s.is_moving (is_before s.view.stamp stamp) (ap (λ x. follows_view x stamp) (sym (ap (fin.get d.chunks) (same_key q chunk is) ∙ has)) ∙ f),
      (λ stamp f. ap (λ x. is_since (upgrade_epoch d.phase d.epoch) x stamp) e ∙ since_any (upgrade_epoch d.phase d.epoch) (record s { is_moving = true }) stamp, (λ none. absurd (false≢true (sym (ap is_some none) ∙ ap is_some e)), λ none. absurd (false≢true (sym (ap is_some none) ∙ ap is_some (ap (fin.get d.chunks) (same_key q chunk is) ∙ has))))),
    )
    by_key s q has false is o e = (λ stamp f. ap (λ x. follows_view x stamp) e ∙ f, (λ stamp f. ap (λ x. is_since (upgrade_epoch d.phase d.epoch) x stamp) e ∙ f, (λ none. sym e ∙ none, λ none. e ∙ none)))

    was_settled : (o : Option Settled) → fin.get d.chunks chunk ≡ o → (q : ℕ) → is_some (fin.get (with_proposal d chunk o) q) ≡ true → is_some (fin.get d.chunks q) ≡ true
    was_settled None has q some = some
    was_settled (Some s) has q some = by_tied (eq_by_cmp nat_cmp q chunk) refl (sym (ap is_some (fin.get-insert nat_cmp_total d.chunks chunk (record s { is_moving = true }) q)) ∙ some)
      where
        by_tied : (b : Bool) → eq_by_cmp nat_cmp q chunk ≡ b → is_some (cond b (Some (record s { is_moving = true })) (fin.get d.chunks q)) ≡ true → is_some (fin.get d.chunks q) ≡ true
        by_tied true is k = ap is_some (ap (fin.get d.chunks) (same_key q chunk is) ∙ has)
        by_tied false is k = k

    proposed_leaves : (o : Option Settled) → fin.get d.chunks chunk ≡ o → (q : ℕ) → Leaves d (record (proposed d chunk version) { chunks = with_proposal d chunk o }) q
    proposed_leaves None has q = record { listed = λ l. l; follows = λ stamp f. f; since = λ stamp f. f; none = λ none. none; bare = λ none. none }
    proposed_leaves (Some s) has q =
        let k = by_key s q has (eq_by_cmp nat_cmp q chunk) refl (fin.get (fin.insert d.chunks chunk (record s { is_moving = true })) q) (fin.get-insert nat_cmp_total d.chunks chunk (record s { is_moving = true }) q) in
        record { listed = λ l. l; follows = k.0; since = k.1.0; none = k.1.1.0; bare = k.1.1.1 }

-- ---- views

pub settle_onto : (d e : Durable) (v : Volatile) (view : SettledView) → Stands d v → IsToldView view.view → fin.get v.moving view.handle ≡ None → (is_listed d view.handle || is_member v.unplaced view.handle) ≡ true → applied d (Settle view) ≡ Some e → Onto d e v
unfolding applied
settle_onto d e v view h told none known fit =
    let n = with_view d view in
    let is = fits_gives (may_be_settled d view) n e fit in
    as_next is.1 (λ x. Onto d x v) (record {
      kept = settle_kept_told d n view told h.kept (fit ∙ ap Some (sym is.1));
      counters = record { handle = h.counters.handle; version = h.counters.version; hidden = h.counters.hidden };
      handles = λ q g. g;
      versions = λ q g. g;
      epoch = omega arith;
      chunks = λ q some. (let same = fin.get-insert nat_cmp_total d.chunks view.handle (record { view = view.view; is_moving = false }) q ∙ by_key q some (eq_by_cmp nat_cmp q view.handle) refl in
          record { listed = λ l. l; follows = λ stamp f. ap (λ o. follows_view o stamp) same ∙ f; since = λ stamp f. ap (λ o. is_since (upgrade_epoch d.phase d.epoch) o stamp) same ∙ f; none = λ new. sym same ∙ new; bare = λ new. same ∙ new });
      settled = λ q some. by_handle q (eq_by_cmp nat_cmp q view.handle) refl (sym (ap is_some (fin.get-insert nat_cmp_total d.chunks view.handle (record { view = view.view; is_moving = false }) q)) ∙ some);
      unlisted = λ q here out. out;
      answered = λ req was. was;
      ordinary = λ p o. o;
    })
  where
    by_handle : (q : ℕ) (b : Bool) → eq_by_cmp nat_cmp q view.handle ≡ b → is_some (cond b (Some (record { view = view.view; is_moving = false })) (fin.get d.chunks q)) ≡ true → ((is_some (fin.get d.chunks q) ≡ true) × (is_listed d q ≡ true → is_listed d q ≡ true)) ⊎ ((is_listed d q || is_member v.unplaced q) ≡ true)
    by_handle q true is some = inr (ap (λ c. is_listed d c || is_member v.unplaced c) (same_key q view.handle is) ∙ known)
    by_handle q false is some = inl (some, λ l. l)

    by_key : (q : ℕ) → is_some (fin.get v.moving q) ≡ true → (b : Bool) → eq_by_cmp nat_cmp q view.handle ≡ b → cond b (Some (record { view = view.view; is_moving = false })) (fin.get d.chunks q) ≡ fin.get d.chunks q
    by_key q some true is = absurd (false≢true (sym (ap is_some none) ∙ ap (λ c. is_some (fin.get v.moving c)) (sym (same_key q view.handle is)) ∙ some))
    by_key q some false is = refl

pub holder_onto : (d e : Durable) (v : Volatile) (chunk server : ℕ) → Stands d v → applied d (Holder chunk server) ≡ Some e → Onto d e v
unfolding applied
holder_onto d e v chunk server h fit =
    let n = record d { prepared = with_prepared d chunk (held_by server (prepared_view d chunk)) } in
    let is = fits_gives (is_upgrade d.phase && (nat_lt server 16 && is_some (prepared_view d chunk))) n e fit in
    as_next is.1 (λ x. Onto d x v) (record {
      kept = holder_kept d n chunk server h.kept (fit ∙ ap Some (sym is.1));
      counters = record { handle = h.counters.handle; version = h.counters.version; hidden = h.counters.hidden };
      handles = λ q g. g;
      versions = λ q g. g;
      epoch = omega arith;
      chunks = λ q some. same_leaves d n q refl refl refl;
      settled = λ q some. inl (some, λ l. l);
      unlisted = λ q here out. out;
      answered = λ req was. was;
      ordinary = λ p o. o;
    })

-- ---- epochs

pub prepare_onto : (d e : Durable) (v : Volatile) (epoch moment chunks : ℕ) → Stands d v → ((chunk : ℕ) → fin.get v.moving chunk ≡ None) → v.is_preparing ≡ false → applied d (Prepare epoch moment chunks) ≡ Some e → Onto d e v
unfolding applied
prepare_onto d e v epoch moment chunks h still over fit =
    let n = without_prepared (with_epoch d ends.Prepare Upgrade) in
    let is = fits_gives (is_ordinary d.phase && (is_next_epoch d.epoch epoch && are_at_rest d)) n e fit in
    as_next is.1 (λ x. Onto d x v) (record {
      kept = prepare_kept d n epoch moment chunks h.kept (fit ∙ ap Some (sym is.1));
      counters = record { handle = h.counters.handle; version = h.counters.version; hidden = h.counters.hidden };
      handles = λ q g. g;
      versions = λ q g. g;
      epoch = omega arith;
      chunks = λ q some. absurd (false≢true (sym (ap is_some (still q)) ∙ some));
      settled = λ q some. inl (some, λ l. l);
      unlisted = λ q here out. out;
      answered = λ req was. was;
      ordinary = λ p o. absurd (false≢true (sym over ∙ p));
    })

pub finalize_onto : (d e : Durable) (v : Volatile) (epoch : ℕ) → Stands d v → applied d (Finalize epoch) ≡ Some e → Onto d e v
unfolding applied
finalize_onto d e v epoch h fit =
    let n = without_prepared (with_epoch d ends.Finalize Ordinary) in
    let is = fits_gives (is_upgrade d.phase && is_next_epoch d.epoch epoch) n e fit in
    as_next is.1 (λ x. Onto d x v) (record {
      kept = finalize_kept d n epoch h.kept (fit ∙ ap Some (sym is.1));
      counters = record { handle = h.counters.handle; version = h.counters.version; hidden = h.counters.hidden };
      handles = λ q g. g;
      versions = λ q g. g;
      epoch = omega arith;
      chunks = λ q some. record { listed = λ l. l; follows = λ stamp f. f; since = λ stamp f. refl; none = λ new. new; bare = λ new. new };
      settled = λ q some. inl (some, λ l. l);
      unlisted = λ q here out. out;
      answered = λ req was. was;
      ordinary = λ p o. refl;
    })

pub begin_onto : (d e : Durable) (v : Volatile) (epoch : ℕ) → Stands d v → applied d (RollbackBegin epoch) ≡ Some e → Onto d e v
unfolding applied
begin_onto d e v epoch h fit =
    let n = with_epoch d ends.Rollback Rolling in
    let is = fits_gives (is_upgrade d.phase && is_next_epoch d.epoch epoch) n e fit in
    let upgrade = (and_parts (is_upgrade d.phase) (is_next_epoch d.epoch epoch) is.0).0 in
    as_next is.1 (λ x. Onto d x v) (record {
      kept = begin_kept d n epoch h.kept (fit ∙ ap Some (sym is.1));
      counters = record { handle = h.counters.handle; version = h.counters.version; hidden = h.counters.hidden };
      handles = λ q g. g;
      versions = λ q g. g;
      epoch = omega arith;
      chunks = λ q some. same_leaves d n q refl refl (goes_on d.phase upgrade);
      settled = λ q some. inl (some, λ l. l);
      unlisted = λ q here out. out;
      answered = λ req was. was;
      ordinary = λ p o. absurd (not_both d.phase upgrade o);
    })
  where
    goes_on : (phase : Phase) → is_upgrade phase ≡ true → upgrade_epoch Rolling (d.epoch + 1) ≡ upgrade_epoch phase d.epoch
    goes_on Ordinary u = absurd (false≢true u)
    goes_on Upgrade u = ap Some (omega arith)
    goes_on Rolling u = absurd (false≢true u)

    not_both : (phase : Phase) → is_upgrade phase ≡ true → is_ordinary phase ≡ true → ⊥
    not_both Ordinary u o = false≢true u
    not_both Upgrade u o = false≢true o
    not_both Rolling u o = false≢true u
