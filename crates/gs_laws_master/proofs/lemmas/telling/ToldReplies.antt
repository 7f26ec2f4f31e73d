-- Each reply that is kept can be told, and so can each holder, behind each record.
use Rattle.std.proofs.Common.{◌≡◌, ◌∙◌, ◌<◌, ◌≤◌, ◌*◌, ◌^◌, ◌==◌, ◌&&◌, ◌++◌, ℕ, Bool, true, false, cond, List, [], ◌∷◌, length, length-append, map, refl, sym, ap, subst, arith}
use Rattle.std.specs.Prelude.{codes, nat_le, nat_lt, is_some, Option, Some, None, Result, Ok, Err, option_and_then, if◌then◌else◌}
use Rattle.std.specs.Fmt.{decimal}
use Rattle.std.specs.Cmp.{Equal-is, nat_cmp_total}
use Rattle.std.specs.FinMap as fin
use Rattle.std.specs.List.{list_all, AllByRecursion}
use Rattle.std.specs.Ordering.{eq_by_cmp, nat_cmp}
use Rattle.std.specs.Str.{IsUtf8}
use Rattle.std.proofs.lemmas.Bool.{false≢true, leb-true}
use Rattle.std.proofs.lemmas.Fmt.{IsAscii-decimal, length-decimal-le}
use Rattle.std.proofs.lemmas.Str.{IsUtf8-append, IsUtf8-from_ascii, IsUtf8-nil, is_utf8-from_IsUtf8}
use Rattle.gs_base.specs.Members.{bits_of, servers_where}
use Rattle.gs_base.specs.Told.{IsNumber}
use Rattle.gs_base.specs.declared.epoch.EpochEnd.TheVariants as ends
use Rattle.gs_base.specs.declared.numbers.ClientId.{ClientId}
use Rattle.gs_base.specs.declared.numbers.ReqId.{ReqId}
use Rattle.gs_base.specs.declared.refusal.Refusal.{Refusal}
use Rattle.gs_path.specs.Path.{Name, Path, path_text}
use Rattle.gs_tree.specs.Build.{is_short}
use Rattle.gs_tree.specs.Edits.{beside, hidden_path, old_name, unhidden}
use Rattle.gs_tree.specs.Find.{Rows, at}
use Rattle.gs_edit.specs.Plain.{unhide_target}
use Rattle.gs_edit.specs.Table.{moved_path, paths_of, tabled}
use Rattle.gs_edit.specs.View.{NamesView}
use Rattle.gs_edit.specs.declared.edit.Edit.TheVariants as edits
use Rattle.gs_edit.proofs.Covers.{covered-unhide}
use Rattle.gs_journal.specs.declared.version.Version.TheVariants.{Two}
use Rattle.gs_lease.specs.declared.view.View.{View}
use Rattle.gs_msg.specs.declared.answer.Answer.{Answer}
use Rattle.gs_msg.specs.declared.answer.Answer.TheVariants as answers
use Rattle.gs_master_record.specs.Extended.{settled_numbers, spaced}
use Rattle.gs_master_record.specs.Plain.{PlainEdit, Mkdirs, Create, Rename, Hide, Unhide, Remove, AddChunk, Cow, Snapshot, Forget, PlainEntry, Edited, Said, Propose, Settle, Prepare, Finalize, RollbackBegin, RollbackCommit, Whole, Holder}
use Rattle.gs_master_record.specs.Writable.{AreFields, AreServers, IsEdit, IsEntry, IsHandle, IsOutcome, IsReply, IsRequest, IsText}
use Rattle.gs_master_record.specs.declared.checkpoint.Phase.TheVariants.{Ordinary, Upgrade, Rolling}
use Rattle.gs_master_record.specs.declared.entry.Answered.{Answered}
use Rattle.gs_master_spec.specs.Applied.{after_edit, after_undoing, applied, are_answers, are_at_rest, chunk_of_edit, forgotten_by, held_by, is_next_epoch, is_whole_entry, may_be_settled, may_edit, may_propose, names_well, proposed, replayed, rolled_back, view_for, with_answer, with_edit, with_epoch, with_reply, with_view, without_chunks, without_prepared}
use Rattle.gs_master_spec.specs.Durable.{Durable, Settled, is_ordinary, is_rolling, is_upgrade, kept_before, prepared_of, prepared_view, start, upgrade_epoch, with_prepared}
use Rattle.gs_master_spec.specs.Replies.{answer_text, answer_to, client_cmp, is_later, outcome_of}
use Rattle.gs_master_spec.specs.Undoing.{all_undone, edited_names}
use Rattle.gs_master_spec.specs.Whole.{reply_of}
use Rattle.gs_master_spec.specs.declared.asking.Prepared.{Prepared}
use Rattle.gs_master_spec.specs.declared.reply.KeptReply.{KeptReply}
use Rattle.gs_master_state.proofs.Tracking.{client_total}
use Rattle.gs_laws_master.specs.Promises.{IsKept, IsToldView}
use Rattle.gs_laws_master.specs.Written.{AreHolders, AreReplies, HasSpelled, is_spelled}
use Rattle.gs_laws_master.proofs.lemmas.upgrades.Beginnings.{fits_gives}
use Rattle.gs_laws_master.proofs.lemmas.names.Commanded.{all_beside, unhide_gives}
use Rattle.gs_laws_master.proofs.lemmas.names.EditsBack.{admitted, done_of}
use Rattle.gs_laws_master.proofs.lemmas.names.Grown.{Grown, beside_long, has_name, hidden_long}
use Rattle.gs_laws_master.proofs.lemmas.keeping.KeptAll.{keeps_all}
use Rattle.gs_laws_master.proofs.lemmas.keeping.KeptEdits.{may_edit_so, view_told}
use Rattle.gs_laws_master.proofs.lemmas.keeping.KeptReplies.{bits_are, end_low, primary_low}
use Rattle.gs_laws_master.proofs.lemmas.upgrades.LedBack.{kept_tree}
use Rattle.gs_laws_master.proofs.lemmas.views.ServersTold.{servers_told}
use Rattle.gs_laws_master.proofs.lemmas.spelling.Spelled.{read_path}
use Rattle.gs_laws_master.proofs.lemmas.spelling.SpelledNames.{behind_long, behind_utf8, keeps_spelled, names_spelled}
use Rattle.gs_laws_master.proofs.lemmas.spelling.Spelling.{ascii_utf8, slash_utf8}
use Rattle.gs_laws_master.proofs.lemmas.telling.Tellable.{IsTellable, not_whole}
use Rattle.gs_laws_master.proofs.lemmas.telling.Telling.{bare}
use Rattle.gs_laws_master.proofs.lemmas.telling.ToldAgain.{clients_exact}
use Rattle.gs_laws_master.proofs.lemmas.names.Undone.{was_named}

-- ---- texts of answers

-- a path of spelled elements that isn't too long
text_of : (p : Path) → list_all is_spelled p ≡ true → is_short p ≡ true → IsText (path_text p)
text_of [] all short = (omega arith, is_utf8-from_IsUtf8 (47 ∷ []) slash_utf8)
text_of (x ∷ p) all short = (let few = leb-true (length (x ∷ p)) 64 short in let long = behind_long (x ∷ p) all in omega arith, is_utf8-from_IsUtf8 (path_text (x ∷ p)) (behind_utf8 (x ∷ p) all))

hidden_text : (p : Path) (moment number : ℕ) → list_all is_spelled (hidden_path p moment number) ≡ true → is_short p ≡ true → IsText (path_text (hidden_path p moment number))
hidden_text p moment number all short = text_of (hidden_path p moment number) all (still p short)
  where
    some_path : (x : Name) (q : Path) → x ∷ q ≡ [] → ⊥
    some_path x q e = cc

    still : (q : Path) → is_short q ≡ true → is_short (hidden_path q moment number) ≡ true
    still [] h = refl
    still (x ∷ q) h = ap (λ n. nat_le n 64) (hidden_long (x ∷ q) moment number (some_path x q)) ∙ h

-- what is hidden stands where it is
pub unhide_stands : (p : Path) (name : Name) (old new : NamesView) → Grown (fin.get old.tree) → old_name p ≡ Some name → edited_names (Unhide p) old ≡ Ok new → is_some (fin.get old.tree p) ≡ true
unhide_stands p name old new grown is e =
    let n = was_named (Unhide p) old new e in
    let parts = admitted (edits.Unhide p) (fin.entries old.tree) old.refs (n.rows, n.refs) n.made in by_name (old_name p) refl parts.rows n.rows
  where
    by_name : (o : Option Name) → old_name p ≡ o → {rows : Rows ℕ} → tabled (paths_of (fin.entries old.tree) ++ map (moved_path p (unhide_target p o)) (paths_of (fin.entries old.tree))) (unhidden (at (fin.entries old.tree)) p o) ≡ Ok rows → (r : Rows ℕ) → is_some (fin.get old.tree p) ≡ true
    by_name None k h r = absurd (false≢true (ap is_some (sym k ∙ is)))
    by_name (Some other) k {rows} h r =
        let m = fin.get old.tree in
        let done = done_of _ (λ m. unhidden m p (Some other)) old.tree rows (covered-unhide (fin.entries old.tree) p (Some other)) h in (unhide_gives m done.plain p other grown k done.is).stands

spaced_told : (ns : List ℕ) → AllByRecursion IsNumber ns → IsUtf8 (spaced ns) × (length (spaced ns) ≤ 21 * length ns)
spaced_told [] all = (IsUtf8-nil, omega arith)
spaced_told (n ∷ ns) all =
    let rest = spaced_told ns all.1 in
    let few = length-decimal-le 20 n (omega arith) (omega arith) all.0 in (
      IsUtf8-append (decimal n ++ codes " ") (spaced ns) (IsUtf8-append (decimal n) (codes " ") (IsUtf8-from_ascii (decimal n) (IsAscii-decimal n all.0)) (ascii_utf8 (codes " ") refl)) rest.0,
      let low = rest.1 in omega (arith, length-append (decimal n ++ codes " ") (spaced ns), length-append (decimal n) (codes " ")),
    )

location_text : (chunk : ℕ) (view : View) (epoch : ℕ) → IsHandle chunk → IsToldView view → IsNumber epoch → IsText (answer_text (answers.Location chunk view epoch))
location_text chunk view epoch handle told now =
    let numbers = settled_numbers (record { handle = chunk; view = view }) in
    let bits = lower (bits_of view.members) (bits_are view.members told.1.1.1.0).0 in
    let term = told.1.1.1.1 in
    let all : AllByRecursion IsNumber numbers = (handle.1, (told.0, (told.1.0, (told.1.1.0, (bits, (primary_low view.term term, (end_low view.term term, tt))))))) in
    let text = spaced_told numbers all in
    let few = length-decimal-le 20 epoch (omega arith) (omega arith) now in (
      let low = text.1 in omega (arith, length-append (spaced numbers) (decimal epoch)),
      is_utf8-from_IsUtf8 (spaced numbers ++ decimal epoch) (IsUtf8-append (spaced numbers) (decimal epoch) text.0 (IsUtf8-from_ascii (decimal epoch) (IsAscii-decimal epoch now))),
    )
  where
    lower : (n : ℕ) → n < 2 ^ 16 → IsNumber n
    lower n h = omega arith

-- ---- the answer to an edit

answer_is : {a b : Answer} → ◌≡◌ {A = Option Answer} (Some a) (Some b) → a ≡ b
answer_is h = cc

no_answer : {P : Type 0} (a : Answer) → ◌≡◌ {A = Option Answer} None (Some a) → P
no_answer a h = absurd (false≢true (ap is_some h))

abbrev IsTold : Answer → Type 0
IsTold answer = IsText (answer_text answer)

answer_told : (d : Durable) (edit : PlainEdit) (names : NamesView) (answer : Answer) → IsKept d → HasSpelled d → IsEdit edit → names_well edit ≡ true → edited_names edit d.names ≡ Ok names → answer_to edit (view_for d (chunk_of_edit edit)) d.epoch ≡ Some answer → IsTold answer
answer_told d (Mkdirs p) names answer k h t well e is = subst IsTold (answer_is is) bare
answer_told d (Create p) names answer k h t well e is = subst IsTold (answer_is is) bare
answer_told d (Rename from to) names answer k h t well e is = subst IsTold (answer_is is) bare
answer_told d (Hide p moment n) names answer k h t well e is = subst IsTold (answer_is is) (hidden_text p moment n (names_spelled (Hide p moment n) t well) (read_path p t.0.1).short)
answer_told d (Unhide p) names answer k h t well e is = subst IsTold (answer_is is) (by_name (old_name p) refl)
  where
    by_name : (o : Option Name) → old_name p ≡ o → IsText (path_text (unhide_target p o))
    by_name None none = t.0
    by_name (Some name) some =
        let stands = unhide_stands p name d.names names (kept_tree d.names k.names).grown some e in
        text_of (beside p name) (all_beside is_spelled p name (h.now p stands) (names_spelled (Unhide p) t well name some)) (ap (λ n. nat_le n 64) (beside_long p name (has_name p name some)) ∙ (read_path p t.1).short)
answer_told d (Remove p) names answer k h t well e is = no_answer answer is
answer_told d (AddChunk p chunk) names answer k h t well e is = by_view (view_for d (Some chunk)) refl is
  where
    by_view : (o : Option View) → view_for d (Some chunk) ≡ o → answer_to (AddChunk p chunk) o d.epoch ≡ Some answer → IsTold answer
    by_view None none i = no_answer answer i
    by_view (Some v) some i = subst IsTold (answer_is i) (location_text chunk v d.epoch t.1 (view_told d (Some chunk) v k some) k.now)
answer_told d (Cow p index old new) names answer k h t well e is = no_answer answer is
answer_told d (Snapshot from to) names answer k h t well e is = subst IsTold (answer_is is) bare
answer_told d (Forget chunks) names answer k h t well e is = no_answer answer is

-- ---- replies

abbrev AreAll : fin.FinMap client_cmp KeptReply → Type 0
AreAll replies = (client : ClientId) (reply : KeptReply) → fin.get replies client ≡ Some reply → IsReply (reply_of (client, reply))

replied : (replies : fin.FinMap client_cmp KeptReply) (to : ReqId) (result : Result Answer Refusal) → AreAll replies → IsRequest to → IsOutcome (outcome_of result) → AreAll (with_reply replies to result)
replied replies to result all heard can client reply e = later (is_later (fin.get replies to.client) to.number) e
  where
    reply_is : {a b : KeptReply} → ◌≡◌ {A = Option KeptReply} (Some a) (Some b) → a ≡ b
    reply_is h = cc

    new : KeptReply
    new = record { number = to.number; result = result }

    by_key : (b : Bool) → eq_by_cmp client_cmp client to.client ≡ b → cond b (Some new) (fin.get replies client) ≡ Some reply → IsReply (reply_of (client, reply))
    by_key true tied h =
        let same : client ≡ to.client = clients_exact client to.client ((Equal-is (client_cmp client to.client)).0 tied) in
        subst (λ (r : KeptReply). IsReply (reply_of (client, r))) (reply_is h) (subst (λ (c : ClientId). IsReply (reply_of (c, new))) (sym same) (heard, can))
    by_key false tied h = all client reply h

    later : (b : Bool) → fin.get (if b then fin.insert replies to.client new else replies) client ≡ Some reply → IsReply (reply_of (client, reply))
    later true h = by_key (eq_by_cmp client_cmp client to.client) refl (sym (fin.get-insert client_total replies to.client new client) ∙ h)
    later false h = all client reply h

answered_all : (replies : fin.FinMap client_cmp KeptReply) (by : ReqId) (o : Option Answer) → AreAll replies → IsRequest by → ((a : Answer) → o ≡ Some a → IsTold a) → AreAll (with_answer replies by o)
answered_all replies by None all heard own = all
answered_all replies by (Some a) all heard own = replied replies by (Ok a) all heard (own a refl)

same_replies : (d n next : Durable) → AreReplies d → n ≡ next → n.replies ≡ d.replies → AreReplies next
same_replies d n next all is same = subst AreReplies is (subst AreAll (sym same) all)

edit_replies : (d next : Durable) (by : ReqId) (edit : PlainEdit) → IsKept d → HasSpelled d → AreReplies d → IsRequest by → IsEdit edit → (names : Result NamesView Refusal) → edited_names edit d.names ≡ names → after_edit d by edit names ≡ Some next → AreReplies next
edit_replies d next by edit k h all heard t (Err refusal) named f = absurd (false≢true (ap is_some f))
edit_replies d next by edit k h all heard t (Ok names) named f =
    let is = fits_gives (may_edit d edit) (with_edit d by edit names) next f in
    subst AreReplies is.1 (answered_all d.replies by (answer_to edit (view_for d (chunk_of_edit edit)) d.epoch) all heard (λ a some. answer_told d edit names a k h t (may_edit_so d edit is.0).well named some))

undone_replies : (d next : Durable) (epoch : ℕ) (answers : List Answered) (names : Option NamesView) → AreReplies d → after_undoing d epoch answers names ≡ Some next → AreReplies next
undone_replies d next epoch answers None all e = absurd (false≢true (ap is_some e))
undone_replies d next epoch answers (Some names) all e =
    same_replies d (rolled_back d answers names) next all (fits_gives (is_rolling d.phase && ((epoch == d.epoch) && are_answers (prepared_view d) (fin.entries names.refs) answers)) (rolled_back d answers names) next e).1 refl

pub keeps_replies : (entry : PlainEntry) (d next : Durable) → is_whole_entry entry ≡ false → AreFields Two entry → IsKept d → HasSpelled d → AreReplies d → applied d entry ≡ Some next → AreReplies next
unfolding applied
keeps_replies (Edited by edit) d next other f k h all e = edit_replies d next by edit k h all f.0 f.1 (edited_names edit d.names) refl e
keeps_replies (Said to refusal) d next other f k h all e = subst AreReplies (fits_gives true _ next e).1 (replied d.replies to (Err refusal) all f.0 f.1)
keeps_replies (Propose chunk version) d next other f k h all e =
    same_replies d (proposed d chunk version) next all (fits_gives (may_propose d.phase d.next_handle d.next_version chunk version (fin.get d.chunks chunk)) (proposed d chunk version) next e).1 refl
keeps_replies (Settle v) d next other f k h all e = same_replies d (with_view d v) next all (fits_gives (may_be_settled d v) (with_view d v) next e).1 refl
keeps_replies (Prepare epoch moment chunks) d next other f k h all e =
    let n = without_prepared (with_epoch d ends.Prepare Upgrade) in same_replies d n next all (fits_gives (is_ordinary d.phase && (is_next_epoch d.epoch epoch && are_at_rest d)) n next e).1 refl
keeps_replies (Finalize epoch) d next other f k h all e =
    let n = without_prepared (with_epoch d ends.Finalize Ordinary) in same_replies d n next all (fits_gives (is_upgrade d.phase && is_next_epoch d.epoch epoch) n next e).1 refl
keeps_replies (RollbackBegin epoch) d next other f k h all e =
    let n = with_epoch d ends.Rollback Rolling in same_replies d n next all (fits_gives (is_upgrade d.phase && is_next_epoch d.epoch epoch) n next e).1 refl
keeps_replies (RollbackCommit epoch answers) d next other f k h all e = undone_replies d next epoch answers (all_undone d.inverses d.names) all e
keeps_replies (Whole c) d next other f k h all e = absurd (false≢true (sym other))
keeps_replies (Holder chunk server) d next other f k h all e =
    let n = record d { prepared = with_prepared d chunk (held_by server (prepared_view d chunk)) } in
    same_replies d n next all (fits_gives (is_upgrade d.phase && (nat_lt server 16 && is_some (prepared_view d chunk))) n next e).1 refl

-- ---- holders

nobody_told : AreServers []
unfolding servers_where
nobody_told = servers_told (λ server. false)

prepared_is : {a b : Prepared} → ◌≡◌ {A = Option Prepared} (Some a) (Some b) → a ≡ b
prepared_is h = cc

viewed_holders : (d : Durable) (chunk : ℕ) (p : Prepared) → AreHolders d → prepared_view d chunk ≡ Some p → AreServers p.holders
viewed_holders d chunk p all e = each (upgrade_epoch d.phase d.epoch) (fin.get d.prepared chunk) refl (fin.get d.chunks chunk) e
  where
    before : (b : Bool) (s : Settled) → (if b then Some (record { view = s.view; holders = [] }) else None) ≡ Some p → AreServers p.holders
    before true s h = subst (λ (x : Prepared). AreServers x.holders) (prepared_is h) nobody_told
    before false s h = absurd (false≢true (ap is_some h))

    each : (u : Option ℕ) (k : Option Prepared) → fin.get d.prepared chunk ≡ k → (c : Option Settled) → prepared_of u k c ≡ Some p → AreServers p.holders
    each None k ik c h = absurd (false≢true (ap is_some h))
    each (Some u) (Some k) ik c h = all chunk p (ik ∙ h)
    each (Some u) None ik (Some s) h = before (nat_lt s.view.stamp.epoch u) s h
    each (Some u) None ik None h = absurd (false≢true (ap is_some h))

with_holders : (d : Durable) (chunk : ℕ) (o : Option Prepared) → AreHolders d → ((p : Prepared) → o ≡ Some p → AreServers p.holders) → (q : ℕ) (p : Prepared) → fin.get (with_prepared d chunk o) q ≡ Some p → AreServers p.holders
with_holders d chunk None all own q p e = all q p e
with_holders d chunk (Some x) all own q p e = by_key (eq_by_cmp nat_cmp q chunk) (sym (fin.get-insert nat_cmp_total d.prepared chunk x q) ∙ e)
  where
    by_key : (b : Bool) → cond b (Some x) (fin.get d.prepared q) ≡ Some p → AreServers p.holders
    by_key true h = own p h
    by_key false h = all q p h

kept_holders : (d : Durable) (chunk : ℕ) → AreHolders d → (q : ℕ) (p : Prepared) → fin.get (kept_before d chunk) q ≡ Some p → AreServers p.holders
kept_holders d chunk all q p e = with_holders d chunk (prepared_view d chunk) all (λ x is. viewed_holders d chunk x all is) q p e

without_holders : (chunks : List ℕ) (d : Durable) → AreHolders d → AreHolders (without_chunks d chunks)
without_holders [] d all = all
without_holders (chunk ∷ chunks) d all = without_holders chunks (record d { chunks = fin.remove d.chunks chunk; prepared = kept_before d chunk }) (kept_holders d chunk all)

none_held : (q : ℕ) (p : Prepared) → fin.get start.prepared q ≡ Some p → AreServers p.holders
none_held q p e = absurd (false≢true (sym (ap is_some (fin.get-empty nat_cmp q)) ∙ ap is_some e))

edit_holders : (d next : Durable) (by : ReqId) (edit : PlainEdit) → AreHolders d → (names : Result NamesView Refusal) → after_edit d by edit names ≡ Some next → AreHolders next
edit_holders d next by edit all (Err refusal) f = absurd (false≢true (ap is_some f))
edit_holders d next by edit all (Ok names) f = subst AreHolders (fits_gives (may_edit d edit) (with_edit d by edit names) next f).1 (without_holders (forgotten_by edit) d all)

undone_holders : (d next : Durable) (epoch : ℕ) (answers : List Answered) (names : Option NamesView) → after_undoing d epoch answers names ≡ Some next → AreHolders next
undone_holders d next epoch answers None e = absurd (false≢true (ap is_some e))
undone_holders d next epoch answers (Some names) e =
    subst AreHolders (fits_gives (is_rolling d.phase && ((epoch == d.epoch) && are_answers (prepared_view d) (fin.entries names.refs) answers)) (rolled_back d answers names) next e).1 none_held

more_holders : (server : ℕ) (o : Option Prepared) (p : Prepared) → held_by server o ≡ Some p → AreServers p.holders
more_holders server None p e = absurd (false≢true (ap is_some e))
more_holders server (Some x) p e = subst (λ (y : Prepared). AreServers y.holders) (prepared_is e) (servers_told _)

pub keeps_holders : (entry : PlainEntry) (d next : Durable) → is_whole_entry entry ≡ false → AreHolders d → applied d entry ≡ Some next → AreHolders next
unfolding applied
keeps_holders (Edited by edit) d next other all e = edit_holders d next by edit all (edited_names edit d.names) e
keeps_holders (Said to refusal) d next other all e = subst AreHolders (fits_gives true _ next e).1 all
keeps_holders (Propose chunk version) d next other all e =
    subst AreHolders (fits_gives (may_propose d.phase d.next_handle d.next_version chunk version (fin.get d.chunks chunk)) (proposed d chunk version) next e).1 all
keeps_holders (Settle v) d next other all e = subst AreHolders (fits_gives (may_be_settled d v) (with_view d v) next e).1 (kept_holders d v.handle all)
keeps_holders (Prepare epoch moment chunks) d next other all e =
    let n = without_prepared (with_epoch d ends.Prepare Upgrade) in subst AreHolders (fits_gives (is_ordinary d.phase && (is_next_epoch d.epoch epoch && are_at_rest d)) n next e).1 none_held
keeps_holders (Finalize epoch) d next other all e =
    let n = without_prepared (with_epoch d ends.Finalize Ordinary) in subst AreHolders (fits_gives (is_upgrade d.phase && is_next_epoch d.epoch epoch) n next e).1 none_held
keeps_holders (RollbackBegin epoch) d next other all e = let n = with_epoch d ends.Rollback Rolling in subst AreHolders (fits_gives (is_upgrade d.phase && is_next_epoch d.epoch epoch) n next e).1 all
keeps_holders (RollbackCommit epoch answers) d next other all e = undone_holders d next epoch answers (all_undone d.inverses d.names) e
keeps_holders (Whole c) d next other all e = absurd (false≢true (sym other))
keeps_holders (Holder chunk server) d next other all e =
    let n = record d { prepared = with_prepared d chunk (held_by server (prepared_view d chunk)) } in
    subst AreHolders (fits_gives (is_upgrade d.phase && (nat_lt server 16 && is_some (prepared_view d chunk))) n next e).1 (with_holders d chunk (held_by server (prepared_view d chunk)) all (λ p is. more_holders server (prepared_view d chunk) p is))

-- ---- many records

pub all_keep_told : (entries : List PlainEntry) (d last : Durable) → IsKept d → HasSpelled d → AreReplies d → AreHolders d → AllByRecursion IsTellable entries → AllByRecursion (IsEntry Two) entries → replayed d entries ≡ Some last → AreReplies last × AreHolders last
all_keep_told [] d last k h r o t f e = (subst AreReplies (durable_is e) r, subst AreHolders (durable_is e) o)
  where
    durable_is : {a b : Durable} → ◌≡◌ {A = Option Durable} (Some a) (Some b) → a ≡ b
    durable_is x = cc
all_keep_told (entry ∷ entries) d last k h r o t f e = by_first (λ n kept spelled replies holders x. all_keep_told entries n last kept spelled replies holders t.1 f.1 x) (applied d entry) refl e
  where
    by_first : ((n : Durable) → IsKept n → HasSpelled n → AreReplies n → AreHolders n → replayed n entries ≡ Some last → AreReplies last × AreHolders last) → (a : Option Durable) → applied d entry ≡ a → option_and_then (λ n. replayed n entries) a ≡ Some last → AreReplies last × AreHolders last
    by_first rest None is x = absurd (false≢true (ap is_some x))
    by_first rest (Some n) is x =
        let other = not_whole entry t.0 in
        rest n (keeps_all entry other d n f.0 k is) (keeps_spelled entry d n other f.0.0 k h is) (keeps_replies entry d n other f.0.0 k h r is) (keeps_holders entry d n other o is) x

pub no_replies : AreReplies start
no_replies client reply e = absurd (false≢true (sym (ap is_some (fin.get-empty client_cmp client)) ∙ ap is_some e))

pub no_holders : AreHolders start
no_holders = none_held
