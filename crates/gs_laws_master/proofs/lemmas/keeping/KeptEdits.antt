-- A record of an edit keeps what stands.
use Rattle.std.proofs.Common.{◌≡◌, ◌⊎◌, inl, inr, ◌∙◌, ◌&&◌, ◌||◌, ℕ, Bool, true, false, cond, not, List, [], ◌∷◌, refl, sym, ap, subst}
use Rattle.std.specs.Prelude.{Option, Some, None, is_some, is_none, option_map, nat_le, Result, Ok, Err, slice_get}
use Rattle.std.specs.List.{list_all}
use Rattle.std.specs.Cmp.{nat_cmp_total, tied_itself}
use Rattle.std.specs.FinMap as fin
use Rattle.std.specs.Ordering.{eq_by_cmp, is_eq, nat_cmp}
use Rattle.std.proofs.lemmas.Bool.{false≢true, and_parts}
use Rattle.gs_base.specs.Told.{IsNumber}
use Rattle.gs_base.specs.declared.numbers.ReqId.{ReqId}
use Rattle.gs_base.specs.declared.refusal.Refusal.{Refusal}
use Rattle.gs_base.specs.declared.refusal.Refusal.TheVariants.{BadLine}
use Rattle.gs_edit.specs.Edits.{handed_over, has_reference, holds_chunk}
use Rattle.gs_edit.specs.Plain.{unhide_target}
use Rattle.gs_edit.specs.View.{NamesView}
use Rattle.gs_edit.specs.declared.edit.Edit.TheVariants as edits
use Rattle.gs_edit.proofs.References.{among, get-without}
use Rattle.gs_journal.specs.declared.version.Version.TheVariants.{Two}
use Rattle.gs_lease.specs.declared.view.View.{View}
use Rattle.gs_msg.specs.declared.answer.Answer.{Answer}
use Rattle.gs_msg.specs.declared.answer.Answer.TheVariants as answers
use Rattle.gs_path.specs.Element.{is_stored}
use Rattle.gs_path.specs.Path.{Name, Path}
use Rattle.gs_master_record.specs.Plain.{PlainEdit, PlainInverse, Mkdirs, Create, Rename, Hide, Unhide, Remove, AddChunk, Cow, Snapshot, Forget, Edited}
use Rattle.gs_master_record.specs.Writable.{IsEdit, IsEntry}
use Rattle.gs_master_record.specs.declared.checkpoint.Phase.{Phase}
use Rattle.gs_master_record.specs.declared.checkpoint.Phase.TheVariants.{Ordinary, Upgrade, Rolling}
use Rattle.gs_refs.specs.Counts.{Counts, ascends, is_at_zero, taken_each, without_each}
use Rattle.gs_tree.specs.Build.{is_short}
use Rattle.gs_tree.specs.Chunks.{chunks_under, visible_chunks_under}
use Rattle.gs_tree.specs.Edits.{beside, chunks_in, hidden_path, old_name}
use Rattle.gs_tree.specs.Find.{Rows, at}
use Rattle.gs_master_spec.specs.Applied.{after_edit, after_if, applied, chunk_of_edit, forgotten_by, inverses_with, is_fresh_if, is_visible_name, may_edit, names_well, number_of_edit, view_for, with_answer, with_edit, without_chunks}
use Rattle.gs_master_spec.specs.Durable.{Durable, Settled, is_ordinary, is_rolling, kept_before, prepared_view}
use Rattle.gs_laws_master.specs.Promises.{IsKept, IsStillThere, IsToldView}
use Rattle.gs_master_spec.specs.Replies.{answer_to, client_cmp}
use Rattle.gs_master_spec.specs.Undoing.{edited_names, inverse_of, named_plain}
use Rattle.gs_master_spec.specs.declared.reply.KeptReply.{KeptReply}
use Rattle.gs_laws_master.proofs.lemmas.upgrades.Beginnings.{fits_gives}
use Rattle.gs_laws_master.proofs.lemmas.names.Commanded.{all_beside, all_hidden}
use Rattle.gs_laws_master.proofs.lemmas.names.EditsBack.{admitted, with_parts}
use Rattle.gs_laws_master.proofs.lemmas.names.Grown.{beside_long, has_name, hidden_long}
use Rattle.gs_laws_master.proofs.lemmas.keeping.KeptNames.{kept_by, stands_by}
use Rattle.gs_laws_master.proofs.lemmas.keeping.KeptRecords.{Parts, as_next, no_inverses, within_kept}
use Rattle.gs_laws_master.proofs.lemmas.keeping.KeptReplies.{AreTold, IsAnswer, location_told, path_told, replied}
use Rattle.gs_laws_master.proofs.lemmas.keeping.KeptViews.{Chunked, chunked_forgets, chunked_moves, chunked_of, kept_grows, kept_here, same_key, same_on}
use Rattle.gs_laws_master.proofs.lemmas.keeping.Kept.{forgets_one}
use Rattle.gs_laws_master.proofs.lemmas.upgrades.LedBack.{kept_tree}
use Rattle.gs_laws_master.proofs.lemmas.keeping.Sized.{all_lowered, all_raised}
use Rattle.gs_laws_master.proofs.lemmas.spelling.Spelled.{IsRead, can_hide, is_plain, plain_hidden, plain_old, read_path, stored_hidden, stored_old}
use Rattle.gs_laws_master.proofs.lemmas.names.StillNamed.{IsTold, can_hide_path, still_stands}
use Rattle.gs_laws_master.proofs.lemmas.names.Undone.{was_named}

-- ---- what an edit's record says is told

pub edit_told : (edit : PlainEdit) → IsEdit edit → IsTold edit
edit_told (Mkdirs p) h = read_path p h.1
edit_told (Create p) h = read_path p h.1
edit_told (Rename from to) h = (read_path from h.0.1, read_path to h.1.1)
edit_told (Hide p moment number) h = (read_path p h.0.1, h.1.0, h.1.1)
edit_told (Unhide p) h = read_path p h.1
edit_told (Remove p) h = tt
edit_told (AddChunk p chunk) h = read_path p h.0.1
edit_told (Cow p index old new) h = read_path p h.0.1
edit_told (Snapshot from to) h = (read_path from h.0.1, read_path to h.1.1)
edit_told (Forget chunks) h = tt

-- ---- its answer can be told

hidden_told : (p : Path) (moment number : ℕ) → IsRead p → IsNumber moment → IsNumber number → list_all can_hide p ≡ true → IsAnswer (Ok (answers.Path (hidden_path p moment number)))
hidden_told p moment number read low few can =
    path_told (hidden_path p moment number) (all_hidden is_plain is_plain p moment number read.plain read.plain (λ x h. plain_hidden moment number x low few h)) (short p read.short)
    (all_hidden is_stored can_hide p moment number read.stored can (λ x h. stored_hidden moment number x low few h))
  where
    some_path : (x : Name) (q : Path) → x ∷ q ≡ [] → ⊥
    some_path x q e = cc

    short : (q : Path) → is_short q ≡ true → is_short (hidden_path q moment number) ≡ true
    short [] h = refl
    short (x ∷ q) h = ap (λ n. nat_le n 64) (hidden_long (x ∷ q) moment number (some_path x q)) ∙ h

old_told : (p : Path) (name : Option Name) → IsRead p → old_name p ≡ name → is_visible_name name ≡ true → IsAnswer (Ok (answers.Path (unhide_target p name)))
old_told p None read old visible = path_told p read.plain read.short read.stored
old_told p (Some name) read old visible =
    path_told (beside p name) (all_beside is_plain p name read.plain (plain_old p name old read.plain)) (ap (λ n. nat_le n 64) (beside_long p name (has_name p name old)) ∙ read.short)
    (all_beside is_stored p name read.stored (stored_old p name old visible))

answer_is : {a b : Answer} → ◌≡◌ {A = Option Answer} (Some a) (Some b) → a ≡ b
answer_is h = cc

no_answer : {P : Type 0} (a : Answer) → ◌≡◌ {A = Option Answer} None (Some a) → P
no_answer a h = absurd (false≢true (ap is_some h))

-- an answer that an edit's record tells
pub edit_answers : (edit : PlainEdit) (view : Option View) (epoch : ℕ) (answer : Answer) → IsEdit edit → names_well edit ≡ true → ((v : View) → view ≡ Some v → IsToldView v) → IsNumber epoch → answer_to edit view epoch ≡ Some answer → IsAnswer (Ok answer)
edit_answers (Mkdirs p) view epoch answer written well views now e = subst (λ a. IsAnswer (Ok a)) (answer_is e) refl
edit_answers (Create p) view epoch answer written well views now e = subst (λ a. IsAnswer (Ok a)) (answer_is e) refl
edit_answers (Rename from to) view epoch answer written well views now e = subst (λ a. IsAnswer (Ok a)) (answer_is e) refl
edit_answers (Hide p moment number) view epoch answer written well views now e =
    let read = read_path p written.0.1 in
    subst (λ a. IsAnswer (Ok a)) (answer_is e) (hidden_told p moment number read written.1.0 written.1.1 (can_hide_path p read well))
edit_answers (Unhide p) view epoch answer written well views now e = subst (λ a. IsAnswer (Ok a)) (answer_is e) (old_told p (old_name p) (read_path p written.1) refl well)
edit_answers (Remove p) view epoch answer written well views now e = no_answer answer e
edit_answers (AddChunk p chunk) None epoch answer written well views now e = no_answer answer e
edit_answers (AddChunk p chunk) (Some v) epoch answer written well views now e = subst (λ a. IsAnswer (Ok a)) (answer_is e) (location_told chunk v epoch written.1 (views v refl) now)
edit_answers (Cow p index old new) view epoch answer written well views now e = no_answer answer e
edit_answers (Snapshot from to) view epoch answer written well views now e = subst (λ a. IsAnswer (Ok a)) (answer_is e) refl
edit_answers (Forget chunks) view epoch answer written well views now e = no_answer answer e

answered_all : (replies : fin.FinMap client_cmp KeptReply) (by : ReqId) (o : Option Answer) → AreTold replies → ((a : Answer) → o ≡ Some a → IsAnswer (Ok a)) → AreTold (with_answer replies by o)
answered_all replies by None all own = all
answered_all replies by (Some a) all own = replied replies by (Ok a) all (own a refl)

pub view_told : (d : Durable) (chunk : Option ℕ) (v : View) → IsKept d → view_for d chunk ≡ Some v → IsToldView v
view_told d None v k e = absurd (false≢true (ap is_some e))
view_told d (Some chunk) v k e = each (fin.get d.chunks chunk) refl e
  where
    view_is : {a b : View} → ◌≡◌ {A = Option View} (Some a) (Some b) → a ≡ b
    view_is h = cc

    each : (o : Option Settled) → fin.get d.chunks chunk ≡ o → option_map (λ (s : Settled). s.view) o ≡ Some v → IsToldView v
    each None is h = absurd (false≢true (ap is_some h))
    each (Some s) is h = subst IsToldView (view_is h) (k.views chunk s is).told

-- ---- which chunks are listed behind it

-- a chunk is the one that the edit puts into a file, or it was listed and isn't forgotten
abbrev pub WasListed : PlainEdit → Counts → ℕ → Type 0
WasListed edit refs q = (chunk_of_edit edit ≡ Some q) ⊎ ((is_some (fin.get refs q) ≡ true) × (among q (forgotten_by edit) ≡ false))

same_listed : (refs new : Counts) (q : ℕ) → ◌≡◌ {A = Result Counts Refusal} (Ok refs) (Ok new) → is_some (fin.get new q) ≡ true → is_some (fin.get refs q) ≡ true
same_listed refs new q e some = let same : refs ≡ new = cc in ap (λ (m : Counts). is_some (fin.get m q)) same ∙ some

put_listed : (refs : Counts) (k v q : ℕ) → is_some (fin.get (fin.insert refs k v) q) ≡ true → (k ≡ q) ⊎ (is_some (fin.get refs q) ≡ true)
put_listed refs k v q some = by_key (eq_by_cmp nat_cmp q k) refl (sym (ap is_some (fin.get-insert nat_cmp_total refs k v q)) ∙ some)
  where
    by_key : (b : Bool) → eq_by_cmp nat_cmp q k ≡ b → is_some (cond b (Some v) (fin.get refs q)) ≡ true → (k ≡ q) ⊎ (is_some (fin.get refs q) ≡ true)
    by_key true is h = inl (sym (same_key q k is))
    by_key false is h = inr h

referred_listed : (v : Option ℕ) → has_reference v ≡ true → is_some v ≡ true
referred_listed None h = absurd (false≢true h)
referred_listed (Some n) h = refl

abbrev Lists : PlainEdit → NamesView → Type 0
Lists edit old = (new : Rows ℕ × Counts) (q : ℕ) → named_plain edit (fin.entries old.tree) old.refs ≡ Ok new → is_some (fin.get new.1 q) ≡ true → WasListed edit old.refs q

lists_add : (p : Path) (chunk : ℕ) (old : NamesView) → Lists (AddChunk p chunk) old
lists_add p chunk old new q e some =
    let parts = admitted (edits.AddChunk p chunk) (fin.entries old.tree) old.refs new e in each (put_listed old.refs chunk 1 q (same_listed (fin.insert old.refs chunk 1) new.1 q parts.counts some))
  where
    each : (chunk ≡ q) ⊎ (is_some (fin.get old.refs q) ≡ true) → WasListed (AddChunk p chunk) old.refs q
    each (inl same) = inl (ap Some same)
    each (inr was) = inr (was, refl)

lists_cow : (p : Path) (index before chunk : ℕ) (old : NamesView) → Lists (Cow p index before chunk) old
lists_cow p index before chunk old new q e some =
    let rows = fin.entries old.tree in
    let parts = admitted (edits.Cow p index before chunk) rows old.refs new e in
    let asked = and_parts (is_none (fin.get old.refs chunk)) (holds_chunk (slice_get (chunks_in (at rows p)) index) before && has_reference (fin.get old.refs before)) parts.asked in
    let has = (and_parts (holds_chunk (slice_get (chunks_in (at rows p)) index) before) (has_reference (fin.get old.refs before)) asked.1).1 in
    outer (referred_listed (fin.get old.refs before) has) (put_listed (fin.insert old.refs chunk 1) before _ q (same_listed _ new.1 q parts.counts some))
  where
    inner : (chunk ≡ q) ⊎ (is_some (fin.get old.refs q) ≡ true) → WasListed (Cow p index before chunk) old.refs q
    inner (inl same) = inl (ap Some same)
    inner (inr was) = inr (was, refl)

    outer : is_some (fin.get old.refs before) ≡ true → (before ≡ q) ⊎ (is_some (fin.get (fin.insert old.refs chunk 1) q) ≡ true) → WasListed (Cow p index before chunk) old.refs q
    outer has (inl same) = inr (ap (λ c. is_some (fin.get old.refs c)) (sym same) ∙ has, refl)
    outer has (inr here) = inner (put_listed old.refs chunk 1 q here)

lists_forget : (chunks : List ℕ) (old : NamesView) → Lists (Forget chunks) old
lists_forget chunks old new q e some =
    let parts = with_parts (Ok (fin.entries old.tree)) (taken_each old.refs chunks) new e in by_test (ascends chunks && list_all (λ h. is_at_zero (fin.get old.refs h)) chunks) parts.1
  where
    left : (b : Bool) → among q chunks ≡ b → is_some (cond b None (fin.get old.refs q)) ≡ true → WasListed (Forget chunks) old.refs q
    left true is h = absurd (false≢true h)
    left false is h = inr (h, is)

    by_test : (b : Bool) → cond b (Ok (without_each old.refs chunks)) (Err BadLine) ≡ Ok new.1 → WasListed (Forget chunks) old.refs q
    by_test false k = absurd (let h = k in cc)
    by_test true k = left (among q chunks) refl (sym (ap is_some (get-without chunks old.refs q)) ∙ same_listed (without_each old.refs chunks) new.1 q k some)

lists_any : (edit : PlainEdit) (old : NamesView) → Lists edit old
lists_any (Mkdirs p) old new q e some = inr (same_listed old.refs new.1 q (admitted (edits.Mkdirs p) (fin.entries old.tree) old.refs new e).counts some, refl)
lists_any (Create p) old new q e some = inr (same_listed old.refs new.1 q (admitted (edits.Create p) (fin.entries old.tree) old.refs new e).counts some, refl)
lists_any (Rename from to) old new q e some = inr (same_listed old.refs new.1 q (admitted (edits.Rename from to) (fin.entries old.tree) old.refs new e).counts some, refl)
lists_any (Hide p moment number) old new q e some = inr (same_listed old.refs new.1 q (admitted (edits.Hide p (record { 0 = moment }) number) (fin.entries old.tree) old.refs new e).counts some, refl)
lists_any (Unhide p) old new q e some = inr (same_listed old.refs new.1 q (admitted (edits.Unhide p) (fin.entries old.tree) old.refs new e).counts some, refl)
lists_any (Remove p) old new q e some =
    let parts = admitted (edits.Remove p) (fin.entries old.tree) old.refs new e in inr (sym ((all_lowered (chunks_under p (fin.entries old.tree)) old.refs new.1 parts.counts).listed q) ∙ some, refl)
lists_any (AddChunk p chunk) old new q e some = lists_add p chunk old new q e some
lists_any (Cow p index before chunk) old new q e some = lists_cow p index before chunk old new q e some
lists_any (Snapshot from to) old new q e some =
    let parts = admitted (edits.Snapshot from to) (fin.entries old.tree) old.refs new e in inr (sym ((all_raised (visible_chunks_under from (fin.entries old.tree)) old.refs new.1 parts.counts).listed q) ∙ some, refl)
lists_any (Forget chunks) old new q e some = lists_forget chunks old new q e some

pub listed_before : (edit : PlainEdit) (old new : NamesView) (q : ℕ) → edited_names edit old ≡ Ok new → is_some (fin.get new.refs q) ≡ true → WasListed edit old.refs q
listed_before edit old new q e some =
    let n = was_named edit old new e in lists_any edit old (n.rows, n.refs) q n.made (ap (λ (x : NamesView). is_some (fin.get x.refs q)) n.is ∙ some)

-- ---- a chunk that isn't forgotten stays listed

pub ok_listed : (refs new : Counts) (q : ℕ) → ◌≡◌ {A = Result Counts Refusal} (Ok refs) (Ok new) → is_some (fin.get refs q) ≡ true → is_some (fin.get new q) ≡ true
ok_listed refs new q e some = let same : refs ≡ new = cc in ap (λ (m : Counts). is_some (fin.get m q)) (sym same) ∙ some

pub put_stays : (refs : Counts) (k v q : ℕ) → is_some (fin.get refs q) ≡ true → is_some (fin.get (fin.insert refs k v) q) ≡ true
put_stays refs k v q some = ap is_some (fin.get-insert nat_cmp_total refs k v q) ∙ by_key (eq_by_cmp nat_cmp q k)
  where
    by_key : (b : Bool) → is_some (cond b (Some v) (fin.get refs q)) ≡ true
    by_key true = refl
    by_key false = some

abbrev StillLists : PlainEdit → NamesView → Type 0
StillLists edit old = (new : Rows ℕ × Counts) (q : ℕ) → named_plain edit (fin.entries old.tree) old.refs ≡ Ok new → is_some (fin.get old.refs q) ≡ true → among q (forgotten_by edit) ≡ false → is_some (fin.get new.1 q) ≡ true

still_lists_forget : (chunks : List ℕ) (old : NamesView) → StillLists (Forget chunks) old
still_lists_forget chunks old new q e some out =
    by_test (ascends chunks && list_all (λ h. is_at_zero (fin.get old.refs h)) chunks) (with_parts (Ok (fin.entries old.tree)) (taken_each old.refs chunks) new e).1
  where
    by_test : (b : Bool) → cond b (Ok (without_each old.refs chunks)) (Err BadLine) ≡ Ok new.1 → is_some (fin.get new.1 q) ≡ true
    by_test false k = absurd (let h = k in cc)
    by_test true k = ok_listed (without_each old.refs chunks) new.1 q k (ap is_some (get-without chunks old.refs q ∙ ap (λ b. cond b None (fin.get old.refs q)) out) ∙ some)

still_lists : (edit : PlainEdit) (old : NamesView) → StillLists edit old
still_lists (Mkdirs p) old new q e some out = ok_listed old.refs new.1 q (admitted (edits.Mkdirs p) (fin.entries old.tree) old.refs new e).counts some
still_lists (Create p) old new q e some out = ok_listed old.refs new.1 q (admitted (edits.Create p) (fin.entries old.tree) old.refs new e).counts some
still_lists (Rename from to) old new q e some out = ok_listed old.refs new.1 q (admitted (edits.Rename from to) (fin.entries old.tree) old.refs new e).counts some
still_lists (Hide p moment number) old new q e some out = ok_listed old.refs new.1 q (admitted (edits.Hide p (record { 0 = moment }) number) (fin.entries old.tree) old.refs new e).counts some
still_lists (Unhide p) old new q e some out = ok_listed old.refs new.1 q (admitted (edits.Unhide p) (fin.entries old.tree) old.refs new e).counts some
still_lists (Remove p) old new q e some out =
    (all_lowered (chunks_under p (fin.entries old.tree)) old.refs new.1 (admitted (edits.Remove p) (fin.entries old.tree) old.refs new e).counts).listed q ∙ some
still_lists (AddChunk p chunk) old new q e some out = ok_listed (fin.insert old.refs chunk 1) new.1 q (admitted (edits.AddChunk p chunk) (fin.entries old.tree) old.refs new e).counts (put_stays old.refs chunk 1 q some)
still_lists (Cow p index before chunk) old new q e some out =
    ok_listed (handed_over old.refs before chunk) new.1 q (admitted (edits.Cow p index before chunk) (fin.entries old.tree) old.refs new e).counts (put_stays (fin.insert old.refs chunk 1) before _ q (put_stays old.refs chunk 1 q some))
still_lists (Snapshot from to) old new q e some out =
    (all_raised (visible_chunks_under from (fin.entries old.tree)) old.refs new.1 (admitted (edits.Snapshot from to) (fin.entries old.tree) old.refs new e).counts).listed q ∙ some
still_lists (Forget chunks) old new q e some out = still_lists_forget chunks old new q e some out

pub listed_after : (edit : PlainEdit) (old new : NamesView) (q : ℕ) → edited_names edit old ≡ Ok new → is_some (fin.get old.refs q) ≡ true → among q (forgotten_by edit) ≡ false → is_some (fin.get new.refs q) ≡ true
listed_after edit old new q e some out =
    let n = was_named edit old new e in ap (λ (x : NamesView). is_some (fin.get x.refs q)) (sym n.is) ∙ still_lists edit old (n.rows, n.refs) q n.made some out

-- a chunk that gets its place is listed then
pub add_lists : (p : Path) (chunk : ℕ) (old new : NamesView) → edited_names (AddChunk p chunk) old ≡ Ok new → is_some (fin.get new.refs chunk) ≡ true
add_lists p chunk old new e =
    let n = was_named (AddChunk p chunk) old new e in
    let parts = admitted (edits.AddChunk p chunk) (fin.entries old.tree) old.refs (n.rows, n.refs) n.made in
    ap (λ (x : NamesView). is_some (fin.get x.refs chunk)) (sym n.is)
    ∙ ok_listed (fin.insert old.refs chunk 1) n.refs chunk parts.counts (ap is_some (fin.get-insert nat_cmp_total old.refs chunk 1 chunk) ∙ ap (λ o. is_some (cond (is_eq o) (Some 1) (fin.get old.refs chunk))) (tied_itself nat_cmp_total chunk))

-- and the copy of a chunk that takes its place is listed then
pub cow_lists : (p : Path) (index before chunk : ℕ) (old new : NamesView) → edited_names (Cow p index before chunk) old ≡ Ok new → is_some (fin.get new.refs chunk) ≡ true
cow_lists p index before chunk old new e =
    let n = was_named (Cow p index before chunk) old new e in
    let parts = admitted (edits.Cow p index before chunk) (fin.entries old.tree) old.refs (n.rows, n.refs) n.made in
    ap (λ (x : NamesView). is_some (fin.get x.refs chunk)) (sym n.is)
    ∙ ok_listed (handed_over old.refs before chunk) n.refs chunk parts.counts
    (put_stays (fin.insert old.refs chunk 1) before _ chunk (ap is_some (fin.get-insert nat_cmp_total old.refs chunk 1 chunk) ∙ ap (λ o. is_some (cond (is_eq o) (Some 1) (fin.get old.refs chunk))) (tied_itself nat_cmp_total chunk)))

-- ---- chunks that are forgotten

abbrev pub left_of : Durable → List ℕ → Durable
left_of d chunks = record d { chunks = (without_chunks d chunks).chunks; prepared = (without_chunks d chunks).prepared }

-- nothing else changes
pub forgets_only : (d : Durable) (chunks : List ℕ) → without_chunks d chunks ≡ left_of d chunks
forgets_only d [] = refl
forgets_only d (chunk ∷ chunks) = forgets_only (record d { chunks = fin.remove d.chunks chunk; prepared = kept_before d chunk }) chunks

chunked_without : (d : Durable) (chunks : List ℕ) → Chunked d → Chunked (without_chunks d chunks)
chunked_without d [] c = c
chunked_without d (chunk ∷ chunks) c = chunked_without (record d { chunks = fin.remove d.chunks chunk; prepared = kept_before d chunk }) chunks (chunked_forgets d chunk c)

pub get_left : (d : Durable) (chunks : List ℕ) (q : ℕ) → fin.get (without_chunks d chunks).chunks q ≡ cond (among q chunks) None (fin.get d.chunks q)
get_left d [] q = refl
get_left d (chunk ∷ chunks) q =
    get_left (record d { chunks = fin.remove d.chunks chunk; prepared = kept_before d chunk }) chunks q ∙ ap (λ v. cond (among q chunks) None v) (fin.get-remove nat_cmp_total d.chunks chunk q)
    ∙ by_key (eq_by_cmp nat_cmp q chunk) (among q chunks)
  where
    by_key : (b c : Bool) → cond c None (cond b None (fin.get d.chunks q)) ≡ cond (b || c) None (fin.get d.chunks q)
    by_key true true = refl
    by_key true false = refl
    by_key false c = refl

-- what is kept stays so, and of a chunk that is forgotten the prepared view is kept
grows_left : (d : Durable) (chunks : List ℕ) (q : ℕ) → is_some (fin.get d.prepared q) ≡ true → is_some (fin.get (without_chunks d chunks).prepared q) ≡ true
grows_left d [] q some = some
grows_left d (chunk ∷ chunks) q some = grows_left (record d { chunks = fin.remove d.chunks chunk; prepared = kept_before d chunk }) chunks q (kept_grows d chunk q (prepared_view d chunk) some)

kept_left : (d : Durable) (chunks : List ℕ) (q : ℕ) → among q chunks ≡ true → is_some (prepared_view d q) ≡ true → is_some (fin.get (without_chunks d chunks).prepared q) ≡ true
kept_left d [] q here some = absurd (false≢true here)
kept_left d (chunk ∷ chunks) q here some =
    each (λ h. kept_left (record d { chunks = fin.remove d.chunks chunk; prepared = kept_before d chunk }) chunks q h (ap is_some (forgets_one d chunk q) ∙ some)) (eq_by_cmp nat_cmp q chunk) refl here
  where
    each : (among q chunks ≡ true → is_some (fin.get (without_chunks d (chunk ∷ chunks)).prepared q) ≡ true) → (b : Bool) → eq_by_cmp nat_cmp q chunk ≡ b → (b || among q chunks) ≡ true → is_some (fin.get (without_chunks d (chunk ∷ chunks)).prepared q) ≡ true
    each later true is h = grows_left (record d { chunks = fin.remove d.chunks chunk; prepared = kept_before d chunk }) chunks q (kept_here d chunk q (same_key q chunk is) some)
    each later false is h = later h

still_there : (d : Durable) (edit : PlainEdit) (names : NamesView) (q : ℕ) → edited_names edit d.names ≡ Ok names → is_some (prepared_view d q) ≡ true → IsStillThere d q
    → (is_some (fin.get names.refs q) ≡ true) ⊎ (is_some (fin.get (without_chunks d (forgotten_by edit)).prepared q) ≡ true)
still_there d edit names q named view (inr kept) = inr (grows_left d (forgotten_by edit) q kept)
still_there d edit names q named view (inl listed) = each (among q (forgotten_by edit)) refl
  where
    each : (b : Bool) → among q (forgotten_by edit) ≡ b → (is_some (fin.get names.refs q) ≡ true) ⊎ (is_some (fin.get (without_chunks d (forgotten_by edit)).prepared q) ≡ true)
    each true is = inr (kept_left d (forgotten_by edit) q is view)
    each false is = inl (listed_after edit d.names names q named listed is)

not_forgotten : (edit : PlainEdit) (q : ℕ) → chunk_of_edit edit ≡ Some q → among q (forgotten_by edit) ≡ false
not_forgotten (Mkdirs p) q e = refl
not_forgotten (Create p) q e = refl
not_forgotten (Rename from to) q e = refl
not_forgotten (Hide p moment number) q e = refl
not_forgotten (Unhide p) q e = refl
not_forgotten (Remove p) q e = refl
not_forgotten (AddChunk p chunk) q e = refl
not_forgotten (Cow p index old new) q e = refl
not_forgotten (Snapshot from to) q e = refl
not_forgotten (Forget chunks) q e = absurd (false≢true (ap is_some e))

same_some : {A B : Type 0} (f : A → B) (o : Option A) → is_some (option_map f o) ≡ is_some o
same_some f None = refl
same_some f (Some x) = refl

settled_still : (d : Durable) (edit : PlainEdit) (q : ℕ) → IsKept d → (is_none (chunk_of_edit edit) || is_some (view_for d (chunk_of_edit edit))) ≡ true → WasListed edit d.names.refs q → is_some (fin.get (without_chunks d (forgotten_by edit)).chunks q) ≡ true
settled_still d edit q k settled (inr was) = ap is_some (get_left d (forgotten_by edit) q ∙ ap (λ b. cond b None (fin.get d.chunks q)) was.1) ∙ k.settled q was.0
settled_still d edit q k settled (inl new) =
    ap is_some (get_left d (forgotten_by edit) q ∙ ap (λ b. cond b None (fin.get d.chunks q)) (not_forgotten edit q new)) ∙ sym (same_some (λ (s : Settled). s.view) (fin.get d.chunks q)) ∙ ap (λ c. is_none c || is_some (view_for d c)) (sym new) ∙ settled

-- ---- the record

pub record MayEdit (d : Durable) (edit : PlainEdit) : Type 0 where
  pub well : names_well edit ≡ true
  settled : (is_none (chunk_of_edit edit) || is_some (view_for d (chunk_of_edit edit))) ≡ true

pub may_edit_so : (d : Durable) (edit : PlainEdit) → may_edit d edit ≡ true → MayEdit d edit
may_edit_so d edit may =
    let settled = is_none (chunk_of_edit edit) || is_some (view_for d (chunk_of_edit edit)) in
    let counted = is_fresh_if d.next_hidden (number_of_edit edit) in
    let one = and_parts (not (is_rolling d.phase)) (names_well edit && (settled && counted)) may in
    let two = and_parts (names_well edit) (settled && counted) one.1 in record { well = two.0; settled = (and_parts settled counted two.1).0 }

pub none_more : (phase : Phase) (inverses : List PlainInverse) (inverse : PlainInverse) → is_ordinary phase ≡ true → inverses_with phase inverses inverse ≡ inverses
none_more Ordinary inverses inverse h = refl
none_more Upgrade inverses inverse h = absurd (false≢true h)
none_more Rolling inverses inverse h = absurd (false≢true h)

-- the answer that an edit's record tells can be told in a checkpoint
abbrev pub AnswersTold : Durable → PlainEdit → Type 0
AnswersTold d edit = names_well edit ≡ true → (a : Answer) → answer_to edit (view_for d (chunk_of_edit edit)) d.epoch ≡ Some a → IsAnswer (Ok a)

edit_parts : (d : Durable) (by : ReqId) (edit : PlainEdit) (names : NamesView) → IsTold edit → AnswersTold d edit → IsKept d → edited_names edit d.names ≡ Ok names → may_edit d edit ≡ true → Parts d (with_edit d by edit names)
edit_parts d by edit names told answers k named may =
    let so = may_edit_so d edit may in
    let tree = kept_tree d.names k.names in
    let w = left_of d (forgotten_by edit) in
    let n = record w {
      names = names;
      next_hidden = after_if d.next_hidden (number_of_edit edit);
      replies = with_answer d.replies by (answer_to edit (view_for d (chunk_of_edit edit)) d.epoch);
      inverses = inverses_with d.phase d.inverses (inverse_of edit (fin.entries d.names.tree));
    } in
    let same : n ≡ with_edit d by edit names =
    (λ i. record (sym (forgets_only d (forgotten_by edit)) i) {
      names = names;
      next_hidden = after_if d.next_hidden (number_of_edit edit);
      replies = with_answer d.replies by (answer_to edit (view_for d (chunk_of_edit edit)) d.epoch);
      inverses = inverses_with d.phase d.inverses (inverse_of edit (fin.entries d.names.tree));
    }) in
    let left = subst Chunked (forgets_only d (forgotten_by edit)) (chunked_without d (forgotten_by edit) (chunked_of d k)) in
    as_next same (Parts d) (record {
      names = kept_by names (still_stands edit d.names names (stands_by d.names k.names tree.grown tree.short) told so.well named);
      settled = λ q listed. settled_still d edit q k so.settled (listed_before edit d.names names q named listed);
      chunked = chunked_moves w n left (same_on w n refl refl refl refl) refl (λ q. refl) (λ q s has. (s, (has, refl)));
      now = k.now;
      ends = k.ends;
      none = λ is. none_more d.phase d.inverses (inverse_of edit (fin.entries d.names.tree)) is ∙ no_inverses d k is;
      phase = refl;
      still = λ q view there. still_there d edit names q named view there;
      replies = answered_all d.replies by (answer_to edit (view_for d (chunk_of_edit edit)) d.epoch) k.replies
          (answers so.well);
    })

edited_parts : (d next : Durable) (by : ReqId) (edit : PlainEdit) (names : Result NamesView Refusal) → IsTold edit → AnswersTold d edit → IsKept d → edited_names edit d.names ≡ names → after_edit d by edit names ≡ Some next → Parts d next
edited_parts d next by edit (Ok names) told answers k named e =
    let is = fits_gives (may_edit d edit) (with_edit d by edit names) next e in as_next is.1 (Parts d) (edit_parts d by edit names told answers k named is.0)
edited_parts d next by edit (Err refusal) told answers k named e = absurd (false≢true (ap is_some e))

-- It is enough that the paths that come can be told, and the answer.
pub edit_kept_told : (d next : Durable) (by : ReqId) (edit : PlainEdit) → IsTold edit → AnswersTold d edit → IsKept d → applied d (Edited by edit) ≡ Some next → IsKept next
unfolding applied
edit_kept_told d next by edit told answers k e = within_kept (Edited by edit) d next k refl e (edited_parts d next by edit (edited_names edit d.names) told answers k refl e)

-- and for that, that what the edit says can be told
pub edit_kept_by : (d next : Durable) (by : ReqId) (edit : PlainEdit) → IsEdit edit → IsKept d → applied d (Edited by edit) ≡ Some next → IsKept next
edit_kept_by d next by edit written k e =
    edit_kept_told d next by edit (edit_told edit written)
    (λ well a is. edit_answers edit (view_for d (chunk_of_edit edit)) d.epoch a written well (λ v has. view_told d (chunk_of_edit edit) v k has) k.now is) k e

pub edit_kept : (d next : Durable) (by : ReqId) (edit : PlainEdit) → IsEntry Two (Edited by edit) → IsKept d → applied d (Edited by edit) ≡ Some next → IsKept next
edit_kept d next by edit written k e = edit_kept_by d next by edit written.0.1 k e
