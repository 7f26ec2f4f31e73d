-- What an edit makes of all that is durable.
use Rattle.std.proofs.Common.{◌≡◌, ◌⊎◌, inl, inr, ◌∙◌, ◌<◌, ◌+◌, ℕ, Bool, true, false, List, [], ◌∷◌, ◌++◌, map, take, drop, drop-cons, add-one, get_or, length, refl, ap, subst, sym}
use Rattle.std.specs.Prelude.{Option, Some, None, Result, Ok, Err, option_map, is_some, unwrap_or, if◌then◌else◌}
use Rattle.std.specs.FinMap as fin
use Rattle.std.specs.Ordering.{nat_cmp}
use Rattle.std.proofs.lemmas.Bool.{false≢true}
use Rattle.std.proofs.lemmas.List.{take_more}
use Rattle.gs_base.specs.declared.numbers.ReqId.{ReqId}
use Rattle.gs_base.specs.declared.refusal.Refusal.{Refusal}
use Rattle.gs_base.specs.declared.refusal.Refusal.TheVariants.{BadLine, Memory}
use Rattle.gs_edit.specs.Edits.{named, renamed}
use Rattle.gs_edit.specs.View.{NamesView, names_of}
use Rattle.gs_edit.specs.declared.edit.Edit.{Edit}
use Rattle.gs_edit.specs.declared.listed.ListedInverse.{ListedInverse}
use Rattle.gs_msg.specs.declared.answer.Answer.{Answer}
use Rattle.gs_path.specs.Path.{path_cmp, path_total}
use Rattle.gs_master_record.specs.Plain.{Edited, PlainEdit, PlainInverse, plain_edit, plain_inverse, Mkdirs, Create, Rename, Hide, Unhide, Remove, AddChunk, Cow, Snapshot, Forget}
use Rattle.gs_master_record.specs.declared.checkpoint.Phase.{Phase}
use Rattle.gs_master_record.specs.declared.checkpoint.Phase.TheVariants.{Ordinary, Upgrade, Rolling}
use Rattle.gs_base_table.specs.Slots.{HasRoom, KeepsRoom}
use Rattle.gs_tree.specs.Entry.{Entry}
use Rattle.gs_master_spec.specs.Applied.{after_edit, after_if, applied, chunk_of_edit, forgotten_by, inverses_with, may_edit, number_of_edit, view_for, with_answer, with_edit, without_chunks}
use Rattle.gs_master_spec.specs.Durable.{Durable, Settled, kept_before, prepared_of, upgrade_epoch}
use Rattle.gs_master_spec.specs.Undoing.{edits_as_told, edited_names, inverse_of, names_from}
use Rattle.gs_master_state.specs.inner.Recorded.{IsToldBack, RoomForEach, RoomToKeep, inverses_and, unfit, SayAlone}
use Rattle.gs_master_spec.specs.Replies.{answer_to}
use Rattle.gs_master_spec.specs.declared.asking.Prepared.{Prepared}

-- ---- chunks that are forgotten

abbrev forgotten : Durable → ℕ → Durable
forgotten d chunk = record d { chunks = fin.remove d.chunks chunk; prepared = kept_before d chunk }

abbrev named_as : NamesView → Durable → Durable
named_as names d = record d { names = names }

-- the names have no part in it
forgets_beside : (d : Durable) (names : NamesView) (chunks : List ℕ) → without_chunks (named_as names d) chunks ≡ named_as names (without_chunks d chunks)
forgets_beside d names [] = refl
forgets_beside d names (chunk ∷ chunks) = forgets_beside (forgotten d chunk) names chunks

same_replies : (d : Durable) (chunks : List ℕ) → (without_chunks d chunks).replies ≡ d.replies
same_replies d [] = refl
same_replies d (chunk ∷ chunks) = same_replies (forgotten d chunk) chunks

same_inverses : (d : Durable) (chunks : List ℕ) → (without_chunks d chunks).inverses ≡ d.inverses
same_inverses d [] = refl
same_inverses d (chunk ∷ chunks) = same_inverses (forgotten d chunk) chunks

pub names_left : (d : Durable) (chunks : List ℕ) → (without_chunks d chunks).names ≡ d.names
names_left d [] = refl
names_left d (chunk ∷ chunks) = names_left (forgotten d chunk) chunks

drop_step : (xs : List ℕ) (i d : ℕ) → i < length xs → drop i xs ≡ get_or xs i d ∷ drop (i + 1) xs
drop_step xs i d h = rw (add-one, drop-cons xs i d h) refl

drop_item : (xs : List ℕ) (i x : ℕ) → i < length xs → x ≡ get_or xs i x → drop i xs ≡ x ∷ drop (i + 1) xs
drop_item xs i x h at = drop_step xs i x h ∙ ap (λ y. y ∷ drop (i + 1) xs) (sym at)

pub forget_step : (d e w : Durable) (xs : List ℕ) (i x : ℕ) → i < length xs → x ≡ get_or xs i x → e ≡ without_chunks d (x ∷ []) → without_chunks d (drop i xs) ≡ w → without_chunks e (drop (i + 1) xs) ≡ w
forget_step d e w xs i x h at is all = ap (λ y. without_chunks y (drop (i + 1) xs)) is ∙ sym (ap (without_chunks d) (drop_item xs i x h at)) ∙ all

pub room_to_keep_stays : (phase : Phase) (slots more : List (ℕ × Option Prepared)) (x : ℕ) → KeepsRoom nat_cmp slots more → RoomToKeep phase slots x → RoomToKeep phase more x
room_to_keep_stays Ordinary slots more x keeps room = tt
room_to_keep_stays Upgrade slots more x keeps room = keeps.keeps x room
room_to_keep_stays Rolling slots more x keeps room = keeps.keeps x room

-- what is kept has room
pub room_of_kept : (phase : Phase) (epoch : ℕ) (kept : Option Prepared) (settled : Option Settled) (view : Prepared) (slots : List (ℕ × Option Prepared)) (x : ℕ) →
    Some view ≡ prepared_of (upgrade_epoch phase epoch) kept settled → RoomToKeep phase slots x → HasRoom nat_cmp slots x
room_of_kept Ordinary epoch kept settled view slots x is room = absurd (false≢true (sym (ap is_some is)))
room_of_kept Upgrade epoch kept settled view slots x is room = room
room_of_kept Rolling epoch kept settled view slots x is room = room

room_kept : (phase : Phase) (slots more : List (ℕ × Option Prepared)) (xs : List ℕ) → KeepsRoom nat_cmp slots more → RoomForEach phase slots xs → RoomForEach phase more xs
room_kept phase slots more [] keeps room = tt
room_kept phase slots more (x ∷ xs) keeps room = (room_to_keep_stays phase slots more x keeps room.0, room_kept phase slots more xs keeps room.1)

pub room_rest : (phase next : Phase) (slots more : List (ℕ × Option Prepared)) (xs : List ℕ) (i n : ℕ) → next ≡ phase → i < length xs → RoomForEach phase slots (drop i xs) → KeepsRoom nat_cmp slots more
    → RoomForEach next more (drop (i + 1) xs)
room_rest phase next slots more xs i n same h room keeps =
    subst (λ p. RoomForEach p more (drop (i + 1) xs)) (sym same) (room_kept phase slots more (drop (i + 1) xs) keeps (subst (RoomForEach phase slots) (drop_step xs i n h) room).1)

pub room_here : (phase : Phase) (slots : List (ℕ × Option Prepared)) (xs : List ℕ) (i x : ℕ) → i < length xs → x ≡ get_or xs i x → RoomForEach phase slots (drop i xs) → RoomToKeep phase slots x
room_here phase slots xs i x h at room = (subst (RoomForEach phase slots) (drop_item xs i x h at) room).0

-- ---- the names

all_entries : (m : fin.FinMap path_cmp (Entry ℕ)) → fin.from_entries (fin.entries m) ≡ m
all_entries m = fin.same_map path_total (fin.slice_cmp-IsAntisymmetric (fin.slice_cmp-IsAntisymmetric fin.nat_cmp-IsAntisymmetric)) _ _ (λ q. fin.get-from_entries path_total (fin.entries m) q ∙ sym (fin.get-entries m q))

pub names_after : (edit : Edit) (old new : NamesView) → renamed edit old ≡ Ok (fin.entries new.tree, new.refs) → edited_names (plain_edit edit) old ≡ Ok new
unfolding edited_names
names_after edit old new is =
    ap names_from (edits_as_told edit (fin.entries old.tree) old.refs ∙ is) ∙ ap (λ t. Ok (names_of t new.refs)) (all_entries new.tree)

pub names_refused : (edit : Edit) (old : NamesView) (refusal : Refusal) → renamed edit old ≡ Err refusal → edited_names (plain_edit edit) old ≡ Err refusal
unfolding edited_names
names_refused edit old refusal is = ap names_from (edits_as_told edit (fin.entries old.tree) old.refs ∙ is)

-- ---- what takes the edit back

pub map_append : (is : List ListedInverse) (i : ListedInverse) → map plain_inverse (is ++ i ∷ []) ≡ map plain_inverse is ++ plain_inverse i ∷ []
map_append [] i = refl
map_append (x ∷ xs) i = ap (λ rest. plain_inverse x ∷ rest) (map_append xs i)

one_more : (inverses : List PlainInverse) (plain : PlainInverse) (inverse : Option ListedInverse) → option_map plain_inverse inverse ≡ Some plain → inverses_and inverses inverse ≡ inverses ++ plain ∷ []
one_more inverses plain None is = absurd (false≢true (ap is_some is))
one_more inverses plain (Some i) is = ap (λ o. inverses ++ unwrap_or o plain ∷ []) is

none_more : (inverses : List PlainInverse) (inverse : Option ListedInverse) → inverse ≡ None → inverses_and inverses inverse ≡ inverses
none_more inverses inverse is = ap (inverses_and inverses) is

kept_by_phase : (d : Durable) (edit : PlainEdit) (inverse : Option ListedInverse) (phase : Phase) → d.phase ≡ phase → IsToldBack (record d { phase = phase }) edit inverse →
    inverses_and d.inverses inverse ≡ inverses_with phase d.inverses (inverse_of edit (fin.entries d.names.tree))
kept_by_phase d edit inverse Ordinary is told = none_more d.inverses inverse told
kept_by_phase d edit inverse Upgrade is told = one_more d.inverses (inverse_of edit (fin.entries d.names.tree)) inverse told
kept_by_phase d edit inverse Rolling is told = none_more d.inverses inverse told

-- ---- an edit

pub edited_gives : (d d1 d2 d3 : Durable) (by : ReqId) (edit : Edit) (names : NamesView) (hidden : ℕ) (answer : Option Answer) (inverse : Option ListedInverse) →
    may_edit d (plain_edit edit) ≡ true → edited_names (plain_edit edit) d.names ≡ Ok names →
    hidden ≡ after_if d.next_hidden (number_of_edit (plain_edit edit)) → answer ≡ answer_to (plain_edit edit) (view_for d (chunk_of_edit (plain_edit edit))) d.epoch → IsToldBack d (plain_edit edit) inverse →
    d1 ≡ without_chunks (record d { names = names }) (forgotten_by (plain_edit edit)) →
    d2 ≡ record d1 { next_hidden = hidden; replies = with_answer d1.replies by answer } → d3 ≡ record d2 { inverses = inverses_and d2.inverses inverse } →
    applied d (Edited by (plain_edit edit)) ≡ Some d3
unfolding applied
edited_gives d d1 d2 d3 by edit names hidden answer inverse may named counted answered told e1 e2 e3 =
    let chunks = forgotten_by (plain_edit edit) in
    let rest = without_chunks d chunks in
    let kept = kept_by_phase d (plain_edit edit) inverse d.phase refl told in
    let made : d3 ≡ with_edit d by (plain_edit edit) names =
    e3 ∙ ap (λ (x : Durable). record x { inverses = inverses_and x.inverses inverse }) e2
    ∙ ap (λ (x : Durable). record x { next_hidden = hidden; replies = with_answer x.replies by answer; inverses = inverses_and x.inverses inverse }) (e1 ∙ forgets_beside d names chunks)
    ∙ (λ i. record rest {
      names = names;
      next_hidden = counted i;
      replies = with_answer (same_replies d chunks i) by (answered i);
      inverses = (ap (λ x. inverses_and x inverse) (same_inverses d chunks) ∙ kept) i;
    }) in
    ap (after_edit d by (plain_edit edit)) named ∙ rw may (ap Some (sym made))

pub may_not : (d : Durable) (by : ReqId) (edit : PlainEdit) → may_edit d edit ≡ false → applied d (Edited by edit) ≡ None
unfolding applied
may_not d by edit is = by_names (edited_names edit d.names)
  where
    by_names : (names : Result NamesView Refusal) → after_edit d by edit names ≡ None
    by_names (Ok names) = rw is refl
    by_names (Err refusal) = refl

pub names_do_not : (d : Durable) (by : ReqId) (edit : Edit) (refusal : Refusal) → renamed edit d.names ≡ Err refusal → applied d (Edited by (plain_edit edit)) ≡ None
unfolding applied
names_do_not d by edit refusal is = ap (after_edit d by (plain_edit edit)) (names_refused edit d.names refusal is)

either_unfit : (b : Bool) (result : Refusal) → result ≡ (if b then Memory else BadLine) → (result ≡ Memory) ⊎ (result ≡ BadLine)
either_unfit true result is = inl is
either_unfit false result is = inr is

unfit_is : (result refusal : Refusal) → result ≡ unfit refusal → (result ≡ Memory) ⊎ (result ≡ BadLine)
unfit_is result refusal is = either_unfit _ result is

refused_by : (d : Durable) (by : ReqId) (edit : Edit) (refusal result : Refusal) → result ≡ unfit refusal → (renamed edit d.names ≡ Err refusal) ⊎ (refusal ≡ Memory) →
    (result ≡ Memory) ⊎ ((applied d (Edited by (plain_edit edit)) ≡ None) × (result ≡ BadLine))
refused_by d by edit refusal result is (inr memory) = inl (is ∙ ap unfit memory)
refused_by d by edit refusal result is (inl names) = by_result (unfit_is result refusal is)
  where
    by_result : (result ≡ Memory) ⊎ (result ≡ BadLine) → (result ≡ Memory) ⊎ ((applied d (Edited by (plain_edit edit)) ≡ None) × (result ≡ BadLine))
    by_result (inl memory) = inl memory
    by_result (inr bad) = inr (names_do_not d by edit refusal names, bad)

pub edit_refused : (d : Durable) (by : ReqId) (edit : Edit) (refusal result : Refusal) (names : NamesView) → result ≡ unfit refusal → ((renamed edit d.names ≡ Err refusal) ⊎ (refusal ≡ Memory)) × (names ≡ d.names) →
    ((result ≡ Memory) ⊎ ((applied d (Edited by (plain_edit edit)) ≡ None) × (result ≡ BadLine))) × (record d { names = names } ≡ d)
edit_refused d by edit refusal result names is says = (refused_by d by edit refusal result is says.0, ap (λ n. record d { names = n }) says.1)

-- ---- room for each of several chunks

room_last : (phase : Phase) (slots : List (ℕ × Option Prepared)) (xs : List ℕ) (x : ℕ) → RoomForEach phase slots xs → RoomToKeep phase slots x → RoomForEach phase slots (xs ++ x ∷ [])
room_last phase slots [] x room here = (here, tt)
room_last phase slots (y ∷ xs) x room here = (room.0, room_last phase slots xs x room.1 here)

pub room_more : (phase : Phase) (slots more : List (ℕ × Option Prepared)) (xs : List ℕ) (i x : ℕ) → i < length xs → x ≡ get_or xs i x → RoomForEach phase slots (take i xs) → KeepsRoom nat_cmp slots more
    → RoomToKeep phase more x → RoomForEach phase more (take (i + 1) xs)
room_more phase slots more xs i x h at room keeps here =
    rw (take_more xs i x h) (room_last phase more (take i xs) (get_or xs i x) (room_kept phase slots more (take i xs) keeps room) (subst (RoomToKeep phase more) at here))

-- ---- edits that say alone what takes them back

pub say_alone : SayAlone
say_alone (Mkdirs p) rows is = absurd (false≢true (sym is))
say_alone (Create p) rows is = absurd (false≢true (sym is))
say_alone (Rename from to) rows is = absurd (false≢true (sym is))
say_alone (Hide p moment number) rows is = refl
say_alone (Unhide p) rows is = refl
say_alone (Remove p) rows is = absurd (false≢true (sym is))
say_alone (AddChunk p chunk) rows is = refl
say_alone (Cow p index old new) rows is = refl
say_alone (Snapshot from to) rows is = refl
say_alone (Forget chunks) rows is = refl
