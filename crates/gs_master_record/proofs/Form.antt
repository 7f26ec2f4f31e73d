-- What is written is of the journal's form.
use Rattle.std.proofs.Common.{◌≡◌, ℕ, suc, ◌+◌, ◌*◌, ◌^◌, ◌<◌, Bool, true, false, nat_le, List, [], ◌∷◌, ◌++◌, length, Option, Some, None, refl, sym, ap, ◌∙◌, append_assoc, arith}
use Rattle.std.specs.Prelude.{⊤, ◌||◌, ◌==◌, not}
use Rattle.std.specs.List.{flat_map, AllByRecursion}
use Rattle.std.proofs.lemmas.Bool.{le-leb, and_from}
use Rattle.std.proofs.lemmas.List.{append-nil, drop_at, length-append}
use Rattle.byteorder.specs.Endian.{big_bytes, big_number}
use Rattle.byteorder.specs.Numbers.{big_number-reads_back}
use Rattle.gs_base.specs.Refusals.{number_of}
use Rattle.gs_base.specs.Told.{detail_text}
use Rattle.gs_base.specs.declared.epoch.EpochEnd.TheVariants as epoch_ends
use Rattle.gs_base.specs.declared.refusal.Refusal.{Refusal}
use Rattle.gs_path.specs.Path.{Path, path_text}
use Rattle.gs_journal.specs.Bodies as form
use Rattle.gs_journal.specs.Reading.{Part, ◌>>=◌, skip, byte, times, items, is_end}
use Rattle.gs_journal.specs.Reading as reading
use Rattle.gs_journal.specs.declared.version.Version.{Version}
use Rattle.gs_journal.specs.declared.version.Version.TheVariants.{One, Two}
use Rattle.gs_lease.specs.declared.view.Term.{Term}
use Rattle.gs_master_record.specs.declared.checkpoint.Phase.{Phase}
use Rattle.gs_master_record.specs.declared.checkpoint.Phase.TheVariants as phases
use Rattle.gs_master_record.proofs.Told.{small, positive}
use Rattle.gs_master_record.specs.Encoding.{number, text, path, list, members, request, refusal, term, settled, answered, edit, node, tree_entry, inverse, phase, epoch_end, flag, reference, settled_entry, outcome, reply, prepared_view, checkpoint, kind, body, encoded}
use Rattle.gs_master_record.specs.Plain.{Mkdirs, Create, Rename, Hide, Unhide, Remove, AddChunk, Cow, Snapshot, Forget, PlainEntry, Edited, Said, Propose, Settle, Prepare, Finalize, RollbackBegin, RollbackCommit, Whole, Holder, UndoMkdirs, UndoCreate, UndoRename, UndoHide, UndoUnhide, UndoRemove, UndoAddChunk, UndoCow, UndoSnapshot, UndoForget, PlainOutcome, Accepted, Refused}
use Rattle.gs_master_record.specs.Writable.{IsHandle, IsText, IsPath, AreItems, IsWritable, IsTerm, IsSettled, IsAnswered, IsEdit, IsNode, IsTreeEntry, IsInverse, IsReference, IsSettledEntry, IsOutcome, IsReply, IsPreparedView, IsCheckpoint, AreFields, IsEntry}

-- a part passes over what is written
abbrev Passes : {A : Type 0} → (A → Type 0) → (A → List ℕ) → Part → Type 0
Passes {A = A} Is write part = (x : A) (rest : List ℕ) → Is x → part (write x ++ rest) ≡ Some rest

next : (r : Option (List ℕ)) (bytes rest : List ℕ) (part : Part) → r ≡ Some bytes → part bytes ≡ Some rest → (r >>= part) ≡ Some rest
next r bytes rest part e f = ap (λ (z : Option (List ℕ)). z >>= part) e ∙ f

skip_front : (a rest : List ℕ) → skip (length a) (a ++ rest) ≡ Some rest
skip_front a rest =
    let long : nat_le (length a) (length (a ++ rest)) ≡ true = le-leb _ _ (omega (arith, length-append a rest)) in
    rw (long, drop_at a rest (length a) refl) refl

-- ---- texts and lists

passes_text : Passes IsText text reading.text
passes_text t rest is =
    let count : big_number 2 (text t ++ rest) ≡ length t = big_number-reads_back 2 (length t) (t ++ rest) (let h = is.0 in omega arith) in
    next (skip 2 (text t ++ rest)) (t ++ rest) rest (skip (big_number 2 (text t ++ rest))) (skip_front (big_bytes 2 (length t)) (t ++ rest)) (ap (λ n. skip n (t ++ rest)) count ∙ skip_front t rest)

passes_path : Passes IsPath path reading.text
passes_path p rest is = passes_text (path_text p) rest is.0

passes_times : {A : Type 0} (Is : A → Type 0) (write : A → List ℕ) (part : Part) → Passes Is write part → (xs : List A) (rest : List ℕ) → AllByRecursion Is xs → times part (length xs) (flat_map write xs ++ rest) ≡ Some rest
passes_times Is write part p [] rest is = refl
passes_times Is write part p (x ∷ xs) rest is =
    ap (times part (suc (length xs))) (append_assoc (write x) (flat_map write xs) rest)
    ∙ next (part (write x ++ (flat_map write xs ++ rest))) (flat_map write xs ++ rest) rest (times part (length xs)) (p x (flat_map write xs ++ rest) is.0) (passes_times Is write part p xs rest is.1)

counted : {A : Type 0} (write : A → List ℕ) (xs : List A) (rest : List ℕ) → length xs < 2 ^ 32 → big_number 4 (list write xs ++ rest) ≡ length xs
counted write xs rest lt = big_number-reads_back 4 (length xs) (flat_map write xs ++ rest) (omega arith)

passes_list : {A : Type 0} (Is : A → Type 0) (write : A → List ℕ) (part : Part) → Passes Is write part → Passes (AreItems Is) (list write) (reading.list part)
passes_list Is write part p xs rest is =
    next (skip 4 (list write xs ++ rest)) (flat_map write xs ++ rest) rest (times part (big_number 4 (list write xs ++ rest))) (skip_front (big_bytes 4 (length xs)) (flat_map write xs ++ rest))
    (ap (λ n. times part n (flat_map write xs ++ rest)) (counted write xs rest is.0) ∙ passes_times Is write part p xs rest is.1)

long_items : {A : Type 0} (size : ℕ) (write : A → List ℕ) → ((x : A) → length (write x) ≡ size) → (xs : List A) → length (flat_map write xs) ≡ length xs * size
long_items size write h [] = omega arith
long_items size write h (x ∷ xs) = length-append (write x) (flat_map write xs) ∙ ap (λ n. n + length (flat_map write xs)) (h x) ∙ ap (λ n. size + n) (long_items size write h xs) ∙ one_more size (length xs)
  where
    one_more : (size n : ℕ) → size + n * size ≡ suc n * size
    one_more size n = omega arith

passes_items : {A : Type 0} (Is : A → Type 0) (size : ℕ) (write : A → List ℕ) → ((x : A) → length (write x) ≡ size) → Passes (AreItems Is) (list write) (items size)
passes_items Is size write h xs rest is =
    next (skip 4 (list write xs ++ rest)) (flat_map write xs ++ rest) rest (skip (big_number 4 (list write xs ++ rest) * size)) (skip_front (big_bytes 4 (length xs)) (flat_map write xs ++ rest))
    (ap (λ n. skip (n * size) (flat_map write xs ++ rest)) (counted write xs rest is.0) ∙ ap (λ n. skip n (flat_map write xs ++ rest)) (sym (long_items size write h xs)) ∙ skip_front (flat_map write xs) rest)

-- ---- views and refusals

passes_term : (t : Option Term) (rest : List ℕ) → IsTerm t → (byte form.is_primary (term t ++ rest) >>= skip 8) ≡ Some rest
passes_term None rest is = skip_front (number 0) rest
passes_term (Some t) rest is =
    let low : nat_le t.primary 15 ≡ true = le-leb _ _ (let h = is.0 in omega arith) in
    rw low (skip_front (number t.end.0) rest)

passes_settled : Passes IsSettled settled form.settled
passes_settled v rest is =
    let front = number v.handle ++ number v.view.stamp.epoch ++ number v.view.stamp.version ++ number v.view.count ++ members v.view.members in
    ap (λ r. r >>= byte form.is_primary >>= skip 8) (skip_front front (term v.view.term ++ rest)) ∙ passes_term v.view.term rest is.1.1.1.1.1

is_number : (r : Refusal) → form.is_refusal (number_of r) ≡ true
is_number r = and_from (nat_le 1 (number_of r)) (nat_le (number_of r) 38) (le-leb _ _ (let k = positive r in omega arith)) (le-leb _ _ (let k = small r in omega arith))

is_outcome : (r : Refusal) → form.is_outcome (number_of r) ≡ true
is_outcome r = le-leb _ _ (let k = small r in omega arith)

passes_refusal : (r : Refusal) (rest : List ℕ) → IsWritable r → (byte form.is_refusal (refusal r ++ rest) >>= reading.text) ≡ Some rest
passes_refusal r rest is = rw (is_number r) (passes_text (detail_text r) rest is.1)

-- ---- edits

passes_edit : Passes IsEdit edit form.edit
passes_edit (Mkdirs p) rest is = passes_path p rest is
passes_edit (Create p) rest is = passes_path p rest is
passes_edit (Rename from to) rest is = ap (form.edit_fields 3) (append_assoc (path from) (path to) rest) ∙ next (reading.text (path from ++ (path to ++ rest))) (path to ++ rest) rest reading.text (passes_path from (path to ++ rest) is.0) (passes_path to rest is.1)
passes_edit (Hide p moment n) rest is = ap (form.edit_fields 4) (append_assoc (path p) (number moment ++ number n) rest) ∙ next (reading.text (path p ++ ((number moment ++ number n) ++ rest))) ((number moment ++ number n) ++ rest) rest (skip 16) (passes_path p ((number moment ++ number n) ++ rest) is.0) (skip_front (number moment ++ number n) rest)
passes_edit (Unhide p) rest is = passes_path p rest is
passes_edit (Remove p) rest is = passes_path p rest is
passes_edit (AddChunk p chunk) rest is = ap (form.edit_fields 7) (append_assoc (path p) (number chunk) rest) ∙ next (reading.text (path p ++ (number chunk ++ rest))) (number chunk ++ rest) rest (skip 8) (passes_path p (number chunk ++ rest) is.0) (skip_front (number chunk) rest)
passes_edit (Cow p index old new) rest is =
    let fields = big_bytes 4 index ++ (number old ++ number new) in
    ap (form.edit_fields 8) (append_assoc (path p) fields rest) ∙ next (reading.text (path p ++ (fields ++ rest))) (fields ++ rest) rest (skip 20) (passes_path p (fields ++ rest) is.0) (skip_front fields rest)
passes_edit (Snapshot from to) rest is = ap (form.edit_fields 9) (append_assoc (path from) (path to) rest) ∙ next (reading.text (path from ++ (path to ++ rest))) (path to ++ rest) rest reading.text (passes_path from (path to ++ rest) is.0) (passes_path to rest is.1)
passes_edit (Forget chunks) rest is = passes_items IsHandle 8 number (λ x. refl) chunks rest is

-- ---- checkpoints

passes_node : Passes IsNode node form.tree_node
passes_node None rest is = refl
passes_node (Some chunks) rest is = passes_items IsHandle 8 number (λ x. refl) chunks rest is

passes_tree_entry : Passes IsTreeEntry tree_entry form.tree_entry
passes_tree_entry e rest is = ap form.tree_entry (append_assoc (path e.0) (node e.1) rest) ∙ next (reading.text (path e.0 ++ (node e.1 ++ rest))) (node e.1 ++ rest) rest form.tree_node (passes_path e.0 (node e.1 ++ rest) is.0) (passes_node e.1 rest is.1)

passes_moves : (now before : Path) (rest : List ℕ) → IsPath now → IsPath before → reading.two_texts ((path now ++ path before) ++ rest) ≡ Some rest
passes_moves now before rest p q = ap reading.two_texts (append_assoc (path now) (path before) rest) ∙ next (reading.text (path now ++ (path before ++ rest))) (path before ++ rest) rest reading.text (passes_path now (path before ++ rest) p) (passes_path before rest q)

passes_inverse : Passes IsInverse inverse form.inverse
passes_inverse (UndoMkdirs ps) rest is = passes_list IsPath path reading.text passes_path ps rest is
passes_inverse (UndoCreate ps) rest is = passes_list IsPath path reading.text passes_path ps rest is
passes_inverse (UndoRename now before) rest is = passes_moves now before rest is.0 is.1
passes_inverse (UndoHide now before) rest is = passes_moves now before rest is.0 is.1
passes_inverse (UndoUnhide now before) rest is = passes_moves now before rest is.0 is.1
passes_inverse (UndoRemove es) rest is = passes_list IsTreeEntry tree_entry form.tree_entry passes_tree_entry es rest is
passes_inverse (UndoAddChunk p) rest is = passes_path p rest is
passes_inverse (UndoCow p index old) rest is =
    let fields = big_bytes 4 index ++ number old in
    ap (form.inverse_fields 8) (append_assoc (path p) fields rest) ∙ next (reading.text (path p ++ (fields ++ rest))) (fields ++ rest) rest (skip 12) (passes_path p (fields ++ rest) is.0) (skip_front fields rest)
passes_inverse (UndoSnapshot p) rest is = passes_path p rest is
passes_inverse (UndoForget chunks) rest is = passes_items IsHandle 8 number (λ x. refl) chunks rest is

passes_flag : (b : Bool) (rest : List ℕ) → byte form.is_flag (flag b ++ rest) ≡ Some rest
passes_flag true rest = refl
passes_flag false rest = refl

passes_settled_entry : Passes IsSettledEntry settled_entry form.settled_entry
passes_settled_entry s rest is = ap form.settled_entry (append_assoc (settled s.settled) (flag s.is_moving) rest) ∙ next (form.settled (settled s.settled ++ (flag s.is_moving ++ rest))) (flag s.is_moving ++ rest) rest (byte form.is_flag) (passes_settled s.settled (flag s.is_moving ++ rest) is) (passes_flag s.is_moving rest)

passes_outcome : (o : PlainOutcome) (rest : List ℕ) → IsOutcome o → (byte form.is_outcome (outcome o ++ rest) >>= reading.text) ≡ Some rest
passes_outcome (Accepted answer) rest is = passes_text answer rest is
passes_outcome (Refused r) rest is = rw (is_outcome r) (passes_text (detail_text r) rest is.1)

passes_reply : Passes IsReply reply form.reply
passes_reply r rest is = ap (λ z. z >>= byte form.is_outcome >>= reading.text) (skip_front (request r.to) (outcome r.outcome ++ rest)) ∙ passes_outcome r.outcome rest is.1

passes_prepared : (version : Version) → Passes (IsPreparedView version) (prepared_view version) (form.prepared_view version)
passes_prepared One v rest is = passes_settled v.settled rest is.0
passes_prepared Two v rest is = ap (form.prepared_view Two) (append_assoc (settled v.settled) (members v.holders) rest) ∙ next (form.settled (settled v.settled ++ (members v.holders ++ rest))) (members v.holders ++ rest) rest (skip 2) (passes_settled v.settled (members v.holders ++ rest) is.0) (skip_front (members v.holders) rest)

passes_phase : (p : Phase) (rest : List ℕ) → byte form.is_phase (phase p ++ rest) ≡ Some rest
passes_phase phases.Ordinary rest = refl
passes_phase phases.Upgrade rest = refl
passes_phase phases.Rolling rest = refl

passes_end : Passes (λ e. ⊤) epoch_end (byte form.is_end_of_epoch)
passes_end epoch_ends.Prepare rest is = refl
passes_end epoch_ends.Finalize rest is = refl
passes_end epoch_ends.Rollback rest is = refl

-- one part behind another
behind : (a b rest : List ℕ) (p : Part) → p (a ++ (b ++ rest)) ≡ Some (b ++ rest) → p ((a ++ b) ++ rest) ≡ Some (b ++ rest)
behind a b rest p e = ap p (append_assoc a b rest) ∙ e

passes_checkpoint : (version : Version) → Passes (IsCheckpoint version) (checkpoint version) (form.checkpoint version)
passes_checkpoint version c rest is =
    let front = number c.next_handle ++ number c.next_version ++ number c.next_hidden ++ number c.epoch in
    let t7 = list inverse c.inverses in
    let t6 = list (prepared_view version) c.prepared ++ t7 in
    let t5 = list reply c.replies ++ t6 in
    let t4 = list settled_entry c.settled ++ t5 in
    let t3 = list reference c.references ++ t4 in
    let t2 = list tree_entry c.tree ++ t3 in
    let t1 = list epoch_end c.ends ++ t2 in
    let ks = is.0.1.1.1.1.1 in
    let s1 = behind (list epoch_end c.ends) t2 rest (reading.list (byte form.is_end_of_epoch)) (passes_list (λ e. ⊤) epoch_end (byte form.is_end_of_epoch) passes_end c.ends (t2 ++ rest) ks.0) in
    let s2 = behind (list tree_entry c.tree) t3 rest (reading.list form.tree_entry) (passes_list IsTreeEntry tree_entry form.tree_entry passes_tree_entry c.tree (t3 ++ rest) ks.1.0) in
    let s3 = behind (list reference c.references) t4 rest (items 12) (passes_items IsReference 12 reference (λ x. refl) c.references (t4 ++ rest) ks.1.1.0) in
    let s4 = behind (list settled_entry c.settled) t5 rest (reading.list form.settled_entry) (passes_list IsSettledEntry settled_entry form.settled_entry passes_settled_entry c.settled (t5 ++ rest) ks.1.1.1.0) in
    let s5 = behind (list reply c.replies) t6 rest (reading.list form.reply) (passes_list IsReply reply form.reply passes_reply c.replies (t6 ++ rest) ks.1.1.1.1.0) in
    let s6 = behind (list (prepared_view version) c.prepared) t7 rest (reading.list (form.prepared_view version)) (passes_list (IsPreparedView version) (prepared_view version) (form.prepared_view version) (passes_prepared version) c.prepared (t7 ++ rest) ks.1.1.1.1.1.0) in
    let s7 = passes_list IsInverse inverse form.inverse passes_inverse c.inverses rest ks.1.1.1.1.1.1 in
    let lists : form.checkpoint_lists version (t2 ++ rest) ≡ Some rest =
    next _ (t7 ++ rest) rest (reading.list form.inverse) (next _ (t6 ++ rest) (t7 ++ rest) (reading.list (form.prepared_view version)) (next _ (t5 ++ rest) (t6 ++ rest) (reading.list form.reply)
    (next _ (t4 ++ rest) (t5 ++ rest) (reading.list form.settled_entry) (next _ (t3 ++ rest) (t4 ++ rest) (items 12) s2 s3) s4) s5) s6) s7 in
    next _ (t2 ++ rest) rest (form.checkpoint_lists version) (next _ (t1 ++ rest) (t2 ++ rest) (reading.list (byte form.is_end_of_epoch)) (next _ (phase c.phase ++ (t1 ++ rest)) (t1 ++ rest) (byte form.is_phase)
    (skip_front front (phase c.phase ++ (t1 ++ rest))) (passes_phase c.phase (t1 ++ rest))) s1) lists

-- ---- entries

abbrev May : Bool → PlainEntry → Type 0
May is_first x = (is_first || not (kind x == 9)) ≡ true

passes_body : (version : Version) (is_first : Bool) (x : PlainEntry) (rest : List ℕ) → AreFields version x → May is_first x → form.body version is_first (kind x) (body version x ++ rest) ≡ Some rest
passes_body version is_first (Edited by e) rest is may = ap (λ z. z >>= form.edit) (skip_front (request by) (edit e ++ rest)) ∙ passes_edit e rest is.1
passes_body version is_first (Said to r) rest is may = ap (λ z. z >>= byte form.is_refusal >>= reading.text) (skip_front (request to) (refusal r ++ rest)) ∙ passes_refusal r rest is.1
passes_body version is_first (Propose chunk n) rest is may = skip_front (number chunk ++ number n) rest
passes_body version is_first (Settle v) rest is may = passes_settled v rest is
passes_body version is_first (Prepare epoch moment chunks) rest is may = skip_front (number epoch ++ number moment ++ big_bytes 4 chunks) rest
passes_body version is_first (Finalize epoch) rest is may = skip_front (number epoch) rest
passes_body version is_first (RollbackBegin epoch) rest is may = skip_front (number epoch) rest
passes_body version is_first (RollbackCommit epoch answers) rest is may = ap (λ z. z >>= items 10) (skip_front (number epoch) (list answered answers ++ rest)) ∙ passes_items IsAnswered 10 answered (λ x. refl) answers rest is.1
passes_body version true (Whole c) rest is may = passes_checkpoint version c rest is
passes_body version false (Whole c) rest is may = absurd cc
passes_body One is_first (Holder chunk server) rest is may = absurd is
passes_body Two is_first (Holder chunk server) rest is may =
    let low : nat_le server 15 ≡ true = le-leb _ _ (let h = is.1 in omega arith) in
    ap (λ z. z >>= byte form.is_server) (skip_front (number chunk) (server ∷ rest)) ∙ rw low refl

pub of_form : (version : Version) (is_first : Bool) (x : PlainEntry) → IsEntry version x → May is_first x → form.is_of_form version is_first (encoded version x) ≡ true
of_form version is_first x is may =
    ap (λ z. is_end (form.body version is_first (kind x) z)) (sym (append-nil (body version x))) ∙ ap is_end (passes_body version is_first x [] is.0 may)
