-- Edits and entries are read by their tags.
use Rattle.std.proofs.Common.{◌≡◌, ℕ, suc, Bool, true, false, cond, eqb, List, [], ◌∷◌, ◌++◌, Some, None, refl, sym, ap, ◌∙◌}
use Rattle.std.proofs.lemmas.Bool.{eqb-true}
use Rattle.gs_journal.specs.declared.version.Version.{Version}
use Rattle.gs_journal.specs.declared.version.Version.TheVariants.{One, Two}
use Rattle.gs_master_record.proofs.Fields.{n64, n32, reads_handle, reads_server, reads_path, reads_refusal, reads_request, reads_settled, reads_answered}
use Rattle.gs_master_record.proofs.Checkpoints.{reads_checkpoint}
use Rattle.gs_master_record.proofs.Tags.{Tagged, Chosen, arm, again}
use Rattle.gs_master_record.proofs.Laws.{IsBytes, Takes, Reads, reads_both, reads_list}
use Rattle.gs_master_record.specs.Encoding.{edit_tag, edit_fields, edit, kind, body}
use Rattle.gs_master_record.specs.Plain.{PlainEdit, Mkdirs, Create, Rename, Hide, Unhide, Remove, AddChunk, Cow, Snapshot, Forget, PlainEntry, Edited, Said, Propose, Settle, Prepare, Finalize, RollbackBegin, RollbackCommit, Whole, Holder}
use Rattle.gs_master_record.specs.Writable.{IsEdit, AreFields}
use Rattle.gs_master_record.specs.inner.Reading.{byte_at, edit_of_chunks_at, edit_fields_at, edit_at, holder_at, later_entry_at, entry_at}

-- ---- edits

abbrev edits : Tagged PlainEdit
edits = record { Is = IsEdit; tag = edit_tag; fields = edit_fields }

chunk_edits : (tag : ℕ) (bytes : List ℕ) (x : PlainEdit) (rest : List ℕ) → IsBytes bytes → edit_of_chunks_at tag bytes ≡ Some (x, rest) → Chosen edits tag bytes x rest
unfolding edit_of_chunks_at
chunk_edits tag bytes x rest h e =
    arm edits {of = λ x. Hide x.0 x.1.0 x.1.1} (reads_both reads_path (reads_both n64 n64)) (record { is = λ y is. is; tag = λ y. refl; fields = λ y. refl }) h (λ e.
    arm edits {of = λ x. AddChunk x.0 x.1} (reads_both reads_path reads_handle) (record { is = λ y is. is; tag = λ y. refl; fields = λ y. refl }) h (λ e.
    arm edits {of = λ x. Cow x.0 x.1.0 x.1.1.0 x.1.1.1} (reads_both reads_path (reads_both n32 (reads_both reads_handle reads_handle))) (record { is = λ y is. is; tag = λ y. refl; fields = λ y. refl }) h (λ e.
    arm edits {of = λ x. Forget x} (reads_list reads_handle) (record { is = λ y is. is; tag = λ y. refl; fields = λ y. refl }) h (λ e. absurd cc) e) e) e) e

any_edit : (tag : ℕ) (bytes : List ℕ) (x : PlainEdit) (rest : List ℕ) → IsBytes bytes → edit_fields_at tag bytes ≡ Some (x, rest) → Chosen edits tag bytes x rest
unfolding edit_fields_at
any_edit tag bytes x rest h e =
    arm edits {of = λ x. Mkdirs x} reads_path (record { is = λ y is. is; tag = λ y. refl; fields = λ y. refl }) h (λ e.
    arm edits {of = λ x. Create x} reads_path (record { is = λ y is. is; tag = λ y. refl; fields = λ y. refl }) h (λ e.
    arm edits {of = λ x. Rename x.0 x.1} (reads_both reads_path reads_path) (record { is = λ y is. is; tag = λ y. refl; fields = λ y. refl }) h (λ e.
    arm edits {of = λ x. Unhide x} reads_path (record { is = λ y is. is; tag = λ y. refl; fields = λ y. refl }) h (λ e.
    arm edits {of = λ x. Remove x} reads_path (record { is = λ y is. is; tag = λ y. refl; fields = λ y. refl }) h (λ e.
    arm edits {of = λ x. Snapshot x.0 x.1} (reads_both reads_path reads_path) (record { is = λ y is. is; tag = λ y. refl; fields = λ y. refl }) h (λ e.
    chunk_edits tag bytes x rest h e) e) e) e) e) e) e

edit_again : (x : PlainEdit) (rest : List ℕ) → IsEdit x → edit_fields_at (edit_tag x) (edit_fields x ++ rest) ≡ Some (x, rest)
unfolding edit_fields_at edit_of_chunks_at
edit_again (Mkdirs p) rest is = again (λ x. Mkdirs x) reads_path p rest is
edit_again (Create p) rest is = again (λ x. Create x) reads_path p rest is
edit_again (Rename from to) rest is = again (λ x. Rename x.0 x.1) (reads_both reads_path reads_path) (from, to) rest is
edit_again (Hide p moment n) rest is = again (λ x. Hide x.0 x.1.0 x.1.1) (reads_both reads_path (reads_both n64 n64)) (p, (moment, n)) rest is
edit_again (Unhide p) rest is = again (λ x. Unhide x) reads_path p rest is
edit_again (Remove p) rest is = again (λ x. Remove x) reads_path p rest is
edit_again (AddChunk p chunk) rest is = again (λ x. AddChunk x.0 x.1) (reads_both reads_path reads_handle) (p, chunk) rest is
edit_again (Cow p index old new) rest is = again (λ x. Cow x.0 x.1.0 x.1.1.0 x.1.1.1) (reads_both reads_path (reads_both n32 (reads_both reads_handle reads_handle))) (p, (index, (old, new))) rest is
edit_again (Snapshot from to) rest is = again (λ x. Snapshot x.0 x.1) (reads_both reads_path reads_path) (from, to) rest is
edit_again (Forget chunks) rest is = again (λ x. Forget x) (reads_list reads_handle) chunks rest is

pub reads_edit : Reads IsEdit edit edit_at
unfolding edit_at byte_at
reads_edit = record { again = edit_again; takes = takes } where
  takes : (bytes : List ℕ) (x : PlainEdit) (rest : List ℕ) → IsBytes bytes → edit_at bytes ≡ Some (x, rest) → Takes IsEdit edit bytes x rest
  takes [] x rest h e = absurd cc
  takes (b ∷ bytes) x rest h e =
      let k = any_edit b bytes x rest (λ i. h (suc i)) e in
      record { parts = ap (λ (z : List ℕ). b ∷ z) k.takes.parts ∙ ap (λ (t : ℕ). t ∷ (edit_fields x ++ rest)) (sym k.same); left = k.takes.left; is = k.takes.is }

-- ---- entries

abbrev pub entries : Version → Tagged PlainEntry
entries version = record { Is = AreFields version; tag = kind; fields = body version }

holders : (version : Version) (n : ℕ) (bytes : List ℕ) (x : PlainEntry) (rest : List ℕ) → IsBytes bytes → n ≡ 10 → holder_at version bytes ≡ Some (x, rest) → Chosen (entries version) n bytes x rest
unfolding holder_at
holders One n bytes x rest h k e = absurd cc
holders Two n bytes x rest h k e = arm (entries Two) {k = 10} {of = λ x. Holder x.0 x.1} {other = None} {n = n} (reads_both reads_handle reads_server) (record { is = λ y is. is; tag = λ y. refl; fields = λ y. refl }) h (λ e. absurd cc) (rw k e)

pub any_entry : (version : Version) (n : ℕ) (bytes : List ℕ) (x : PlainEntry) (rest : List ℕ) → IsBytes bytes → entry_at version n bytes ≡ Some (x, rest) → Chosen (entries version) n bytes x rest
unfolding entry_at later_entry_at
any_entry version n bytes x rest h e =
    arm (entries version) {of = λ x. Edited x.0 x.1} (reads_both reads_request reads_edit) (record { is = λ y is. is; tag = λ y. refl; fields = λ y. refl }) h (λ e.
    arm (entries version) {of = λ x. Said x.0 x.1} (reads_both reads_request reads_refusal) (record { is = λ y is. is; tag = λ y. refl; fields = λ y. refl }) h (λ e.
    arm (entries version) {of = λ x. Propose x.0 x.1} (reads_both reads_handle n64) (record { is = λ y is. is; tag = λ y. refl; fields = λ y. refl }) h (λ e.
    arm (entries version) {of = λ x. Settle x} reads_settled (record { is = λ y is. is; tag = λ y. refl; fields = λ y. refl }) h (λ e.
    arm (entries version) {of = λ x. Prepare x.0 x.1.0 x.1.1} (reads_both n64 (reads_both n64 n32)) (record { is = λ y is. is; tag = λ y. refl; fields = λ y. refl }) h (λ e.
    arm (entries version) {of = λ x. Finalize x} n64 (record { is = λ y is. is; tag = λ y. refl; fields = λ y. refl }) h (λ e.
    arm (entries version) {of = λ x. RollbackBegin x} n64 (record { is = λ y is. is; tag = λ y. refl; fields = λ y. refl }) h (λ e.
    arm (entries version) {of = λ x. RollbackCommit x.0 x.1} (reads_both n64 (reads_list reads_answered)) (record { is = λ y is. is; tag = λ y. refl; fields = λ y. refl }) h (λ e.
    arm (entries version) {of = λ x. Whole x} (reads_checkpoint version) (record { is = λ y is. is; tag = λ y. refl; fields = λ y. refl }) h (λ e.
    by_kind (eqb n 10) refl e) e) e) e) e) e) e) e) e) e
  where
    by_kind : (b : Bool) → eqb n 10 ≡ b → cond b (holder_at version bytes) None ≡ Some (x, rest) → Chosen (entries version) n bytes x rest
    by_kind true k e = holders version n bytes x rest h (eqb-true n 10 k) e
    by_kind false k e = absurd cc

pub entry_again : (version : Version) (x : PlainEntry) (rest : List ℕ) → AreFields version x → entry_at version (kind x) (body version x ++ rest) ≡ Some (x, rest)
unfolding entry_at later_entry_at holder_at
entry_again version (Edited by e) rest is = again (λ x. Edited x.0 x.1) (reads_both reads_request reads_edit) (by, e) rest is
entry_again version (Said to r) rest is = again (λ x. Said x.0 x.1) (reads_both reads_request reads_refusal) (to, r) rest is
entry_again version (Propose chunk n) rest is = again (λ x. Propose x.0 x.1) (reads_both reads_handle n64) (chunk, n) rest is
entry_again version (Settle v) rest is = again (λ x. Settle x) reads_settled v rest is
entry_again version (Prepare epoch moment chunks) rest is = again (λ x. Prepare x.0 x.1.0 x.1.1) (reads_both n64 (reads_both n64 n32)) (epoch, (moment, chunks)) rest is
entry_again version (Finalize epoch) rest is = again (λ x. Finalize x) n64 epoch rest is
entry_again version (RollbackBegin epoch) rest is = again (λ x. RollbackBegin x) n64 epoch rest is
entry_again version (RollbackCommit epoch answers) rest is = again (λ x. RollbackCommit x.0 x.1) (reads_both n64 (reads_list reads_answered)) (epoch, answers) rest is
entry_again version (Whole c) rest is = again (λ x. Whole x) (reads_checkpoint version) c rest is
entry_again One (Holder chunk server) rest is = absurd is
entry_again Two (Holder chunk server) rest is = again (λ x. Holder x.0 x.1) (reads_both reads_handle reads_server) (chunk, server) rest is
