-- Each part of a checkpoint is read as it is written.
use Rattle.std.proofs.Common.{◌≡◌, ℕ, suc, ◌^◌, ◌<◌, Bool, true, false, cond, eqb, List, [], ◌∷◌, ◌++◌, Option, Some, None, refl, sym, ap, subst, ◌∙◌, arith}
use Rattle.std.proofs.lemmas.Bool.{eqb-true}
use Rattle.std.specs.Prelude.{⊤}
use Rattle.gs_base.specs.MemberLaws.{eqb_other}
use Rattle.gs_base.specs.Refusals.{number_of}
use Rattle.gs_base.specs.Told.{detail_text, IsNumber}
use Rattle.gs_base.specs.declared.epoch.EpochEnd.{EpochEnd}
use Rattle.gs_base.specs.declared.epoch.EpochEnd.TheVariants as epoch_ends
use Rattle.gs_base.specs.declared.numbers.ReqId.{ReqId}
use Rattle.gs_journal.specs.declared.version.Version.{Version}
use Rattle.gs_journal.specs.declared.version.Version.TheVariants.{One, Two}
use Rattle.gs_master_record.specs.declared.checkpoint.Phase.{Phase}
use Rattle.gs_master_record.specs.declared.checkpoint.Phase.TheVariants as phases
use Rattle.gs_master_record.specs.declared.checkpoint.PreparedView.{PreparedView}
use Rattle.gs_master_record.specs.declared.checkpoint.Reference.{Reference}
use Rattle.gs_master_record.specs.declared.checkpoint.SettledEntry.{SettledEntry}
use Rattle.gs_master_record.specs.declared.entry.SettledView.{SettledView}
use Rattle.gs_master_record.proofs.Fields.{n64, n32, reads_handle, reads_members, reads_path, reads_request, reads_settled}
use Rattle.gs_master_record.proofs.Laws.{IsBytes, Takes, Reads, reads_both, reads_made, reads_byte, reads_text, reads_list, reads_same, bind_some, if_some, some_is}
use Rattle.gs_master_record.proofs.Tags.{Tagged, Chosen, arm, again}
use Rattle.gs_master_record.proofs.Told.{told_tells, told_back, small, positive}
use Rattle.gs_master_record.specs.Encoding.{number, text, list, node, tree_entry, inverse_tag, inverse_fields, inverse, phase_number, phase, end_number, epoch_end, flag_number, flag, reference, settled_entry, outcome, reply, prepared_view, checkpoint}
use Rattle.gs_master_record.specs.Order.{is_in_order}
use Rattle.gs_master_record.specs.Plain.{PlainInverse, UndoMkdirs, UndoCreate, UndoRename, UndoHide, UndoUnhide, UndoRemove, UndoAddChunk, UndoCow, UndoSnapshot, UndoForget, PlainOutcome, Accepted, Refused, PlainReply, PlainCheckpoint}
use Rattle.gs_master_record.specs.Writable.{IsHandle, AreServers, IsText, AreItems, IsRequest, IsSettled, IsNode, IsTreeEntry, IsInverse, IsReference, IsSettledEntry, IsOutcome, IsReply, IsPreparedView, AreParts, IsCheckpoint}
use Rattle.gs_master_record.specs.inner.Reading.{◌>>=◌, made, byte_at, handle_at, list_at, node_behind, node_at, tree_entry_at, inverse_of_chunks_at, inverse_fields_at, inverse_at, phase_of, phase_at, end_of, end_at, flag_of, flag_at, reference_of, reference_at, settled_entry_of, settled_entry_at, outcome_of, outcome_at, reply_of, reply_at, unheld, unheld_at, held, held_at, prepared_at, prepared_list_at, Fields, checkpoint_of, parts_at, ordered, checkpoint_at}
use Rattle.gs_master_record.specs.inner.Told.{told}

-- ---- entries of the tree

abbrev node_tag : Option (List ℕ) → ℕ
node_tag None = 0
node_tag (Some chunks) = 1

abbrev node_fields : Option (List ℕ) → List ℕ
node_fields None = []
node_fields (Some chunks) = list number chunks

abbrev nodes : Tagged (Option (List ℕ))
nodes = record { Is = IsNode; tag = node_tag; fields = node_fields }

any_node : (tag : ℕ) (bytes : List ℕ) (x : Option (List ℕ)) (rest : List ℕ) → IsBytes bytes → node_behind tag bytes ≡ Some (x, rest) → Chosen nodes tag bytes x rest
any_node tag bytes x rest h e = by (eqb tag 0) refl e where
  by : (b : Bool) → eqb tag 0 ≡ b → cond b (Some (None, bytes)) (cond (eqb tag 1) (made (λ x. Some (Some x)) (list_at handle_at) bytes) None) ≡ Some (x, rest) → Chosen nodes tag bytes x rest
  by true k e =
      subst (λ (y : Option (List ℕ) × List ℕ). Chosen nodes tag bytes y.0 y.1) (some_is (None, bytes) (x, rest) e) (record { same = sym (eqb-true tag 0 k); takes = record { parts = refl; left = h; is = tt } })
  by false k e = arm nodes {of = λ x. Some x} (reads_list reads_handle) (record { is = λ y is. is; tag = λ y. refl; fields = λ y. refl }) h (λ e. absurd cc) e

pub reads_node : Reads IsNode node node_at
unfolding node_at byte_at
reads_node = reads_same same (record { again = node_again; takes = takes }) where
  node_again : (x : Option (List ℕ)) (rest : List ℕ) → IsNode x → node_at ((node_tag x ∷ node_fields x) ++ rest) ≡ Some (x, rest)
  node_again None rest is = refl
  node_again (Some chunks) rest is = again (λ x. Some x) (reads_list reads_handle) chunks rest is

  takes : (bytes : List ℕ) (x : Option (List ℕ)) (rest : List ℕ) → IsBytes bytes → node_at bytes ≡ Some (x, rest) → Takes IsNode (λ x. node_tag x ∷ node_fields x) bytes x rest
  takes [] x rest h e = absurd cc
  takes (b ∷ bytes) x rest h e =
      let k = any_node b bytes x rest (λ i. h (suc i)) e in
      record { parts = ap (λ (z : List ℕ). b ∷ z) k.takes.parts ∙ ap (λ (t : ℕ). t ∷ (node_fields x ++ rest)) (sym k.same); left = k.takes.left; is = k.takes.is }

  same : (x : Option (List ℕ)) → (node_tag x ∷ node_fields x) ≡ node x
  same None = refl
  same (Some chunks) = refl

pub reads_tree_entry : Reads IsTreeEntry tree_entry tree_entry_at
unfolding tree_entry_at
reads_tree_entry = reads_both reads_path reads_node

-- ---- inverses

abbrev undone : Tagged PlainInverse
undone = record { Is = IsInverse; tag = inverse_tag; fields = inverse_fields }

chunk_inverses : (tag : ℕ) (bytes : List ℕ) (x : PlainInverse) (rest : List ℕ) → IsBytes bytes → inverse_of_chunks_at tag bytes ≡ Some (x, rest) → Chosen undone tag bytes x rest
unfolding inverse_of_chunks_at
chunk_inverses tag bytes x rest h e =
    arm undone {of = λ x. UndoRemove x} (reads_list reads_tree_entry) (record { is = λ y is. is; tag = λ y. refl; fields = λ y. refl }) h (λ e.
    arm undone {of = λ x. UndoAddChunk x} reads_path (record { is = λ y is. is; tag = λ y. refl; fields = λ y. refl }) h (λ e.
    arm undone {of = λ x. UndoCow x.0 x.1.0 x.1.1} (reads_both reads_path (reads_both n32 reads_handle)) (record { is = λ y is. is; tag = λ y. refl; fields = λ y. refl }) h (λ e.
    arm undone {of = λ x. UndoSnapshot x} reads_path (record { is = λ y is. is; tag = λ y. refl; fields = λ y. refl }) h (λ e.
    arm undone {of = λ x. UndoForget x} (reads_list reads_handle) (record { is = λ y is. is; tag = λ y. refl; fields = λ y. refl }) h (λ e. absurd cc) e) e) e) e) e

any_inverse : (tag : ℕ) (bytes : List ℕ) (x : PlainInverse) (rest : List ℕ) → IsBytes bytes → inverse_fields_at tag bytes ≡ Some (x, rest) → Chosen undone tag bytes x rest
unfolding inverse_fields_at
any_inverse tag bytes x rest h e =
    arm undone {of = λ x. UndoMkdirs x} (reads_list reads_path) (record { is = λ y is. is; tag = λ y. refl; fields = λ y. refl }) h (λ e.
    arm undone {of = λ x. UndoCreate x} (reads_list reads_path) (record { is = λ y is. is; tag = λ y. refl; fields = λ y. refl }) h (λ e.
    arm undone {of = λ x. UndoRename x.0 x.1} (reads_both reads_path reads_path) (record { is = λ y is. is; tag = λ y. refl; fields = λ y. refl }) h (λ e.
    arm undone {of = λ x. UndoHide x.0 x.1} (reads_both reads_path reads_path) (record { is = λ y is. is; tag = λ y. refl; fields = λ y. refl }) h (λ e.
    arm undone {of = λ x. UndoUnhide x.0 x.1} (reads_both reads_path reads_path) (record { is = λ y is. is; tag = λ y. refl; fields = λ y. refl }) h (λ e.
    chunk_inverses tag bytes x rest h e) e) e) e) e) e

inverse_again : (x : PlainInverse) (rest : List ℕ) → IsInverse x → inverse_fields_at (inverse_tag x) (inverse_fields x ++ rest) ≡ Some (x, rest)
unfolding inverse_fields_at inverse_of_chunks_at
inverse_again (UndoMkdirs ps) rest is = again (λ x. UndoMkdirs x) (reads_list reads_path) ps rest is
inverse_again (UndoCreate ps) rest is = again (λ x. UndoCreate x) (reads_list reads_path) ps rest is
inverse_again (UndoRename now before) rest is = again (λ x. UndoRename x.0 x.1) (reads_both reads_path reads_path) (now, before) rest is
inverse_again (UndoHide now before) rest is = again (λ x. UndoHide x.0 x.1) (reads_both reads_path reads_path) (now, before) rest is
inverse_again (UndoUnhide now before) rest is = again (λ x. UndoUnhide x.0 x.1) (reads_both reads_path reads_path) (now, before) rest is
inverse_again (UndoRemove es) rest is = again (λ x. UndoRemove x) (reads_list reads_tree_entry) es rest is
inverse_again (UndoAddChunk p) rest is = again (λ x. UndoAddChunk x) reads_path p rest is
inverse_again (UndoCow p index old) rest is = again (λ x. UndoCow x.0 x.1.0 x.1.1) (reads_both reads_path (reads_both n32 reads_handle)) (p, (index, old)) rest is
inverse_again (UndoSnapshot p) rest is = again (λ x. UndoSnapshot x) reads_path p rest is
inverse_again (UndoForget chunks) rest is = again (λ x. UndoForget x) (reads_list reads_handle) chunks rest is

pub reads_inverse : Reads IsInverse inverse inverse_at
unfolding inverse_at byte_at
reads_inverse = record { again = inverse_again; takes = takes } where
  takes : (bytes : List ℕ) (x : PlainInverse) (rest : List ℕ) → IsBytes bytes → inverse_at bytes ≡ Some (x, rest) → Takes IsInverse inverse bytes x rest
  takes [] x rest h e = absurd cc
  takes (b ∷ bytes) x rest h e =
      let k = any_inverse b bytes x rest (λ i. h (suc i)) e in
      record { parts = ap (λ (z : List ℕ). b ∷ z) k.takes.parts ∙ ap (λ (t : ℕ). t ∷ (inverse_fields x ++ rest)) (sym k.same); left = k.takes.left; is = k.takes.is }

-- ---- small fields

pub reads_phase : Reads (λ p. ⊤) phase phase_at
unfolding phase_at
reads_phase = reads_made reads_byte (record { back = back; forth = λ x y is e. forth x (eqb x 0) refl (eqb x 2) refl (eqb x 3) refl y e }) where
  back : (y : Phase) → ⊤ → (phase_number y < 256) × (phase_of (phase_number y) ≡ Some y)
  back phases.Ordinary is = (omega arith, refl)
  back phases.Upgrade is = (omega arith, refl)
  back phases.Rolling is = (omega arith, refl)

  forth : (x : ℕ) (a : Bool) → eqb x 0 ≡ a → (b : Bool) → eqb x 2 ≡ b → (c : Bool) → eqb x 3 ≡ c → (y : Phase) → cond a (Some phases.Ordinary) (cond b (Some phases.Upgrade) (cond c (Some phases.Rolling) None)) ≡ Some y → (phase_number y ≡ x) × ⊤
  forth x true p b q c r y e = (ap phase_number (sym (some_is phases.Ordinary y e)) ∙ sym (eqb-true x 0 p), tt)
  forth x false p true q c r y e = (ap phase_number (sym (some_is phases.Upgrade y e)) ∙ sym (eqb-true x 2 q), tt)
  forth x false p false q true r y e = (ap phase_number (sym (some_is phases.Rolling y e)) ∙ sym (eqb-true x 3 r), tt)
  forth x false p false q false r y e = absurd cc

pub reads_end : Reads (λ p. ⊤) epoch_end end_at
unfolding end_at
reads_end = reads_made reads_byte (record { back = back; forth = λ x y is e. forth x (eqb x 1) refl (eqb x 2) refl (eqb x 3) refl y e }) where
  back : (y : EpochEnd) → ⊤ → (end_number y < 256) × (end_of (end_number y) ≡ Some y)
  back epoch_ends.Prepare is = (omega arith, refl)
  back epoch_ends.Finalize is = (omega arith, refl)
  back epoch_ends.Rollback is = (omega arith, refl)

  forth : (x : ℕ) (a : Bool) → eqb x 1 ≡ a → (b : Bool) → eqb x 2 ≡ b → (c : Bool) → eqb x 3 ≡ c → (y : EpochEnd) → cond a (Some epoch_ends.Prepare) (cond b (Some epoch_ends.Finalize) (cond c (Some epoch_ends.Rollback) None)) ≡ Some y → (end_number y ≡ x) × ⊤
  forth x true p b q c r y e = (ap end_number (sym (some_is epoch_ends.Prepare y e)) ∙ sym (eqb-true x 1 p), tt)
  forth x false p true q c r y e = (ap end_number (sym (some_is epoch_ends.Finalize y e)) ∙ sym (eqb-true x 2 q), tt)
  forth x false p false q true r y e = (ap end_number (sym (some_is epoch_ends.Rollback y e)) ∙ sym (eqb-true x 3 r), tt)
  forth x false p false q false r y e = absurd cc

pub reads_flag : Reads (λ p. ⊤) flag flag_at
unfolding flag_at
reads_flag = reads_made reads_byte (record { back = back; forth = λ x y is e. forth x (eqb x 0) refl (eqb x 1) refl y e }) where
  back : (y : Bool) → ⊤ → (flag_number y < 256) × (flag_of (flag_number y) ≡ Some y)
  back true is = (omega arith, refl)
  back false is = (omega arith, refl)

  forth : (x : ℕ) (a : Bool) → eqb x 0 ≡ a → (b : Bool) → eqb x 1 ≡ b → (y : Bool) → cond a (Some false) (cond b (Some true) None) ≡ Some y → (flag_number y ≡ x) × ⊤
  forth x true p b q y e = (ap flag_number (sym (some_is false y e)) ∙ sym (eqb-true x 0 p), tt)
  forth x false p true q y e = (ap flag_number (sym (some_is true y e)) ∙ sym (eqb-true x 1 q), tt)
  forth x false p false q y e = absurd cc

pub reads_reference : Reads IsReference reference reference_at
unfolding reference_at
reads_reference = reads_made (reads_both reads_handle n32) (record { back = λ y is. (is, refl); forth = forth }) where
  forth : (x : ℕ × ℕ) (y : Reference) → IsHandle x.0 × (x.1 < 2 ^ 32) → reference_of x ≡ Some y → ((y.handle, y.count) ≡ x) × IsReference y
  forth x y is e = subst (λ (z : Reference). ((z.handle, z.count) ≡ x) × IsReference z) (some_is (record { handle = x.0; count = x.1 }) y e) (refl, is)

pub reads_settled_entry : Reads IsSettledEntry settled_entry settled_entry_at
unfolding settled_entry_at
reads_settled_entry = reads_made (reads_both reads_settled reads_flag) (record { back = λ y is. ((is, tt), refl); forth = forth }) where
  forth : (x : SettledView × Bool) (y : SettledEntry) → IsSettled x.0 × ⊤ → settled_entry_of x ≡ Some y → ((y.settled, y.is_moving) ≡ x) × IsSettledEntry y
  forth x y is e = subst (λ (z : SettledEntry). ((z.settled, z.is_moving) ≡ x) × IsSettledEntry z) (some_is (record { settled = x.0; is_moving = x.1 }) y e) (refl, is.0)

-- ---- replies

abbrev outcome_fields : PlainOutcome → ℕ × List ℕ
outcome_fields (Accepted answer) = (0, answer)
outcome_fields (Refused r) = (number_of r, detail_text r)

abbrev pair : {A B : Type 0} → A → B → A × B
pair a b = (a, b)

pub reads_outcome : Reads IsOutcome outcome outcome_at
unfolding outcome_at
reads_outcome = reads_same same (reads_made (reads_both reads_byte reads_text) (record { back = back; forth = λ x y is e. forth x.0 x.1 (eqb x.0 0) refl y is.1 e })) where
  back : (y : PlainOutcome) → IsOutcome y → (((outcome_fields y).0 < 256) × IsText (outcome_fields y).1) × (outcome_of (outcome_fields y) ≡ Some y)
  back (Accepted answer) is = ((omega arith, is), refl)
  back (Refused r) is =
      let other : eqb (number_of r) 0 ≡ false = eqb_other (number_of r) 0 (λ e. let k = positive r in omega arith) in
      ((let k = small r in omega arith, is.1), rw other (rw (told_back r is.0) refl))

  forth : (n : ℕ) (t : List ℕ) (a : Bool) → eqb n 0 ≡ a → (y : PlainOutcome) → IsText t → cond a (Some (Accepted t)) (told n t >>= λ r. Some (Refused r)) ≡ Some y → (outcome_fields y ≡ (n, t)) × IsOutcome y
  forth n t true p y is e = subst (λ (z : PlainOutcome). (outcome_fields z ≡ (n, t)) × IsOutcome z) (some_is (Accepted t) y e) ((λ i. pair (sym (eqb-true n 0 p) i) t), is)
  forth n t false p y is e =
      let k = bind_some (told n t) (λ r. Some (Refused r)) y e in
      let m = told_tells n t k.0 k.1 in
      subst (λ (z : PlainOutcome). (outcome_fields z ≡ (n, t)) × IsOutcome z) (some_is (Refused k.0) y k.2) ((λ i. pair (m.1.0 i) (m.1.1 i)), (m.0, rw m.1.1 is))

  same : (y : PlainOutcome) → ((outcome_fields y).0 ∷ []) ++ text (outcome_fields y).1 ≡ outcome y
  same (Accepted answer) = refl
  same (Refused r) = refl

pub reads_reply : Reads IsReply reply reply_at
unfolding reply_at
reads_reply = reads_made (reads_both reads_request reads_outcome) (record { back = λ y is. (is, refl); forth = forth }) where
  forth : (x : ReqId × PlainOutcome) (y : PlainReply) → IsRequest x.0 × IsOutcome x.1 → reply_of x ≡ Some y → ((y.to, y.outcome) ≡ x) × IsReply y
  forth x y is e = subst (λ (z : PlainReply). ((z.to, z.outcome) ≡ x) × IsReply z) (some_is (record { to = x.0; outcome = x.1 }) y e) (refl, is)

-- ---- prepared views

pub reads_prepared : (version : Version) → Reads (IsPreparedView version) (prepared_view version) (prepared_at version)
unfolding unheld_at held_at
reads_prepared One = reads_made reads_settled (record { back = back; forth = forth }) where
  back : (y : PreparedView) → IsPreparedView One y → IsSettled y.settled × (unheld y.settled ≡ Some y)
  back y is = (is.0, ap (λ (h : List ℕ). Some (record { settled = y.settled; holders = h })) (sym is.1))

  forth : (x : SettledView) (y : PreparedView) → IsSettled x → unheld x ≡ Some y → (y.settled ≡ x) × IsPreparedView One y
  forth x y is e = subst (λ (z : PreparedView). (z.settled ≡ x) × IsPreparedView One z) (some_is (record { settled = x; holders = [] }) y e) (refl, (is, refl))
reads_prepared Two = reads_made (reads_both reads_settled reads_members) (record { back = λ y is. (is, refl); forth = forth }) where
  forth : (x : SettledView × List ℕ) (y : PreparedView) → IsSettled x.0 × AreServers x.1 → held x ≡ Some y → ((y.settled, y.holders) ≡ x) × IsPreparedView Two y
  forth x y is e = subst (λ (z : PreparedView). ((z.settled, z.holders) ≡ x) × IsPreparedView Two z) (some_is (record { settled = x.0; holders = x.1 }) y e) (refl, is)

reads_prepared_list : (version : Version) → Reads (AreItems (IsPreparedView version)) (list (prepared_view version)) (prepared_list_at version)
unfolding prepared_list_at
reads_prepared_list version = reads_list (reads_prepared version)

abbrev checkpoint_fields : PlainCheckpoint → Fields
checkpoint_fields c = (c.next_handle, (c.next_version, (c.next_hidden, (c.epoch, (c.phase, (c.ends, (c.tree, (c.references, (c.settled, (c.replies, (c.prepared, c.inverses)))))))))))

reads_parts : (version : Version) → Reads (AreParts version) (checkpoint version) (parts_at version)
unfolding parts_at
reads_parts version =
    reads_made (reads_both n64 (reads_both n64 (reads_both n64 (reads_both n64 (reads_both reads_phase
    (reads_both (reads_list reads_end) (reads_both (reads_list reads_tree_entry) (reads_both (reads_list reads_reference) (reads_both (reads_list reads_settled_entry)
    (reads_both (reads_list reads_reply) (reads_both (reads_prepared_list version) (reads_list reads_inverse)))))))))))
    ) (record { back = λ y is. (is, refl); forth = forth }) where
      forth : (x : Fields) (y : PlainCheckpoint)
          → IsNumber x.0 × (IsNumber x.1.0 × (IsNumber x.1.1.0 × (IsNumber x.1.1.1.0 × (⊤ × (AreItems (λ e. ⊤) x.1.1.1.1.1.0 × (AreItems IsTreeEntry x.1.1.1.1.1.1.0 × (AreItems IsReference x.1.1.1.1.1.1.1.0 × (AreItems IsSettledEntry x.1.1.1.1.1.1.1.1.0 × (AreItems IsReply x.1.1.1.1.1.1.1.1.1.0 × (AreItems (IsPreparedView version) x.1.1.1.1.1.1.1.1.1.1.0 × AreItems IsInverse x.1.1.1.1.1.1.1.1.1.1.1))))))))))
          → checkpoint_of x ≡ Some y → (checkpoint_fields y ≡ x) × AreParts version y
      forth x y is e =
          let k = some_is (record {
            next_handle = x.0;
            next_version = x.1.0;
            next_hidden = x.1.1.0;
            epoch = x.1.1.1.0;
            phase = x.1.1.1.1.0;
            ends = x.1.1.1.1.1.0;
            tree = x.1.1.1.1.1.1.0;
            references = x.1.1.1.1.1.1.1.0;
            settled = x.1.1.1.1.1.1.1.1.0;
            replies = x.1.1.1.1.1.1.1.1.1.0;
            prepared = x.1.1.1.1.1.1.1.1.1.1.0;
            inverses = x.1.1.1.1.1.1.1.1.1.1.1;
          }) y e in
          subst (λ (z : PlainCheckpoint). (checkpoint_fields z ≡ x) × AreParts version z) k (refl, is)

pub reads_checkpoint : (version : Version) → Reads (IsCheckpoint version) (checkpoint version) (checkpoint_at version)
unfolding checkpoint_at
reads_checkpoint version = reads_made (reads_parts version) (record { back = λ y is. (is.0, ap (λ b. cond b (Some y) None) is.1); forth = forth }) where
  forth : (x y : PlainCheckpoint) → AreParts version x → ordered x ≡ Some y → (y ≡ x) × IsCheckpoint version y
  forth x y is e =
      let k = if_some (is_in_order x) x y e in
      subst (λ (z : PlainCheckpoint). (z ≡ x) × IsCheckpoint version z) k.1 (refl, (is, k.0))
