-- A checkpoint is written part by part.
use Rattle.std.proofs.Common.{◌≡◌, List, ℕ, ◌++◌, Result}
use Rattle.std.specs.Prelude.{⊤}
use Rattle.gs_base.specs.Told.{IsNumber}
use Rattle.gs_journal.specs.declared.version.Version.TheVariants.{Two}
use Rattle.gs_master_record.proofs.Codes.{puts_two}
use Rattle.gs_master_record.specs.Encoding.{number, list, phase, epoch_end, tree_entry, reference, settled_entry, reply, prepared_view, inverse, checkpoint}
use Rattle.gs_master_record.specs.Plain.{PlainCheckpoint}
use Rattle.gs_master_record.specs.Writable.{AreItems, IsTreeEntry, IsReference, IsSettledEntry, IsReply, IsPreparedView, IsInverse, AreParts}
use Rattle.gs_master_record.specs.declared.fault.Fault.{Fault}
use Rattle.gs_master_record.specs.inner.Work.{Puts}

pub parts_put : (c : PlainCheckpoint) (m0 m1 m2 m3 m4 m5 m6 m7 m8 m9 m10 m11 new : List ℕ) (r : Result (Unit {0}) Fault)
    → IsNumber c.next_handle × (m1 ≡ m0 ++ number c.next_handle)
    → IsNumber c.next_version × (m2 ≡ m1 ++ number c.next_version)
    → IsNumber c.next_hidden × (m3 ≡ m2 ++ number c.next_hidden)
    → IsNumber c.epoch × (m4 ≡ m3 ++ number c.epoch)
    → ⊤ × (m5 ≡ m4 ++ phase c.phase)
    → (AreItems (λ e. ⊤)) c.ends × (m6 ≡ m5 ++ (list epoch_end) c.ends)
    → (AreItems IsTreeEntry) c.tree × (m7 ≡ m6 ++ (list tree_entry) c.tree)
    → (AreItems IsReference) c.references × (m8 ≡ m7 ++ (list reference) c.references)
    → (AreItems IsSettledEntry) c.settled × (m9 ≡ m8 ++ (list settled_entry) c.settled)
    → (AreItems IsReply) c.replies × (m10 ≡ m9 ++ (list reply) c.replies)
    → (AreItems (IsPreparedView Two)) c.prepared × (m11 ≡ m10 ++ (list (prepared_view Two)) c.prepared)
    → Puts ((AreItems IsInverse) c.inverses) ((list inverse) c.inverses) m11 new r
    → Puts (AreParts Two c) (checkpoint Two c) m0 new r
parts_put c m0 m1 m2 m3 m4 m5 m6 m7 m8 m9 m10 m11 new r p0 p1 p2 p3 p4 p5 p6 p7 p8 p9 p10 p11 =
    (puts_two (IsNumber c.next_handle) ((IsNumber c.next_version × (IsNumber c.next_hidden × (IsNumber c.epoch × (⊤ × ((AreItems (λ e. ⊤)) c.ends × ((AreItems IsTreeEntry) c.tree × ((AreItems IsReference) c.references × ((AreItems IsSettledEntry) c.settled × ((AreItems IsReply) c.replies × ((AreItems (IsPreparedView Two)) c.prepared × (AreItems IsInverse) c.inverses))))))))))) (number c.next_handle) ((number c.next_version ++ (number c.next_hidden ++ (number c.epoch ++ (phase c.phase ++ ((list epoch_end) c.ends ++ ((list tree_entry) c.tree ++ ((list reference) c.references ++ ((list settled_entry) c.settled ++ ((list reply) c.replies ++ ((list (prepared_view Two)) c.prepared ++ (list inverse) c.inverses))))))))))) m0 m1 new r p0
    (puts_two (IsNumber c.next_version) ((IsNumber c.next_hidden × (IsNumber c.epoch × (⊤ × ((AreItems (λ e. ⊤)) c.ends × ((AreItems IsTreeEntry) c.tree × ((AreItems IsReference) c.references × ((AreItems IsSettledEntry) c.settled × ((AreItems IsReply) c.replies × ((AreItems (IsPreparedView Two)) c.prepared × (AreItems IsInverse) c.inverses)))))))))) (number c.next_version) ((number c.next_hidden ++ (number c.epoch ++ (phase c.phase ++ ((list epoch_end) c.ends ++ ((list tree_entry) c.tree ++ ((list reference) c.references ++ ((list settled_entry) c.settled ++ ((list reply) c.replies ++ ((list (prepared_view Two)) c.prepared ++ (list inverse) c.inverses)))))))))) m1 m2 new r p1
    (puts_two (IsNumber c.next_hidden) ((IsNumber c.epoch × (⊤ × ((AreItems (λ e. ⊤)) c.ends × ((AreItems IsTreeEntry) c.tree × ((AreItems IsReference) c.references × ((AreItems IsSettledEntry) c.settled × ((AreItems IsReply) c.replies × ((AreItems (IsPreparedView Two)) c.prepared × (AreItems IsInverse) c.inverses))))))))) (number c.next_hidden) ((number c.epoch ++ (phase c.phase ++ ((list epoch_end) c.ends ++ ((list tree_entry) c.tree ++ ((list reference) c.references ++ ((list settled_entry) c.settled ++ ((list reply) c.replies ++ ((list (prepared_view Two)) c.prepared ++ (list inverse) c.inverses))))))))) m2 m3 new r p2
    (puts_two (IsNumber c.epoch) ((⊤ × ((AreItems (λ e. ⊤)) c.ends × ((AreItems IsTreeEntry) c.tree × ((AreItems IsReference) c.references × ((AreItems IsSettledEntry) c.settled × ((AreItems IsReply) c.replies × ((AreItems (IsPreparedView Two)) c.prepared × (AreItems IsInverse) c.inverses)))))))) (number c.epoch) ((phase c.phase ++ ((list epoch_end) c.ends ++ ((list tree_entry) c.tree ++ ((list reference) c.references ++ ((list settled_entry) c.settled ++ ((list reply) c.replies ++ ((list (prepared_view Two)) c.prepared ++ (list inverse) c.inverses)))))))) m3 m4 new r p3
    (puts_two (⊤) (((AreItems (λ e. ⊤)) c.ends × ((AreItems IsTreeEntry) c.tree × ((AreItems IsReference) c.references × ((AreItems IsSettledEntry) c.settled × ((AreItems IsReply) c.replies × ((AreItems (IsPreparedView Two)) c.prepared × (AreItems IsInverse) c.inverses))))))) (phase c.phase) (((list epoch_end) c.ends ++ ((list tree_entry) c.tree ++ ((list reference) c.references ++ ((list settled_entry) c.settled ++ ((list reply) c.replies ++ ((list (prepared_view Two)) c.prepared ++ (list inverse) c.inverses))))))) m4 m5 new r p4
    (puts_two ((AreItems (λ e. ⊤)) c.ends) (((AreItems IsTreeEntry) c.tree × ((AreItems IsReference) c.references × ((AreItems IsSettledEntry) c.settled × ((AreItems IsReply) c.replies × ((AreItems (IsPreparedView Two)) c.prepared × (AreItems IsInverse) c.inverses)))))) ((list epoch_end) c.ends) (((list tree_entry) c.tree ++ ((list reference) c.references ++ ((list settled_entry) c.settled ++ ((list reply) c.replies ++ ((list (prepared_view Two)) c.prepared ++ (list inverse) c.inverses)))))) m5 m6 new r p5
    (puts_two ((AreItems IsTreeEntry) c.tree) (((AreItems IsReference) c.references × ((AreItems IsSettledEntry) c.settled × ((AreItems IsReply) c.replies × ((AreItems (IsPreparedView Two)) c.prepared × (AreItems IsInverse) c.inverses))))) ((list tree_entry) c.tree) (((list reference) c.references ++ ((list settled_entry) c.settled ++ ((list reply) c.replies ++ ((list (prepared_view Two)) c.prepared ++ (list inverse) c.inverses))))) m6 m7 new r p6
    (puts_two ((AreItems IsReference) c.references) (((AreItems IsSettledEntry) c.settled × ((AreItems IsReply) c.replies × ((AreItems (IsPreparedView Two)) c.prepared × (AreItems IsInverse) c.inverses)))) ((list reference) c.references) (((list settled_entry) c.settled ++ ((list reply) c.replies ++ ((list (prepared_view Two)) c.prepared ++ (list inverse) c.inverses)))) m7 m8 new r p7
    (puts_two ((AreItems IsSettledEntry) c.settled) (((AreItems IsReply) c.replies × ((AreItems (IsPreparedView Two)) c.prepared × (AreItems IsInverse) c.inverses))) ((list settled_entry) c.settled) (((list reply) c.replies ++ ((list (prepared_view Two)) c.prepared ++ (list inverse) c.inverses))) m8 m9 new r p8
    (puts_two ((AreItems IsReply) c.replies) (((AreItems (IsPreparedView Two)) c.prepared × (AreItems IsInverse) c.inverses)) ((list reply) c.replies) (((list (prepared_view Two)) c.prepared ++ (list inverse) c.inverses)) m9 m10 new r p9
    (puts_two ((AreItems (IsPreparedView Two)) c.prepared) ((AreItems IsInverse) c.inverses) ((list (prepared_view Two)) c.prepared) ((list inverse) c.inverses) m10 m11 new r p10
    p11)))))))))))
