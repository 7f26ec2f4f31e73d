use Rattle.std.proofs.Common.{◌≡◌, ◌++◌, map, subst}
use Rattle.std.specs.Prelude.{⊤}
use Rattle.gs_journal.specs.declared.version.Version.TheVariants.{Two}
use Rattle.gs_master_record.proofs.Chain.{parts_put}
use Rattle.gs_master_record.specs.Encoding.{list, epoch_end, tree_entry, reference, settled_entry, reply, prepared_view, inverse}
use Rattle.gs_master_record.specs.Plain.{plain_checkpoint, plain_node, plain_reply, plain_inverse}
use Rattle.gs_master_record.specs.Writable.{AreItems, IsTreeEntry, IsReference, IsSettledEntry, IsReply, IsPreparedView, IsInverse}
use Rattle.gs_master_record.specs.inner.Work.{Puts}
use Rattle.gs_master_record.proofs.state.put_parts.Goals as goal

pub returns : goal.returns
returns c =
    parts_put (plain_checkpoint c.args.checkpoint.now) c.args.out.now.items c.put.new.out.items c.put-2.new.out.items c.put-3.new.out.items c.put-4.new.out.items c.put-5.new.out.items c.put_ends.new.out.items c.put_list.new.out.items c.put_references.new.out.items c.put_entries.new.out.items c.put_list-2.new.out.items c.put_prepared.new.out.items c.put_list-3.new.out.items c.put_list-3.result
    c.in_ok-put.ensures
    c.in_ok-put-2.ensures
    c.in_ok-put-3.ensures
    c.in_ok-put-4.ensures
    c.in_ok-put-5.ensures
    (subst (λ xs. (AreItems (λ e. ⊤)) xs × (c.put_ends.new.out.items ≡ c.put-5.new.out.items ++ (list epoch_end) xs)) c.deref.ensures.value c.in_ok-put_ends.ensures)
    (subst (λ xs. (AreItems IsTreeEntry) (map plain_node xs) × (c.put_list.new.out.items ≡ c.put_ends.new.out.items ++ (list tree_entry) (map plain_node xs))) c.deref-2.ensures.value c.in_ok-put_list.ensures)
    (subst (λ xs. (AreItems IsReference) xs × (c.put_references.new.out.items ≡ c.put_list.new.out.items ++ (list reference) xs)) c.deref-3.ensures.value c.in_ok-put_references.ensures)
    (subst (λ xs. (AreItems IsSettledEntry) xs × (c.put_entries.new.out.items ≡ c.put_references.new.out.items ++ (list settled_entry) xs)) c.deref-4.ensures.value c.in_ok-put_entries.ensures)
    (subst (λ xs. (AreItems IsReply) (map plain_reply xs) × (c.put_list-2.new.out.items ≡ c.put_entries.new.out.items ++ (list reply) (map plain_reply xs))) c.deref-5.ensures.value c.in_ok-put_list-2.ensures)
    (subst (λ xs. (AreItems (IsPreparedView Two)) xs × (c.put_prepared.new.out.items ≡ c.put_list-2.new.out.items ++ (list (prepared_view Two)) xs)) c.deref-6.ensures.value c.in_ok-put_prepared.ensures)
    (subst (λ xs. Puts ((AreItems IsInverse) (map plain_inverse xs)) ((list inverse) (map plain_inverse xs)) c.put_prepared.new.out.items c.put_list-3.new.out.items c.put_list-3.result) c.deref-7.ensures.value c.put_list-3.ensures)
