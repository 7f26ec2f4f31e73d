-- Records byte by byte, as the tables of the journal have them. No two fields of a record hold the same.
use Rattle.std.specs.Prelude.{◌≡◌, ℕ, List, [], ◌∷◌, ◌++◌, Some, None, true, codes, refl}
use Rattle.gs_base.specs.Members.{bits_of}
use Rattle.gs_base.specs.declared.epoch.EpochEnd.TheVariants as epoch_ends
use Rattle.gs_base.specs.declared.refusal.Refusal.TheVariants.{NotFound, Pending}
use Rattle.gs_journal.specs.declared.version.Version.TheVariants.{Two}
use Rattle.gs_master_record.specs.declared.checkpoint.Phase.TheVariants as phases
use Rattle.gs_master_record.specs.declared.entry.SettledView.{SettledView}
use Rattle.gs_master_record.specs.Encoding.{encoded, edit, inverse}
use Rattle.gs_master_record.specs.Order.{is_in_order}
use Rattle.gs_master_record.specs.Plain.{Mkdirs, Create, Rename, Hide, Unhide, Remove, AddChunk, Cow, Snapshot, Forget, Said, Propose, Settle, RollbackCommit, Whole, UndoMkdirs, UndoCreate, UndoRename, UndoHide, UndoUnhide, UndoRemove, UndoAddChunk, UndoCow, UndoSnapshot, UndoForget, Accepted, Refused, PlainCheckpoint}

-- client 4, number 8, refusal 1, length of the detail 2, detail: client 1 under number 2 was told that a call of /a is pending
said : encoded Two (Said (record { client = record { 0 = 1 }; number = 2 }) (Pending (codes "/a"))) ≡
    (2, 0 ∷ 0 ∷ 0 ∷ 1 ∷ 0 ∷ 0 ∷ 0 ∷ 0 ∷ 0 ∷ 0 ∷ 0 ∷ 2 ∷ 36 ∷ 0 ∷ 2 ∷ 47 ∷ 97 ∷ [])
said = refl

-- handle 8, version 8
proposed : encoded Two (Propose 3 4) ≡ (3, 0 ∷ 0 ∷ 0 ∷ 0 ∷ 0 ∷ 0 ∷ 0 ∷ 3 ∷ 0 ∷ 0 ∷ 0 ∷ 0 ∷ 0 ∷ 0 ∷ 0 ∷ 4 ∷ [])
proposed = refl

-- chunk 1 in epoch 2 with version 3 and 4 edits, on servers 0 and 9, of which 9 is the primary up to moment 5
abbrev view : SettledView
view = record { handle = 1; view = record { stamp = record { epoch = 2; version = 3 }; count = 4; members = 0 ∷ 9 ∷ []; term = Some (record { primary = 9; end = record { 0 = 5 } }) } }

-- handle 8, epoch 8, version 8, count 8, members 2, primary 1, end 8
abbrev view_bytes : List ℕ
view_bytes =
    0 ∷ 0 ∷ 0 ∷ 0 ∷ 0 ∷ 0 ∷ 0 ∷ 1 ∷ 0 ∷ 0 ∷ 0 ∷ 0 ∷ 0 ∷ 0 ∷ 0 ∷ 2 ∷ 0 ∷ 0 ∷ 0 ∷ 0 ∷ 0 ∷ 0 ∷ 0 ∷ 3 ∷ 0 ∷ 0 ∷ 0 ∷ 0 ∷ 0 ∷ 0 ∷ 0 ∷ 4
    ∷ 2 ∷ 1 ∷ 9 ∷ 0 ∷ 0 ∷ 0 ∷ 0 ∷ 0 ∷ 0 ∷ 0 ∷ 5 ∷ []

settles : encoded Two (Settle view) ≡ (4, view_bytes)
unfolding bits_of
settles = refl

-- the same chunk on server 15 without a primary
abbrev quiet_view : SettledView
quiet_view = record { handle = 1; view = record { stamp = record { epoch = 2; version = 3 }; count = 4; members = 15 ∷ []; term = None } }

abbrev quiet_bytes : List ℕ
quiet_bytes =
    0 ∷ 0 ∷ 0 ∷ 0 ∷ 0 ∷ 0 ∷ 0 ∷ 1 ∷ 0 ∷ 0 ∷ 0 ∷ 0 ∷ 0 ∷ 0 ∷ 0 ∷ 2 ∷ 0 ∷ 0 ∷ 0 ∷ 0 ∷ 0 ∷ 0 ∷ 0 ∷ 3 ∷ 0 ∷ 0 ∷ 0 ∷ 0 ∷ 0 ∷ 0 ∷ 0 ∷ 4
    ∷ 128 ∷ 0 ∷ 255 ∷ 0 ∷ 0 ∷ 0 ∷ 0 ∷ 0 ∷ 0 ∷ 0 ∷ 0 ∷ []

settles_quiet : encoded Two (Settle quiet_view) ≡ (4, quiet_bytes)
unfolding bits_of
settles_quiet = refl

-- epoch 8, number of answers 4, handle 8, members 2: epoch 6, and chunk 7 is on servers 1 and 8
rolled_back : encoded Two (RollbackCommit 6 (record { handle = 7; members = 1 ∷ 8 ∷ [] } ∷ [])) ≡
    (8, 0 ∷ 0 ∷ 0 ∷ 0 ∷ 0 ∷ 0 ∷ 0 ∷ 6 ∷ 0 ∷ 0 ∷ 0 ∷ 1 ∷ 0 ∷ 0 ∷ 0 ∷ 0 ∷ 0 ∷ 0 ∷ 0 ∷ 7 ∷ 1 ∷ 2 ∷ [])
unfolding bits_of
rolled_back = refl

-- a checkpoint with an item or two in each list
abbrev full : PlainCheckpoint
full = record {
  next_handle = 11;
  next_version = 12;
  next_hidden = 13;
  epoch = 14;
  phase = phases.Rolling;
  ends = epoch_ends.Prepare ∷ epoch_ends.Rollback ∷ [];
  tree = (codes "a" ∷ [], None) ∷ (codes "b" ∷ [], Some (21 ∷ 22 ∷ [])) ∷ [];
  references = record { handle = 23; count = 24 } ∷ [];
  settled = record { settled = view; is_moving = true } ∷ [];
  replies = record { to = record { client = record { 0 = 25 }; number = 26 }; outcome = Accepted (codes "ok") } ∷ record { to = record { client = record { 0 = 27 }; number = 28 }; outcome = Refused NotFound } ∷ [];
  prepared = record { settled = quiet_view; holders = 3 ∷ [] } ∷ [];
  inverses = UndoRename (codes "c" ∷ []) (codes "d" ∷ []) ∷ UndoCow (codes "e" ∷ []) 29 30 ∷ [];
}

-- next handle 8, next version 8, next hidden number 8, epoch 8, phase 1
abbrev counters : List ℕ
counters =
    0 ∷ 0 ∷ 0 ∷ 0 ∷ 0 ∷ 0 ∷ 0 ∷ 11 ∷ 0 ∷ 0 ∷ 0 ∷ 0 ∷ 0 ∷ 0 ∷ 0 ∷ 12 ∷ 0 ∷ 0 ∷ 0 ∷ 0 ∷ 0 ∷ 0 ∷ 0 ∷ 13 ∷ 0 ∷ 0 ∷ 0 ∷ 0 ∷ 0 ∷ 0 ∷ 0 ∷ 14
    ∷ 3 ∷ []

-- how epochs ended, 1 each
abbrev ends : List ℕ
ends = 0 ∷ 0 ∷ 0 ∷ 2 ∷ 1 ∷ 3 ∷ []

-- /a with 0, /b with 1 and its chunks
abbrev tree : List ℕ
tree =
    0 ∷ 0 ∷ 0 ∷ 2 ∷ 0 ∷ 2 ∷ 47 ∷ 97 ∷ 0 ∷ 0 ∷ 2 ∷ 47 ∷ 98 ∷ 1 ∷ 0 ∷ 0 ∷ 0 ∷ 2
    ∷ 0 ∷ 0 ∷ 0 ∷ 0 ∷ 0 ∷ 0 ∷ 0 ∷ 21 ∷ 0 ∷ 0 ∷ 0 ∷ 0 ∷ 0 ∷ 0 ∷ 0 ∷ 22 ∷ []

-- handle 8, count 4
abbrev references : List ℕ
references = 0 ∷ 0 ∷ 0 ∷ 1 ∷ 0 ∷ 0 ∷ 0 ∷ 0 ∷ 0 ∷ 0 ∷ 0 ∷ 23 ∷ 0 ∷ 0 ∷ 0 ∷ 24 ∷ []

-- 1 behind a settled view that is moving
abbrev settled : List ℕ
settled = 0 ∷ 0 ∷ 0 ∷ 1 ∷ (view_bytes ++ 1 ∷ [])

-- client 4, number 8, 0 or the refusal 1, length 2, answer or detail
abbrev replies : List ℕ
replies =
    0 ∷ 0 ∷ 0 ∷ 2 ∷ 0 ∷ 0 ∷ 0 ∷ 25 ∷ 0 ∷ 0 ∷ 0 ∷ 0 ∷ 0 ∷ 0 ∷ 0 ∷ 26 ∷ 0 ∷ 0 ∷ 2 ∷ 111 ∷ 107
    ∷ 0 ∷ 0 ∷ 0 ∷ 27 ∷ 0 ∷ 0 ∷ 0 ∷ 0 ∷ 0 ∷ 0 ∷ 0 ∷ 28 ∷ 3 ∷ 0 ∷ 0 ∷ []

-- a settled view, holders 2
abbrev prepared : List ℕ
prepared = 0 ∷ 0 ∷ 0 ∷ 1 ∷ (quiet_bytes ++ 0 ∷ 8 ∷ [])

-- tag 3 with the path that stands now and the one before; tag 8 with path, index 4, old handle 8
abbrev inverses : List ℕ
inverses =
    0 ∷ 0 ∷ 0 ∷ 2 ∷ 3 ∷ 0 ∷ 2 ∷ 47 ∷ 99 ∷ 0 ∷ 2 ∷ 47 ∷ 100
    ∷ 8 ∷ 0 ∷ 2 ∷ 47 ∷ 101 ∷ 0 ∷ 0 ∷ 0 ∷ 29 ∷ 0 ∷ 0 ∷ 0 ∷ 0 ∷ 0 ∷ 0 ∷ 0 ∷ 30 ∷ []

written_full : encoded Two (Whole full) ≡ (9, counters ++ ends ++ tree ++ references ++ settled ++ replies ++ prepared ++ inverses)
unfolding bits_of
written_full = refl

full_in_order : is_in_order full ≡ true
full_in_order = refl

-- ---- edits and inverses, by their tags; an item of two bytes of length, a slash and a letter is a path

edit-mkdirs : edit (Mkdirs (codes "a" ∷ [])) ≡ 1 ∷ 0 ∷ 2 ∷ 47 ∷ 97 ∷ []
edit-mkdirs = refl

edit-create : edit (Create (codes "a" ∷ [])) ≡ 2 ∷ 0 ∷ 2 ∷ 47 ∷ 97 ∷ []
edit-create = refl

-- from, to
edit-rename : edit (Rename (codes "a" ∷ []) (codes "b" ∷ [])) ≡ 3 ∷ 0 ∷ 2 ∷ 47 ∷ 97 ∷ 0 ∷ 2 ∷ 47 ∷ 98 ∷ []
edit-rename = refl

-- moment 8, number 8
edit-hide : edit (Hide (codes "a" ∷ []) 1 2) ≡ 4 ∷ 0 ∷ 2 ∷ 47 ∷ 97 ∷ 0 ∷ 0 ∷ 0 ∷ 0 ∷ 0 ∷ 0 ∷ 0 ∷ 1 ∷ 0 ∷ 0 ∷ 0 ∷ 0 ∷ 0 ∷ 0 ∷ 0 ∷ 2 ∷ []
edit-hide = refl

edit-unhide : edit (Unhide (codes "a" ∷ [])) ≡ 5 ∷ 0 ∷ 2 ∷ 47 ∷ 97 ∷ []
edit-unhide = refl

edit-remove : edit (Remove (codes "a" ∷ [])) ≡ 6 ∷ 0 ∷ 2 ∷ 47 ∷ 97 ∷ []
edit-remove = refl

-- handle 8
edit-add_chunk : edit (AddChunk (codes "a" ∷ []) 1) ≡ 7 ∷ 0 ∷ 2 ∷ 47 ∷ 97 ∷ 0 ∷ 0 ∷ 0 ∷ 0 ∷ 0 ∷ 0 ∷ 0 ∷ 1 ∷ []
edit-add_chunk = refl

-- index 4, old 8, new 8
edit-cow : edit (Cow (codes "a" ∷ []) 1 2 3) ≡ 8 ∷ 0 ∷ 2 ∷ 47 ∷ 97 ∷ 0 ∷ 0 ∷ 0 ∷ 1 ∷ 0 ∷ 0 ∷ 0 ∷ 0 ∷ 0 ∷ 0 ∷ 0 ∷ 2 ∷ 0 ∷ 0 ∷ 0 ∷ 0 ∷ 0 ∷ 0 ∷ 0 ∷ 3 ∷ []
edit-cow = refl

-- from, to
edit-snapshot : edit (Snapshot (codes "a" ∷ []) (codes "b" ∷ [])) ≡ 9 ∷ 0 ∷ 2 ∷ 47 ∷ 97 ∷ 0 ∷ 2 ∷ 47 ∷ 98 ∷ []
edit-snapshot = refl

-- number of handles 4, handles 8 each
edit-forget : edit (Forget (1 ∷ 2 ∷ [])) ≡ 10 ∷ 0 ∷ 0 ∷ 0 ∷ 2 ∷ 0 ∷ 0 ∷ 0 ∷ 0 ∷ 0 ∷ 0 ∷ 0 ∷ 1 ∷ 0 ∷ 0 ∷ 0 ∷ 0 ∷ 0 ∷ 0 ∷ 0 ∷ 2 ∷ []
edit-forget = refl

-- a list of paths
inverse-mkdirs : inverse (UndoMkdirs ((codes "a" ∷ []) ∷ (codes "a" ∷ codes "b" ∷ []) ∷ [])) ≡ 1 ∷ 0 ∷ 0 ∷ 0 ∷ 2 ∷ 0 ∷ 2 ∷ 47 ∷ 97 ∷ 0 ∷ 4 ∷ 47 ∷ 97 ∷ 47 ∷ 98 ∷ []
inverse-mkdirs = refl

inverse-create : inverse (UndoCreate ((codes "a" ∷ []) ∷ [])) ≡ 2 ∷ 0 ∷ 0 ∷ 0 ∷ 1 ∷ 0 ∷ 2 ∷ 47 ∷ 97 ∷ []
inverse-create = refl

-- the path that stands now, the path before
inverse-rename : inverse (UndoRename (codes "a" ∷ []) (codes "b" ∷ [])) ≡ 3 ∷ 0 ∷ 2 ∷ 47 ∷ 97 ∷ 0 ∷ 2 ∷ 47 ∷ 98 ∷ []
inverse-rename = refl

inverse-hide : inverse (UndoHide (codes "a" ∷ []) (codes "b" ∷ [])) ≡ 4 ∷ 0 ∷ 2 ∷ 47 ∷ 97 ∷ 0 ∷ 2 ∷ 47 ∷ 98 ∷ []
inverse-hide = refl

inverse-unhide : inverse (UndoUnhide (codes "a" ∷ []) (codes "b" ∷ [])) ≡ 5 ∷ 0 ∷ 2 ∷ 47 ∷ 97 ∷ 0 ∷ 2 ∷ 47 ∷ 98 ∷ []
inverse-unhide = refl

-- a list of entries of the tree
inverse-remove : inverse (UndoRemove ((codes "a" ∷ [], Some (1 ∷ [])) ∷ [])) ≡ 6 ∷ 0 ∷ 0 ∷ 0 ∷ 1 ∷ 0 ∷ 2 ∷ 47 ∷ 97 ∷ 1 ∷ 0 ∷ 0 ∷ 0 ∷ 1 ∷ 0 ∷ 0 ∷ 0 ∷ 0 ∷ 0 ∷ 0 ∷ 0 ∷ 1 ∷ []
inverse-remove = refl

inverse-add_chunk : inverse (UndoAddChunk (codes "a" ∷ [])) ≡ 7 ∷ 0 ∷ 2 ∷ 47 ∷ 97 ∷ []
inverse-add_chunk = refl

-- index 4, old 8
inverse-cow : inverse (UndoCow (codes "a" ∷ []) 1 2) ≡ 8 ∷ 0 ∷ 2 ∷ 47 ∷ 97 ∷ 0 ∷ 0 ∷ 0 ∷ 1 ∷ 0 ∷ 0 ∷ 0 ∷ 0 ∷ 0 ∷ 0 ∷ 0 ∷ 2 ∷ []
inverse-cow = refl

inverse-snapshot : inverse (UndoSnapshot (codes "a" ∷ [])) ≡ 9 ∷ 0 ∷ 2 ∷ 47 ∷ 97 ∷ []
inverse-snapshot = refl

-- a list of handles
inverse-forget : inverse (UndoForget (1 ∷ [])) ≡ 10 ∷ 0 ∷ 0 ∷ 0 ∷ 1 ∷ 0 ∷ 0 ∷ 0 ∷ 0 ∷ 0 ∷ 0 ∷ 0 ∷ 1 ∷ []
inverse-forget = refl
