-- What a call comes to where its tests have passed.
use Rattle.std.proofs.Common.{◌≡◌, ◌∙◌, ◌||◌, ◌&&◌, ℕ, Bool, true, false, not, cond, List, [], ◌∷◌, length, refl, ap, sym}
use Rattle.std.specs.Prelude.{Option, Some, None, is_some, is_none, Ok, Err, nat_le, nat_lt}
use Rattle.gs_base.specs.declared.config.Config.{Config}
use Rattle.gs_base.specs.declared.numbers.ReqId.{ReqId}
use Rattle.gs_base.specs.declared.refusal.Refusal.{Refusal}
use Rattle.gs_base.specs.declared.refusal.Refusal.TheVariants as refusals
use Rattle.gs_base.specs.declared.numbers.Moment.{Moment}
use Rattle.gs_msg.specs.declared.answer.Answer.TheVariants as answers
use Rattle.gs_path.specs.Path.{Path}
use Rattle.gs_master_record.specs.Plain.{Hide}
use Rattle.gs_tree.specs.Edits.{hidden_path, same_path}
use Rattle.std.specs.FinMap as fin
use Rattle.std.proofs.lemmas.Bool.{ne_eqb}
use Rattle.gs_tree.specs.Entry.{Entry, Dir, File}
use Rattle.gs_master_spec.specs.Beginning.{counted_views, targets_for}
use Rattle.gs_master_spec.specs.Calls.{answered_with, deleted, edited_by, found_chunk, has_visible_child, location, looked_up}
use Rattle.gs_master_spec.specs.Chunks.{Chunk, is_wanted, members_of}
use Rattle.gs_master_state.specs.inner.Judging.{length_at}
use Rattle.gs_master_spec.specs.State.{State, refused}
use Rattle.gs_master_spec.specs.Working.{created_on, extends, replicated_to, replicates_chunk}

-- a file has so many chunks
found_file : (entry : Option (Entry ℕ)) (n : ℕ) → length_at entry ≡ Ok n → (chunks : List ℕ) × ((entry ≡ Some (File chunks)) × (length chunks ≡ n))
found_file None n h = absurd (cc)
found_file (Some Dir) n h = absurd (cc)
found_file (Some (File chunks)) n h = (chunks, (refl, cc))

-- a place behind the last chunk, where a file may have one more
pub extends_new : (config : Config) (s : State) (req : ReqId) (path : Path) (index n : ℕ) (entry : Option (Entry ℕ)) → length_at entry ≡ Ok n → nat_lt index n ≡ false → nat_lt n index ≡ false → nat_le 4096 index ≡ false →
    extends config s req path index entry ≡ created_on s req path (targets_for config (counted_views s) [] config.replicas)
extends_new config s req path index n entry is within behind many =
    let file = found_file entry n is in
    let chunks = file.0 in
    ap (extends config s req path index) file.1.0
    ∙ (λ i. cond (nat_lt index (file.1.1 i)) (looked_up s req (location s.durable (found_chunk (Some (File chunks)) index))) (cond (nat_lt (file.1.1 i) index || nat_le 4096 index) (refused s req refusals.Range) (created_on s req path (targets_for config (counted_views s) [] config.replicas))))
    ∙ (λ i. cond (within i) (looked_up s req (location s.durable (found_chunk (Some (File chunks)) index))) (cond (behind i || many i) (refused s req refusals.Range) (created_on s req path (targets_for config (counted_views s) [] config.replicas))))

-- what is no file isn't extended
pub extends_nothing : (config : Config) (s : State) (req : ReqId) (path : Path) (index : ℕ) (entry : Option (Entry ℕ)) (e : Refusal) → Err e ≡ length_at entry → extends config s req path index entry ≡ refused s req e
extends_nothing config s req path index None e is = ap (refused s req) (let same : refusals.NotFound ≡ e = cc in same)
extends_nothing config s req path index (Some Dir) e is = ap (refused s req) (let same : refusals.IsADirectory ≡ e = cc in same)
extends_nothing config s req path index (Some (File chunks)) e is = absurd (cc)

-- a chunk that no call moves gets a replica
pub replicates_known : (config : Config) (s : State) (req : ReqId) (chunk : ℕ) (found : Option Chunk) (c : Chunk) (targets : Option (List ℕ)) → Some c ≡ found → is_wanted c ≡ false → targets ≡ targets_for config (counted_views s) (members_of c) 1 →
    replicates_chunk config s req chunk found ≡ replicated_to s req chunk targets
replicates_known config s req chunk found c targets is wanted placed =
    ap (replicates_chunk config s req chunk) (sym is) ∙ ap (λ b. cond b (refused s req refusals.Locked) (replicated_to s req chunk (targets_for config (counted_views s) (members_of c) 1))) wanted ∙ ap (replicated_to s req chunk) (sym placed)

-- ---- what is deleted

not_root : (path : Path) → (path ≡ [] → ⊥) → same_path path [] ≡ false
not_root [] some = absurd (some refl)
not_root (name ∷ path) some = refl

stands_there : {A : Type 0} (o : Option A) → is_some o ≡ true → is_none o ≡ false
stands_there None h = absurd (cc)
stands_there (Some x) h = refl

-- what stands and may be deleted gets a hidden name
pub deletes : (s : State) (req : ReqId) (path : Path) (recursive : Bool) (moment : Moment) → (path ≡ [] → ⊥) → is_some (fin.get s.durable.names.tree path) ≡ true →
    (not recursive && has_visible_child (fin.entries s.durable.names.tree) path) ≡ false → (s.durable.next_hidden ≡ 0 → ⊥) →
    deleted s req path recursive moment ≡ edited_by s req (Hide path moment.0 s.durable.next_hidden) (answers.Path (hidden_path path moment.0 s.durable.next_hidden))
deletes s req path recursive moment some stands visible number =
    λ i. cond (not_root path some i) (refused s req refusals.IsRoot)
    (cond (stands_there (fin.get s.durable.names.tree path) stands i) (answered_with s req answers.Absent)
    (cond (visible i) (refused s req refusals.NotEmpty)
    (cond (ne_eqb s.durable.next_hidden 0 number i) (refused s req refusals.Exhausted) (edited_by s req (Hide path moment.0 s.durable.next_hidden) (answers.Path (hidden_path path moment.0 s.durable.next_hidden))))))
