-- The plain machine over an upgrade that is rolled back.
use Rattle.std.proofs.Common.{◌≡◌, ◌∙◌, ◌&&◌, ◌++◌, ℕ, true, false, List, [], ◌∷◌, Some, Result, Ok, Err, refl, sym, ap}
use Rattle.std.specs.List.{list_all}
use Rattle.std.specs.Prelude.{filter_map}
use Rattle.std.proofs.lemmas.List.Elements.{filter_map-append}
use Rattle.std.proofs.lemmas.Bool.{and_parts, false≢true}
use Rattle.gs_base.specs.declared.refusal.Refusal.{Refusal}
use Rattle.gs_edit.specs.Machine.{Plain, restored}
use Rattle.gs_edit.specs.Plain.{add_chunk_rows, create_rows, hide_rows, mkdirs_rows, remove_rows, rename_rows, set_chunk_rows, snapshot_rows, unhide_rows}
use Rattle.gs_laws_plain.specs.commands.Commands.{AddChunk, Command, Create, EditChunk, Hide, Mkdirs, Prepare, Remove, Rename, Snapshot, Texts, Unhide, all_commanded, but_edit, commanded, text_at, with_rows}
use Rattle.gs_master_record.specs.declared.checkpoint.Phase.{Phase}
use Rattle.gs_master_record.specs.declared.checkpoint.Phase.TheVariants.{Ordinary, Rolling, Upgrade}
use Rattle.gs_master_spec.specs.Durable.{is_ordinary, is_upgrade}
use Rattle.gs_replica.specs.Copies.{and_then}
use Rattle.gs_replica.specs.Stands.{edited_bytes}
use Rattle.gs_world.specs.Histories.{History}
use Rattle.gs_world.specs.Runs.{Step}
use Rattle.gs_laws_plain.proofs.lemmas.commands.Leading.{then_many}
use Rattle.gs_laws_chunks.proofs.lemmas.accounts.Holding.{reach_more, runs_of}
use Rattle.gs_laws_chunks.specs.accounts.Accounts.{Account}
use Rattle.gs_laws_chunks.specs.accounts.Running.{IsReached, Setup}
use Rattle.gs_laws_chunks.specs.accounts.Upgrading.{IsUpgrading, RunsUpgraded}
use Rattle.gs_laws_runs.specs.plain.Back.{RollbacksGoBackPlainly, as_run}
use Rattle.gs_laws_runs.specs.plain.Ends.{edits_only}
use Rattle.gs_laws_runs.specs.plain.Plainly.{IsPlainRun, IsPlainStep, StepsArePlain}
use Rattle.gs_laws_runs.specs.plain.Views.{plain_view}

-- ---- the machine: what edits names and texts leaves the tree that is kept

machine_is : {m n : Plain (List ℕ)} → ◌≡◌ {A = Result (Plain (List ℕ)) Refusal} (Ok m) (Ok n) → m ≡ n
machine_is h = cc

never : {n : Plain (List ℕ)} {e : Refusal} → ◌≡◌ {A = Result (Plain (List ℕ)) Refusal} (Err e) (Ok n) → ⊥
never h = absurd (cc)

rows_leave : (m n : Plain (List ℕ)) (rows : Result Texts Refusal) → with_rows m rows ≡ Ok n → n.kept ≡ m.kept
rows_leave m n (Ok rows) is = ap (λ (p : Plain (List ℕ)). p.kept) (sym (machine_is is))
rows_leave m n (Err refusal) is = absurd (never is)

edit_leaves : (size : ℕ) (c : Command) (m n : Plain (List ℕ)) → edits_only c ≡ true → commanded size c m ≡ Ok n → n.kept ≡ m.kept
edit_leaves size (Mkdirs p) m n edits is = rows_leave m n (mkdirs_rows m.tree p) is
edit_leaves size (Create p) m n edits is = rows_leave m n (create_rows m.tree p) is
edit_leaves size (Rename from to) m n edits is = rows_leave m n (rename_rows m.tree from to) is
edit_leaves size (Hide p moment number) m n edits is = rows_leave m n (hide_rows m.tree p moment number) is
edit_leaves size (Unhide p) m n edits is = rows_leave m n (unhide_rows m.tree p) is
edit_leaves size (Remove p) m n edits is = rows_leave m n (remove_rows m.tree p) is
edit_leaves size (Snapshot from to) m n edits is = rows_leave m n (snapshot_rows m.tree from to) is
edit_leaves size (AddChunk p) m n edits is = rows_leave m n (add_chunk_rows m.tree p []) is
edit_leaves size (EditChunk p index op bytes) m n edits is = rows_leave m n (set_chunk_rows m.tree p index (edited_bytes size op bytes (text_at m.tree p index))) is
edit_leaves size c m n edits is = absurd (false≢true edits)

edits_leave : (size : ℕ) (commands : List Command) (m n : Plain (List ℕ)) → list_all edits_only commands ≡ true → all_commanded size commands m ≡ Ok n → n.kept ≡ m.kept
edits_leave size [] m n edits is = ap (λ (p : Plain (List ℕ)). p.kept) (sym (machine_is is))
edits_leave size (c ∷ commands) m n edits is = by_first (commanded size c m) refl is (λ mid rest. edits_leave size commands mid n both.1 rest)
  where
    both : (edits_only c ≡ true) × (list_all edits_only commands ≡ true)
    both = and_parts (edits_only c) (list_all edits_only commands) edits

    by_first : (first : Result (Plain (List ℕ)) Refusal) → commanded size c m ≡ first → and_then first (λ next. all_commanded size commands next) ≡ Ok n → ((mid : Plain (List ℕ)) → all_commanded size commands mid ≡ Ok n → n.kept ≡ mid.kept) → n.kept ≡ m.kept
    by_first (Ok mid) at rest more = more mid rest ∙ edit_leaves size c m mid both.0 at
    by_first (Err e) at rest more = absurd (never rest)

all_both : (xs ys : List Command) → list_all edits_only xs ≡ true → list_all edits_only ys ≡ true → list_all edits_only (xs ++ ys) ≡ true
all_both [] ys a b = b
all_both (x ∷ xs) ys a b = (let parts = and_parts (edits_only x) (list_all edits_only xs) a in ap (λ t. t && list_all edits_only (xs ++ ys)) parts.0 ∙ all_both xs ys parts.1 b)

upgrade_stands : (p : Phase) → is_upgrade p ≡ true → is_ordinary p ≡ false
upgrade_stands Ordinary h = absurd (false≢true h)
upgrade_stands Upgrade h = refl
upgrade_stands Rolling h = absurd (false≢true h)

-- ---- a run from a prepare on, that isn't ended

module _ {D : Type 0} (x : Setup D) (plain : StepsArePlain x) where
  abbrev size : ℕ
  size = x.config.chunk

  record EditsAlone (steps : List Step) (old : History D) (a : Account) (new : History D) (b : Account) (runs : RunsUpgraded x steps old a new b) : Type 0 where
    pub run : IsPlainRun x steps old a new b (as_run x steps old a new b runs)
    pub edits : list_all edits_only run.commands ≡ true

  edits_alone : (steps : List Step) (old new : History D) (a b : Account) → IsReached x old a → is_ordinary a.durable.phase ≡ false → (runs : RunsUpgraded x steps old a new b) → EditsAlone steps old a new b runs
  edits_alone [] old new a b r upgraded runs = record { run = record { commands = []; go = refl; leads = ap (λ (k : Account). Ok (plain_view size k)) (sym runs.1) }; edits = refl }
  edits_alone (step ∷ steps) old new a b r upgraded (mid, c, one, still, rest) =
      let first = plain old mid a c step r one in
      let more = edits_alone steps mid new c b (reach_more x old mid a c (step ∷ []) r (mid, c, one, (refl, refl))) still rest in
      record {
        run = record {
          commands = first.commands ++ more.run.commands;
          go = (first, more.run.commands, refl, more.run.go);
          leads = then_many size first.commands more.run.commands (plain_view size a) (plain_view size c) first.leads ∙ more.run.leads;
        };
        edits = all_both first.commands more.run.commands (first.ends.within (still ∙ sym upgraded)) more.edits;
      }

pub go_back_plainly : {D : Type 0} (x : Setup D) → StepsArePlain x → RollbacksGoBackPlainly x
go_back_plainly x plain prepared now back before after last rolled = record {
  begins = first;
  keeps = keeps;
  within = alone.run;
  edits = alone.edits;
  still = still;
  ends = second;
  gives = (second.ends.restores rolled.accepted).2 ∙ ap (restored (shown after)) (tree_is (sym (second.ends.restores rolled.accepted).1 ∙ still));
  others = filter_map-append but_edit first.commands (alone.run.commands ++ second.commands) ∙ ap (λ cs. cs ++ filter_map but_edit (alone.run.commands ++ second.commands)) (first.ends.begins up.accepted)
      ∙ ap (λ cs. Prepare ∷ cs) (filter_map-append but_edit alone.run.commands second.commands ∙ ap (λ cs. filter_map but_edit alone.run.commands ++ cs) (second.ends.back rolled.accepted));
}
  where
    tree_is : {p q : Texts} → Some p ≡ Some q → p ≡ q
    tree_is h = cc

    size : ℕ
    size = x.config.chunk

    shown : Account → Plain (List ℕ)
    shown k = plain_view size k

    up : IsUpgrading x prepared before now after
    up = rolled.upgrade

    there : IsReached x prepared before
    there = reach_more x up.old prepared up.first before (up.step ∷ []) up.reached (prepared, before, up.moves, (refl, refl))

    first : IsPlainStep size up.step up.old prepared up.first before
    first = plain up.old prepared up.first before up.step up.reached up.moves

    second : IsPlainStep size rolled.step now back after last
    second = plain now back after last rolled.step (reach_more x prepared now before after up.steps there (runs_of x up.steps prepared now before after up.runs)) rolled.moves

    alone : EditsAlone x plain up.steps prepared before now after up.runs
    alone = edits_alone x plain up.steps prepared now before after there (upgrade_stands before.durable.phase (and_parts (is_ordinary up.first.durable.phase) (is_upgrade before.durable.phase) up.accepted).1) up.runs

    keeps : (shown before).kept ≡ Some (shown before).tree
    keeps = first.ends.keeps up.accepted

    still : (shown after).kept ≡ Some (shown before).tree
    still = edits_leave size alone.run.commands (shown before) (shown after) alone.edits alone.run.leads ∙ keeps
