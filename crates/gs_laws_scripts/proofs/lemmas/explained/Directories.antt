-- A status that is told of a directory: as a dialogue, and as the machine has it.
use Rattle.std.proofs.Common.{ap, arith, inl, inr, refl, subst, sym, ◌∙◌, ◌≡◌, Err, List, None, Ok, Option, Result, Some, false, ℕ}
use Rattle.std.specs.Prelude.{[], get_or, take}
use Rattle.gs_base.specs.declared.refusal.Refusal.{Refusal}
use Rattle.gs_base.specs.declared.refusal.Refusal.TheVariants as refusals
use Rattle.gs_client.specs.Looking.{count_in}
use Rattle.gs_client.specs.Reading.{length_call, stat_call, stat_of}
use Rattle.gs_client.specs.Replies.{looked, status_in}
use Rattle.gs_client.specs.Trees.{and_then}
use Rattle.gs_client.specs.declared.link.Reply.{Reply}
use Rattle.gs_client.specs.declared.reading.Stat.{Stat}
use Rattle.gs_client.specs.declared.reading.Stat.TheVariants as stats
use Rattle.gs_client_dialogue.specs.Dialogues.{FollowsDialogue, Say, both, onward}
use Rattle.gs_client_part.specs.declared.located.Located.{Located}
use Rattle.gs_msg.specs.declared.answer.Answer.{Answer as Said}
use Rattle.gs_msg.specs.declared.answer.Answer.TheVariants as says
use Rattle.gs_msg.specs.declared.answer.ChunkStatus.{ChunkStatus}
use Rattle.gs_msg.specs.declared.answer.Status.TheVariants as statuses
use Rattle.gs_msg.specs.declared.call.Call.TheVariants as calls
use Rattle.gs_msg.specs.declared.event.Request.{Request}
use Rattle.gs_msg.specs.declared.event.Request.TheVariants as requests
use Rattle.gs_path.specs.Path.{Path}
use Rattle.gs_shell_calls.specs.Asked.{answered, on}
use Rattle.gs_shell_calls.specs.Texts.{answer_text}
use Rattle.gs_shell_calls.specs.declared.answer.Answer.{Answer}
use Rattle.gs_shell_calls.specs.declared.answer.Answer.TheVariants as answers
use Rattle.gs_shell_desk.specs.Answering.{IsText}
use Rattle.gs_tree.specs.Entry.{Dir, Entry}
use Rattle.gs_tree.specs.Find.{at}
use Rattle.gs_laws_scripts.proofs.lemmas.explained.Following.{both_splits, plain_splits}
use Rattle.gs_laws_scripts.proofs.lemmas.lists.Texts.{refused_never}
use Rattle.gs_laws_scripts.specs.explained.Lines.{OnPath, Stats}
use Rattle.gs_laws_scripts.specs.explained.Machine.{Machine, Text, is_rolling}
use Rattle.gs_laws_scripts.specs.explained.Standing.{TellsDirectory}

-- ---- what isn't told of a directory

file_apart : (many : ℕ) (chunks : List ChunkStatus) (r : Result Stat Refusal) → r ≡ Ok (stats.File many chunks) → r ≡ Ok stats.Directory → ⊥
file_apart many chunks r is dir = never (sym is ∙ dir)
  where
    never : ◌≡◌ {A = Result Stat Refusal} (Ok (stats.File many chunks)) (Ok stats.Directory) → ⊥
    never e = cc

refusal_apart : (e : Refusal) (r : Result Stat Refusal) → r ≡ Err e → r ≡ Ok stats.Directory → ⊥
refusal_apart e r is dir = never (sym is ∙ dir)
  where
    never : ◌≡◌ {A = Result Stat Refusal} (Err e) (Ok stats.Directory) → ⊥
    never e = cc

stat_is : (r : Result Stat Refusal) → answered answers.Stat r ≡ Ok (answers.Stat stats.Directory) → r ≡ Ok stats.Directory
stat_is (Ok stat) is = ap (λ (s : Stat). Ok s) (same is)
  where
    same : {a b : Stat} → ◌≡◌ {A = Result Answer Refusal} (Ok (answers.Stat a)) (Ok (answers.Stat b)) → a ≡ b
    same e = cc
stat_is (Err e) is = absurd (never is)
  where
    never : ◌≡◌ {A = Result Answer Refusal} (Err e) (Ok (answers.Stat stats.Directory)) → ⊥
    never e = cc

-- ---- the dialogue

module _ {S : Type 0} (carries : S → Request → Reply → S → Type 0) where
  -- a status is asked, and what is replied tells of a directory
  pub record AsksDirectory (parsed : Result Path Refusal) (old new : S) : Type 0 where
    pub path : Path
    pub parses : parsed ≡ Ok path
    pub reply : Reply
    pub asks : carries old (requests.Call (calls.Status path)) reply new
    pub tells : looked reply ≡ Ok (says.Status statuses.Directory)

  long_apart : (size : ℕ) (path : Path) (chunks : List ChunkStatus) (old new : S) (r : Result Stat Refusal) (count : Result ℕ Refusal) → FollowsDialogue carries (onward (λ many. both (length_call size path None many) (λ l. Say (Ok (stats.File l.0 chunks)))) count) old r new → r ≡ Ok stats.Directory → ⊥
  long_apart size path chunks old new r (Err e) h dir = refusal_apart e r h.0 dir
  long_apart size path chunks old new r (Ok many) h dir = (let s = both_splits carries (length_call size path None many) (λ l. Say (Ok (stats.File l.0 chunks))) old new r h in by_length s.0 s.1 s.3)
    where
      by_length : (x : Result (ℕ × Option Located) Refusal) (mid : S) → FollowsDialogue carries (onward (λ l. Say (Ok (stats.File l.0 chunks))) x) mid r new → ⊥
      by_length (Ok l) mid h = file_apart l.0 chunks r h.0 dir
      by_length (Err e) mid h = refusal_apart e r h.0 dir

  status_dir : (size : ℕ) (path : Path) (mid new : S) (r : Result Stat Refusal) (said : Result Said Refusal) → FollowsDialogue carries (onward (stat_of size path) (and_then status_in said)) mid r new → r ≡ Ok stats.Directory → (said ≡ Ok (says.Status statuses.Directory)) × (new ≡ mid)
  status_dir size path mid new r (Ok (says.Status statuses.Directory)) h dir = (refl, h.1)
  status_dir size path mid new r (Ok (says.Status (statuses.File chunks))) h dir = absurd (long_apart size path chunks mid new r (count_in chunks) h dir)
  status_dir size path mid new r (Ok said) h dir = absurd (refusal_apart refusals.Stray r h.0 dir)
  status_dir size path mid new r (Err e) h dir = absurd (refusal_apart e r h.0 dir)

  stat_goes : (size : ℕ) (path : Path) (old new : S) (r : Result Stat Refusal) → FollowsDialogue carries (stat_call size path) old r new → r ≡ Ok stats.Directory → AsksDirectory (Ok path) old new
  stat_goes size path old new r (inr refused) dir = absurd (refusal_apart refusals.Memory r refused.0 dir)
  stat_goes size path old new r (inl (reply, mid, carried, rest)) dir =
      let told = status_dir size path mid new r (looked reply) rest dir in
      record { path = path; parses = refl; reply = reply; asks = subst (λ s. carries old (requests.Call (calls.Status path)) reply s) (sym told.1) carried; tells = told.0 }

  -- ---- the text of its answer

  module _ (text : List ℕ) (dir : TellsDirectory text) where
    accepted : take 2 text ≡ take 2 (answer_text (Ok (answers.Stat stats.Directory)))
    accepted = ap (λ (t : List ℕ). take 2 t) dir

    stat_told : (r : Result Stat Refusal) → text ≡ answer_text (answered answers.Stat r) → r ≡ Ok stats.Directory
    stat_told (Ok stats.Directory) said = refl
    stat_told (Ok (stats.File many chunks)) said = absurd (never (ap (λ (t : List ℕ). get_or t 3 0) (sym dir ∙ said)))
      where
        never : ◌≡◌ {A = ℕ} 100 102 → ⊥
        never e = omega arith
    stat_told (Err e) said = refused_never e text said accepted

    pub directory_goes : (size : ℕ) (parsed : Result Path Refusal) (old new : S) (result : Result Answer Refusal) → FollowsDialogue carries (on parsed (stat_call size) answers.Stat) old result new → IsText result text → AsksDirectory parsed old new × (result ≡ Ok (answers.Stat stats.Directory))
    directory_goes size parsed old new result h (inr memory) = refused_never refusals.Memory text memory accepted
    directory_goes size (Ok path) old new result (inl h) (inl said) =
        let s = plain_splits carries (stat_call size path) answers.Stat old new result h in
        let told = stat_told s.0 (said ∙ ap answer_text s.1) in (stat_goes size path old new s.0 s.2 told, s.1 ∙ ap (answered answers.Stat) told)
    directory_goes size (Err e) old new result (inl (is, same)) (inl said) = refused_never e text (said ∙ ap answer_text is) accepted
    directory_goes size parsed old new result (inr (is, same)) (inl said) = refused_never refusals.Memory text (said ∙ ap answer_text is) accepted

-- ---- the machine

pub directory_leads : (size : ℕ) (m : Machine) (parsed : Result Path Refusal) (path : Path) → parsed ≡ Ok path → is_rolling m.phase ≡ false → at m.plain.tree path ≡ Some Dir → OnPath size parsed (Stats size) m (Ok (answers.Stat stats.Directory)) m
directory_leads size m parsed path is calm found =
    subst (λ r. OnPath size r (Stats size) m (Ok (answers.Stat stats.Directory)) m) (sym is) ([], m, refl, inr (calm, subst (λ (entry : Option (Entry Text)). Stats size path entry m (Ok (answers.Stat stats.Directory)) m) (sym found) (refl, refl)))
