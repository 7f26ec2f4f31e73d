-- A status that is told of a file without chunks: as a dialogue, and as the machine has it.
use Rattle.std.proofs.Common.{ap, arith, inl, inr, refl, subst, sym, ◌++◌, ◌∷◌, ◌∙◌, ◌≡◌, Err, List, None, Ok, Option, Result, Some, false, ℕ}
use Rattle.std.specs.Fmt.{digits}
use Rattle.std.specs.Prelude.{[], codes, decimal, get_or, take}
use Rattle.gs_base.specs.declared.refusal.Refusal.{Refusal}
use Rattle.gs_base.specs.declared.refusal.Refusal.TheVariants as refusals
use Rattle.gs_client.specs.Looking.{count_in}
use Rattle.gs_client.specs.Reading.{length_call, stat_call, stat_of}
use Rattle.gs_client.specs.Replies.{looked, status_in}
use Rattle.gs_client.specs.Trees.{and_then}
use Rattle.gs_client.specs.declared.link.Reply.{Reply}
use Rattle.gs_client.specs.declared.reading.Stat.{Stat}
use Rattle.gs_client.specs.declared.reading.Stat.TheVariants as stats
use Rattle.gs_client_dialogue.specs.Dialogues.{FollowsDialogue, Say, both, onward}
use Rattle.gs_client_part.specs.declared.located.Located.{Located}
use Rattle.gs_msg.specs.declared.answer.Answer.{Answer as Said}
use Rattle.gs_msg.specs.declared.answer.Answer.TheVariants as says
use Rattle.gs_msg.specs.declared.answer.ChunkStatus.{ChunkStatus}
use Rattle.gs_msg.specs.declared.answer.Status.TheVariants as statuses
use Rattle.gs_msg.specs.declared.call.Call.TheVariants as calls
use Rattle.gs_msg.specs.declared.event.Request.{Request}
use Rattle.gs_msg.specs.declared.event.Request.TheVariants as requests
use Rattle.gs_path.specs.Path.{Path}
use Rattle.gs_shell_calls.specs.Asked.{answered, on}
use Rattle.gs_msg.specs.Texts.{chunk_status_text}
use Rattle.gs_shell_calls.specs.Texts.{answer_text, chunks_text}
use Rattle.gs_shell_calls.specs.declared.answer.Answer.{Answer}
use Rattle.gs_shell_calls.specs.declared.answer.Answer.TheVariants as answers
use Rattle.gs_shell_desk.specs.Answering.{IsText}
use Rattle.gs_tree.specs.Entry.{Entry, File}
use Rattle.gs_tree.specs.Find.{at}
use Rattle.gs_laws_scripts.proofs.lemmas.explained.Following.{both_splits, plain_splits}
use Rattle.gs_laws_scripts.proofs.lemmas.lists.Texts.{refused_never}
use Rattle.gs_laws_scripts.specs.explained.Lines.{OnPath, Stats}
use Rattle.gs_laws_scripts.specs.explained.Machine.{Machine, Text, is_rolling}
use Rattle.gs_laws_scripts.specs.explained.Standing.{TellsEmpty}

-- ---- its text

-- nothing stands after the number
none_behind : (number rest : List ℕ) → 48 ∷ [] ≡ number ++ 32 ∷ rest → ⊥
none_behind [] rest is = apart (ap (λ (t : List ℕ). get_or t 0 0) is)
  where
    apart : ◌≡◌ {A = ℕ} 48 32 → ⊥
    apart e = omega arith
none_behind (d ∷ []) rest is = absurd (cc)
none_behind (d ∷ e ∷ number) rest is = absurd (cc)

tail_is : {x y : List ℕ} → codes "ok file " ++ x ≡ codes "ok file " ++ y → x ≡ y
tail_is e = cc

zero_text : decimal 0 ++ [] ≡ 48 ∷ []
unfolding digits
zero_text = refl

-- a file is told of, and it has no chunk
record IsEmpty (r : Result Stat Refusal) : Type 0 where
  many : ℕ
  is : r ≡ Ok (stats.File many [])

text_told : (text : List ℕ) → TellsEmpty text → (r : Result Stat Refusal) → text ≡ answer_text (answered answers.Stat r) → IsEmpty r
text_told text empty (Ok stats.Directory) said = absurd (never (ap (λ (t : List ℕ). get_or t 3 0) (sym empty ∙ said)))
  where
    never : ◌≡◌ {A = ℕ} 102 100 → ⊥
    never e = omega arith
text_told text empty (Ok (stats.File many [])) said = record { many = many; is = refl }
text_told text empty (Ok (stats.File many (chunk ∷ chunks))) said = absurd (none_behind (decimal many) (chunk_status_text chunk ++ chunks_text chunks) (sym zero_text ∙ tail_is (sym empty ∙ said)))
text_told text empty (Err e) said = refused_never e text said (ap (λ (t : List ℕ). take 2 t) empty)

-- ---- the dialogue

other_refusal : {Z : Type 0} (e : Refusal) (r : Result Stat Refusal) → r ≡ Err e → IsEmpty r → Z
other_refusal e r is empty = absurd (never (sym is ∙ empty.is))
  where
    never : ◌≡◌ {A = Result Stat Refusal} (Err e) (Ok (stats.File empty.many [])) → ⊥
    never same = cc

module _ {S : Type 0} (carries : S → Request → Reply → S → Type 0) where
  -- a status is asked, and what is replied tells of such a file
  pub record AsksEmpty (parsed : Result Path Refusal) (old new : S) : Type 0 where
    pub path : Path
    pub parses : parsed ≡ Ok path
    pub reply : Reply
    pub asks : carries old (requests.Call (calls.Status path)) reply new
    pub tells : looked reply ≡ Ok (says.Status (statuses.File []))

  some_apart : (size : ℕ) (path : Path) (chunk : ChunkStatus) (chunks : List ChunkStatus) (old new : S) (r : Result Stat Refusal) (count : Result ℕ Refusal)
      → FollowsDialogue carries (onward (λ many. both (length_call size path None many) (λ l. Say (Ok (stats.File l.0 (chunk ∷ chunks))))) count) old r new → IsEmpty r → ⊥
  some_apart size path chunk chunks old new r (Err e) h empty = other_refusal e r h.0 empty
  some_apart size path chunk chunks old new r (Ok many) h empty = (let s = both_splits carries (length_call size path None many) (λ l. Say (Ok (stats.File l.0 (chunk ∷ chunks)))) old new r h in by_length s.0 s.1 s.3)
    where
      never : (size : ℕ) → ◌≡◌ {A = Result Stat Refusal} (Ok (stats.File size (chunk ∷ chunks))) (Ok (stats.File empty.many [])) → ⊥
      never size e = cc

      by_length : (x : Result (ℕ × Option Located) Refusal) (mid : S) → FollowsDialogue carries (onward (λ l. Say (Ok (stats.File l.0 (chunk ∷ chunks)))) x) mid r new → ⊥
      by_length (Ok l) mid h = never l.0 (sym h.0 ∙ empty.is)
      by_length (Err e) mid h = other_refusal e r h.0 empty

  abbrev Told : Result Said Refusal → Result Stat Refusal → S → S → Type 0
  Told said r mid new = (said ≡ Ok (says.Status (statuses.File []))) × (r ≡ Ok (stats.File 0 [])) × (new ≡ mid)

  status_empty : (size : ℕ) (path : Path) (mid new : S) (r : Result Stat Refusal) (said : Result Said Refusal) → FollowsDialogue carries (onward (stat_of size path) (and_then status_in said)) mid r new → IsEmpty r → Told said r mid new
  status_empty size path mid new r (Ok (says.Status statuses.Directory)) h empty = absurd (never (sym h.0 ∙ empty.is))
    where
      never : ◌≡◌ {A = Result Stat Refusal} (Ok stats.Directory) (Ok (stats.File empty.many [])) → ⊥
      never e = cc
  status_empty size path mid new r (Ok (says.Status (statuses.File []))) h empty = (refl, h.0, h.1)
  status_empty size path mid new r (Ok (says.Status (statuses.File (chunk ∷ chunks)))) h empty = absurd (some_apart size path chunk chunks mid new r (count_in (chunk ∷ chunks)) h empty)
  status_empty size path mid new r (Ok said) h empty = other_refusal refusals.Stray r h.0 empty
  status_empty size path mid new r (Err e) h empty = other_refusal e r h.0 empty

  stat_goes : (size : ℕ) (path : Path) (old new : S) (r : Result Stat Refusal) → FollowsDialogue carries (stat_call size path) old r new → IsEmpty r → AsksEmpty (Ok path) old new × (r ≡ Ok (stats.File 0 []))
  stat_goes size path old new r (inr refused) empty = other_refusal refusals.Memory r refused.0 empty
  stat_goes size path old new r (inl (reply, mid, carried, rest)) empty =
      let told : Told (looked reply) r mid new = status_empty size path mid new r (looked reply) rest empty in
      (record { path = path; parses = refl; reply = reply; asks = subst (λ s. carries old (requests.Call (calls.Status path)) reply s) (sym told.2) carried; tells = told.0 }, told.1)

  -- ---- the answer

  module _ (text : List ℕ) (empty : TellsEmpty text) where
    accepted : take 2 text ≡ take 2 (answer_text (Ok (answers.Stat (stats.File 0 []))))
    accepted = ap (λ (t : List ℕ). take 2 t) empty

    pub empty_goes : (size : ℕ) (parsed : Result Path Refusal) (old new : S) (result : Result Answer Refusal) → FollowsDialogue carries (on parsed (stat_call size) answers.Stat) old result new → IsText result text → AsksEmpty parsed old new × (result ≡ Ok (answers.Stat (stats.File 0 [])))
    empty_goes size parsed old new result h (inr memory) = refused_never refusals.Memory text memory accepted
    empty_goes size (Ok path) old new result (inl h) (inl said) =
        let s = plain_splits carries (stat_call size path) answers.Stat old new result h in
        let told = stat_goes size path old new s.0 s.2 (text_told text empty s.0 (said ∙ ap answer_text s.1)) in (told.0, s.1 ∙ ap (answered answers.Stat) told.1)
    empty_goes size (Err e) old new result (inl (is, same)) (inl said) = refused_never e text (said ∙ ap answer_text is) accepted
    empty_goes size parsed old new result (inr (is, same)) (inl said) = refused_never refusals.Memory text (said ∙ ap answer_text is) accepted

-- ---- the machine

pub empty_leads : (size : ℕ) (m : Machine) (parsed : Result Path Refusal) (path : Path) → parsed ≡ Ok path → is_rolling m.phase ≡ false → at m.plain.tree path ≡ Some (File []) → OnPath size parsed (Stats size) m (Ok (answers.Stat (stats.File 0 []))) m
empty_leads size m parsed path is calm found =
    subst (λ r. OnPath size r (Stats size) m (Ok (answers.Stat (stats.File 0 []))) m) (sym is)
    ([], m, refl, inr (calm, subst (λ (entry : Option (Entry Text)). Stats size path entry m (Ok (answers.Stat (stats.File 0 []))) m) (sym found) ([], [], refl, refl, refl)))
