-- A script of lines of the tree and of an upgrade, line by line.
use Rattle.std.proofs.Common.{◌≡◌, ◌⊎◌, inl, inr, ◌∙◌, ℕ, Bool, true, false, List, [], ◌∷◌, length, take, nat_le, refl, ap, subst, zero, suc}
use Rattle.std.specs.Prelude.{Err, Option, Some, None, if◌then◌else◌}
use Rattle.std.specs.List.{AllByRecursion}
use Rattle.std.proofs.lemmas.Bool.{false≢true}
use Rattle.gs_base.specs.Refusals.{refusal_text}
use Rattle.gs_base.specs.declared.config.Config.{Config}
use Rattle.gs_base.specs.declared.refusal.Refusal.{Refusal}
use Rattle.gs_base.specs.declared.refusal.Refusal.TheVariants as refusals
use Rattle.gs_shell_calls.specs.Texts.{answer_text}
use Rattle.gs_shell_grammar.specs.Grammar.{Request, line_request}
use Rattle.gs_shell_grammar.specs.Grammar as lines
use Rattle.gs_shell_grammar.specs.declared.command.Upgrade.TheVariants as upgrades
use Rattle.gs_shell_line.specs.Line.{content, longest_line}
use Rattle.gs_shell_script.specs.Run.{bad_line_text, lines_of}
use Rattle.gs_path.specs.Rules.{parse, parse_hidden}
use Rattle.gs_laws_scripts.proofs.lemmas.answers.PlainAnswers.{script_is_answered}
use Rattle.gs_laws_chunks.proofs.lemmas.desks.Words.{IsSpoken, line_spoken, stored_path, visible_path}
use Rattle.gs_laws_scripts.specs.answers.Plain.{PlainDesk, answers_all, answers_as, answers_line, begins, in_text}
use Rattle.gs_laws_scripts.specs.answers.Plain as desk
use Rattle.gs_laws_scripts.proofs.lemmas.plain.Beginning.{begins_standing}
use Rattle.gs_laws_scripts.proofs.lemmas.plain.Lines.{LineGoes, Standing, create_line, ls_line, mkdir_line, mv_line, rm_line, snapshot_line, undelete_line}
use Rattle.gs_laws_scripts.proofs.lemmas.plain.Upgrades.{finalize_goes, prepare_goes, query_goes, rollback_goes}
use Rattle.gs_laws_scripts.specs.plain.Machines.{Machine, asked_in, comes, is_plain_line, is_plain_request, machine_answers, new_machine}
use Rattle.gs_laws_scripts.specs.plain.Scripts.{HasRoom, ScriptsArePlain}

module _ (config : Config) (m : Machine) (w : PlainDesk) (st : Standing config m w) where
  moment_line : (moment : ℕ) → IsSpoken (lines.At moment) → LineGoes config (desk.comes (lines.At moment) w) (comes (Some (lines.At moment)) m)
  moment_line moment spoken = inr (record {
    same = refl;
    stands = record {
      at = record {
        s = st.at.s;
        all = st.at.all;
        last = st.at.last;
        used = st.at.used;
        held = st.at.held;
        drops = st.at.drops;
        is = ap (λ (v : PlainDesk). (v.0, record v.1 { moment = record { 0 = moment } })) st.at.is;
        less = st.at.less;
        still = st.at.still;
        begun = st.at.begun;
        rolled = st.at.rolled;
        shows = st.at.shows;
        answered = st.at.answered;
        many = st.at.many;
        at = st.at.at;
      };
      moment = spoken;
    };
  })

  request_goes : (request : Request) → IsSpoken request → is_plain_request (Some request) ≡ true → LineGoes config (desk.comes request w) (comes (Some request) m)
  request_goes (lines.Mkdir p) spoken is = mkdir_line config m w st (parse p) (λ path read. visible_path p path spoken read)
  request_goes (lines.Create p) spoken is = create_line config m w st (parse p) (λ path read. visible_path p path spoken read)
  request_goes (lines.Ls p) spoken is = ls_line config m w st (parse_hidden p)
  request_goes (lines.Mv p q) spoken is = mv_line config m w st (parse p) (parse q) (λ from to read also. (visible_path p from spoken.0 read, visible_path q to spoken.1 also))
  request_goes (lines.Rm p recursive) spoken is = rm_line config m w st (parse p) recursive (λ path read. visible_path p path spoken read)
  request_goes (lines.Undelete p) spoken is = undelete_line config m w st (parse_hidden p) (λ path read. stored_path p path spoken read)
  request_goes (lines.Snapshot p q) spoken is = snapshot_line config m w st (parse p) (parse q) (λ from to read also. (visible_path p from spoken.0 read, visible_path q to spoken.1 also))
  request_goes (lines.RollingUpgrade upgrades.Query) spoken is = query_goes config m w st
  request_goes (lines.RollingUpgrade upgrades.Prepare) spoken is = prepare_goes config m w st
  request_goes (lines.RollingUpgrade upgrades.Finalize) spoken is = finalize_goes config m w st
  request_goes (lines.RollingUpgrade upgrades.Rollback) spoken is = rollback_goes config m w st
  request_goes (lines.At moment) spoken is = moment_line moment spoken
  request_goes (lines.Stat p) spoken is = absurd (false≢true is)
  request_goes (lines.Write p offset bytes) spoken is = absurd (false≢true is)
  request_goes (lines.Append p bytes) spoken is = absurd (false≢true is)
  request_goes (lines.Read p offset many) spoken is = absurd (false≢true is)
  request_goes (lines.Digest p chunk block) spoken is = absurd (false≢true is)
  request_goes lines.Scan spoken is = absurd (false≢true is)
  request_goes lines.Replicate spoken is = absurd (false≢true is)
  request_goes (lines.Beat server) spoken is = absurd (false≢true is)
  request_goes lines.Tick spoken is = absurd (false≢true is)
  request_goes (lines.Step step) spoken is = absurd (false≢true is)
  request_goes (lines.Restart node) spoken is = absurd (false≢true is)
  request_goes (lines.Lose server handle) spoken is = absurd (false≢true is)
  request_goes (lines.Damage server handle block) spoken is = absurd (false≢true is)
  request_goes (lines.Hold kind) spoken is = absurd (false≢true is)
  request_goes (lines.Deliver number) spoken is = absurd (false≢true is)

  -- a line is answered alike, if there is room for the answer
  abbrev AnsweredAlike : List ℕ × PlainDesk → Option Request → Type 0
  AnsweredAlike given request = (given.0 ≡ answer_text (comes request m).0) × Standing config (comes request m).1 given.1

  short_text : (text : List ℕ) (e : Refusal) → (e ≡ refusals.Full) ⊎ (e ≡ refusals.Exhausted) → text ≡ answer_text (Err e) → HasRoom text → ⊥
  short_text text e (inl h) is room = room.0 (is ∙ ap refusal_text h)
  short_text text e (inr h) is room = room.1 (is ∙ ap refusal_text h)

  by_request : (request : Option Request) → ((r : Request) → request ≡ Some r → IsSpoken r) → is_plain_request request ≡ true → HasRoom (answers_as request w).0 → AnsweredAlike (answers_as request w) request
  by_request None spoken is room = (refl, st)
  by_request (Some request) spoken is room = each (request_goes request (spoken request refl) is)
    where
      each : LineGoes config (desk.comes request w) (comes (Some request) m) → AnsweredAlike (in_text (desk.comes request w)) (Some request)
      each (inl short) = absurd (short_text (in_text (desk.comes request w)).0 short.refusal short.short (ap answer_text short.is) room)
      each (inr goes) = (ap answer_text goes.same, goes.stands)

  line_goes : (whole : List ℕ) → is_plain_line whole ≡ true → HasRoom (answers_line whole w).0 → AnsweredAlike (answers_line whole w) (asked_in whole)
  line_goes whole is room = each (nat_le (length (content whole)) longest_line) is room
    where
      each : (b : Bool) → is_plain_request (if b then line_request (content whole) else None) ≡ true → HasRoom (if b then answers_as (line_request (content whole)) w else (bad_line_text, w)).0
          → AnsweredAlike (if b then answers_as (line_request (content whole)) w else (bad_line_text, w)) (if b then line_request (content whole) else None)
      each true is room = by_request (line_request (content whole)) (λ r h. line_spoken (content whole) r h) is room
      each false is room = (refl, st)

all_go : (config : Config) (many : ℕ) (whole : List (List ℕ)) (m : Machine) (w : PlainDesk) → Standing config m w → AllByRecursion (λ line. is_plain_line line ≡ true) (take many whole) →
    AllByRecursion HasRoom (take many (answers_all whole w).0) → take many (answers_all whole w).0 ≡ machine_answers (take many whole) m
all_go config zero [] m w st are room = refl
all_go config zero (line ∷ whole) m w st are room = refl
all_go config (suc many) [] m w st are room = refl
all_go config (suc many) (line ∷ whole) m w st are room =
    let one = line_goes config m w st line are.0 room.0 in
    ap (λ text. text ∷ take many (answers_all whole (answers_line line w).1).0) one.0
    ∙ ap (λ texts. answer_text (comes (asked_in line) m).0 ∷ texts) (all_go config many whole (comes (asked_in line) m).1 (answers_line line w).1 one.1 are.1 room.1)

pub scripts_are_plain : {D : Type 0} (seen : D → List ℕ) (failures : D → ℕ) (config : Config) (disks : D × D) → ScriptsArePlain seen failures config disks
scripts_are_plain seen failures config disks input old new s well many are room =
    let is = (script_is_answered seen failures config disks well.empty.0 well.empty.1 input old new s well).0 in
    ap (take many) is ∙ all_go config many (lines_of input) new_machine (begins config) (begins_standing config) are (subst (λ texts. AllByRecursion HasRoom (take many texts)) is room)
