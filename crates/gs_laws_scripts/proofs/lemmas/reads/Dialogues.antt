-- Which call is behind a line that is answered by what a file has, and what is said in it.
use Rattle.std.proofs.Common.{◌≡◌, inl, inr, ℕ, List, Option, Result, Ok, Err, refl, sym, subst}
use Rattle.gs_base.specs.declared.refusal.Refusal.{Refusal}
use Rattle.gs_base.specs.declared.refusal.Refusal.TheVariants as refusals
use Rattle.gs_laws_causes.proofs.Carrying.{went}
use Rattle.gs_laws_causes.specs.Carried.{Carried}
use Rattle.gs_client.specs.Trees.{Call}
use Rattle.gs_client.specs.declared.client.Client.{Client}
use Rattle.gs_client.specs.declared.link.Reply.{Reply}
use Rattle.gs_client_dialogue.specs.Dialogues.{Ask, Grow, Say}
use Rattle.gs_client_dialogue.specs.Heard.{Says}
use Rattle.gs_client_part.specs.declared.located.Located.{Located}
use Rattle.gs_msg.specs.declared.event.Request.{Request}
use Rattle.gs_path.specs.Path.{Path}
use Rattle.gs_path.specs.Rules.{parse_hidden}
use Rattle.gs_shell_calls.specs.Asked.{digest_of, given_bytes, given_digest, on, plain, read_of, with_file}
use Rattle.gs_shell_calls.specs.declared.answer.Answer.{Answer}
use Rattle.gs_shell_calls.specs.declared.answer.Answer.TheVariants as answers
use Rattle.gs_shell_desk.specs.Lines.{Comes}
use Rattle.gs_shell_desk.specs.declared.desk.Desk.{Desk}
use Rattle.gs_shell_desk.specs.declared.wire.Wire.{Wire}
use Rattle.gs_laws_scripts.proofs.lemmas.lists.Lines.{Carries_at}
use Rattle.gs_laws_looks.specs.reads.Read.{Reading, reading_call}
use Rattle.gs_laws_scripts.specs.reads.Lines.{Asks, Bytes, Digest, answer_of, line_of, reading_of}

-- requests with their replies
abbrev pub Pairs : Type 0
Pairs = List (Request × Reply)

never : {Z : Type 0} (refusal : Refusal) (answer : Answer) → ◌≡◌ {A = Result Answer Refusal} (Ok answer) (Err refusal) → Z
never refusal answer is = absurd cc

ok_is : {a b : Answer} → ◌≡◌ {A = Result Answer Refusal} (Ok a) (Ok b) → a ≡ b
ok_is is = cc

-- ---- what is said in a call

-- an answer is that of what a call came to
record SaysOf {A : Type 0} (call : Call A) (give : A → Answer) (pairs : Pairs) (answer : Answer) : Type 0 where
  found : A
  says : Says call pairs (Ok found)
  gives : answer ≡ give found

plain_says : {A : Type 0} (call : Call A) (give : A → Answer) (pairs : Pairs) (answer : Answer) → Says (plain call give) pairs (Ok answer) → SaysOf call give pairs answer
plain_says (Say (Ok x)) give pairs answer (is, none) = record { found = x; says = (refl, none); gives = ok_is is }
plain_says (Say (Err refusal)) give pairs answer (is, none) = never refusal answer is
plain_says (Ask asked more) give pairs answer (reply, rest, is, says) = (let s = plain_says (more reply) give rest answer says in record { found = s.found; says = (reply, rest, is, s.says); gives = s.gives })
plain_says (Grow call) give pairs answer (inl says) = (let s = plain_says call give pairs answer says in record { found = s.found; says = inl s.says; gives = s.gives })
plain_says (Grow call) give pairs answer (inr (is, none)) = never refusals.Memory answer is

-- a path was read, and a call on it came to this
record SaysOn {A : Type 0} (parsed : Result Path Refusal) (call : Path → Call A) (give : A → Answer) (pairs : Pairs) (answer : Answer) : Type 0 where
  path : Path
  is : parsed ≡ Ok path
  says : SaysOf (call path) give pairs answer

on_says : {A : Type 0} (parsed : Result Path Refusal) (call : Path → Call A) (give : A → Answer) (pairs : Pairs) (answer : Answer) → Says (on parsed call give) pairs (Ok answer) → SaysOn parsed call give pairs answer
on_says (Ok path) call give pairs answer (inl says) = record { path = path; is = refl; says = plain_says (call path) give pairs answer says }
on_says (Err refusal) call give pairs answer (inl (is, none)) = never refusal answer is
on_says parsed call give pairs answer (inr (is, none)) = never refusals.Memory answer is

-- ---- what a line reads

module _ {D : Type 0} (seen : D → List ℕ) (failures : D → ℕ) where
  -- a line reads this of a file by requests that are carried one after the other
  pub record LineReads (text : List ℕ) (reading : Reading) (old : Client × Wire D) (bytes : List ℕ) (new : Client × Wire D) : Type 0 where
    pub path : Path
    pub parsed : parse_hidden text ≡ Ok path
    pub located : Option Located
    pub pairs : Pairs
    pub says : Says (reading_call path reading) pairs (Ok (bytes, located))
    pub carried : Carried (Carries_at seen failures) old pairs new

  bytes_is : {a b : List ℕ} → answers.Bytes a ≡ answers.Bytes b → a ≡ b
  bytes_is is = cc

  digest_is : {a b : List ℕ} → answers.Digest a ≡ answers.Digest b → a ≡ b
  digest_is is = cc

  pub line_reads : (text : List ℕ) (asks : Asks) (old new : Desk D) (bytes : List ℕ) → Comes seen failures (line_of text asks) old (Ok (answer_of asks bytes)) new
      → LineReads text (reading_of old.caller.client.chunk asks) (old.caller.client, old.wire) bytes (new.caller.client, new.wire)
  unfolding Comes
  line_reads text (Bytes offset many) old new bytes comes =
      let size = old.caller.client.chunk in
      let w = went (Carries_at seen failures) (on (parse_hidden text) (with_file (read_of size offset many)) given_bytes) (old.caller.client, old.wire) (Ok (answers.Bytes bytes)) (new.caller.client, new.wire) comes in
      let s = on_says (parse_hidden text) (with_file (read_of size offset many)) given_bytes w.exchanges (answers.Bytes bytes) w.says in
      record {
        path = s.path;
        parsed = s.is;
        located = s.says.found.1;
        pairs = w.exchanges;
        says = subst (λ b. Says (with_file (read_of size offset many) s.path) w.exchanges (Ok (b, s.says.found.1))) (sym (bytes_is s.says.gives)) s.says.says;
        carried = w.carried;
      }
  line_reads text (Digest chunk block) old new bytes comes =
      let w = went (Carries_at seen failures) (on (parse_hidden text) (with_file (digest_of chunk block)) given_digest) (old.caller.client, old.wire) (Ok (answers.Digest bytes)) (new.caller.client, new.wire) comes in
      let s = on_says (parse_hidden text) (with_file (digest_of chunk block)) given_digest w.exchanges (answers.Digest bytes) w.says in
      record {
        path = s.path;
        parsed = s.is;
        located = s.says.found.1;
        pairs = w.exchanges;
        says = subst (λ b. Says (with_file (digest_of chunk block) s.path) w.exchanges (Ok (b, s.says.found.1))) (sym (digest_is s.says.gives)) s.says.says;
        carried = w.carried;
      }
