-- What the master answers to a change of the tree that is new to it, and what it leaves, where a machine shows what it stands on: refusals too. And how lines are explained that ask for such changes.
use Rattle.std.specs.Prelude.{[], ◌==◌, ◌∷◌, ◌≡◌, ◌⊎◌, ◌||◌, Bool, Err, List, Ok, Option, Result, Some, codes, false, is_ok, nat_le, not, refl, true, ℕ}
use Rattle.std.proofs.Common.{ap, arith, inl, inr}
use Rattle.std.specs.Char.{encode_utf8}
use Rattle.std.specs.Fmt.{digits}
use Rattle.std.specs.Str.{chars, is_utf8}
use Rattle.gs_base.specs.declared.config.Config.{Config}
use Rattle.gs_base.specs.declared.numbers.Moment.{Moment}
use Rattle.gs_base.specs.declared.numbers.ReqId.{ReqId}
use Rattle.gs_base.specs.Refusals.{number_of, refusal_text}
use Rattle.gs_base.specs.declared.refusal.Refusal.{Refusal}
use Rattle.gs_base.specs.declared.refusal.Refusal.TheVariants as refusals
use Rattle.gs_client.specs.Replies.{changed}
use Rattle.gs_client.specs.declared.link.Reply.{Reply}
use Rattle.gs_laws_moves.specs.answers.Changes.{Changes, edit_for, is_change}
use Rattle.gs_laws_world.specs.steady.Asking.{MayBeAsked}
use Rattle.gs_master_spec.specs.Durable.{Durable}
use Rattle.gs_master_spec.specs.Handling.{new_call}
use Rattle.gs_master_spec.specs.State.{State}
use Rattle.gs_msg.specs.declared.answer.Answer.{Answer as Said}
use Rattle.gs_msg.specs.declared.call.Call.{Call}
use Rattle.gs_msg.specs.declared.event.Request.TheVariants as requests
use Rattle.gs_path.specs.Rules.{parse, parse_hidden}
use Rattle.gs_shell_desk.specs.Answering.{AnswersText}
use Rattle.gs_shell_desk.specs.declared.desk.Desk.{Desk}
use Rattle.gs_shell_grammar.specs.Grammar.{Request, four_words, one_word, read_line, three_words, two_words}
use Rattle.gs_shell_grammar.specs.Grammar as lines
use Rattle.gs_shell_script.specs.Run.{Runs}
use Rattle.gs_laws_scripts.specs.explained.Asking.{Replies}
use Rattle.gs_laws_scripts.specs.explained.Lines.{Asks, AsksNow, Explains, is_of_store, overtaken}
use Rattle.gs_laws_scripts.specs.explained.Looked.{LooksUp}
use Rattle.gs_laws_scripts.specs.explained.Machine.{Machine}
use Rattle.gs_laws_scripts.specs.explained.Standing.{IsStillLine, ShowsNames, Stands}
use Rattle.gs_laws_scripts.specs.plain.Machines.{asked_in}

-- An accepted change is done as the machine does it, and the machine shows what the master has then, at the moment that it had. A refused one is refused as the machine refuses it, or by the store, and the machine is as it was.
abbrev pub IsChangeTold : Durable → Call → Machine → Result Said Refusal → Type 0
IsChangeTold after call m (Ok said) = (new : Machine) × AsksNow call m (Ok said) new × ShowsNames after new × (new.moment ≡ m.moment)
IsChangeTold after call m (Err refusal) = AsksNow call m (Err refusal) m

-- ---- what is to hold

-- So it is of a new directory, a new file, a rename, a deletion and an undelete, at the moment of the machine. Where one is accepted, it leaves the names of its edit.
abbrev pub ChangesAreTold : Type 0
ChangesAreTold = (config : Config) (s : State) (req : ReqId) (moment : Moment) (m : Machine) (call : Call) (result : Result Said Refusal) → ShowsNames s.durable m → m.moment ≡ moment.0 → is_change call ≡ true → Replies config s req moment call result →
    ((said : Said) → result ≡ Ok said → Changes s req (edit_for s.durable moment call) (new_call config s req moment call)) → IsChangeTold (new_call config s req moment call).after.durable call m result

-- What came of a change is known: nobody is unsure of it.
abbrev pub IsOver : Result Said Refusal → Type 0
IsOver result = result ≡ Err refusals.Unsure → ⊥

-- Such a change that a desk carries for its client, and that is over, is done as the machine does it, or the store refuses it. After it the desk stands for the machine, with its late calls overtaken where it is accepted.
abbrev pub ChangesAreExplainedThere : Type 0 → Type 0
ChangesAreExplainedThere D = (seen : D → List ℕ) (failures : D → ℕ) (config : Config) (size : ℕ) (old new : Desk D) (m : Machine) (call : Call) (reply : Reply) → Stands seen config old m → is_change call ≡ true → MayBeAsked (requests.Call call) →
    LooksUp seen failures old call reply new → IsOver (changed reply) → (mid : Machine) × Asks size call m (changed reply) mid × Stands seen config new (overtaken call (changed reply, mid))

-- ---- lines

-- one that asks for such a change
abbrev pub is_change_line : Option Request → Bool
is_change_line (Some (lines.Mkdir p)) = true
is_change_line (Some (lines.Create p)) = true
is_change_line (Some (lines.Mv p q)) = true
is_change_line (Some (lines.Rm p recursive)) = true
is_change_line (Some (lines.Undelete p)) = true
is_change_line asked = false

-- The answer tells what came of the line: it isn't that nobody is sure (29), or that memory is wanting (33).
pub record IsSure (text : List ℕ) : Type 0 where
  pub sure : text ≡ refusal_text refusals.Unsure → ⊥
  pub told : text ≡ refusal_text refusals.Memory → ⊥

-- a line about a path, or about two, of which one is none: nothing is asked for it
abbrev pub names_no_path : Option Request → Bool
names_no_path (Some (lines.Stat p)) = not (is_ok (parse_hidden p))
names_no_path (Some (lines.Read p offset many)) = not (is_ok (parse_hidden p))
names_no_path (Some (lines.Digest p chunk block)) = not (is_ok (parse_hidden p))
names_no_path (Some (lines.Write p offset bytes)) = not (is_ok (parse p))
names_no_path (Some (lines.Append p bytes)) = not (is_ok (parse p))
names_no_path (Some (lines.Rm p recursive)) = not (is_ok (parse p))
names_no_path (Some (lines.Snapshot p q)) = not (is_ok (parse p)) || not (is_ok (parse q))
names_no_path asked = false

-- one that asks what stands at a path, or reads of a file
abbrev pub is_look_line : Option Request → Bool
is_look_line (Some (lines.Stat p)) = true
is_look_line (Some (lines.Read p offset many)) = true
is_look_line (Some (lines.Digest p chunk block)) = true
is_look_line asked = false

-- by what the tree refuses by (1 to 9, and 38), or the store, or since nobody is sure (29)
abbrev pub may_refuse_look : ℕ → Bool
may_refuse_look n = (nat_le n 9 || (n == 38)) || ((n == 29) || is_of_store n)

-- the answer tells that it is refused so
abbrev pub TellsRefusal : List ℕ → Type 0
TellsRefusal text = (refusal : Refusal) × (may_refuse_look (number_of refusal) ≡ true) × (text ≡ refusal_text refusal)

-- One that leaves what stands; or a line that asks for a change, accepted or refused, whose answer tells what came of it; or a line about a path that is none, whatever it is answered; or one that looks at a path, and is refused by the tree, by the store, or since nobody is sure.
abbrev pub IsCalmLine : List ℕ → List ℕ → Type 0
IsCalmLine whole text = IsStillLine whole text ⊎ (((is_change_line (asked_in whole) ≡ true) × IsSure text) ⊎ ((names_no_path (asked_in whole) ≡ true) ⊎ ((is_look_line (asked_in whole) ≡ true) × TellsRefusal text)))

-- all lines, with their answers
abbrev pub AreCalmLines : List (List ℕ) → List (List ℕ) → Type 0
AreCalmLines (whole ∷ all) (text ∷ texts) = IsCalmLine whole text × AreCalmLines all texts
AreCalmLines all texts = Unit {0}

-- Such lines are explained from each machine for which the desk stands, and after them it stands for the machine to which they lead.
abbrev pub CalmLinesAreExplained : Type 0 → Type 0
CalmLinesAreExplained D = (seen : D → List ℕ) (failures : D → ℕ) (config : Config) (size block : ℕ) (old new : Desk D) (all texts : List (List ℕ)) (m : Machine) → Stands seen config old m → AreCalmLines all texts →
    Runs (AnswersText seen failures) old all texts new → (end : Machine) × Runs (Explains size block) m all texts end × Stands seen config new end

-- ---- Worked: a directory is made, and made again; it is moved, and a move of what isn't there is refused; no bytes of it are read; it is removed, and nothing is there to be removed or looked at then; a look at what is no path is refused
pub an_answer_is_sure : IsSure (codes "ok")
unfolding digits
an_answer_is_sure = record { sure = λ is. absurd (cc); told = λ is. absurd (cc) }

pub a_refusal_is_sure : IsSure (codes "refused 4 Exists")
unfolding digits
a_refusal_is_sure = record { sure = λ is. absurd (cc); told = λ is. absurd (cc) }

what_is_not_there_is_sure : IsSure (codes "refused 3 NotFound")
unfolding digits
what_is_not_there_is_sure = record { sure = λ is. absurd (cc); told = λ is. absurd (cc) }

-- of texts that are accepted
abbrev first_letter : List ℕ → ℕ
first_letter [] = 0
first_letter (letter ∷ letters) = letter

an_accepted_one_is_sure : (rest : List ℕ) → IsSure (111 ∷ rest)
unfolding digits
an_accepted_one_is_sure rest = record { sure = λ is. another (ap first_letter is); told = λ is. another (ap first_letter is) }
  where
    another : ◌≡◌ {A = ℕ} 111 114 → ⊥
    another is = omega (arith, is)

a_hidden_path_is_sure : IsSure (codes "ok /.deleted.00000000000000000000.00000000000000000001.e")
a_hidden_path_is_sure = an_accepted_one_is_sure _

what_is_missing_is_sure : IsSure (codes "ok false")
what_is_missing_is_sure = an_accepted_one_is_sure _

nobody_is_sure : IsSure (codes "refused 29 Unsure") → ⊥
unfolding digits
nobody_is_sure text = text.sure refl

abbrev some_lines : List (List ℕ)
some_lines = codes "mkdir /d" ∷ codes "mkdir /d" ∷ codes "ls /" ∷ codes "mv /d /e" ∷ codes "mv /d /f" ∷ codes "read /e 0 4" ∷ codes "rm /e" ∷ codes "rm -r /e" ∷ codes "stat /e" ∷ codes "stat f" ∷ []

abbrev some_texts : List (List ℕ)
some_texts = codes "ok" ∷ codes "refused 4 Exists" ∷ codes "ok d/" ∷ codes "ok" ∷ codes "refused 3 NotFound" ∷ codes "refused 6 IsADirectory" ∷ codes "ok /.deleted.00000000000000000000.00000000000000000001.e" ∷ codes "ok false" ∷ codes "refused 3 NotFound" ∷ codes "refused 1 BadPath" ∷ []

no_directory_is_read : TellsRefusal (codes "refused 6 IsADirectory")
unfolding digits
no_directory_is_read = (refusals.IsADirectory, refl, refl)

nothing_is_there : TellsRefusal (codes "refused 3 NotFound")
unfolding digits
nothing_is_there = (refusals.NotFound, refl, refl)

some_lines_are_such : AreCalmLines some_lines some_texts
unfolding one_word two_words three_words four_words read_line is_utf8 chars encode_utf8
some_lines_are_such = (
  inr (inl (refl, an_answer_is_sure)),
  (
    inr (inl (refl, a_refusal_is_sure)),
    (
      inl (refl, λ stat. absurd (cc)),
      (inr (inl (refl, an_answer_is_sure)), (inr (inl (refl, what_is_not_there_is_sure)), (inr (inr (inr (refl, no_directory_is_read))), (inr (inl (refl, a_hidden_path_is_sure)), (inr (inl (refl, what_is_missing_is_sure)), (inr (inr (inr (refl, nothing_is_there))), (inr (inr (inl refl)), tt))))))),
    ),
  ),
)
