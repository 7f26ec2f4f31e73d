-- The client of a desk stays the same one, whatever lines come.
use Rattle.std.proofs.Common.{◌≡◌, ◌∙◌, ◌⊎◌, inl, inr, ℕ, List, [], ◌∷◌, ap}
use Rattle.gs_base.specs.declared.config.Config.{Config}
use Rattle.gs_laws_causes.specs.Carried.{Carried}
use Rattle.gs_client.specs.declared.client.Client.{Client}
use Rattle.gs_client.specs.declared.link.Reply.{Reply}
use Rattle.gs_client_dialogue.specs.Dialogues.{Ask, Dialogue, Grow, Say}
use Rattle.gs_msg.specs.declared.event.Request.{Request}
use Rattle.gs_shell_desk.specs.Answering.{AnswersText}
use Rattle.gs_shell_desk.specs.Ways.{Way}
use Rattle.gs_shell_desk.specs.declared.desk.Desk.{Desk}
use Rattle.gs_shell_desk.specs.declared.wire.Wire.{Wire}
use Rattle.gs_laws_scripts.proofs.lemmas.lists.Lines.{Carries_at, the_client}
use Rattle.gs_shell_script.specs.Run.{Runs}
use Rattle.gs_laws_scripts.proofs.lemmas.answers.PlainEnduring.{AllAsked, Endures}
use Rattle.gs_laws_scripts.proofs.lemmas.answers.PlainScripts as plain
use Rattle.gs_laws_scripts.specs.answers.Meeting.{IsClientOf}

-- anything may be asked
abbrev MayAny : Request → Type 0
MayAny asked = Unit {0}

all_asked : {Q R A : Type 0} (call : Dialogue Q R A) → AllAsked (λ (asked : Q). Unit {0}) call
all_asked (Say said) = tt
all_asked (Ask asked more) = (tt, λ reply. all_asked (more reply))
all_asked (Grow rest) = all_asked rest

module _ {D : Type 0} (seen : D → List ℕ) (failures : D → ℕ) (config : Config) where
  -- nothing is taken of the ways: none is good
  abbrev NoneGood : Way D → Type 0
  NoneGood w = ⊥

  endures : Endures seen failures the_client config.chunk MayAny NoneGood
  endures = record {
    good = λ w m stands good. absurd good;
    hears = λ message old before m stands good. absurd good;
    delivers = λ message old before said new good. absurd good;
    master_ticks = λ old new good. absurd good;
    server_ticks = λ id old new good. absurd good;
    asks = λ req request out nodes old new good. absurd good;
    takes = λ client old reply new good. absurd good;
    beats = λ id s old new good. absurd good;
    server_restarts = λ id old said nodes good. absurd good;
    loses = λ id handle old said nodes good. absurd good;
    damages = λ id handle block old said nodes good. absurd good;
    holds = λ kind old good. absurd good;
    calls = λ line request call reads asks. all_asked call;
    comes_at = λ line moment old good. absurd good;
  }

  -- behind lines
  pub lines_mine : (all texts : List (List ℕ)) (old new : Desk D) → Runs (AnswersText seen failures) old all texts new → IsClientOf config old.caller.client → IsClientOf config new.caller.client
  lines_mine all texts old new runs mine = plain.lines_mine seen failures the_client config.chunk MayAny NoneGood endures all texts old new runs mine

  -- behind a request
  pub still_mine : (old new : Client × Wire D) (request : Request) (reply : Reply) → IsClientOf config old.0 → Carries_at seen failures old request reply new → IsClientOf config new.0
  still_mine old new request reply mine (inl (below, is, carried)) = (ap (λ (c : Client). c.last.client) is ∙ mine.0, ap (λ (c : Client). c.chunk) is ∙ mine.1)
  still_mine old new request reply mine (inr (last, is, same)) = (ap (λ (s : Client × Wire D). s.0.last.client) same ∙ mine.0, ap (λ (s : Client × Wire D). s.0.chunk) same ∙ mine.1)

  pub exchanges_mine : (pairs : List (Request × Reply)) (old new : Client × Wire D) → IsClientOf config old.0 → Carried (Carries_at seen failures) old pairs new → IsClientOf config new.0
  exchanges_mine [] old new mine same = (ap (λ (s : Client × Wire D). s.0.last.client) same ∙ mine.0, ap (λ (s : Client × Wire D). s.0.chunk) same ∙ mine.1)
  exchanges_mine (pair ∷ pairs) old new mine (mid, one, rest) = exchanges_mine pairs mid new (still_mine old mid pair.0 pair.1 mine one) rest

  -- and behind what is begun before a commit, if something is
  pub begun_mine : (old mid : Client × Wire D) (begin : Request) → IsClientOf config old.0 → ((reply : Reply) × Carries_at seen failures old begin reply mid) ⊎ (mid ≡ old) → IsClientOf config mid.0
  begun_mine old mid begin mine (inl (reply, c)) = still_mine old mid begin reply mine c
  begun_mine old mid begin mine (inr same) = (ap (λ (s : Client × Wire D). s.0.last.client) same ∙ mine.0, ap (λ (s : Client × Wire D). s.0.chunk) same ∙ mine.1)
