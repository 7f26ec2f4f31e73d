-- What is sent where memory isn't wanting, and that neither that nor the nodes are forgotten.
use Rattle.std.proofs.Common.{◌≡◌, ◌∙◌, Bool, true, false, List, [], ◌∷◌, if◌then◌else◌, Option, Some, None, Result, Ok, Err, refl, sym, ap, subst, inl, inr}
use Rattle.std.proofs.lemmas.Bool.{false≢true}
use Rattle.gs_base.specs.declared.refusal.Refusal.{Refusal}
use Rattle.gs_base.specs.declared.refusal.Refusal.TheVariants as refusals
use Rattle.gs_shell_desk.specs.Ways.{Ends, Sends, SendsAll, Way, counted, held_back, is_held, noted, shortened, shortened_by, under_way}
use Rattle.gs_master.specs.declared.turn.Turn.{Turn as Told}
use Rattle.gs_msg.specs.Bodies.{kind_of}
use Rattle.gs_msg.specs.declared.message.Message.{Message}
use Rattle.gs_master_spec.specs.State.{State}
use Rattle.gs_nodes.specs.Happenings.{met_by}
use Rattle.gs_laws_scripts.specs.answers.Meeting.{plain_of}
use Rattle.gs_laws_scripts.specs.answers.Plain as plain

-- what is so in the end only if it was before
pub not_before : (before after : Bool) → (before ≡ true → after ≡ true) → after ≡ false → before ≡ false
not_before false after keeps none = refl
not_before true after keeps none = sym (keeps refl) ∙ none

-- the nodes and the moment of a way are as they were, and it isn't forgotten that memory was wanting
pub record StaysAt {D : Type 0} (old new : Way D) : Type 0 where
  pub nodes : new.nodes ≡ old.nodes
  pub moment : new.moment ≡ old.moment
  pub short : old.is_short ≡ true → new.is_short ≡ true

pub stays : {D : Type 0} (w : Way D) → StaysAt w w
stays w = record { nodes = refl; moment = refl; short = λ short. short }

stays_then : {D : Type 0} (old mid new : Way D) → StaysAt old mid → StaysAt mid new → StaysAt old new
stays_then old mid new first second = record { nodes = second.nodes ∙ first.nodes; moment = second.moment ∙ first.moment; short = λ short. second.short (first.short short) }

pub same_stays : {D : Type 0} (old mid new : Way D) → StaysAt old mid → new ≡ mid → StaysAt old new
same_stays {D} old mid new s same =
    record { nodes = ap (λ (w : Way D). w.nodes) same ∙ s.nodes; moment = ap (λ (w : Way D). w.moment) same ∙ s.moment; short = λ short. ap (λ (w : Way D). w.is_short) same ∙ s.short short }

-- a turn that doesn't say that memory was wanting
abbrev pub SaysEnough : Result Told Refusal → Type 0
SaysEnough (Ok turn) = turn.said ≡ Some refusals.Memory → ⊥
SaysEnough (Err refusal) = Unit {0}

-- ---- one message

module _ {D : Type 0} where
  either_stays : (c : Bool) (old a b : Way D) → StaysAt old a → StaysAt old b → StaysAt old (if c then a else b)
  either_stays true old a b first second = first
  either_stays false old a b first second = second

  plain_if : (s : State) (c : Bool) (a b : Way D) → plain_of s (if c then a else b) ≡ (if c then plain_of s a else plain_of s b)
  plain_if s true a b = refl
  plain_if s false a b = refl

  lost : (old new : Way D) → new ≡ shortened old → new.is_short ≡ false → ⊥
  lost old new same enough = false≢true (sym enough ∙ ap (λ (w : Way D). w.is_short) same)

  pub send_stays : (message : Message) (old new : Way D) → Sends message old new → StaysAt old new
  send_stays message old new (inl puts) =
      let w = counted message old in
      same_stays old (if is_held w.kind (kind_of message.body) then held_back message w else under_way message w) new
      (either_stays (is_held w.kind (kind_of message.body)) old (held_back message w) (under_way message w) (record { nodes = refl; moment = refl; short = λ short. short }) (record { nodes = refl; moment = refl; short = λ short. short })) puts
  send_stays message old new (inr short) = same_stays old (shortened (counted message old)) new (record { nodes = refl; moment = refl; short = λ _. refl }) short

  pub send_plain : (s : State) (message : Message) (old new : Way D) → Sends message old new → new.is_short ≡ false → plain_of s new ≡ plain.sends message (plain_of s old)
  send_plain s message old new (inl puts) enough =
      let w = counted message old in ap (plain_of s) puts ∙ plain_if s (is_held w.kind (kind_of message.body)) (held_back message w) (under_way message w)
  send_plain s message old new (inr short) enough = absurd (lost (counted message old) new short enough)

  -- ---- one after the other

  pub all_stays : (messages : List Message) (old new : Way D) → SendsAll messages old new → StaysAt old new
  all_stays [] old new same = same_stays old old new (stays old) same
  all_stays (message ∷ messages) old new (mid, first, others) = stays_then old mid new (send_stays message old mid first) (all_stays messages mid new others)

  pub was_enough : (old new : Way D) → (old.is_short ≡ true → new.is_short ≡ true) → new.is_short ≡ false → old.is_short ≡ false
  was_enough old new short enough = not_before old.is_short new.is_short short enough

  pub all_plain : (s : State) (messages : List Message) (old new : Way D) → SendsAll messages old new → new.is_short ≡ false → plain_of s new ≡ plain.sends_all messages (plain_of s old)
  all_plain s [] old new same enough = ap (plain_of s) same
  all_plain s (message ∷ messages) old new (mid, first, others) enough =
      all_plain s messages mid new others enough
      ∙ ap (plain.sends_all messages) (send_plain s message old mid first (was_enough mid new (all_stays messages mid new others).short enough))

  -- ---- an event's end

  pub shortened_stays : (refusal : Refusal) (old : Way D) → StaysAt old (shortened_by refusal old)
  shortened_stays refusals.Memory old = record { nodes = refl; moment = refl; short = λ _. refl }
  shortened_stays refusal old = record { nodes = refl; moment = refl; short = λ short. short }

  noted_stays : (said : Option Refusal) (old : Way D) → StaysAt old (noted said old)
  noted_stays None old = stays old
  noted_stays (Some refusal) old = shortened_stays refusal old

  pub end_stays : (turn : Result Told Refusal) (old : Way D) (result : Result (Unit {0}) Refusal) (new : Way D) → Ends turn old result new → StaysAt old new
  end_stays (Ok turn) old result new (mid, all, note, is) =
      same_stays old (noted turn.said mid) new (stays_then old mid (noted turn.said mid) (all_stays turn.sent.items old mid all) (noted_stays turn.said mid)) note
  end_stays (Err refusal) old result new (same, is) = same_stays old (shortened_by refusal old) new (shortened_stays refusal old) same

  -- an event for which memory was wanting leaves a way that is short of it
  pub wanting : (refusal : Refusal) (old new : Way D) → refusal ≡ refusals.Memory → new ≡ shortened_by refusal old → new.is_short ≡ false → ⊥
  wanting refusal old new memory same enough = lost old new (same ∙ ap (λ (r : Refusal). shortened_by r old) memory) enough

  -- without a want of memory nothing happened
  pub unshortened : (refusal : Refusal) (old new : Way D) → new ≡ shortened_by refusal old → new.is_short ≡ false → new ≡ old
  unshortened refusals.Memory old new same enough = absurd (lost old new same enough)
  unshortened refusal old new same enough = same

  unnoted : (said : Option Refusal) (old new : Way D) → new ≡ noted said old → new.is_short ≡ false → new ≡ old
  unnoted None old new same enough = same
  unnoted (Some refusal) old new same enough = unshortened refusal old new same enough

  -- so what was sent is all that became of a turn
  pub end_sends : (turn : Told) (old : Way D) (result : Result (Unit {0}) Refusal) (new : Way D) → Ends (Ok turn) old result new → new.is_short ≡ false → SendsAll turn.sent.items old new × (result ≡ met_by turn.said)
  end_sends turn old result new (mid, all, note, is) enough = (subst (λ w. SendsAll turn.sent.items old w) (sym (unnoted turn.said mid new note enough)) all, is)

  pub end_enough : (turn : Result Told Refusal) (old : Way D) (result : Result (Unit {0}) Refusal) (new : Way D) → Ends turn old result new → new.is_short ≡ false → SaysEnough turn
  end_enough (Ok turn) old result new (mid, all, note, is) enough = λ memory. lost mid new (note ∙ ap (λ (said : Option Refusal). noted said mid) memory) enough
  end_enough (Err refusal) old result new ends enough = tt
