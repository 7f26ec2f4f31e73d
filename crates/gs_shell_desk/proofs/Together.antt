-- Messages that are sent where none is held back.
use Rattle.std.proofs.Common.{◌≡◌, ◌∙◌, ◌∷◌, ◌++◌, false, List, [], None, append-nil, append_assoc, ap, inl, refl, subst, sym}
use Rattle.std.specs.Prelude.{fold}
use Rattle.gs_msg.specs.Bodies.{kind_of}
use Rattle.gs_msg.specs.declared.message.Message.{Message}
use Rattle.gs_shell_desk.proofs.Delivering.{puts_on}
use Rattle.gs_shell_desk.specs.Ways.{SendsAll, Way, counted, is_held, with_queue}

-- each of them is counted
abbrev pub counted_all : {D : Type 0} → List Message → Way D → Way D
counted_all messages w = fold (λ way message. counted message way) w messages

-- whatever is under way
counted_behind : {D : Type 0} (messages queue : List Message) (w : Way D) → counted_all messages (with_queue queue w) ≡ with_queue queue (counted_all messages w)
counted_behind [] queue w = refl
counted_behind (message ∷ messages) queue w = counted_behind messages queue (counted message w)

module _ {D : Type 0} (message : Message) (messages : List Message) (old : Way D) where
  abbrev one : List Message
  one = old.queue ++ message ∷ []

  -- the first is under way
  abbrev first : Way D
  first = with_queue one (counted message old)

  -- and the others behind it
  behind : with_queue (one ++ messages) (counted_all messages first) ≡ with_queue (old.queue ++ message ∷ messages) (counted_all (message ∷ messages) old)
  behind =
      ap (with_queue (one ++ messages)) (counted_behind messages one (counted message old))
      ∙ ap (λ queue. with_queue queue (counted_all (message ∷ messages) old)) (append_assoc old.queue (message ∷ []) messages)

-- all are under way then
pub sends_together : {D : Type 0} (messages : List Message) (old : Way D) → old.kind ≡ None → SendsAll messages old (with_queue (old.queue ++ messages) (counted_all messages old))
sends_together [] old none = ap (λ queue. with_queue queue old) (append-nil old.queue)
sends_together (message ∷ messages) old none = (
  first message messages old,
  inl (puts_on message (counted message old) (old.queue ++ message ∷ []) (subst (λ kind. is_held kind (kind_of message.body) ≡ false) (sym none) refl) refl),
  subst (SendsAll messages (first message messages old)) (behind message messages old) (sends_together messages (first message messages old) none),
)
