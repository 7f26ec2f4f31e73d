-- The words of the kinds of messages.
use Rattle.std.specs.Prelude.{◌≡◌, ℕ, List, [], ◌∷◌, Option, Some, None, codes, bytes_eq, refl}
use Rattle.std.specs.List.{find}
use Rattle.gs_msg.specs.declared.kind.Kind.{Kind}
use Rattle.gs_msg.specs.declared.kind.Kind.TheVariants as kinds

abbrev pub name_of : Kind → List ℕ
name_of kinds.Call = codes "call"
name_of kinds.Reply = codes "reply"
name_of kinds.Create = codes "create"
name_of kinds.Advance = codes "advance"
name_of kinds.Promised = codes "promised"
name_of kinds.Unpromised = codes "unpromised"
name_of kinds.Grant = codes "grant"
name_of kinds.Renew = codes "renew"
name_of kinds.Renewed = codes "renewed"
name_of kinds.Push = codes "push"
name_of kinds.Edit = codes "edit"
name_of kinds.Forward = codes "forward"
name_of kinds.Ack = codes "ack"
name_of kinds.Nack = codes "nack"
name_of kinds.Done = codes "done"
name_of kinds.Fetch = codes "fetch"
name_of kinds.Bytes = codes "bytes"
name_of kinds.CopyOut = codes "copyout"
name_of kinds.CopyIn = codes "copyin"
name_of kinds.MakeCopy = codes "makecopy"
name_of kinds.Report = codes "report"
name_of kinds.Drop = codes "drop"
name_of kinds.Bad = codes "bad"
name_of kinds.Epoch = codes "epoch"
name_of kinds.Learned = codes "learned"
name_of kinds.Behind = codes "behind"

-- each kind once
abbrev pub all_kinds : List Kind
all_kinds = kinds.Call ∷ kinds.Reply ∷ kinds.Create ∷ kinds.Advance ∷ kinds.Promised ∷ kinds.Unpromised ∷ kinds.Grant ∷ kinds.Renew ∷ kinds.Renewed ∷ kinds.Push ∷ kinds.Edit ∷ kinds.Forward ∷ kinds.Ack ∷ kinds.Nack ∷ kinds.Done ∷ kinds.Fetch ∷ kinds.Bytes ∷ kinds.CopyOut ∷ kinds.CopyIn ∷ kinds.MakeCopy ∷ kinds.Report ∷ kinds.Drop ∷ kinds.Bad ∷ kinds.Epoch ∷ kinds.Learned ∷ kinds.Behind ∷ []

-- the kind of this name, if there is one
abbrev pub named : List ℕ → Option Kind
named word = find (λ kind. bytes_eq (name_of kind) word) all_kinds

two_words_alike : named (codes "renewed") ≡ Some kinds.Renewed
two_words_alike = refl

no_kind : named (codes "nothing") ≡ None
no_kind = refl
