-- Kinds and their names, each way.
use Rattle.std.proofs.Common.{◌≡◌, ℕ, Bool, true, false, List, [], ◌∷◌, Option, Some, cond, refl}
use Rattle.std.specs.List.{find}
use Rattle.std.specs.Prelude.{bytes_eq}
use Rattle.std.proofs.lemmas.Slice.Eq.{bytes_eq-Decides}
use Rattle.gs_msg.specs.declared.kind.Kind.{Kind}
use Rattle.gs_msg.specs.declared.kind.Kind.TheVariants as kinds
use Rattle.gs_msg.specs.Kinds.{name_of, named, all_kinds}

pub own_name : (kind : Kind) → named (name_of kind) ≡ Some kind
own_name kinds.Call = refl
own_name kinds.Reply = refl
own_name kinds.Create = refl
own_name kinds.Advance = refl
own_name kinds.Promised = refl
own_name kinds.Unpromised = refl
own_name kinds.Grant = refl
own_name kinds.Renew = refl
own_name kinds.Renewed = refl
own_name kinds.Push = refl
own_name kinds.Edit = refl
own_name kinds.Forward = refl
own_name kinds.Ack = refl
own_name kinds.Nack = refl
own_name kinds.Done = refl
own_name kinds.Fetch = refl
own_name kinds.Bytes = refl
own_name kinds.CopyOut = refl
own_name kinds.CopyIn = refl
own_name kinds.MakeCopy = refl
own_name kinds.Report = refl
own_name kinds.Drop = refl
own_name kinds.Bad = refl
own_name kinds.Epoch = refl
own_name kinds.Learned = refl
own_name kinds.Behind = refl

-- what is found passes the test
first_or_later : {A : Type 0} (p : A → Bool) (y x : A) (rest : Option A) (b : Bool) → p y ≡ b → (rest ≡ Some x → p x ≡ true) → cond b (Some y) rest ≡ Some x → p x ≡ true
first_or_later p y x rest true e later h = let e1 = e in let h1 = h in cc
first_or_later p y x rest false e later h = later h

found : {A : Type 0} (p : A → Bool) (xs : List A) (x : A) → find p xs ≡ Some x → p x ≡ true
found p [] x h = let h1 = h in cc
found p (y ∷ ys) x h = first_or_later p y x (find p ys) (p y) refl (found p ys x) h

pub its_name : (word : List ℕ) (kind : Kind) → named word ≡ Some kind → name_of kind ≡ word
its_name word kind h = (bytes_eq-Decides (name_of kind) word).0 (found (λ k. bytes_eq (name_of k) word) all_kinds kind h)
