-- The command is a simple one, and what is shown for a fault of its words.
use Rattle.std.proofs.Common.{◌≡◌, ◌≢◌, ◌⊎◌, ◌∷◌, [], true, refl, sym, subst, ◌∙◌, inl, inr}
use Rattle.clap.specs.Simple.{is_simple}
use Rattle.clap.specs.Faults.{is_simple_and_free}
use Rattle.clap.specs.Kinds.{IsAmong, Kinds}
use Rattle.clap.specs.declared.error.kind.ErrorKind.{ErrorKind}
use Rattle.clap.specs.declared.error.kind.ErrorKind.TheVariants as kind
use Rattle.clap.proofs.OnLiterals.{clap_on_literals}
use Rattle.gs_keep_options.specs.Words.{app, looking_app, mode_app, sized_app}

pub simple : is_simple app ≡ true
unfolding app mode_app looking_app sized_app clap_on_literals
simple = refl

pub free : is_simple_and_free app ≡ true
unfolding app mode_app looking_app sized_app clap_on_literals
free = refl

pub none_alone : (fault : Kinds) (one : ErrorKind) → fault ≡ [] → fault ≡ one ∷ [] → ⊥
none_alone fault one none some = absurd (cc)

pub help_is_other : kind.DisplayHelp ≢ kind.OutOfMemory
help_is_other same = absurd (cc)

pub version_is_other : kind.DisplayVersion ≢ kind.OutOfMemory
version_is_other same = absurd (cc)

-- a kind that an error has is one of those of its fault, unless memory ran out
pub is_among : (found wanted : ErrorKind) (fault : Kinds) → found ≡ wanted → wanted ≢ kind.OutOfMemory → (found ≡ kind.OutOfMemory) ⊎ IsAmong found fault → IsAmong wanted fault
is_among found wanted fault is other (inl memory) = absurd (other (sym is ∙ memory))
is_among found wanted fault is other (inr among) = subst (λ k. IsAmong k fault) is among

is_alone : (found one : ErrorKind) → (found ≢ one) → (found ≡ one) ⊎ ⊥ → ⊥
is_alone found one other (inl is) = other is
is_alone found one other (inr never) = never

-- an error of another kind isn't that of a fault of one kind
pub not_alone : (found one : ErrorKind) (fault : Kinds) → found ≢ kind.OutOfMemory → found ≢ one → (found ≡ kind.OutOfMemory) ⊎ IsAmong found fault → fault ≡ one ∷ [] → ⊥
not_alone found one fault not_memory other (inl memory) alone = not_memory memory
not_alone found one fault not_memory other (inr among) alone = is_alone found one other (subst (IsAmong found) alone among)
