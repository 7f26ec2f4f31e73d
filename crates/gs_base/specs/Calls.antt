-- What a call has to do with a definition.
use Rattle.std.specs.Prelude.{◌≡◌, ◌⊎◌, Option, Some, None, Result, Ok, Err}
use Rattle.gs_base.specs.declared.refusal.Refusal.{Refusal}
use Rattle.gs_base.specs.declared.refusal.Refusal.TheVariants.{Memory}
use Rattle.gs_base.specs.declared.refused.Refused.{Refused}

-- it does what the definition says, or it has no memory and changes nothing
abbrev pub Follows : {A B : Type 0} → Result A Refusal → Result B Refusal → A → A → Type 0
Follows (Ok a) (Ok b) old new = new ≡ a
Follows (Err e) (Ok b) old new = ⊥
Follows (Ok a) (Err f) old new = (f ≡ Memory) × (new ≡ old)
Follows (Err e) (Err f) old new = ((f ≡ e) ⊎ (f ≡ Memory)) × (new ≡ old)

-- it does what the definition says, and takes no memory
abbrev pub Does : {A B : Type 0} → Result A Refusal → Result B Refusal → A → A → Type 0
Does (Ok a) (Ok b) old new = new ≡ a
Does (Err e) (Ok b) old new = ⊥
Does (Ok a) (Err f) old new = ⊥
Does (Err e) (Err f) old new = (f ≡ e) × (new ≡ old)

-- it answers exactly what is refused
abbrev pub Judges : {B : Type 0} → Option Refusal → Result B Refusal → Type 0
Judges None (Ok b) = Unit {0}
Judges None (Err f) = ⊥
Judges (Some e) (Ok b) = ⊥
Judges (Some e) (Err f) = f ≡ e

-- it is refused exactly as the definition is
abbrev pub Foretells : {A B : Type 0} → Result A Refusal → Result B Refusal → Type 0
Foretells (Ok a) (Ok b) = Unit {0}
Foretells (Err e) (Ok b) = ⊥
Foretells (Ok a) (Err f) = ⊥
Foretells (Err e) (Err f) = f ≡ e

-- it answers what the definition says
abbrev pub Answers : {A B : Type 0} → (B → A) → Result A Refusal → Result B Refusal → Type 0
Answers view (Ok a) (Ok b) = view b ≡ a
Answers view (Err e) (Ok b) = ⊥
Answers view (Ok a) (Err f) = ⊥
Answers view (Err e) (Err f) = f ≡ e

-- it makes what the definition says, or it has no memory; a refusal is answered whatever memory there is
abbrev pub Makes : {A : Type 0} → Result A Refusal → Result A Refusal → Type 0
Makes (Ok a) (Ok b) = b ≡ a
Makes (Err e) (Ok b) = ⊥
Makes (Ok a) (Err f) = f ≡ Memory
Makes (Err e) (Err f) = f ≡ e

-- the same of what is seen in a view
abbrev pub Gives : {A B : Type 0} → (B → A) → Result A Refusal → Result B Refusal → Type 0
Gives view (Ok a) (Ok b) = view b ≡ a
Gives view (Err e) (Ok b) = ⊥
Gives view (Ok a) (Err f) = f ≡ Memory
Gives view (Err e) (Err f) = f ≡ e

-- a refusal is answered whatever memory there is
abbrev pub Refuses : {B : Type 0} → Option Refusal → Result B Refusal → Type 0
Refuses None result = Unit {0}
Refuses (Some e) (Ok b) = ⊥
Refuses (Some e) (Err f) = f ≡ e

-- it answers what the definition says, or hands back what it was given
abbrev pub HandsBack : {A G : Type 0} → G → Result A Refusal → Result A (Refused G) → Type 0
HandsBack given (Ok a) (Ok b) = b ≡ a
HandsBack given (Err e) (Ok b) = ⊥
HandsBack given (Ok a) (Err f) = ⊥
HandsBack given (Err e) (Err f) = (f.refusal ≡ e) × (f.given ≡ given)

-- it makes what the definition says, or hands back what it was given, also where it has no memory
abbrev pub MakesOf : {A G : Type 0} → G → Result A Refusal → Result A (Refused G) → Type 0
MakesOf given (Ok a) (Ok b) = b ≡ a
MakesOf given (Err e) (Ok b) = ⊥
MakesOf given (Ok a) (Err f) = (f.refusal ≡ Memory) × (f.given ≡ given)
MakesOf given (Err e) (Err f) = (f.refusal ≡ e) × (f.given ≡ given)

-- it does what the definition says, or it has no memory; a refused call changes nothing and hands back what it was given
abbrev pub FollowsOf : {A B G : Type 0} → G → Result A Refusal → Result B (Refused G) → A → A → Type 0
FollowsOf given (Ok a) (Ok b) old new = new ≡ a
FollowsOf given (Err e) (Ok b) old new = ⊥
FollowsOf given (Ok a) (Err f) old new = (f.refusal ≡ Memory) × (f.given ≡ given) × (new ≡ old)
FollowsOf given (Err e) (Err f) old new = (f.refusal ≡ e) × (f.given ≡ given) × (new ≡ old)
