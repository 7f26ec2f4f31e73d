-- Items that go from one list into another, one after the other.
use Rattle.std.proofs.Common.{◌≡◌, ◌∙◌, ◌++◌, List, [], ◌∷◌, map, length, sym, ap, subst}
use Rattle.std.specs.Prelude.{All}
use Rattle.std.proofs.lemmas.List.{append-nil, append_assoc, map-append, nil_from_length}
use Rattle.std.proofs.lemmas.List.Elements.{All-append, All-cons, All-nil}

-- Of all items some are left, and each that has gone is the part of what it has become, of which this holds.
pub record Going {X Y : Type 0} (part : Y → X) (P : Y → Type 0) (all left : List X) (gone : List Y) : Type 0 where
  pub whole : map part gone ++ left ≡ all
  pub each : All P gone

pub none_gone : {X Y : Type 0} (part : Y → X) (P : Y → Type 0) (all left : List X) (gone : List Y) → left ≡ all → gone ≡ [] → Going part P all left gone
none_gone {X} {Y} part P all left gone same none = record {
  whole = ap (λ (l : List Y). map part l ++ left) none ∙ same;
  each = subst (λ (l : List Y). All P l) (sym none) (All-nil P);
}

pub one_gone : {X Y : Type 0} (part : Y → X) (P : Y → Type 0) (all left rest : List X) (x : X) (gone new : List Y) (y : Y) → Going part P all left gone → left ≡ x ∷ rest → part y ≡ x → P y → new ≡ gone ++ y ∷ []
    → Going part P all rest new
one_gone {X} {Y} part P all left rest x gone new y g first is holds put = record {
  whole = ap (λ (l : List Y). map part l ++ rest) put ∙ ap (λ (l : List X). l ++ rest) (map-append part gone (y ∷ [])) ∙ append_assoc (map part gone) (part y ∷ []) rest
      ∙ ap (λ (z : X). map part gone ++ z ∷ rest) is ∙ ap (λ (l : List X). map part gone ++ l) (sym first) ∙ g.whole;
  each = subst (λ (l : List Y). All P l) (sym put) (All-append P gone (y ∷ []) g.each (All-cons P y [] holds (All-nil P)));
}

pub all_gone : {X Y : Type 0} (part : Y → X) (P : Y → Type 0) (all left : List X) (gone : List Y) → Going part P all left gone → length left ≡ 0 → map part gone ≡ all
all_gone {X} {Y} part P all left gone g none = sym (append-nil (map part gone)) ∙ ap (λ (l : List X). map part gone ++ l) (sym (nil_from_length left none)) ∙ g.whole

-- Of all items some are left, and the parts of the others are taken.
pub none_taken : {X Y : Type 0} (part : Y → X) (all left : List Y) (taken : List X) → left ≡ all → taken ≡ [] → taken ++ map part left ≡ map part all
none_taken {X} {Y} part all left taken same none = ap (λ (l : List X). l ++ map part left) none ∙ ap (λ (l : List Y). map part l) same

pub one_taken : {X Y : Type 0} (part : Y → X) (left rest : List Y) (y : Y) (whole taken new : List X) (x : X) → taken ++ map part left ≡ whole → left ≡ y ∷ rest → part y ≡ x → new ≡ taken ++ x ∷ []
    → new ++ map part rest ≡ whole
one_taken {X} {Y} part left rest y whole taken new x before first is put =
    ap (λ (l : List X). l ++ map part rest) put ∙ append_assoc taken (x ∷ []) (map part rest) ∙ ap (λ (z : X). taken ++ z ∷ map part rest) (sym is)
    ∙ ap (λ (l : List Y). taken ++ map part l) (sym first) ∙ before

pub all_taken : {X Y : Type 0} (part : Y → X) (left : List Y) (whole taken : List X) → taken ++ map part left ≡ whole → length left ≡ 0 → taken ≡ whole
all_taken {X} {Y} part left whole taken before none = sym (append-nil taken) ∙ ap (λ (l : List Y). taken ++ map part l) (sym (nil_from_length left none)) ∙ before
