-- How lists, sets of servers, requests and ends of epochs stand in a line.
use Rattle.std.specs.Prelude.{◌≡◌, ◌++◌, ℕ, List, [], ◌∷◌, codes, decimal, refl}
use Rattle.std.specs.List.{flat_map}
use Rattle.gs_base.specs.declared.epoch.EpochEnd.{EpochEnd}
use Rattle.gs_base.specs.declared.epoch.EpochEnd.TheVariants as ends
use Rattle.gs_base.specs.declared.numbers.ReqId.{ReqId}

-- each item behind a comma
abbrev pub behind_commas : {A : Type 0} → (A → List ℕ) → List A → List ℕ
behind_commas text items = flat_map (λ x. codes "," ++ text x) items

-- items between commas, and a dash where there is none
abbrev pub list_text : {A : Type 0} → (A → List ℕ) → List A → List ℕ
list_text text [] = codes "-"
list_text text (x ∷ xs) = text x ++ behind_commas text xs

abbrev pub members_text : List ℕ → List ℕ
members_text members = list_text decimal members

-- the client as a node is named, a slash, the number
abbrev pub request_text : ReqId → List ℕ
request_text req = codes "C" ++ (decimal req.client.0 ++ (codes "/" ++ decimal req.number))

abbrev pub end_text : EpochEnd → List ℕ
end_text ends.Prepare = codes "prepare"
end_text ends.Finalize = codes "finalize"
end_text ends.Rollback = codes "rollback"

no_members : members_text [] ≡ codes "-"
no_members = refl

three_members : members_text (0 ∷ 1 ∷ 2 ∷ []) ≡ decimal 0 ++ (codes "," ++ decimal 1 ++ (codes "," ++ decimal 2 ++ []))
three_members = refl
