-- What holds of each edit of a list by those before it stays.
use Rattle.std.proofs.Common.{◌≡◌, ◌∙◌, ◌+◌, ◌<◌, ◌++◌, ⊎_elim, inl, inr, ℕ, List, [], ◌∷◌, Option, Some, length, take, sym, ap, subst, arith}
use Rattle.std.specs.Prelude.{slice_get}
use Rattle.std.proofs.lemmas.List.{take_all, take-take, take-append-le}
use Rattle.std.proofs.lemmas.Option.{slice_get_within}
use Rattle.gs_replica.specs.Stands.{Edit}
use Rattle.gs_laws_chunk.specs.machine.Machine.{ChunkWorld}
use Rattle.gs_laws_chunk.specs.machine.Events.{Rests, Goes, happens}
use Rattle.gs_laws_chunk.specs.machine.Laws.{Birth}
use Rattle.gs_laws_chunk.specs.machine.Owning.{AddsOwn, BeginningsOwn, BornOwn, IsOwnList, MastersOwn, ServersOwn}
use Rattle.gs_laws_chunk.proofs.lemmas.machine.Lists.{at_push, take_at, take_from, take_within}
use Rattle.gs_laws_chunk.proofs.lemmas.machine.Origins.{masters_lists_old}

module _ (Own : List Edit → Edit → Type 0) where
  -- a list that has the first edits of one of which it holds
  of_first : (xs ys : List Edit) (many fewer place : ℕ) (edit : Edit) → take many xs ≡ take fewer ys → IsOwnList Own ys → place < many → slice_get xs place ≡ Some edit → Own (take place xs) edit
  of_first xs ys many fewer place edit same own within at =
      let there : slice_get (take fewer ys) place ≡ Some edit = subst (λ zs. slice_get zs place ≡ Some edit) same (take_at xs many place edit within at) in
      let inside : place < fewer = take_within ys fewer place edit there in
      let before : take place xs ≡ take place ys = sym (take-take place many xs (omega arith)) ∙ ap (take place) same ∙ take-take place fewer ys (omega arith) in
      subst (λ zs. Own zs edit) (sym before) (own place edit (take_from ys fewer place edit there))

  pub beginnings_own : BeginningsOwn Own
  beginnings_own many edits own place edit at =
      let within = take_within edits many place edit at in
      of_first (take many edits) edits (place + 1) (place + 1) place edit (take-take (place + 1) many edits (omega arith)) own (omega arith) at

  pub born_own : (b : Birth) → BornOwn Own b
  born_own b own t = own

  pub masters_own : (w v : ChunkWorld) → MastersOwn Own w v
  masters_own w v Rests of own = own
  masters_own w v (Goes u e before can) of own = λ t place edit at.
      let old = masters_lists_old u e of.1 t (place + 1) in
      of_first ((happens u e).known.list t) (u.known.list old.0) (place + 1) old.1 place edit old.2 (masters_own w u before of.0 own old.0) (omega arith) at

  -- an edit more
  adds_own : (old new : List Edit) → AddsOwn Own old new → IsOwnList Own old → IsOwnList Own new
  adds_own old new (inl same) own = subst (IsOwnList Own) (sym same) own
  adds_own old new (inr (more, is, now)) own = subst (IsOwnList Own) (sym is) (λ place edit at. ⊎_elim
      (λ (was : slice_get old place ≡ Some edit).
      let within = slice_get_within old place edit was in
      subst (λ zs. Own zs edit) (sym (take-append-le place old (more ∷ []) (omega arith))) (own place edit was))
      (λ last.
      let whole : take place (old ++ more ∷ []) ≡ old = ap (λ n. take n (old ++ more ∷ [])) last.0 ∙ take-append-le (length old) old (more ∷ []) (omega arith) ∙ take_all (length old) old (omega arith) in
      subst (λ (e : Edit). Own (take place (old ++ more ∷ [])) e) last.1 (subst (λ zs. Own zs more) (sym whole) now))
      (at_push old more place edit at))

  pub servers_own : (w v : ChunkWorld) → ServersOwn Own w v
  servers_own w v adds own t = adds_own (w.known.list t) (v.known.list t) (adds t) (own t)
