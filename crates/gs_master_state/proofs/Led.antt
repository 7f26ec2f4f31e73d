-- That records lead on from one another, and what stands once the last of them are taken back.
use Rattle.std.proofs.Common.{◌≡◌, ◌∙◌, ◌≤◌, ℕ, suc, List, [], ◌∷◌, ◌++◌, length, take, refl, ap, subst, sym, arith, min, take-take, take_all, length-append, length-take}
use Rattle.std.specs.Prelude.{Some}
use Rattle.std.proofs.lemmas.List.{take_min}
use Rattle.gs_master_record.specs.Plain.{PlainEntry}
use Rattle.gs_master_spec.specs.Applied.{applied}
use Rattle.gs_master_spec.specs.Durable.{Durable}
use Rattle.gs_master_state.specs.inner.TakingBack.{Leads, TakesBack}
use Rattle.gs_master_state.specs.declared.undo.Undo.{Undo}

-- one more
pub leads_more : (es : List PlainEntry) (us : List Undo) (e : PlainEntry) (u : Undo) (before now next : Durable) → Leads es us before now → applied now e ≡ Some next → TakesBack u now next → Leads (es ++ e ∷ []) (us ++ u ∷ []) before next
leads_more [] [] e u before now next leads fit takes = (next, (subst (λ d. applied d e ≡ Some next) (sym leads) fit, (subst (λ d. TakesBack u d next) (sym leads) takes, refl)))
leads_more [] (v ∷ us) e u before now next leads fit takes = absurd leads
leads_more (x ∷ es) [] e u before now next leads fit takes = absurd leads
leads_more (x ∷ es) (v ∷ us) e u before now next leads fit takes =
    (leads.0, (leads.1.0, (leads.1.1.0, leads_more es us e u leads.0 now next leads.1.1.1 fit takes)))

-- each has what takes it back
pub leads_length : (es : List PlainEntry) (us : List Undo) (before now : Durable) → Leads es us before now → length es ≡ length us
leads_length [] [] before now leads = refl
leads_length [] (u ∷ us) before now leads = absurd leads
leads_length (e ∷ es) [] before now leads = absurd leads
leads_length (e ∷ es) (u ∷ us) before now leads = ap suc (leads_length es us leads.0 now leads.1.1.1)

pub all_lead : (es : List PlainEntry) (us : List Undo) (before now : Durable) → Leads es us before now → Leads (take (length us) es) us before now
all_lead es us before now leads =
    let same = leads_length es us before now leads in
    subst (λ xs. Leads xs us before now) (sym (take_all (length us) es (omega arith))) leads

pub leads_but_last : (es : List PlainEntry) (us : List Undo) (u : Undo) (before now : Durable) → Leads es (us ++ u ∷ []) before now → (between : Durable) × (Leads (take (length us) es) us before between × TakesBack u between now)
leads_but_last [] [] u before now leads = absurd leads
leads_but_last [] (v ∷ us) u before now leads = absurd leads
leads_but_last (e ∷ []) [] u before now leads = (before, (refl, subst (TakesBack u before) leads.1.1.1 leads.1.1.0))
leads_but_last (e ∷ x ∷ es) [] u before now leads = absurd leads.1.1.1
leads_but_last (e ∷ es) (v ∷ us) u before now leads =
    let rest = leads_but_last es us u leads.0 now leads.1.1.1 in (rest.0, ((leads.0, (leads.1.0, (leads.1.1.0, rest.1.0))), rest.1.1))

-- the last is taken back, and the others lead to what stands then
pub one_less : (es : List PlainEntry) (rest : List Undo) (last : Undo) (before now : Durable) → Leads (take (length (rest ++ last ∷ [])) es) (rest ++ last ∷ []) before now →
    (between : Durable) × (Leads (take (length rest) es) rest before between × TakesBack last between now)
one_less es rest last before now leads =
    let cut = leads_but_last (take (length (rest ++ last ∷ [])) es) rest last before now leads in
    let more = length-append rest (last ∷ []) in
    (cut.0, (subst (λ xs. Leads xs rest before cut.0) (take-take (length rest) (length (rest ++ last ∷ [])) es (omega arith)) cut.1.0, cut.1.1))

-- as many records are left as there are of what takes them back
pub as_many : (es : List PlainEntry) (all left : List Undo) (many : ℕ) (before now : Durable) → Leads es all before now → take many left ≡ take many all → length left ≤ many → take (length left) es ≡ take many es
as_many es all left many before now leads same few = ap (λ n. take n es) count ∙ take_min many es
  where
    count : length left ≡ min many (length es)
    count = ap length (sym (take_all many left few) ∙ same) ∙ length-take many all ∙ ap (min many) (sym (leads_length es all before now leads))
