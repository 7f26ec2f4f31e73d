-- Each entry of the replies that are kept is kept.
use Rattle.std.proofs.Common.{◌≡◌, ◌∙◌, ◌&&◌, Bool, true, false, cond, List, [], ◌∷◌, T, refl, sym, ap, subst, map}
use Rattle.std.specs.Prelude.{Some, is_some}
use Rattle.std.specs.List.{AllByRecursion}
use Rattle.std.specs.Cmp.{tied_itself}
use Rattle.std.specs.FinMap as fin
use Rattle.std.specs.FinMap.Entries.{below_all, is_sorted}
use Rattle.std.specs.Ordering.{eq_by_cmp, is_eq, is_lt}
use Rattle.std.proofs.lemmas.Bool.{false≢true}
use Rattle.gs_base.specs.declared.numbers.ClientId.{ClientId}
use Rattle.gs_master_record.specs.Plain.{PlainReply}
use Rattle.gs_master_spec.specs.Replies.{client_cmp}
use Rattle.gs_master_spec.specs.Whole.{reply_of}
use Rattle.gs_master_spec.specs.declared.reply.KeptReply.{KeptReply}
use Rattle.gs_laws_moves.specs.answers.Concerned.{Keeps, answered_by}
use Rattle.gs_laws_moves.proofs.lemmas.answers.Kept.{client_total, same_client}

abbrev Entries : Type 0
Entries = List (ClientId × KeptReply)

fst : (a b : Bool) → T (a && b) → T a
fst true b h = tt
fst false b h = h

snd : (a b : Bool) → T (a && b) → T b
snd true b h = h
snd false b h = absurd h

-- what is found stands behind what is below all
below_found : (p k : ClientId) (es : Entries) → T (below_all client_cmp p es) → is_some (fin.find client_cmp k es) ≡ true → T (is_lt (client_cmp p k))
below_found p k [] below some = absurd (false≢true some)
below_found p k (e ∷ es) below some = each (below_found p k es (snd (is_lt (client_cmp p e.0)) (below_all client_cmp p es) below)) (eq_by_cmp client_cmp k e.0) refl some
  where
    each : (is_some (fin.find client_cmp k es) ≡ true → T (is_lt (client_cmp p k))) → (b : Bool) → eq_by_cmp client_cmp k e.0 ≡ b → is_some (cond b (Some e.1) (fin.find client_cmp k es)) ≡ true → T (is_lt (client_cmp p k))
    each later true is h = subst (λ x. T (is_lt (client_cmp p x))) (sym (same_client k e.0 is)) (fst (is_lt (client_cmp p e.0)) (below_all client_cmp p es) below)
    each later false is h = later h

-- what holds of each that is found holds of each entry
each_entry : (P : ClientId → KeptReply → Type 0) (es : Entries) → T (is_sorted client_cmp es) → ((k : ClientId) (v : KeptReply) → fin.find client_cmp k es ≡ Some v → P k v) → AllByRecursion (λ (e : ClientId × KeptReply). P e.0 e.1) es
each_entry P [] sorted all = tt
each_entry P (e ∷ es) sorted all = (
  all e.0 e.1 (ap (λ o. cond (is_eq o) (Some e.1) (fin.find client_cmp e.0 es)) (tied_itself client_total e.0)),
  each_entry P es (snd (below_all client_cmp e.0 es) (is_sorted client_cmp es) sorted) (λ k v found. all k v (later k v found (eq_by_cmp client_cmp k e.0) refl)),
)
  where
    later : (k : ClientId) (v : KeptReply) → fin.find client_cmp k es ≡ Some v → (b : Bool) → eq_by_cmp client_cmp k e.0 ≡ b → cond b (Some e.1) (fin.find client_cmp k es) ≡ Some v
    later k v found true is =
        let same : k ≡ e.0 = same_client k e.0 is in
        absurd (subst (λ o. T (is_lt o)) (ap (client_cmp e.0) same ∙ tied_itself client_total e.0) (below_found e.0 k es (fst (below_all client_cmp e.0 es) (is_sorted client_cmp es) sorted) (ap is_some found)))
    later k v found false is = found

told_each : (m : fin.FinMap client_cmp KeptReply) (es : Entries) → AllByRecursion (λ (e : ClientId × KeptReply). Keeps m (answered_by e.0 e.1)) es → AllByRecursion (λ (r : PlainReply). Keeps m r.to) (map reply_of es)
told_each m [] all = tt
told_each m (e ∷ es) all = (all.0, told_each m es all.1)

-- so what a checkpoint tells of replies is kept
pub entries_kept : (m : fin.FinMap client_cmp KeptReply) → AllByRecursion (λ (r : PlainReply). Keeps m r.to) (map reply_of (fin.entries m))
entries_kept m =
    told_each m (fin.entries m)
    (each_entry (λ client reply. Keeps m (answered_by client reply)) (fin.entries m) (fin.entries_sorted m) (λ client reply found. record { reply = reply; has = fin.get-entries m client ∙ found; number = refl }))
