-- What a scan does where its own records have room: what it refuses then leaves records only where there is room for them.
use Rattle.std.proofs.Common.{◌≡◌, ◌⊎◌, inl, inr, ◌∙◌, ℕ, ◌&&◌, Bool, true, false, List, [], ◌∷◌, ◌++◌, map, length, append-nil, refl, ap, sym, subst}
use Rattle.std.specs.Prelude.{fold, Result, Ok, Err, if◌then◌else◌}
use Rattle.std.specs.List.{list_any}
use Rattle.gs_base.specs.declared.numbers.ReqId.{ReqId}
use Rattle.gs_base.specs.declared.refusal.Refusal.{Refusal}
use Rattle.gs_base.specs.declared.refusal.Refusal.TheVariants as refusals
use Rattle.gs_msg.specs.declared.answer.Answer.{Answer}
use Rattle.gs_msg.specs.declared.answer.Answer.TheVariants as answers
use Rattle.gs_path.specs.Path.{Path}
use Rattle.gs_master_record.specs.Plain.{PlainEdit, PlainEntry, Edited, Said}
use Rattle.gs_master_spec.specs.Calls.{answered_with}
use Rattle.gs_master.specs.inner.Events.{log_behind}
use Rattle.gs_master_spec.specs.Settling.{own_request}
use Rattle.gs_master_spec.specs.State.{Log, Plan, State, Turn, all_ended_by, and_then, done, ended_by, fits, keeps_refusal, refused, turned}
use Rattle.gs_master_state.specs.inner.TakingBack.{comes_alone}
use Rattle.gs_master.specs.inner.Turns.{ComesWithOthers, IsTurned, EventSteps, WhyNotTurned, state_at}
use Rattle.gs_master_spec.specs.Working.{scan_edits, scan_plan, scanned, waiting_for}
use Rattle.gs_master.specs.declared.event.Event.{Event}
use Rattle.gs_master.proofs.Composing.{fits_both, fits_less, logged, steps_and, why_not_and}

-- ---- room

abbrev pub Fit : Log → List PlainEntry → Type 0
Fit log records = (records ≡ []) ⊎ (fits log records ≡ true)

fit_both : (log mid : Log) (xs ys : List PlainEntry) → mid ≡ fold log_behind log xs → Fit log xs → Fit mid ys → Fit log (xs ++ ys)
fit_both log mid xs ys is (inl none) (inl nor) = inl (ap (λ l. l ++ ys) none ∙ nor)
fit_both log mid xs ys is (inr first) (inl nor) = inr (ap (λ l. fits log (xs ++ l)) nor ∙ ap (fits log) (append-nil xs) ∙ first)
fit_both log mid xs ys is first (inr fit) = inr (sym (fits_both log mid xs ys is) ∙ fit)

said_fits : (keeps room : Bool) (log : Log) (req : ReqId) (refusal : Refusal) → fits log (Said req refusal ∷ []) ≡ room → Fit log (if keeps && room then Said req refusal ∷ [] else [])
said_fits true true log req refusal is = inr is
said_fits true false log req refusal is = inl refl
said_fits false room log req refusal is = inl refl

ended_fits : (s : State) (req : ReqId) (refusal : Refusal) → Fit s.log (ended_by s req refusal).records
ended_fits s req refusal = said_fits (keeps_refusal s req refusal) (fits s.log (Said req refusal ∷ [])) s.log req refusal refl

pub all_fit : (s : State) (reqs : List ReqId) (refusal : Refusal) → Fit s.log (all_ended_by s reqs refusal).records
all_fit s [] refusal = inl refl
all_fit s (req ∷ reqs) refusal =
    let t = ended_by s req refusal in
    fit_both s.log t.after.log t.records (all_ended_by t.after reqs refusal).records (logged s t.records) (ended_fits s req refusal) (all_fit t.after reqs refusal)

pub more_fit : (log mid : Log) (xs ys : List PlainEntry) → mid ≡ fold log_behind log xs → Fit mid ys → fits log (xs ++ ys) ≡ fits log xs
more_fit log mid xs ys is (inl none) = ap (λ l. fits log (xs ++ l)) none ∙ ap (fits log) (append-nil xs)
more_fit log mid xs ys is (inr fit) = tested (fits log xs) refl
  where
    whole : fits log (xs ++ ys) ≡ true
    whole = sym (fits_both log mid xs ys is) ∙ fit

    tested : (b : Bool) → fits log xs ≡ b → fits log (xs ++ ys) ≡ fits log xs
    tested true fit = whole ∙ sym fit
    tested false none = fits_less log xs ys none ∙ sym none

-- ---- a scan

abbrev pub sweeps : State → ReqId → List Path → List ℕ → Plan → Turn
sweeps s req removed forgotten plan =
    and_then (and_then (turned s plan) (λ next. all_ended_by next (waiting_for s forgotten) refusals.NoReplica)) (λ next. answered_with next req (answers.Scanned (length removed) (length forgotten)))

sweep_fits : (s : State) (req : ReqId) (removed : List Path) (forgotten : List ℕ) (plan : Plan) → fits s.log (sweeps s req removed forgotten plan).records ≡ fits s.log plan.records
sweep_fits s req removed forgotten plan =
    let mid = done s plan in
    let more = (all_ended_by mid (waiting_for s forgotten) refusals.NoReplica).records in
    ap (fits s.log) (append-nil (plan.records ++ more)) ∙ more_fit s.log mid.log plan.records more (logged s plan.records) (all_fit mid (waiting_for s forgotten) refusals.NoReplica)

module _ (s : State) (req : ReqId) (removed : List Path) (forgotten : List ℕ) (made : Plan) (same : made ≡ scan_plan removed forgotten) where
  by_room : (room : Bool) → fits s.log made.records ≡ room → scanned s req removed forgotten ≡ (if room then sweeps s req removed forgotten made else refused s req refusals.Full)
  by_room room is =
      ap (λ b. if b then sweeps s req removed forgotten (scan_plan removed forgotten) else refused s req refusals.Full)
      (sweep_fits s req removed forgotten (scan_plan removed forgotten) ∙ ap (λ (p : Plan). fits s.log p.records) (sym same) ∙ is)
      ∙ ap (λ p. if room then sweeps s req removed forgotten p else refused s req refusals.Full) (sym same)

  pub with_room : fits s.log made.records ≡ true → (old new : Event) (result : Result (Unit {0}) Refusal) → EventSteps (sweeps s req removed forgotten made) old result new → EventSteps (scanned s req removed forgotten) old result new
  with_room fit old new result steps = subst (λ t. EventSteps t old result new) (sym (by_room true fit)) steps

  pub without_room : fits s.log made.records ≡ false → (old new : Event) (result : Result (Unit {0}) Refusal) → EventSteps (refused s req refusals.Full) old result new → EventSteps (scanned s req removed forgotten) old result new
  without_room none old new result steps = subst (λ t. EventSteps t old result new) (sym (by_room false none)) steps

  abbrev ended : State → Turn
  ended next = all_ended_by next (waiting_for s forgotten) refusals.NoReplica

  abbrev answer : State → Turn
  answer next = answered_with next req (answers.Scanned (length removed) (length forgotten))

  module _ (fit : fits s.log made.records ≡ true) (old : Event) where
    pub records_refused : (e : Refusal) → WhyNotTurned (turned s made) old e → WhyNotTurned (scanned s req removed forgotten) old e
    records_refused e why = with_room fit old old (Err e) (why_not_and (and_then (turned s made) ended) answer old e (why_not_and (turned s made) ended old e why))

    pub ends_refused : (mid : Event) (e : Refusal) → IsTurned (turned s made) old mid → WhyNotTurned (all_ended_by (state_at mid) (waiting_for s forgotten) refusals.NoReplica) mid e → WhyNotTurned (scanned s req removed forgotten) old e
    ends_refused mid e first why = with_room fit old old (Err e) (why_not_and (and_then (turned s made) ended) answer old e (steps_and (turned s made) ended old mid mid (Err e) first why))

    pub answered_last : (mid last new : Event) (result : Result (Unit {0}) Refusal) → IsTurned (turned s made) old mid → IsTurned (all_ended_by (state_at mid) (waiting_for s forgotten) refusals.NoReplica) mid last
        → EventSteps (answered_with (state_at last) req (answers.Scanned (length removed) (length forgotten))) last result new → EventSteps (scanned s req removed forgotten) old result new
    answered_last mid last new result first second steps =
        with_room fit old new result (steps_and (and_then (turned s made) ended) answer old last new result (steps_and (turned s made) ended old mid last (Ok tt) first second) steps)

edits_together : (edits : List PlainEdit) → list_any comes_alone (map (Edited own_request) edits) ≡ false
edits_together [] = refl
edits_together (edit ∷ edits) = edits_together edits

pub scan_together : (removed : List Path) (forgotten : List ℕ) → ComesWithOthers (scan_plan removed forgotten)
scan_together removed forgotten = record { records = edits_together (scan_edits removed forgotten) }
