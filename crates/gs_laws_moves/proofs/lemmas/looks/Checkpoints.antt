-- A checkpoint tells no view with a primary of a chunk of a file, where there is none.
use Rattle.std.proofs.Common.{◌≡◌, ◌∙◌, ◌&&◌, ℕ, Bool, true, false, cond, List, [], ◌∷◌, T, map, refl, ap, sym, subst}
use Rattle.std.specs.Prelude.{filter, is_some, Option, Some, None}
use Rattle.std.specs.Cmp.{nat_cmp_total, tied_itself}
use Rattle.std.specs.FinMap as fin
use Rattle.std.specs.FinMap.Entries.{below_all, is_sorted}
use Rattle.std.specs.List.{AllByRecursion}
use Rattle.std.specs.Ordering.{eq_by_cmp, is_eq, is_lt, nat_cmp}
use Rattle.std.proofs.lemmas.Bool.{false≢true}
use Rattle.gs_base.specs.declared.numbers.Moment.{Moment}
use Rattle.gs_base.specs.declared.refusal.Refusal.{Refusal}
use Rattle.gs_base.specs.declared.refusal.Refusal.TheVariants as refusals
use Rattle.gs_master_record.specs.Plain.{Whole}
use Rattle.gs_master_spec.specs.Durable.{Durable, Settled, is_listed}
use Rattle.gs_master_spec.specs.Handling.{checkpoint, checkpoint_body, checkpoint_tests, due, granted, pressed, proposals, tick, tidied, without_place, written, written_if_due, written_unless}
use Rattle.gs_master_spec.specs.State.{State, Turn, and_then, first_of, for_each, is_failed, met_by, unmoved}
use Rattle.gs_master_spec.specs.Whole.{checkpoint_of, reference_of, settled_of}
use Rattle.gs_laws_moves.proofs.lemmas.looks.Records.{DurableSo, IsListedThere, IsQuietEntry, RecordSo, never, same_key}
use Rattle.gs_laws_moves.proofs.lemmas.looks.Turns.{So, TurnSo, all_removed_was, nothing, pick, steps_so, then_so}

-- ---- entries of a map

first_part : (a b : Bool) → T (a && b) → T a
first_part true b h = tt
first_part false b h = h

last_part : (a b : Bool) → T (a && b) → T b
last_part true b h = h
last_part false b h = absurd h

module _ {X : Type 0} where
  -- what is found stands behind what is below all
  below_found : (p k : ℕ) (es : List (ℕ × X)) → T (below_all nat_cmp p es) → is_some (fin.find nat_cmp k es) ≡ true → T (is_lt (nat_cmp p k))
  below_found p k [] below some = absurd (false≢true some)
  below_found p k (e ∷ es) below some = each (below_found p k es (last_part (is_lt (nat_cmp p e.0)) (below_all nat_cmp p es) below)) (eq_by_cmp nat_cmp k e.0) refl some
    where
      each : (is_some (fin.find nat_cmp k es) ≡ true → T (is_lt (nat_cmp p k))) → (b : Bool) → eq_by_cmp nat_cmp k e.0 ≡ b → is_some (cond b (Some e.1) (fin.find nat_cmp k es)) ≡ true → T (is_lt (nat_cmp p k))
      each later true is h = subst (λ x. T (is_lt (nat_cmp p x))) (sym (same_key k e.0 is)) (first_part (is_lt (nat_cmp p e.0)) (below_all nat_cmp p es) below)
      each later false is h = later h

  -- what holds of each that is found holds of each entry
  each_entry : (P : ℕ → X → Type 0) (es : List (ℕ × X)) → T (is_sorted nat_cmp es) → ((k : ℕ) (v : X) → fin.find nat_cmp k es ≡ Some v → P k v) → AllByRecursion (λ e. P e.0 e.1) es
  each_entry P [] sorted all = tt
  each_entry P (e ∷ es) sorted all = (
    all e.0 e.1 (ap (λ o. cond (is_eq o) (Some e.1) (fin.find nat_cmp e.0 es)) (tied_itself nat_cmp_total e.0)),
    each_entry P es (last_part (below_all nat_cmp e.0 es) (is_sorted nat_cmp es) sorted) (λ k v found. all k v (later k v found (eq_by_cmp nat_cmp k e.0) refl)),
  )
    where
      later : (k : ℕ) (v : X) → fin.find nat_cmp k es ≡ Some v → (b : Bool) → eq_by_cmp nat_cmp k e.0 ≡ b → cond b (Some e.1) (fin.find nat_cmp k es) ≡ Some v
      later k v found true is =
          let same : k ≡ e.0 = same_key k e.0 is in
          absurd (subst (λ o. T (is_lt o)) (ap (nat_cmp e.0) same ∙ tied_itself nat_cmp_total e.0) (below_found e.0 k es (first_part (below_all nat_cmp e.0 es) (is_sorted nat_cmp es) sorted) (ap is_some found)))
      later k v found false is = found

  each_of : (m : fin.FinMap nat_cmp X) (P : ℕ → X → Type 0) → ((k : ℕ) (v : X) → fin.get m k ≡ Some v → P k v) → AllByRecursion (λ e. P e.0 e.1) (fin.entries m)
  each_of m P all = each_entry P (fin.entries m) (fin.entries_sorted m) (λ k v found. all k v (fin.get-entries m k ∙ found))

-- ---- the record of a checkpoint

module _ (listed : ℕ → Bool) where
  listed_quiet : (d : Durable) (es : List (ℕ × Settled)) → AllByRecursion (λ e. is_listed d e.0 ≡ true → e.1.view.term ≡ None) es → AllByRecursion (IsQuietEntry listed) (map settled_of (filter (λ e. is_listed d e.0) es))
  listed_quiet d [] all = tt
  listed_quiet d (e ∷ es) all = by_listed (is_listed d e.0) refl (listed_quiet d es all.1)
    where
      by_listed : (b : Bool) → is_listed d e.0 ≡ b → AllByRecursion (IsQuietEntry listed) (map settled_of (filter (λ e. is_listed d e.0) es))
          → AllByRecursion (IsQuietEntry listed) (map settled_of (cond b (e ∷ filter (λ e. is_listed d e.0) es) (filter (λ e. is_listed d e.0) es)))
      by_listed true known rest = (all.0 known, rest)
      by_listed false out rest = rest

  all_references : (es : List (ℕ × ℕ)) → AllByRecursion (λ e. listed e.0 ≡ true) es → AllByRecursion (IsListedThere listed) (map reference_of es)
  all_references [] all = tt
  all_references (e ∷ es) all = (all.0, all_references es all.1)

  whole_entry : (d : Durable) → DurableSo listed d → RecordSo listed (Whole (checkpoint_of d))
  unfolding checkpoint_of
  whole_entry d so = (
    listed_quiet d (fin.entries d.chunks) (each_of d.chunks (λ q x. is_listed d q ≡ true → x.view.term ≡ None) (λ q x has known. so.views q x known has)),
    all_references (fin.entries d.names.refs) (each_of d.names.refs (λ q n. listed q ≡ true) (λ q n has. so.fewer q (ap is_some has))),
  )

  tidied_so : (d : Durable) → DurableSo listed d → DurableSo listed (tidied d)
  tidied_so d so = record { views = λ q x known has. so.views q x known (by_listed q x (is_listed d q) (sym (fin.get-retain_keys d.chunks (is_listed d) q (λ y tied. ap (is_listed d) (sym (fin.nat_cmp-IsAntisymmetric q y tied)))) ∙ has)); fewer = so.fewer }
    where
      by_listed : (q : ℕ) (x : Settled) (b : Bool) → cond b (fin.get d.chunks q) None ≡ Some x → fin.get d.chunks q ≡ Some x
      by_listed q x true h = h
      by_listed q x false h = never h

  written_so : (s : State) → So listed s → TurnSo listed (written s)
  written_so s so = record {
    records = (whole_entry s.durable so.durable, tt);
    after = record {
      durable = tidied_so s.durable so.durable;
      memory = record { asked = λ q a has. so.memory.asked q a (all_removed_was listed (without_place s) s.volatile.moving q a has); none = so.memory.none };
    };
  }

  unless_so : (s : State) (refusal : Option Refusal) → So listed s → TurnSo listed (written_unless s refusal)
  unless_so s None so = written_so s so
  unless_so s (Some refusal) so = nothing listed s (Some refusal) so

  pub checkpoint_so : (s : State) → So listed s → TurnSo listed (checkpoint s)
  unfolding checkpoint
  checkpoint_so s so = unless_so s (first_of (checkpoint_tests (is_failed s.fault) s.volatile.is_preparing s.log (checkpoint_body s.durable))) so

  said_so : (t : Turn) (said : Option Refusal) → TurnSo listed t → TurnSo listed (record t { said = said })
  said_so t said so = record { records = so.records; after = so.after }

  due_so : (s : State) → So listed s → TurnSo listed (written_if_due s)
  due_so s so = pick listed (TurnSo listed) (due s) (record (checkpoint s) { said = None }) (unmoved s) (said_so (checkpoint s) None (checkpoint_so s so)) (nothing listed s None so)

  pub tick_so : (s : State) (moment : Moment) → So listed s → TurnSo listed (tick s moment)
  unfolding tick
  tick_so s moment so =
      let steps = and_then (for_each s (proposals s) (pressed moment)) granted in
      let first = steps_so listed s moment so in
      pick listed (TurnSo listed) (is_failed s.fault) (met_by s refusals.Device) (and_then steps written_if_due) (nothing listed s (Some refusals.Device) so) (then_so listed steps written_if_due first (due_so steps.after first.after))
