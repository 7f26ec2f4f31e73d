-- When a prepare is accepted: where all that the master knows is at rest.
use Rattle.std.proofs.Common.{T, ◌≡◌, ◌∙◌, ◌<◌, ◌+◌, ◌&&◌, ◌||◌, ◌==◌, ℕ, Bool, true, false, not, cond, List, [], ◌∷◌, ◌++◌, map, filter, refl, ap, sym, subst, arith}
use Rattle.std.specs.Prelude.{nat_lt, is_some, is_none, Option, Some, None, Ok, if◌then◌else◌}
use Rattle.std.specs.Cmp.{nat_cmp_total, tied_itself}
use Rattle.std.specs.FinMap as fin
use Rattle.std.specs.FinMap.Entries.{below_all, is_sorted}
use Rattle.std.specs.List.{list_any}
use Rattle.std.specs.Ordering.{eq_by_cmp, is_eq, is_lt, nat_cmp}
use Rattle.std.specs.declared.cmp.Ordering.{Ordering}
use Rattle.std.specs.declared.cmp.Ordering.TheVariants.{Less, Equal, Greater}
use Rattle.std.proofs.lemmas.Bool.{false≢true, true≢false, and_parts}
use Rattle.std.proofs.lemmas.Bool.Decides.{nat_tests}
use Rattle.std.proofs.lemmas.Cmp.{ranked}
use Rattle.std.proofs.lemmas.List.Folds.{list_any-append}
use Rattle.gs_base.specs.Members.{is_member}
use Rattle.gs_base.specs.MemberLaws.{eqb_itself}
use Rattle.gs_base.specs.Numbers.{last_number}
use Rattle.gs_base.specs.declared.config.Config.{Config}
use Rattle.gs_base.specs.declared.epoch.EpochEnd.TheVariants as ends
use Rattle.gs_base.specs.declared.numbers.Moment.{Moment}
use Rattle.gs_base.specs.declared.numbers.ReqId.{ReqId}
use Rattle.gs_base.specs.declared.refusal.Refusal.{Refusal}
use Rattle.gs_base.specs.declared.refusal.Refusal.TheVariants as refusals
use Rattle.gs_msg.specs.declared.answer.Answer.TheVariants as answers
use Rattle.gs_msg.specs.declared.call.Call.TheVariants as calls
use Rattle.gs_master_record.specs.Plain.{PlainEntry}
use Rattle.gs_master_record.specs.declared.checkpoint.Phase.{Phase}
use Rattle.gs_master_state.proofs.ChunkSets.{in_set, set_entries}
use Rattle.gs_master_spec.specs.Calls.{is_locked, ordered}
use Rattle.gs_master_spec.specs.Chunks.{chunk_at, has_entry, is_quiet}
use Rattle.gs_master_spec.specs.Durable.{Settled, is_ordinary, is_rolling}
use Rattle.gs_master_spec.specs.Handling.{called_unless}
use Rattle.gs_master_spec.specs.Replies.{is_later}
use Rattle.gs_master_spec.specs.Settling.{is_quiet_at}
use Rattle.gs_master_spec.specs.State.{State, Plan, Turn, turned, fits, first_of, is_failed, kept_in_memory, last_reply, refused}
use Rattle.gs_master_state.specs.inner.Surveying.{chunk_set}
use Rattle.gs_master_spec.specs.Upgrades.{accepted_plan, all_unquiet, commit_tests, first_in, is_last_epoch, prepare_commit, tell_all, unless}
use Rattle.gs_master_spec.specs.Volatile.{all_changed}
use Rattle.gs_master_spec.specs.Working.{put_handles}
use Rattle.gs_master_spec.specs.declared.asking.Asking.{Asking}
use Rattle.gs_master_spec.specs.declared.change.Change.TheVariants as changes
use Rattle.gs_laws_master.specs.Resting.{AllRest, CanPrepare, IsFirstUnquiet, IsResting, PreparesExactly, PreparesInOrder, TakesPrepares, prepare_record}
use Rattle.gs_laws_master.proofs.lemmas.fitting.AcceptedUpgrades.{none_passes}
use Rattle.gs_laws_master.proofs.lemmas.keeping.KeptViews.{same_key}
use Rattle.gs_laws_master.proofs.lemmas.spelling.Retold.{below_found}

-- ---- one chunk

-- a test that was negated
not_not : (a b : Bool) → (a && not b) ≡ false → a ≡ true → b ≡ true
not_not true true e h = refl
not_not true false e h = absurd (true≢false e)
not_not false b e h = absurd (false≢true h)

is_nothing : {A : Type 0} (o : Option A) → is_none o ≡ true → o ≡ None
is_nothing None e = refl
is_nothing (Some x) e = absurd (false≢true e)

none_at : {A : Type 0} (o : Option A) → is_some o ≡ false → o ≡ None
none_at None e = refl
none_at (Some x) e = absurd (true≢false e)

settled_is : {a b : Settled} → ◌≡◌ {A = Option Settled} (Some a) (Some b) → a ≡ b
settled_is h = cc

quiet_parts : (asked moving still : Bool) → (not (asked || moving) && still) ≡ true → (asked ≡ false) × ((moving ≡ false) × (still ≡ true))
quiet_parts true moving still h = absurd (false≢true h)
quiet_parts false true still h = absurd (false≢true h)
quiet_parts false false true h = (refl, (refl, refl))
quiet_parts false false false h = absurd (false≢true h)

module _ (s : State) (chunk : ℕ) (known : has_entry s chunk ≡ true) where
  -- a chunk that is quiet is at rest
  pub quiet_rests : is_quiet_at s chunk ≡ true → IsResting s chunk
  unfolding chunk_at
  quiet_rests h = by_entry (fin.get s.volatile.moving chunk) refl (fin.get s.durable.chunks chunk) refl (rw known at h)
    where
      by_entry : (m : Option Asking) → fin.get s.volatile.moving chunk ≡ m → (o : Option Settled) → fin.get s.durable.chunks chunk ≡ o → is_quiet (record { settled = fin.get s.durable.chunks chunk; asking = fin.get s.volatile.moving chunk }) ≡ true → IsResting s chunk
      by_entry m asks None has h = record { unasked = none_at (fin.get s.volatile.moving chunk) (quiet_parts (is_some (fin.get s.volatile.moving chunk)) false true (rw has at h)).0; settled = λ x is. absurd (false≢true (ap is_some (sym has ∙ is))) }
      by_entry m asks (Some x) has h =
          let parts = quiet_parts (is_some (fin.get s.volatile.moving chunk)) x.is_moving (is_none x.view.term) (rw has at h) in
          record {
            unasked = none_at (fin.get s.volatile.moving chunk) parts.0;
            settled = λ y is. subst (λ (z : Settled). (z.is_moving ≡ false) × (z.view.term ≡ None)) (settled_is (sym has ∙ is)) (parts.1.0, is_nothing x.view.term parts.1.1);
          }

  -- and one at rest is quiet
  rests_quiet : IsResting s chunk → is_quiet_at s chunk ≡ true
  unfolding chunk_at
  rests_quiet r = by_entry (fin.get s.durable.chunks chunk) refl
    where
      by_entry : (o : Option Settled) → fin.get s.durable.chunks chunk ≡ o → is_quiet_at s chunk ≡ true
      by_entry None has = rw (known, r.unasked, has) refl
      by_entry (Some x) has = let still = r.settled x has in rw (known, r.unasked, has, still.0, still.1) refl

-- ---- those that aren't quiet, in order

less_is : (m n : ℕ) (o : Ordering) → o ≡ nat_cmp m n → T (is_lt o) → m < n
less_is m n Less is h = ranked m n Less is
less_is m n Equal is h = absurd h
less_is m n Greater is h = absurd h

number_is : {a b : ℕ} → ◌≡◌ {A = Option ℕ} (Some a) (Some b) → a ≡ b
number_is h = cc

-- the first that passes a test is the lowest
lowest : (f : ℕ → Bool) (es : List (ℕ × Bool)) → T (is_sorted nat_cmp es) → (c : ℕ) → first_in (filter f (map (λ e. e.0) es)) ≡ Some c → (f c ≡ true) × ((k : ℕ) → k < c → is_some (fin.find nat_cmp k es) ≡ true → f k ≡ false)
lowest f [] sorted c e = absurd (false≢true (ap is_some e))
lowest f (x ∷ es) sorted c e = by_test (f x.0) refl (lowest f es (last_part (below_all nat_cmp x.0 es) (is_sorted nat_cmp es) sorted) c) e
  where
    last_part : (a b : Bool) → T (a && b) → T b
    last_part true b h = h
    last_part false b h = absurd h

    first_part : (a b : Bool) → T (a && b) → T a
    first_part true b h = tt
    first_part false b h = h

    behind : (k : ℕ) → is_some (fin.find nat_cmp k es) ≡ true → x.0 < k
    behind k some = less_is x.0 k (nat_cmp x.0 k) refl (below_found nat_cmp nat_cmp_total fin.nat_cmp-IsAntisymmetric x.0 k es (first_part (below_all nat_cmp x.0 es) (is_sorted nat_cmp es) sorted) some)

    none_lower : (k : ℕ) (b : Bool) → eq_by_cmp nat_cmp k x.0 ≡ b → k < x.0 → is_some (cond b (Some x.1) (fin.find nat_cmp k es)) ≡ true → ⊥
    none_lower k true key low some = let same = same_key k x.0 key in absurd (omega arith)
    none_lower k false key low some = let high = behind k some in absurd (omega arith)

    lower : f x.0 ≡ false → ((k : ℕ) → k < c → is_some (fin.find nat_cmp k es) ≡ true → f k ≡ false) → (k : ℕ) (b : Bool) → eq_by_cmp nat_cmp k x.0 ≡ b → k < c → is_some (cond b (Some x.1) (fin.find nat_cmp k es)) ≡ true → f k ≡ false
    lower fails rest k true key low some = ap f (same_key k x.0 key) ∙ fails
    lower fails rest k false key low some = rest k low some

    by_test : (b : Bool) → f x.0 ≡ b → (first_in (filter f (map (λ e. e.0) es)) ≡ Some c → (f c ≡ true) × ((k : ℕ) → k < c → is_some (fin.find nat_cmp k es) ≡ true → f k ≡ false))
        → first_in (cond b (x.0 ∷ filter f (map (λ e. e.0) es)) (filter f (map (λ e. e.0) es))) ≡ Some c → (f c ≡ true) × ((k : ℕ) → k < c → is_some (cond (eq_by_cmp nat_cmp k x.0) (Some x.1) (fin.find nat_cmp k es)) ≡ true → f k ≡ false)
    by_test true is rest h =
        let same = number_is h in
        (subst (λ y. f y ≡ true) same is, λ k low some. absurd (none_lower k (eq_by_cmp nat_cmp k x.0) refl (subst (λ y. k < y) (sym same) low) some))
    by_test false is rest h = let r = rest h in (r.0, λ k low some. lower is r.1 k (eq_by_cmp nat_cmp k x.0) refl low some)

pub found_member : {V : Type 0} (es : List (ℕ × V)) (k : ℕ) → is_some (fin.find nat_cmp k es) ≡ true → is_member (map (λ e. e.0) es) k ≡ true
found_member [] k some = absurd (false≢true some)
found_member (e ∷ es) k some = by_key (eq_by_cmp nat_cmp k e.0) refl some (found_member es k)
  where
    by_key : (b : Bool) → eq_by_cmp nat_cmp k e.0 ≡ b → is_some (cond b (Some e.1) (fin.find nat_cmp k es)) ≡ true → (is_some (fin.find nat_cmp k es) ≡ true → is_member (map (λ e. e.0) es) k ≡ true) → ((e.0 == k) || is_member (map (λ e. e.0) es) k) ≡ true
    by_key true key here rest = ap (λ y. (e.0 == y) || is_member (map (λ e. e.0) es) k) (same_key k e.0 key) ∙ ap (λ b. b || is_member (map (λ e. e.0) es) k) (eqb_itself e.0)
    by_key false key here rest = or_second (e.0 == k) (is_member (map (λ e. e.0) es) k) (rest here)
      where
        or_second : (a b : Bool) → b ≡ true → (a || b) ≡ true
        or_second true b h = refl
        or_second false b h = h

pub member_found : {V : Type 0} (es : List (ℕ × V)) (k : ℕ) → is_member (map (λ e. e.0) es) k ≡ true → is_some (fin.find nat_cmp k es) ≡ true
member_found [] k here = absurd (false≢true here)
member_found (e ∷ es) k here = by_head (e.0 == k) refl here (member_found es k)
  where
    same : (a b : ℕ) → (a == b) ≡ true → a ≡ b
    same a b t = grind (arith, nat_tests)

    by_key : (b : Bool) → is_some (fin.find nat_cmp k es) ≡ true → is_some (cond b (Some e.1) (fin.find nat_cmp k es)) ≡ true
    by_key true some = refl
    by_key false some = some

    by_head : (b : Bool) → (e.0 == k) ≡ b → (b || is_member (map (λ e. e.0) es) k) ≡ true → (is_member (map (λ e. e.0) es) k ≡ true → is_some (fin.find nat_cmp k es) ≡ true) → is_some (cond (eq_by_cmp nat_cmp k e.0) (Some e.1) (fin.find nat_cmp k es)) ≡ true
    by_head true is h rest = ap (λ x. is_some (cond (eq_by_cmp nat_cmp x e.0) (Some e.1) (fin.find nat_cmp k es))) (sym (same e.0 k is)) ∙ ap (λ o. is_some (cond (is_eq o) (Some e.1) (fin.find nat_cmp k es))) (tied_itself nat_cmp_total e.0)
    by_head false is h rest = by_key (eq_by_cmp nat_cmp k e.0) (rest h)

-- ---- all that the master knows

module _ (s : State) where
  abbrev unquiet_one : ℕ → Bool
  unquiet_one chunk = has_entry s chunk && not (is_quiet_at s chunk)

  abbrev looked_at : List ℕ
  looked_at = fin.keys s.durable.chunks ++ fin.keys s.volatile.moving

  -- what isn't looked at is neither settled nor asked for
  unseen_rests : (chunk : ℕ) → is_member looked_at chunk ≡ false → IsResting s chunk
  unseen_rests chunk out =
      let both = neither (is_member (fin.keys s.durable.chunks) chunk) (is_member (fin.keys s.volatile.moving) chunk) (sym (list_any-append (λ m. m == chunk) (fin.keys s.durable.chunks) (fin.keys s.volatile.moving)) ∙ out) in
      record {
        unasked = none_at (fin.get s.volatile.moving chunk) (not_found s.volatile.moving both.1);
        settled = λ x has. absurd (true≢false (ap is_some (sym has) ∙ not_found s.durable.chunks both.0));
      }
    where
      neither : (a b : Bool) → (a || b) ≡ false → (a ≡ false) × (b ≡ false)
      neither true b h = absurd (true≢false h)
      neither false b h = (refl, h)

      not_found : {V : Type 0} (m : fin.FinMap nat_cmp V) → is_member (fin.keys m) chunk ≡ false → is_some (fin.get m chunk) ≡ false
      not_found m none = by_test (is_some (fin.get m chunk)) refl
        where
          by_test : (b : Bool) → is_some (fin.get m chunk) ≡ b → b ≡ false
          by_test true is = absurd (false≢true (sym none ∙ found_member (fin.entries m) chunk (ap is_some (sym (fin.get-entries m chunk)) ∙ is)))
          by_test false is = refl

  put : (chunk : ℕ) → is_some (fin.find nat_cmp chunk (put_handles looked_at)) ≡ is_member looked_at chunk
  put chunk = ap (λ es. is_some (fin.find nat_cmp chunk es)) (sym (set_entries looked_at)) ∙ ap is_some (sym (fin.get-entries (chunk_set looked_at) chunk)) ∙ in_set looked_at chunk

  sorted : T (is_sorted nat_cmp (put_handles looked_at))
  sorted = subst (λ es. T (is_sorted nat_cmp es)) (set_entries looked_at) (fin.entries_sorted (chunk_set looked_at))

  -- one that is looked at, and passes, is at rest
  seen_rests : (chunk : ℕ) → has_entry s chunk ≡ true → unquiet_one chunk ≡ false → IsResting s chunk
  seen_rests chunk known passes = quiet_rests s chunk known (not_not (has_entry s chunk) (is_quiet_at s chunk) passes known)

  by_seen : (chunk : ℕ) → has_entry s chunk ≡ true → (is_member looked_at chunk ≡ true → unquiet_one chunk ≡ false) → IsResting s chunk
  by_seen chunk known passes = by_test (is_member looked_at chunk) refl
    where
      by_test : (b : Bool) → is_member looked_at chunk ≡ b → IsResting s chunk
      by_test true here = seen_rests chunk known (passes here)
      by_test false out = unseen_rests chunk out

  none_unquiet : all_unquiet s ≡ [] → AllRest s
  none_unquiet none chunk known = by_seen chunk known (λ here. none_passes unquiet_one (put_handles looked_at) chunk none (put chunk ∙ here))

  first_unquiet : (chunk : ℕ) → first_in (all_unquiet s) ≡ Some chunk → IsFirstUnquiet s chunk
  first_unquiet chunk is =
      let low = lowest unquiet_one (put_handles looked_at) sorted chunk is in
      let parts = and_parts (has_entry s chunk) (not (is_quiet_at s chunk)) low.0 in
      record {
        known = parts.0;
        unquiet = λ r. false≢true (sym (ap not (rests_quiet s chunk parts.0 r)) ∙ parts.1);
        lower = λ other less known. by_seen other known (λ here. low.1 other less (put other ∙ here));
      }

  -- so all rest, or one is the first that doesn't
  nothing_first : (chunks : List ℕ) → first_in chunks ≡ None → chunks ≡ []
  nothing_first [] e = refl
  nothing_first (x ∷ xs) e = absurd (true≢false (ap is_some e))

  all_rest : first_in (all_unquiet s) ≡ None → AllRest s
  all_rest e = none_unquiet (nothing_first (all_unquiet s) e)

  rest_none : AllRest s → first_in (all_unquiet s) ≡ None
  rest_none all = by_first (first_in (all_unquiet s)) refl
    where
      by_first : (o : Option ℕ) → first_in (all_unquiet s) ≡ o → o ≡ None
      by_first None is = refl
      by_first (Some chunk) is = let f = first_unquiet chunk is in absurd (f.unquiet (all chunk f.known))

  -- of two firsts neither is lower
  first_is : (chunk : ℕ) → IsFirstUnquiet s chunk → first_in (all_unquiet s) ≡ Some chunk
  first_is chunk f = by_first (first_in (all_unquiet s)) refl
    where
      same : (other : ℕ) → IsFirstUnquiet s other → other ≡ chunk
      same other g = by_low (nat_lt other chunk) refl (nat_lt chunk other) refl
        where
          by_low : (a : Bool) → nat_lt other chunk ≡ a → (b : Bool) → nat_lt chunk other ≡ b → other ≡ chunk
          by_low true is b more = absurd (g.unquiet (f.lower other (grind (arith, nat_tests)) g.known))
          by_low false is true more = absurd (f.unquiet (g.lower chunk (grind (arith, nat_tests)) f.known))
          by_low false is false more = grind (arith, nat_tests)

      by_first : (o : Option ℕ) → first_in (all_unquiet s) ≡ o → o ≡ Some chunk
      by_first None is = absurd (f.unquiet (all_rest is chunk f.known))
      by_first (Some other) is = ap Some (same other (first_unquiet other is))

-- ---- what comes of these tests

-- what is said where a prepare was begun or not, the phase is ordinary or not, by the first chunk that isn't quiet, where no epoch is left
-- and where there is room
abbrev said_of : Bool → Bool → Option ℕ → Bool → Bool → Option Refusal
said_of false false unquiet spent room = Some refusals.AlreadyUpgrading
said_of false true unquiet spent room = Some refusals.NotUpgrading
said_of true ordinary (Some chunk) spent room = Some (refusals.NotQuiet chunk)
said_of true ordinary None true room = Some refusals.Exhausted
said_of true ordinary None false false = Some refusals.Full
said_of true ordinary None false true = None

says_standing : (p o : Bool) (u : Option ℕ) (x r : Bool) → said_of p o u x r ≡ Some refusals.AlreadyUpgrading → (p ≡ false) × (o ≡ false)
says_standing false false u x r e = (refl, refl)
says_standing false true u x r e = absurd cc
says_standing true o (Some chunk) x r e = absurd cc
says_standing true o None true r e = absurd cc
says_standing true o None false false e = absurd cc
says_standing true o None false true e = absurd (false≢true (ap is_some e))

says_unbegun : (p o : Bool) (u : Option ℕ) (x r : Bool) → said_of p o u x r ≡ Some refusals.NotUpgrading → (p ≡ false) × (o ≡ true)
says_unbegun false false u x r e = absurd cc
says_unbegun false true u x r e = (refl, refl)
says_unbegun true o (Some chunk) x r e = absurd cc
says_unbegun true o None true r e = absurd cc
says_unbegun true o None false false e = absurd cc
says_unbegun true o None false true e = absurd (false≢true (ap is_some e))

says_unquiet : (p o : Bool) (u : Option ℕ) (x r : Bool) (c : ℕ) → said_of p o u x r ≡ Some (refusals.NotQuiet c) → (p ≡ true) × (u ≡ Some c)
says_unquiet false false u x r c e = absurd cc
says_unquiet false true u x r c e = absurd cc
says_unquiet true o (Some chunk) x r c e = let same : chunk ≡ c = cc in (refl, ap Some same)
says_unquiet true o None true r c e = absurd cc
says_unquiet true o None false false c e = absurd cc
says_unquiet true o None false true c e = absurd (false≢true (ap is_some e))

says_spent : (p o : Bool) (u : Option ℕ) (x r : Bool) → said_of p o u x r ≡ Some refusals.Exhausted → (p ≡ true) × ((u ≡ None) × (x ≡ true))
says_spent false false u x r e = absurd cc
says_spent false true u x r e = absurd cc
says_spent true o (Some chunk) x r e = absurd cc
says_spent true o None true r e = (refl, (refl, refl))
says_spent true o None false false e = absurd cc
says_spent true o None false true e = absurd (false≢true (ap is_some e))

says_full : (p o : Bool) (u : Option ℕ) (x r : Bool) → said_of p o u x r ≡ Some refusals.Full → (p ≡ true) × ((u ≡ None) × ((x ≡ false) × (r ≡ false)))
says_full false false u x r e = absurd cc
says_full false true u x r e = absurd cc
says_full true o (Some chunk) x r e = absurd cc
says_full true o None true r e = absurd cc
says_full true o None false false e = (refl, (refl, (refl, refl)))
says_full true o None false true e = absurd (false≢true (ap is_some e))

says_none : (p o : Bool) (u : Option ℕ) (x r : Bool) → said_of p o u x r ≡ None → (p ≡ true) × ((u ≡ None) × ((x ≡ false) × (r ≡ true)))
says_none false false u x r e = absurd (true≢false (ap is_some e))
says_none false true u x r e = absurd (true≢false (ap is_some e))
says_none true o (Some chunk) x r e = absurd (true≢false (ap is_some e))
says_none true o None true r e = absurd (true≢false (ap is_some e))
says_none true o None false false e = absurd (true≢false (ap is_some e))
says_none true o None false true e = (refl, (refl, (refl, refl)))

-- ---- the call

-- what is done, if it is
record Comes (t : Turn) (entry : PlainEntry) : Type 0 where
  records : t.said ≡ None → t.records ≡ entry ∷ []
  over : t.said ≡ None → t.after.volatile.is_preparing ≡ false

module _ (config : Config) (s : State) (req : ReqId) (moment : Moment) where
  abbrev room : Bool
  room = fits s.log (prepare_record s moment ∷ [])

  abbrev preparing_plan : Plan
  preparing_plan = accepted_plan s req (prepare_record s moment ∷ []) (changes.Prepare false ∷ []) (tell_all config (s.durable.epoch + 1) ends.Prepare) (s.durable.epoch + 1)

  abbrev ends_as : Option Refusal → Turn
  ends_as refusal = unless refusal s req (turned s preparing_plan)

  said_by_room : (b : Bool) → (if b then turned s preparing_plan else refused s req refusals.Full).said ≡ (if b then None else Some refusals.Full)
  said_by_room true = refl
  said_by_room false = refl

  full_or_none : (b : Bool) (o : Bool) → (if b then None else Some refusals.Full) ≡ said_of true o None false b
  full_or_none true o = refl
  full_or_none false o = refl

  said_by_tests : (p : Bool) (o : Bool) (phase : Phase) → is_ordinary phase ≡ o → (chunks : List ℕ) (x : Bool) → (ends_as (first_of (commit_tests phase p chunks x))).said ≡ said_of p o (first_in chunks) x room
  said_by_tests false false phase is chunks x = rw is refl
  said_by_tests false true phase is chunks x = rw is refl
  said_by_tests true o phase is (chunk ∷ chunks) x = refl
  said_by_tests true o phase is [] true = refl
  said_by_tests true o phase is [] false = said_by_room room ∙ full_or_none room o

  said_is : (prepare_commit config s req moment).said ≡ said_of s.volatile.is_preparing (is_ordinary s.durable.phase) (first_in (all_unquiet s)) (is_last_epoch s.durable) room
  said_is = said_by_tests s.volatile.is_preparing (is_ordinary s.durable.phase) s.durable.phase refl (all_unquiet s) (is_last_epoch s.durable)

  -- the reply is kept, or not
  over_now : (b : Bool) → (all_changed s.volatile (changes.Prepare false ∷ (if b then kept_in_memory req (Ok (answers.Epoch (s.durable.epoch + 1))) ∷ [] else []))).is_preparing ≡ false
  over_now true = refl
  over_now false = refl

  comes_by_room : (b : Bool) → Comes (if b then turned s preparing_plan else refused s req refusals.Full) (prepare_record s moment)
  comes_by_room true = record { records = λ e. refl; over = λ e. over_now (is_later (last_reply s req.client) req.number) }
  comes_by_room false = record { records = λ e. absurd (true≢false (ap is_some e)); over = λ e. absurd (true≢false (ap is_some e)) }

  comes_as : (refusal : Option Refusal) → Comes (ends_as refusal) (prepare_record s moment)
  comes_as None = comes_by_room room
  comes_as (Some refusal) = record { records = λ e. absurd (true≢false (ap is_some e)); over = λ e. absurd (true≢false (ap is_some e)) }

  comes : Comes (prepare_commit config s req moment) (prepare_record s moment)
  comes = comes_as (first_of (commit_tests s.durable.phase s.volatile.is_preparing (all_unquiet s) (is_last_epoch s.durable)))

  last_is : (a : ℕ) → (a == last_number) ≡ true → a ≡ last_number
  last_is a e = grind (arith, nat_tests)

  not_last : (a : ℕ) → (a == last_number) ≡ false → a ≡ last_number → ⊥
  not_last a e is = false≢true (sym e ∙ ap (λ n. n == last_number) is ∙ eqb_itself last_number)

  left_so : (a : ℕ) → (a ≡ last_number → ⊥) → (a == last_number) ≡ false
  left_so a f = by_test (a == last_number) refl
    where
      by_test : (b : Bool) → (a == last_number) ≡ b → b ≡ false
      by_test true is = absurd (f (last_is a is))
      by_test false is = refl

  can_prepare : (p : s.volatile.is_preparing ≡ true) → first_in (all_unquiet s) ≡ None → is_last_epoch s.durable ≡ false → CanPrepare s
  can_prepare p u x = record { begun = p; resting = all_rest s u; left = not_last s.durable.epoch x }

  in_order : PreparesInOrder s moment (prepare_commit config s req moment)
  in_order =
      let p = s.volatile.is_preparing in
      let o = is_ordinary s.durable.phase in
      let u = first_in (all_unquiet s) in
      let x = is_last_epoch s.durable in
      record {
        standing = (λ e. says_standing p o u x room (sym said_is ∙ e), λ h. said_is ∙ (λ i. said_of (h.0 i) (h.1 i) u x room));
        unbegun = (λ e. says_unbegun p o u x room (sym said_is ∙ e), λ h. said_is ∙ (λ i. said_of (h.0 i) (h.1 i) u x room));
        unquiet = λ c. (
          λ e. (let k = says_unquiet p o u x room c (sym said_is ∙ e) in (k.0, first_unquiet s c k.1)),
          λ h. said_is ∙ (λ i. said_of (h.0 i) o (first_is s c h.1 i) x room),
        );
        exhausted = (
          λ e. (let k = says_spent p o u x room (sym said_is ∙ e) in (k.0, (all_rest s k.1.0, last_is s.durable.epoch k.1.1))),
          λ h. said_is ∙ (λ i. said_of (h.0 i) o (rest_none s h.1.0 i) ((ap (λ n. n == last_number) h.1.1 ∙ eqb_itself last_number) i) room),
        );
        full = (
          λ e. (let k = says_full p o u x room (sym said_is ∙ e) in (can_prepare k.0 k.1.0 k.1.1.0, k.1.1.1)),
          λ h. said_is ∙ (λ i. said_of (h.0.begun i) o (rest_none s h.0.resting i) (left_so s.durable.epoch h.0.left i) (h.1 i)),
        );
        done = (
          λ e. (let k = says_none p o u x room (sym said_is ∙ e) in (can_prepare k.0 k.1.0 k.1.1.0, k.1.1.1)),
          λ h. said_is ∙ (λ i. said_of (h.0.begun i) o (rest_none s h.0.resting i) (left_so s.durable.epoch h.0.left i) (h.1 i)),
        );
        records = comes.records;
        over = comes.over;
      }

pub prepares_exactly : PreparesExactly
prepares_exactly config s req moment = in_order config s req moment

-- ---- what comes before

none_any : {A : Type 0} (f : A → Bool) (xs : List A) → ((x : A) → f x ≡ false) → list_any f xs ≡ false
none_any f [] none = refl
none_any f (x ∷ xs) none = ap (λ b. b || list_any f xs) (none x) ∙ none_any f xs none

neither_way : (other writes : Bool) → (other && cond writes (false || false) false) ≡ false
neither_way true true = refl
neither_way true false = refl
neither_way false writes = refl

no_lock : (s : State) (req : ReqId) → is_locked s req calls.PrepareCommit ≡ false
no_lock s req = none_any _ s.volatile.locks (λ lock. neither_way _ lock.writes)

none_before : (failed rolling preparing locked : Bool) → failed ≡ false → rolling ≡ false → locked ≡ false → first_of (ordered failed rolling preparing locked calls.PrepareCommit) ≡ None
none_before failed rolling preparing locked f r l = rw (f, r, l) (by_preparing preparing)
  where
    by_preparing : (b : Bool) → first_of (ordered false false b false calls.PrepareCommit) ≡ None
    by_preparing true = refl
    by_preparing false = refl

pub takes_prepares : TakesPrepares
takes_prepares config s req moment sound rolling =
    ap (called_unless config s req moment calls.PrepareCommit) (none_before (is_failed s.fault) (is_rolling s.durable.phase) s.volatile.is_preparing (is_locked s req calls.PrepareCommit) sound rolling (no_lock s req))
