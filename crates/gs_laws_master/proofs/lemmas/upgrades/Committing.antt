-- When a rollback can be committed.
use Rattle.std.proofs.Common.{T, ◌≡◌, ◌⊎◌, inl, inr, ◌∙◌, ◌<◌, ◌&&◌, ◌||◌, ◌==◌, ℕ, Bool, true, false, not, cond, List, [], ◌∷◌, map, filter, refl, sym, ap, subst, arith}
use Rattle.std.specs.Prelude.{Ok, Option, Some, None, is_some, nat_lt, get_or, unwrap_or, if◌then◌else◌}
use Rattle.std.proofs.lemmas.Cmp.{ranked}
use Rattle.std.specs.Cmp.{Equal-is, nat_cmp_total, tied_itself}
use Rattle.std.specs.FinMap as fin
use Rattle.std.specs.List.{list_all}
use Rattle.std.specs.FinMap.Entries.{below_all, is_sorted}
use Rattle.std.specs.Ordering.{eq_by_cmp, is_eq, is_lt, nat_cmp}
use Rattle.std.specs.declared.cmp.Ordering.{Ordering}
use Rattle.std.specs.declared.cmp.Ordering.TheVariants.{Less, Equal, Greater}
use Rattle.std.proofs.lemmas.Bool.{false≢true, true≢false, and_parts}
use Rattle.std.proofs.lemmas.Bool.Decides.{nat_tests}
use Rattle.gs_base.specs.Members.{count_from, is_member, servers_where}
use Rattle.gs_base.specs.MemberLaws.{is_member-servers_where, is_member-servers_where_above}
use Rattle.gs_base.specs.declared.numbers.ReqId.{ReqId}
use Rattle.gs_base.specs.declared.refusal.Refusal.{Refusal}
use Rattle.gs_base.specs.declared.refusal.Refusal.TheVariants as refusals
use Rattle.gs_edit.specs.View.{NamesView}
use Rattle.gs_lock.specs.Locks.{stands_in_the_way}
use Rattle.gs_lock.specs.Operations.{same_op}
use Rattle.gs_lock.specs.declared.lock.Lock.{Lock}
use Rattle.gs_tree.proofs.Levels.{both_true}
use Rattle.gs_master_spec.specs.Applied.{is_prepared_on}
use Rattle.gs_master_spec.specs.Durable.{is_rolling, prepared_view}
use Rattle.gs_msg.specs.declared.call.Call.TheVariants as calls
use Rattle.gs_master_spec.specs.Calls.{ordered}
use Rattle.gs_master_spec.specs.Handling.{called_unless}
use Rattle.gs_master_spec.specs.State.{State, Turn, first_of, fits, is_failed, kept_in_memory, last_reply, refused}
use Rattle.gs_master_spec.specs.Replies.{is_later}
use Rattle.gs_master_spec.specs.Volatile.{all_changed}
use Rattle.gs_master_spec.specs.declared.change.Change.TheVariants as changes
use Rattle.gs_msg.specs.declared.answer.Answer.TheVariants as answers
use Rattle.gs_master_spec.specs.Undoing.{all_undone}
use Rattle.gs_master_spec.specs.Upgrades.{answers_for, commit_if, commit_on, first_in, lacks_answer, needs_answer, restored_on, rollback_commit, told_of, unrestored}
use Rattle.gs_master_spec.specs.declared.asking.Prepared.{Prepared}
use Rattle.gs_laws_master.specs.Promises.{AnswersExactly, CanCommit, CommitsExactly, CommitsInOrder, HasTold, IsFirstUnrestored, IsRestored, IsTakenUnlessFailed, RefusesInOrder, commit_record, members_for}
use Rattle.gs_laws_master.proofs.lemmas.keeping.Kept.{is_tied}
use Rattle.gs_laws_master.proofs.lemmas.spelling.Retold.{below_found, each_found}

and_none : (b : Bool) → (b && false) ≡ false
and_none true = refl
and_none false = refl

-- ---- servers

abbrev is_nothing : List ℕ → Bool
is_nothing [] = true
is_nothing (x ∷ xs) = false

first_passes : (test p : ℕ → Bool) (xs : List ℕ) (m : ℕ) (ms : List ℕ) → list_all p xs ≡ true → filter test xs ≡ m ∷ ms → (test m ≡ true) × (p m ≡ true)
first_passes test p [] m ms all e = absurd (true≢false (ap is_nothing e))
first_passes test p (x ∷ xs) m ms all e = each (test x) refl (and_parts (p x) (list_all p xs) all) (first_passes test p xs m ms) e
  where
    each : (b : Bool) → test x ≡ b → (p x ≡ true) × (list_all p xs ≡ true) → (list_all p xs ≡ true → filter test xs ≡ m ∷ ms → (test m ≡ true) × (p m ≡ true))
        → cond b (x ∷ filter test xs) (filter test xs) ≡ m ∷ ms → (test m ≡ true) × (p m ≡ true)
    each true is parts later e = let same : x ≡ m = ap (λ l. get_or l 0 x) e in (subst (λ y. test y ≡ true) same is, subst (λ y. p y ≡ true) same parts.0)
    each false is parts later e = later parts.1 e

low_server : (m : ℕ) → nat_lt m 16 ≡ true → m < 16
low_server m is = grind (arith, nat_tests)

found_server : (test : ℕ → Bool) (m : ℕ) (ms : List ℕ) → servers_where test ≡ m ∷ ms → (test m ≡ true) × (m < 16)
unfolding servers_where
found_server test m ms e = let both = first_passes test (λ s. nat_lt s 16) (count_from 0 16) m ms refl e in (both.0, low_server m both.1)

no_server : (test : ℕ → Bool) (server : ℕ) → servers_where test ≡ [] → server < 16 → test server ≡ true → ⊥
no_server test server e low is = false≢true (ap (λ m. is_member m server) (sym e) ∙ is_member-servers_where test server low ∙ is)

-- ---- chunks

-- what holds of each entry holds of what is found
all_found : (f : ℕ × ℕ → Bool) (es : List (ℕ × ℕ)) → list_all f es ≡ true → (k v : ℕ) → fin.find nat_cmp k es ≡ Some v → f (k, v) ≡ true
all_found f [] all k v e = absurd (false≢true (ap is_some e))
all_found f (x ∷ es) all k v e = each (eq_by_cmp nat_cmp k x.0) refl (and_parts (f x) (list_all f es) all) (λ rest found. all_found f es rest k v found) e
  where
    each : (b : Bool) → eq_by_cmp nat_cmp k x.0 ≡ b → (f x ≡ true) × (list_all f es ≡ true) → (list_all f es ≡ true → fin.find nat_cmp k es ≡ Some v → f (k, v) ≡ true) → cond b (Some x.1) (fin.find nat_cmp k es) ≡ Some v → f (k, v) ≡ true
    each true is parts later e =
        let key : k ≡ x.0 = fin.nat_cmp-IsAntisymmetric k x.0 ((Equal-is (nat_cmp k x.0)).0 is) in
        subst (λ y. f (y, v) ≡ true) (sym key) (subst (λ y. f (x.0, y) ≡ true) (ap (λ o. unwrap_or o x.1) e) parts.0)
    each false is parts later e = later parts.1 e

module _ (prepared : ℕ → Option Prepared) (told : ℕ → List ℕ) where
  pub all_have : (es : List (ℕ × ℕ)) → unrestored prepared told es ≡ None → list_all (λ e. not (lacks_answer prepared told e)) es ≡ true
  all_have [] e = refl
  all_have (x ∷ es) e = each (lacks_answer prepared told x) (all_have es) e
    where
      each : (b : Bool) → (unrestored prepared told es ≡ None → list_all (λ e. not (lacks_answer prepared told e)) es ≡ true) → first_in (map (λ (e : ℕ × ℕ). e.0) (cond b (x ∷ filter (lacks_answer prepared told) es) (filter (lacks_answer prepared told) es))) ≡ None
          → (not b && list_all (λ e. not (lacks_answer prepared told e)) es) ≡ true
      each true later e = absurd (true≢false (ap is_some e))
      each false later e = later e

  none_lacks : (es : List (ℕ × ℕ)) → list_all (λ e. not (lacks_answer prepared told e)) es ≡ true → unrestored prepared told es ≡ None
  none_lacks [] all = refl
  none_lacks (x ∷ es) all = each (lacks_answer prepared told x) (none_lacks es) all
    where
      each : (b : Bool) → (list_all (λ e. not (lacks_answer prepared told e)) es ≡ true → unrestored prepared told es ≡ None) → (not b && list_all (λ e. not (lacks_answer prepared told e)) es) ≡ true
          → first_in (map (λ (e : ℕ × ℕ). e.0) (cond b (x ∷ filter (lacks_answer prepared told) es) (filter (lacks_answer prepared told) es))) ≡ None
      each true later all = absurd (false≢true all)
      each false later all = later all

module _ (s : State) where
  test_of : ℕ → Prepared → ℕ → Bool
  test_of chunk prepared server = is_member (told_of s chunk) server && is_prepared_on prepared server

  needed : (count : ℕ) → 0 < count → needs_answer count ≡ true
  needed count some = grind (arith, nat_tests)

  restored_at : (chunk count : ℕ) (o : Option Prepared) → prepared_view s.durable chunk ≡ o → not (lacks_answer (λ c. o) (told_of s) (chunk, count)) ≡ true → needs_answer count ≡ true → IsRestored s chunk
  unfolding test_of
  restored_at chunk count None is has needs = absurd (false≢true (sym (ap (λ b. not (b && true)) needs) ∙ has))
  restored_at chunk count (Some prepared) is has needs = by_servers (servers_where (test_of chunk prepared)) refl
    where
      by_servers : (servers : List ℕ) → servers_where (test_of chunk prepared) ≡ servers → IsRestored s chunk
      by_servers [] e = absurd (false≢true (rw (e, needs) at has))
      by_servers (m ∷ ms) e =
          let both = found_server (test_of chunk prepared) m ms e in
          let parts = and_parts (is_member (told_of s chunk) m) (is_prepared_on prepared m) both.0 in
          (m, record { is_server = both.1; prepared = prepared; kept = is; has_it = parts.1; told = parts.0 })

  has_one : (chunk count : ℕ) → IsRestored s chunk → not (lacks_answer (prepared_view s.durable) (told_of s) (chunk, count)) ≡ true
  unfolding test_of
  has_one chunk count (server, r) = subst (λ o. not (lacks_answer (λ c. o) (told_of s) (chunk, count)) ≡ true) (sym r.kept) (by_servers (servers_where (test_of chunk r.prepared)) refl)
    where
      by_servers : (servers : List ℕ) → servers_where (test_of chunk r.prepared) ≡ servers → not (lacks_answer (λ c. Some r.prepared) (told_of s) (chunk, count)) ≡ true
      by_servers [] e = absurd (no_server (test_of chunk r.prepared) server e r.is_server (both_true (is_member (told_of s chunk) server) (is_prepared_on r.prepared server) r.told r.has_it))
      by_servers (m ∷ ms) e = rw e (ap not (and_none (needs_answer count)))

  needs_none : (chunk count : ℕ) → needs_answer count ≡ false → not (lacks_answer (prepared_view s.durable) (told_of s) (chunk, count)) ≡ true
  needs_none chunk count none = rw none refl

  each_has : (names : NamesView) → ((chunk count : ℕ) → fin.get names.refs chunk ≡ Some count → 0 < count → IsRestored s chunk)
      → (chunk count : ℕ) → fin.get names.refs chunk ≡ Some count → not (lacks_answer (prepared_view s.durable) (told_of s) (chunk, count)) ≡ true
  each_has names restored chunk count found = each (needs_answer count) refl
    where
      each : (b : Bool) → needs_answer count ≡ b → not (lacks_answer (prepared_view s.durable) (told_of s) (chunk, count)) ≡ true
      each true needs = has_one chunk count (restored chunk count found (grind (arith, nat_tests)))
      each false none = needs_none chunk count none

-- ---- the call

is_full : Option Refusal → Bool
is_full (Some refusals.Full) = true
is_full said = false

module _ (s : State) (req : ReqId) where
  abbrev IsAccepted : Turn → Type 0
  IsAccepted t = (t.said ≡ None) ⊎ (t.said ≡ Some refusals.Full)

  not_refused : (refusal : Refusal) → is_full (Some refusal) ≡ false → IsAccepted (refused s req refusal) → ⊥
  unfolding is_full
  not_refused refusal other (inl e) = true≢false (ap is_some e)
  not_refused refusal other (inr e) = false≢true (sym other ∙ ap is_full e)

  can_commit : (names : NamesView) → is_rolling s.durable.phase ≡ true → all_undone s.durable.inverses s.durable.names ≡ Some names →
      unrestored (prepared_view s.durable) (told_of s) (fin.entries names.refs) ≡ None → CanCommit s
  can_commit names begun back is = record {
    begun = begun;
    names = names;
    back = back;
    restored = λ chunk count found some. restored_at s chunk count (prepared_view s.durable chunk) refl
        (all_found (λ e. not (lacks_answer (prepared_view s.durable) (told_of s) e)) (fin.entries names.refs) (all_have (prepared_view s.durable) (told_of s) (fin.entries names.refs) is) chunk count (sym (fin.get-entries names.refs chunk) ∙ found)) (needed s count some);
  }

  of_chunks : (names : NamesView) → is_rolling s.durable.phase ≡ true → all_undone s.durable.inverses s.durable.names ≡ Some names →
      (chunk : Option ℕ) → unrestored (prepared_view s.durable) (told_of s) (fin.entries names.refs) ≡ chunk → IsAccepted (commit_if s req names chunk) → CanCommit s
  unfolding is_full
  of_chunks names begun back (Some chunk) is accepted = absurd (not_refused (refusals.Unrestored chunk) refl accepted)
  of_chunks names begun back None is accepted = can_commit names begun back is

  of_names : is_rolling s.durable.phase ≡ true → (names : Option NamesView) → all_undone s.durable.inverses s.durable.names ≡ names → IsAccepted (commit_on s req names) → CanCommit s
  unfolding is_full
  of_names begun None back accepted = absurd (not_refused refusals.BadLine refl accepted)
  of_names begun (Some names) back accepted = of_chunks names begun back (unrestored (prepared_view s.durable) (told_of s) (fin.entries names.refs)) refl accepted

  of_phase : (rolling : Bool) → is_rolling s.durable.phase ≡ rolling → IsAccepted (if rolling then commit_on s req (all_undone s.durable.inverses s.durable.names) else refused s req refusals.NotUpgrading) → CanCommit s
  unfolding is_full
  of_phase true begun accepted = of_names begun (all_undone s.durable.inverses s.durable.names) refl accepted
  of_phase false begun accepted = absurd (not_refused refusals.NotUpgrading refl accepted)

  with_room : (b : Bool) (t : Turn) → t.said ≡ None → IsAccepted (if b then t else refused s req refusals.Full)
  with_room true t none = inl none
  with_room false t none = inr refl

  committed : CanCommit s → IsAccepted (rollback_commit s req)
  committed can =
      subst (λ b. IsAccepted (if b then commit_on s req (all_undone s.durable.inverses s.durable.names) else refused s req refusals.NotUpgrading)) (sym can.begun)
      (subst (λ o. IsAccepted (commit_on s req o)) (sym can.back)
      (subst (λ c. IsAccepted (commit_if s req can.names c)) (sym none)
      (with_room _ _ refl)))
    where
      none : unrestored (prepared_view s.durable) (told_of s) (fin.entries can.names.refs) ≡ None
      none = none_lacks (prepared_view s.durable) (told_of s) (fin.entries can.names.refs)
          (each_found nat_cmp nat_cmp_total fin.nat_cmp-IsAntisymmetric (λ e. not (lacks_answer (prepared_view s.durable) (told_of s) e)) (fin.entries can.names.refs) (fin.entries_sorted can.names.refs)
          (λ chunk count found. each_has s can.names can.restored chunk count (fin.get-entries can.names.refs chunk ∙ found)))

-- ---- which refusal comes

less_is : (m n : ℕ) (o : Ordering) → o ≡ nat_cmp m n → T (is_lt o) → m < n
less_is m n Less is h = ranked m n Less is
less_is m n Equal is h = absurd h
less_is m n Greater is h = absurd h

-- a key behind the first is greater
behind_first : (x : ℕ × ℕ) (es : List (ℕ × ℕ)) (k : ℕ) → T (is_sorted nat_cmp (x ∷ es)) → is_some (fin.find nat_cmp k es) ≡ true → x.0 < k
behind_first x es k sorted some = less_is x.0 k (nat_cmp x.0 k) refl (below_found nat_cmp nat_cmp_total fin.nat_cmp-IsAntisymmetric x.0 k es (first_part (below_all nat_cmp x.0 es) (is_sorted nat_cmp es) sorted) some)
  where
    first_part : (a b : Bool) → T (a && b) → T a
    first_part true b h = tt
    first_part false b h = h

module _ (prepared : ℕ → Option Prepared) (told : ℕ → List ℕ) where
  -- the first of these entries without an answer that it needs
  record IsFirstOf (es : List (ℕ × ℕ)) (chunk : ℕ) : Type 0 where
    count : ℕ
    found : fin.find nat_cmp chunk es ≡ Some count
    lacks : lacks_answer prepared told (chunk, count) ≡ true
    lower : (k v : ℕ) → k < chunk → fin.find nat_cmp k es ≡ Some v → lacks_answer prepared told (k, v) ≡ false

  first_lacking : (es : List (ℕ × ℕ)) → T (is_sorted nat_cmp es) → (chunk : ℕ) → unrestored prepared told es ≡ Some chunk → IsFirstOf es chunk
  first_lacking [] sorted chunk e = absurd (false≢true (ap is_some e))
  first_lacking (x ∷ es) sorted chunk e = each (lacks_answer prepared told x) refl (λ h. first_lacking es (last_part (below_all nat_cmp x.0 es) (is_sorted nat_cmp es) sorted) chunk h) e
    where
      last_part : (a b : Bool) → T (a && b) → T b
      last_part true b h = h
      last_part false b h = absurd h

      number_is : {a b : ℕ} → ◌≡◌ {A = Option ℕ} (Some a) (Some b) → a ≡ b
      number_is h = cc

      tied : eq_by_cmp nat_cmp x.0 x.0 ≡ true
      tied = ap is_eq (tied_itself nat_cmp_total x.0)

      key_is : (k : ℕ) → eq_by_cmp nat_cmp k x.0 ≡ true → k ≡ x.0
      key_is k is = fin.nat_cmp-IsAntisymmetric k x.0 ((Equal-is (nat_cmp k x.0)).0 is)

      later : (k v : ℕ) (b : Bool) → eq_by_cmp nat_cmp k x.0 ≡ b → fin.find nat_cmp k es ≡ Some v → cond b (Some x.1) (fin.find nat_cmp k es) ≡ Some v
      later k v true is found = absurd (let low = behind_first x es k sorted (ap is_some found) in let same = key_is k is in omega arith)
      later k v false is found = found

      none_lower : (k v : ℕ) (b : Bool) → eq_by_cmp nat_cmp k x.0 ≡ b → k < x.0 → cond b (Some x.1) (fin.find nat_cmp k es) ≡ Some v → lacks_answer prepared told (k, v) ≡ false
      none_lower k v true is low found = absurd (let same = key_is k is in omega arith)
      none_lower k v false is low found = absurd (let high = behind_first x es k sorted (ap is_some found) in omega arith)

      lower_too : (r : IsFirstOf es chunk) → lacks_answer prepared told x ≡ false → (k v : ℕ) (b : Bool) → eq_by_cmp nat_cmp k x.0 ≡ b → k < chunk → cond b (Some x.1) (fin.find nat_cmp k es) ≡ Some v → lacks_answer prepared told (k, v) ≡ false
      lower_too r has k v true is low found = subst (λ y. lacks_answer prepared told (y, v) ≡ false) (sym (key_is k is)) (subst (λ y. lacks_answer prepared told (x.0, y) ≡ false) (number_is found) has)
      lower_too r has k v false is low found = r.lower k v low found

      each : (b : Bool) → lacks_answer prepared told x ≡ b → (unrestored prepared told es ≡ Some chunk → IsFirstOf es chunk)
          → first_in (map (λ (e : ℕ × ℕ). e.0) (cond b (x ∷ filter (lacks_answer prepared told) es) (filter (lacks_answer prepared told) es))) ≡ Some chunk → IsFirstOf (x ∷ es) chunk
      each true is rest h = subst (IsFirstOf (x ∷ es)) (number_is h) (record {
        count = x.1;
        found = ap (λ b. cond b (Some x.1) (fin.find nat_cmp x.0 es)) tied;
        lacks = is;
        lower = λ k v low found. none_lower k v (eq_by_cmp nat_cmp k x.0) refl low found;
      })
      each false is rest h = let r = rest h in record {
        count = r.count;
        found = later chunk r.count (eq_by_cmp nat_cmp chunk x.0) refl r.found;
        lacks = r.lacks;
        lower = λ k v low found. lower_too r is k v (eq_by_cmp nat_cmp k x.0) refl low found;
      }

module _ (s : State) (req : ReqId) where
  abbrev lacks_one : ℕ × ℕ → Bool
  lacks_one e = lacks_answer (prepared_view s.durable) (told_of s) e

  first_unrestored : (names : NamesView) (chunk : ℕ) → is_rolling s.durable.phase ≡ true → all_undone s.durable.inverses s.durable.names ≡ Some names →
      unrestored (prepared_view s.durable) (told_of s) (fin.entries names.refs) ≡ Some chunk → IsFirstUnrestored s chunk
  first_unrestored names chunk begun back is =
      let first = first_lacking (prepared_view s.durable) (told_of s) (fin.entries names.refs) (fin.entries_sorted names.refs) chunk is in record {
        begun = begun;
        names = names;
        back = back;
        count = first.count;
        found = fin.get-entries names.refs chunk ∙ first.found;
        referred = referred first.count (needs_part (needs_answer first.count) _ first.lacks);
        lacks = λ r. false≢true (sym (ap not first.lacks) ∙ has_one s chunk first.count r);
        lower = λ other many low found some. restored_at s other many (prepared_view s.durable other) refl (ap not (first.lower other many low (sym (fin.get-entries names.refs other) ∙ found))) (needed s many some);
      }
    where
      referred : (count : ℕ) → needs_answer count ≡ true → 0 < count
      referred count h = grind (arith, nat_tests)

      needs_part : (b rest : Bool) → (b && rest) ≡ true → b ≡ true
      needs_part true rest h = refl
      needs_part false rest h = h

  abbrev IsQuiet : Turn → Type 0
  IsQuiet t = (t.after.volatile.moving ≡ fin.empty) × (t.after.volatile.unplaced ≡ [])

  -- what comes
  data Came (t : Turn) : Type 0 where
    Unbegun : t.said ≡ Some refusals.NotUpgrading → is_rolling s.durable.phase ≡ false → Came t
    Stuck : t.said ≡ Some refusals.BadLine → is_rolling s.durable.phase ≡ true → all_undone s.durable.inverses s.durable.names ≡ None → Came t
    Lacking : (chunk : ℕ) → t.said ≡ Some (refusals.Unrestored chunk) → IsFirstUnrestored s chunk → Came t
    Full : t.said ≡ Some refusals.Full → (can : CanCommit s) → fits s.log (commit_record s can.names ∷ []) ≡ false → Came t
    Done : t.said ≡ None → (can : CanCommit s) → fits s.log (commit_record s can.names ∷ []) ≡ true → t.records ≡ commit_record s can.names ∷ [] → IsQuiet t → Came t

  came_by_room : (can : CanCommit s) (b : Bool) → fits s.log (commit_record s can.names ∷ []) ≡ b → (t : Turn) → t.said ≡ None → t.records ≡ commit_record s can.names ∷ [] → IsQuiet t → Came (if b then t else refused s req refusals.Full)
  came_by_room can true room t none is quiet = Done none can room is quiet
  came_by_room can false room t none is quiet = Full refl can room

  -- the reply is kept, or not
  nothing_asked : (b : Bool) → let v = all_changed s.volatile (changes.RolledBack ∷ (if b then kept_in_memory req (Ok (answers.Epoch s.durable.epoch)) ∷ [] else [])) in (v.moving ≡ fin.empty) × (v.unplaced ≡ [])
  nothing_asked true = (refl, refl)
  nothing_asked false = (refl, refl)

  came_by_chunk : (names : NamesView) → is_rolling s.durable.phase ≡ true → all_undone s.durable.inverses s.durable.names ≡ Some names →
      (chunk : Option ℕ) → unrestored (prepared_view s.durable) (told_of s) (fin.entries names.refs) ≡ chunk → Came (commit_if s req names chunk)
  unfolding can_commit
  came_by_chunk names begun back (Some chunk) is = Lacking chunk refl (first_unrestored names chunk begun back is)
  came_by_chunk names begun back None is = let can = can_commit s req names begun back is in came_by_room can (fits s.log (commit_record s names ∷ [])) refl _ refl refl (nothing_asked (is_later (last_reply s req.client) req.number))

  came_by_names : is_rolling s.durable.phase ≡ true → (names : Option NamesView) → all_undone s.durable.inverses s.durable.names ≡ names → Came (commit_on s req names)
  came_by_names begun None back = Stuck refl begun back
  came_by_names begun (Some names) back = came_by_chunk names begun back (unrestored (prepared_view s.durable) (told_of s) (fin.entries names.refs)) refl

  came_by_phase : (rolling : Bool) → is_rolling s.durable.phase ≡ rolling → Came (if rolling then commit_on s req (all_undone s.durable.inverses s.durable.names) else refused s req refusals.NotUpgrading)
  came_by_phase true begun = came_by_names begun (all_undone s.durable.inverses s.durable.names) refl
  came_by_phase false begun = Unbegun refl begun

  came : Came (rollback_commit s req)
  came = came_by_phase (is_rolling s.durable.phase) refl

  -- ---- each comes in its own case alone

  names_same : {a b : NamesView} → all_undone s.durable.inverses s.durable.names ≡ Some a → all_undone s.durable.inverses s.durable.names ≡ Some b → a ≡ b
  names_same f g = let h = sym f ∙ g in cc

  none_and_some : {a : NamesView} → all_undone s.durable.inverses s.durable.names ≡ None → all_undone s.durable.inverses s.durable.names ≡ Some a → ⊥
  none_and_some none some = false≢true (ap is_some (sym none ∙ some))

  begun_and_not : is_rolling s.durable.phase ≡ false → is_rolling s.durable.phase ≡ true → ⊥
  begun_and_not f g = false≢true (sym f ∙ g)

  can_and_lacks : (chunk : ℕ) → CanCommit s → IsFirstUnrestored s chunk → ⊥
  can_and_lacks chunk can f = f.lacks (can.restored chunk f.count (ap (λ (n : NamesView). fin.get n.refs chunk) (names_same can.back f.back) ∙ f.found) f.referred)

  -- of two first chunks neither is lower
  not_lower : (c d : ℕ) → IsFirstUnrestored s c → IsFirstUnrestored s d → c < d → ⊥
  not_lower c d f g low = f.lacks (g.lower c f.count low (ap (λ (n : NamesView). fin.get n.refs c) (names_same g.back f.back) ∙ f.found) f.referred)

  same_first : (c d : ℕ) → IsFirstUnrestored s c → IsFirstUnrestored s d → c ≡ d
  same_first c d f g = by_low (nat_lt c d) refl (nat_lt d c) refl
    where
      by_low : (a : Bool) → nat_lt c d ≡ a → (b : Bool) → nat_lt d c ≡ b → c ≡ d
      by_low true is b other = absurd (not_lower c d f g (grind (arith, nat_tests)))
      by_low false is true other = absurd (not_lower d c g f (grind (arith, nat_tests)))
      by_low false is false other = grind (arith, nat_tests)

  room_same : (can other : CanCommit s) → fits s.log (commit_record s can.names ∷ []) ≡ fits s.log (commit_record s other.names ∷ [])
  room_same can other = ap (λ n. fits s.log (commit_record s n ∷ [])) (names_same can.back other.back)

  abbrev HasRoom : Bool → Type 0
  HasRoom b = (can : CanCommit s) × (fits s.log (commit_record s can.names ∷ []) ≡ b)

module _ (s : State) (req : ReqId) (t : Turn) where
  is_unbegun : Came s req t → t.said ≡ Some refusals.NotUpgrading → is_rolling s.durable.phase ≡ false
  is_unbegun (Unbegun e is) h = is
  is_unbegun (Stuck e begun is) h = absurd (let f = sym e ∙ h in cc)
  is_unbegun (Lacking chunk e is) h = absurd (let f = sym e ∙ h in cc)
  is_unbegun (Full e can room) h = absurd (let f = sym e ∙ h in cc)
  is_unbegun (Done e can room is quiet) h = absurd (let f = sym e ∙ h in cc)

  is_stuck : Came s req t → t.said ≡ Some refusals.BadLine → (is_rolling s.durable.phase ≡ true) × (all_undone s.durable.inverses s.durable.names ≡ None)
  is_stuck (Unbegun e is) h = absurd (let f = sym e ∙ h in cc)
  is_stuck (Stuck e begun is) h = (begun, is)
  is_stuck (Lacking chunk e is) h = absurd (let f = sym e ∙ h in cc)
  is_stuck (Full e can room) h = absurd (let f = sym e ∙ h in cc)
  is_stuck (Done e can room is quiet) h = absurd (let f = sym e ∙ h in cc)

  is_lacking : (other : ℕ) → Came s req t → t.said ≡ Some (refusals.Unrestored other) → IsFirstUnrestored s other
  is_lacking other (Unbegun e is) h = absurd (let f = sym e ∙ h in cc)
  is_lacking other (Stuck e begun is) h = absurd (let f = sym e ∙ h in cc)
  is_lacking other (Lacking chunk e is) h = subst (IsFirstUnrestored s) (let f = sym e ∙ h in cc) is
  is_lacking other (Full e can room) h = absurd (let f = sym e ∙ h in cc)
  is_lacking other (Done e can room is quiet) h = absurd (let f = sym e ∙ h in cc)

  is_without_room : Came s req t → t.said ≡ Some refusals.Full → HasRoom s req false
  is_without_room (Unbegun e is) h = absurd (let f = sym e ∙ h in cc)
  is_without_room (Stuck e begun is) h = absurd (let f = sym e ∙ h in cc)
  is_without_room (Lacking chunk e is) h = absurd (let f = sym e ∙ h in cc)
  is_without_room (Full e can room) h = (can, room)
  is_without_room (Done e can room is quiet) h = absurd (let f = sym e ∙ h in cc)

  is_done : Came s req t → t.said ≡ None → HasRoom s req true
  is_done (Unbegun e is) h = absurd (let f = sym e ∙ h in cc)
  is_done (Stuck e begun is) h = absurd (let f = sym e ∙ h in cc)
  is_done (Lacking chunk e is) h = absurd (let f = sym e ∙ h in cc)
  is_done (Full e can room) h = absurd (let f = sym e ∙ h in cc)
  is_done (Done e can room is quiet) h = (can, room)

  says_unbegun : Came s req t → is_rolling s.durable.phase ≡ false → t.said ≡ Some refusals.NotUpgrading
  says_unbegun (Unbegun e is) h = e
  says_unbegun (Stuck e begun is) h = absurd (begun_and_not s req h begun)
  says_unbegun (Lacking chunk e is) h = absurd (begun_and_not s req h is.begun)
  says_unbegun (Full e can room) h = absurd (begun_and_not s req h can.begun)
  says_unbegun (Done e can room is quiet) h = absurd (begun_and_not s req h can.begun)

  says_stuck : Came s req t → (is_rolling s.durable.phase ≡ true) × (all_undone s.durable.inverses s.durable.names ≡ None) → t.said ≡ Some refusals.BadLine
  says_stuck (Unbegun e is) h = absurd (begun_and_not s req is h.0)
  says_stuck (Stuck e begun is) h = e
  says_stuck (Lacking chunk e is) h = absurd (none_and_some s req h.1 is.back)
  says_stuck (Full e can room) h = absurd (none_and_some s req h.1 can.back)
  says_stuck (Done e can room is quiet) h = absurd (none_and_some s req h.1 can.back)

  says_lacking : (other : ℕ) → Came s req t → IsFirstUnrestored s other → t.said ≡ Some (refusals.Unrestored other)
  says_lacking other (Unbegun e is) h = absurd (begun_and_not s req is h.begun)
  says_lacking other (Stuck e begun is) h = absurd (none_and_some s req is h.back)
  says_lacking other (Lacking chunk e is) h = e ∙ ap (λ c. Some (refusals.Unrestored c)) (same_first s req chunk other is h)
  says_lacking other (Full e can room) h = absurd (can_and_lacks s req other can h)
  says_lacking other (Done e can room is quiet) h = absurd (can_and_lacks s req other can h)

  says_full : Came s req t → HasRoom s req false → t.said ≡ Some refusals.Full
  says_full (Unbegun e is) h = absurd (begun_and_not s req is h.0.begun)
  says_full (Stuck e begun is) h = absurd (none_and_some s req is h.0.back)
  says_full (Lacking chunk e is) h = absurd (can_and_lacks s req chunk h.0 is)
  says_full (Full e can room) h = e
  says_full (Done e can room is quiet) h = absurd (false≢true (sym h.1 ∙ room_same s req h.0 can ∙ room))

  says_done : Came s req t → HasRoom s req true → t.said ≡ None
  says_done (Unbegun e is) h = absurd (begun_and_not s req is h.0.begun)
  says_done (Stuck e begun is) h = absurd (none_and_some s req is h.0.back)
  says_done (Lacking chunk e is) h = absurd (can_and_lacks s req chunk h.0 is)
  says_done (Full e can room) h = absurd (false≢true (sym room ∙ room_same s req can h.0 ∙ h.1))
  says_done (Done e can room is quiet) h = e

  has_records : (other : CanCommit s) → Came s req t → t.said ≡ None → t.records ≡ commit_record s other.names ∷ []
  has_records other (Unbegun e is) h = absurd (false≢true (ap is_some (sym h ∙ e)))
  has_records other (Stuck e begun is) h = absurd (false≢true (ap is_some (sym h ∙ e)))
  has_records other (Lacking chunk e is) h = absurd (false≢true (ap is_some (sym h ∙ e)))
  has_records other (Full e can room) h = absurd (false≢true (ap is_some (sym h ∙ e)))
  has_records other (Done e can room is quiet) h = is ∙ ap (λ n. commit_record s n ∷ []) (names_same s req can.back other.back)

  is_quiet : Came s req t → t.said ≡ None → IsQuiet s req t
  is_quiet (Unbegun e is) h = absurd (false≢true (ap is_some (sym h ∙ e)))
  is_quiet (Stuck e begun is) h = absurd (false≢true (ap is_some (sym h ∙ e)))
  is_quiet (Lacking chunk e is) h = absurd (false≢true (ap is_some (sym h ∙ e)))
  is_quiet (Full e can room) h = absurd (false≢true (ap is_some (sym h ∙ e)))
  is_quiet (Done e can room is quiet) h = quiet

  in_order : Came s req t → CommitsInOrder s t
  in_order c = record {
    unbegun = (is_unbegun c, says_unbegun c);
    stuck = (is_stuck c, says_stuck c);
    unrestored = λ chunk. (is_lacking chunk c, says_lacking chunk c);
    full = (is_without_room c, says_full c);
    done = (is_done c, says_done c);
    records = λ can none. has_records can c none;
    quiet = is_quiet c;
  }

-- ---- who has answered

members_are : (prepared : ℕ → Option Prepared) (told : ℕ → List ℕ) (refs : List (ℕ × ℕ)) (chunk : ℕ) → is_some (fin.find nat_cmp chunk refs) ≡ true →
    members_for (answers_for prepared told refs) chunk ≡ restored_on (prepared chunk) (told chunk)
members_are prepared told [] chunk some = absurd (false≢true some)
members_are prepared told (r ∷ refs) chunk some = each (eq_by_cmp nat_cmp chunk r.0) refl some (members_are prepared told refs chunk)
  where
    each : (b : Bool) → eq_by_cmp nat_cmp chunk r.0 ≡ b → is_some (cond b (Some r.1) (fin.find nat_cmp chunk refs)) ≡ true
        → (is_some (fin.find nat_cmp chunk refs) ≡ true → members_for (answers_for prepared told refs) chunk ≡ restored_on (prepared chunk) (told chunk))
        → (if r.0 == chunk then restored_on (prepared r.0) (told r.0) else members_for (answers_for prepared told refs) chunk) ≡ restored_on (prepared chunk) (told chunk)
    each true is some later = ap (λ b. if b then restored_on (prepared r.0) (told r.0) else members_for (answers_for prepared told refs) chunk) (sym (is_tied chunk r.0) ∙ is)
        ∙ ap (λ c. restored_on (prepared c) (told c)) (sym (fin.nat_cmp-IsAntisymmetric chunk r.0 ((Equal-is (nat_cmp chunk r.0)).0 is)))
    each false is some later = ap (λ b. if b then restored_on (prepared r.0) (told r.0) else members_for (answers_for prepared told refs) chunk) (sym (is_tied chunk r.0) ∙ is) ∙ later some

module _ (s : State) (chunk server : ℕ) where
  has_told : (o : Option Prepared) → prepared_view s.durable chunk ≡ o → is_member (restored_on o (told_of s chunk)) server ≡ true → HasTold s chunk server
  has_told None is h = absurd (false≢true h)
  has_told (Some prepared) is h = by_number (nat_lt server 16) refl
    where
      by_number : (b : Bool) → nat_lt server 16 ≡ b → HasTold s chunk server
      by_number true low =
          let within : server < 16 = low_server server low in
          let parts = and_parts (is_member (told_of s chunk) server) (is_prepared_on prepared server) (sym (is_member-servers_where (λ m. is_member (told_of s chunk) m && is_prepared_on prepared m) server within) ∙ h) in
          record { is_server = within; prepared = prepared; kept = is; has_it = parts.1; told = parts.0 }
      by_number false high = absurd (false≢true (sym (is_member-servers_where_above (λ m. is_member (told_of s chunk) m && is_prepared_on prepared m) server (grind (arith, nat_tests))) ∙ h))

  is_named : HasTold s chunk server → is_member (restored_on (prepared_view s.durable chunk) (told_of s chunk)) server ≡ true
  is_named h = ap (λ o. is_member (restored_on o (told_of s chunk)) server) h.kept
      ∙ is_member-servers_where (λ m. is_member (told_of s chunk) m && is_prepared_on h.prepared m) server h.is_server ∙ both_true (is_member (told_of s chunk) server) (is_prepared_on h.prepared server) h.told h.has_it

pub answers_exactly : AnswersExactly
answers_exactly s names chunk server listed =
    let are = members_are (prepared_view s.durable) (told_of s) (fin.entries names.refs) chunk (ap is_some (sym (fin.get-entries names.refs chunk)) ∙ listed) in (
      λ h. has_told s chunk server (prepared_view s.durable chunk) refl (ap (λ m. is_member m server) (sym are) ∙ h),
      λ h. ap (λ m. is_member m server) are ∙ is_named s chunk server h,
    )

pub refuses_in_order : RefusesInOrder
refuses_in_order s req = in_order s req (rollback_commit s req) (came s req)

pub commits_exactly : CommitsExactly
commits_exactly s req = (of_phase s req (is_rolling s.durable.phase) refl, committed s req)

-- ---- what comes before

-- it names no path
no_lock : (req : ReqId) (locks : List Lock) → stands_in_the_way locks req [] [] ≡ false
no_lock req [] = refl
no_lock req (lock ∷ locks) = ap (λ b. b || stands_in_the_way locks req [] []) (free (not (same_op req lock.op)) lock.writes) ∙ no_lock req locks
  where
    free : (other writes : Bool) → (other && cond writes (false || false) false) ≡ false
    free true true = refl
    free true false = refl
    free false writes = refl

pub taken_unless_failed : IsTakenUnlessFailed
taken_unless_failed config s req moment =
    ap (λ locked. called_unless config s req moment calls.RollbackCommit (first_of (ordered (is_failed s.fault) (is_rolling s.durable.phase) s.volatile.is_preparing locked calls.RollbackCommit))) (no_lock req s.volatile.locks)
    ∙ where_these (is_failed s.fault) (is_rolling s.durable.phase) s.volatile.is_preparing
  where
    where_these : (failed rolling preparing : Bool) →
        called_unless config s req moment calls.RollbackCommit (first_of (ordered failed rolling preparing false calls.RollbackCommit)) ≡ (if failed then refused s req refusals.Device else rollback_commit s req)
    where_these true rolling preparing = refl
    where_these false true true = refl
    where_these false true false = refl
    where_these false false true = refl
    where_these false false false = refl
