-- How one part of a turn after the other comes to the whole of it.
use Rattle.std.proofs.Common.{◌≡◌, ◌⊎◌, inl, inr, ℕ, ◌+◌, ◌<◌, ◌≤◌, Bool, false, List, [], ◌∷◌, ◌++◌, map, drop, drop-cons, get_or, length, add-one, Option, Some, None, Result, Ok, Err, refl, sym, ap, subst, ◌∙◌, ⊎_elim, append_assoc, append-nil, arith}
use Rattle.std.proofs.lemmas.Bool.Decides.{nat_tests}
use Rattle.std.proofs.lemmas.List.{drop_all}
use Rattle.std.proofs.lemmas.List.Sums.{fold-append, sum_by-append}
use Rattle.std.specs.Prelude.{fold, nat_le, option_and_then}
use Rattle.std.specs.List.{AllByRecursion}
use Rattle.gs_base.specs.declared.refusal.Refusal.{Refusal}
use Rattle.gs_journal.specs.declared.version.Version.TheVariants.{Two}
use Rattle.gs_master_record.specs.Plain.{PlainEntry, plain}
use Rattle.gs_master_record.specs.Writable.{IsEntry}
use Rattle.gs_master_spec.specs.Applied.{applied, replayed}
use Rattle.gs_master_spec.specs.Durable.{Durable}
use Rattle.gs_master.specs.inner.Events.{log_behind}
use Rattle.gs_master_state.specs.inner.Plans.{log_of}
use Rattle.gs_master_state.specs.inner.Recorded.{durable_of}
use Rattle.gs_master_spec.specs.State.{State, Turn, Log, and_then, fits, first_said, for_each, joined, size_of, size_of_all, unmoved, with_record}
use Rattle.gs_master.specs.inner.Turns.{AreUnfit, HaveRoom, IsTurned, EventSteps, WhyNotTurned, state_at}
use Rattle.gs_master.specs.declared.event.Event.{Event}

-- ---- lists

module _ {X : Type 0} (P : X → Type 0) where
  pub all_joined : (xs ys : List X) → AllByRecursion P xs → AllByRecursion P ys → AllByRecursion P (xs ++ ys)
  all_joined [] ys h k = k
  all_joined (x ∷ xs) ys h k = (h.0, all_joined xs ys h.1 k)

  pub all_front : (xs ys : List X) → AllByRecursion P (xs ++ ys) → AllByRecursion P xs
  all_front [] ys h = tt
  all_front (x ∷ xs) ys h = (h.0, all_front xs ys h.1)

  all_back : (xs ys : List X) → AllByRecursion P (xs ++ ys) → AllByRecursion P ys
  all_back [] ys h = h
  all_back (x ∷ xs) ys h = all_back xs ys h.1

-- ---- records one after the other

bound_twice : {A B C : Type 0} (o : Option A) (f : A → Option B) (g : B → Option C) (h : A → Option C) → ((x : A) → h x ≡ option_and_then g (f x)) → option_and_then h o ≡ option_and_then g (option_and_then f o)
bound_twice None f g h same = refl
bound_twice (Some x) f g h same = same x

pub replayed_both : (d : Durable) (xs ys : List PlainEntry) → replayed d (xs ++ ys) ≡ option_and_then (λ mid. replayed mid ys) (replayed d xs)
replayed_both d [] ys = refl
replayed_both d (x ∷ xs) ys = bound_twice (applied d x) (λ next. replayed next xs) (λ mid. replayed mid ys) (λ next. replayed next (xs ++ ys)) (λ next. replayed_both next xs ys)

replayed_on : (d : Durable) (o : Option Durable) (xs ys : List PlainEntry) → replayed d xs ≡ o → replayed d (xs ++ ys) ≡ option_and_then (λ mid. replayed mid ys) o
replayed_on d o xs ys h = replayed_both d xs ys ∙ ap (option_and_then (λ mid. replayed mid ys)) h

unfit_front : (d : Durable) (xs ys : List PlainEntry) → AreUnfit xs d → AreUnfit (xs ++ ys) d
unfit_front d xs ys h = ⊎_elim (λ none. inl (replayed_on d None xs ys none)) (λ bad. inr (λ all. bad (all_front (IsEntry Two) xs ys all))) h

unfit_back : (d mid : Durable) (xs ys : List PlainEntry) → replayed d xs ≡ Some mid → AreUnfit ys mid → AreUnfit (xs ++ ys) d
unfit_back d mid xs ys before h = ⊎_elim (λ none. inl (replayed_on d (Some mid) xs ys before ∙ none)) (λ bad. inr (λ all. bad (all_back (IsEntry Two) xs ys all))) h

-- ---- room

-- what a plan of these records leaves of the journal
pub logged : (s : State) (records : List PlainEntry) → (fold with_record s records).log ≡ fold log_behind s.log records
logged s [] = refl
logged s (x ∷ xs) = logged (with_record s x) xs

one_more : (a b c all : ℕ) → all ≡ a + b + c → all ≡ a + (b + c)
one_more a b c all h = omega arith

from_nothing : (a b all : ℕ) → all ≡ 0 + a + b → all ≡ a + b
from_nothing a b all h = omega arith

size_of_next : (x : PlainEntry) (xs : List PlainEntry) → size_of_all (x ∷ xs) ≡ size_of x + size_of_all xs
size_of_next x xs = from_nothing (size_of x) (size_of_all xs) _ (sum_by-append size_of (x ∷ []) xs)

logged_size : (log : Log) (xs : List PlainEntry) → (fold log_behind log xs).size ≡ log.size + size_of_all xs
logged_size log [] = omega arith
logged_size log (x ∷ xs) = one_more log.size (size_of x) (size_of_all xs) _ (logged_size (log_behind log x) xs) ∙ ap (λ n. log.size + n) (sym (size_of_next x xs))

logged_limit : (log : Log) (xs : List PlainEntry) → (fold log_behind log xs).limit ≡ log.limit
logged_limit log [] = refl
logged_limit log (x ∷ xs) = logged_limit (log_behind log x) xs

sums_both : (log : Log) (xs ys : List PlainEntry) → (fold log_behind log xs).size + size_of_all ys ≡ log.size + size_of_all (xs ++ ys)
sums_both log xs ys = one_more log.size (size_of_all xs) (size_of_all ys) _ (ap (λ n. n + size_of_all ys) (logged_size log xs)) ∙ ap (λ n. log.size + n) (sym (sum_by-append size_of xs ys))

-- what fits behind some records fits with them
pub fits_both : (log mid : Log) (xs ys : List PlainEntry) → mid ≡ fold log_behind log xs → fits mid ys ≡ fits log (xs ++ ys)
fits_both log mid xs ys h =
    ap (λ l. fits l ys) h ∙ ap (λ limit. nat_le ((fold log_behind log xs).size + size_of_all ys) limit) (logged_limit log xs) ∙ ap (λ size. nat_le size log.limit) (sums_both log xs ys)

no_more : (a b c limit : ℕ) → nat_le (a + b) limit ≡ false → nat_le (a + (b + c)) limit ≡ false
no_more a b c limit h = grind (arith, nat_tests)

pub fits_less : (log : Log) (xs ys : List PlainEntry) → fits log xs ≡ false → fits log (xs ++ ys) ≡ false
fits_less log xs ys h = ap (λ n. nat_le (log.size + n) log.limit) (sum_by-append size_of xs ys) ∙ no_more log.size (size_of_all xs) (size_of_all ys) log.limit h

room_joined : (old mid : Event) (xs ys : List PlainEntry) → log_of mid.log ≡ fold log_behind (log_of old.log) xs → HaveRoom xs old → HaveRoom ys mid → HaveRoom (xs ++ ys) old
room_joined old mid xs ys logs (inl none) (inl nor) = inl (ap (λ l. l ++ ys) none ∙ nor)
room_joined old mid xs ys logs (inr first) (inl nor) = inr (ap (λ l. fits (log_of old.log) (xs ++ l)) nor ∙ ap (fits (log_of old.log)) (append-nil xs) ∙ first)
room_joined old mid xs ys logs first (inr then) = inr (sym (fits_both (log_of old.log) (log_of mid.log) xs ys logs) ∙ then)

-- ---- two parts of a turn

said_first : (a b c : Option Refusal) → first_said (first_said a b) c ≡ first_said a (first_said b c)
said_first None b c = refl
said_first (Some x) b c = refl

pub turned_both : (t next : Turn) (old mid new : Event) → IsTurned t old mid → IsTurned next mid new → IsTurned (joined t next) old new
turned_both t next old mid new first then = record {
  after = then.after;
  replays = replayed_on (durable_of old.recorded) (Some (durable_of mid.recorded)) t.records next.records first.replays ∙ then.replays;
  are_entries = all_joined (IsEntry Two) t.records next.records first.are_entries then.are_entries;
  room = room_joined old mid t.records next.records first.log first.room then.room;
  log = then.log ∙ ap (λ log. fold log_behind log next.records) first.log ∙ sym (fold-append log_behind (log_of old.log) t.records next.records);
  entries = then.entries ∙ ap (λ before. before ++ next.records) first.entries ∙ append_assoc (map plain old.entries.items) t.records next.records;
  sent = then.sent ∙ ap (λ before. before ++ next.sent) first.sent ∙ append_assoc old.sent.items t.sent next.sent;
  said = then.said ∙ ap (λ said. first_said said next.said) first.said ∙ said_first old.said t.said next.said;
}

-- a part that isn't done leaves the whole undone
pub why_not_first : (t next : Turn) (old : Event) (e : Refusal) → WhyNotTurned t old e → WhyNotTurned (joined t next) old e
why_not_first t next old e (inl memory) = inl memory
why_not_first t next old e (inr (inl full)) = inr (inl (full.0, fits_less (log_of old.log) t.records next.records full.1))
why_not_first t next old e (inr (inr unfit)) = inr (inr (unfit.0, unfit_front (durable_of old.recorded) t.records next.records unfit.1))

pub why_not_then : (t next : Turn) (old mid : Event) (e : Refusal) → IsTurned t old mid → WhyNotTurned next mid e → WhyNotTurned (joined t next) old e
why_not_then t next old mid e first (inl memory) = inl memory
why_not_then t next old mid e first (inr (inl full)) =
    inr (inl (full.0, sym (fits_both (log_of old.log) (log_of mid.log) t.records next.records first.log) ∙ full.1))
why_not_then t next old mid e first (inr (inr unfit)) =
    inr (inr (unfit.0, unfit_back (durable_of old.recorded) (durable_of mid.recorded) t.records next.records first.replays unfit.1))

pub steps_both : (t next : Turn) (old mid new : Event) (result : Result (Unit {0}) Refusal) → IsTurned t old mid → EventSteps next mid result new → EventSteps (joined t next) old result new
steps_both t next old mid new (Ok done) first then = turned_both t next old mid new first then
steps_both t next old mid new (Err e) first then = why_not_then t next old mid e first then

-- the same of one thing, and in the state that it leaves another
pub steps_and : (t : Turn) (next : State → Turn) (old mid new : Event) (result : Result (Unit {0}) Refusal) → IsTurned t old mid → EventSteps (next (state_at mid)) mid result new → EventSteps (and_then t next) old result new
steps_and t next old mid new result first then = steps_both t (next t.after) old mid new result first (subst (λ s. EventSteps (next s) mid result new) first.after then)

pub why_not_and : (t : Turn) (next : State → Turn) (old : Event) (e : Refusal) → WhyNotTurned t old e → WhyNotTurned (and_then t next) old e
why_not_and t next old e why = why_not_first t (next t.after) old e why

-- ---- the rest of a turn

-- whatever the rest comes to, the whole comes to from the start
pub record LeadsOn (whole rest : Turn) (old mid : Event) : Type 0 where
  pub on : (result : Result (Unit {0}) Refusal) (new : Event) → EventSteps rest mid result new → EventSteps whole old result new

pub leads_from_start : (t : Turn) (old : Event) → LeadsOn t t old old
leads_from_start t old = record { on = λ result new steps. steps }

pub leads_further : (whole t rest : Turn) (old mid new : Event) → LeadsOn whole (joined t rest) old mid → IsTurned t mid new → LeadsOn whole rest old new
leads_further whole t rest old mid new leads is = record { on = λ result end steps. leads.on result end (steps_both t rest mid new end result is steps) }

pub leads_to_end : (whole rest : Turn) (old mid new : Event) → LeadsOn whole rest old mid → IsTurned rest mid new → IsTurned whole old new
leads_to_end whole rest old mid new leads is = leads.on (Ok tt) new is

pub leads_to_refusal : (whole t rest : Turn) (old mid : Event) (e : Refusal) → LeadsOn whole (joined t rest) old mid → WhyNotTurned t mid e → WhyNotTurned whole old e
leads_to_refusal whole t rest old mid e leads why = leads.on (Err e) mid (why_not_first t rest mid e why)

-- ---- a turn without records

pub said_as_before : (said : Option Refusal) → said ≡ first_said said None
said_as_before None = refl
said_as_before (Some e) = refl

pub unmoved_stays : (e : Event) → IsTurned (unmoved (state_at e)) e e
unmoved_stays e = record {
  after = refl;
  replays = refl;
  are_entries = tt;
  room = inl refl;
  log = refl;
  entries = sym (append-nil (map plain e.entries.items));
  sent = sym (append-nil e.sent.items);
  said = said_as_before e.said;
}

-- ---- one after the other

module _ {A : Type 0} (step : A → State → Turn) where
  -- from a place in a list on
  abbrev pub rest_of : State → List A → ℕ → Turn
  rest_of s xs place = for_each s (drop place xs) step

  at_next : (s : State) (xs : List A) (place : ℕ) (d : A) → place < length xs → rest_of s xs place ≡ joined (step (get_or xs place d) s) (rest_of (step (get_or xs place d) s).after xs (place + 1))
  at_next s xs place d below =
      ap (λ l. for_each s l step) (drop-cons xs place d below)
      ∙ ap (λ k. joined (step (get_or xs place d) s) (for_each (step (get_or xs place d) s).after (drop k xs) step)) (sym (add-one place))

  pub one_further : (whole : Turn) (old mid new : Event) (xs : List A) (place : ℕ) (d : A) → place < length xs
      → LeadsOn whole (rest_of (state_at mid) xs place) old mid → IsTurned (step (get_or xs place d) (state_at mid)) mid new → LeadsOn whole (rest_of (state_at new) xs (place + 1)) old new
  one_further whole old mid new xs place d below leads turned =
      subst (λ s. LeadsOn whole (rest_of s xs (place + 1)) old new) (sym turned.after)
      (leads_further whole (step (get_or xs place d) (state_at mid)) _ old mid new (subst (λ t. LeadsOn whole t old mid) (at_next (state_at mid) xs place d below) leads) turned)

  pub one_refused : (whole : Turn) (old mid : Event) (xs : List A) (place : ℕ) (d : A) (e : Refusal) → place < length xs
      → LeadsOn whole (rest_of (state_at mid) xs place) old mid → WhyNotTurned (step (get_or xs place d) (state_at mid)) mid e → WhyNotTurned whole old e
  one_refused whole old mid xs place d e below leads why =
      leads_to_refusal whole (step (get_or xs place d) (state_at mid)) _ old mid e (subst (λ t. LeadsOn whole t old mid) (at_next (state_at mid) xs place d below) leads) why

  -- the same of an item that is known to stand there
  pub item_further : (whole : Turn) (old mid new : Event) (xs : List A) (place : ℕ) (x : A) → place < length xs → x ≡ get_or xs place x
      → LeadsOn whole (rest_of (state_at mid) xs place) old mid → IsTurned (step x (state_at mid)) mid new → LeadsOn whole (rest_of (state_at new) xs (place + 1)) old new
  item_further whole old mid new xs place x below is leads turned = one_further whole old mid new xs place x below leads (subst (λ y. IsTurned (step y (state_at mid)) mid new) is turned)

  pub item_refused : (whole : Turn) (old mid : Event) (xs : List A) (place : ℕ) (x : A) (e : Refusal) → place < length xs → x ≡ get_or xs place x
      → LeadsOn whole (rest_of (state_at mid) xs place) old mid → WhyNotTurned (step x (state_at mid)) mid e → WhyNotTurned whole old e
  item_refused whole old mid xs place x e below is leads why = one_refused whole old mid xs place x e below leads (subst (λ y. WhyNotTurned (step y (state_at mid)) mid e) is why)

  pub none_left : (whole : Turn) (old mid : Event) (xs : List A) (place : ℕ) → length xs ≤ place → LeadsOn whole (rest_of (state_at mid) xs place) old mid → IsTurned whole old mid
  none_left whole old mid xs place above leads =
      leads_to_end whole _ old mid mid leads (subst (λ l. IsTurned (for_each (state_at mid) l step) mid mid) (sym (drop_all place xs above)) (unmoved_stays mid))
