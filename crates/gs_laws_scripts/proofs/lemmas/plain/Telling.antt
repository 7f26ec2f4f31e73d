-- Every server is told how an epoch ended, and answers that it names nothing; the master does nothing with that.
use Rattle.std.proofs.Common.{arith, ◌≡◌, ◌∙◌, ◌++◌, ◌+◌, ◌==◌, ℕ, suc, Bool, true, false, cond, List, [], ◌∷◌, length, map, refl, sym, ap, subst}
use Rattle.std.specs.Prelude.{Option, Some, filter, slice_get, slice_set}
use Rattle.std.specs.FinMap as fin
use Rattle.std.specs.List.{AllByRecursion}
use Rattle.std.specs.Ordering.{nat_cmp}
use Rattle.std.proofs.lemmas.Bool.Decides.{nat_tests}
use Rattle.gs_base.specs.Members.{count_from}
use Rattle.gs_base.specs.declared.config.Config.{Config}
use Rattle.gs_base.specs.declared.epoch.EpochEnd.{EpochEnd}
use Rattle.gs_base.specs.declared.epoch.EpochEnd.TheVariants as ends
use Rattle.gs_base.specs.declared.numbers.Moment.{Moment}
use Rattle.gs_base.specs.declared.refusal.Refusal.TheVariants as refusals
use Rattle.gs_client.specs.Nodes.{Node}
use Rattle.gs_laws_plain.proofs.lemmas.calm.Returning.{learned_leaves}
use Rattle.gs_laws_plain.specs.calm.Calm.{IsStill}
use Rattle.gs_master_spec.specs.Handling.{handle}
use Rattle.gs_master_spec.specs.State.{State, post}
use Rattle.gs_msg.specs.declared.body.Body.TheVariants as bodies
use Rattle.gs_msg.specs.declared.message.Message.{Message}
use Rattle.gs_msg.specs.declared.node.NodeId.TheVariants as nodes
use Rattle.gs_server.specs.Servers.{Server, learn, learned, leases_after, named_at, store_of, with_leases, with_store}
use Rattle.gs_server_lease.specs.Leases.{tell}
use Rattle.gs_store.specs.Learning.{is_named}
use Rattle.gs_store.specs.Slots.{Slot}
use Rattle.gs_store.specs.Stores as stores
use Rattle.gs_store.specs.Stores.{each, gone_on}
use Rattle.gs_laws_scripts.specs.answers.Plain.{Plain, delivers}
use Rattle.gs_laws_scripts.proofs.lemmas.plain.Delivering.{Leads, drops_behind, leads_none, none_behind, one_behind, one_step, sends_in, store, to_master}

-- ---- one server

-- it is in this epoch, and has heard of no chunk
pub record IsAt (epoch : ℕ) (s : Server) : Type 0 where
  pub now : s.kept.epoch ≡ epoch
  pub blank : fin.entries s.kept.slots ≡ []

still_blank : (f : Slot → Slot) (slots : fin.FinMap nat_cmp Slot) → fin.entries slots ≡ [] → fin.entries (each f slots) ≡ []
unfolding each
still_blank f slots none = ap (λ (es : List (ℕ × Slot)). fin.entries (fin.from_sorted {R = nat_cmp} (map (λ e. (e.0, f e.1)) es))) none ∙ fin.entries-from_sorted nat_cmp [] tt

-- what the server is behind the next epoch
abbrev gone : Server → ℕ → EpochEnd → Server
gone s epoch end = with_leases (leases_after end s.dropped.leases) (with_store (stores.learned epoch end (store_of s)) s)

gone_at : (s : Server) (epoch : ℕ) (end : EpochEnd) → fin.entries s.kept.slots ≡ [] → IsAt epoch (gone s epoch end)
gone_at s epoch end none = record { now = refl; blank = still_blank (gone_on end epoch) s.kept.slots none }

names_nothing : (s : Server) (epoch : ℕ) (end : EpochEnd) → fin.entries s.kept.slots ≡ [] → named_at end epoch (store_of s) ≡ []
names_nothing s epoch ends.Rollback none = ap (λ (es : List (ℕ × Slot)). map (λ e. e.0) (filter (λ e. is_named epoch e.1) es)) none
names_nothing s epoch ends.Prepare none = refl
names_nothing s epoch ends.Finalize none = refl

-- it answers that it has learned it
abbrev pub answer_of : ℕ → ℕ → Message
answer_of epoch me = tell me nodes.Master (bodies.Learned epoch [])

pub record Learns (s : Server) (epoch : ℕ) (end : EpochEnd) : Type 0 where
  pub after : (learn s epoch end).after ≡ gone s epoch end
  pub sent : (learn s epoch end).sent ≡ answer_of epoch s.me ∷ []

learns : (s : Server) (epoch : ℕ) (end : EpochEnd) → IsAt epoch s → Learns s (epoch + 1) end
learns s epoch end at = subst (λ (n : ℕ). Learns s (n + 1) end) at.now (each_way (s.kept.epoch + 1 == s.kept.epoch) (s.kept.epoch + 1 == s.kept.epoch + 1) refl refl)
  where
    each_way : (same next : Bool) → (s.kept.epoch + 1 == s.kept.epoch) ≡ same → (s.kept.epoch + 1 == s.kept.epoch + 1) ≡ next → Learns s (s.kept.epoch + 1) end
    each_way true next a b = absurd (grind (arith, nat_tests))
    each_way false false a b = absurd (grind (arith, nat_tests))
    each_way false true a b = record {
      after = ap (λ (b : Bool). (cond b (learned s (s.kept.epoch + 1) end s) (cond (s.kept.epoch + 1 == s.kept.epoch + 1) (learned s (s.kept.epoch + 1) end (gone s (s.kept.epoch + 1) end)) (record { after = s; sent = tell s.me nodes.Master (bodies.Behind s.kept.epoch) ∷ []; said = Some (refusals.Epoch s.kept.epoch) }))).after) a
          ∙ ap (λ (b : Bool). (cond b (learned s (s.kept.epoch + 1) end (gone s (s.kept.epoch + 1) end)) (record { after = s; sent = tell s.me nodes.Master (bodies.Behind s.kept.epoch) ∷ []; said = Some (refusals.Epoch s.kept.epoch) })).after) b;
      sent = ap (λ (b : Bool). (cond b (learned s (s.kept.epoch + 1) end s) (cond (s.kept.epoch + 1 == s.kept.epoch + 1) (learned s (s.kept.epoch + 1) end (gone s (s.kept.epoch + 1) end)) (record { after = s; sent = tell s.me nodes.Master (bodies.Behind s.kept.epoch) ∷ []; said = Some (refusals.Epoch s.kept.epoch) }))).sent) a
          ∙ ap (λ (b : Bool). (cond b (learned s (s.kept.epoch + 1) end (gone s (s.kept.epoch + 1) end)) (record { after = s; sent = tell s.me nodes.Master (bodies.Behind s.kept.epoch) ∷ []; said = Some (refusals.Epoch s.kept.epoch) })).sent) b
          ∙ ap (λ (names : List ℕ). tell s.me nodes.Master (bodies.Learned (s.kept.epoch + 1) names) ∷ []) (names_nothing (gone s (s.kept.epoch + 1) end) (s.kept.epoch + 1) end (gone_at s (s.kept.epoch + 1) end at.blank).blank);
    }

-- ---- all servers

pub got : {A : Type 0} (before : List A) (x : A) (after : List A) → slice_get (before ++ x ∷ after) (length before) ≡ Some x
got [] x after = refl
got (y ∷ before) x after = got before x after

pub put : {A : Type 0} (before : List A) (x y : A) (after : List A) → slice_set (before ++ x ∷ after) (length before) y ≡ before ++ y ∷ after
put [] x y after = refl
put (z ∷ before) x y after = ap (λ zs. z ∷ zs) (put before x y after)

longer : {A : Type 0} (before : List A) (x : A) → length (before ++ x ∷ []) ≡ length before + 1
longer [] x = omega arith
longer (y ∷ before) x = let rest = longer before x in omega arith

-- what each is told, and what each answers
abbrev pub told_from : ℕ → ℕ → EpochEnd → ℕ → List Message
told_from first epoch end many = map (λ server. post (nodes.Server server) (bodies.Epoch epoch end)) (count_from first many)

abbrev pub answers_of : ℕ → List Server → List Message
answers_of epoch all = map (λ (s : Server). answer_of epoch s.me) all

abbrev pub all_gone : List Server → ℕ → EpochEnd → List Server
all_gone all epoch end = map (λ s. gone s epoch end) all

pub all_at : (all : List Server) (epoch : ℕ) (end : EpochEnd) → AllByRecursion (IsAt epoch) all → AllByRecursion (IsAt (epoch + 1)) (all_gone all (epoch + 1) end)
all_at [] epoch end at = tt
all_at (s ∷ all) epoch end at = (gone_at s (epoch + 1) end at.0.blank, all_at all epoch end at.1)

pub same_many : (all : List Server) (epoch : ℕ) (end : EpochEnd) → length (all_gone all epoch end) ≡ length all
same_many [] epoch end = refl
same_many (s ∷ all) epoch end = ap suc (same_many all epoch end)

module _ (config : Config) (moment : Moment) (held : List Message) (s : State) (n : Node) where
  -- one is told
  one_told : (before : List Server) (sv : Server) (after : List Server) (epoch : ℕ) (end : EpochEnd) (queue : List Message) (drops : ℕ) → IsAt epoch sv →
      (next : ℕ) × Leads 1 (store config s (before ++ sv ∷ after) n moment (post (nodes.Server (length before)) (bodies.Epoch (epoch + 1) end) ∷ queue) held drops)
      (store config s (before ++ gone sv (epoch + 1) end ∷ after) n moment (queue ++ answer_of (epoch + 1) sv.me ∷ []) held next)
  one_told before sv after epoch end queue drops at =
      let l = learns sv epoch end at in (
        drops_behind (answer_of (epoch + 1) sv.me ∷ []) drops,
        λ more. one_step config moment held s (before ++ sv ∷ after) n (post (nodes.Server (length before)) (bodies.Epoch (epoch + 1) end)) queue drops more
            ∙ ap (λ (o : Option Server). delivers more (Rattle.gs_laws_scripts.specs.answers.Plain.at_found o (length before) (λ (x : Server). learn x (epoch + 1) end) (store config s (before ++ sv ∷ after) n moment queue held drops)).1) (got before sv after)
            ∙ ap (λ (ms : List Message). delivers more (Rattle.gs_laws_scripts.specs.answers.Plain.sends_all ms (store config s (slice_set (before ++ sv ∷ after) (length before) (learn sv (epoch + 1) end).after) n moment queue held drops))) l.sent
            ∙ ap (λ (x : Server). delivers more (Rattle.gs_laws_scripts.specs.answers.Plain.sends_all (answer_of (epoch + 1) sv.me ∷ []) (store config s (slice_set (before ++ sv ∷ after) (length before) x) n moment queue held drops))) l.after
            ∙ ap (λ (all : List Server). delivers more (Rattle.gs_laws_scripts.specs.answers.Plain.sends_all (answer_of (epoch + 1) sv.me ∷ []) (store config s all n moment queue held drops))) (put before sv (gone sv (epoch + 1) end) after)
            ∙ ap (delivers more) (sends_in config moment held (answer_of (epoch + 1) sv.me ∷ []) s (before ++ gone sv (epoch + 1) end ∷ after) n queue drops),
      )

  -- all behind some are told
  pub all_told : (before todo : List Server) (epoch : ℕ) (end : EpochEnd) (first : ℕ) (queue : List Message) (drops : ℕ) → first ≡ length before → AllByRecursion (IsAt epoch) todo →
      (next : ℕ) × Leads (length todo) (store config s (before ++ todo) n moment (told_from first (epoch + 1) end (length todo) ++ queue) held drops)
      (store config s (before ++ all_gone todo (epoch + 1) end) n moment (queue ++ answers_of (epoch + 1) todo) held next)
  all_told before [] epoch end first queue drops is at = (drops, λ more. leads_none (store config s (before ++ []) n moment queue held drops) more ∙ ap (λ q. delivers more (store config s (before ++ []) n moment q held drops)) (sym (none_behind queue)))
  all_told before (sv ∷ todo) epoch end first queue drops is at =
      let one = one_told before sv todo epoch end (told_from (first + 1) (epoch + 1) end (length todo) ++ queue) drops at.0 in
      let rest = all_told (before ++ gone sv (epoch + 1) end ∷ []) todo epoch end (first + 1) (queue ++ answer_of (epoch + 1) sv.me ∷ []) one.0 (ap (λ k. k + 1) is ∙ sym (longer before (gone sv (epoch + 1) end))) at.1 in (
        rest.0,
        λ more.
            ap (λ k. delivers k (store config s (before ++ sv ∷ todo) n moment (told_from first (epoch + 1) end (length (sv ∷ todo)) ++ queue) held drops)) (counts more)
            ∙ ap (λ k. delivers (1 + (length todo + more)) (store config s (before ++ sv ∷ todo) n moment (post (nodes.Server k) (bodies.Epoch (epoch + 1) end) ∷ (told_from (first + 1) (epoch + 1) end (length todo) ++ queue)) held drops)) is
            ∙ one.1 (length todo + more)
            ∙ ap (λ q. delivers (length todo + more) (store config s (before ++ gone sv (epoch + 1) end ∷ todo) n moment q held one.0)) (joins (told_from (first + 1) (epoch + 1) end (length todo)) queue (answer_of (epoch + 1) sv.me ∷ []))
            ∙ ap (λ all. delivers (length todo + more) (store config s all n moment (told_from (first + 1) (epoch + 1) end (length todo) ++ (queue ++ answer_of (epoch + 1) sv.me ∷ [])) held one.0)) (sym (one_behind before (gone sv (epoch + 1) end) todo))
            ∙ rest.1 more
            ∙ ap (λ all. delivers more (store config s all n moment ((queue ++ answer_of (epoch + 1) sv.me ∷ []) ++ answers_of (epoch + 1) todo) held rest.0)) (one_behind before (gone sv (epoch + 1) end) (all_gone todo (epoch + 1) end))
            ∙ ap (λ q. delivers more (store config s (before ++ gone sv (epoch + 1) end ∷ all_gone todo (epoch + 1) end) n moment q held rest.0)) (one_behind queue (answer_of (epoch + 1) sv.me) (answers_of (epoch + 1) todo)),
      )
    where
      counts : (more : ℕ) → length (sv ∷ todo) + more ≡ 1 + (length todo + more)
      counts more = omega arith

      joins : (a b c : List Message) → (a ++ b) ++ c ≡ a ++ (b ++ c)
      joins [] b c = refl
      joins (x ∷ a) b c = ap (λ xs. x ∷ xs) (joins a b c)

  -- ---- what they answer comes to the master, which does nothing with it

  pub answers_come : (all told : List Server) (epoch : ℕ) (drops : ℕ) → IsStill s → s.durable.epoch ≡ epoch →
      (next : ℕ) × Leads (length told) (store config s all n moment (answers_of epoch told) held drops) (store config s all n moment [] held next)
  answers_come all [] epoch drops still is = (drops, leads_none (store config s all n moment [] held drops))
  answers_come all (sv ∷ told) epoch drops still is =
      let heard = to_master config moment held s all n (nodes.Server sv.me) (bodies.Learned epoch []) (answers_of epoch told) drops in
      let leaves = subst (λ (e : ℕ). ((handle config s (record { from = nodes.Server sv.me; to = nodes.Master; body = bodies.Learned e [] }) moment).after ≡ s) × ((handle config s (record { from = nodes.Server sv.me; to = nodes.Master; body = bodies.Learned e [] }) moment).sent ≡ [])) is (learned_leaves config s moment sv.me nodes.Master still) in
      let rest = answers_come all told epoch heard.0 still is in (
        rest.0,
        λ more.
            ap (λ k. delivers k (store config s all n moment (answers_of epoch (sv ∷ told)) held drops)) (counts more)
            ∙ heard.1 (length told + more)
            ∙ ap (λ (t : State). delivers (length told + more) (store config t all n moment (answers_of epoch told ++ (handle config s (record { from = nodes.Server sv.me; to = nodes.Master; body = bodies.Learned epoch [] }) moment).sent) held heard.0)) leaves.0
            ∙ ap (λ (ms : List Message). delivers (length told + more) (store config s all n moment (answers_of epoch told ++ ms) held heard.0)) leaves.1
            ∙ ap (λ q. delivers (length told + more) (store config s all n moment q held heard.0)) (none_behind (answers_of epoch told))
            ∙ rest.1 more,
      )
    where
      counts : (more : ℕ) → length (sv ∷ told) + more ≡ 1 + (length told + more)
      counts more = omega arith
