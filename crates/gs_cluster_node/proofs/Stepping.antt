-- One event more leaves a node sound.
use Rattle.std.proofs.Common.{◌≡◌, ℕ, suc, ◌+◌, ◌<◌, List, [], ◌∷◌, ◌++◌, map, length, Option, Some, None, Result, refl, sym, ap, ◌∙◌, subst, arith, length-append, min}
use Rattle.std.specs.Prelude.{IfSome}
use Rattle.gs_base.specs.declared.numbers.Moment.{Moment}
use Rattle.gs_base.specs.declared.refusal.Refusal.{Refusal}
use Rattle.gs_msg.specs.declared.message.Message.{Message}
use Rattle.gs_msg.specs.declared.node.NodeId.{NodeId}
use Rattle.gs_msg.specs.declared.sent.Sent.{Sent}
use Rattle.gs_cluster_channel.specs.Settled.{Hearing, Putting}
use Rattle.gs_cluster_history.specs.declared.took.Took.{Took}
use Rattle.gs_cluster_history.specs.declared.took.Took.TheVariants.{Heard, Did}
use Rattle.gs_cluster_history.specs.Histories.{Entry, Kept, Leads, Listed, MayTake, Past, Takes, Upshot, listed, moment_of, out_of}
use Rattle.gs_cluster_history.specs.Logs.{sent_at}
use Rattle.gs_cluster_history.specs.Merging.{event_of}
use Rattle.gs_cluster_notes.specs.Notes.{Keeps, dated_of}
use Rattle.gs_cluster_notes.specs.declared.notes.Dated.{Dated}
use Rattle.gs_cluster_notes.specs.declared.notes.Notes.{Notes}
use Rattle.gs_cluster_node.specs.Nodes.{AllListed, IsSound, Stepped, heard_in, heard_of, last_clock, next_clock}
use Rattle.gs_cluster_node.specs.inner.Acting.{Acts, AllOwn, AreAt, Counts, Goes, Routes}
use Rattle.gs_cluster_node.proofs.Listing.{are_behind, still_listed, still_own}

heard_on : (took : Took) (xs ys : List Sent) → heard_in took (xs ++ ys) ≡ heard_in took xs ++ ys
heard_on (Heard sent) xs ys = refl
heard_on (Did event) xs ys = refl

heard_last : (es : List Entry) (e : Entry) → heard_of (es ++ e ∷ []) ≡ heard_of es ++ heard_in e.took []
heard_last [] e = refl
heard_last (x ∷ es) e = ap (heard_in x.took) (heard_last es e) ∙ heard_on x.took (heard_of es) (heard_in e.took [])

abbrev pub past_as : {C : Type 0} → C → ℕ → List Listed → Past C
past_as core clock sent = record { core = core; clock = clock; sent = sent }

abbrev pub kept_as : {C : Type 0} → NodeId → C → ℕ → List Listed → List Entry → Kept C
kept_as me core clock sent entries = record { me = me; past = past_as core clock sent; entries = entries }

pub map_length : {A B : Type 0} (f : A → B) (xs : List A) → length (map f xs) ≡ length xs
map_length f [] = refl
map_length f (x ∷ xs) = ap suc (map_length f xs)

-- as many messages are counted as were sent at first
pub first_count : (messages : List Message) (sent : List Listed) (count : ℕ) → count ≡ length messages → sent ≡ map (listed 0 (record { 0 = 0 })) messages → count ≡ length sent
first_count messages sent count e same = e ∙ sym (map_length (listed 0 (record { 0 = 0 })) messages) ∙ ap length (sym same)

-- what is noted of an event
is_dated : (dated : Option Dated) (e : Entry) (took : Took) (clock : ℕ) → e.took ≡ took → e.clock ≡ clock → IfSome dated (λ d. d ≡ record { clock = clock; event = event_of took }) → IfSome dated (λ d. d ≡ dated_of e)
is_dated None e took clock of at is = tt
is_dated (Some d) e took clock of at is =
    is ∙ ap (λ (t : Took). record { clock = clock; event = event_of t }) (sym of) ∙ ap (λ (c : ℕ). record { clock = c; event = event_of e.took }) (sym at)

module _ {C : Type 0} (Does : Took → C → Upshot → C → Type 0) where
  leads_on : (me : NodeId) (p : Past C) (es : List Entry) (q r : Past C) (e : Entry) → Leads Does me p es q → Takes Does me q e r → Leads Does me p (es ++ e ∷ []) r
  leads_on me p [] q r e l t = (r, subst (λ (z : Past C). Takes Does me z e r) l t, refl)
  leads_on me p (x ∷ es) q r e (mid, u, l) t = (mid, u, leads_on me mid es q r e l t)

  module _ (me : NodeId) (took : Took) (clock : ℕ) (old_core : C) (entries : List Entry) (sent : List Listed) (out : List Message) (moment : Moment) (said : Result (Unit {0}) Refusal)
      (core : C) (new_entries : List Entry) (new_sent : List Listed) where
    -- what was sent stands at the end
    same_sent : (a : Acts Does took clock old_core entries sent out moment said core new_entries new_sent) → new_sent ≡ sent ++ map (listed clock moment) out
    same_sent a =
        a.lists ∙ ap (λ c. sent ++ map (listed c (moment_of a.entry.took)) (out_of a.entry.outcome)) a.at
        ∙ ap (λ t. sent ++ map (listed clock (moment_of t)) (out_of a.entry.outcome)) a.of
        ∙ ap (λ m. sent ++ map (listed clock m) (out_of a.entry.outcome)) (sym a.when)
        ∙ ap (λ ms. sent ++ map (listed clock moment) ms) (sym a.sends)

    pub acts_place : (count : ℕ) → Acts Does took clock old_core entries sent out moment said core new_entries new_sent → Counts count sent → count < last_clock → AreAt new_sent count clock moment out
    acts_place count a counts below = subst (λ s. AreAt s count clock moment out) (sym (same_sent a)) (are_behind sent count clock moment out (counts below))

    pub acts_listed : (ways : List Putting) → Acts Does took clock old_core entries sent out moment said core new_entries new_sent → AllListed me sent ways → AllListed me new_sent ways
    acts_listed ways a all = subst (λ s. AllListed me s ways) (sym (same_sent a)) (still_listed me sent (map (listed clock moment) out) ways all)

    pub acts_own : (xs : List Sent) → Acts Does took clock old_core entries sent out moment said core new_entries new_sent → AllOwn me sent xs → AllOwn me new_sent xs
    acts_own xs a own = subst (λ s. AllOwn me s xs) (sym (same_sent a)) (still_own me sent (map (listed clock moment) out) xs own)

    pub acts_counts : (count more next : ℕ) → Acts Does took clock old_core entries sent out moment said core new_entries new_sent → Counts count sent → more ≡ length out → next ≡ min (count + more) last_clock → Counts next new_sent
    acts_counts count more next a counts many is below =
        let had : count < last_clock = omega arith in
        let long : length new_sent ≡ length sent + length (map (listed clock moment) out) = ap length (same_sent a) ∙ length-append sent (map (listed clock moment) out) in
        let same = map_length (listed clock moment) out in
        let before = counts had in
        omega arith

    -- notes of an event more tell the history with it
    pub acts_kept : (dated : Option Dated) (old new : Notes) → Acts Does took clock old_core entries sent out moment said core new_entries new_sent → IfSome dated (λ d. d ≡ record { clock = clock; event = event_of took })
        → ((e : Entry) (es : List Entry) (ls : List Listed) → IfSome dated (λ d. d ≡ dated_of e) → out_of e.outcome ≡ out → Keeps old es ls → Keeps new (es ++ e ∷ []) (ls ++ sent_at e))
        → Keeps old entries sent → Keeps new new_entries new_sent
    acts_kept dated old new a is more keeps =
        subst (λ es. Keeps new es new_sent) (sym a.goes_on)
        (subst (λ ls. Keeps new (entries ++ a.entry ∷ []) ls) (sym a.lists) (more a.entry entries sent (is_dated dated a.entry took clock a.of a.at is) (sym a.sends) keeps))

  -- a core that has acted has made one step
  pub has_stepped : (old : Kept C) (took : Took) (clock : ℕ) (said : Result (Unit {0}) Refusal) (core : C) (entries : List Entry) (sent : List Listed)
      → Goes Does took clock old.past.core old.entries old.past.sent said core entries sent → old.past.clock < clock → clock ≡ next_clock old.past.clock took → MayTake old.me clock took
      → Stepped Does old took said (record { me = old.me; past = record { core = core; clock = clock; sent = sent }; entries = entries })
  has_stepped old took clock said core entries sent (out, moment, a) later next may = record {
    entry = a.entry;
    takes = record {
      does = subst (λ t. Does t old.past.core a.entry.outcome core) (sym a.of) a.does;
      clock = sym a.at;
      later = (let c = a.at in omega arith);
      may = subst (λ c. MayTake old.me c a.entry.took) (sym a.at) (subst (MayTake old.me clock) (sym a.of) may);
      sent = a.lists;
    };
    of = a.of;
    clock = a.at ∙ next;
    says = a.says;
    me = refl;
    entries = a.goes_on;
  }

  pub stays_sound : (Starts : NodeId → C → List Message → Type 0) (all : List NodeId) (old : Kept C) (took : Took) (said : Result (Unit {0}) Refusal) (core : C) (clock : ℕ) (entries : List Entry)
      (sent : List Listed) (ways after : List Putting) (ear now : Hearing)
      → IsSound Does Starts all old ways ear → Stepped Does old took said (record { me = old.me; past = record { core = core; clock = clock; sent = sent }; entries = entries })
      → Routes old.me sent ways after → now.taken ≡ ear.taken ++ heard_in took [] → now.me ≡ ear.me → now.parts ≡ ear.parts
      → IsSound Does Starts all (record { me = old.me; past = record { core = core; clock = clock; sent = sent }; entries = entries }) after now
  stays_sound Starts all old took said core clock entries sent ways after ear now s p routes taken me parts = record {
    kept = record {
      begun = s.kept.begun;
      begins = s.kept.begins;
      leads = subst (λ es. Leads Does old.me s.kept.begun es (record { core = core; clock = clock; sent = sent })) (sym p.entries)
          (leads_on old.me s.kept.begun old.entries old.past (record { core = core; clock = clock; sent = sent }) p.entry s.kept.leads p.takes);
    };
    mine = s.mine;
    leads = routes.1 ∙ s.leads;
    put = routes.0;
    me = me ∙ s.me;
    heard =
        taken ∙ ap (λ l. l ++ heard_in took []) s.heard ∙ ap (λ t. heard_of old.entries ++ heard_in t []) (sym p.of)
        ∙ sym (heard_last old.entries p.entry) ∙ ap heard_of (sym p.entries);
    whole = subst (λ n. n + length all ≡ 1024) (sym parts) s.whole;
  }

  -- what is put once more changes nothing else
  pub again_sound : (Starts : NodeId → C → List Message → Type 0) (all : List NodeId) (k : Kept C) (ways after : List Putting) (ear : Hearing)
      → IsSound Does Starts all k ways ear → Routes k.me k.past.sent ways after → IsSound Does Starts all k after ear
  again_sound Starts all k ways after ear s routes = record { kept = s.kept; mine = s.mine; leads = routes.1 ∙ s.leads; put = routes.0; me = s.me; heard = s.heard; whole = s.whole }
