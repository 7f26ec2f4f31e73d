-- A master that a script meets has its log and its journal as it has written them.
use Rattle.std.proofs.Common.{◌≡◌, ◌∙◌, ◌+◌, ◌<◌, ◌&&◌, ◌||◌, ◌++◌, ◌==◌, ℕ, suc, Bool, true, false, not, List, [], ◌∷◌, if◌then◌else◌, length, map, Option, Some, None, MatchOption, Result, Ok, Err, refl, sym, ap, subst, inl, inr, arith}
use Rattle.std.specs.Prelude.{is_none}
use Rattle.std.specs.List.{AllByRecursion, list_all}
use Rattle.std.proofs.lemmas.Bool.{false≢true, and_from, and_parts}
use Rattle.std.proofs.lemmas.List.{map-append}
use Rattle.gs_base.specs.declared.config.Config.{Config}
use Rattle.gs_base.specs.declared.numbers.Moment.{Moment}
use Rattle.gs_base.specs.declared.numbers.ReqId.{ReqId}
use Rattle.gs_base.specs.declared.refusal.Refusal.{Refusal}
use Rattle.gs_base.specs.declared.refusal.Refusal.TheVariants as refusals
use Rattle.gs_base.specs.Calls.{Does}
use Rattle.gs_client.specs.Nodes.{given_up}
use Rattle.gs_journal.specs.Forms.{are_of_form, is_text}
use Rattle.gs_journal.specs.Journal.{counting, failures_of_both, text_size}
use Rattle.gs_journal.specs.Records.{Entry as Record, Text, fresh, generation_of, generation_standing, is_begun, second_counts, standing, text_of}
use Rattle.gs_journal.specs.declared.version.Version.{Version}
use Rattle.gs_journal.specs.declared.version.Version.TheVariants.{Two}
use Rattle.gs_master.proofs.Composing.{all_joined}
use Rattle.gs_master.proofs.Renewed.{plain_tick, written_tick}
use Rattle.gs_master.specs.Journaled.{IsAsSeen}
use Rattle.gs_master.specs.Masters.{MasterAnswers, IsAnswered, MasterOf}
use Rattle.gs_master.specs.Starting.{left_in}
use Rattle.gs_master.specs.Ticking.{AnswersAs, IsAnsweredAnew, is_written, lacking, pressed_all, writes_one}
use Rattle.gs_master.specs.declared.turn.Turn.{Turn as Told}
use Rattle.gs_msg.specs.declared.event.Happening.{Happening}
use Rattle.gs_msg.specs.declared.event.Happening.TheVariants as happenings
use Rattle.gs_msg.specs.declared.message.Message.{Message}
use Rattle.gs_msg.specs.declared.node.NodeId.{NodeId}
use Rattle.gs_msg.specs.declared.node.NodeId.TheVariants as ids
use Rattle.gs_msg.specs.declared.node.StoreNode.{StoreNode}
use Rattle.gs_msg.specs.declared.node.StoreNode.TheVariants as keepers
use Rattle.gs_master_plan.specs.Renewable.{renewal_refusal}
use Rattle.gs_master_record.proofs.Form.{of_form}
use Rattle.gs_master_record.specs.Encoding.{encoded, kind}
use Rattle.gs_master_record.specs.Plain.{PlainEntry, Edited, Finalize, Holder, Prepare, Propose, RollbackBegin, RollbackCommit, Said, Settle, Whole}
use Rattle.gs_master_record.specs.Writable.{IsEntry}
use Rattle.gs_world.specs.Histories.{AtNode, ComesTo, History, Upshot, Restarts, Ticks}
use Rattle.gs_laws_world.specs.lasting.Lasting.{IsToldIn, StandsFirm, failures_at}
use Rattle.gs_world.specs.Runs.{Goes, Step, Comes, Takes}
use Rattle.gs_world.specs.Sent.{message_of}
use Rattle.gs_server.specs.Servers as servers
use Rattle.gs_master_spec.specs.Applied.{counted_behind, is_whole_entry, records_behind}
use Rattle.gs_master_spec.specs.Handling.{due, handle, tick}
use Rattle.gs_master_spec.specs.Outcomes.{caller_of}
use Rattle.gs_master_spec.specs.State.{State, Turn, is_failed}
use Rattle.gs_master_spec.specs.Whole.{checkpoint_of}
use Rattle.gs_nodes.specs.Happenings.{ClientAsks, ClientHears, Delivers, Hears, MasterHears, MasterTicks, Reopens, ServerDoes, limit}
use Rattle.gs_nodes.specs.Nodes.{Nodes, with_master}
use Rattle.gs_nodes.specs.declared.place.MasterPlace.{MasterPlace}
use Rattle.gs_nodes.specs.declared.place.MasterPlace.TheVariants.{Standing, Closed, Away}
use Rattle.gs_laws_master.specs.Rooms.{IsCounted, MessagesCounted, is_behind}
use Rattle.gs_laws_scripts.specs.answers.Meeting.{AllSteady, AllWritten, HasMaster, IsAsWritten, IsMet, IsOfScript, RunsSo}
use Rattle.gs_laws_world.specs.steady.Unarmed.{unarmed}
use Rattle.gs_laws_scripts.proofs.lemmas.answers.PlainEvents.{client_leaves, server_leaves}
use Rattle.gs_laws_scripts.proofs.lemmas.answers.PlainMeeting.{so_joined}
use Rattle.gs_laws_scripts.proofs.lemmas.answers.PlainReopens.{opened_state}
use Rattle.gs_laws_world.proofs.lemmas.lasting.Entries.{same_entries}
use Rattle.gs_laws_scripts.proofs.lemmas.answers.PlainStarts.{new_master}

-- ---- records

-- a master's log counts each record of a message and of a tick's steps
pub record LogsCount : Type 0 where
  pub messages : MessagesCounted
  pub ticks : (s : State) (moment : Moment) → IsCounted s (pressed_all s moment)

-- a checkpoint may be the first record alone
may_stand : (first : Bool) (entry : PlainEntry) → is_behind entry ≡ true → (first || not (kind entry == 9)) ≡ true
may_stand true entry behind = refl
may_stand false (Edited by e) behind = refl
may_stand false (Said to r) behind = refl
may_stand false (Propose chunk n) behind = refl
may_stand false (Settle v) behind = refl
may_stand false (Prepare epoch moment chunks) behind = refl
may_stand false (Finalize epoch) behind = refl
may_stand false (RollbackBegin epoch) behind = refl
may_stand false (RollbackCommit epoch answers) behind = refl
may_stand false (Whole c) behind = absurd (false≢true behind)
may_stand false (Holder chunk server) behind = refl

-- records behind others leave the text of its form
form_behind : (first : Bool) (entries : List PlainEntry) → AllByRecursion (IsEntry Two) entries → list_all is_behind entries ≡ true → are_of_form Two first (map (encoded Two) entries) ≡ true
form_behind first [] are behind = refl
form_behind first (entry ∷ entries) are behind =
    let both = and_parts (is_behind entry) (list_all is_behind entries) behind in
    and_from _ _ (of_form Two first entry are.0 (may_stand first entry both.0)) (form_behind false entries are.1 both.1)

form_more : (first : Bool) (xs ys : List PlainEntry) → are_of_form Two first (map (encoded Two) xs) ≡ true → AllByRecursion (IsEntry Two) ys → list_all is_behind ys ≡ true
    → are_of_form Two first (map (encoded Two) (xs ++ ys)) ≡ true
form_more first [] ys form are behind = form_behind first ys are behind
form_more first (x ∷ xs) ys form are behind = let both = and_parts _ _ form in and_from _ _ both.0 (form_more false xs ys both.1 are behind)

-- and each is counted
count_behind : (many : ℕ) (entries : List PlainEntry) → list_all is_behind entries ≡ true → counted_behind many entries ≡ many + length entries
count_behind many [] behind = omega arith
count_behind many (entry ∷ entries) behind =
    let both = and_parts (is_behind entry) (list_all is_behind entries) behind in
    ap (λ (b : Bool). counted_behind (if b then 0 else many + 1) entries) (no_whole (is_whole_entry entry) both.0) ∙ count_behind (many + 1) entries both.1 ∙ one_more many (length entries)
  where
    no_whole : (b : Bool) → not b ≡ true → b ≡ false
    no_whole true is = absurd (false≢true is)
    no_whole false is = refl

    one_more : (n more : ℕ) → (n + 1) + more ≡ n + suc more
    one_more n more = omega arith

count_more : (many : ℕ) (xs ys : List PlainEntry) → counted_behind many (xs ++ ys) ≡ counted_behind (counted_behind many xs) ys
count_more many [] ys = refl
count_more many (x ∷ xs) ys = count_more (if is_whole_entry x then 0 else many + 1) xs ys

-- a text with a record isn't that of a new journal
not_fresh : (xs : List Record) (r : Record) (rs : List Record) → ◌≡◌ {A = Text} (Two, xs ++ r ∷ rs) fresh → ⊥
not_fresh [] r rs same = let none = ap (λ (t : Text). t.1) same in absurd cc
not_fresh (x ∷ xs) r rs same = let none = ap (λ (t : Text). t.1) same in absurd cc

-- the generation of the disk that counts
standing_generation : (a b : List ℕ) (second first : Bool) → second_counts a b ≡ second → is_begun a ≡ first → (standing a b ≡ fresh → generation_of (counting a b) ≡ 1) → generation_standing a b ≡ generation_of (counting a b)
standing_generation a b true first counts begun one =
    ap (λ (c : Bool). if c then generation_of b else (if is_begun a then generation_of a else 1)) counts ∙ sym (ap (λ (c : Bool). generation_of (if c then b else a)) counts)
standing_generation a b false true counts begun one =
    ap (λ (c : Bool). if c then generation_of b else (if is_begun a then generation_of a else 1)) counts ∙ ap (λ (c : Bool). if c then generation_of a else 1) begun ∙ sym (ap (λ (c : Bool). generation_of (if c then b else a)) counts)
standing_generation a b false false counts begun one =
    ap (λ (c : Bool). if c then generation_of b else (if is_begun a then generation_of a else 1)) counts ∙ ap (λ (c : Bool). if c then generation_of a else 1) begun
    ∙ sym (one (ap (λ (c : Bool). if c then text_of b else (if is_begun a then text_of a else fresh)) counts ∙ ap (λ (c : Bool). if c then text_of a else fresh) begun))

never : (a b : ℕ) → a < b → b ≡ a → ⊥
never a b more same = omega arith

both : (a b : Bool) → (a && b) ≡ true → (a ≡ true) × (b ≡ true)
both true true is = (refl, refl)
both true false is = absurd (false≢true is)
both false b is = absurd (false≢true is)

not_true : (b : Bool) → not b ≡ true → b ≡ false
not_true true is = absurd (false≢true is)
not_true false is = refl

not_both : (a b : Bool) → a ≡ true → (a && b) ≡ false → b ≡ false
not_both true b is none = none
not_both false b is none = absurd (false≢true is)

negated : (b : Bool) → b ≡ false → not b ≡ true
negated true is = absurd (false≢true (sym is))
negated false is = refl

nothing : {A : Type 0} (o : Option A) → is_none o ≡ true → o ≡ None
nothing None is = refl
nothing (Some x) is = absurd (false≢true is)

module _ {D : Type 0} (seen : D → List ℕ) (failures : D → ℕ) where
  -- the records of a journal, and what is known of them
  record Wrote (m : MasterOf D) : Type 0 where
    entries : List PlainEntry
    text : m.journal.text ≡ (Two, map (encoded Two) entries)
    are_entries : AllByRecursion (IsEntry Two) entries
    counted : records_behind entries ≡ m.state.log.records
    form : are_of_form Two true (map (encoded Two) entries) ≡ true
    first : m.journal.text ≡ fresh → m.journal.generation ≡ 1

  as_written : (m : MasterOf D) → IsAsSeen seen m.journal → Wrote m → IsAsWritten seen m
  as_written m is w = record {
    counted = λ entries are same.
        ap records_behind (sym (same_entries Two w.entries entries w.are_entries are (ap (λ (t : Text). t.1) (sym w.text ∙ same)))) ∙ w.counted;
    form = ap is_text w.text ∙ w.form;
    generation =
        let a = seen m.journal.first in
        let b = seen m.journal.second in
        standing_generation a b (second_counts a b) (is_begun a) refl refl (λ none. is.generation ∙ w.first (sym is.text ∙ none)) ∙ is.generation;
  }

  -- ---- a turn

  still_first : (records : List PlainEntry) (old : MasterOf D) (new : MasterOf D) → Wrote old → new.journal.text ≡ (old.journal.text.0, old.journal.text.1 ++ map (encoded Two) records)
      → (records ≡ [] → new.journal ≡ old.journal) → new.journal.text ≡ fresh → new.journal.generation ≡ 1
  still_first [] old new w text still none = let same = still refl in ap (λ j. j.generation) same ∙ w.first (sym (ap (λ j. j.text) same) ∙ none)
  still_first (x ∷ xs) old new w text still none =
      absurd (not_fresh (map (encoded Two) w.entries) (encoded Two x) (map (encoded Two) xs) (sym (ap (λ (t : Text). (t.0, t.1 ++ encoded Two x ∷ map (encoded Two) xs)) w.text) ∙ sym text ∙ none))

  answered_wrote : (t : Turn) (old : MasterOf D) (told : Told) (new : MasterOf D) → IsCounted old.state t → Wrote old → IsAnswered seen failures t old told new → Wrote new
  answered_wrote t old told new counts w is = record {
    entries = w.entries ++ t.records;
    text = is.text ∙ ap (λ (x : Text). (x.0, x.1 ++ map (encoded Two) t.records)) w.text ∙ ap (λ (rs : List Record). (Two, rs)) (sym (map-append (encoded Two) w.entries t.records));
    are_entries = all_joined (IsEntry Two) w.entries t.records w.are_entries is.are_entries;
    counted =
        count_more 0 w.entries t.records ∙ count_behind (records_behind w.entries) t.records counts.behind ∙ ap (λ (n : ℕ). n + length t.records) w.counted ∙ sym counts.count
        ∙ sym (ap (λ (s : State). s.log.records) is.done.after);
    form = form_more true w.entries t.records w.form is.are_entries counts.behind;
    first = still_first t.records old new w is.text is.still;
  }

  anew_wrote : (t steps : Turn) (old : MasterOf D) (told : Told) (new : MasterOf D) → t.after.log.records ≡ 0 → IsAnsweredAnew seen failures t steps old told new → Wrote new
  anew_wrote t steps old told new none is =
      let whole = Whole (checkpoint_of steps.after.durable) in
      record {
        entries = whole ∷ [];
        text = is.text;
        are_entries = (is.is_entry, tt);
        counted = sym (ap (λ (s : State). s.log.records) is.done.after ∙ none);
        form = and_from _ _ (of_form Two true whole is.is_entry refl) refl;
        first = λ fresh_text. absurd (not_fresh [] (encoded Two whole) [] (sym is.text ∙ fresh_text));
      }

  -- ---- where the master is

  abbrev WroteAt : MasterPlace D → Type 0
  WroteAt place = (m : MasterOf D) → place ≡ Standing m → Wrote m

  abbrev or_master : MasterPlace D → MasterOf D → MasterOf D
  or_master (Standing m) other = m
  or_master (Closed first second) other = other
  or_master Away other = other

  wrote_there : (place : MasterPlace D) (m : MasterOf D) → place ≡ Standing m → Wrote m → WroteAt place
  wrote_there place m is w other same =
      let one : m ≡ other = ap (λ (p : MasterPlace D). or_master p m) (sym is ∙ same) in subst (λ (x : MasterOf D). Wrote x) one w

  abbrev Same : MasterPlace D → MasterPlace D → Type 0
  Same new old = failures_at failures new ≡ failures_at failures old

  same_journal : (m after : MasterOf D) (place : MasterPlace D) → place ≡ Standing after → Same place (Standing m) → failures_of_both failures after.journal ≡ failures_of_both failures m.journal
  same_journal m after place is same = sym (ap (failures_at failures) is) ∙ same

  answers_wrote : (caller : Option ReqId) (t : Turn) (m : MasterOf D) (turn : Result Told Refusal) (after : MasterOf D) (place : MasterPlace D) → place ≡ Standing after → IsCounted m.state t → Wrote m
      → MasterAnswers seen failures caller t m turn after → Same place (Standing m) → WroteAt place
  answers_wrote caller t m (Ok told) after place is counts w (inl done) same = wrote_there place after is (answered_wrote t m told after counts w done)
  answers_wrote caller t m (Ok told) after place is counts w (inr (at, cut)) same =
      absurd (never (failures_of_both failures m.journal) (failures_of_both failures after.journal) cut.cause (same_journal m after place is same))
  answers_wrote caller t m (Err e) after place is counts w (why, still) same = wrote_there place after is (subst (λ (x : MasterOf D). Wrote x) (sym still) w)

  module _ (counts : LogsCount) where
    hears_wrote : (message : Message) (moment : Moment) (m : MasterOf D) (turn : Result Told Refusal) (place : MasterPlace D) → Wrote m → MasterHears seen failures message moment (Standing m) turn place
        → Same place (Standing m) → WroteAt place
    hears_wrote message moment m turn place w (after, is, answers) same =
        answers_wrote (caller_of message.body) (handle m.config m.state message moment) m turn after place is (counts.messages m.config m.state message moment) w answers same

    whole_wrote : (b : Bool) (moment : Moment) (m : MasterOf D) (told : Told) (after : MasterOf D) (place : MasterPlace D) → writes_one m.state (pressed_all m.state moment) ≡ b → is_failed m.state.fault ≡ false
        → place ≡ Standing after → Wrote m → AnswersAs seen failures b (tick m.state moment) (pressed_all m.state moment) m told after → Same place (Standing m) → WroteAt place
    whole_wrote true moment m told after place writes sound is w (inl done) same =
        let steps = pressed_all m.state moment in
        let first = both (not (is_failed m.state.fault)) (due steps.after && is_written steps.after) writes in
        let second = both (due steps.after) (is_written steps.after) first.1 in
        let t = written_tick m.state moment sound second.0 (nothing (renewal_refusal steps.after) second.1) in
        wrote_there place after is (anew_wrote (tick m.state moment) steps m told after (ap (λ (x : Turn). x.after.log.records) t) done)
    whole_wrote false moment m told after place writes sound is w (inl done) same =
        let steps = pressed_all m.state moment in
        let t = plain_tick m.state moment sound (not_both (not (is_failed m.state.fault)) (due steps.after && is_written steps.after) (negated (is_failed m.state.fault) sound) writes) in
        wrote_there place after is (answered_wrote steps m told after (counts.ticks m.state moment) w (subst (λ (x : Turn). IsAnswered seen failures x m told after) t done))
    whole_wrote true moment m told after place writes sound is w (inr (at, cut)) same =
        absurd (never (failures_of_both failures m.journal) (failures_of_both failures after.journal) cut.cause (same_journal m after place is same))
    whole_wrote false moment m told after place writes sound is w (inr (at, cut)) same =
        absurd (never (failures_of_both failures m.journal) (failures_of_both failures after.journal) cut.cause (same_journal m after place is same))

    ticks_wrote : (moment : Moment) (m : MasterOf D) (turn : Result Told Refusal) (place : MasterPlace D) → is_failed m.state.fault ≡ false → Wrote m → MasterTicks seen failures moment (Standing m) turn place
        → Same place (Standing m) → WroteAt place
    ticks_wrote moment m (Ok told) place sound w (after, is, inl whole) same =
        whole_wrote (writes_one m.state (pressed_all m.state moment)) moment m told after place refl sound is w whole same
    ticks_wrote moment m (Ok told) place sound w (after, is, inr (fault, is_due, none, done)) same =
        let c = counts.ticks m.state moment in
        answers_wrote None (lacking (pressed_all m.state moment)) m (Ok told) after place is (record { count = c.count; behind = c.behind }) w done same
    ticks_wrote moment m (Err e) place sound w (after, is, (why, still)) same = wrote_there place after is (subst (λ (x : MasterOf D). Wrote x) (sym still) w)

    reopens_wrote : (config : Config) (m : MasterOf D) (turn : Result Told Refusal) (place : MasterPlace D) → StandsFirm seen m → Wrote m → Reopens seen failures config (Standing m) turn place → WroteAt place
    reopens_wrote config m (Err e) place firm w (u, is, refused, why) = λ other same. let closed : Closed u.first u.second ≡ Standing other = sym is ∙ same in absurd cc
    reopens_wrote config m (Ok turn) place firm w (after, is, opening, said) =
        let written = as_written m firm.as_seen w in
        let told = subst (λ (t : Text). IsToldIn t m.state.durable) (sym firm.as_seen.text) firm.told in
        let log = record (m.state.log) { limit = limit } in
        let counted : (entries : List PlainEntry) → AllByRecursion (IsEntry Two) entries → standing (seen m.journal.first) (seen m.journal.second) ≡ (Two, map (encoded Two) entries) → records_behind entries ≡ log.records =
        λ entries are same. written.counted entries are (sym firm.as_seen.text ∙ same) in
        let size : text_size (standing (seen m.journal.first) (seen m.journal.second)) ≡ log.size = ap text_size firm.as_seen.text ∙ sym firm.as_seen.whole ∙ sym firm.known.size in
        let generation : generation_standing (seen m.journal.first) (seen m.journal.second) ≡ log.generation = written.generation ∙ sym firm.known.generation in
        let state = opened_state seen failures config m.journal.first m.journal.second m.state.durable log after turn told counted size refl generation firm.firm.stands.kept firm.firm.stands.counters opening said in
        let two : (standing (seen m.journal.first) (seen m.journal.second)).0 ≡ Two = ap (λ (t : Text). t.0) told.records in
        let text : after.journal.text ≡ m.journal.text = opening.left ∙ ap (λ (v : Version). left_in v (standing (seen m.journal.first) (seen m.journal.second)) opening.durable) two ∙ firm.as_seen.text in
        wrote_there place after is (record {
          entries = w.entries;
          text = text ∙ w.text;
          are_entries = w.are_entries;
          counted = w.counted ∙ sym (ap (λ (s : State). s.log.records) state);
          form = w.form;
          first = λ none. opening.generation two ∙ written.generation ∙ w.first (sym text ∙ none);
        })

    -- ---- an event

    abbrev Kept : Nodes D → Nodes D → Type 0
    Kept old new = (m : MasterOf D) → old.master ≡ Standing m → StandsFirm seen m → Wrote m → Same new.master old.master → WroteAt new.master

    stays : (old new : Nodes D) → new.master ≡ old.master → Kept old new
    stays old new is m at firm w same = wrote_there new.master m (is ∙ at) w

    moved : (place : MasterPlace D) (old new : Nodes D) → new ≡ with_master place old
        → ((m : MasterOf D) → old.master ≡ Standing m → StandsFirm seen m → Wrote m → Same place (Standing m) → WroteAt place) → Kept old new
    moved place old new is does m at firm w same =
        let there = ap (λ (n : Nodes D). n.master) is in
        subst (λ (p : MasterPlace D). WroteAt p) (sym there) (does m at firm w (sym (ap (failures_at failures) there) ∙ same ∙ ap (failures_at failures) at))

    heard : (message : Message) (moment : Moment) (to : NodeId) (old : Nodes D) (turn : Result Told Refusal) (new : Nodes D) → Hears seen failures message moment to old turn new → Kept old new
    heard message moment ids.Master old turn new (place, is, hear) =
        moved place old new is (λ m at firm w same. hears_wrote message moment m turn place w (subst (λ (p : MasterPlace D). MasterHears seen failures message moment p turn place) at hear) same)
    heard message moment (ids.Server id) old turn new at = stays old new (server_leaves seen failures id (λ s. ServerDoes (servers.handle s message moment) s) old turn new at)
    heard message moment (ids.Client id) old turn new (said, at, says) = stays old new (client_leaves seen failures id None (ClientHears message.body) old said new at).0

    delivered : (message : Message) (moment : Moment) (old : Nodes D) (turn : Result Told Refusal) (new : Nodes D) → Delivers seen failures message moment old turn new → Kept old new
    unfolding Delivers
    delivered message moment old turn new hear = heard message moment message.to old turn new hear

    came : (found : Option Message) (sender : NodeId) (moment : Moment) (old : Nodes D) (by : NodeId) (outcome : Upshot) (new : Nodes D)
        → MatchOption found ((outcome ≡ Err refusals.Range) × (new ≡ old) × (by ≡ sender)) (λ message. ComesTo seen failures unarmed sender message moment old by outcome new) → Kept old new
    came None sender moment old by outcome new (refused, is, from) = stays old new (ap (λ (n : Nodes D). n.master) is)
    came (Some message) sender moment old by outcome new comes = elim comes [
      | inl (is, turn, delivers, told) ↦ delivered message moment old turn new delivers
      | inr (refused, is, from) ↦ stays old new (ap (λ (n : Nodes D). n.master) is)
    ]

    tick_kept : (moment : Moment) (node : StoreNode) (old : Nodes D) (outcome : Upshot) (new : Nodes D) → Ticks seen failures unarmed moment node old outcome new → Kept old new
    tick_kept moment keepers.Master old outcome new (place, turn, does, is, told) =
        moved place old new is (λ m at firm w same. ticks_wrote moment m turn place firm.sound w (subst (λ (p : MasterPlace D). MasterTicks seen failures moment p turn place) at does) same)
    tick_kept moment (keepers.Server id) old outcome new (turn, at, told) = stays old new (server_leaves seen failures id (λ s. ServerDoes (servers.tick s moment) s) old turn new at)

    restart_kept : (node : StoreNode) (old : Nodes D) (outcome : Upshot) (new : Nodes D) → Restarts seen failures unarmed node old outcome new → Kept old new
    restart_kept keepers.Master old outcome new (place, turn, does, is, told) =
        moved place old new is (λ m at firm w same. reopens_wrote old.config m turn place firm w (subst (λ (p : MasterPlace D). Reopens seen failures old.config p turn place) at does))
    restart_kept (keepers.Server id) old outcome new (done, at, told) = stays old new (server_leaves seen failures id (λ s done after. (done ≡ Ok tt) × (after ≡ servers.restart s)) old done new at)

    node_kept : (moment : Moment) (happening : Happening) (old : History D) (by : NodeId) (outcome : Upshot) (new : Nodes D) → AtNode seen failures unarmed moment happening old by outcome new → Kept old.nodes new
    node_kept moment (happenings.Ask req request) old by outcome new (is, (out, at, told)) =
        stays old.nodes new (client_leaves seen failures req.client (Err refusals.Range) (ClientAsks req.number request) old.nodes out new at).0
    node_kept moment (happenings.Deliver id) old by outcome new comes = came (message_of old.sent id) id.sender moment old.nodes by outcome new comes
    node_kept moment (happenings.Tick node) old by outcome new (is, does) = tick_kept moment node old.nodes outcome new does
    node_kept moment (happenings.Beat id) old by outcome new (is, (still, told)) = stays old.nodes new (ap (λ (n : Nodes D). n.master) still)
    node_kept moment (happenings.Restart node) old by outcome new (is, does) = restart_kept node old.nodes outcome new does
    node_kept moment (happenings.Lose id handle) old by outcome new (is, (done, at, told)) =
        stays old.nodes new (server_leaves seen failures id (λ s done after. Does (servers.lose handle s) done s after) old.nodes done new at)
    node_kept moment (happenings.Damage id handle block) old by outcome new (is, (done, at, told)) =
        stays old.nodes new (server_leaves seen failures id (λ s done after. Does (servers.damage handle block s) done s after) old.nodes done new at)
    node_kept moment (happenings.FailDisk disk call) old by outcome new (is, (with, told)) = stays old.nodes new (ap (λ (n : Nodes D). n.master) with)

    step_kept : (step : Step) (old new : History D) → Goes seen failures unarmed step old new → Kept old.nodes new.nodes
    step_kept (Comes event) old new (said, h) = node_kept event.moment event.happening old h.by h.outcome new.nodes h.at
    step_kept (Takes client) old new (found, takes, is) =
        stays old.nodes new.nodes (client_leaves seen failures client None (λ n reply after. (reply ≡ n.reply) × (after ≡ given_up n)) old.nodes found new.nodes takes).0

    -- ---- a run

    module _ (config : Config) (disks : D × D) (steady : AllSteady seen failures config disks) where
      met_next : (step : Step) (old mid : History D) → IsMet seen failures config disks old → Goes seen failures unarmed step old mid → IsOfScript config step
          → failures_at failures mid.nodes.master ≡ failures_at failures old.nodes.master → HasMaster mid.nodes → IsMet seen failures config disks mid
      met_next step old mid met goes so quiet stands = record {
        begun = met.begun;
        steps = met.steps ++ step ∷ [];
        begins = met.begins;
        runs = so_joined seen failures config disks met.steps (step ∷ []) met.begun old mid met.runs (mid, goes, so, quiet, stands, refl);
      }

      run_wrote : (steps : List Step) (old new : History D) → IsMet seen failures config disks old → HasMaster old.nodes → WroteAt old.nodes.master → RunsSo seen failures config disks steps old new → WroteAt new.nodes.master
      run_wrote [] old new met has w same = subst (λ (h : History D). WroteAt h.nodes.master) (sym same) w
      run_wrote (step ∷ steps) old new met (m, at) w (mid, goes, so, quiet, stands, rest) =
          run_wrote steps mid new (met_next step old mid met goes so quiet stands) stands (step_kept step old mid goes m at (steady old m met at).firm (w m at) quiet) rest

      pub all_written : seen disks.0 ≡ [] → seen disks.1 ≡ [] → AllWritten seen failures config disks
      all_written first second now m met place =
          let b = met.begins in
          let n = new_master seen failures config disks b.place b.turn first second b.opens in
          let at : met.begun.nodes.master ≡ Standing n.master = ap (λ (x : Nodes D). x.master) b.nodes ∙ n.stands in
          let wrote : Wrote n.master = record {
            entries = [];
            text = n.text;
            are_entries = tt;
            counted = sym (ap (λ (s : State). s.log.records) n.state);
            form = refl;
            first = λ none. n.generation;
          } in
          let begun : IsMet seen failures config disks met.begun = record { begun = met.begun; steps = []; begins = met.begins; runs = refl } in
          as_written m (steady now m met place).firm.as_seen
          (run_wrote met.steps met.begun now begun (n.master, at) (wrote_there met.begun.nodes.master n.master at wrote) met.runs m place)
