-- What a turn of a call leaves: where it is refused, where it is answered without a record, and where an edit is recorded.
use Rattle.std.proofs.Common.{◌≡◌, ◌⊎◌, ◌∙◌, ◌++◌, ◌&&◌, ℕ, Bool, true, false, not, List, [], ◌∷◌, refl, sym, ap, subst}
use Rattle.std.specs.Prelude.{Option, Some, None, option_and_then, Result, Ok, Err, if◌then◌else◌}
use Rattle.std.specs.FinMap as fin
use Rattle.gs_base.specs.declared.numbers.ReqId.{ReqId}
use Rattle.gs_base.specs.declared.refusal.Refusal.{Refusal}
use Rattle.gs_edit.specs.Machine.{Plain}
use Rattle.gs_edit.specs.View.{NamesView}
use Rattle.gs_msg.specs.declared.answer.Answer.{Answer}
use Rattle.gs_laws_master.proofs.lemmas.upgrades.Beginnings.{fits_gives}
use Rattle.gs_laws_master.proofs.lemmas.upgrades.LedBack.{leads_back}
use Rattle.gs_laws_master.specs.Standing.{FitsAndStands}
use Rattle.gs_laws_plain.specs.commands.Edits.{shown}
use Rattle.gs_laws_plain.specs.commands.Records.{kept_in, machine_of}
use Rattle.gs_master_record.specs.Plain.{PlainEdit, PlainEntry, Edited, Said}
use Rattle.gs_master_record.specs.declared.checkpoint.Phase.{Phase}
use Rattle.gs_master_record.specs.declared.checkpoint.Phase.TheVariants.{Ordinary, Upgrade, Rolling}
use Rattle.gs_master_spec.specs.Applied.{after_edit, after_if, applied, chunk_of_edit, forgotten_by, may_edit, number_of_edit, replayed, view_for, with_edit, without_chunks}
use Rattle.gs_master_spec.specs.Calls.{accept_plan, answered_with}
use Rattle.gs_master_spec.specs.Durable.{Durable, is_ordinary, is_rolling}
use Rattle.gs_master_spec.specs.Replies.{answer_to, is_later}
use Rattle.gs_master_spec.specs.State.{State, Turn, fits, keeps_refusal, kept_in_memory, last_reply, refused, reply_to, turned}
use Rattle.gs_master_spec.specs.Undoing.{all_undone, edited_names}
use Rattle.gs_laws_plain.proofs.lemmas.calm.Answered.{answer_up, insert_up, more, reply_up}
use Rattle.gs_laws_plain.specs.calm.Calm.{Asked, IsUpTo, WentTo, bare}

-- ---- refused

abbrev said_turn : State → ReqId → Refusal → Bool → Bool → Turn
said_turn s req e keeps room = turned s (record {
  records = if keeps && room then Said req e ∷ [] else [];
  changes = (if keeps && not room then kept_in_memory req (Err e) ∷ [] else []) ++ [];
  sent = reply_to req (Err e) ∷ [];
  said = Some e;
})

said_went : (preparing rolling : Bool) (s : State) (req : ReqId) (e : Refusal) (m : Plain (List ℕ)) (now next : ℕ) (keeps room : Bool) → Asked preparing rolling s req m now next → FitsAndStands s (said_turn s req e keeps room) → WentTo preparing rolling req (said_turn s req e keeps room) [] (Err e) m now next
unfolding applied
said_went preparing rolling s req e m now next true true met so = record {
  sent = refl;
  still = record { sound = met.still.sound; moving = met.still.moving; pending = met.still.pending; locks = met.still.locks; chunks = met.still.chunks; prepared = met.still.prepared; firm = so.firm };
  begun = met.begun;
  rolled = met.rolled;
  shows = record { plain = met.shows.plain; epoch = met.shows.epoch; hidden = met.shows.hidden };
  answered = record { recorded = reply_up s.durable.replies req met.last (Err e) met.answered.recorded met.above; remembered = (more s req.client met.last req.number met.answered met.above).remembered };
}
said_went preparing rolling s req e m now next true false met so = record {
  sent = refl;
  still = record { sound = met.still.sound; moving = met.still.moving; pending = met.still.pending; locks = met.still.locks; chunks = met.still.chunks; prepared = met.still.prepared; firm = so.firm };
  begun = met.begun;
  rolled = met.rolled;
  shows = record { plain = met.shows.plain; epoch = met.shows.epoch; hidden = met.shows.hidden };
  answered = record { recorded = (more s req.client met.last req.number met.answered met.above).recorded; remembered = insert_up s.volatile.replies req.client met.last req.number (Err e) met.answered.remembered met.above };
}
said_went preparing rolling s req e m now next false room met so = record {
  sent = refl;
  still = record { sound = met.still.sound; moving = met.still.moving; pending = met.still.pending; locks = met.still.locks; chunks = met.still.chunks; prepared = met.still.prepared; firm = so.firm };
  begun = met.begun;
  rolled = met.rolled;
  shows = record { plain = met.shows.plain; epoch = met.shows.epoch; hidden = met.shows.hidden };
  answered = more s req.client met.last req.number met.answered met.above;
}

pub refused_went : (preparing rolling : Bool) (s : State) (req : ReqId) (e : Refusal) (m : Plain (List ℕ)) (now next : ℕ) → Asked preparing rolling s req m now next → FitsAndStands s (refused s req e) → WentTo preparing rolling req (refused s req e) [] (Err e) m now next
refused_went preparing rolling s req e m now next met so = said_went preparing rolling s req e m now next (keeps_refusal s req e) (fits s.log (Said req e ∷ [])) met so

-- ---- answered without a record

abbrev looked_turn : State → ReqId → Answer → Bool → Turn
looked_turn s req answer keeps = turned s (record { records = []; changes = if keeps then kept_in_memory req (Ok answer) ∷ [] else []; sent = reply_to req (Ok answer) ∷ []; said = None })

looked_went : (preparing rolling : Bool) (s : State) (req : ReqId) (answer : Answer) (m : Plain (List ℕ)) (now next : ℕ) (keeps : Bool) → Asked preparing rolling s req m now next → FitsAndStands s (looked_turn s req answer keeps) → WentTo preparing rolling req (looked_turn s req answer keeps) [] (Ok answer) m now next
looked_went preparing rolling s req answer m now next true met so = record {
  sent = refl;
  still = record { sound = met.still.sound; moving = met.still.moving; pending = met.still.pending; locks = met.still.locks; chunks = met.still.chunks; prepared = met.still.prepared; firm = so.firm };
  begun = met.begun;
  rolled = met.rolled;
  shows = record { plain = met.shows.plain; epoch = met.shows.epoch; hidden = met.shows.hidden };
  answered = record { recorded = (more s req.client met.last req.number met.answered met.above).recorded; remembered = insert_up s.volatile.replies req.client met.last req.number (Ok answer) met.answered.remembered met.above };
}
looked_went preparing rolling s req answer m now next false met so = record {
  sent = refl;
  still = record { sound = met.still.sound; moving = met.still.moving; pending = met.still.pending; locks = met.still.locks; chunks = met.still.chunks; prepared = met.still.prepared; firm = so.firm };
  begun = met.begun;
  rolled = met.rolled;
  shows = record { plain = met.shows.plain; epoch = met.shows.epoch; hidden = met.shows.hidden };
  answered = more s req.client met.last req.number met.answered met.above;
}

pub answered_went : (preparing rolling : Bool) (s : State) (req : ReqId) (answer : Answer) (m : Plain (List ℕ)) (now next : ℕ) → Asked preparing rolling s req m now next → FitsAndStands s (answered_with s req answer) → WentTo preparing rolling req (answered_with s req answer) [] (Ok answer) m now next
answered_went preparing rolling s req answer m now next met so = looked_went preparing rolling s req answer m now next (is_later (last_reply s req.client) req.number) met so

-- ---- an edit is recorded

durable_is : {a b : Durable} → ◌≡◌ {A = Option Durable} (Some a) (Some b) → a ≡ b
durable_is h = cc

pub one_applied : (d next : Durable) (entry : PlainEntry) → replayed d (entry ∷ []) ≡ Some next → applied d entry ≡ Some next
one_applied d next entry h = each (applied d entry) h
  where
    each : (o : Option Durable) → option_and_then (λ (n : Durable). Some n) o ≡ Some next → o ≡ Some next
    each None h = absurd (cc)
    each (Some n) h = h

pub kept_same : (phase : Phase) (a b : Option NamesView) → (is_ordinary phase ≡ false → a ≡ b) → kept_in bare.before phase a ≡ kept_in bare.before phase b
kept_same Ordinary a b same = refl
kept_same Upgrade a b same = ap (kept_in bare.before Upgrade) (same refl)
kept_same Rolling a b same = ap (kept_in bare.before Rolling) (same refl)

-- what an edit that forgets nothing leaves
edit_leaves : (d next : Durable) (by : ReqId) (edit : PlainEdit) (names : NamesView) → edited_names edit d.names ≡ Ok names → applied d (Edited by edit) ≡ Some next → with_edit d by edit names ≡ next
unfolding applied
edit_leaves d next by edit names is h = each (edited_names edit d.names) is h
  where
    each : (r : Result NamesView Refusal) → r ≡ Ok names → after_edit d by edit r ≡ Some next → with_edit d by edit names ≡ next
    each (Ok other) same h = ap (with_edit d by edit) (sym (names_are same)) ∙ (fits_gives (may_edit d edit) (with_edit d by edit other) next h).1
      where
        names_are : {a b : NamesView} → ◌≡◌ {A = Result NamesView Refusal} (Ok a) (Ok b) → a ≡ b
        names_are h = cc
    each (Err e) same h = absurd (cc)

module _ (preparing rolling : Bool) (s : State) (req : ReqId) (edit : PlainEdit) (answer : Answer) (names : NamesView) (m : Plain (List ℕ)) (now next : ℕ) where
  abbrev the_turn : Turn
  the_turn = turned s (accept_plan req edit answer)

  abbrev left : Durable
  left = with_edit s.durable req edit names

  -- the machine behind it
  abbrev pub behind : Plain (List ℕ)
  behind = shown bare.now (kept_in bare.before s.durable.phase (all_undone s.durable.inverses s.durable.names)) names

  pub edit_went : (after : ℕ) → forgotten_by edit ≡ [] → edited_names edit s.durable.names ≡ Ok names → ((after_if s.durable.next_hidden (number_of_edit edit) ≡ after) ⊎ (after_if s.durable.next_hidden (number_of_edit edit) ≡ 0))
      → Asked preparing rolling s req m now next → FitsAndStands s (turned s (accept_plan req edit answer)) → WentTo preparing rolling req (turned s (accept_plan req edit answer)) [] (Ok answer) behind now after
  edit_went after none is number met so = record {
    sent = refl;
    still = record {
      sound = met.still.sound;
      moving = met.still.moving;
      pending = met.still.pending;
      locks = met.still.locks;
      chunks = subst (λ (d : Durable). d.chunks ≡ fin.empty) same (chunks_left (forgotten_by edit) none);
      prepared = subst (λ (d : Durable). d.prepared ≡ fin.empty) same (prepared_left (forgotten_by edit) none);
      firm = so.firm;
    };
    begun = met.begun;
    rolled = subst (λ (d : Durable). is_rolling d.phase ≡ rolling) same (phase_left (forgotten_by edit) none ∙ met.rolled);
    shows = record {
      plain = plain_is;
      epoch = subst (λ (d : Durable). d.epoch ≡ now) same (epoch_left (forgotten_by edit) none ∙ met.shows.epoch);
      hidden = subst (λ (d : Durable). (d.next_hidden ≡ after) ⊎ (d.next_hidden ≡ 0)) same number;
    };
    answered = record {
      recorded = subst (λ (d : Durable). IsUpTo req.number (fin.get d.replies req.client)) same
          (answer_up s.durable.replies req met.last (answer_to edit (view_for s.durable (chunk_of_edit edit)) s.durable.epoch) met.answered.recorded met.above);
      remembered = (more s req.client met.last req.number met.answered met.above).remembered;
    };
  }
    where
      applies : applied s.durable (Edited req edit) ≡ Some (turned s (accept_plan req edit answer)).after.durable
      applies = one_applied s.durable (turned s (accept_plan req edit answer)).after.durable (Edited req edit) so.fits

      same : with_edit s.durable req edit names ≡ (turned s (accept_plan req edit answer)).after.durable
      same = edit_leaves s.durable (turned s (accept_plan req edit answer)).after.durable req edit names is applies

      chunks_left : (forgotten : List ℕ) → forgotten ≡ [] → (without_chunks s.durable forgotten).chunks ≡ fin.empty
      chunks_left [] h = met.still.chunks
      chunks_left (chunk ∷ chunks) h = absurd (cc)

      prepared_left : (forgotten : List ℕ) → forgotten ≡ [] → (without_chunks s.durable forgotten).prepared ≡ fin.empty
      prepared_left [] h = met.still.prepared
      prepared_left (chunk ∷ chunks) h = absurd (cc)

      phase_left : (forgotten : List ℕ) → forgotten ≡ [] → is_rolling (without_chunks s.durable forgotten).phase ≡ is_rolling s.durable.phase
      phase_left [] h = refl
      phase_left (chunk ∷ chunks) h = absurd (cc)

      epoch_left : (forgotten : List ℕ) → forgotten ≡ [] → (without_chunks s.durable forgotten).epoch ≡ s.durable.epoch
      epoch_left [] h = refl
      epoch_left (chunk ∷ chunks) h = absurd (cc)

      whole_left : (forgotten : List ℕ) → forgotten ≡ [] → (without_chunks s.durable forgotten).phase ≡ s.durable.phase
      whole_left [] h = refl
      whole_left (chunk ∷ chunks) h = absurd (cc)

      led : is_ordinary s.durable.phase ≡ false → all_undone (turned s (accept_plan req edit answer)).after.durable.inverses (turned s (accept_plan req edit answer)).after.durable.names ≡ all_undone s.durable.inverses s.durable.names
      led stands = leads_back (Edited req edit) s.durable (turned s (accept_plan req edit answer)).after.durable met.still.firm.stands.kept stands refl applies

      phase_is : (turned s (accept_plan req edit answer)).after.durable.phase ≡ s.durable.phase
      phase_is = subst (λ (d : Durable). d.phase ≡ s.durable.phase) same (whole_left (forgotten_by edit) none)

      names_are : (turned s (accept_plan req edit answer)).after.durable.names ≡ names
      names_are = subst (λ (d : Durable). d.names ≡ names) same refl

      plain_is : machine_of bare (turned s (accept_plan req edit answer)).after.durable ≡ shown bare.now (kept_in bare.before s.durable.phase (all_undone s.durable.inverses s.durable.names)) names
      plain_is =
          ap (λ (n : NamesView). shown bare.now (kept_in bare.before (turned s (accept_plan req edit answer)).after.durable.phase (all_undone (turned s (accept_plan req edit answer)).after.durable.inverses (turned s (accept_plan req edit answer)).after.durable.names)) n) names_are
          ∙ ap (λ (p : Phase). shown bare.now (kept_in bare.before p (all_undone (turned s (accept_plan req edit answer)).after.durable.inverses (turned s (accept_plan req edit answer)).after.durable.names)) names) phase_is
          ∙ ap (λ (k : _). shown bare.now k names) (kept_same s.durable.phase _ _ led)
