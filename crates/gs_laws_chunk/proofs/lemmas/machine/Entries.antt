-- What the master's part of a chunk rests on.
use Rattle.std.proofs.Common.{◌≡◌, ◌≢◌, ℕ, ◌+◌, ◌<◌, ◌≤◌, ◌⊎◌, Bool, true, false, sym, ap, ◌∙◌}
use Rattle.gs_base.specs.declared.epoch.EpochEnd.TheVariants.{Prepare, Rollback}
use Rattle.gs_laws_chunk.specs.machine.Stamps.{epoch_of, start_of}
use Rattle.gs_laws_chunk.specs.machine.Machine.{View, Entry, Known}
use Rattle.gs_laws_chunk.specs.machine.Events.{is_of, Step, after}
use Rattle.gs_laws_chunk.proofs.lemmas.machine.Known.{IsPrepared, Stamped, Stamped_grown, Grows}

-- an upgrade that began with this epoch stands, or is being rolled back
abbrev pub IsCurrent : Known → Bool → ℕ → Type 0
IsCurrent k rolling e = ((e ≡ k.current) × (k.how e ≡ Prepare)) ⊎ ((e + 1 ≡ k.current) × (rolling ≡ true))

-- the epoch of the prepare that is being rolled back
pub record Rolling (k : Known) : Type 0 where
  pub e : ℕ
  pub next : k.current ≡ e + 1
  pub was : k.how e ≡ Prepare
  pub how : k.how (e + 1) ≡ Rollback
  pub below : k.top < start_of (e + 1)

-- the prepared view, as the entry has it
pub record SameView (k : Known) (view : View) (holders : ℕ → Bool) (e : ℕ) : Type 0 where
  pub members : (j : ℕ) → k.members (k.prepared e) j ≡ is_of view.members j
  pub stamp : view.stamp ≡ k.prepared e
  pub count : view.count ≡ k.base (k.prepared e)
  pub holding : (j : ℕ) → holders j ≡ true → k.carries e j ≡ true

pub record EntryOk (k : Known) (entry : Entry) : Type 0 where
  pub epoch : entry.epoch ≡ k.current
  pub how : (e : ℕ) → entry.how e ≡ k.how e
  pub top : entry.top ≡ k.top
  pub standing : entry.is_known ≡ k.is_known
  pub stamp : entry.view.stamp ≡ k.view
  pub members : (j : ℕ) → k.members k.view j ≡ is_of entry.view.members j
  pub count : entry.view.count ≡ k.base k.view
  pub holder : entry.view.holder ≡ k.holder k.view
  pub asked : (j : ℕ) → k.asked j ≡ entry.asked j
  pub asking : (j : ℕ) → entry.asked j ≡ true → entry.is_known ≡ true
  pub stamped : k.view < k.top → Stamped k k.top
  pub odd : k.how k.current ≡ Prepare → k.kept k.current ≡ true → k.view < k.top → epoch_of k.top ≡ k.current
  pub prepared : (e : ℕ) → IsCurrent k entry.is_rolling e → IsPrepared k e → SameView k entry.prepared entry.holders e
  pub was_known : (e : ℕ) → IsCurrent k entry.is_rolling e → entry.was_known ≡ k.kept e
  pub rolling : entry.is_rolling ≡ true → Rolling k
  pub done : entry.is_rolling ≡ false → (E : ℕ) → E ≤ k.current → k.how E ≡ Rollback → start_of E ≤ k.view
  pub straight : entry.is_rolling ≡ false → (E : ℕ) → epoch_of k.view < E → E ≤ k.current → k.how E ≢ Rollback

pub SameView_grown : (a b : Known) → Grows a b → (view : View) (holders : ℕ → Bool) (e : ℕ) → IsPrepared a e → SameView a view holders e → SameView b view holders e
SameView_grown a b g view holders e p s = record {
  members = λ j. rw (g.prepared e p.0) (g.members (a.prepared e) j (g.before e p) ∙ s.members j);
  stamp = s.stamp ∙ sym (g.prepared e p.0);
  count = s.count ∙ sym (ap b.base (g.prepared e p.0) ∙ g.base (a.prepared e) (g.before e p));
  holding = λ j h. g.carries e j (s.holding j h);
}

-- a server's step leaves the master as it is
pub entry_after : (k : Known) (me : ℕ) (st : Step) (entry : Entry) → Grows k (after k me st) → EntryOk k entry → EntryOk (after k me st) entry
entry_after k me st entry g ok = record {
  epoch = ok.epoch;
  how = ok.how;
  top = ok.top;
  standing = ok.standing;
  stamp = ok.stamp;
  members = ok.members;
  count = ok.count;
  holder = ok.holder;
  asked = ok.asked;
  asking = ok.asking;
  stamped = λ v. Stamped_grown k (after k me st) g k.top (ok.stamped v);
  odd = ok.odd;
  prepared = λ e c p. SameView_grown k (after k me st) g entry.prepared entry.holders e p (ok.prepared e c p);
  was_known = ok.was_known;
  rolling = λ r. let x = ok.rolling r in record { e = x.e; next = x.next; was = x.was; how = x.how; below = x.below };
  done = ok.done;
  straight = ok.straight;
}
