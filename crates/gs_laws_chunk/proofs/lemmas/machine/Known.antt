-- What messages and servers rest on.
use Rattle.std.proofs.Common.{◌≡◌, ◌≢◌, ℕ, ◌+◌, ◌<◌, ◌≤◌, ◌⊎◌, inl, inr, ⊎_elim, List, [], ◌∷◌, ◌++◌, length, take, Option, Some, None, Bool, true, false, refl, sym, ap, ◌∙◌, arith, append-nil, append_assoc, length-append}
use Rattle.std.specs.Prelude.{slice_get}
use Rattle.std.specs.List.{All}
use Rattle.std.proofs.lemmas.List.{take-append-le}
use Rattle.std.proofs.lemmas.Option.{slice_get_within}
use Rattle.std.proofs.lemmas.Bool.{cases_lt}
use Rattle.std.proofs.lemmas.List.Elements.{All-weaker}
use Rattle.gs_base.specs.declared.epoch.EpochEnd.TheVariants.{Prepare, Rollback}
use Rattle.gs_replica.specs.Stands.{Edit}
use Rattle.gs_laws_chunk.specs.machine.Stamps.{epoch_of, start_of}
use Rattle.gs_laws_chunk.specs.machine.Machine.{Open, MemberLease, Member, Message, Create, Advance, Promised, Grant, Forward, Ack, Done, CopyOut, CopyIn, Report, Drop, Epoch, Learned, Sent, Known}
use Rattle.gs_laws_chunk.specs.machine.Events.{is_of, waits, Step, after}
use Rattle.gs_laws_chunk.proofs.lemmas.machine.Lists.{at_front, at_push, take_from}
use Rattle.gs_laws_chunk.proofs.lemmas.machine.Stamps.{epoch_of-le, epoch_of-start}

pub false_from : (x : Bool) → (x ≡ true → ⊥) → x ≡ false
false_from true n = absurd (n refl)
false_from false n = refl

pub false_true : (x : Bool) → x ≡ false → x ≡ true → ⊥
false_true x a b = (cc)

-- whose image of epoch e is the prepared list: a member of the prepared view, or one that took a copy with its image
abbrev pub Fit : Known → ℕ → ℕ → Type 0
Fit k e j = (k.members (k.prepared e) j ≡ true) ⊎ (k.carries e j ≡ true)

-- the master knew the chunk when it began the epoch by a prepare
abbrev pub IsPrepared : Known → ℕ → Type 0
IsPrepared k e = (e ≤ k.current) × (k.how e ≡ Prepare) × (k.kept e ≡ true)

-- no stamp of an epoch before e lies above the stamp prepared at e
abbrev pub Legit : Known → ℕ → Type 0
Legit k t = (e : ℕ) → IsPrepared k e → (t ≤ k.prepared e) ⊎ (e ≤ epoch_of t)

pub record Stamped (k : Known) (t : ℕ) : Type 0 where
  pub top : t ≤ k.top
  pub legit : Legit k t
  pub fresh : (e : ℕ) → t ≢ start_of e
  pub late : k.born < t

pub record Grows (a b : Known) : Type 0 where
  pub born : b.born ≡ a.born
  pub view : a.view ≤ b.view
  pub top : a.top ≤ b.top
  pub current : a.current ≤ b.current
  pub overtaken : a.view < b.view → a.top ≤ b.view
  pub list : (t : ℕ) → t ≤ a.view → (more : List Edit) × (b.list t ≡ a.list t ++ more)
  pub members : (t j : ℕ) → t ≤ a.view → b.members t j ≡ a.members t j
  pub holder : (t : ℕ) → t ≤ a.view → b.holder t ≡ a.holder t
  pub asked : (j : ℕ) → b.top ≡ a.top → b.asked j ≡ true → a.asked j ≡ true
  pub chosen : (t j : ℕ) → a.view < t → t ≤ a.top → t ≤ b.view → b.members t j ≡ true → (t ≡ a.top) × (a.asked j ≡ true)
  pub preparing : (e : ℕ) → a.current < e → IsPrepared b e → (b.prepared e ≡ a.view) × (b.view ≡ a.view) × (a.is_known ≡ true)
  pub knew : b.view ≡ a.view → b.is_known ≡ true → a.is_known ≡ true
  pub how : (e : ℕ) → e ≤ a.current → b.how e ≡ a.how e
  pub prepared : (e : ℕ) → e ≤ a.current → b.prepared e ≡ a.prepared e
  pub kept : (e : ℕ) → e ≤ a.current → b.kept e ≡ a.kept e
  pub image : (e : ℕ) → IsPrepared a e → b.list (a.prepared e) ≡ a.list (a.prepared e)
  pub carries : (e j : ℕ) → a.carries e j ≡ true → b.carries e j ≡ true
  pub promise : (j : ℕ) → a.promise j ≤ b.promise j
  pub epoch : (j : ℕ) → a.epoch j ≤ b.epoch j
  pub frozen : (j t : ℕ) → t < a.promise j → b.reached j t ≡ a.reached j t
  pub quiet : (t : ℕ) → t ≤ a.view → a.holder t ≡ None → b.list t ≡ a.list t
  pub base : (t : ℕ) → t ≤ a.view → b.base t ≡ a.base t
  pub prev : (t : ℕ) → t ≤ a.view → b.prev t ≡ a.prev t
  pub still : (j t : ℕ) → t ≤ a.promise j → b.view < t → b.reached j t ≡ a.reached j t
  pub legit : (t : ℕ) → t ≤ a.top → Legit a t → Legit b t
  pub before : (e : ℕ) → IsPrepared a e → a.prepared e ≤ a.view
  pub more : (j t : ℕ) → t ≤ a.promise j → a.reached j t ≤ b.reached j t
  pub carried : (e j : ℕ) → e < epoch_of (a.promise j) → b.carries e j ≡ true → a.carries e j ≡ true
  pub stood : (t : ℕ) → t ≤ a.view → b.stood t ≡ a.stood t

-- edits begin a list
pub record Prefix (list edits : List Edit) : Type 0 where
  pub within : length edits ≤ length list
  pub stands : edits ≡ take (length edits) list

pub Prefix-append : (list more edits : List Edit) → Prefix list edits → Prefix (list ++ more) edits
Prefix-append list more edits p = record {
  within = (let w = p.within in omega (arith, length-append list more));
  stands = rw (take-append-le (length edits) list more p.within) p.stands;
}

-- edits begin the list of a view that was settled, or is
pub record Stands (k : Known) (edits : List Edit) : Type 0 where
  pub stamp : ℕ
  pub within : stamp ≤ k.view
  pub begins : Prefix (k.list stamp) edits

abbrev pub StandsIf : Known → Option (List Edit) → Type 0
StandsIf k o = (edits : List Edit) → o ≡ Some edits → Stands k edits

-- nobody is a member of the settled view, and nobody may number in it
pub record Bare (k : Known) : Type 0 where
  pub members : (j : ℕ) → k.members k.view j ≡ false
  pub holder : k.holder k.view ≡ None

-- edits begin the settled view's list, and where that view is bare they are all of it
pub record Begins (k : Known) (r : List Edit) : Type 0 where
  pub prefix : Prefix (k.list k.view) r
  pub whole : Bare k → length r ≡ length (k.list k.view)

pub record ImageOk (k : Known) (e : ℕ) (image : Option (List Edit)) : Type 0 where
  pub text : (r : List Edit) → image ≡ Some r → IsPrepared k e × (r ≡ k.list (k.prepared e))

-- the last epoch that a prepare began, and the master knew the chunk then
pub record Latest (k : Known) (e : ℕ) : Type 0 where
  pub is : IsPrepared k e
  pub last : (x : ℕ) → x ≤ k.current → k.how x ≡ Prepare → x ≤ e

-- Of a chunk that the master knows no replica of a member is dropped, of a view that is settled, being settled or prepared, and none
-- while it rolls back.
pub record DropOk (k : Known) (to epoch p : ℕ) : Type 0 where
  pub top : p ≤ k.top
  pub view : k.is_known ≡ true → p ≡ k.view → k.members p to ≡ false
  pub asked : p ≡ k.top → k.view < p → k.asked to ≡ false
  pub within : epoch ≤ k.current
  pub done : k.how epoch ≡ Rollback → start_of epoch ≤ k.view
  pub prepared : (e : ℕ) → IsPrepared k e → epoch < e → p ≡ k.prepared e → k.members (k.prepared e) to ≡ false

-- this count was reached under the stamp
pub record Reached (k : Known) (j t count : ℕ) : Type 0 where
  pub promise : t ≤ k.promise j
  pub low : count ≤ k.reached j t

-- an edit's place is below what each member of the view t reached under it
pub record Settled (k : Known) (t place : ℕ) (edit : Edit) : Type 0 where
  pub within : t ≤ k.view
  pub stood : k.stood t ≡ true
  pub stands : slice_get (k.list t) place ≡ Some edit
  pub members : (j : ℕ) → k.members t j ≡ true → Reached k j t (place + 1)

-- Of a server that names the chunk at an epoch: if that is a rollback of a prepare, and its image was the prepared list, it reached
-- all of that under the first stamp of the epoch.
pub record Restored (k : Known) (E j : ℕ) : Type 0 where
  pub within : E ≤ k.current
  pub promise : start_of E ≤ k.promise j
  pub floor : (e : ℕ) → E ≡ e + 1 → k.how E ≡ Rollback → IsPrepared k e → Fit k e j → k.base (k.prepared e) ≤ k.reached j (start_of E)

-- each member of the view t reached more than this place under it
pub record Covered (k : Known) (t place : ℕ) : Type 0 where
  pub members : (j : ℕ) → k.members t j ≡ true → Reached k j t (place + 1)

-- what a lease rests on
pub record LeaseOk (k : Known) (me : ℕ) (l : MemberLease) : Type 0 where
  pub within : l.stamp ≤ k.view
  pub holder : k.holder l.stamp ≡ Some me
  pub members : (j : ℕ) → k.members l.stamp j ≡ is_of l.members j
  pub told : (j : ℕ) → k.members l.stamp j ≡ true → Reached k j l.stamp (l.told j)
  pub waiting : All (λ (o : Open). slice_get (k.list l.stamp) o.place ≡ Some o.edit) l.waiting

abbrev pub ReportOk : Known → ℕ → Type 0
ReportOk k p = (p ≤ k.top) ⊎ ((E : ℕ) × (p ≡ start_of E) × (E ≤ k.current) × (k.how E ≡ Rollback))

-- what a message tells of what is known
abbrev pub MessageOk : Known → ℕ → Message → Type 0
MessageOk k j (Create t) = Stamped k t × (k.view < t → Bare k × (k.list k.view ≡ []))
MessageOk k j (Advance t) = Stamped k t × (k.view < t → k.members k.view j ≡ true)
MessageOk k j (Promised t count carried) = (t ≤ k.promise j) × (t ≤ k.top) × (k.view < t → (count ≡ k.reached j t) × (count ≤ length (k.list k.view)) × (k.members k.view j ≡ true → k.reached j k.view ≤ count) × (Bare k → count ≡ length (k.list k.view))) × (carried ≡ true → k.carries (epoch_of t) j ≡ true)
MessageOk k j (Grant t members) = (t ≤ k.view) × (k.holder t ≡ Some j) × ((i : ℕ) → k.members t i ≡ is_of members i)
MessageOk k j (Forward t place e) = (t ≤ k.view) × (k.members t j ≡ true) × (slice_get (k.list t) place ≡ Some e)
MessageOk k j (Ack t count) = Reached k j t count
MessageOk k j (Done t place e) = Settled k t place e
MessageOk k j (CopyOut t target with_image) = Stamped k t × (with_image ≡ true → IsPrepared k (epoch_of t) × Fit k (epoch_of t) j) × (k.view < t → k.members k.view target ≡ false)
MessageOk k j (CopyIn t r image) = Stamped k t × (k.view < t → Begins k r) × ImageOk k (epoch_of t) image × (k.view < t → k.members k.view j ≡ false) × Stands k r × StandsIf k image
MessageOk k j (Report epoch p) = ReportOk k p
MessageOk k j (Drop epoch p) = DropOk k j epoch p
MessageOk k j (Epoch epoch end) = (epoch ≤ k.current) × (k.how epoch ≡ end)
MessageOk k j (Learned epoch) = Restored k epoch j

abbrev pub SentOk : Known → Sent → Type 0
SentOk k m = MessageOk k m.server m.body

module _ (a b : Known) (g : Grows a b) where
  pub at_grown : (t : ℕ) → t ≤ a.view → (n : ℕ) (e : Edit) → slice_get (a.list t) n ≡ Some e → slice_get (b.list t) n ≡ Some e
  at_grown t l n e h = let m = g.list t l in rw m.1 (at_front (a.list t) m.0 n e h)

  pub Prefix_grown : (t : ℕ) → t ≤ a.view → (r : List Edit) → Prefix (a.list t) r → Prefix (b.list t) r
  Prefix_grown t l r p = let m = g.list t l in rw m.1 (Prefix-append (a.list t) m.0 r p)

  pub Stands_grown : (r : List Edit) → Stands a r → Stands b r
  Stands_grown r s = record { stamp = s.stamp; within = (let w = s.within in let v = g.view in omega arith); begins = Prefix_grown s.stamp s.within r s.begins }

  pub IsPrepared_grown : (e : ℕ) → IsPrepared a e → IsPrepared b e
  IsPrepared_grown e p = ((let l = p.0 in let m = g.current in omega arith), g.how e p.0 ∙ p.1, g.kept e p.0 ∙ p.2)

  pub IsPrepared_back : (e : ℕ) → e ≤ a.current → IsPrepared b e → IsPrepared a e
  IsPrepared_back e l p = (l, sym (g.how e l) ∙ p.1, sym (g.kept e l) ∙ p.2)

  pub Stamped_grown : (t : ℕ) → Stamped a t → Stamped b t
  Stamped_grown t s = record { top = (let l = s.top in let m = g.top in omega arith); legit = g.legit t s.top s.legit; fresh = s.fresh; late = (let l = s.late in let e = g.born in omega arith) }

  pub Fit_grown : (e j : ℕ) → IsPrepared a e → Fit a e j → Fit b e j
  Fit_grown e j p f = ⊎_elim
      (λ (m : a.members (a.prepared e) j ≡ true). inl (rw (g.prepared e p.0) (g.members (a.prepared e) j (g.before e p) ∙ m)))
      (λ (c : a.carries e j ≡ true). inr (g.carries e j c))
      f

  pub same_view : (t : ℕ) → t ≤ a.top → b.view < t → b.view ≡ a.view
  same_view t l v = ⊎_elim
      (λ (x : a.view < b.view). let o = g.overtaken x in absurd (omega arith))
      (λ (x : b.view ≤ a.view). let y = g.view in omega arith)
      (cases_lt a.view b.view)

  bare_back : b.view ≡ a.view → Bare b → Bare a
  bare_back e h = record {
    members = λ j. sym (g.members a.view j (omega arith)) ∙ rw e at (h.members j);
    holder = sym (g.holder a.view (omega arith)) ∙ rw e at (h.holder);
  }

  bare_list : b.view ≡ a.view → Bare b → b.list b.view ≡ a.list a.view
  bare_list e h = rw e (g.quiet a.view (omega arith) (bare_back e h).holder)

  pub whole_grown : (n : ℕ) → b.view ≡ a.view → (Bare a → n ≡ length (a.list a.view)) → Bare b → n ≡ length (b.list b.view)
  whole_grown n e w h = w (bare_back e h) ∙ ap length (sym (bare_list e h))

  pub Begins_grown : (r : List Edit) → b.view ≡ a.view → Begins a r → Begins b r
  Begins_grown r e p = record { prefix = rw e (Prefix_grown a.view (omega arith) r p.prefix); whole = whole_grown (length r) e p.whole }

  pub Bare_grown : b.view ≡ a.view → Bare a → Bare b
  Bare_grown e h = record { members = λ j. rw e (g.members a.view j (omega arith) ∙ h.members j); holder = rw e (g.holder a.view (omega arith) ∙ h.holder) }

  outside : (t j : ℕ) → t ≤ a.top → (a.view < t → a.members a.view j ≡ false) → b.view < t → b.members b.view j ≡ false
  outside t j l h v = let e = same_view t l v in rw e (g.members a.view j (omega arith) ∙ h (omega arith))

  inside : (t j : ℕ) → t ≤ a.top → (a.view < t → a.members a.view j ≡ true) → b.view < t → b.members b.view j ≡ true
  inside t j l h v = let e = same_view t l v in rw e (g.members a.view j (omega arith) ∙ h (omega arith))

  pub ImageOk_grown : (e : ℕ) (i : Option (List Edit)) → ImageOk a e i → ImageOk b e i
  ImageOk_grown e i ok = record { text = λ r is. let t = ok.text r is in (IsPrepared_grown e t.0, t.1 ∙ sym (ap b.list (g.prepared e t.0.0) ∙ g.image e t.0)) }

  pub Reached_grown : (j t count : ℕ) → Reached a j t count → Reached b j t count
  Reached_grown j t count r = record { promise = (let p = r.promise in let q = g.promise j in omega arith); low = (let c = r.low in let m = g.more j t r.promise in omega arith) }

  pub Covered_grown : (t : ℕ) → t ≤ a.view → (n : ℕ) → Covered a t n → Covered b t n
  Covered_grown t l n c = record { members = λ j m. Reached_grown j t (n + 1) (c.members j (sym (g.members t j l) ∙ m)) }

  pub closed_grown : (t : ℕ) → t ≤ a.view → (n : ℕ) (b' : Bool) → (b' ≡ true) ⊎ Covered a t n → (b' ≡ true) ⊎ Covered b t n
  closed_grown t l n b' h = ⊎_elim (λ (w : b' ≡ true). inl w) (λ (c : Covered a t n). inr (Covered_grown t l n c)) h

  pub Settled_grown : (t place : ℕ) (edit : Edit) → Settled a t place edit → Settled b t place edit
  Settled_grown t place edit s = record {
    within = (let w = s.within in let v = g.view in omega arith);
    stood = g.stood t s.within ∙ s.stood;
    stands = at_grown t s.within place edit s.stands;
    members = λ j m. Reached_grown j t (place + 1) (s.members j (sym (g.members t j s.within) ∙ m));
  }

  pub Restored_grown : (E j : ℕ) → Restored a E j → Restored b E j
  Restored_grown E j r = let up = g.promise j in let p = r.promise in let w = r.within in let m = g.current in record {
    within = omega arith;
    promise = omega arith;
    floor = λ e n h q f.
        let old : e ≤ a.current = omega arith in
        let q' = IsPrepared_back e old q in
        let f' : Fit a e j = ⊎_elim
        (λ (m : b.members (b.prepared e) j ≡ true). inl (sym (g.members (a.prepared e) j (g.before e q')) ∙ rw (g.prepared e old) at m))
        (λ (c : b.carries e j ≡ true). inr (g.carried e j (let x = epoch_of-le (start_of E) (a.promise j) r.promise in let y = epoch_of-start E in omega arith) c))
        f in
        let c = r.floor e n (sym (g.how E r.within) ∙ h) q' f' in
        let u = g.more j (start_of E) r.promise in
        rw (g.prepared e old, g.base (a.prepared e) (g.before e q')) (omega arith);
  }

  pub LeaseOk_grown : (me : ℕ) (l : MemberLease) → LeaseOk a me l → LeaseOk b me l
  LeaseOk_grown me l ok = record {
    within = (let w = ok.within in let v = g.view in omega arith);
    holder = g.holder l.stamp ok.within ∙ ok.holder;
    members = λ j. g.members l.stamp j ok.within ∙ ok.members j;
    told = λ j m. Reached_grown j l.stamp (l.told j) (ok.told j (sym (g.members l.stamp j ok.within) ∙ m));
    waiting = All-weaker (λ (o : Open). slice_get (a.list l.stamp) o.place ≡ Some o.edit) (λ (o : Open). slice_get (b.list l.stamp) o.place ≡ Some o.edit) (λ o e. at_grown l.stamp ok.within o.place o.edit e) l.waiting ok.waiting;
  }

  pub MessageOk_grown : (j : ℕ) (m : Message) → MessageOk a j m → MessageOk b j m
  MessageOk_grown j (Create t) h = (Stamped_grown t h.0, λ v. let e = same_view t h.0.top v in let x = h.1 (omega arith) in let y = Bare_grown e x.0 in (y, bare_list e y ∙ x.1))
  MessageOk_grown j (Advance t) h = (Stamped_grown t h.0, inside t j h.0.top h.1)
  MessageOk_grown j (Promised t count carried) h = (
    (let p = g.promise j in let q = h.0 in omega arith),
    (let p = g.top in let q = h.1 in omega arith),
    (λ v. let e = same_view t h.1 v in let x = h.2 (omega arith) in (x.0 ∙ sym (g.still j t h.0 v), rw e (let m = g.list a.view (omega arith) in let y = x.1 in rw m.1 (omega (arith, length-append (a.list a.view) m.0))), rw (e, g.members a.view j (omega arith), g.frozen j a.view (let p = h.0 in omega arith)) x.2, whole_grown count e x.3)),
    λ c. g.carries (epoch_of t) j (h.3 c),
  )
  MessageOk_grown j (Grant t members) h = ((let v = g.view in let l = h.0 in omega arith), g.holder t h.0 ∙ h.1, λ i. g.members t i h.0 ∙ h.2 i)
  MessageOk_grown j (Forward t place e) h = ((let v = g.view in let l = h.0 in omega arith), g.members t j h.0 ∙ h.1, at_grown t h.0 place e h.2)
  MessageOk_grown j (CopyOut t target with_image) h = (Stamped_grown t h.0, (λ f. let x = h.1 f in (IsPrepared_grown (epoch_of t) x.0, Fit_grown (epoch_of t) j x.0 x.1)), outside t target h.0.top h.2)
  MessageOk_grown j (CopyIn t r image) h = (
    Stamped_grown t h.0,
    (λ v. Begins_grown r (same_view t h.0.top v) (h.1 (omega arith))),
    ImageOk_grown (epoch_of t) image h.2,
    outside t j h.0.top h.3,
    Stands_grown r h.4,
    (λ i e. Stands_grown i (h.5 i e)),
  )
  MessageOk_grown j (Report epoch p) h = ⊎_elim
      (λ (l : p ≤ a.top). inl (let t = g.top in omega arith))
      (λ (x : (E : ℕ) × (p ≡ start_of E) × (E ≤ a.current) × (a.how E ≡ Rollback)). inr (x.0, x.1, (let m = g.current in let l = x.2 in omega arith), g.how x.0 x.2 ∙ x.3)) h
  MessageOk_grown j (Drop epoch p) h = record {
    top = (let t = g.top in let l = h.top in omega arith);
    view = λ kn e. false_from (b.members p j) (λ m. ⊎_elim
        (λ (x : a.view < p). let c = g.chosen p j x h.top (omega arith) m in false_true (a.asked j) (h.asked c.0 x) c.1)
        (λ (x : p ≤ a.view). let v = g.view in let same : b.view ≡ a.view = omega arith in false_true (a.members p j) (h.view (g.knew same kn) (omega arith)) (sym (g.members p j x) ∙ m))
        (cases_lt a.view p));
    asked = λ e v. let t = g.top in let l = h.top in let same : b.top ≡ a.top = omega arith in false_from (b.asked j) (λ m. false_true (a.asked j) (h.asked (omega arith) (let x = g.view in omega arith)) (g.asked j same m));
    within = (let m = g.current in let l = h.within in omega arith);
    done = λ r. let d = h.done (sym (g.how epoch h.within) ∙ r) in let v = g.view in omega arith;
    prepared = λ e q l is. ⊎_elim
        (λ (x : a.current < e). let n = g.preparing e x q in let y : p ≡ a.view = is ∙ n.0 in rw (← is) (g.members p j (omega arith) ∙ h.view n.2 y))
        (λ (x : e ≤ a.current). let q' = IsPrepared_back e x q in let same = g.prepared e x in rw same (g.members (a.prepared e) j (g.before e q') ∙ h.prepared e q' l (is ∙ same)))
        (cases_lt a.current e);
  }
  MessageOk_grown j (Epoch epoch end) h = ((let m = g.current in let l = h.0 in omega arith), g.how epoch h.0 ∙ h.1)
  MessageOk_grown j (Learned epoch) h = Restored_grown epoch j h
  MessageOk_grown j (Ack t count) h = Reached_grown j t count h
  MessageOk_grown j (Done t place edit) h = Settled_grown t place edit h

  pub sent_grown : (ms : List Sent) → All (SentOk a) ms → All (SentOk b) ms
  sent_grown ms h = All-weaker (SentOk a) (SentOk b) (λ m p. MessageOk_grown m.server m.body p) ms h

-- the view t begins with the first edits of the former view's list, and no fewer than a member that left that view had reached
pub record Link (k : Known) (t : ℕ) : Type 0 where
  pub top : t ≤ k.top
  pub legit : Legit k t
  pub earlier : k.prev t < t
  pub stood : k.stood (k.prev t) ≡ true
  pub within : k.base t ≤ length (k.list (k.prev t))
  pub more : List Edit
  pub list : k.list t ≡ take (k.base t) (k.list (k.prev t)) ++ more
  pub covers : ((k.holder (k.prev t) ≡ None) × (k.base t ≡ length (k.list (k.prev t))))
      ⊎ ((x : ℕ) × (k.members (k.prev t) x ≡ true) × (k.prev t < k.promise x) × (k.reached x (k.prev t) ≤ k.base t))

pub Link_grown : (a b : Known) → Grows a b → (t : ℕ) → t ≤ a.view → Link a t → Link b t
Link_grown a b g t l k =
    let p = g.prev t l in
    let this = g.list t l in
    let old : a.prev t ≤ a.view = (let e = k.earlier in omega arith) in
    let before = g.list (a.prev t) old in
    record {
      top = (let t = k.top in let u = g.top in omega arith);
      legit = g.legit t k.top k.legit;
      earlier = (let e = k.earlier in omega arith);
      stood = rw p (g.stood (a.prev t) old ∙ k.stood);
      within = (let w = k.within in rw (p, g.base t l, before.1) (omega (arith, length-append (a.list (a.prev t)) before.0)));
      more = k.more ++ this.0;
      list = rw (p, g.base t l, this.1, k.list, before.1, take-append-le (a.base t) (a.list (a.prev t)) before.0 k.within) (append_assoc (take (a.base t) (a.list (a.prev t))) k.more this.0);
      covers = elim k.covers [
        | inl z ↦ inl (rw p (g.holder (a.prev t) old ∙ z.0), rw (p, g.base t l, g.quiet (a.prev t) old z.0) z.1)
        | inr z ↦ inr (z.0, rw p (g.members (a.prev t) z.0 old ∙ z.1), (let u = g.promise z.0 in let v = z.2 in omega arith), rw (p, g.base t l, g.frozen z.0 (a.prev t) z.2) z.3)
      ];
    }

-- in a list a client's numbers rise
pub record Rising (list : List Edit) : Type 0 where
  pub rises : (i j : ℕ) (a b : Edit) → slice_get list i ≡ Some a → slice_get list j ≡ Some b → a.req.client.0 ≡ b.req.client.0 → i < j → a.req.number < b.req.number

-- a request above all of its client in the list
pub record Above (list : List Edit) (e : Edit) : Type 0 where
  pub above : (i : ℕ) (a : Edit) → slice_get list i ≡ Some a → a.req.client.0 ≡ e.req.client.0 → a.req.number < e.req.number

pub Rising-nil : Rising []
Rising-nil = record { rises = λ i j a b ai bj. absurd (cc) }

pub Rising-push : (list : List Edit) (e : Edit) → Rising list → Above list e → Rising (list ++ e ∷ [])
Rising-push list e r new = record {
  rises = λ i j a b ai bj same lt. elim (at_push list e i a ai) [
    | inl p ↦ elim (at_push list e j b bj) [
      | inl q ↦ r.rises i j a b p q same lt
      | inr q ↦ let u : a.req.number < e.req.number = new.above i a p (same ∙ ap (λ (x : Edit). x.req.client.0) (sym q.1)) in let v : e.req.number ≡ b.req.number = ap (λ (x : Edit). x.req.number) q.1 in omega arith
    ]
    | inr p ↦ elim (at_push list e j b bj) [
      | inl q ↦ absurd (let w = slice_get_within list j b q in let z = p.0 in omega arith)
      | inr q ↦ absurd (let y = p.0 in let z = q.0 in omega arith)
    ]
  ];
}

pub Rising-take : (list : List Edit) (m : ℕ) → Rising list → Rising (take m list)
Rising-take list m r = record { rises = λ i j a b ai bj. r.rises i j a b (take_from list m i a ai) (take_from list m j b bj) }

-- before the view t was settled, a rollback of the prepare at e gave up the view a
pub record Undone (k : Known) (a t : ℕ) : Type 0 where
  pub e : ℕ
  pub within : e + 1 ≤ k.current
  pub is : IsPrepared k e
  pub how : k.how (e + 1) ≡ Rollback
  pub accepted : start_of (e + 1) ≤ t
  pub after : k.prepared e < a
  pub before : a < start_of (e + 1)

pub record KnownOk (k : Known) : Type 0 where
  pub viewtop : k.view ≤ k.top
  pub topepoch : epoch_of k.top ≤ k.current
  pub members : (t j : ℕ) → t ≤ k.view → k.members t j ≡ true → t ≤ k.promise j
  pub quiet : (t : ℕ) → t ≤ k.view → k.holder t ≡ None → length (k.list t) ≡ k.base t
  pub held : (t j : ℕ) → t ≤ k.view → k.holder t ≡ Some j → k.members t j ≡ true
  pub before : (e : ℕ) → IsPrepared k e → k.prepared e ≤ k.view
  pub prepared : (e : ℕ) → IsPrepared k e → k.holder (k.prepared e) ≡ None
  pub straight : (e E : ℕ) → IsPrepared k e → epoch_of (k.prepared e) < E → E < e → k.how E ≢ Rollback
  pub rolled : (E : ℕ) → E ≤ k.current → k.how E ≡ Rollback → Legit k (start_of E) × ((start_of E ≤ k.view) ⊎ ((E ≡ k.current) × (k.top < start_of E)))
  pub unheld : (E : ℕ) → E ≤ k.current → k.how E ≡ Rollback → start_of E ≤ k.view → k.holder (start_of E) ≡ None
  pub first : (j : ℕ) → k.members k.born j ≡ false
  pub links : (t : ℕ) → k.born < t → t ≤ k.view → k.stood t ≡ true → Link k t
  pub fresh : (t : ℕ) → k.view < t → (k.holder t ≡ None) × (length (k.list t) ≡ k.base t) × ((j : ℕ) → k.members t j ≡ false) × (k.stood t ≡ false)
  pub floor : (t j : ℕ) → t ≤ k.view → k.members t j ≡ true → k.base t ≤ k.reached j t
  pub peopled : (t j : ℕ) → t ≤ k.view → k.members t j ≡ true → k.stood t ≡ true
  pub between : (t a : ℕ) → t ≤ k.view → k.stood t ≡ true → k.stood a ≡ true → k.prev t < a → a < t → Undone k a t
  pub now : k.is_known ≡ true → k.stood k.view ≡ true
  pub ready : (e : ℕ) → IsPrepared k e → k.stood (k.prepared e) ≡ true
  pub blank : (k.born ≤ k.view) × (k.stood k.born ≡ true) × (k.holder k.born ≡ None)
  pub early : (t : ℕ) → k.stood t ≡ true → k.born ≤ t
  pub lists : (t : ℕ) → Rising (k.list t)

no_holder : (o : Option ℕ) → ((j : ℕ) → o ≡ Some j → ⊥) → o ≡ None
no_holder None h = refl
no_holder (Some j) h = absurd (h j refl)

pub unheld_bare : (k : Known) → KnownOk k → (t : ℕ) → t ≤ k.view → ((j : ℕ) → k.members t j ≡ false) → k.holder t ≡ None
unheld_bare k known t l bare = no_holder (k.holder t) (λ j h. false_true (k.members t j) (bare j) (known.held t j l h))

pub bare_of : (k : Known) → KnownOk k → ((j : ℕ) → k.members k.view j ≡ false) → Bare k
bare_of k known none = record { members = none; holder = unheld_bare k known k.view (omega arith) none }

pub Undone_grown : (a b : Known) → Grows a b → (x t : ℕ) → Undone a x t → Undone b x t
Undone_grown a b g x t u = let w = u.within in record {
  e = u.e;
  within = (let m = g.current in omega arith);
  is = IsPrepared_grown a b g u.e u.is;
  how = g.how (u.e + 1) u.within ∙ u.how;
  accepted = u.accepted;
  after = rw (g.prepared u.e u.is.0) u.after;
  before = u.before;
}

-- what stays of the links where no view is settled anew
pub between_grown : (a b : Known) → Grows a b → KnownOk a → (t x : ℕ) → t ≤ a.view → b.stood t ≡ true → b.stood x ≡ true → b.prev t < x → x < t → Undone b x t
between_grown a b g known t x l st sx p lt = Undone_grown a b g x t
    (known.between t x l (sym (g.stood t l) ∙ st) (sym (g.stood x (omega arith)) ∙ sx) (let e = g.prev t l in omega arith) lt)

pub floor_grown : (a b : Known) → Grows a b → KnownOk a → (t j : ℕ) → t ≤ a.view → b.members t j ≡ true → b.base t ≤ b.reached j t
floor_grown a b g known t j l m =
    let m' = sym (g.members t j l) ∙ m in
    rw (g.base t l) (let f = known.floor t j l m' in let u = g.more j t (known.members t j l m') in omega arith)

-- the part of views
pub record ViewsOk (k : Known) (me : ℕ) (s : Member) : Type 0 where
  pub promise : k.promise me ≡ s.promise
  pub epoch : k.epoch me ≡ s.epoch
  pub count : (r : List Edit) → s.live ≡ Some r → k.reached me s.promise ≡ length r
  pub idle : k.view < s.promise → s.promise ≤ k.top → (r : List Edit) → s.live ≡ Some r → Begins k r
  pub mine : k.view < s.promise → s.promise ≤ k.top → (r : List Edit) → s.live ≡ Some r → k.members k.view me ≡ true → k.reached me k.view ≤ length r
  pub member : s.promise ≤ k.view → k.members s.promise me ≡ true → (r : List Edit) → s.live ≡ Some r → (k.base s.promise ≤ length r) × Prefix (k.list s.promise) r
  pub whole : s.promise ≤ k.view → k.holder s.promise ≡ Some me → (r : List Edit) → s.live ≡ Some r → length r ≡ length (k.list s.promise)
  pub lease : (l : MemberLease) → s.lease ≡ Some l → LeaseOk k me l
  pub same : (l : MemberLease) → s.lease ≡ Some l → (l.stamp ≡ s.promise) × (s.taken ≡ s.promise)
  pub closed : (l : MemberLease) (r : List Edit) → s.lease ≡ Some l → s.live ≡ Some r → (n : ℕ) → n < length r → (waits l.waiting n ≡ true) ⊎ Covered k l.stamp n
  pub untaken : s.promise ≤ k.view → k.holder s.promise ≡ Some me → s.taken ≢ s.promise → length (k.list s.promise) ≡ k.base s.promise
  pub stands : StandsIf k s.live
  pub pictures : StandsIf k s.image

-- the part of epochs: the seal relation in its three cases, and what it rests on
pub record SealOk (k : Known) (me : ℕ) (s : Member) : Type 0 where
  pub learned : s.epoch ≤ k.current
  pub low : epoch_of s.promise ≤ s.epoch
  pub below : (s.promise ≤ k.top) ⊎ ((s.promise ≡ start_of k.current) × (k.how k.current ≡ Rollback))
  pub legit : Legit k s.promise
  pub carried : s.carried ≡ true → k.carries (epoch_of s.promise) me ≡ true
  pub carries : (e : ℕ) → k.carries e me ≡ true → e ≤ s.epoch
  pub none : k.how s.epoch ≢ Prepare → s.image ≡ None
  pub unlearned : (e : ℕ) → IsPrepared k e → s.epoch < e → k.members (k.prepared e) me ≡ true → (r : List Edit) → s.live ≡ Some r → r ≡ k.list (k.prepared e)
  pub sealed : IsPrepared k s.epoch → Fit k s.epoch me → (r : List Edit) → s.image ≡ Some r → r ≡ k.list (k.prepared s.epoch)
  pub rolled : (e : ℕ) → e + 1 ≤ k.current → k.how (e + 1) ≡ Rollback → IsPrepared k e → s.promise ≡ start_of (e + 1) → Fit k e me → (r : List Edit) → s.live ≡ Some r → r ≡ k.list (k.prepared e)

-- what survives: nothing was lost since the prepare, or since the copy that brought the image
pub record KeepOk (k : Known) (me : ℕ) (s : Member) : Type 0 where
  pub unlearned : (e : ℕ) → Latest k e → s.epoch < e → k.members (k.prepared e) me ≡ true → s.intact ≡ true → s.live ≢ None
  pub sealed : Latest k s.epoch → Fit k s.epoch me → s.intact ≡ true → s.image ≢ None
  pub rolled : (e : ℕ) → k.current ≡ e + 1 → k.how (e + 1) ≡ Rollback → IsPrepared k e → k.view < start_of (e + 1) → s.epoch ≡ e + 1 → Fit k e me → s.intact ≡ true → (s.promise ≡ start_of (e + 1)) × (s.live ≢ None)

pub record StepOk (k : Known) (me : ℕ) (s : Member) (st : Step) : Type 0 where
  pub views : ViewsOk (after k me st) me st.member
  pub seal : SealOk (after k me st) me st.member
  pub keep : KeepOk (after k me st) me st.member
  pub sends : All (SentOk (after k me st)) st.sends
  pub grows : Grows k (after k me st)
  pub known : KnownOk (after k me st)
  pub lone : (st.edits ≡ []) ⊎ ((st.member.promise ≤ k.view) × (k.holder st.member.promise ≡ Some me))

pub Grows_same : (k : Known) → KnownOk k → Grows k k
Grows_same k known = record {
  born = refl;
  view = omega arith;
  top = omega arith;
  current = omega arith;
  overtaken = λ l. absurd (omega arith);
  list = λ t l. ([], sym (append-nil (k.list t)));
  members = λ t j l. refl;
  holder = λ t l. refl;
  asked = λ j s h. h;
  chosen = λ t j v l w m. absurd (omega arith);
  preparing = λ e l p. absurd (let x = p.0 in omega arith);
  knew = λ s h. h;
  how = λ e l. refl;
  prepared = λ e l. refl;
  kept = λ e l. refl;
  image = λ e p. refl;
  carries = λ e j c. c;
  promise = λ j. omega arith;
  epoch = λ j. omega arith;
  frozen = λ j t l. refl;
  quiet = λ t l n. refl;
  base = λ t l. refl;
  prev = λ t l. refl;
  still = λ j t l v. refl;
  legit = λ t l h. h;
  before = known.before;
  more = λ j t l. omega arith;
  carried = λ e j l c. c;
  stood = λ t l. refl;
}

-- what many events leave: a settled view that nobody may number in has its list and its members for good
pub record Later (a b : Known) : Type 0 where
  pub born : b.born ≡ a.born
  pub view : a.view ≤ b.view
  pub top : a.top ≤ b.top
  pub current : a.current ≤ b.current
  pub how : (e : ℕ) → e ≤ a.current → b.how e ≡ a.how e
  pub prepared : (e : ℕ) → e ≤ a.current → b.prepared e ≡ a.prepared e
  pub kept : (e : ℕ) → e ≤ a.current → b.kept e ≡ a.kept e
  pub members : (t j : ℕ) → t ≤ a.view → b.members t j ≡ a.members t j
  pub stood : (t : ℕ) → t ≤ a.view → b.stood t ≡ a.stood t
  pub list : (t : ℕ) → t ≤ a.view → (more : List Edit) × (b.list t ≡ a.list t ++ more)
  pub settled : (t place : ℕ) (edit : Edit) → Settled a t place edit → Settled b t place edit
  pub holder : (t : ℕ) → t ≤ a.view → b.holder t ≡ a.holder t
  pub carries : (e j : ℕ) → a.carries e j ≡ true → b.carries e j ≡ true
  pub promise : (j : ℕ) → a.promise j ≤ b.promise j
  pub epoch : (j : ℕ) → a.epoch j ≤ b.epoch j
  pub more : (j t : ℕ) → t ≤ a.promise j → a.reached j t ≤ b.reached j t
  pub fixed : (t : ℕ) → t ≤ a.view → a.holder t ≡ None → (b.holder t ≡ None) × (b.list t ≡ a.list t) × ((j : ℕ) → b.members t j ≡ a.members t j)

pub later_of : (a b : Known) → Grows a b → Later a b
later_of a b g = record { born = g.born; view = g.view; top = g.top; current = g.current; how = g.how; prepared = g.prepared; kept = g.kept; members = g.members; stood = g.stood; list = g.list; settled = Settled_grown a b g; holder = g.holder; carries = g.carries; promise = g.promise; epoch = g.epoch; more = g.more; fixed = λ t l n. (g.holder t l ∙ n, g.quiet t l n, λ j. g.members t j l) }

pub later_same : (a : Known) → Later a a
later_same a = record { born = refl; view = omega arith; top = omega arith; current = omega arith; how = λ e l. refl; prepared = λ e l. refl; kept = λ e l. refl; members = λ t j l. refl; stood = λ t l. refl; list = λ t l. ([], sym (append-nil (a.list t))); settled = λ t p e s. s; holder = λ t l. refl; carries = λ e j c. c; promise = λ j. omega arith; epoch = λ j. omega arith; more = λ j t l. omega arith; fixed = λ t l n. (n, refl, λ j. refl) }

pub later_then : (a b c : Known) → Later a b → Later b c → Later a c
later_then a b c x y = let u = x.current in record {
  born = y.born ∙ x.born;
  view = (let u = x.view in let v = y.view in omega arith);
  top = (let u = x.top in let v = y.top in omega arith);
  current = (let u = x.current in let v = y.current in omega arith);
  how = λ e l. y.how e (omega arith) ∙ x.how e l;
  prepared = λ e l. y.prepared e (omega arith) ∙ x.prepared e l;
  kept = λ e l. y.kept e (omega arith) ∙ x.kept e l;
  members = λ t j l. y.members t j (let v = x.view in omega arith) ∙ x.members t j l;
  stood = λ t l. y.stood t (let v = x.view in omega arith) ∙ x.stood t l;
  list = λ t l. let m = x.list t l in let n = y.list t (let v = x.view in omega arith) in (m.0 ++ n.0, n.1 ∙ ap (λ (ys : List Edit). ys ++ n.0) m.1 ∙ append_assoc (a.list t) m.0 n.0);
  settled = λ t p e s. y.settled t p e (x.settled t p e s);
  holder = λ t l. y.holder t (let v = x.view in omega arith) ∙ x.holder t l;
  carries = λ e j is. y.carries e j (x.carries e j is);
  promise = λ j. let p = x.promise j in let q = y.promise j in omega arith;
  epoch = λ j. let p = x.epoch j in let q = y.epoch j in omega arith;
  more = λ j t l. let p = x.promise j in let q = x.more j t l in let r = y.more j t (omega arith) in omega arith;
  fixed = λ t l n. let f = x.fixed t l n in let g = y.fixed t (let u = x.view in omega arith) f.0 in (g.0, g.1 ∙ f.1, λ j. g.2 j ∙ f.2 j);
}
