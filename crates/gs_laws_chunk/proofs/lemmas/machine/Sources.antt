-- From where a live replica has its edits.
use Rattle.std.proofs.Common.{◌≡◌, ℕ, ◌<◌, ◌≤◌, ◌⊎◌, inl, inr, ⊎_elim, List, [], length, None, true, sym, ap, ◌∙◌, arith}
use Rattle.std.specs.List.{All}
use Rattle.std.proofs.lemmas.Bool.{cases_lt}
use Rattle.std.proofs.lemmas.List.Elements.{All-weaker}
use Rattle.gs_base.specs.declared.epoch.EpochEnd.TheVariants.{Rollback}
use Rattle.gs_replica.specs.Stands.{Edit}
use Rattle.gs_laws_chunk.specs.machine.Stamps.{epoch_of, start_of}
use Rattle.gs_laws_chunk.specs.machine.Machine.{Message, Create, Advance, CopyIn, Sent, Known}
use Rattle.gs_laws_chunk.proofs.lemmas.machine.Stamps.{epoch_of-le, epoch_of-start}
use Rattle.gs_laws_chunk.proofs.lemmas.machine.Known.{Grows, Prefix, Prefix_grown}

-- the view before a stamp that was proposed: none was settled between, and none is any more
pub record Former (k : Known) (t v : ℕ) : Type 0 where
  pub within : v ≤ k.view
  pub under : v < t
  pub top : t ≤ k.top
  pub epoch : epoch_of t ≤ k.current
  pub stood : k.stood v ≡ true
  pub next : (u : ℕ) → k.stood u ≡ true → v < u → u < t → ⊥
  pub rolled : (E : ℕ) → E ≤ k.current → k.how E ≡ Rollback → start_of E ≤ t → start_of E ≤ v

-- the first edits of the list of the very stamp
pub record AtStamp (k : Known) (p : ℕ) (r : List Edit) : Type 0 where
  pub within : p ≤ k.view
  pub stood : k.stood p ≡ true
  pub begins : Prefix (k.list p) r
  pub base : k.base p ≤ length r

-- those of the view before it, no fewer than a member that left that view had reached
pub record Sourced (k : Known) (p : ℕ) (r : List Edit) : Type 0 where
  pub view : ℕ
  pub former : Former k p view
  pub begins : Prefix (k.list view) r
  pub covers : ((k.holder view ≡ None) × (length r ≡ length (k.list view)))
      ⊎ ((x : ℕ) × (k.members view x ≡ true) × (view < k.promise x) × (k.reached x view ≤ length r))

-- what was sealed, where the stamp is the first one of a rollback
pub record RolledTo (k : Known) (p : ℕ) : Type 0 where
  pub E : ℕ
  pub is : p ≡ start_of E
  pub within : E ≤ k.current
  pub how : k.how E ≡ Rollback

abbrev pub Origin : Known → ℕ → List Edit → Type 0
Origin k p r = AtStamp k p r ⊎ Sourced k p r ⊎ RolledTo k p

abbrev pub Says : Known → ℕ → Message → Type 0
Says k j (Create t) = Origin k t []
Says k j (Advance t) = (v : ℕ) × Former k t v × (k.members v j ≡ true)
Says k j (CopyIn t r image) = Origin k t r
Says k j _ = Unit {0}

abbrev pub SaysOk : Known → Sent → Type 0
SaysOk k m = Says k m.server m.body

-- what is settled anew is the stamp proposed last, or above it
abbrev pub NewAbove : Known → Known → Type 0
NewAbove a b = (u : ℕ) → a.view < u → b.stood u ≡ true → a.top ≤ u

module _ (a b : Known) (g : Grows a b) (new : NewAbove a b) where
  pub Former_grown : (t v : ℕ) → Former a t v → Former b t v
  Former_grown t v f = record {
    within = (let w = f.within in let x = g.view in omega arith);
    under = f.under;
    top = (let w = f.top in let x = g.top in omega arith);
    epoch = (let w = f.epoch in let x = g.current in omega arith);
    stood = g.stood v f.within ∙ f.stood;
    next = λ u s l m. ⊎_elim
        (λ (x : a.view < u). let y = new u x s in let z = f.top in omega arith)
        (λ (x : u ≤ a.view). f.next u (sym (g.stood u x) ∙ s) l m)
        (cases_lt a.view u);
    rolled = λ E l h s. ⊎_elim
        (λ (x : a.current < E). absurd (let y = epoch_of-le (start_of E) t s in let z = epoch_of-start E in let w = f.epoch in omega arith))
        (λ (x : E ≤ a.current). f.rolled E x (sym (g.how E x) ∙ h) s)
        (cases_lt a.current E);
  }

  pub Origin_grown : (p : ℕ) (r : List Edit) → Origin a p r → Origin b p r
  Origin_grown p r o = elim o [
    | inl x ↦ inl (record {
      within = (let w = x.within in let v = g.view in omega arith);
      stood = g.stood p x.within ∙ x.stood;
      begins = Prefix_grown a b g p x.within r x.begins;
      base = rw (g.base p x.within) x.base;
    })
    | inr y ↦ elim y [
      | inl x ↦ let l = x.former.within in inr (inl (record {
        view = x.view;
        former = Former_grown p x.view x.former;
        begins = Prefix_grown a b g x.view l r x.begins;
        covers = elim x.covers [
          | inl z ↦ inl (g.holder x.view l ∙ z.0, z.1 ∙ ap length (sym (g.quiet x.view l z.0)))
          | inr z ↦ inr (z.0, g.members x.view z.0 l ∙ z.1, (let u = z.2 in let q = g.promise z.0 in omega arith), rw (g.frozen z.0 x.view z.2) z.3)
        ];
      }))
      | inr x ↦ inr (inr (record { E = x.E; is = x.is; within = (let w = x.within in let v = g.current in omega arith); how = g.how x.E x.within ∙ x.how }))
    ]
  ]

  pub Says_grown : (j : ℕ) (m : Message) → Says a j m → Says b j m
  Says_grown j (Create t) h = Origin_grown t [] h
  Says_grown j (Advance t) h = (h.0, Former_grown t h.0 h.1, g.members h.0 j h.1.within ∙ h.2)
  Says_grown j (CopyIn t r image) h = Origin_grown t r h
  Says_grown j _ h = tt

  pub says_grown : (ms : List Sent) → All (SaysOk a) ms → All (SaysOk b) ms
  says_grown ms h = All-weaker (SaysOk a) (SaysOk b) (λ m p. Says_grown m.server m.body p) ms h
