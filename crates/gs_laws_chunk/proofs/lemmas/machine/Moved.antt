-- What a server rests on stays where the knowledge grows within one epoch of the master.
use Rattle.std.proofs.Common.{◌≡◌, ℕ, ◌+◌, ◌≤◌, inl, inr, ⊎_elim, true, sym, ap, ◌∙◌, arith}
use Rattle.gs_base.specs.declared.epoch.EpochEnd.TheVariants.{Rollback}
use Rattle.gs_laws_chunk.specs.machine.Stamps.{epoch_of, start_of}
use Rattle.gs_laws_chunk.specs.machine.Machine.{Member, Known}
use Rattle.gs_laws_chunk.proofs.lemmas.machine.Known.{Fit, IsPrepared, Latest, KeepOk, Legit, Grows, KnownOk, SealOk}

pub record Within (a b : Known) (me : ℕ) : Type 0 where
  pub current : b.current ≡ a.current
  pub how : (e : ℕ) → b.how e ≡ a.how e
  pub prepared : (e : ℕ) → b.prepared e ≡ a.prepared e
  pub kept : (e : ℕ) → b.kept e ≡ a.kept e
  pub carries : (e : ℕ) → b.carries e me ≡ true → a.carries e me ≡ true

module _ (a b : Known) (known : KnownOk a) (g : Grows a b) (me : ℕ) (w : Within a b me) where
  prepared_back : (e : ℕ) → IsPrepared b e → IsPrepared a e
  prepared_back e p = ((let l = p.0 in let m = w.current in omega arith), sym (w.how e) ∙ p.1, sym (w.kept e) ∙ p.2)

  members_back : (e : ℕ) → IsPrepared a e → b.members (b.prepared e) me ≡ true → a.members (a.prepared e) me ≡ true
  members_back e p m = sym (g.members (a.prepared e) me (known.before e p)) ∙ rw w.prepared at m

  list_same : (e : ℕ) → IsPrepared a e → b.list (b.prepared e) ≡ a.list (a.prepared e)
  list_same e p = ap b.list (w.prepared e) ∙ g.image e p

  fit_from : (e : ℕ) → IsPrepared a e → Fit b e me → Fit a e me
  fit_from e p f = ⊎_elim
      (λ (m : b.members (b.prepared e) me ≡ true). inl (members_back e p m))
      (λ (c : b.carries e me ≡ true). inr (w.carries e c))
      f

  pub Legit_same : (t : ℕ) → Legit a t → Legit b t
  Legit_same t l e p = rw (w.prepared e) (l e (prepared_back e p))

  pub seal_same : (s : Member) → SealOk a me s → SealOk b me s
  seal_same s ok = record {
    learned = (let l = ok.learned in let m = w.current in omega arith);
    low = ok.low;
    below = ⊎_elim
        (λ (l : s.promise ≤ a.top). inl (let t = g.top in omega arith))
        (λ (x : (s.promise ≡ start_of a.current) × (a.how a.current ≡ Rollback)). inr (rw w.current (x.0, w.how a.current ∙ x.1)))
        ok.below;
    legit = Legit_same s.promise ok.legit;
    carried = λ c. g.carries (epoch_of s.promise) me (ok.carried c);
    carries = λ e c. ok.carries e (w.carries e c);
    none = λ n. ok.none (λ p. n (w.how s.epoch ∙ p));
    unlearned = λ e p l m r is. let q = prepared_back e p in ok.unlearned e q l (members_back e q m) r is ∙ sym (list_same e q);
    sealed = λ p f r is. let q = prepared_back s.epoch p in ok.sealed q (fit_from s.epoch q f) r is ∙ sym (list_same s.epoch q);
    rolled = λ e l h q p f r is. let l' : e + 1 ≤ a.current = (let m = w.current in omega arith) in let h' = sym (w.how (e + 1)) ∙ h in
        let q' = prepared_back e q in
        ok.rolled e l' h' q' p (fit_from e q' f) r is ∙ sym (list_same e q');
  }

  latest_back : (e : ℕ) → Latest b e → Latest a e
  latest_back e l = record { is = prepared_back e l.is; last = λ x x' p. l.last x (let m = w.current in omega arith) (w.how x ∙ p) }

  pub keep_same : (s : Member) → KeepOk a me s → KeepOk b me s
  keep_same s ok = record {
    unlearned = λ e l x m. let q = latest_back e l in ok.unlearned e q x (members_back e q.is m);
    sealed = λ l f. let q = latest_back s.epoch l in ok.sealed q (fit_from s.epoch q.is f);
    rolled = λ e cu h p v ep f c. let q = prepared_back e p in
        ok.rolled e (sym w.current ∙ cu) (sym (w.how (e + 1)) ∙ h) q (let x = g.view in omega arith) ep (fit_from e q f) c;
  }
