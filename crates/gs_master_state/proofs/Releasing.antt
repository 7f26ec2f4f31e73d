-- That room of several chunks is given up where that of one after the other is.
use Rattle.std.proofs.Common.{refl, ◌≡◌, ℕ, List, [], ◌∷◌, ◌++◌, Option, Some, None, ap, sym, subst, ◌∙◌}
use Rattle.std.proofs.lemmas.Bool.{false≢true}
use Rattle.std.proofs.lemmas.List.{flat_map_more}
use Rattle.std.proofs.lemmas.List.Elements.{All-nil, All-cons, All-append, All-weaker}
use Rattle.std.specs.Prelude.{is_some, OnSome}
use Rattle.std.specs.List.{All}
use Rattle.std.specs.Ordering.{nat_cmp}
use Rattle.std.specs.FinMap as fin
use Rattle.gs_base_table.specs.Slots.{GivesUpRoom, HasRoom, live}
use Rattle.gs_master_state.specs.inner.Released.{GivesUpEach, ReleasesEach, all_forgotten, chunks_in, forgotten_in}
use Rattle.gs_master_state.specs.declared.undo.Undo.{Undo}

one_item : (P : ℕ → Type 0) (x : ℕ) → P x → All P (x ∷ [])
one_item P x is = All-cons P x [] is (All-nil P)

module _ {V : Type 0} where
  abbrev Lacks : List (ℕ × Option V) → ℕ → Type 0
  Lacks slots chunk = HasRoom nat_cmp slots chunk → ⊥

  -- where no slot is, there is no room
  no_room : (slots : List (ℕ × Option V)) (chunk : ℕ) → fin.find nat_cmp chunk slots ≡ None → Lacks slots chunk
  no_room slots chunk none room = false≢true (sym (ap is_some none) ∙ room.slot)

  -- ---- what is taken out

  gives_one : (a b c : List (ℕ × Option V)) (xs : List ℕ) (x : ℕ) → GivesUpEach a b xs → GivesUpRoom nat_cmp b c x → GivesUpEach a c (xs ++ x ∷ [])
  gives_one a b c xs x given one = record {
    none = All-append (Lacks c) xs (x ∷ []) (All-weaker (Lacks b) (Lacks c) (λ y lacks room. lacks (one.fewer y room)) xs given.none) (one_item (Lacks c) x (no_room c x one.none));
    fewer = λ other room. given.fewer other (one.fewer other room);
  }

  -- one chunk more
  pub gives_more : (a b c : List (ℕ × Option V)) (xs ys : List ℕ) (x : ℕ) → ys ≡ xs ++ x ∷ [] → GivesUpEach a b xs → GivesUpRoom nat_cmp b c x → GivesUpEach a c ys
  gives_more a b c xs ys x more given one = subst (GivesUpEach a c) (sym more) (gives_one a b c xs x given one)

  -- ---- what is free

  abbrev Free : List (ℕ × Option V) → ℕ → Type 0
  Free slots chunk = fin.get (live nat_cmp slots) chunk ≡ None → Lacks slots chunk

  pub releases_none : (slots : List (ℕ × Option V)) → ReleasesEach slots slots []
  releases_none slots = record { none = All-nil (Free slots); fewer = λ other room. room }

  -- a chunk's room is released, where nothing stands
  fewer_by : (b c : List (ℕ × Option V)) (x : ℕ) (o : Option V) → fin.get (live nat_cmp b) x ≡ o → (fin.get (live nat_cmp b) x ≡ None → GivesUpRoom nat_cmp b c x) → OnSome o (c ≡ b) → (other : ℕ) → HasRoom nat_cmp c other → HasRoom nat_cmp b other
  fewer_by b c x None is empty kept other room = (empty is).fewer other room
  fewer_by b c x (Some v) is empty kept other room = subst (λ slots. HasRoom nat_cmp slots other) kept room

  releases_one : (b c : List (ℕ × Option V)) (x : ℕ) → live nat_cmp c ≡ live nat_cmp b → (fin.get (live nat_cmp b) x ≡ None → GivesUpRoom nat_cmp b c x) → OnSome (fin.get (live nat_cmp b) x) (c ≡ b) → ReleasesEach b c (x ∷ [])
  releases_one b c x same empty kept = record {
    none = one_item (Free c) x (λ none. no_room c x (empty (ap (λ m. fin.get m x) (sym same) ∙ none)).none);
    fewer = fewer_by b c x (fin.get (live nat_cmp b) x) refl empty kept;
  }

  still_free : (b c : List (ℕ × Option V)) (xs : List ℕ) → live nat_cmp c ≡ live nat_cmp b → ((other : ℕ) → HasRoom nat_cmp c other → HasRoom nat_cmp b other) → All (Free b) xs → All (Free c) xs
  still_free b c xs same fewer free = All-weaker (Free b) (Free c) (λ y is none room. is (ap (λ m. fin.get m y) (sym same) ∙ none) (fewer y room)) xs free

  -- some are released, and then others
  pub releases_both : (a b c : List (ℕ × Option V)) (xs ys : List ℕ) → live nat_cmp c ≡ live nat_cmp b → ReleasesEach a b xs → ReleasesEach b c ys → ReleasesEach a c (xs ++ ys)
  releases_both a b c xs ys same first second = record {
    none = All-append (Free c) xs ys (still_free b c xs same second.fewer first.none) second.none;
    fewer = λ other room. first.fewer other (second.fewer other room);
  }

  -- the last are released first
  pub releases_last : (a b c : List (ℕ × Option V)) (xs ys : List ℕ) → live nat_cmp c ≡ live nat_cmp b → ReleasesEach a b ys → ReleasesEach b c xs → ReleasesEach a c (xs ++ ys)
  releases_last a b c xs ys same first second = record {
    none = All-append (Free c) xs ys second.none (still_free b c ys same second.fewer first.none);
    fewer = λ other room. first.fewer other (second.fewer other room);
  }

  -- one chunk more
  pub releases_more : (a b c : List (ℕ × Option V)) (xs ys : List ℕ) (x : ℕ) → ys ≡ xs ++ x ∷ [] → live nat_cmp c ≡ live nat_cmp b → ReleasesEach a b xs →
      (fin.get (live nat_cmp b) x ≡ None → GivesUpRoom nat_cmp b c x) → OnSome (fin.get (live nat_cmp b) x) (c ≡ b) → ReleasesEach a c ys
  releases_more a b c xs ys x more same given empty kept = subst (ReleasesEach a c) (sym more) (releases_both a b c xs (x ∷ []) same given (releases_one b c x same empty kept))

  -- one record more
  pub released_with : (a b c : List (ℕ × Option V)) (rest all : List Undo) (undo : Undo) → all ≡ rest ++ undo ∷ [] → live nat_cmp c ≡ live nat_cmp b → ReleasesEach a b (chunks_in (forgotten_in undo)) → ReleasesEach b c (all_forgotten rest)
      → ReleasesEach a c (all_forgotten all)
  released_with a b c rest all undo is same last others =
      subst (λ xs. ReleasesEach a c (all_forgotten xs)) (sym is)
      (subst (ReleasesEach a c) (flat_map_more (λ (u : Undo). chunks_in (forgotten_in u)) [] rest undo) (releases_last a b c (all_forgotten rest) (chunks_in (forgotten_in undo)) same last others))
