-- The edits of all places, one after the other.
use Rattle.std.proofs.Common.{◌≡◌, ◌≢◌, ◌∙◌, ◌++◌, ◌||◌, ◌+◌, ℕ, Bool, true, false, List, [], ◌∷◌, append-nil, map, refl, sym, ap, subst, arith}
use Rattle.std.specs.Prelude.{Option, Some, None, Ok, ◌==◌, filter_map, if◌then◌else◌, slice_get}
use Rattle.std.specs.FinMap as fin
use Rattle.std.specs.List.{AllByRecursion, cons_option, list_any}
use Rattle.std.proofs.lemmas.Bool.{and_parts}
use Rattle.std.proofs.lemmas.Bool.Decides.{nat_tests}
use Rattle.std.proofs.lemmas.List.Elements.{filter_map-append}
use Rattle.gs_edit.proofs.Tables.{same_path-is, seen}
use Rattle.gs_edit.specs.Mapped.{mapped_rows}
use Rattle.gs_tree.specs.Mapped.{mapped_entry}
use Rattle.gs_edit.specs.View.{NamesView}
use Rattle.gs_path.specs.Path.{Path}
use Rattle.gs_laws_plain.specs.commands.Commands.{Texts, all_commanded, but_edit, edit_at}
use Rattle.gs_laws_plain.proofs.lemmas.commands.Leading.{then_many}
use Rattle.gs_laws_plain.proofs.lemmas.commands.Places.{AreApart, Differ, HasIn, all_weaker, apart_in, found_in, has_in, is_at}
use Rattle.gs_laws_plain.proofs.lemmas.commands.OnePlace.{many_edits}
use Rattle.gs_laws_plain.specs.commands.Edits.{shown}
use Rattle.gs_laws_plain.specs.commands.Places.{AreAlone, EachPlaceHasItsEdits, EditsOfPlacesAreCommands, NothingElse, Place, bytes_of, edits_of, op_of, places_from, places_in, settling}
use Rattle.gs_laws_plain.specs.commands.OnePlace.{KeepOthers, edits_of_place, standing_at}
use Rattle.gs_replica.specs.Stands.{Edit}
use Rattle.gs_replica.specs.declared.op.Op.{Op}
use Rattle.gs_tree.specs.Edits.{chunks_in, same_path}
use Rattle.gs_tree.specs.Entry.{Dir, Entry, File}
use Rattle.gs_tree.specs.Find.{Rows, at}

-- a chunk stands at one of these places
abbrev among : ℕ → List Place → Bool
among chunk places = list_any (λ (place : Place). place.chunk == chunk) places

-- what comes to a chunk that has no place left among these
abbrev come : (ℕ → List Edit) → List Place → ℕ → List Edit
come more places chunk = if among chunk places then [] else more chunk

-- a chunk to which something comes has no later place
abbrev AreSingle : NamesView → (ℕ → List Edit) → List Place → Type 0
AreSingle names more [] = Unit {0}
AreSingle names more (place ∷ places) = (standing_at names place.path place.index ≡ Some place.chunk) × (more place.chunk ≢ [] → among place.chunk places ≡ false) × AreSingle names more places

same_number : (a b : ℕ) → (a == b) ≡ true → a ≡ b
same_number a b h = grind (arith, nat_tests)

no_other : (names : NamesView) (more : ℕ → List Edit) (place : Place) (others : List Place) → AreAlone names more → more place.chunk ≢ [] → standing_at names place.path place.index ≡ Some place.chunk → AllByRecursion (Differ place) others
    → AllByRecursion (λ (other : Place). standing_at names other.path other.index ≡ Some other.chunk) others → among place.chunk others ≡ false
no_other names more place [] alone some stand differ there = refl
no_other names more place (other ∷ others) alone some stand differ there = each (no_other names more place others alone some stand differ.1 there.1) (other.chunk == place.chunk) refl
  where
    each : among place.chunk others ≡ false → (b : Bool) → (other.chunk == place.chunk) ≡ b → (b || among place.chunk others) ≡ false
    each rest true h =
        let one = alone place.chunk place.path other.path place.index other.index some stand (there.0 ∙ ap Some (same_number other.chunk place.chunk h)) in
        absurd (differ.0 (sym one.0) (sym one.1))
    each rest false h = rest

single : (names : NamesView) (more : ℕ → List Edit) (places : List Place) → AreAlone names more → AreApart places → AllByRecursion (λ (place : Place). standing_at names place.path place.index ≡ Some place.chunk) places → AreSingle names more places
single names more [] alone apart stand = tt
single names more (place ∷ places) alone apart stand = (stand.0, (λ some. no_other names more place places alone some stand.0 apart.0 stand.1), single names more places alone apart.1 stand.1)

module _ (size : ℕ) (settled more : ℕ → List Edit) (names : NamesView) (kept : Option Texts) (alone : AreAlone names more) where
  -- the texts where these places are left
  abbrev text : List Place → ℕ → List ℕ
  text places chunk = bytes_of size (settled chunk ++ come more places chunk)

  among_first : (place : Place) (places : List Place) → among place.chunk (place ∷ places) ≡ true
  among_first place places = ap (λ b. b || among place.chunk places) (itself place.chunk)
    where
      itself : (n : ℕ) → (n == n) ≡ true
      itself n = grind (arith, nat_tests)

  others_alike : (place : Place) (places : List Place) → KeepOthers (text (place ∷ places)) (text places) place.chunk
  others_alike place places other apart = ap (λ b. bytes_of size (settled other ++ (if b || among other places then [] else more other))) (sym (apart_test (place.chunk == other) refl))
    where
      same_chunk : (a b : ℕ) → (a == b) ≡ true → b ≡ a
      same_chunk a b h = grind (arith, nat_tests)

      apart_test : (b : Bool) → (place.chunk == other) ≡ b → (place.chunk == other) ≡ false
      apart_test true h = absurd (apart (same_chunk place.chunk other h))
      apart_test false h = h

  had : (place : Place) (places : List Place) → text (place ∷ places) place.chunk ≡ bytes_of size (settled place.chunk)
  had place places = ap (λ b. bytes_of size (settled place.chunk ++ (if b then [] else more place.chunk))) (among_first place places) ∙ ap (λ (es : List Edit). bytes_of size es) (append-nil (settled place.chunk))

  -- nothing comes to the chunk of a place
  nothing_comes : (place : Place) (places : List Place) → more place.chunk ≡ [] → text (place ∷ places) ≡ text places
  nothing_comes place places none = λ i chunk. each chunk (place.chunk == chunk) refl i
    where
      same_chunk : (a b : ℕ) → (a == b) ≡ true → a ≡ b
      same_chunk a b h = grind (arith, nat_tests)

      empty : (b : Bool) (chunk : ℕ) → more chunk ≡ [] → [] ≡ (if b then [] else more chunk)
      empty true chunk is = refl
      empty false chunk is = sym is

      each : (chunk : ℕ) (b : Bool) → (place.chunk == chunk) ≡ b → bytes_of size (settled chunk ++ (if place.chunk == chunk || among chunk places then [] else more chunk)) ≡ text places chunk
      each chunk true h =
          ap (λ b. bytes_of size (settled chunk ++ (if b || among chunk places then [] else more chunk))) h
          ∙ ap (λ es. bytes_of size (settled chunk ++ es)) (empty (among chunk places) chunk (ap more (sym (same_chunk place.chunk chunk h)) ∙ none))
      each chunk false h = ap (λ b. bytes_of size (settled chunk ++ (if b || among chunk places then [] else more chunk))) h

  one_place : (place : Place) (places : List Place) → standing_at names place.path place.index ≡ Some place.chunk → (more place.chunk ≢ [] → among place.chunk places ≡ false) →
      all_commanded size (edits_of_place place.path place.index (more place.chunk)) (shown (text (place ∷ places)) kept names) ≡ Ok (shown (text places) kept names)
  one_place place places stand none_left = each (more place.chunk) refl
    where
      each : (edits : List Edit) → more place.chunk ≡ edits → all_commanded size (edits_of_place place.path place.index edits) (shown (text (place ∷ places)) kept names) ≡ Ok (shown (text places) kept names)
      each [] is = ap (λ (t : ℕ → List ℕ). Ok (shown t kept names)) (nothing_comes place places is)
      each (edit ∷ edits) is =
          let some : more place.chunk ≢ [] = (λ none. absurd (let h = sym is ∙ none in cc)) in
          many_edits size (text (place ∷ places)) (text places) names kept place.chunk place.path place.index (settled place.chunk) (edit ∷ edits)
          (record { here = stand; alone = λ q other there. alone place.chunk place.path q place.index other some stand there })
          (had place places)
          (ap (λ b. bytes_of size (settled place.chunk ++ (if b then [] else more place.chunk))) (none_left some) ∙ ap (λ es. bytes_of size (settled place.chunk ++ es)) is)
          (others_alike place places)

  pub all_places : (places : List Place) → AreSingle names more places → all_commanded size (settling more places) (shown (text places) kept names) ≡ Ok (shown (text []) kept names)
  all_places [] s = refl
  all_places (place ∷ places) s =
      then_many size (edits_of_place place.path place.index (more place.chunk)) (settling more places) (shown (text (place ∷ places)) kept names) (shown (text places) kept names) (one_place place places s.0 s.1)
      ∙ all_places places s.2

-- in names the places are those of rows that rise
pub stand_in : (names : NamesView) → AllByRecursion (λ (place : Place). standing_at names place.path place.index ≡ Some place.chunk) (places_in (fin.entries names.tree))
stand_in names = subst (λ (m : Path → Option (Entry ℕ)). AllByRecursion (λ (place : Place). slice_get (chunks_in (m place.path)) place.index ≡ Some place.chunk) (places_in (fin.entries names.tree))) (sym (seen names.tree)) (has_in (fin.entries names.tree) (fin.entries_sorted names.tree))

-- rows of whose chunks each has the same text
split : (P : Place → Type 0) (xs ys : List Place) → AllByRecursion P (xs ++ ys) → AllByRecursion P xs × AllByRecursion P ys
split P [] ys a = (tt, a)
split P (x ∷ xs) ys a = (let rest = split P xs ys a.1 in ((a.0, rest.0), rest.1))

same_map : (f g : ℕ → List ℕ) (p : Path) (from : ℕ) (chunks : List ℕ) → AllByRecursion (λ (place : Place). f place.chunk ≡ g place.chunk) (places_from p from chunks) → map f chunks ≡ map g chunks
same_map f g p from [] a = refl
same_map f g p from (chunk ∷ chunks) a = ap (λ t. t ∷ map f chunks) a.0 ∙ ap (λ ts. g chunk ∷ ts) (same_map f g p (from + 1) chunks a.1)

same_entry : (f g : ℕ → List ℕ) (p : Path) (e : Entry ℕ) → AllByRecursion (λ (place : Place). f place.chunk ≡ g place.chunk) (places_from p 0 (chunks_in (Some e))) → mapped_entry f e ≡ mapped_entry g e
same_entry f g p Dir a = refl
same_entry f g p (File chunks) a = ap (λ ts. File ts) (same_map f g p 0 chunks a)

pub same_rows : (f g : ℕ → List ℕ) (rows : Rows ℕ) → AllByRecursion (λ (place : Place). f place.chunk ≡ g place.chunk) (places_in rows) → mapped_rows f rows ≡ mapped_rows g rows
same_rows f g [] a = refl
same_rows f g (row ∷ rows) a =
    let both = split (λ (place : Place). f place.chunk ≡ g place.chunk) (places_from row.0 0 (chunks_in (Some row.1))) (places_in rows) a in
    ap (λ e. (row.0, e) ∷ mapped_rows f rows) (same_entry f g row.0 row.1 both.0) ∙ ap (λ rs. (row.0, mapped_entry g row.1) ∷ rs) (same_rows f g rows both.1)

or_later : (b : Bool) {c : Bool} → c ≡ true → (b || c) ≡ true
or_later true h = refl
or_later false h = h

all_among : (all places : List Place) → ((chunk : ℕ) → among chunk places ≡ true → among chunk all ≡ true) → AllByRecursion (λ (place : Place). among place.chunk all ≡ true) places
all_among all [] within = tt
all_among all (place ∷ places) within =
    (within place.chunk (ap (λ b. b || among place.chunk places) (itself place.chunk)), all_among all places (λ chunk is. within chunk (or_later (place.chunk == chunk) is)))
  where
    itself : (n : ℕ) → (n == n) ≡ true
    itself n = grind (arith, nat_tests)

pub places_lead : EditsOfPlacesAreCommands
places_lead size settled more names kept alone =
    let places = places_in (fin.entries names.tree) in
    let texts = all_weaker (λ (place : Place). among place.chunk places ≡ true) (λ (place : Place). bytes_of size (settled place.chunk) ≡ text size settled more names kept alone places place.chunk) places
    (λ place is. sym (ap (λ b. bytes_of size (settled place.chunk ++ (if b then [] else more place.chunk))) is ∙ ap (λ (es : List Edit). bytes_of size es) (append-nil (settled place.chunk)))) (all_among places places (λ chunk is. is)) in
    ap (λ (rs : Rows (List ℕ)). all_commanded size (settling more places) (record { tree = rs; kept = kept })) (same_rows (λ chunk. bytes_of size (settled chunk)) (text size settled more names kept alone places) (fin.entries names.tree) texts)
    ∙ all_places size settled more names kept alone places (single names more places alone (apart_in (fin.entries names.tree) (fin.entries_sorted names.tree)) (stand_in names))

-- ---- what they are

edits_only : (p : Path) (index : ℕ) (edits : List Edit) → filter_map but_edit (edits_of_place p index edits) ≡ []
edits_only p index [] = refl
edits_only p index (edit ∷ edits) = edits_only p index edits

settling_only : (more : ℕ → List Edit) (places : List Place) → filter_map but_edit (settling more places) ≡ []
settling_only more [] = refl
settling_only more (place ∷ places) =
    filter_map-append but_edit (edits_of_place place.path place.index (more place.chunk)) (settling more places)
    ∙ ap (λ cs. cs ++ filter_map but_edit (settling more places)) (edits_only place.path place.index (more place.chunk)) ∙ settling_only more places

pub nothing_else : NothingElse
nothing_else more names = settling_only more (places_in (fin.entries names.tree))

-- of the edits of a place those at another
of_place : (p : Path) (index : ℕ) (place : Place) (edits : List Edit) (b : Bool) → is_at p index place ≡ b → filter_map (edit_at p index) (edits_of_place place.path place.index edits) ≡ (if b then map op_of edits else [])
of_place p index place [] true is = refl
of_place p index place [] false is = refl
of_place p index place (edit ∷ edits) true is =
    ap (λ b. cons_option (if b then Some (edit.op, edit.bytes) else None) (filter_map (edit_at p index) (edits_of_place place.path place.index edits))) is
    ∙ ap (λ es. (edit.op, edit.bytes) ∷ es) (of_place p index place edits true is)
of_place p index place (edit ∷ edits) false is =
    ap (λ b. cons_option (if b then Some (edit.op, edit.bytes) else None) (filter_map (edit_at p index) (edits_of_place place.path place.index edits))) is
    ∙ of_place p index place edits false is

module _ (more : ℕ → List Edit) (rows : Rows ℕ) (p : Path) (index : ℕ) where
  abbrev there : List (Op × List ℕ)
  there = map op_of (edits_of more (slice_get (chunks_in (at rows p)) index))

  -- no other place is this one
  none_more : (place : Place) (places : List Place) → p ≡ place.path → index ≡ place.index → AllByRecursion (Differ place) places → list_any (is_at p index) places ≡ false
  none_more place [] q i differ = refl
  none_more place (other ∷ places) q i differ = each (none_more place places q i differ.1) (is_at p index other) refl
    where
      each : list_any (is_at p index) places ≡ false → (b : Bool) → is_at p index other ≡ b → (b || list_any (is_at p index) places) ≡ false
      each rest true h =
          let both = and_parts (same_path p other.path) (index == other.index) h in
          absurd (differ.0 (sym q ∙ same_path-is p other.path both.0) (sym i ∙ same_number index other.index both.1))
      each rest false h = rest

  at_places : (places : List Place) → AreApart places → AllByRecursion (HasIn rows) places → filter_map (edit_at p index) (settling more places) ≡ (if list_any (is_at p index) places then there else [])
  at_places [] apart has = refl
  at_places (place ∷ places) apart has =
      filter_map-append (edit_at p index) (edits_of_place place.path place.index (more place.chunk)) (settling more places)
      ∙ each (at_places places apart.1 has.1) (is_at p index place) refl
    where
      each : filter_map (edit_at p index) (settling more places) ≡ (if list_any (is_at p index) places then there else []) → (b : Bool) → is_at p index place ≡ b → (filter_map (edit_at p index) (edits_of_place place.path place.index (more place.chunk)) ++ filter_map (edit_at p index) (settling more places)) ≡ (if b || list_any (is_at p index) places then there else [])
      each rest true h =
          let both = and_parts (same_path p place.path) (index == place.index) h in
          let path = same_path-is p place.path both.0 in
          let number = same_number index place.index both.1 in
          ap (λ es. es ++ filter_map (edit_at p index) (settling more places)) (of_place p index place (more place.chunk) true h)
          ∙ ap (λ es. map op_of (more place.chunk) ++ es) (rest ∙ ap (λ b. if b then there else []) (none_more place places path number apart.0))
          ∙ append-nil (map op_of (more place.chunk))
          ∙ ap (λ o. map op_of (edits_of more o)) (sym (ap (λ q. slice_get (chunks_in (at rows q)) index) path ∙ ap (slice_get (chunks_in (at rows place.path))) number ∙ has.0))
      each rest false h =
          ap (λ es. es ++ filter_map (edit_at p index) (settling more places)) (of_place p index place (more place.chunk) false h) ∙ rest

  none_there : (o : Option ℕ) → slice_get (chunks_in (at rows p)) index ≡ o → (if list_any (is_at p index) (places_in rows) then there else []) ≡ there
  none_there None is = each (list_any (is_at p index) (places_in rows))
    where
      empty : [] ≡ there
      empty = ap (λ o. map op_of (edits_of more o)) (sym is)

      each : (b : Bool) → (if b then there else []) ≡ there
      each true = refl
      each false = empty
  none_there (Some chunk) is = ap (λ b. if b then there else []) (found_in rows p index chunk is)

pub each_place : EachPlaceHasItsEdits
each_place more names p index =
    let rows = fin.entries names.tree in
    at_places more rows p index (places_in rows) (apart_in rows (fin.entries_sorted names.tree)) (has_in rows (fin.entries_sorted names.tree))
    ∙ none_there more rows p index (slice_get (chunks_in (at rows p)) index) refl
    ∙ ap (λ m. map op_of (edits_of more (slice_get (chunks_in (m p)) index))) (sym (seen names.tree))
