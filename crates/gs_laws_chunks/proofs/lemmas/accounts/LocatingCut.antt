-- Where chunks are, as the replies tell it that stand where a turn of the master is cut at a disk that fails.
use Rattle.std.proofs.Common.{◌≡◌, ◌⊎◌, ◌∙◌, ◌+◌, ◌-◌, ◌<◌, ◌≤◌, ◌++◌, ◌&&◌, append_assoc, ℕ, zero, suc, Bool, true, false, List, [], ◌∷◌, length, map, Option, Some, None, Ok, refl, sym, ap, subst, inl, inr, arith}
use Rattle.std.specs.Prelude.{fold, if◌then◌else◌, is_some, nat_lt, option_and_then, take, Err, Result}
use Rattle.std.specs.List.{AllByRecursion}
use Rattle.std.proofs.Math.Seq.{take-append-add}
use Rattle.std.proofs.lemmas.Bool.{false≢true, true≢false}
use Rattle.std.proofs.lemmas.Bool.Decides.{nat_tests}
use Rattle.std.proofs.lemmas.List.{append_assoc, length-append, take-append-le, take_all}
use Rattle.gs_base.specs.declared.config.Config.{Config}
use Rattle.gs_base.specs.declared.numbers.ReqId.{ReqId}
use Rattle.gs_base.specs.declared.refusal.Refusal.{Refusal}
use Rattle.gs_edit.specs.View.{NamesView}
use Rattle.gs_lease.specs.declared.view.View.{View}
use Rattle.gs_path.specs.Path.{Path}
use Rattle.gs_base.specs.declared.epoch.EpochEnd.TheVariants as ends
use Rattle.gs_master_record.specs.Plain.{Edited, Forget, PlainEdit, PlainEntry, Remove, RollbackBegin}
use Rattle.gs_master_record.specs.declared.checkpoint.Phase.TheVariants.{Rolling}
use Rattle.gs_laws_master.proofs.lemmas.fitting.AcceptedForgets.{folded}
use Rattle.gs_master_spec.specs.Applied.{after_edit, applied, is_next_epoch, may_edit, replayed, view_in, with_edit, with_epoch}
use Rattle.gs_master_spec.specs.Durable.{Durable, is_rolling, is_upgrade}
use Rattle.gs_master_spec.specs.Outcomes.{cut}
use Rattle.gs_master_spec.specs.Settling.{own_request}
use Rattle.gs_master_spec.specs.State.{State, Turn, joined, with_record}
use Rattle.gs_master_spec.specs.Undoing.{edited_names}
use Rattle.gs_master_spec.specs.Volatile.{Volatile}
use Rattle.gs_master_spec.specs.Working.{scan_edits}
use Rattle.gs_laws_moves.proofs.lemmas.moves.Fitting.{chain_leaves, mapped, split}
use Rattle.gs_laws_moves.proofs.lemmas.moves.Locations.{chain_keeps, kept_were_located}
use Rattle.gs_laws_moves.specs.moves.Epochs.{ByItself, Closes, EndsOnce, Within, closes, is_alone, is_followed}
use Rattle.gs_laws_moves.specs.moves.Guards.{Heard, IsMade}
use Rattle.gs_laws_moves.specs.moves.Laws.{IsMadeWell}
use Rattle.gs_laws_moves.specs.moves.Locations.{IsLocatedWithin, IsToldIn, KeepsLocation, WasLocated}
use Rattle.gs_laws_moves.specs.moves.Moves.{BeginsRollback, Chain, Move, Moves, Rests, Scans, Settles, Then, move_turn}
use Rattle.gs_laws_parts.proofs.lemmas.master.Calm.{each_closing}
use Rattle.gs_laws_parts.proofs.lemmas.master.Families.{families_go, family_hears, family_marks, move_family}
use Rattle.gs_laws_parts.proofs.lemmas.master.Located.{kept_are_looked_up, moves_locate}
use Rattle.gs_laws_parts.specs.master.Families.{Family, FamilyGoes, HeardOf, MarksOf}
use Rattle.gs_laws_parts.specs.master.Locating.{IsLookedUpIn}
use Rattle.gs_laws_lift.proofs.lemmas.stores.CutRows.{IsLinked, is_scan, linked_still, part_links, short_part}

-- ---- a chain that is cut

-- Some moves were made, of the next one a part stands, and the others would have followed it.
pub record IsCutOff (config : Config) (Holds : State → Move → Type 0) (s : State) (t : Turn) (place : ℕ) : Type 0 where
  pub before : Turn
  pub chain : Chain config Holds s before
  pub move : Move
  pub holds : Holds before.after move
  pub many : ℕ
  pub within : many < length (move_turn config before.after move).records
  pub stand : take place t.records ≡ before.records ++ take many (move_turn config before.after move).records
  pub next : Turn
  pub rest : Chain config Holds (move_turn config before.after move).after next
  pub all : t.records ≡ before.records ++ ((move_turn config before.after move).records ++ next.records)
  pub last : t.after ≡ next.after

-- one part or the other
either_part : (n m : ℕ) → (n < m) ⊎ ((k : ℕ) × (n ≡ m + k))
either_part n m = by_test (nat_lt n m) refl
  where
    by_test : (b : Bool) → nat_lt n m ≡ b → (n < m) ⊎ ((k : ℕ) × (n ≡ m + k))
    by_test true is = inl (grind (arith, nat_tests))
    by_test false is = inr (n - m, (grind (arith, nat_tests)))

none_behind : (xs : List PlainEntry) → xs ++ [] ≡ xs
none_behind [] = refl
none_behind (x ∷ xs) = ap (λ (ys : List PlainEntry). x ∷ ys) (none_behind xs)

inner : (k m n all : ℕ) → n ≡ m + k → n < all → all ≡ m + (all - m) → k < all - m
inner k m n all same within long = omega arith

module _ (config : Config) (Holds : State → Move → Type 0) where
  pub cuts_off : (s : State) (t : Turn) (place : ℕ) → Chain config Holds s t → place < length t.records → IsCutOff config Holds s t place
  cuts_off s t place (Rests u said) within = absurd (omega arith)
  cuts_off s t place (Moves u move said held) within = record {
    before = record { after = s; records = []; sent = []; said = None };
    chain = Rests s None;
    move = move;
    holds = held;
    many = place;
    within = within;
    stand = refl;
    next = record { after = (move_turn config s move).after; records = []; sent = []; said = None };
    rest = Rests (move_turn config s move).after None;
    all = sym (none_behind (move_turn config s move).records);
    last = refl;
  }
  cuts_off s t place (Then u first next a b) within =
      by_part (either_part place (length first.records)) (λ lt. cuts_off s first place a lt) (λ k lt. cuts_off first.after next k b lt)
    where
      by_part : (place < length first.records) ⊎ ((k : ℕ) × (place ≡ length first.records + k)) → (place < length first.records → IsCutOff config Holds s first place) → ((k : ℕ) → k < length next.records → IsCutOff config Holds first.after next k)
          → IsCutOff config Holds s (joined first next) place
      by_part (inl lt) f g =
          let c = f lt in
          let one = (move_turn config c.before.after c.move).records in record {
            before = c.before;
            chain = c.chain;
            move = c.move;
            holds = c.holds;
            many = c.many;
            within = c.within;
            stand = take-append-le place first.records next.records (omega arith) ∙ c.stand;
            next = joined c.next next;
            rest = Then (move_turn config c.before.after c.move).after c.next next c.rest (subst (λ x. Chain config Holds x next) c.last b);
            all = ap (λ (xs : List PlainEntry). xs ++ next.records) c.all ∙ append_assoc c.before.records (one ++ c.next.records) next.records ∙ ap (λ (xs : List PlainEntry). c.before.records ++ xs) (append_assoc one c.next.records next.records);
            last = refl;
          }
      by_part (inr part) f g =
          let far = within in
          let k = part.0 in
          let same = part.1 in
          let long = length-append first.records next.records in
          let c = g k (omega arith) in
          let one = (move_turn config c.before.after c.move).records in record {
            before = joined first c.before;
            chain = Then s first c.before a c.chain;
            move = c.move;
            holds = c.holds;
            many = c.many;
            within = c.within;
            stand = ap (λ n. take n (first.records ++ next.records)) same ∙ take-append-add first.records next.records k ∙ ap (λ l. first.records ++ l) c.stand ∙ sym (append_assoc first.records c.before.records (take c.many one));
            next = c.next;
            rest = c.rest;
            all = ap (λ (xs : List PlainEntry). first.records ++ xs) c.all ∙ sym (append_assoc first.records c.before.records (one ++ c.next.records));
            last = c.last;
          }

-- so many, or all
enough : (many all : ℕ) → many ≤ all → (many < all) ⊎ (many ≡ all)
enough many all within = by_test (nat_lt many all) refl
  where
    by_test : (b : Bool) → nat_lt many all ≡ b → (many < all) ⊎ (many ≡ all)
    by_test true is = inl (grind (arith, nat_tests))
    by_test false is = inr (grind (arith, nat_tests))

taken_all : (many : ℕ) (xs : List PlainEntry) → many ≡ length xs → take many xs ≡ xs
taken_all many xs is = ap (λ n. take n xs) is ∙ take_all (length xs) xs (omega arith)

durable_is : {a b : Durable} → ◌≡◌ {A = Option Durable} (Some a) (Some b) → a ≡ b
durable_is k = cc

-- ---- edits of a scan answer nobody

abbrev answers_none : PlainEdit → Type 0
answers_none (Remove p) = Unit {0}
answers_none (Forget chunks) = Unit {0}
answers_none edit = ⊥

scan_none : (removed : List Path) (forgotten : List ℕ) → AllByRecursion answers_none (scan_edits removed forgotten)
scan_none [] [] = tt
scan_none [] (chunk ∷ chunks) = (tt, tt)
scan_none (path ∷ paths) forgotten = (tt, scan_none paths forgotten)

removed_replies : (p : Path) (d e : Durable) → applied d (Edited own_request (Remove p)) ≡ Some e → e.replies ≡ d.replies
unfolding applied
removed_replies p d e is = by_names (edited_names (Remove p) d.names) is
  where
    by_test : (b : Bool) (names : NamesView) → (if b then Some (with_edit d own_request (Remove p) names) else None) ≡ Some e → e.replies ≡ d.replies
    by_test true names is = ap (λ (x : Durable). x.replies) (sym (durable_is is))
    by_test false names is = absurd (false≢true (ap is_some is))

    by_names : (r : Result NamesView Refusal) → after_edit d own_request (Remove p) r ≡ Some e → e.replies ≡ d.replies
    by_names (Ok names) is = by_test (may_edit d (Remove p)) names is
    by_names (Err refusal) is = absurd (false≢true (ap is_some is))

forgot_replies : (chunks : List ℕ) (d e : Durable) → applied d (Edited own_request (Forget chunks)) ≡ Some e → e.replies ≡ d.replies
unfolding applied
forgot_replies chunks d e is = by_names (edited_names (Forget chunks) d.names) is
  where
    by_test : (b : Bool) (names : NamesView) → (if b then Some (with_edit d own_request (Forget chunks) names) else None) ≡ Some e → e.replies ≡ d.replies
    by_test true names is = ap (λ (x : Durable). x.replies) (sym (durable_is is))
    by_test false names is = absurd (false≢true (ap is_some is))

    by_names : (r : Result NamesView Refusal) → after_edit d own_request (Forget chunks) r ≡ Some e → e.replies ≡ d.replies
    by_names (Ok names) is = by_test (may_edit d (Forget chunks)) names is
    by_names (Err refusal) is = absurd (false≢true (ap is_some is))

one_silent : (edit : PlainEdit) (d e : Durable) → answers_none edit → applied d (Edited own_request edit) ≡ Some e → e.replies ≡ d.replies
one_silent (Remove p) d e none is = removed_replies p d e is
one_silent (Forget chunks) d e none is = forgot_replies chunks d e is
one_silent edit d e none is = absurd none

edits_silent : (edits : List PlainEdit) (many : ℕ) (d e : Durable) → AllByRecursion answers_none edits → replayed d (take many (map (Edited own_request) edits)) ≡ Some e → e.replies ≡ d.replies
edits_silent edits zero d e none is = ap (λ (x : Durable). x.replies) (sym (durable_is is))
edits_silent [] (suc many) d e none is = ap (λ (x : Durable). x.replies) (sym (durable_is is))
edits_silent (edit ∷ edits) (suc many) d e none is = by_first (applied d (Edited own_request edit)) refl is (λ n h. edits_silent edits many n e none.1 h)
  where
    by_first : (o : Option Durable) → applied d (Edited own_request edit) ≡ o → option_and_then (λ n. replayed n (take many (map (Edited own_request) edits))) o ≡ Some e
        → ((n : Durable) → replayed n (take many (map (Edited own_request) edits)) ≡ Some e → e.replies ≡ n.replies) → e.replies ≡ d.replies
    by_first None was h more = absurd (false≢true (ap is_some h))
    by_first (Some n) was h more = more n h ∙ one_silent edit d n none.0 was

begin_replies : (d e : Durable) (epoch : ℕ) → applied d (RollbackBegin epoch) ≡ Some e → e.replies ≡ d.replies
unfolding applied
begin_replies d e epoch fit = by_test (is_upgrade d.phase && is_next_epoch d.epoch epoch) fit
  where
    by_test : (b : Bool) → (if b then Some (with_epoch d ends.Rollback Rolling) else None) ≡ Some e → e.replies ≡ d.replies
    by_test true fit = ap (λ (x : Durable). x.replies) (sym (durable_is fit))
    by_test false fit = absurd (false≢true (ap is_some fit))

begun_replies : (config : Config) (s : State) (many : ℕ) (e : Durable) → replayed s.durable (take many (move_turn config s BeginsRollback).records) ≡ Some e → e.replies ≡ s.durable.replies
begun_replies config s zero e is = ap (λ (x : Durable). x.replies) (sym (durable_is is))
begun_replies config s (suc many) e is = whole many is
  where
    by_gives : (o : Option Durable) → applied s.durable (RollbackBegin (s.durable.epoch + 1)) ≡ o → option_and_then (λ n. replayed n []) o ≡ Some e → e.replies ≡ s.durable.replies
    by_gives None was h = absurd (false≢true (ap is_some h))
    by_gives (Some n) was h = begin_replies s.durable e (s.durable.epoch + 1) (was ∙ h)

    whole : (many : ℕ) → replayed s.durable (take (suc many) (RollbackBegin (s.durable.epoch + 1) ∷ [])) ≡ Some e → e.replies ≡ s.durable.replies
    whole zero fit = by_gives (applied s.durable (RollbackBegin (s.durable.epoch + 1))) refl fit
    whole (suc many) fit = by_gives (applied s.durable (RollbackBegin (s.durable.epoch + 1))) refl fit

-- a move behind which calls end answers nobody
followed_replies : (config : Config) (s : State) (move : Move) (many : ℕ) (e : Durable) → is_followed move ≡ true → replayed s.durable (take many (move_turn config s move).records) ≡ Some e → e.replies ≡ s.durable.replies
followed_replies config s (Scans removed forgotten) many e is fit = edits_silent (scan_edits removed forgotten) many s.durable e (scan_none removed forgotten) fit
followed_replies config s BeginsRollback many e is fit = begun_replies config s many e fit
followed_replies config s move many e is fit = absurd (false≢true is)

-- nor does a part of one that is alone
alone_replies : (config : Config) (heard : Heard) (s : State) (move : Move) (many : ℕ) (e : Durable) → is_alone move ≡ true → many < length (move_turn config s move).records → replayed s.durable (take many (move_turn config s move).records) ≡ Some e → e.replies ≡ s.durable.replies
alone_replies config heard s (Scans removed forgotten) many e is within fit = edits_silent (scan_edits removed forgotten) many s.durable e (scan_none removed forgotten) fit
alone_replies config heard s (Settles q asking carried view) many e is within fit = absurd (false≢true is)
alone_replies config heard s move many e is within fit = ap (λ (x : Durable). x.replies) (sym (short_part config heard s e many move refl (within, fit)))

-- ---- what is told behind a cut

-- It was kept before, or a move told so that was made, and it is looked up in what stands.
abbrev pub IsToldAtCut : Config → Heard → State → Durable → (caller : ReqId) (chunk : ℕ) → View → (epoch : ℕ) → Type 0
IsToldAtCut config heard s d caller chunk view epoch = KeepsLocation s caller chunk view epoch ⊎ ((v : Turn) × IsLocatedWithin config (IsMade config heard) s v caller chunk view epoch × IsLookedUpIn d chunk view epoch)

module _ (config : Config) (heard : Heard) where
  abbrev Calm : State → Move → Type 0
  Calm u move = IsMadeWell config heard u move × (is_alone move ≡ false)

  calm_made : (u : State) (move : Move) → Calm u move → IsMade config heard u move
  calm_made u move calm = calm.0.made

  scans_alone : (move : Move) → is_alone move ≡ false → is_scan move ≡ false
  scans_alone (Scans removed forgotten) beside = absurd (true≢false beside)
  scans_alone move beside = refl

  -- So far some moves lead, but for who took an image; and others would have followed.
  record IsOff (s : State) (t : Turn) (place : ℕ) (e : Durable) : Type 0 where
    before : Turn
    chain : Chain config Calm s before
    links : IsLinked before.after.durable e
    fits : replayed s.durable before.records ≡ Some before.after.durable
    below : length before.records ≤ place
    next : Turn
    rest : Chain config Calm before.after next
    all : t.records ≡ before.records ++ next.records

  off_at : (s : State) (t : Turn) (place : ℕ) (e : Durable) → Chain config Calm s t → place ≤ length t.records → replayed s.durable (take place t.records) ≡ Some e → IsOff s t place e
  off_at s t place e chain within fit = by_place (enough place (length t.records) within)
    where
      by_place : (place < length t.records) ⊎ (place ≡ length t.records) → IsOff s t place e
      by_place (inl less) =
          let c = cuts_off config Calm s t place chain less in
          let u = c.before.after in
          let one = move_turn config u c.move in
          let part = take c.many one.records in
          let parts = split c.before.records part s.durable e (ap (replayed s.durable) (sym c.stand) ∙ fit) in
          let left = chain_leaves config heard Calm (λ v move calm. calm.0.made.may) s c.before parts.mid c.chain parts.first in
          record {
            before = c.before;
            chain = c.chain;
            links = part_links config heard u e c.many c.move (scans_alone c.move c.holds.1) (c.within, subst (λ m. replayed m part ≡ Some e) (sym left) parts.then);
            fits = parts.first ∙ ap Some (sym left);
            below = reached (length c.before.records) place (length t.records) less (length (one.records ++ c.next.records)) (length part) (ap (λ (xs : List PlainEntry). length xs) c.stand ∙ length-append c.before.records part) (taken_length place t.records less);
            next = joined (record one { said = None }) c.next;
            rest = Then u (record one { said = None }) c.next (Moves u c.move None c.holds) c.rest;
            all = c.all;
          }
        where
          taken_length : (n : ℕ) (xs : List PlainEntry) → n < length xs → length (take n xs) ≡ n
          taken_length zero xs lt = refl
          taken_length (suc n) [] lt = absurd (omega arith)
          taken_length (suc n) (x ∷ xs) lt = (let rest = taken_length n xs (omega arith) in omega arith)

          reached : (first place all : ℕ) → place < all → (behind part : ℕ) → length (take place t.records) ≡ first + part → length (take place t.records) ≡ place → first ≤ place
          reached first place all less behind part taken is = omega arith
      by_place (inr there) =
          let whole = taken_all place t.records there in
          let left = chain_leaves config heard Calm (λ v move calm. calm.0.made.may) s t e chain (ap (replayed s.durable) (sym whole) ∙ fit) in
          record {
            before = t;
            chain = chain;
            links = linked_still t.after.durable e left;
            fits = ap (replayed s.durable) (sym whole) ∙ fit ∙ ap Some (sym left);
            below = omega arith;
            next = record { after = t.after; records = []; sent = []; said = None };
            rest = Rests t.after None;
            all = sym (none_behind t.records);
          }

  -- linked to where it is looked up
  looked_linked : (u d : Durable) (chunk : ℕ) (view : View) (epoch : ℕ) → IsLinked u d → IsLookedUpIn u chunk view epoch → IsLookedUpIn d chunk view epoch
  looked_linked u d chunk view epoch links looked = record {
    listed = links.listed chunk ∙ looked.listed;
    settled = ap view_in (links.rows chunk) ∙ looked.settled;
    now = links.epoch ∙ looked.now;
    calm = ap is_rolling links.phase ∙ looked.calm;
  }

  within_made : (s : State) (v : Turn) (caller : ReqId) (chunk : ℕ) (view : View) (epoch : ℕ) → IsLocatedWithin config Calm s v caller chunk view epoch → IsLocatedWithin config (IsMade config heard) s v caller chunk view epoch
  within_made s v caller chunk view epoch w = record {
    before = w.before;
    first = mapped config Calm (IsMade config heard) calm_made s w.before w.first;
    move = w.move;
    holds = w.holds.0.made;
    locates = w.locates;
    next = w.next;
    rest = mapped config Calm (IsMade config heard) calm_made (move_turn config w.before.after w.move).after w.next w.rest;
    last = w.last;
    records = w.records;
  }

  module _ (whole : ℕ → ℕ → Bool) where
    none : ℕ → Bool
    none other = false

    -- moves of which none is alone
    module _ (s : State) (family : Family s) (hears : (chunk : ℕ) → HeardOf chunk s heard (family chunk)) (marks : (chunk : ℕ) → MarksOf chunk s (whole chunk) (family chunk)) where
      calm_told : (t : Turn) → Chain config Calm s t → (place many : ℕ) → place ≤ many → many ≤ length t.records → (e d : Durable) → replayed s.durable (take place t.records) ≡ Some e → replayed s.durable (take many t.records) ≡ Some d
          → (caller : ReqId) (chunk : ℕ) (view : View) (epoch : ℕ) → IsToldIn e.replies caller chunk view epoch → IsToldAtCut config heard s d caller chunk view epoch
      calm_told t chain place many below within e d first stands caller chunk view epoch told = located (chain_keeps config heard Calm calm_made s a.before caller chunk view epoch a.chain (inl (subst (λ r. IsToldIn r caller chunk view epoch) a.links.replies told)))
        where
          a : IsOff s t place e
          a = off_at s t place e chain (omega arith) first

          u : State
          u = a.before.after

          more : ℕ
          more = many - length a.before.records

          sum : many ≡ length a.before.records + more
          sum = (let low = a.below in omega arith)

          long : length t.records ≡ length a.before.records + length a.next.records
          long = ap (λ (xs : List PlainEntry). length xs) a.all ∙ length-append a.before.records a.next.records

          part : take many t.records ≡ a.before.records ++ take more a.next.records
          part = ap (take many) a.all ∙ ap (λ n. take n (a.before.records ++ a.next.records)) sum ∙ take-append-add a.before.records a.next.records more

          onto : replayed u.durable (take more a.next.records) ≡ Some d
          onto =
              let parts = split a.before.records (take more a.next.records) s.durable d (ap (replayed s.durable) (sym part) ∙ stands) in
              subst (λ m. replayed m (take more a.next.records) ≡ Some d) (durable_is (sym parts.first ∙ a.fits)) parts.then

          b : IsOff u a.next more d
          b = off_at u a.next more d a.rest (let whole_long = long in let whole_sum = sum in omega arith) onto

          located : WasLocated config Calm s a.before caller chunk view epoch → IsToldAtCut config heard s d caller chunk view epoch
          located (inl k) = inl k
          located (inr w) =
              let v = w.before.after in
              let f = families_go none whole config heard s w.before family hears marks (mapped config Calm (IsMadeWell config heard) (λ x move calm. calm.0) s w.before w.first) in
              let behind = (move_turn config v w.move).after in
              let on : Chain config Calm behind (joined w.next b.before) = Then behind w.next b.before w.rest (subst (λ x. Chain config Calm x b.before) w.last b.chain) in
              let looked = moves_locate whole config heard v f.last (family_hears none whole s v w.before.sent family f heard hears) (family_marks none whole s v w.before.sent family f marks) w.move (joined w.next b.before) caller chunk view epoch w.holds.0 w.holds.1 w.locates on in
              inr (a.before, within_made s a.before caller chunk view epoch w, looked_linked b.before.after.durable d chunk view epoch b.links looked)

      -- one that is alone
      alone_told : (move : Move) (said : Option Refusal) → IsMadeWell config heard s move → is_alone move ≡ true → (place many : ℕ) → place ≤ many → many ≤ length (move_turn config s move).records → (e d : Durable) → replayed s.durable (take place (move_turn config s move).records) ≡ Some e
          → replayed s.durable (take many (move_turn config s move).records) ≡ Some d → (caller : ReqId) (chunk : ℕ) (view : View) (epoch : ℕ) → IsToldIn e.replies caller chunk view epoch → IsToldAtCut config heard s d caller chunk view epoch
      alone_told move said well is place many below within e d first stands caller chunk view epoch told = by_place (enough place (length one.records) (omega arith))
        where
          one : Turn
          one = move_turn config s move

          chain : Chain config (IsMadeWell config heard) s (record one { said = said })
          chain = Moves s move said well

          left_by : (x : Durable) (n : ℕ) → n ≡ length one.records → replayed s.durable (take n one.records) ≡ Some x → one.after.durable ≡ x
          left_by x n all fit = chain_leaves config heard (IsMadeWell config heard) (λ v m w. w.made.may) s (record one { said = said }) x chain (ap (replayed s.durable) (sym (taken_all n one.records all)) ∙ fit)

          both_at : (place many all : ℕ) → place ≡ all → place ≤ many → many ≤ all → many ≡ all
          both_at place many all same below within = omega arith

          by_place : (place < length one.records) ⊎ (place ≡ length one.records) → IsToldAtCut config heard s d caller chunk view epoch
          by_place (inl less) = inl (inl (subst (λ r. IsToldIn r caller chunk view epoch) (alone_replies config heard s move place e is less first) told))
          by_place (inr all) =
              let e_is = left_by e place all first in
              let d_is = left_by d many (both_at place many (length one.records) all below within) stands in
              let k : KeepsLocation one.after caller chunk view epoch = inl (subst (λ (x : Durable). IsToldIn x.replies caller chunk view epoch) (sym e_is) told) in
              let t = record one { said = said } in
              let once : EndsOnce config (IsMadeWell config heard) s t = ByItself s move said well is in
              joined_told d_is (kept_are_looked_up whole config heard s t family hears marks once caller chunk view epoch k)
              (kept_were_located config heard s t caller chunk view epoch (mapped config (IsMadeWell config heard) (IsMade config heard) (λ v m w. w.made) s t chain) k)
            where
              joined_told : one.after.durable ≡ d → KeepsLocation s caller chunk view epoch ⊎ IsLookedUpIn one.after.durable chunk view epoch → WasLocated config (IsMade config heard) s (record one { said = said }) caller chunk view epoch → IsToldAtCut config heard s d caller chunk view epoch
              joined_told d_is (inl k) w = inl k
              joined_told d_is (inr looked) (inl k) = inl k
              joined_told d_is (inr looked) (inr w) = inr (record one { said = said }, w, subst (λ (x : Durable). IsLookedUpIn x chunk view epoch) d_is looked)

    followed_alone : (move : Move) → is_followed move ≡ true → is_alone move ≡ true
    followed_alone (Scans removed forgotten) is = refl
    followed_alone BeginsRollback is = refl
    followed_alone move is = absurd (false≢true is)

    -- what is kept in memory stays behind such a move
    followed_keeps : (s : State) (move : Move) → is_followed move ≡ true → (move_turn config s move).after.volatile.replies ≡ s.volatile.replies
    followed_keeps s (Scans removed forgotten) is = refl
    followed_keeps s BeginsRollback is = refl
    followed_keeps s move is = absurd (false≢true is)

    -- a turn
    module _ (s : State) (family : Family s) (hears : (chunk : ℕ) → HeardOf chunk s heard (family chunk)) (marks : (chunk : ℕ) → MarksOf chunk s (whole chunk) (family chunk)) where
      -- calls end behind a move
      closed_told : (move : Move) (said : Option Refusal) (next : Turn) → IsMadeWell config heard s move → is_followed move ≡ true → Chain config (λ u m. IsMadeWell config heard u m × (closes m ≡ true)) (move_turn config s move).after next
          → (place many : ℕ) → place ≤ many → many ≤ length ((move_turn config s move).records ++ next.records) → (e d : Durable) → replayed s.durable (take place ((move_turn config s move).records ++ next.records)) ≡ Some e
          → replayed s.durable (take many ((move_turn config s move).records ++ next.records)) ≡ Some d → (caller : ReqId) (chunk : ℕ) (view : View) (epoch : ℕ) → IsToldIn e.replies caller chunk view epoch → IsToldAtCut config heard s d caller chunk view epoch
      closed_told move said next well is closing place many below within e d first stands caller chunk view epoch told = by_part (either_part place (length one.records))
        where
          one : Turn
          one = move_turn config s move

          behind : State
          behind = one.after

          goes : FamilyGoes none whole s behind one.sent family
          goes = (move_family none whole config heard s family hears marks move well).goes

          calm : Chain config Calm behind next
          calm = each_closing config heard behind next closing

          long : length (one.records ++ next.records) ≡ length one.records + length next.records
          long = length-append one.records next.records

          -- so many of those behind it
          rest_of : (n k : ℕ) (x : Durable) → n ≡ length one.records + k → replayed s.durable (take n (one.records ++ next.records)) ≡ Some x → replayed behind.durable (take k next.records) ≡ Some x
          rest_of n k x same fit =
              let parts = split one.records (take k next.records) s.durable x (ap (replayed s.durable) (sym (ap (λ m. take m (one.records ++ next.records)) same ∙ take-append-add one.records next.records k)) ∙ fit) in
              let left = chain_leaves config heard (IsMadeWell config heard) (λ v m w. w.made.may) s (record one { said = said }) parts.mid (Moves s move said well) parts.first in
              subst (λ m. replayed m (take k next.records) ≡ Some x) (sym left) parts.then

          -- and all of it stand
          fits_one : (n k : ℕ) (x : Durable) → n ≡ length one.records + k → replayed s.durable (take n (one.records ++ next.records)) ≡ Some x → behind.durable.replies ≡ s.durable.replies
          fits_one n k x same fit =
              let parts = split one.records (take k next.records) s.durable x (ap (replayed s.durable) (sym (ap (λ m. take m (one.records ++ next.records)) same ∙ take-append-add one.records next.records k)) ∙ fit) in
              let left = chain_leaves config heard (IsMadeWell config heard) (λ v m w. w.made.may) s (record one { said = said }) parts.mid (Moves s move said well) parts.first in
              ap (λ (y : Durable). y.replies) left ∙ followed_replies config s move (length one.records) parts.mid is (ap (replayed s.durable) (taken_all (length one.records) one.records refl) ∙ parts.first)

          kept_before : behind.durable.replies ≡ s.durable.replies → KeepsLocation behind caller chunk view epoch → KeepsLocation s caller chunk view epoch
          kept_before same (inl k) = inl (subst (λ r. IsToldIn r caller chunk view epoch) same k)
          kept_before same (inr k) = inr (subst (λ r. IsToldIn r caller chunk view epoch) (followed_keeps s move is) k)

          made : Chain config (IsMade config heard) s (record one { said = said })
          made = Moves s move said well.made

          from_there : behind.durable.replies ≡ s.durable.replies → IsToldAtCut config heard behind d caller chunk view epoch → IsToldAtCut config heard s d caller chunk view epoch
          from_there same (inl k) = inl (kept_before same k)
          from_there same (inr (v, w, looked)) =
              inr (joined (record one { said = said }) v, record { before = joined (record one { said = said }) w.before; first = Then s (record one { said = said }) w.before made w.first; move = w.move; holds = w.holds; locates = w.locates; next = w.next; rest = w.rest; last = w.last; records = ap (λ rs. one.records ++ rs) w.records ∙ sym (append_assoc one.records w.before.records ((move_turn config w.before.after w.move).records ++ w.next.records)) }, looked)

          by_part : (place < length one.records) ⊎ ((k : ℕ) × (place ≡ length one.records + k)) → IsToldAtCut config heard s d caller chunk view epoch
          by_part (inl less) =
              inl (inl (subst (λ r. IsToldIn r caller chunk view epoch) (followed_replies config s move place e is (ap (replayed s.durable) (sym (take-append-le place one.records next.records (omega arith))) ∙ first)) told))
          by_part (inr (k, same)) =
              let more = many - length one.records in
              let sum : many ≡ length one.records + more = omega arith in
              let whole_long = long in
              from_there (fits_one place k e same first)
              (calm_told behind goes.last (family_hears none whole s behind one.sent family goes heard hears) (family_marks none whole s behind one.sent family goes marks) next calm k more (omega arith) (omega arith) e d (rest_of place k e same first) (rest_of many more d sum stands) caller chunk view
              epoch told)

      -- So many records stand in memory, and so many of those and more as the disks tell.
      pub cut_told : (t : Turn) → EndsOnce config (IsMadeWell config heard) s t → (place many : ℕ) → place ≤ many → many ≤ length t.records → (e d : Durable) → replayed s.durable (take place t.records) ≡ Some e → replayed s.durable (take many t.records) ≡ Some d
          → (caller : ReqId) (chunk : ℕ) (view : View) (epoch : ℕ) → IsToldIn e.replies caller chunk view epoch → IsToldAtCut config heard s d caller chunk view epoch
      cut_told t (Within u v chain) place many below within e d first stands caller chunk view epoch told = calm_told s family hears marks t chain place many below within e d first stands caller chunk view epoch told
      cut_told t (ByItself u move said well is) place many below within e d first stands caller chunk view epoch told = alone_told s family hears marks move said well is place many below within e d first stands caller chunk view epoch told
      cut_told t (Closes u move said next well is closing) place many below within e d first stands caller chunk view epoch told = closed_told move said next well is closing place many below within e d first stands caller chunk view epoch told

-- ---- in memory

volatile_still : (xs : List PlainEntry) (s : State) → (fold with_record s xs).volatile ≡ s.volatile
volatile_still [] s = refl
volatile_still (x ∷ xs) s = volatile_still xs (with_record s x)

-- what is kept in memory behind a cut is told by what the records before it lead to, or was kept in memory before
pub cut_keeps : (s : State) (records : List PlainEntry) (place : ℕ) (e : Durable) → replayed s.durable (take place records) ≡ Some e → (caller : ReqId) (chunk : ℕ) (view : View) (epoch : ℕ) → KeepsLocation (cut s records place) caller chunk view epoch → IsToldIn e.replies caller chunk view epoch ⊎ KeepsLocation s caller chunk view epoch
cut_keeps s records place e fit caller chunk view epoch (inl k) = inl (subst (λ (x : Durable). IsToldIn x.replies caller chunk view epoch) (folded (take place records) s e fit) k)
cut_keeps s records place e fit caller chunk view epoch (inr k) = inr (inr (subst (λ (v : Volatile). IsToldIn v.replies caller chunk view epoch) (volatile_still (take place records) s) k))
