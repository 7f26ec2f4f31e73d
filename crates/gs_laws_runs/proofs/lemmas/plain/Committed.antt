-- Where a rollback is committed what is settled is what was prepared.
use Rattle.std.proofs.Common.{◌≡◌, ◌∙◌, ◌≤◌, ℕ, true, List, [], length, refl, sym, ap, arith}
use Rattle.std.specs.Prelude.{is_some, Option, Some, None}
use Rattle.std.proofs.lemmas.Bool.{false≢true}
use Rattle.std.specs.FinMap as fin
use Rattle.gs_lease.specs.declared.view.View.{View}
use Rattle.gs_laws_master.specs.Promises.{IsKept}
use Rattle.gs_laws_moves.specs.moves.Epochs.{rolls_back}
use Rattle.gs_laws_plain.specs.commands.Places.{AreAlone}
use Rattle.gs_master_spec.specs.Applied.{view_in}
use Rattle.gs_master_spec.specs.Durable.{Settled, is_listed}
use Rattle.gs_replica.specs.Stands.{Edit}
use Rattle.gs_world.proofs.Reaching.{HaveSizes}
use Rattle.gs_world.specs.Histories.{History}
use Rattle.gs_world.specs.Runs.{Step}
use Rattle.gs_laws_chunks.proofs.lemmas.accounts.Edits.{AreNumbered}
use Rattle.gs_laws_chunks.proofs.lemmas.accounts.Holding.{seen_since, sees_there}
use Rattle.gs_laws_chunks.proofs.lemmas.accounts.Surviving.{still, text_then, was_then}
use Rattle.gs_laws_chunks.specs.accounts.Accounts.{Account, settled_edits, settled_in, view_at}
use Rattle.gs_laws_chunks.specs.accounts.Back.{EachIsOfAPrepare, GivesNoOtherBack, GivesSettledBack, HasRolledBack}
use Rattle.gs_laws_chunks.specs.accounts.Joined.{SeenSince}
use Rattle.gs_laws_lift.specs.stores.Left.{left_in}
use Rattle.gs_laws_chunks.specs.accounts.Running.{IsReached, Moves, Setup}
use Rattle.gs_laws_chunks.specs.accounts.Upgrading.{IsUpgrading}
use Rattle.gs_laws_parts.specs.server.Requests.{bytes_in}
use Rattle.gs_base.specs.declared.numbers.ReqId.{ReqId}
use Rattle.gs_laws_runs.proofs.lemmas.plain.Onward.{drop_short, kept_before, kept_behind}
use Rattle.gs_laws_runs.proofs.lemmas.plain.Shared.{alone_where_shared_stay}
use Rattle.gs_laws_runs.proofs.lemmas.plain.Undone.{no_less_settled}
use Rattle.gs_laws_runs.specs.plain.Settling.{newly_settled}

pub view_of : (o : Option Settled) → is_some o ≡ true → (view : View) × (view_in o ≡ Some view)
view_of None some = absurd (false≢true some)
view_of (Some y) some = (y.view, refl)

row_of : (o : Option Settled) (view : View) → view_in o ≡ Some view → is_some o ≡ true
row_of None view is = absurd (cc)
row_of (Some y) view is = refl

module _ (sizes : HaveSizes) (law : AreNumbered) {D : Type 0} (x : Setup D) where
  -- ---- since a prepare

  module _ (prepared now : History D) (before after : Account) (up : IsUpgrading x prepared before now after) (chunk : ℕ) (listed : is_listed before.durable chunk ≡ true) (kept : IsKept before.durable) where
    abbrev bytes : ReqId → List ℕ
    bytes = bytes_in (sees_there sizes law x prepared now before after up).asked

    since : SeenSince x bytes chunk (left_in prepared) before (left_in now) after
    since = seen_since sizes law x prepared now before after up chunk listed

    view : (view : View) × (view_at before chunk ≡ Some view)
    view = view_of (fin.get before.durable.chunks chunk) (kept.settled chunk listed)

    -- What the account has of the prepare is what was settled right behind it.
    pub before_is_settled : after.before chunk ≡ settled_edits before chunk
    before_is_settled =
        since.last.agrees.before before.durable.epoch (still x bytes chunk (left_in prepared) before (left_in now) after since) (was_then x bytes chunk (left_in prepared) before (left_in now) after since listed)
        ∙ sym (text_then x bytes chunk (left_in prepared) before (left_in now) after since listed view.0 view.1)

    pub none_lost : (later : View) → is_listed after.durable chunk ≡ true → view_at after chunk ≡ Some later → length (settled_edits before chunk) ≤ length (settled_edits after chunk)
    none_lost later listed_now told = no_less_settled x bytes chunk (left_in prepared) (left_in now) before after since listed listed_now view.0 later view.1 told

  -- ---- where its rollback is committed

  module _ (of_prepare : EachIsOfAPrepare x) (settled_back : GivesSettledBack x) (no_other : GivesNoOtherBack x) (step : Step) (old new : History D) (a b : Account) (r : IsReached x old a) (moves : Moves x step old a new b) (committed : rolls_back a.durable b.durable ≡ true) where
    rolled : (prepared : History D) × (before : Account) × HasRolledBack x prepared before old a new b
    rolled = of_prepare old new a b step r moves committed

    abbrev prepared : History D
    prepared = rolled.0

    abbrev before : Account
    before = rolled.1

    back : HasRolledBack x prepared before old a new b
    back = rolled.2

    kept_then : IsKept before.durable
    kept_then = kept_behind sizes law x (back.upgrade).step (back.upgrade).old prepared (back.upgrade).first before (back.upgrade).reached (back.upgrade).moves

    had : (chunk : ℕ) → is_some (fin.get b.durable.chunks chunk) ≡ true → is_listed before.durable chunk ≡ true
    had chunk row = no_other prepared old new before a b chunk back row

    pub settled_is_before : (chunk : ℕ) → is_listed b.durable chunk ≡ true → a.before chunk ≡ settled_edits b chunk
    settled_is_before chunk listed =
        let was = had chunk ((kept_behind sizes law x step old new a b r moves).settled chunk listed) in
        before_is_settled prepared old before a back.upgrade chunk was kept_then ∙ sym (settled_back prepared old new before a b chunk back was).1

    -- of no chunk that a file has more is settled
    none_new_there : (chunk : ℕ) → is_listed a.durable chunk ≡ true → newly_settled a b chunk ≡ []
    none_new_there chunk listed = by_view (view_at b chunk) refl
      where
        here : (view : View) × (view_at a chunk ≡ Some view)
        here = view_of (fin.get a.durable.chunks chunk) ((kept_before sizes law x step old new a b r moves).settled chunk listed)

        by_view : (o : Option View) → view_at b chunk ≡ o → newly_settled a b chunk ≡ []
        by_view None told = drop_short (length (settled_edits a chunk)) (settled_edits b chunk) (let n = ap (λ (es : List Edit). length es) (ap (settled_in b chunk) told) in omega arith)
        by_view (Some view) told =
            let was = had chunk (row_of (fin.get b.durable.chunks chunk) view told) in
            let same = ap (λ (es : List Edit). length es) (settled_back prepared old new before a b chunk back was).1 in
            let less = none_lost prepared old before a back.upgrade chunk was kept_then here.0 listed here.1 in
            drop_short (length (settled_edits a chunk)) (settled_edits b chunk) (omega arith)

    pub alone_back : AreAlone a.durable.names (newly_settled a b)
    alone_back = alone_where_shared_stay a.durable.names (newly_settled a b) (kept_before sizes law x step old new a b r moves).names (λ chunk listed more. none_new_there chunk listed)
