-- Nobody leads a chunk right behind a prepare, or right behind its rollback.
use Rattle.std.proofs.Common.{◌≡◌, ◌∙◌, ◌<◌, ℕ, Bool, true, Option, Some, None, Ok, refl, sym, ap, arith}
use Rattle.std.specs.Prelude.{nat_lt}
use Rattle.std.specs.FinMap as fin
use Rattle.std.specs.List.{list_all}
use Rattle.std.proofs.lemmas.Bool.Decides.{nat_tests}
use Rattle.gs_laws_chunk.proofs.lemmas.machine.Facts.{reached_world}
use Rattle.gs_laws_chunk.proofs.lemmas.machine.Prepared.{prepared_rests}
use Rattle.gs_lease.specs.declared.view.Term.{Term}
use Rattle.gs_lease.specs.declared.view.View.{View}
use Rattle.gs_laws_parts.specs.master.Showing.{primary_of}
use Rattle.gs_laws_master.proofs.lemmas.fitting.AcceptedViews.{found_so, one_row}
use Rattle.gs_laws_master.proofs.lemmas.names.Planted.{each_chunk}
use Rattle.gs_laws_master.specs.Promises.{IsKept}
use Rattle.gs_master_spec.specs.Applied.{view_in}
use Rattle.gs_master_spec.specs.Calls.{found_chunk}
use Rattle.gs_master_spec.specs.Durable.{Durable, is_listed}
use Rattle.gs_path.specs.Path.{Path}
use Rattle.gs_refs.specs.Counts.{count_or_zero}
use Rattle.gs_laws_parts.specs.server.Requests.{bytes_in}
use Rattle.gs_tree.specs.Chunks.{all_chunks}
use Rattle.gs_tree.specs.Find.{at}
use Rattle.gs_world.proofs.Reaching.{HaveSizes}
use Rattle.gs_world.specs.Histories.{History}
use Rattle.gs_laws_chunks.proofs.lemmas.accounts.Edits.{AreNumbered}
use Rattle.gs_laws_chunks.proofs.lemmas.accounts.Holding.{seen_since, sees_there}
use Rattle.gs_laws_chunks.proofs.lemmas.accounts.Runs.{keeps_told}
use Rattle.gs_laws_chunks.proofs.lemmas.accounts.Surviving.{begun}
use Rattle.gs_laws_chunks.proofs.lemmas.accounts.Viewing.{told_view}
use Rattle.gs_laws_chunks.specs.accounts.Accepting.{MembersHaveNamed}
use Rattle.gs_laws_chunks.specs.accounts.Accounts.{Account, view_at}
use Rattle.gs_laws_chunks.specs.accounts.Back.{HasRolledBack}
use Rattle.gs_laws_chunks.specs.accounts.Running.{Setup}
use Rattle.gs_laws_chunks.specs.accounts.Upgrading.{IsUpgrading}
use Rattle.gs_laws_lift.specs.stores.Left.{left_in}

no_primary : (t : Option Term) → primary_of t ≡ None → t ≡ None
no_primary None is = refl
no_primary (Some t) is = absurd (cc)

view_is : {v w : View} → Some v ≡ Some w → v ≡ w
view_is is = cc

positive : (n : ℕ) → nat_lt 0 n ≡ true → 0 < n
positive n is = grind (arith, nat_tests)

tested : (n : ℕ) → 0 < n → nat_lt 0 n ≡ true
tested n more = grind (arith, nat_tests)

-- a chunk that stands in a file has a reference
pub referred : (d : Durable) (p : Path) (index chunk : ℕ) → IsKept d → found_chunk (fin.get d.names.tree p) index ≡ Ok chunk → 0 < count_or_zero (fin.get d.names.refs chunk)
referred d p index chunk kept found =
    let has : ℕ → Bool = λ q. nat_lt 0 (count_or_zero (fin.get d.names.refs q)) in
    let all : list_all has (all_chunks (fin.entries d.names.tree)) ≡ true = each_chunk has (all_chunks (fin.entries d.names.tree)) (λ q some. tested (count_or_zero (fin.get d.names.refs q)) (let same = kept.names.counted q in omega arith)) in
    positive (count_or_zero (fin.get d.names.refs chunk))
    (found_so has (at (fin.entries d.names.tree) p) index chunk (one_row has (fin.entries d.names.tree) p all) (ap (λ o. found_chunk o index) (sym (fin.get-entries d.names.tree p)) ∙ found))

module _ (sizes : HaveSizes) (law : AreNumbered) {D : Type 0} (x : Setup D) where
  pub unled_prepared : (prepared now : History D) (before after : Account) (up : IsUpgrading x prepared before now after) (chunk : ℕ) (view : View) → is_listed before.durable chunk ≡ true → view_at before chunk ≡ Some view → view.term ≡ None
  unled_prepared prepared now before after up chunk view listed told =
      let bytes = bytes_in (sees_there sizes law x prepared now before after up).asked in
      let k = seen_since sizes law x prepared now before after up chunk listed in
      let p = k.first.alive.world in
      let ok = reached_world p k.first.alive.reached in
      let rests = prepared_rests p ok before.durable.epoch (begun x bytes chunk (left_in prepared) before (left_in now) after k) (k.settled listed).0 in
      let shows = (told_view x bytes chunk (left_in prepared) before k.first view told).shows in
      let m = ok.entry in
      no_primary view.term (sym shows.holder ∙ m.holder ∙ ap p.known.holder (sym m.stamp ∙ sym (k.settled listed).1) ∙ rests.free)

  pub unled_back : MembersHaveNamed x → (prepared now back : History D) (before after last : Account) (rolled : HasRolledBack x prepared before now after back last) (p : Path) (index chunk : ℕ) (view : View) → found_chunk (fin.get before.durable.names.tree p) index ≡ Ok chunk →
      view_at last chunk ≡ Some view → view.term ≡ None
  unled_back members prepared now back before after last rolled p index chunk view found told =
      let sees = sees_there sizes law x prepared now before after rolled.upgrade in
      let kept = keeps_told x sees.asked (left_in prepared) before sees.first in
      let given = members prepared now back before after last rolled.step rolled.upgrade rolled.moves rolled.accepted chunk (referred before.durable p index chunk kept found) in
      ap (λ (v : View). v.term) (view_is (sym told ∙ ap view_in given.told)) ∙ given.unled
