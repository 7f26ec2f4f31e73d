-- What a server has lost is among the chunks of whose settled views it is a member.
use Rattle.std.proofs.Common.{◌≡◌, ◌∙◌, ◌&&◌, ℕ, Bool, true, false, not, cond, List, [], filter, Option, Some, None, refl, ap, sym}
use Rattle.std.specs.Prelude.{option_and_then, option_map, is_some}
use Rattle.std.specs.FinMap as fin
use Rattle.std.specs.Ordering.{nat_cmp}
use Rattle.gs_base.specs.Members.{is_member}
use Rattle.gs_base_table.specs.Slots.{live}
use Rattle.gs_lease.specs.Told.{told_of}
use Rattle.gs_lease.specs.declared.lease.Lease.{Lease}
use Rattle.gs_lease.specs.declared.view.View.{View}
use Rattle.gs_lease_table.proofs.Filtered.{filter_same}
use Rattle.gs_lease_table.specs.Groups.{AreThose, passes}
use Rattle.gs_lease_table.specs.Tallies.{members_of as told_view_members, settled_members}
use Rattle.gs_msg.specs.declared.body.Reported.{Reported}
use Rattle.gs_master_spec.specs.Chunks.{Chunk, chunk_at, has_entry, is_moving, members_in}
use Rattle.gs_master_spec.specs.Durable.{Settled}
use Rattle.gs_master_spec.specs.Hearing.{is_lost_at, is_told_sound, lost}
use Rattle.gs_master_spec.specs.State.{State}
use Rattle.gs_master_state.proofs.Recording.{get_chunks}
use Rattle.gs_master_state.proofs.Surveys.{view_told}
use Rattle.gs_master_state.specs.declared.recorded.Recorded.{Recorded}
use Rattle.gs_master_state.specs.inner.Recorded.{durable_of, settled_by}
use Rattle.gs_master_state.specs.inner.Surveying.{is_lost}

-- the members of what is settled, if something is
abbrev pub members_at : Option Settled → List ℕ
members_at x = members_in (option_map (λ (s : Settled). s.view) x)

pub told_members : (lease : Lease) → settled_members lease ≡ members_at (settled_by lease)
told_members lease = of_view (told_of lease).settled ∙ ap members_in (view_told (told_of lease).settled (told_of lease).proposed)
  where
    of_view : (v : Option View) → told_view_members v ≡ members_in v
    of_view None = refl
    of_view (Some view) = refl

on_either : (server : ℕ) (l : Option Lease) → passes (λ lease. is_member (settled_members lease) server) l ≡ is_member (members_at (option_and_then settled_by l)) server
on_either server None = refl
on_either server (Some lease) = ap (λ members. is_member members server) (told_members lease)

both : (a b : Bool) → a && b ≡ true → a ≡ true
both true b h = refl
both false b h = h

-- a server that has lost a chunk is a member
a_member : (s : State) (server : ℕ) (reported : List Reported) (q : ℕ) → is_lost s server reported q ≡ true → is_member (members_at (fin.get s.durable.chunks q)) server ≡ true
unfolding chunk_at
a_member s server reported q h = known (has_entry s q) (record { settled = fin.get s.durable.chunks q; asking = fin.get s.volatile.moving q }) (both _ (not (is_told_sound reported q)) h)
  where
    known : (b : Bool) (c : Chunk) → is_lost_at server (cond b (Some c) None) ≡ true → is_member (members_at c.settled) server ≡ true
    known true c on = both (is_member (members_at c.settled) server) (not (is_moving c)) on
    known false c on = absurd (cc)

settled_there : (server : ℕ) (x : Option Settled) → is_member (members_at x) server ≡ true → is_some x ≡ true
settled_there server None h = absurd (cc)
settled_there server (Some settled) h = refl

pub lost_in : (s : State) (r : Recorded) (server : ℕ) (reported : List Reported) (set : fin.FinMap nat_cmp Bool) → s.durable.chunks ≡ (durable_of r).chunks
    → AreThose (λ lease. is_member (settled_members lease) server) (live nat_cmp r.leases) set → filter (is_lost s server reported) (fin.keys set) ≡ lost s server reported
lost_in s r server reported set same are = filter_same set s.durable.chunks (is_lost s server reported) (λ q h.
    let on = a_member s server reported q h in
    are.each q ∙ on_either server (fin.get (live nat_cmp r.leases) q)
    ∙ ap (λ x. is_member (members_at x) server) (sym (ap (λ m. fin.get m q) same ∙ get_chunks (live nat_cmp r.leases) q))
    ∙ on ∙ sym (settled_there server (fin.get s.durable.chunks q) on))
