-- What the master keeps over a restart. It changes by records alone.
use Rattle.std.specs.Prelude.{◌≡◌, ◌&&◌, ◌||◌, ◌-◌, ◌+◌, ◌==◌, ℕ, Bool, true, false, nat_lt, List, [], ◌∷◌, Option, Some, None, is_some, if◌then◌else◌, refl}
use Rattle.std.specs.Ordering.{nat_cmp}
use Rattle.std.specs.FinMap as fin
use Rattle.gs_base.specs.Members.{is_member}
use Rattle.gs_base.specs.Numbers.{last_number}
use Rattle.gs_edit.specs.Names.{blank}
use Rattle.gs_edit.specs.View.{NamesView}
use Rattle.gs_lease.specs.declared.view.Term.{Term}
use Rattle.gs_lease.specs.declared.view.View.{View}
use Rattle.gs_master_record.specs.Plain.{PlainInverse}
use Rattle.gs_base.specs.declared.epoch.EpochEnd.{EpochEnd}
use Rattle.gs_master_record.specs.declared.checkpoint.Phase.{Phase}
use Rattle.gs_master_record.specs.declared.checkpoint.Phase.TheVariants.{Ordinary, Upgrade, Rolling}
use Rattle.gs_master_spec.specs.Replies.{client_cmp}
use Rattle.gs_master_spec.specs.declared.asking.Prepared.{Prepared}
use Rattle.gs_master_spec.specs.declared.reply.KeptReply.{KeptReply}

-- the view of a chunk that was settled last, and whether another was proposed since
pub record Settled : Type 0 where
  pub view : View
  pub is_moving : Bool

-- The names; the settled chunks; the counters, each at the value that is given next, or at 0 where none is left; the epoch,
-- the phase, and how each epoch before ended; the replies that records tell; and since prepare what takes each edit back, in
-- order, and the views of the chunks that have changed, as they stood at prepare.
pub record Durable : Type 0 where
  pub names : NamesView
  pub chunks : fin.FinMap nat_cmp Settled
  pub next_handle : ℕ
  pub next_version : ℕ
  pub next_hidden : ℕ
  pub epoch : ℕ
  pub phase : Phase
  pub ends : List EpochEnd
  pub replies : fin.FinMap client_cmp KeptReply
  pub inverses : List PlainInverse
  pub prepared : fin.FinMap nat_cmp Prepared

-- a new store
abbrev pub start : Durable
start = record {
  names = blank;
  chunks = fin.empty;
  next_handle = 1;
  next_version = 1;
  next_hidden = 1;
  epoch = 0;
  phase = Ordinary;
  ends = [];
  replies = fin.empty;
  inverses = [];
  prepared = fin.empty;
}

-- ---- counters

-- the next value of a counter behind this one
abbrev pub after_number : ℕ → ℕ
after_number n = if n == last_number then 0 else n + 1

-- a counter has given this value
abbrev pub is_given : ℕ → ℕ → Bool
is_given next n = nat_lt 0 n && ((next == 0) || nat_lt n next)

-- how many values are left
abbrev pub values_left : ℕ → ℕ
values_left next = if next == 0 then 0 else last_number - next + 1

-- ---- phases

abbrev pub is_ordinary : Phase → Bool
is_ordinary Ordinary = true
is_ordinary Upgrade = false
is_ordinary Rolling = false

abbrev pub is_upgrade : Phase → Bool
is_upgrade Ordinary = false
is_upgrade Upgrade = true
is_upgrade Rolling = false

abbrev pub is_rolling : Phase → Bool
is_rolling Ordinary = false
is_rolling Upgrade = false
is_rolling Rolling = true

-- the epoch of the upgrade that stands, also while it is rolled back
abbrev pub upgrade_epoch : Phase → ℕ → Option ℕ
upgrade_epoch Ordinary epoch = None
upgrade_epoch Upgrade epoch = Some epoch
upgrade_epoch Rolling epoch = Some (epoch - 1)

-- ---- views

-- a view's primary is one of its members
abbrev pub has_its_primary : View → Bool
has_its_primary view = is_among view.term
  where
    is_among : Option Term → Bool
    is_among None = true
    is_among (Some term) = is_member view.members term.primary

-- ---- prepared views

-- a view that was settled before an upgrade's epoch
abbrev pub if_before : ℕ → Option Settled → Option Prepared
if_before upgrade None = None
if_before upgrade (Some settled) =
    if nat_lt settled.view.stamp.epoch upgrade then Some (record { view = settled.view; holders = [] }) else None

-- The view of a chunk at prepare with its holders: the one that is kept, or else the settled one, if that has stood since.
abbrev pub prepared_of : Option ℕ → Option Prepared → Option Settled → Option Prepared
prepared_of None kept settled = None
prepared_of (Some upgrade) (Some kept) settled = Some kept
prepared_of (Some upgrade) None settled = if_before upgrade settled

abbrev pub prepared_view : Durable → ℕ → Option Prepared
prepared_view d chunk = prepared_of (upgrade_epoch d.phase d.epoch) (fin.get d.prepared chunk) (fin.get d.chunks chunk)

abbrev pub with_prepared : Durable → ℕ → Option Prepared → fin.FinMap nat_cmp Prepared
with_prepared d chunk None = d.prepared
with_prepared d chunk (Some view) = fin.insert d.prepared chunk view

-- before a chunk changes, its prepared view is kept
abbrev pub kept_before : Durable → ℕ → fin.FinMap nat_cmp Prepared
kept_before d chunk = with_prepared d chunk (prepared_view d chunk)

-- a file has the chunk, or had it
abbrev pub is_listed : Durable → ℕ → Bool
is_listed d chunk = is_some (fin.get d.names.refs chunk)

-- ---- examples

abbrev a_view : ℕ → View
a_view epoch = record { stamp = record { epoch = epoch; version = 7 }; count = 2; members = 0 ∷ 1 ∷ []; term = None }

behind_the_last : after_number 18446744073709551615 ≡ 0
behind_the_last = refl

all_were_given : is_given 0 18446744073709551615 ≡ true
all_were_given = refl

not_yet_given : is_given 7 7 ≡ false
not_yet_given = refl

led_by_a_member : has_its_primary (record (a_view 2) { term = Some (record { primary = 1; end = record { 0 = 60 } }) }) ≡ true
led_by_a_member = refl

led_by_another : has_its_primary (record (a_view 2) { term = Some (record { primary = 2; end = record { 0 = 60 } }) }) ≡ false
led_by_another = refl

-- the settled view has stood since the prepare of epoch 3
unchanged : prepared_of (upgrade_epoch Upgrade 3) None (Some (record { view = a_view 2; is_moving = true })) ≡ Some (record { view = a_view 2; holders = [] })
unchanged = refl

newer_than_the_prepare : prepared_of (upgrade_epoch Upgrade 3) None (Some (record { view = a_view 3; is_moving = false })) ≡ None
newer_than_the_prepare = refl

kept : prepared_of (upgrade_epoch Rolling 4) (Some (record { view = a_view 2; holders = 5 ∷ [] })) None ≡ Some (record { view = a_view 2; holders = 5 ∷ [] })
kept = refl
