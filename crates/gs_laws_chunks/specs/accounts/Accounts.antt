-- What the history of a store tells beside its nodes. No code keeps it: an account goes along with a run, and says what is settled.
use Rattle.std.specs.Prelude.{[], ◌∷◌, ◌≡◌, Bool, List, None, Option, Some, false, min, refl, suc, take, zero, ℕ}
use Rattle.gs_base.specs.declared.numbers.ReqId.{ReqId}
use Rattle.gs_base.specs.declared.numbers.Stamp.{Stamp}
use Rattle.gs_lease.specs.declared.view.View.{View}
use Rattle.gs_master_spec.specs.Applied.{view_in}
use Rattle.gs_master_spec.specs.Durable.{Durable, start}
use Rattle.std.specs.FinMap as fin
use Rattle.gs_block.specs.Chunk.{written}
use Rattle.gs_replica.specs.declared.op.Op.TheVariants as ops
use Rattle.gs_replica.specs.Stands.{Edit, replica_of}

-- What the records tell, as the disks say them once one has failed. The edits of each chunk under each stamp. Of each chunk and server, the most edits
-- that it has had under each stamp; and whether what it holds of the last prepare stands unharmed: its replica of then, or the sealed image that a
-- copy brought since. And of each chunk the edits of its view at the last prepare.
pub record Account : Type 0 where
  pub durable : Durable
  pub list : ℕ → Stamp → List Edit
  pub reached : ℕ → ℕ → Stamp → ℕ
  pub intact : ℕ → ℕ → Bool
  pub before : ℕ → List Edit

-- as a store begins, of which the records tell this
abbrev pub first_account : Durable → Account
first_account d = record {
  durable = d;
  list = λ chunk stamp. [];
  reached = λ chunk server stamp. 0;
  intact = λ chunk server. false;
  before = λ chunk. [];
}

-- ---- what is settled

-- the view of a chunk that was settled last
abbrev pub view_at : Account → ℕ → Option View
view_at a chunk = view_in (fin.get a.durable.chunks chunk)

-- the least of what some servers count, or of none this
abbrev pub least : (ℕ → ℕ) → List ℕ → ℕ → ℕ
least count [] none = none
least count (server ∷ []) none = count server
least count (server ∷ next ∷ servers) none = min (count server) (least count (next ∷ servers) none)

-- as many edits as each member has had under the view's stamp
abbrev pub settled_count : Account → ℕ → View → ℕ
settled_count a chunk view = least (λ server. a.reached chunk server view.stamp) view.members view.count

-- the edits of a view
abbrev pub edits_in : Account → ℕ → Option View → List Edit
edits_in a chunk None = []
edits_in a chunk (Some view) = a.list chunk view.stamp

-- those of them that are settled
abbrev pub settled_in : Account → ℕ → Option View → List Edit
settled_in a chunk None = []
settled_in a chunk (Some view) = take (settled_count a chunk view) (a.list chunk view.stamp)

abbrev pub settled_edits : Account → ℕ → List Edit
settled_edits a chunk = settled_in a chunk (view_at a chunk)

-- what edits leave of no bytes, in a chunk of this size
abbrev pub text_of : ℕ → List Edit → List ℕ
text_of size edits = (replica_of size edits).bytes

-- ---- Worked: a view of servers 0 and 1, which have had three edits and two

abbrev stamp : Stamp
stamp = record { epoch = 0; version = 2 }

abbrev a_view : List ℕ → View
a_view members = record { stamp = stamp; count = 1; members = members; term = None }

abbrev req : ℕ → ReqId
req number = record { client = record { 0 = 1 }; number = number }

abbrev piece : ℕ → ℕ → Edit
piece number byte = record { req = req number; op = ops.Append; bytes = byte ∷ [] }

abbrev three : List Edit
three = piece 1 7 ∷ piece 2 8 ∷ piece 3 9 ∷ []

abbrev had : ℕ → ℕ
had zero = 3
had (suc server) = 2

abbrev an_account : Account
an_account = record (first_account start) { list = λ chunk u. three; reached = λ chunk server u. had server }

both_have_had_two : settled_count an_account 1 (a_view (0 ∷ 1 ∷ [])) ≡ 2
both_have_had_two = refl

the_first_alone_has_had_three : settled_count an_account 1 (a_view (0 ∷ [])) ≡ 3
the_first_alone_has_had_three = refl

of_no_member_the_count_of_the_view : settled_count an_account 1 (a_view []) ≡ 1
of_no_member_the_count_of_the_view = refl

two_edits_are_settled : settled_in an_account 1 (Some (a_view (0 ∷ 1 ∷ []))) ≡ piece 1 7 ∷ piece 2 8 ∷ []
two_edits_are_settled = refl

their_text : text_of 16 (settled_in an_account 1 (Some (a_view (0 ∷ 1 ∷ [])))) ≡ 7 ∷ 8 ∷ []
unfolding replica_of written
their_text = refl

of_no_view_none : settled_in an_account 1 None ≡ []
of_no_view_none = refl
