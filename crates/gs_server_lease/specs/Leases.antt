-- A lease at its primary: what was granted, what the members have told since, and the edits that wait for them.
use Rattle.std.specs.Prelude.{◌≡◌, ℕ, ◌==◌, ◌&&◌, not, max, nat_le, nat_lt, cond, Bool, true, false, List, [], ◌∷◌, map, filter, find, flat_map, replicate, slice_index_or, slice_set, Option, Some, None, Ok, refl}
use Rattle.std.specs.List.{list_any, list_all}
use Rattle.std.specs.Coded.{Coded, code_by, coded×, coded_ℕ, coded_list}
use Rattle.gs_base.specs.declared.numbers.Moment.{Moment}
use Rattle.gs_base.specs.declared.numbers.Stamp.{Stamp}
use Rattle.gs_base.specs.declared.numbers.ReqId.{ReqId}
use Rattle.gs_lease.specs.declared.held.Grant.{Grant}
use Rattle.gs_lease.specs.contracts.held.Grant as grants
use Rattle.gs_lease.specs.Primary.{renewed}
use Rattle.gs_replica.specs.declared.op.EditOutcome.TheVariants.{Appended}
use Rattle.gs_msg.specs.declared.op.Op.TheVariants.{Append}
use Rattle.gs_msg.specs.declared.node.NodeId.{NodeId}
use Rattle.gs_msg.specs.declared.node.NodeId.TheVariants as nodes
use Rattle.gs_msg.specs.declared.message.Message.{Message}
use Rattle.gs_msg.specs.declared.body.Body.{Body}
use Rattle.gs_msg.specs.declared.body.Body.TheVariants as bodies
use Rattle.gs_msg.specs.declared.chunk.Chunk.TheVariants as chunks
use Rattle.indexmap.specs.IndexMap.{insert_entry}
use Rattle.gs_server_lease.specs.declared.lease.Open.{Open}
use Rattle.gs_server_lease.specs.contracts.lease.Open as opens

-- The grant; by the number of each server the greatest count that it has told since; and, in the order of their numbers, the
-- edits that not all members have acknowledged.
pub record PrimaryLease : Type 0 where
  pub grant : Grant
  pub told : List ℕ
  pub outbox : List (ℕ × Open)

abbrev pub coded_lease : Coded PrimaryLease
coded_lease =
    code_by (Grant × (List ℕ × List (ℕ × Open))) (coded× grants.the_row.coded (coded× (coded_list coded_ℕ) (coded_list (coded× coded_ℕ opens.the_row.coded))))
    (λ l. (l.grant, (l.told, l.outbox))) (λ p. record { grant = p.0; told = p.1.0; outbox = p.1.1 }) (λ _. refl)

-- a lease as it is granted
abbrev pub granted : Grant → PrimaryLease
granted grant = record { grant = grant; told = replicate 16 0; outbox = [] }

abbrev pub told_by : List ℕ → ℕ → ℕ
told_by told server = slice_index_or told server 0

-- a server tells its count, of which the greatest stays
abbrev pub heard : ℕ → ℕ → List ℕ → List ℕ
heard server count told = slice_set told server (max (told_by told server) count)

abbrev pub with_told : List ℕ → PrimaryLease → PrimaryLease
with_told told l = record { grant = l.grant; told = told; outbox = l.outbox }

abbrev pub hears : ℕ → ℕ → PrimaryLease → PrimaryLease
hears server count l = with_told (heard server count l.told) l

-- a server hasn't told a count that reaches the edit of this number
abbrev pub lacks : List ℕ → ℕ → ℕ → Bool
lacks told number server = nat_lt (told_by told server) number

-- every member has
abbrev pub is_acknowledged : PrimaryLease → ℕ → Bool
is_acknowledged l number = list_all (λ server. not (lacks l.told number server)) l.grant.members

-- what every member has leaves the outbox
abbrev pub settled : PrimaryLease → PrimaryLease
settled l = record { grant = l.grant; told = l.told; outbox = filter (λ edit. not (is_acknowledged l edit.0)) l.outbox }

-- an edit waits for the members; each number stands once, in the order in which they came
abbrev pub waits_for : ℕ → Open → PrimaryLease → PrimaryLease
waits_for number edit l = record { grant = l.grant; told = l.told; outbox = insert_entry (λ a b. a == b) l.outbox number edit }

-- An edit is numbered: the primary has it, and it waits for the other members, if there are any.
abbrev pub opens_edit : ℕ → ℕ → Open → PrimaryLease → PrimaryLease
opens_edit me number edit l = cond (is_acknowledged (hears me number l) number) (hears me number l) (waits_for number edit (hears me number l))

-- whether a request's edit waits in the outbox
abbrev pub is_request : ReqId → ReqId → Bool
is_request a b = (a.client.0 == b.client.0) && (a.number == b.number)

abbrev pub waits : ReqId → PrimaryLease → Bool
waits req l = list_any (λ (edit : ℕ × Open). is_request req edit.1.req) l.outbox

-- the later of two ends
abbrev pub renews : Moment → PrimaryLease → PrimaryLease
renews end l = record { grant = renewed l.grant end; told = l.told; outbox = l.outbox }

-- no edit is numbered at such a moment
abbrev pub is_over : Moment → PrimaryLease → Bool
is_over moment l = nat_le l.grant.end.0 moment.0

-- What a server sends because of a lease.
abbrev pub tell : ℕ → NodeId → Body → Message
tell me to body = record { from = nodes.Server me; to = to; body = body }

-- the client is told once every member has its edit
abbrev pub done_of : ℕ → (ℕ × Open) → Message
done_of me edit = tell me (nodes.Client edit.1.req.client) (bodies.Done edit.1.req (Ok edit.1.outcome))

abbrev pub dones : ℕ → PrimaryLease → List Message
dones me l = map (done_of me) (filter (λ edit. is_acknowledged l edit.0) l.outbox)

-- of an edit that every member has where it is numbered, at once
abbrev pub done_at_once : ℕ → ℕ → Open → PrimaryLease → List Message
done_at_once me number edit l = cond (is_acknowledged (hears me number l) number) (done_of me (number, edit) ∷ []) []

abbrev pub forward_of : ℕ → ℕ → PrimaryLease → Option (List ℕ) → (ℕ × Open) → ℕ → Message
forward_of me handle l bytes edit to = tell me (nodes.Server to) (bodies.About handle (chunks.Forward l.grant.stamp edit.0 edit.1.req edit.1.op bytes))

-- an edit goes to the other members, ascending, without its bytes
abbrev pub forwards : ℕ → ℕ → PrimaryLease → (ℕ × Open) → List Message
forwards me handle l edit = map (forward_of me handle l None edit) (filter (λ server. not (server == me)) l.grant.members)

-- an edit that waits goes again to the members that haven't told of it
abbrev pub forwards_again : ℕ → ℕ → PrimaryLease → (ℕ × Open) → List Message
forwards_again me handle l edit = map (forward_of me handle l None edit) (filter (lacks l.told edit.0) l.grant.members)

-- at a tick: where edits wait, the lease is renewed, and each goes again, the lowest number first
abbrev pub reminds_of : ℕ → ℕ → PrimaryLease → List (ℕ × Open) → List Message
reminds_of me handle l [] = []
reminds_of me handle l (edit ∷ edits) = tell me nodes.Master (bodies.About handle (chunks.Renew l.grant.stamp)) ∷ flat_map (forwards_again me handle l) (edit ∷ edits)

abbrev pub reminds : ℕ → ℕ → PrimaryLease → List Message
reminds me handle l = reminds_of me handle l l.outbox

-- a member that hasn't the bytes gets the lowest edit that it hasn't told of, with them
abbrev pub with_bytes : ℕ → ℕ → PrimaryLease → ℕ → Option (ℕ × Open) → List Message
with_bytes me handle l server None = []
with_bytes me handle l server (Some edit) = forward_of me handle l (Some edit.1.bytes) edit server ∷ []

abbrev pub supplies : ℕ → ℕ → ℕ → PrimaryLease → List Message
supplies me handle server l = cond (list_any (λ member. member == server) l.grant.members) (with_bytes me handle l server (find (λ edit. lacks l.told edit.0 server) l.outbox)) []

-- Worked: the lease of three members at server 0, under which an append of two bytes is numbered 1.
abbrev pub stamp_of : ℕ → ℕ → Stamp
stamp_of epoch version = record { epoch = epoch; version = version }

abbrev pub moment_of : ℕ → Moment
moment_of moment = record { 0 = moment }

abbrev pub request_of : ℕ → ℕ → ReqId
request_of client number = record { client = record { 0 = client }; number = number }

abbrev pub three : PrimaryLease
three = granted (record { stamp = stamp_of 0 2; members = 0 ∷ 1 ∷ 2 ∷ []; end = moment_of 60 })

abbrev pub two_bytes : Open
two_bytes = record { req = request_of 7 1; op = Append 2; bytes = 97 ∷ 98 ∷ []; outcome = Appended 0 }

abbrev pub waiting : PrimaryLease
waiting = opens_edit 0 1 two_bytes three

goes_to_the_others : forwards 0 1 three (1, two_bytes) ≡ forward_of 0 1 three None (1, two_bytes) 1 ∷ forward_of 0 1 three None (1, two_bytes) 2 ∷ []
goes_to_the_others = refl

nobody_is_told_yet : dones 0 waiting ≡ []
nobody_is_told_yet = refl

nor_when_one_has_it : dones 0 (hears 1 1 waiting) ≡ []
nor_when_one_has_it = refl

told_when_all_have_it : dones 0 (hears 2 1 (hears 1 1 waiting)) ≡ done_of 0 (1, two_bytes) ∷ []
told_when_all_have_it = refl

and_then_it_leaves : (settled (hears 2 1 (hears 1 1 waiting))).outbox ≡ []
and_then_it_leaves = refl

a_lower_count_changes_nothing : hears 1 0 (hears 1 1 waiting) ≡ hears 1 1 waiting
a_lower_count_changes_nothing = refl

again_to_those_that_lack_it : reminds 0 1 (hears 1 1 waiting) ≡ tell 0 nodes.Master (bodies.About 1 (chunks.Renew (stamp_of 0 2))) ∷ forward_of 0 1 waiting None (1, two_bytes) 2 ∷ []
again_to_those_that_lack_it = refl

nothing_waits : reminds 0 1 three ≡ []
nothing_waits = refl

with_its_bytes : supplies 0 1 2 waiting ≡ forward_of 0 1 waiting (Some (97 ∷ 98 ∷ [])) (1, two_bytes) 2 ∷ []
with_its_bytes = refl

not_to_a_stranger : supplies 0 1 3 waiting ≡ []
not_to_a_stranger = refl

not_at_its_end : is_over (moment_of 60) three ≡ true
not_at_its_end = refl

just_below_it : is_over (moment_of 59) three ≡ false
just_below_it = refl

the_greater_end_stays : (renews (moment_of 50) three).grant.end ≡ moment_of 60
the_greater_end_stays = refl

abbrev all_alone : PrimaryLease
all_alone = granted (record { stamp = stamp_of 0 2; members = 0 ∷ []; end = moment_of 60 })

at_once_where_there_is_one_member : done_at_once 0 1 two_bytes all_alone ≡ done_of 0 (1, two_bytes) ∷ []
at_once_where_there_is_one_member = refl

and_nothing_waits : (opens_edit 0 1 two_bytes all_alone).outbox ≡ []
and_nothing_waits = refl
