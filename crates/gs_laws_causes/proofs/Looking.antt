-- Where chunks are, and what their members give.
use Rattle.std.proofs.Common.{◌≡◌, ◌∙◌, ◌⊎◌, inl, inr, ◌++◌, ◌==◌, ℕ, List, [], ◌∷◌, Bool, true, false, length, Option, Some, None, Result, Ok, Err, refl, sym, ap, subst, append-nil}
use Rattle.std.specs.Prelude.{if◌then◌else◌, nat_le}
use Rattle.gs_base.specs.declared.refusal.Refusal.{Refusal}
use Rattle.gs_base.specs.declared.refusal.Refusal.TheVariants as refusals
use Rattle.gs_path.specs.Path.{Path}
use Rattle.gs_client_dialogue.specs.Dialogues.{Say, onward, otherwise}
use Rattle.gs_client_dialogue.specs.Heard.{Says}
use Rattle.gs_msg.specs.declared.answer.Answer.{Answer}
use Rattle.gs_msg.specs.declared.answer.Answer.TheVariants as answers
use Rattle.gs_msg.specs.declared.answer.ChunkStatus.{ChunkStatus}
use Rattle.gs_msg.specs.declared.answer.Status.{Status}
use Rattle.gs_msg.specs.declared.answer.Status.TheVariants as statuses
use Rattle.gs_msg.specs.declared.body.Given.{Given}
use Rattle.gs_msg.specs.declared.call.Call.TheVariants as calls
use Rattle.gs_msg.specs.declared.chunk.Asked.{Asked}
use Rattle.gs_msg.specs.declared.event.Request.{Request}
use Rattle.gs_msg.specs.declared.event.Request.TheVariants as requests
use Rattle.gs_client_part.specs.Fetching.{fetch_of}
use Rattle.gs_client_part.specs.Writing.{most_chunks}
use Rattle.gs_client_part.specs.declared.located.Located.{Located}
use Rattle.gs_client.specs.declared.link.Reply.{Reply}
use Rattle.gs_client.specs.declared.link.Reply.TheVariants as replies
use Rattle.gs_client.specs.Looking.{anew_call, chunks_call, count_in, fetch_call, find_call, known_call, members_call, round_call}
use Rattle.gs_client.specs.Replies.{chunks_in, given, located_in, looked, status_in}
use Rattle.gs_client.specs.Trees.{and_then, look}
use Rattle.gs_laws_causes.specs.Causes.{Exchanges, IsFound, IsPassedOver, NoneGives, Why, WhyNoReplica, is_fetch, is_passed_over}
use Rattle.gs_laws_causes.proofs.Ways.{Caused, Holds, IsClear, IsOther, both_has, chosen_has, err_clear, err_is, grown, never, not_other, ok_clear, otherwise_has, said, stray_other, the_whole, upon_has, upon_splits}
use Rattle.gs_laws_causes.proofs.Replies.{look_has, reads_located, reads_status, refused_so}
use Rattle.std.specs.List.{AllByRecursion}

-- ---- how many chunks there are

directory_other : IsOther refusals.IsADirectory
directory_other = record { replica = λ h. cc; sure = λ h. cc }

chunks_clear : (status : Status) → IsClear (chunks_in status)
chunks_clear statuses.Directory = err_clear refusals.IsADirectory directory_other
chunks_clear (statuses.File chunks) = ok_clear chunks

-- a number that may be too great
pub tested : {A : Type 0} (b : Bool) (x : A) → IsClear {A = A} (if b then Ok x else Err refusals.Stray)
tested true x = ok_clear x
tested false x = err_clear refusals.Stray stray_other

pub count_clear : (chunks : List ChunkStatus) → IsClear (count_in chunks)
count_clear chunks = tested (nat_le (length chunks) most_chunks) (length chunks)

-- ---- a round of the members of a chunk

-- What a round comes to that none of its members gives anything in: each was passed over, or the last that refused has said so.
data Rounds (l : Located) (asked : Asked) (members : List ℕ) (last e : Refusal) (exchanges : Exchanges) : Type 0 where
  Nobody : e ≡ last → NoneGives l asked members exchanges → Rounds l asked members last e exchanges
  Somebody : (before : Exchanges) (to : ℕ) (behind : Exchanges) → exchanges ≡ before ++ (fetch_of l asked to, replies.Refused e) ∷ behind → AllByRecursion IsPassedOver behind
      → Rounds l asked members last e exchanges

-- who was passed over was asked
all_passed : (l : Located) (asked : Asked) (members : List ℕ) (exchanges : Exchanges) → NoneGives l asked members exchanges → AllByRecursion IsPassedOver exchanges
all_passed l asked [] exchanges none = subst (λ xs. AllByRecursion IsPassedOver xs) (sym none) tt
all_passed l asked (member ∷ members) [] none = absurd none
all_passed l asked (member ∷ members) (exchange ∷ rest) (is, passed, none) =
    ((ap (λ (r : Request). is_fetch r) is, passed), all_passed l asked members rest none)

module _ (e : Refusal) (either : (e ≡ refusals.NoReplica) ⊎ (e ≡ refusals.Unsure)) (l : Located) (asked : Asked) where
  rounds : (members : List ℕ) (last : Refusal) (exchanges : Exchanges) → Says (members_call l asked members last) exchanges (Err e) → Rounds l asked members last e exchanges
  rounds [] last exchanges h = Nobody (err_is h.0) h.1
  rounds (member ∷ members) last exchanges (reply, rest, is, says) = by_reply reply is says (λ next h. rounds members next rest h)
    where
      -- a member that was passed over is one more of those
      passes : (reply : Reply) → exchanges ≡ (fetch_of l asked member, reply) ∷ rest → is_passed_over reply ≡ true → Rounds l asked members last e rest → Rounds l asked (member ∷ members) last e exchanges
      passes reply is passed (Nobody so none) = Nobody so (subst (λ xs. NoneGives l asked (member ∷ members) xs) (sym is) (refl, passed, none))
      passes reply is passed (Somebody before to behind stands all) = Somebody ((fetch_of l asked member, reply) ∷ before) to behind (is ∙ ap (λ xs. (fetch_of l asked member, reply) ∷ xs) stands) all

      refuses : (f : Refusal) → exchanges ≡ (fetch_of l asked member, replies.Refused f) ∷ rest → Rounds l asked members f e rest → Rounds l asked (member ∷ members) last e exchanges
      refuses f is (Nobody so none) =
          Somebody [] member rest (is ∙ ap (λ g. (fetch_of l asked member, replies.Refused g) ∷ rest) (sym so)) (all_passed l asked members rest none)
      refuses f is (Somebody before to behind stands all) = Somebody ((fetch_of l asked member, replies.Refused f) ∷ before) to behind (is ∙ ap (λ xs. (fetch_of l asked member, replies.Refused f) ∷ xs) stands) all

      -- what answers as no member does is the last, and neither 28 nor 29
      strays : (reply : Reply) → exchanges ≡ (fetch_of l asked member, reply) ∷ rest → Rounds l asked members refusals.Stray e rest → Rounds l asked (member ∷ members) last e exchanges
      strays reply is (Nobody so none) = not_other e either (subst IsOther (sym so) stray_other)
      strays reply is (Somebody before to behind stands all) = Somebody ((fetch_of l asked member, reply) ∷ before) to behind (is ∙ ap (λ xs. (fetch_of l asked member, reply) ∷ xs) stands) all

      by_reply : (reply : Reply) → exchanges ≡ (fetch_of l asked member, reply) ∷ rest → Says (otherwise (members_call l asked members) (given last reply)) rest (Err e)
          → ((next : Refusal) → Says (members_call l asked members next) rest (Err e) → Rounds l asked members next e rest) → Rounds l asked (member ∷ members) last e exchanges
      by_reply (replies.Given g) is says more = never says.0
      by_reply (replies.Refused f) is says more = refuses f is (more f says)
      by_reply (replies.Answer answer) is says more = strays (replies.Answer answer) is (more refusals.Stray says)
      by_reply (replies.Outcome outcome) is says more = strays (replies.Outcome outcome) is (more refusals.Stray says)
      by_reply replies.Lost is says more = passes replies.Lost is refl (more last says)

-- ---- where a chunk is

located_is : (index : ℕ) (answer : Answer) (l : Located) → Ok l ≡ located_in index answer → (answer ≡ answers.Location l.handle l.view l.epoch) × (index ≡ l.index)
located_is index (answers.Location handle view epoch) l is =
    let same : record { index = index; handle = handle; view = view; epoch = epoch } ≡ l = sym (ok_is is) in
    (ap (λ (k : Located). answers.Location k.handle k.view k.epoch) same, ap (λ (k : Located). k.index) same)
  where
    ok_is : {A : Type 0} {a b : A} → ◌≡◌ {A = Result A Refusal} (Ok a) (Ok b) → a ≡ b
    ok_is is = cc
located_is index answer l is = never (sym is)

found : (path : Path) (index : ℕ) (exchanges : Exchanges) (l : Located) → Says (find_call path index) exchanges (Ok l)
    → (asked : Request) × (reply : Reply) × IsFound path l asked reply × (exchanges ≡ (asked, reply) ∷ [])
found path index exchanges l h = elim h [ inl goes ↦ by_asked goes | inr lacks ↦ never (sym lacks.0) ]
  where
    by_reply : (reply : Reply) → Ok l ≡ and_then (located_in index) (looked reply) → IsFound path l (requests.Call (calls.FindForReading path index)) reply
    by_reply (replies.Answer answer) is =
        let s = located_is index answer l is in (ap (λ i. requests.Call (calls.FindForReading path i)) s.1, ap (λ a. replies.Answer a) s.0)
    by_reply (replies.Outcome outcome) is = never (sym is)
    by_reply (replies.Given g) is = never (sym is)
    by_reply (replies.Refused refusal) is = never (sym is)
    by_reply replies.Lost is = never (sym is)

    by_asked : Says (look (calls.FindForReading path index) (located_in index)) exchanges (Ok l)
        → (asked : Request) × (reply : Reply) × IsFound path l asked reply × (exchanges ≡ (asked, reply) ∷ [])
    by_asked (reply, rest, is, says) =
        let asked : Request = requests.Call (calls.FindForReading path index) in (asked, reply, by_reply reply says.0, is ∙ ap (λ xs. (asked, reply) ∷ xs) says.1)

module _ (e : Refusal) (either : (e ≡ refusals.NoReplica) ⊎ (e ≡ refusals.Unsure)) where
  -- ---- a location, and the round of its members

  -- a round behind the location that it is of
  round_caused : (path : Path) (l : Located) (what : Asked) (asked : Request) (reply : Reply) (round exchanges : Exchanges) → IsFound path l asked reply
      → exchanges ≡ (asked, reply) ∷ round → Rounds l what l.view.members refusals.NoReplica e round → Caused e exchanges
  round_caused path l what asked reply round exchanges there is (Somebody before to behind stands all) = record {
    before = (asked, reply) ∷ before;
    asked = fetch_of l what to;
    reply = replies.Refused e;
    behind = behind;
    is = is ∙ ap (λ xs. (asked, reply) ∷ xs) stands;
    why = refused_so e either (fetch_of l what to) e behind refl all;
  }
  round_caused path l what asked reply round exchanges there is (Nobody so none) = by_members l.view.members refl none
    where
      placed : WhyNoReplica asked reply round → Caused e exchanges
      placed why = record { before = []; asked = asked; reply = reply; behind = round; is = is; why = subst (λ g. Why g asked reply round) (sym so) why }

      by_members : (members : List ℕ) → l.view.members ≡ members → NoneGives l what members round → Caused e exchanges
      by_members [] are none = placed (WhyNoReplica.NoMembers path l there are none)
      by_members (first ∷ others) are none = placed (WhyNoReplica.PassedOver path l what first others there are none)

  -- the members that are asked in a round
  round_is : (l : Located) (what : Asked) (exchanges : Exchanges) → Says (round_call l what) exchanges (Err e) → Rounds l what l.view.members refusals.NoReplica e exchanges
  round_is l what exchanges h =
      let s = upon_splits e either (members_call l what l.view.members refusals.NoReplica) (onward (λ g. Say (Ok (g, l)))) exchanges h in by_result s.0 s.1 s.2 s.3 s.4 s.5
    where
      by_result : (r : Result Given Refusal) (first second : Exchanges) → exchanges ≡ first ++ second → Says (members_call l what l.view.members refusals.NoReplica) first r
          → Says (onward {A = Given} {B = Given × Located} (λ g. Say (Ok (g, l))) r) second (Err e) → Rounds l what l.view.members refusals.NoReplica e exchanges
      by_result (Ok g) first second is says rest = never rest.0
      by_result (Err f) first second is says rest =
          let whole : exchanges ≡ first = is ∙ ap (λ xs. first ++ xs) rest.1 ∙ append-nil first in
          subst (λ xs. Rounds l what l.view.members refusals.NoReplica e xs) (sym whole)
          (rounds e either l what l.view.members refusals.NoReplica first (subst (λ g. Says (members_call l what l.view.members refusals.NoReplica) first (Err g)) (sym (err_is rest.0)) says))

module _ {e : Refusal} {either : (e ≡ refusals.NoReplica) ⊎ (e ≡ refusals.Unsure)} where
  pub chunks_has : (path : Path) → Holds e either (chunks_call path)
  chunks_has path =
      both_has (grown (look_has (calls.Status path) status_in refl reads_status)) (λ status.
      both_has (said (chunks_clear status)) (λ chunks. said (count_clear chunks)))

  pub known_has : (path : Path) (opened : Option ℕ) → Holds e either (known_call path opened)
  known_has path (Some chunks) = said (ok_clear chunks)
  known_has path None = chunks_has path

  find_has : (path : Path) (index : ℕ) → Holds e either (find_call path index)
  find_has path index = grown (look_has (calls.FindForReading path index) (located_in index) refl (reads_located index))

  pub anew_has : (path : Path) (index : ℕ) (what : Asked) → Holds e either (anew_call path index what)
  anew_has path index what = upon_has (find_call path index) (onward (λ l. round_call l what)) each
    where
      each : (r : Result Located Refusal) (first second whole : Exchanges) → whole ≡ first ++ second → Says (find_call path index) first r
          → Says (onward {A = Located} {B = Given × Located} (λ l. round_call l what) r) second (Err e) → Caused e whole
      each (Ok l) first second whole is says rest =
          let s = found path index first l says in
          round_caused e either path l what s.0 s.1 second whole s.2 (is ∙ ap (λ xs. xs ++ second) s.3) (round_is e either l what second rest)
      each (Err f) first second whole is says rest =
          the_whole e either first second whole is rest.1 ((find_has path index).tells first (subst (λ g. Says (find_call path index) first (Err g)) (sym (err_is rest.0)) says))

  pub fetch_has : (path : Path) (known : Option Located) (index : ℕ) (what : Asked) → Holds e either (fetch_call path known index what)
  fetch_has path None index what = anew_has path index what
  fetch_has path (Some l) index what =
      chosen_has (l.index == index) (otherwise_has (round_call l what) (λ refusal. anew_has path index what)) (anew_has path index what)
