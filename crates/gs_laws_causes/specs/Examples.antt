-- Worked: replies with which calls come to 28 or 29, and which of them that is from.
use Rattle.std.specs.Prelude.{◌≡◌, List, [], ◌∷◌, Some, None, Result, Err, refl}
use Rattle.gs_base.specs.declared.refusal.Refusal.{Refusal}
use Rattle.gs_base.specs.declared.refusal.Refusal.TheVariants as refusals
use Rattle.gs_lease.specs.declared.view.View.{View}
use Rattle.gs_msg.specs.declared.answer.Answer.TheVariants as answers
use Rattle.gs_msg.specs.declared.call.Call.TheVariants as calls
use Rattle.gs_msg.specs.declared.chunk.Asked.TheVariants as asks
use Rattle.gs_msg.specs.declared.event.Request.{Request}
use Rattle.gs_msg.specs.declared.event.Request.TheVariants as requests
use Rattle.gs_client_dialogue.specs.Dialogues.{run}
use Rattle.gs_client_part.specs.declared.located.Located.{Located}
use Rattle.gs_client_part.specs.Fetching.{fetch_of}
use Rattle.gs_client.specs.Reading.{digest_call}
use Rattle.gs_client.specs.Small.{at, f, located, next, replied, stamp, write}
use Rattle.gs_client.specs.Trees.{Call, list_call, mkdirs_call, rename_call}
use Rattle.gs_client.specs.Writing.{write_call}
use Rattle.gs_client.specs.declared.link.Reply.{Reply}
use Rattle.gs_client.specs.declared.link.Reply.TheVariants as replies
use Rattle.gs_laws_causes.specs.Carried.{Explained}
use Rattle.gs_laws_causes.specs.Causes.{Why, WhyNoReplica, WhyUnsure}

-- what a call comes to where these replies come, and behind the last of them none
abbrev pub comes_to : {A : Type 0} → Call A → List Reply → Result A Refusal
comes_to call some = (run next call (replied some)).0

-- ---- 28

a_look_is_refused : comes_to (list_call f) (replies.Refused refusals.NoReplica ∷ []) ≡ Err refusals.NoReplica
a_look_is_refused = refl

by_that : Why refusals.NoReplica (requests.Call (calls.List f)) (replies.Refused refusals.NoReplica) []
by_that = WhyNoReplica.Refused refl refl

-- over what refuses all so, from one state to the same
abbrev pub refuses : Unit {0} → Request → Reply → Unit {0} → Type 0
refuses old asked reply new = reply ≡ replies.Refused refusals.NoReplica

it_is_explained : Explained refuses (list_call f) refusals.NoReplica tt tt
it_is_explained = record {
  before = [];
  asked = requests.Call (calls.List f);
  reply = replies.Refused refusals.NoReplica;
  behind = [];
  says = (replies.Refused refusals.NoReplica, [], refl, (refl, refl));
  why = by_that;
  from = tt;
  to = tt;
  led = refl;
  came = refl;
  left = refl;
}

nobody_answers_a_look : comes_to (list_call f) [] ≡ Err refusals.NoReplica
nobody_answers_a_look = refl

by_that_silence : Why refusals.NoReplica (requests.Call (calls.List f)) replies.Lost []
by_that_silence = WhyNoReplica.Unanswered refl refl refl

-- a chunk without members: nothing is asked behind its location
abbrev pub lonely : View
lonely = record { stamp = stamp 4; count = 0; members = []; term = None }

abbrev pub nowhere : Located
nowhere = record { index = 0; handle = 1; view = lonely; epoch = 0 }

no_members : comes_to (digest_call f (Some 1) None 0 0) (replies.Answer (answers.Location 1 lonely 0) ∷ []) ≡ Err refusals.NoReplica
no_members = refl

by_that_location : Why refusals.NoReplica (requests.Call (calls.FindForReading f 0)) (replies.Answer (answers.Location 1 lonely 0)) []
by_that_location = WhyNoReplica.NoMembers f nowhere (refl, refl) refl refl

-- its two members are asked, and neither answers
none_gives : comes_to (digest_call f (Some 1) None 0 0) (at 1 4 ∷ replies.Lost ∷ replies.Lost ∷ []) ≡ Err refusals.NoReplica
none_gives = refl

by_those_members : Why refusals.NoReplica (requests.Call (calls.FindForReading f 0)) (at 1 4)
    ((fetch_of (located 0 1 4) (asks.Digest 0) 0, replies.Lost) ∷ (fetch_of (located 0 1 4) (asks.Digest 0) 1, replies.Lost) ∷ [])
by_those_members = WhyNoReplica.PassedOver f (located 0 1 4) (asks.Digest 0) 0 (1 ∷ []) (refl, refl) refl (refl, refl, (refl, refl, refl))

-- the first of them refuses so, and the other one is passed over
one_refuses : comes_to (digest_call f (Some 1) None 0 0) (at 1 4 ∷ replies.Refused refusals.NoReplica ∷ replies.Lost ∷ []) ≡ Err refusals.NoReplica
one_refuses = refl

by_that_member : Why refusals.NoReplica (fetch_of (located 0 1 4) (asks.Digest 0) 0) (replies.Refused refusals.NoReplica) ((fetch_of (located 0 1 4) (asks.Digest 0) 1, replies.Lost) ∷ [])
by_that_member = WhyNoReplica.Refused refl ((refl, refl), tt)

-- a location that was remembered is no cause: where it has no members the chunk is looked up anew
a_remembered_location : comes_to (digest_call f (Some 1) (Some nowhere) 0 0) (at 1 4 ∷ replies.Refused refusals.Range ∷ replies.Refused refusals.Old ∷ []) ≡ Err refusals.Old
a_remembered_location = refl

-- ---- 29

a_change_is_refused : comes_to (mkdirs_call f) (replies.Refused refusals.Unsure ∷ []) ≡ Err refusals.Unsure
a_change_is_refused = refl

by_that_refusal : Why refusals.Unsure (requests.Call (calls.Mkdirs f)) (replies.Refused refusals.Unsure) []
by_that_refusal = WhyUnsure.Refused refl refl

no_memory_for_it : comes_to (mkdirs_call f) (replies.Refused refusals.Memory ∷ []) ≡ Err refusals.Unsure
no_memory_for_it = refl

by_that_memory : Why refusals.Unsure (requests.Call (calls.Mkdirs f)) (replies.Refused refusals.Memory) []
by_that_memory = WhyUnsure.NoMemory refl refl refl

no_disk_for_it : comes_to (rename_call f []) (replies.Refused refusals.Device ∷ []) ≡ Err refusals.Unsure
no_disk_for_it = refl

by_that_disk : Why refusals.Unsure (requests.Call (calls.Rename f [])) (replies.Refused refusals.Device) []
by_that_disk = WhyUnsure.NoDisk refl refl refl

nobody_answers_an_edit : comes_to (write_call 16 f (Some 1) 0 (97 ∷ [])) (at 1 3 ∷ []) ≡ Err refusals.Unsure
nobody_answers_an_edit = refl

by_that_edit : Why refusals.Unsure (write 1 3 0 (97 ∷ [])) replies.Lost []
by_that_edit = WhyUnsure.Unanswered refl refl refl

-- ---- neither

memory_for_a_look : comes_to (list_call f) (replies.Refused refusals.Memory ∷ []) ≡ Err refusals.Memory
memory_for_a_look = refl

no_number_is_left : comes_to (mkdirs_call f) (replies.Refused refusals.Exhausted ∷ []) ≡ Err refusals.Exhausted
no_number_is_left = refl

another_kind_of_answer : comes_to (mkdirs_call f) (replies.Answer answers.Absent ∷ []) ≡ Err refusals.Stray
another_kind_of_answer = refl

-- one member answers as the master does, and from the other nothing comes
another_kind_of_answer_of_a_member : comes_to (digest_call f (Some 1) None 0 0) (at 1 4 ∷ replies.Answer answers.Nothing ∷ replies.Lost ∷ []) ≡ Err refusals.Stray
another_kind_of_answer_of_a_member = refl
