-- What a client that has halted a store reads of a file is of what stood there.
use Rattle.std.proofs.Common.{◌≡◌, ◌∙◌, inl, inr, ◌++◌, Bool, true, false, List, [], ◌∷◌, Some, Ok, ℕ, map, refl, sym, ap, subst, slice_get}
use Rattle.std.specs.Prelude.{is_some}
use Rattle.std.specs.FinMap as fin
use Rattle.std.specs.List.{AllByRecursion}
use Rattle.std.proofs.lemmas.List.Elements.{Contains-push_cases}
use Rattle.gs_base.specs.declared.config.Config.{Config}
use Rattle.gs_base.specs.declared.numbers.ClientId.{ClientId}
use Rattle.gs_base.specs.declared.numbers.Stamp.{Stamp}
use Rattle.gs_base.specs.declared.refusal.Refusal.{Refusal}
use Rattle.gs_client.specs.declared.link.Reply.{Reply}
use Rattle.gs_client.specs.declared.link.Reply.TheVariants as replies
use Rattle.gs_client_part.specs.declared.located.Located.{Located}
use Rattle.gs_laws_looks.specs.clients.Files.{AreOf, IsOf, Stands, TellsChunks, TellsPlace, part_of}
use Rattle.gs_laws_looks.specs.clients.Located.{AskSo, IsUnder, MayAsk, WasTold}
use Rattle.gs_edit.specs.View.{NamesView}
use Rattle.gs_master_spec.specs.Applied.{view_in}
use Rattle.gs_master_spec.specs.Calls.{chunks_at}
use Rattle.gs_master_spec.specs.Durable.{Durable, is_listed, is_rolling}
use Rattle.gs_msg.specs.declared.answer.Answer.{Answer}
use Rattle.gs_msg.specs.declared.answer.Answer.TheVariants as answers
use Rattle.gs_msg.specs.declared.answer.ChunkStatus.{ChunkStatus}
use Rattle.gs_msg.specs.declared.answer.Status.TheVariants as statuses
use Rattle.gs_msg.specs.declared.body.Body.TheVariants as bodies
use Rattle.gs_msg.specs.declared.body.Given.{Given}
use Rattle.gs_msg.specs.declared.call.Call.{Call}
use Rattle.gs_msg.specs.declared.call.Call.TheVariants as calls
use Rattle.gs_msg.specs.declared.chunk.Asked.{Asked}
use Rattle.gs_msg.specs.declared.chunk.Asked.TheVariants as asks
use Rattle.gs_msg.specs.declared.chunk.Chunk.TheVariants as chunks
use Rattle.gs_msg.specs.declared.event.Request.{Request}
use Rattle.gs_msg.specs.declared.event.Request.TheVariants as requests
use Rattle.gs_nodes.specs.Happenings.{client_in}
use Rattle.gs_nodes.specs.declared.place.MasterPlace.{MasterPlace}
use Rattle.gs_path.specs.Path.{Path}
use Rattle.gs_tree.specs.Edits.{chunks_in}
use Rattle.gs_tree.specs.Entry.{File}
use Rattle.gs_world.specs.Histories.{History}
use Rattle.gs_world.specs.Runs.{Comes, RunsTo, Step}
use Rattle.gs_laws_chunks.specs.answers.Behind.{HasAnswer}
use Rattle.gs_laws_chunks.specs.answers.Resting.{IsLooking, StandsStillAt}
use Rattle.gs_laws_world.specs.steady.Asking.{asks_at}
use Rattle.gs_laws_looks.specs.carrying.Exchanged.{HasReply, Looks, Went}
use Rattle.gs_laws_chunks.proofs.lemmas.accounts.Accounted.{runs_told}
use Rattle.gs_laws_chunks.proofs.lemmas.accounts.Once.{told_at_once}
use Rattle.gs_laws_chunks.proofs.lemmas.accounts.Well.{IsWell}
use Rattle.gs_laws_chunks.specs.accounts.Accounts.{Account, settled_edits, text_of}
use Rattle.gs_laws_chunks.specs.accounts.Reading.{IsFetch, IsLookedUp, given_of}
use Rattle.gs_laws_chunks.specs.accounts.Among.{AreEver}
use Rattle.gs_laws_chunks.specs.accounts.Running.{IsGiven, IsReached, IsToldAt, Moves, Runs, Setup}
use Rattle.gs_laws_looks.proofs.lemmas.fetching.Sending.{joined, none_there, reach}
use Rattle.gs_laws_looks.specs.fetching.Fetched.{PartsAreGiven, WasGiven}
use Rattle.gs_laws_world.specs.steady.Unarmed.{unarmed}
use Rattle.gs_laws_world.specs.steady.Saying.{IsStepWithin}
use Rattle.gs_laws_looks.specs.halts.Looked.{AnswersAreByNames, IsPlaceOf, IsStatusOf, LooksHalted}
use Rattle.gs_laws_looks.specs.halts.Unled.{IsHalted, StaysHalted}
use Rattle.gs_laws_looks.specs.leaders.Unled.{ReadsAreOfUnled, ReadsUnled, RunsUnled}
use Rattle.gs_laws_looks.proofs.lemmas.reads.Halting.{unled_on, unled_there}
use Rattle.gs_laws_looks.proofs.lemmas.reads.Stepping.{accounts_on, all_back, all_front, among_behind, bare_so, ever_after, ever_before, store_of, told_stands}
use Rattle.gs_laws_looks.specs.reads.Read.{Exchanged, ExchangedAmong, LooksAmong, ReplyAmong, WentAmong}

abbrev Pairs : Type 0
Pairs = List (Request × Reply)

-- what is given of a text is the part of it
part_is : (size : ℕ) (bytes : List ℕ) (asked : Asked) → given_of size bytes asked ≡ part_of size bytes asked
part_is size bytes (asks.Bytes offset many) = refl
part_is size bytes asks.Length = refl
part_is size bytes (asks.Digest block) = refl

module _ {D : Type 0} (seen : D → List ℕ) (failures : D → ℕ) (stays : StaysHalted seen failures unarmed) (looked : AnswersAreByNames seen failures unarmed) (config : Config) (clients : ℕ) (disks : D × D) (among : List ℕ → Bool)
    (given_parts : PartsAreGiven (store_of seen failures config clients disks among)) (of_unled : ReadsAreOfUnled (store_of seen failures config clients disks among)) (given : IsGiven (store_of seen failures config clients disks among)) where
  abbrev x : Setup D
  x = store_of seen failures config clients disks among

  module _ (d : Durable) (client : ClientId) (number : ℕ) (path : Path) (h0 : History D) (a0 : Account) (reached : IsReached x h0 a0) (halted0 : IsHalted seen d client number h0) (has : a0.durable ≡ d) (calm : is_rolling d.phase ≡ false) where
    -- the file as it stands there
    abbrev pub file : Stands
    file = record { path = path; chunks = chunks_at d.names path; text = λ chunk. text_of config.chunk (settled_edits a0 chunk); block = config.block }

    abbrev Unled : ℕ → List Step → History D → Account → History D → Account → Type 0
    Unled chunk = RunsUnled x chunk d.epoch

    unled_join : (chunk : ℕ) (xs ys : List Step) (old mid new : History D) (a b c : Account) → Unled chunk xs old a mid b → Unled chunk ys mid b new c → Unled chunk (xs ++ ys) old a new c
    unled_join chunk [] ys old mid new a b c same rest = subst (λ (h : History D). Unled chunk ys h a new c) same.0 (subst (λ (e : Account). Unled chunk ys mid e new c) same.1 rest)
    unled_join chunk (step ∷ xs) ys old mid new a b c (next, e, moves, free, epoch, more) rest = (next, e, moves, free, epoch, unled_join chunk xs ys next mid new e b c more rest)

    -- a location that was told was looked up on the way
    record PlaceSo (h : History D) (b : Account) (l : Located) : Type 0 where
      listed : is_listed d l.handle ≡ true
      place : slice_get (chunks_at d.names path) l.index ≡ Some l.handle
      first : List Step
      looked_at : History D
      c : Account
      before : Unled l.handle first h0 a0 looked_at c
      found : IsLookedUp c l.handle l.view l.epoch
      rest : List Step
      behind : Unled l.handle rest looked_at c h b

    -- what is told in a world that is reached
    reached_told : (h : History D) (a : Account) → IsReached x h a → IsToldAt seen h.nodes.master a.durable
    reached_told h a r = runs_told x r.steps r.begun h r.first a r.begins.told r.runs

    -- so far
    record Now (before : Pairs) (h : History D) (b : Account) : Type 0 where
      steps : List Step
      runs : Runs x steps h0 a0 h b
      unled : (chunk : ℕ) → is_listed d chunk ≡ true → Unled chunk steps h0 a0 h b
      halted : IsHalted seen d client number h
      places : (l : Located) → WasTold path before l → PlaceSo h b l

    there : (before : Pairs) (h : History D) (b : Account) → Now before h b → IsReached x h b
    there before h b now = reach x now.steps h0 h a0 b reached now.runs

    well : (h : History D) → IsHalted seen d client number h → IsWell x h
    well h halted = record { types = halted.types; steady = halted.lasts }

    further : (h new : History D) (b c : Account) (steps : List Step) → ((chunk : ℕ) → is_listed d chunk ≡ true → Unled chunk steps h b new c) → (l : Located) → PlaceSo h b l → PlaceSo new c l
    further h new b c steps on l p = record {
      listed = p.listed;
      place = p.place;
      first = p.first;
      looked_at = p.looked_at;
      c = p.c;
      before = p.before;
      found = p.found;
      rest = p.rest ++ steps;
      behind = unled_join l.handle p.rest steps p.looked_at h new p.c b c p.behind (on l.handle p.listed);
    }

    -- ---- steps at which the client looks

    record On (before : Pairs) (h : History D) (b : Account) (now : Now before h b) (steps : List Step) (new : History D) : Type 0 where
      c : Account
      runs : Runs x steps h b new c
      unled : (chunk : ℕ) → is_listed d chunk ≡ true → Unled chunk steps h b new c
      next : Now before new c

    go_on : (before : Pairs) (h : History D) (b : Account) (now : Now before h b) (steps : List Step) (new : History D) (runs : RunsTo seen failures unarmed steps h new) → AllByRecursion IsStepWithin steps → AllByRecursion (IsLooking client) steps
        → AreEver seen failures among steps h new runs → On before h b now steps new
    go_on before h b now steps new runs within looking all =
        let acc = accounts_on seen failures config clients disks among given steps h new b (bare_so seen failures config clients disks among steps h new runs within all) (well h now.halted) in
        let on = unled_on seen failures stays config clients disks among d client number steps h new b acc.0 acc.1 looking now.halted in
        record {
          c = acc.0;
          runs = acc.1;
          unled = on.0;
          next = record {
            steps = now.steps ++ steps;
            runs = joined x now.steps steps h0 h new a0 b acc.0 now.runs acc.1;
            unled = λ chunk listed. unled_join chunk now.steps steps h0 h new a0 b acc.0 (now.unled chunk listed) (on.0 chunk listed);
            halted = on.1;
            places = λ l told. further h new b acc.0 steps on.0 l (now.places l told);
          };
        }

    -- what was said further tells no location
    said_on : (before : Pairs) (h : History D) (b : Account) (pair : Request × Reply) → ((l : Located) → pair ≡ (requests.Call (calls.FindForReading path l.index), replies.Answer (answers.Location l.handle l.view l.epoch)) → PlaceSo h b l) → Now before h b → Now (before ++ pair ∷ []) h b
    said_on before h b pair tells now = record {
      steps = now.steps;
      runs = now.runs;
      unled = now.unled;
      halted = now.halted;
      places = λ l told. elim (Contains-push_cases before pair _ told) [
        | inl was ↦ now.places l was
        | inr is ↦ tells l is
      ];
    }

    -- ---- a request with its reply

    -- behind it
    record Behind (before : Pairs) (pair : Request × Reply) (next : History D) : Type 0 where
      is : IsOf file pair.0 pair.1
      c : Account
      now : Now (before ++ pair ∷ []) next c

    module _ (before : Pairs) (h : History D) (b : Account) (now : Now before h b) where
      -- nothing is told by it
      told_none : (request : Request) (reply : Reply) → ((l : Located) (e : Account) (k : History D) → ◌≡◌ {A = Request × Reply} (request, reply) (requests.Call (calls.FindForReading path l.index), replies.Answer (answers.Location l.handle l.view l.epoch)) → PlaceSo k e l) → IsOf file request reply
          → (mid next : History D) (went looks : List Step) (runs : RunsTo seen failures unarmed went h mid) → AllByRecursion IsStepWithin went → AllByRecursion (IsLooking client) went → AreEver seen failures among went h mid runs
          → (runs_then : RunsTo seen failures unarmed looks mid next) → AllByRecursion IsStepWithin looks → AllByRecursion (IsLooking client) looks → AreEver seen failures among looks mid next runs_then → Behind before (request, reply) next
      told_none request reply none is mid next went looks runs within looking all runs_then within_then looking_then all_then =
          let one = go_on before h b now went mid runs within looking all in
          let two = go_on before mid one.c one.next looks next runs_then within_then looking_then all_then in
          record { is = is; c = two.c; now = said_on before next two.c (request, reply) (λ l same. none l two.c next same) two.next }

      -- ---- it has a reply

      module _ (request : Request) (reply : Reply) (mid : History D) (r : HasReply seen failures client h request reply mid) (may : IsLooking client (Comes (asks_at r.moment r.req request))) (next : History D) (looks : Looks seen failures client mid next)
          (all : ReplyAmong seen failures among client h request reply mid r) (all_then : LooksAmong seen failures among client mid next looks) where
        abbrev ask : Step
        ask = Comes (asks_at r.moment r.req request)

        abbrev runs_all : RunsTo seen failures unarmed (ask ∷ r.behind.steps) h mid
        runs_all = (r.asked, (Ok tt, r.happens), r.behind.runs)

        -- whatever it is, the client looks on
        replied : ((l : Located) (e : Account) (k : History D) → ◌≡◌ {A = Request × Reply} (request, reply) (requests.Call (calls.FindForReading path l.index), replies.Answer (answers.Location l.handle l.view l.epoch)) → PlaceSo k e l) → IsOf file request reply → Behind before (request, reply) next
        replied none is = told_none request reply none is mid next (ask ∷ r.behind.steps) looks.steps runs_all (r.asks, r.behind.within) (may, r.behind.looking) all looks.runs looks.within looks.looking all_then

      -- as a call with its answer
      as_answer : (call : Call) (answer : Answer) (mid : History D) → HasReply seen failures client h (requests.Call call) (replies.Answer answer) mid → HasAnswer seen failures unarmed client h call answer mid
      as_answer call answer mid r = record {
        moment = r.moment;
        req = r.req;
        own = r.own;
        asked = r.asked;
        asks = record { node = r.node; there = r.there; fresh = r.fresh; happens = r.happens };
        steps = r.behind.steps;
        runs = r.behind.runs;
        within = (r.asks, r.behind.within);
        looking = r.behind.looking;
        node = r.last;
        there = r.found;
        last = r.number;
        reply = r.has;
      }

      -- ---- a status

      chunks_are : (p : Path) (cs : List ℕ) → fin.get d.names.tree p ≡ Some (File cs) → chunks_at d.names p ≡ cs
      chunks_are p cs is = ap chunks_in is

      status_tells : (answer : Answer) (place : MasterPlace D) → IsStatusOf d place path answer → TellsChunks file answer
      status_tells (answers.Status (statuses.File cs)) place s = sym (chunks_are path (map (λ (c : ChunkStatus). c.handle) cs) (s.file cs refl))
      status_tells (answers.Status statuses.Directory) place s = tt
      status_tells answers.Nothing place s = tt
      status_tells (answers.Path p) place s = tt
      status_tells answers.Absent place s = tt
      status_tells (answers.Names names) place s = tt
      status_tells (answers.Location handle view epoch) place s = tt
      status_tells (answers.Scanned removed forgotten) place s = tt
      status_tells (answers.Copied copied) place s = tt
      status_tells (answers.Epoch epoch) place s = tt
      status_tells (answers.Phase phase epoch) place s = tt

      -- ---- a location

      module _ (answer : Answer) (place : MasterPlace D) (index : ℕ) (p : IsPlaceOf d place path index answer) where
        abbrev found_location : Located
        found_location = record { index = index; handle = p.locates.chunk; view = p.locates.view; epoch = d.epoch }

        chunk_there : slice_get (chunks_at d.names path) index ≡ Some p.locates.chunk
        chunk_there = ap (λ (cs : List ℕ). slice_get cs index) (chunks_are path p.locates.chunks p.file) ∙ p.locates.place

        place_tells : TellsPlace file index answer
        place_tells = subst (TellsPlace file index) (sym p.says) chunk_there

        listed_there : is_listed d p.locates.chunk ≡ true
        listed_there = ap (λ (n : NamesView). is_some (fin.get n.refs p.locates.chunk)) (sym p.by.names) ∙ p.listed

        -- it is told of no other
        location_is : (l : Located) → ◌≡◌ {A = Request × Reply} (requests.Call (calls.FindForReading path index), replies.Answer answer) (requests.Call (calls.FindForReading path l.index), replies.Answer (answers.Location l.handle l.view l.epoch)) → found_location ≡ l
        location_is l same = (λ i. record { index = indexes same i; handle = handles (sym p.says ∙ answer_is same) i; view = views (sym p.says ∙ answer_is same) i; epoch = epochs (sym p.says ∙ answer_is same) i })
          where
            indexes : ◌≡◌ {A = Request × Reply} (requests.Call (calls.FindForReading path index), replies.Answer answer) (requests.Call (calls.FindForReading path l.index), replies.Answer (answers.Location l.handle l.view l.epoch)) → index ≡ l.index
            indexes e = index_of (ap (λ (z : Request × Reply). z.0) e)
              where
                index_of : requests.Call (calls.FindForReading path index) ≡ requests.Call (calls.FindForReading path l.index) → index ≡ l.index
                index_of e = cc

            answer_is : ◌≡◌ {A = Request × Reply} (requests.Call (calls.FindForReading path index), replies.Answer answer) (requests.Call (calls.FindForReading path l.index), replies.Answer (answers.Location l.handle l.view l.epoch)) → answer ≡ answers.Location l.handle l.view l.epoch
            answer_is e = answer_of (ap (λ (z : Request × Reply). z.1) e)
              where
                answer_of : replies.Answer answer ≡ replies.Answer (answers.Location l.handle l.view l.epoch) → answer ≡ answers.Location l.handle l.view l.epoch
                answer_of e = cc

            handles : answers.Location p.locates.chunk p.locates.view d.epoch ≡ answers.Location l.handle l.view l.epoch → p.locates.chunk ≡ l.handle
            handles e = cc

            views : answers.Location p.locates.chunk p.locates.view d.epoch ≡ answers.Location l.handle l.view l.epoch → p.locates.view ≡ l.view
            views e = cc

            epochs : answers.Location p.locates.chunk p.locates.view d.epoch ≡ answers.Location l.handle l.view l.epoch → d.epoch ≡ l.epoch
            epochs e = cc

      module _ (index : ℕ) (answer : Answer) (mid : History D) (r : HasReply seen failures client h (requests.Call (calls.FindForReading path index)) (replies.Answer answer) mid) (next : History D) (looks : Looks seen failures client mid next)
          (all : ReplyAmong seen failures among client h (requests.Call (calls.FindForReading path index)) (replies.Answer answer) mid r) (all_then : LooksAmong seen failures among client mid next looks) where
        abbrev its_ask : Step
        its_ask = Comes (asks_at r.moment r.req (requests.Call (calls.FindForReading path index)))

        l : LooksHalted seen failures unarmed d client number h (calls.FindForReading path index) answer mid (as_answer (calls.FindForReading path index) answer mid r)
        l = looked d client number h mid (calls.FindForReading path index) answer refl now.halted (as_answer (calls.FindForReading path index) answer mid r)

        abbrev p : IsPlaceOf d l.made.now.nodes.master path index answer
        p = l.looks

        abbrev to_now : List Step
        to_now = its_ask ∷ l.made.before

        abbrev from_now : List Step
        from_now = Comes l.made.event ∷ l.made.after

        steps_are : its_ask ∷ r.behind.steps ≡ to_now ++ from_now
        unfolding as_answer
        steps_are = ap (λ (ys : List Step). its_ask ∷ ys) l.made.parts

        within_all : AllByRecursion IsStepWithin (to_now ++ from_now)
        within_all = subst (AllByRecursion IsStepWithin) steps_are (r.asks, r.behind.within)

        looking_all : AllByRecursion (IsLooking client) (to_now ++ from_now)
        looking_all = subst (AllByRecursion (IsLooking client)) steps_are ((refl, (r.own, refl)), r.behind.looking)

        runs_now : RunsTo seen failures unarmed to_now h l.made.now
        unfolding as_answer
        runs_now = (r.asked, (Ok tt, r.happens), l.made.first)

        all_now : AreEver seen failures among to_now h l.made.now runs_now
        unfolding as_answer runs_now
        all_now = (all.0, ever_before seen failures among r.behind.steps r.asked mid r.behind.runs all.1 r.req (calls.FindForReading path index) answer l.made l.on_the_way)

        one : On before h b now to_now l.made.now
        one = go_on before h b now to_now l.made.now runs_now (all_front IsStepWithin to_now from_now within_all) (all_front (IsLooking client) to_now from_now looking_all) all_now

        abbrev runs_mid : RunsTo seen failures unarmed from_now l.made.now mid
        runs_mid = (l.made.next, (l.made.said, l.made.happens), l.made.rest)

        all_mid : AreEver seen failures among from_now l.made.now mid runs_mid
        unfolding as_answer
        all_mid = (among_behind seen failures among r.behind.steps r.asked mid r.behind.runs all.1 r.req (calls.FindForReading path index) answer l.made l.on_the_way, ever_after seen failures among r.behind.steps r.asked mid r.behind.runs all.1 r.req (calls.FindForReading path index) answer l.made l.on_the_way)

        two : On before l.made.now one.c one.next from_now mid
        two = go_on before l.made.now one.c one.next from_now mid runs_mid (all_back IsStepWithin to_now from_now within_all) (all_back (IsLooking client) to_now from_now looking_all) all_mid

        three : On before mid two.c two.next looks.steps next
        three = go_on before mid two.c two.next looks.steps next looks.runs looks.within looks.looking all_then

        -- what is told there is what the master keeps
        told_there : IsToldAt seen l.made.now.nodes.master one.c.durable
        told_there = reached_told l.made.now one.c (there before l.made.now one.c one.next)

        durable_is : one.c.durable ≡ p.by.durable
        durable_is = told_at_once seen l.made.now.nodes.master one.c.durable p.by.durable told_there (told_stands seen failures l.made.now.nodes.master p.by.durable p.by.stands)

        phase_is : p.by.durable.phase ≡ d.phase
        phase_is = ap (λ (e : Durable). e.phase) (sym p.by.stands.keeps) ∙ (subst (StandsStillAt d client number) p.by.stands.stands l.met.still.master).phase

        is_found : IsLookedUp one.c p.locates.chunk p.locates.view d.epoch
        is_found = record {
          listed = ap (λ (e : Durable). is_listed e p.locates.chunk) durable_is ∙ p.listed;
          settled = ap (λ (e : Durable). view_in (fin.get e.chunks p.locates.chunk)) durable_is ∙ p.locates.settled;
          now = ap (λ (e : Durable). e.epoch) durable_is ∙ p.by.epoch;
          calm = ap (λ (e : Durable). is_rolling e.phase) durable_is ∙ ap is_rolling phase_is ∙ calm;
        }

        place_so : PlaceSo next three.c (found_location answer l.made.now.nodes.master index p)
        unfolding go_on one
        place_so = (let listed = listed_there answer l.made.now.nodes.master index p in record {
          listed = listed;
          place = chunk_there answer l.made.now.nodes.master index p;
          first = now.steps ++ to_now;
          looked_at = l.made.now;
          c = one.c;
          before = one.next.unled p.locates.chunk listed;
          found = is_found;
          rest = from_now ++ looks.steps;
          behind = unled_join p.locates.chunk from_now looks.steps l.made.now mid next one.c two.c three.c (two.unled p.locates.chunk listed) (three.unled p.locates.chunk listed);
        })

        located_so : Behind before (requests.Call (calls.FindForReading path index), replies.Answer answer) next
        located_so = record {
          is = λ same. place_tells answer l.made.now.nodes.master index p;
          c = three.c;
          now = said_on before next three.c (requests.Call (calls.FindForReading path index), replies.Answer answer) (λ k same. subst (PlaceSo next three.c) (location_is answer l.made.now.nodes.master index p k same) place_so) three.next;
        }

      -- ---- a part of a chunk

      module _ (to handle : ℕ) (stamp : Stamp) (epoch : ℕ) (want : Asked) (part : Given) (mid : History D) (r : HasReply seen failures client h (requests.Fetch to handle stamp epoch want) (replies.Given part) mid) (u : IsUnder path before to handle stamp epoch) (next : History D)
          (looks : Looks seen failures client mid next) (all : ReplyAmong seen failures among client h (requests.Fetch to handle stamp epoch want) (replies.Given part) mid r) (all_then : LooksAmong seen failures among client mid next looks) where
        abbrev fetch_ask : Step
        fetch_ask = Comes (asks_at r.moment r.req (requests.Fetch to handle stamp epoch want))

        abbrev runs_asked : RunsTo seen failures unarmed (fetch_ask ∷ []) h r.asked
        runs_asked = (r.asked, (Ok tt, r.happens), refl)

        asked_on : On before h b now (fetch_ask ∷ []) r.asked
        asked_on = go_on before h b now (fetch_ask ∷ []) r.asked runs_asked (r.asks, tt) ((refl, tt), tt) (all.0, tt)

        replied_on : On before r.asked asked_on.c asked_on.next r.behind.steps mid
        replied_on = go_on before r.asked asked_on.c asked_on.next r.behind.steps mid r.behind.runs r.behind.within r.behind.looking all.1

        looked_on : On before mid replied_on.c replied_on.next looks.steps next
        looked_on = go_on before mid replied_on.c replied_on.next looks.steps next looks.runs looks.within looks.looking all_then

        asked_moves : Moves x fetch_ask h b r.asked asked_on.c
        asked_moves = subst (λ (k : History D). Moves x fetch_ask h b k asked_on.c) (sym asked_on.runs.3.0) (subst (λ (e : Account). Moves x fetch_ask h b asked_on.runs.0 e) (sym asked_on.runs.3.1) asked_on.runs.2)

        w : WasGiven x r.behind.steps r.asked asked_on.c mid replied_on.c r.req to handle stamp epoch want part
        w = given_parts (λ disk call place. refl) h r.asked mid b asked_on.c replied_on.c r.moment r.req to handle stamp epoch want r.behind.steps r.last part (there before h b now) (record { node = r.node; there = r.there; fresh = r.fresh; moves = asked_moves; happens = r.happens }) replied_on.runs
            (subst (λ k. client_in mid.nodes.clients k ≡ Some r.last) (sym r.own) r.found) r.number r.has

        -- the location
        abbrev k : Located
        k = u.location

        p_so : PlaceSo h b k
        p_so = now.places k u.told

        looking_now : AllByRecursion (IsLooking client) w.before
        looking_now = all_front (IsLooking client) w.before (Comes w.event ∷ w.after) (subst (AllByRecursion (IsLooking client)) w.parts r.behind.looking)

        -- up to the event at which it is given
        to_event : Unled k.handle w.before r.asked asked_on.c w.now w.c
        to_event = (unled_on seen failures stays config clients disks among d client number w.before r.asked w.now asked_on.c w.c w.first looking_now asked_on.next.halted).0 k.handle p_so.listed

        abbrev way : List Step
        way = p_so.rest ++ ((fetch_ask ∷ []) ++ w.before)

        on_the_way : Unled k.handle way p_so.looked_at p_so.c w.now w.c
        on_the_way = unled_join k.handle p_so.rest ((fetch_ask ∷ []) ++ w.before) p_so.looked_at h w.now p_so.c b w.c p_so.behind (unled_join k.handle (fetch_ask ∷ []) w.before h r.asked w.now b asked_on.c w.c (asked_on.unled k.handle p_so.listed) to_event)

        fetches : IsFetch w.now.sent w.event k.handle k.view k.epoch r.req want
        fetches = (w.id, w.message, to, w.comes, w.was, w.to_it, u.member, w.asks ∙ (λ i. bodies.About (u.chunk i) (chunks.Fetch r.req (u.under i) (u.within i) want)))

        reads : ReadsUnled x h0 a0 k.handle want part
        reads = record {
          first = p_so.first;
          looked = p_so.looked_at;
          c = p_so.c;
          before = subst (λ e. RunsUnled x k.handle e p_so.first h0 a0 p_so.looked_at p_so.c) (sym (ap (λ (e : Durable). e.epoch) has)) p_so.before;
          view = k.view;
          epoch = k.epoch;
          is = p_so.found;
          rest = way;
          now = w.now;
          b = w.c;
          behind = subst (λ e. RunsUnled x k.handle e way p_so.looked_at p_so.c w.now w.c) (sym (ap (λ (e : Durable). e.epoch) has)) on_the_way;
          event = w.event;
          said = w.said;
          next = w.next;
          happens = w.happens;
          req = r.req;
          fetch = fetches;
          gives = w.gives;
        }

        told0 : IsToldAt seen h0.nodes.master a0.durable
        told0 = reached_told h0 a0 reached

        part_so : part ≡ part_of file.block (file.text handle) want
        part_so =
            of_unled h0 a0 k.handle want part reached (ap (λ (e : Durable). is_listed e k.handle) has ∙ p_so.listed) (ap (λ (e : Durable). is_rolling e.phase) has ∙ calm)
            (unled_there seen failures stays config clients disks among d client number h0 a0 told0 halted0 k.handle p_so.listed) reads
            ∙ part_is file.block (file.text k.handle) want ∙ ap (λ c. part_of file.block (file.text c) want) (sym u.chunk)

        fetched_so : Behind before (requests.Fetch to handle stamp epoch want, replies.Given part) next
        fetched_so = record { is = part_so; c = looked_on.c; now = said_on before next looked_on.c (requests.Fetch to handle stamp epoch want, replies.Given part) (λ l same. absurd (never l (ap (λ (z : Request × Reply). z.0) same))) looked_on.next }
          where
            never : (l : Located) → requests.Fetch to handle stamp epoch want ≡ requests.Call (calls.FindForReading path l.index) → ⊥
            never l e = cc

      -- ---- any

      never_fetch : {Z : Type 0} (to handle : ℕ) (stamp : Stamp) (epoch : ℕ) (want : Asked) (reply : Reply) (l : Located) → ◌≡◌ {A = Request × Reply} (requests.Fetch to handle stamp epoch want, reply) (requests.Call (calls.FindForReading path l.index), replies.Answer (answers.Location l.handle l.view l.epoch)) → Z
      never_fetch to handle stamp epoch want reply l same = absurd (never (ap (λ (z : Request × Reply). z.0) same))
        where
          never : requests.Fetch to handle stamp epoch want ≡ requests.Call (calls.FindForReading path l.index) → ⊥
          never e = cc

      never_status : {Z : Type 0} (p : Path) (reply : Reply) (l : Located) → ◌≡◌ {A = Request × Reply} (requests.Call (calls.Status p), reply) (requests.Call (calls.FindForReading path l.index), replies.Answer (answers.Location l.handle l.view l.epoch)) → Z
      never_status p reply l same = absurd (never (ap (λ (z : Request × Reply). z.0) same))
        where
          never : requests.Call (calls.Status p) ≡ requests.Call (calls.FindForReading path l.index) → ⊥
          never e = cc

      never_reply : {Z : Type 0} (request : Request) (reply : Reply) → ((answer : Answer) → reply ≡ replies.Answer answer → ⊥) → (l : Located) → ◌≡◌ {A = Request × Reply} (request, reply) (requests.Call (calls.FindForReading path l.index), replies.Answer (answers.Location l.handle l.view l.epoch)) → Z
      never_reply request reply none l same = absurd (none (answers.Location l.handle l.view l.epoch) (ap (λ (z : Request × Reply). z.1) same))

      -- of such steps alone
      only_looked : (request : Request) (reply : Reply) → ((answer : Answer) → reply ≡ replies.Answer answer → ⊥) → IsOf file request reply → (mid next : History D) (went : Looks seen failures client h mid) (looks : Looks seen failures client mid next)
          → LooksAmong seen failures among client h mid went → LooksAmong seen failures among client mid next looks → Behind before (request, reply) next
      only_looked request reply none is mid next went looks all all_then = told_none request reply (λ l e k same. never_reply request reply none l same) is mid next went.steps looks.steps went.runs went.within went.looking all looks.runs looks.within looks.looking all_then

      refused_of : (request : Request) (refusal : Refusal) → IsOf file request (replies.Refused refusal)
      refused_of (requests.Call (calls.Status p)) refusal = tt
      refused_of (requests.Call (calls.FindForReading p index)) refusal = tt
      refused_of (requests.Fetch to handle stamp epoch asked) refusal = tt
      refused_of request refusal = tt

      lost_of : (request : Request) → IsOf file request replies.Lost
      lost_of (requests.Call (calls.Status p)) = tt
      lost_of (requests.Call (calls.FindForReading p index)) = tt
      lost_of (requests.Fetch to handle stamp epoch asked) = tt
      lost_of request = tt

      by_pair : (request : Request) (reply : Reply) (mid next : History D) (went : Went seen failures client h request reply mid) (looks : Looks seen failures client mid next) → MayAsk path before request
          → WentAmong seen failures among client h request reply mid went → LooksAmong seen failures among client mid next looks → Behind before (request, reply) next
      by_pair (requests.Call (calls.Status p)) (replies.Answer answer) mid next went looks may all all_then =
          replied (requests.Call (calls.Status p)) (replies.Answer answer) mid went (refl, (went.own, refl)) next looks all all_then (λ l e k same. never_status p (replies.Answer answer) l same) (λ same.
          let l = looked d client number h mid (calls.Status p) answer refl now.halted (as_answer (calls.Status p) answer mid went) in
          status_tells answer l.made.now.nodes.master (subst (λ q. IsStatusOf d l.made.now.nodes.master q answer) may l.looks))
      by_pair (requests.Call (calls.FindForReading p index)) (replies.Answer answer) mid next went looks may all all_then = at_path p (sym may) went all
        where
          at_path : (q : Path) → path ≡ q → (went : HasReply seen failures client h (requests.Call (calls.FindForReading q index)) (replies.Answer answer) mid)
              → ReplyAmong seen failures among client h (requests.Call (calls.FindForReading q index)) (replies.Answer answer) mid went → Behind before (requests.Call (calls.FindForReading q index), replies.Answer answer) next
          at_path q is = subst (λ (q : Path). (went : HasReply seen failures client h (requests.Call (calls.FindForReading q index)) (replies.Answer answer) mid)
              → ReplyAmong seen failures among client h (requests.Call (calls.FindForReading q index)) (replies.Answer answer) mid went → Behind before (requests.Call (calls.FindForReading q index), replies.Answer answer) next) is
              (λ went all. located_so index answer mid went next looks all all_then)
      by_pair (requests.Fetch to handle stamp epoch want) (replies.Given part) mid next went looks may all all_then = fetched_so to handle stamp epoch want part mid went may next looks all all_then
      by_pair (requests.Fetch to handle stamp epoch want) (replies.Answer answer) mid next went looks may all all_then =
          replied (requests.Fetch to handle stamp epoch want) (replies.Answer answer) mid went (refl, tt) next looks all all_then (λ l e k same. never_fetch to handle stamp epoch want (replies.Answer answer) l same) tt
      by_pair (requests.Call (calls.Status p)) (replies.Given part) mid next went looks may all all_then =
          replied (requests.Call (calls.Status p)) (replies.Given part) mid went (refl, (went.own, refl)) next looks all all_then (λ l e k same. never_status p (replies.Given part) l same) tt
      by_pair (requests.Call (calls.FindForReading p index)) (replies.Given part) mid next went looks may all all_then =
          replied (requests.Call (calls.FindForReading p index)) (replies.Given part) mid went (refl, (went.own, refl)) next looks all all_then (λ l e k same. never_reply (requests.Call (calls.FindForReading p index)) (replies.Given part) (λ answer e. cc) l same) tt
      by_pair request (replies.Outcome outcome) mid next went looks may all all_then = only_looked request (replies.Outcome outcome) (λ answer e. cc) (outcome_of request) mid next went looks all all_then
        where
          outcome_of : (request : Request) → IsOf file request (replies.Outcome outcome)
          outcome_of (requests.Call (calls.Status p)) = tt
          outcome_of (requests.Call (calls.FindForReading p index)) = tt
          outcome_of (requests.Fetch to handle stamp epoch asked) = tt
          outcome_of request = tt
      by_pair request (replies.Refused refusal) mid next went looks may all all_then = only_looked request (replies.Refused refusal) (λ answer e. cc) (refused_of request refusal) mid next went looks all all_then
      by_pair request replies.Lost mid next went looks may all all_then = only_looked request replies.Lost (λ answer e. cc) (lost_of request) mid next went looks all all_then
      by_pair request reply mid next went looks may all all_then = absurd may

    -- ---- all of them

    all_of : (before pairs : Pairs) (h new : History D) (b : Account) (now : Now before h b) (e : Exchanged seen failures client pairs h new) → AskSo path before pairs → ExchangedAmong seen failures among client pairs h new e → AreOf file pairs
    all_of before [] h new b now e asks all = tt
    all_of before (pair ∷ pairs) h new b now (mid, next, went, looks, others) asks all =
        let one = by_pair before h b now pair.0 pair.1 mid next went looks asks.0 all.0 all.1 in
        (one.is, all_of (before ++ pair ∷ []) pairs next new one.c one.now others asks.1 all.2)

    pub are_of : (pairs : Pairs) (steps : List Step) (h new : History D) (b : Account) → Runs x steps h0 a0 h b → AllByRecursion (IsLooking client) steps → (e : Exchanged seen failures client pairs h new) → AskSo path [] pairs
        → ExchangedAmong seen failures among client pairs h new e → AreOf file pairs
    are_of pairs steps h new b runs looking e asks all =
        let on = unled_on seen failures stays config clients disks among d client number steps h0 h a0 b runs looking halted0 in
        all_of [] pairs h new b (record { steps = steps; runs = runs; unled = on.0; halted = on.1; places = λ l told. absurd (none_told l told) }) e asks all
      where
        none_told : (l : Located) → WasTold path [] l → ⊥
        none_told l told = none_there _ told
