-- What is looked up and fetched of a file, as dialogues: what holds before holds after them, and none is refused by what the tree refuses by.
use Rattle.std.proofs.Common.{inl, inr, refl, subst, sym, ◌%◌, ◌*◌, ◌+◌, ◌++◌, ◌-◌, ◌/◌, ◌==◌, ◌∷◌, ◌≡◌, ◌⊎◌, Bool, Err, List, None, Ok, Option, Result, Some, false, if◌then◌else◌, min, nat_le, suc, true, zero, ℕ}
use Rattle.std.specs.Prelude.{[], length, nat_lt}
use Rattle.gs_base.specs.declared.refusal.Refusal.{Refusal}
use Rattle.gs_base.specs.declared.refusal.Refusal.TheVariants as refusals
use Rattle.gs_client.specs.Looking.{anew_call, count_in, fetch_call, find_call, members_call, round_call}
use Rattle.gs_client.specs.Reading.{digest_call, end_call, length_call, piece_bytes, piece_call, pieces_call, read_call, stored_call, within}
use Rattle.gs_client.specs.Replies.{bytes_in, digest_in, given, length_in, located_in, looked}
use Rattle.gs_client.specs.Trees.{Call, and_then}
use Rattle.gs_client.specs.declared.link.Reply.{Reply}
use Rattle.gs_client.specs.declared.link.Reply.TheVariants as replies
use Rattle.gs_client.specs.declared.reading.Stat.TheVariants as stats
use Rattle.gs_client_dialogue.specs.Dialogues.{Ask, FollowsDialogue, Grow, Say, both, onward, otherwise, upon}
use Rattle.gs_client_part.specs.Fetching.{fetch_of}
use Rattle.gs_client_part.specs.Reading.{piece_end, span}
use Rattle.gs_client_part.specs.Writing.{most_chunks}
use Rattle.gs_client_part.specs.declared.located.Located.{Located}
use Rattle.gs_laws_chunks.specs.answers.OfTree.{is_of_tree}
use Rattle.gs_msg.specs.declared.answer.Answer.{Answer as Said}
use Rattle.gs_msg.specs.declared.answer.Answer.TheVariants as says
use Rattle.gs_msg.specs.declared.answer.ChunkStatus.{ChunkStatus}
use Rattle.gs_msg.specs.declared.body.Given.{Given}
use Rattle.gs_msg.specs.declared.body.Given.TheVariants as givens
use Rattle.gs_msg.specs.declared.call.Call.TheVariants as calls
use Rattle.gs_msg.specs.declared.chunk.Asked.{Asked}
use Rattle.gs_msg.specs.declared.chunk.Asked.TheVariants as asks
use Rattle.gs_msg.specs.declared.event.Request.{Request}
use Rattle.gs_msg.specs.declared.event.Request.TheVariants as requests
use Rattle.gs_path.specs.Path.{Path}
use Rattle.gs_laws_scripts.proofs.lemmas.explained.Fetched.{SparesGiven}
use Rattle.gs_laws_scripts.proofs.lemmas.explained.Following.{both_splits}

-- a result is no refusal by the tree
abbrev pub Spares : {A : Type 0} → Result A Refusal → Type 0
Spares (Ok x) = Unit {0}
Spares (Err refusal) = is_of_tree refusal ≡ false

-- ---- what replies say

located_spares : (index : ℕ) (said : Said) → Spares (located_in index said)
located_spares index (says.Location handle view epoch) = tt
located_spares index said = refl

placed_spares : (index : ℕ) (said : Result Said Refusal) → Spares said → Spares (and_then (located_in index) said)
placed_spares index (Ok said) spares = located_spares index said
placed_spares index (Err refusal) spares = spares

length_spares : (g : Given) → Spares (length_in g)
length_spares (givens.Length many) = tt
length_spares g = refl

digest_spares : (g : Given) → Spares (digest_in g)
digest_spares (givens.Digest digest) = tt
digest_spares g = refl

either_spares : {A : Type 0} (b : Bool) (x y : Result A Refusal) → Spares x → Spares y → Spares (if b then x else y)
either_spares true x y first second = first
either_spares false x y first second = second

bytes_spares : (asked : Asked) (g : Given) → Spares (bytes_in asked g)
bytes_spares (asks.Bytes offset many) (givens.Bytes bytes) = either_spares (nat_le (length bytes) many) (Ok bytes) (Err refusals.Stray) tt refl
bytes_spares asked g = refl

module _ {S : Type 0} (carries : S → Request → Reply → S → Type 0) (Holds : S → Type 0) where
  -- what it comes to spares the tree, and what holds before holds after it
  abbrev pub Goes : {A : Type 0} → Call A → Type 0
  Goes {A} call = (old new : S) (r : Result A Refusal) → Holds old → FollowsDialogue carries call old r new → Holds new × Spares r

  pub say_goes : {A : Type 0} (said : Result A Refusal) → Spares said → Goes (Say said)
  say_goes said spares old new r holds (is, same) = (subst Holds (sym same) holds, subst Spares (sym is) spares)

  both_goes : {A B : Type 0} (call : Call A) (go : A → Call B) → Goes call → ((x : A) → Goes (go x)) → Goes (both call go)
  both_goes {A} {B} call go first second old new r holds h = (let s = both_splits carries call go old new r h in by_result s.0 s.1 (first old s.1 s.0 holds s.2) s.3)
    where
      by_result : (x : Result A Refusal) (mid : S) → Holds mid × Spares x → FollowsDialogue carries (onward go x) mid r new → Holds new × Spares r
      by_result (Ok x) mid (there, spares) rest = second x mid new r there rest
      by_result (Err refusal) mid (there, spares) rest = say_goes (Err refusal) spares mid new r there rest

  grow_goes : {A : Type 0} (call : Call A) → Goes call → Goes (Grow call)
  grow_goes call goes old new r holds (inl rest) = goes old new r holds rest
  grow_goes call goes old new r holds (inr (is, same)) = say_goes (Err refusals.Memory) refl old new r holds (is, same)

  if_goes : {A : Type 0} (b : Bool) (x y : Call A) → Goes x → Goes y → Goes (if b then x else y)
  if_goes true x y first second = first
  if_goes false x y first second = second

  -- a call that goes on by what another came to: or memory is wanting
  upon_splits : {A B : Type 0} (call : Call A) (go : Result A Refusal → Call B) (old new : S) (y : Result B Refusal) → FollowsDialogue carries (upon call go) old y new
      → ((r : Result A Refusal) × (mid : S) × FollowsDialogue carries call old r mid × FollowsDialogue carries (go r) mid y new) ⊎ ((y ≡ Err refusals.Memory) × FollowsDialogue carries call old (Err refusals.Memory) new)
  upon_splits (Say r) go old new y h = inl (r, old, (refl, refl), h)
  upon_splits (Ask request more) go old new y (reply, mid, one, rest) = elim (upon_splits (more reply) go mid new y rest) [
    | inl s ↦ inl (s.0, s.1, (reply, mid, one, s.2), s.3)
    | inr short ↦ inr (short.0, (reply, mid, one, short.1))
  ]
  upon_splits (Grow call) go old new y (inl goes) = elim (upon_splits call go old new y goes) [
    | inl s ↦ inl (s.0, s.1, inl s.2, s.3)
    | inr short ↦ inr (short.0, inl short.1)
  ]
  upon_splits (Grow call) go old new y (inr (is, same)) = inr (is, inr (refl, same))

  upon_goes : {A B : Type 0} (call : Call A) (go : Result A Refusal → Call B) → Goes call → ((x : Result A Refusal) → Spares x → Goes (go x)) → Goes (upon call go)
  upon_goes {A} {B} call go first second old new r holds h = elim (upon_splits call go old new r h) [
    | inl s ↦ (let there = first old s.1 s.0 holds s.2 in second s.0 there.1 s.1 new r there.0 s.3)
    | inr short ↦ (let there = first old new (Err refusals.Memory) holds short.1 in (there.0, subst Spares (sym short.0) there.1))
  ]

  -- ---- members

  module _ (fetches : (old new : S) (reply : Reply) (l : Located) (asked : Asked) (member : ℕ) → Holds old → carries old (fetch_of l asked member) reply new → Holds new × SparesGiven reply) where
    members_go : (l : Located) (asked : Asked) (members : List ℕ) (last : Refusal) → is_of_tree last ≡ false → Goes (members_call l asked members last)
    members_go l asked [] last fine old new r holds h = say_goes (Err last) fine old new r holds h
    members_go l asked (member ∷ members) last fine old new r holds (reply, mid, one, rest) =
        let f = fetches old mid reply l asked member holds one in by_reply reply f.1 f.0 rest (λ refusal spares there goes. members_go l asked members refusal spares mid new r there goes)
      where
        by_reply : (reply : Reply) → SparesGiven reply → Holds mid → FollowsDialogue carries (otherwise (members_call l asked members) (given last reply)) mid r new
            → ((refusal : Refusal) → is_of_tree refusal ≡ false → Holds mid → FollowsDialogue carries (members_call l asked members refusal) mid r new → Holds new × Spares r) → Holds new × Spares r
        by_reply (replies.Given g) spares there rest more = say_goes (Ok g) tt mid new r there rest
        by_reply (replies.Refused refusal) spares there rest more = more refusal spares there rest
        by_reply replies.Lost spares there rest more = more last fine there rest
        by_reply (replies.Answer answer) spares there rest more = more refusals.Stray refl there rest
        by_reply (replies.Outcome outcome) spares there rest more = more refusals.Stray refl there rest

    round_goes : (l : Located) (asked : Asked) → Goes (round_call l asked)
    round_goes l asked = both_goes (members_call l asked l.view.members refusals.NoReplica) (λ g. Say (Ok (g, l))) (members_go l asked l.view.members refusals.NoReplica refl) (λ g. say_goes (Ok (g, l)) tt)

    -- ---- a file

    module _ (p : Path) (finds : (index : ℕ) (old new : S) (reply : Reply) → Holds old → carries old (requests.Call (calls.FindForReading p index)) reply new → Holds new × Spares (looked reply)) where
      asked_goes : (index : ℕ) → Goes (Ask (requests.Call (calls.FindForReading p index)) (λ reply. Say (and_then (located_in index) (looked reply))))
      asked_goes index old new r holds (reply, mid, one, rest) =
          let f = finds index old mid reply holds one in say_goes (and_then (located_in index) (looked reply)) (placed_spares index (looked reply) f.1) mid new r f.0 rest

      find_goes : (index : ℕ) → Goes (find_call p index)
      find_goes index = grow_goes (Ask (requests.Call (calls.FindForReading p index)) (λ reply. Say (and_then (located_in index) (looked reply)))) (asked_goes index)

      anew_goes : (index : ℕ) (asked : Asked) → Goes (anew_call p index asked)
      anew_goes index asked = both_goes (find_call p index) (λ l. round_call l asked) (find_goes index) (λ l. round_goes l asked)

      or_anew_goes : (index : ℕ) (asked : Asked) (x : Result (Given × Located) Refusal) → Spares x → Goes (otherwise (λ refusal. anew_call p index asked) x)
      or_anew_goes index asked (Ok found) spares = say_goes (Ok found) tt
      or_anew_goes index asked (Err refusal) spares = anew_goes index asked

      fetch_goes : (known : Option Located) (index : ℕ) (asked : Asked) → Goes (fetch_call p known index asked)
      fetch_goes None index asked = anew_goes index asked
      fetch_goes (Some l) index asked =
          if_goes (l.index == index) (upon (round_call l asked) (otherwise (λ refusal. anew_call p index asked))) (anew_call p index asked)
          (upon_goes (round_call l asked) (otherwise (λ refusal. anew_call p index asked)) (round_goes l asked) (or_anew_goes index asked)) (anew_goes index asked)

      -- ---- how long it is, and what is read

      module _ (size : ℕ) where
        many_goes : (last : ℕ) (l : Located) (many : ℕ) → Goes {A = ℕ × Option Located} (both (Say (within size many)) (λ many. Say (Ok (last * size + many, Some l))))
        many_goes last l many = both_goes (Say (within size many)) (λ many. Say (Ok (last * size + many, Some l))) (say_goes (within size many) (either_spares (nat_le many size) (Ok many) (Err refusals.Stray) tt refl)) (λ many. say_goes (Ok (last * size + many, Some l)) tt)

        told_goes : (last : ℕ) (f : Given × Located) → Goes {A = ℕ × Option Located} (both (Say (length_in f.0)) (λ many. both (Say (within size many)) (λ many. Say (Ok (last * size + many, Some f.1)))))
        told_goes last f = both_goes (Say (length_in f.0)) (λ many. both (Say (within size many)) (λ many. Say (Ok (last * size + many, Some f.1)))) (say_goes (length_in f.0) (length_spares f.0)) (λ many. many_goes last f.1 many)

        pub length_goes : (known : Option Located) (count : ℕ) → Goes (length_call size p known count)
        length_goes known zero = say_goes (Ok (0, known)) tt
        length_goes known (suc last) =
            both_goes (fetch_call p known last asks.Length) (λ f. both (Say (length_in f.0)) (λ many. both (Say (within size many)) (λ many. Say (Ok (last * size + many, Some f.1))))) (fetch_goes known last asks.Length) (λ f. told_goes last f)

        end_goes : (known : Option Located) (chunks offset many : ℕ) → Goes (end_call size p known chunks offset many)
        end_goes known chunks offset many =
            if_goes (nat_le (offset + many) ((chunks - 1) * size)) (Say (Ok (offset + many, known))) (both (length_call size p known chunks) (λ l. if nat_lt l.0 offset then Say (Err refusals.Range) else Say (Ok (min (offset + many) l.0, l.1)))) (say_goes (Ok (offset + many, known)) tt)
            (both_goes (length_call size p known chunks) (λ l. if nat_lt l.0 offset then Say (Err refusals.Range) else Say (Ok (min (offset + many) l.0, l.1))) (length_goes known chunks)
            (λ l. if_goes (nat_lt l.0 offset) (Say (Err refusals.Range)) (Say (Ok (min (offset + many) l.0, l.1))) (say_goes (Err refusals.Range) refl) (say_goes (Ok (min (offset + many) l.0, l.1)) tt)))

        stored_goes : (known : Option Located) (index : ℕ) (asked : Asked) → Goes (stored_call p known index asked)
        stored_goes known index asked =
            both_goes (fetch_call p known index asked) (λ f. both (Say (bytes_in asked f.0)) (λ bytes. Say (Ok (bytes, f.1)))) (fetch_goes known index asked)
            (λ f. both_goes (Say (bytes_in asked f.0)) (λ bytes. Say (Ok (bytes, f.1))) (say_goes (bytes_in asked f.0) (bytes_spares asked f.0)) (λ bytes. say_goes (Ok (bytes, f.1)) tt))

        piece_goes : (known : Option Located) (chunks index start many : ℕ) → Goes (piece_call p known chunks index start many)
        piece_goes known chunks index start many =
            both_goes (stored_call p known index (asks.Bytes start many)) (λ s. Say (Ok (piece_bytes chunks index many s.0, s.1))) (stored_goes known index (asks.Bytes start many)) (λ s. say_goes (Ok (piece_bytes chunks index many s.0, s.1)) tt)

        pieces_go : (chunks end : ℕ) (known : Option Located) (index start count : ℕ) (read : List ℕ) → Goes (pieces_call size p chunks end known index start count read)
        pieces_go chunks end known index start zero read = say_goes (Ok (read, known)) tt
        pieces_go chunks end known index start (suc count) read =
            both_goes (piece_call p known chunks index start (piece_end size end index - start)) (λ s. Grow (pieces_call size p chunks end (Some s.1) (index + 1) 0 count (read ++ s.0))) (piece_goes known chunks index start (piece_end size end index - start))
            (λ s. grow_goes (pieces_call size p chunks end (Some s.1) (index + 1) 0 count (read ++ s.0)) (pieces_go chunks end (Some s.1) (index + 1) 0 count (read ++ s.0)))

        pub read_goes : (chunks offset many : ℕ) → Goes (read_call size p (Some chunks) None offset many)
        read_goes chunks offset many =
            both_goes (end_call size p None chunks offset many) (λ e. pieces_call size p chunks e.0 e.1 (offset / size) (offset % size) (span size offset e.0) []) (end_goes None chunks offset many)
            (λ e. pieces_go chunks e.0 e.1 (offset / size) (offset % size) (span size offset e.0) [])

        -- what is told of a file
        pub file_goes : (chunks : List ChunkStatus) → Goes (both (Say (count_in chunks)) (λ count. both (length_call size p None count) (λ l. Say (Ok (stats.File l.0 chunks)))))
        file_goes chunks =
            both_goes (Say (count_in chunks)) (λ count. both (length_call size p None count) (λ l. Say (Ok (stats.File l.0 chunks)))) (say_goes (count_in chunks) (either_spares (nat_le (length chunks) most_chunks) (Ok (length chunks)) (Err refusals.Stray) tt refl))
            (λ count. both_goes (length_call size p None count) (λ l. Say (Ok (stats.File l.0 chunks))) (length_goes None count) (λ l. say_goes (Ok (stats.File l.0 chunks)) tt))

      pub digest_goes : (chunks index block : ℕ) → Goes (digest_call p (Some chunks) None index block)
      digest_goes chunks index block =
          both_goes (fetch_call p None index (asks.Digest block)) (λ f. both (Say (digest_in f.0)) (λ digest. Say (Ok (digest, Some f.1)))) (fetch_goes None index (asks.Digest block))
          (λ f. both_goes (Say (digest_in f.0)) (λ digest. Say (Ok (digest, Some f.1))) (say_goes (digest_in f.0) (digest_spares f.0)) (λ digest. say_goes (Ok (digest, Some f.1)) tt))
