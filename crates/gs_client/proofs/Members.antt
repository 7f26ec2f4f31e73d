-- Members, one after another, and the ways of a look-up.
use Rattle.std.proofs.Common.{◌==◌, Option, Some, ◌≡◌, ◌∷◌, ◌∙◌, ℕ, List, [], Result, Ok, Err, true, cond, refl, sym, subst}
use Rattle.gs_base.specs.declared.refusal.Refusal.{Refusal}
use Rattle.gs_path.specs.Path.{Path}
use Rattle.gs_client_dialogue.proofs.Talks.{follows_upon}
use Rattle.gs_client_dialogue.specs.Dialogues.{Dialogue, onward, Say, Ask, Grow, FollowsDialogue, Leads, upon, otherwise}
use Rattle.gs_msg.specs.declared.body.Given.{Given}
use Rattle.gs_msg.specs.declared.chunk.Asked.{Asked}
use Rattle.gs_msg.specs.declared.event.Request.{Request}
use Rattle.gs_client.specs.declared.link.Reply.{Reply}
use Rattle.gs_client_part.specs.declared.located.Located.{Located}
use Rattle.gs_client.specs.Replies.{given}
use Rattle.gs_client.specs.Trees.{Call}
use Rattle.gs_client_part.specs.Fetching.{fetch_of}
use Rattle.gs_client.specs.Looking.{members_call, round_call, anew_call, fetch_call}

module _ {S : Type 0} (carries : S → Request → Reply → S → Type 0) (l : Located) (asked : Asked) (whole : Call Given) (old now new : S) where
  -- one member answered
  pub member_answers : (member : ℕ) (left rest : List ℕ) (last : Refusal) (reply : Reply) (result : Result Given Refusal) (x : Given)
      → Leads carries whole old (members_call l asked left last) now → left ≡ member ∷ rest
      → carries now (fetch_of l asked member) reply new → result ≡ given last reply → result ≡ Ok x → FollowsDialogue carries whole old (Ok x) new
  member_answers member left rest last reply result x leads next carried told is =
      leads (Ok x) new (subst (λ (ms : List ℕ). FollowsDialogue carries (members_call l asked ms last) now (Ok x) new) (sym next)
      (reply, new, carried, subst (λ (r : Result Given Refusal). FollowsDialogue carries (otherwise (members_call l asked rest) r) new (Ok x) new) (sym is ∙ told) (refl, refl)))

  -- one didn't, and the next are asked
  pub member_refuses : (member : ℕ) (left rest : List ℕ) (last refusal : Refusal) (reply : Reply) (result : Result Given Refusal)
      → Leads carries whole old (members_call l asked left last) now → left ≡ member ∷ rest
      → carries now (fetch_of l asked member) reply new → result ≡ given last reply → result ≡ Err refusal
      → Leads carries whole old (members_call l asked rest refusal) new
  member_refuses member left rest last refusal reply result leads next carried told is ended end follows =
      leads ended end (subst (λ (ms : List ℕ). FollowsDialogue carries (members_call l asked ms last) now ended end) (sym next)
      (reply, new, carried, subst (λ (r : Result Given Refusal). FollowsDialogue carries (otherwise (members_call l asked rest) r) new ended end) (sym is ∙ told) follows))

  -- there is none left
  pub members_end : (left : List ℕ) (last : Refusal) → Leads carries whole old (members_call l asked left last) now → left ≡ []
      → FollowsDialogue carries whole old (Err last) now
  members_end left last leads none =
      leads (Err last) now (subst (λ (ms : List ℕ). FollowsDialogue carries (members_call l asked ms last) now (Err last) now) (sym none) (refl, refl))

-- a call that wants no memory of the client's own
abbrev pub Plain : {Q R A : Type 0} → Dialogue Q R A → Type 0
Plain (Say x) = Unit {0}
Plain {Q} {R} (Ask asked more) = (reply : R) → Plain (more reply)
Plain (Grow rest) = ⊥

pub plain_upon : {Q R A B : Type 0} (call : Dialogue Q R A) (go : A → Dialogue Q R B) → Plain call → ((x : A) → Plain (go x)) → Plain (upon call go)
plain_upon (Say x) go plain then = then x
plain_upon (Ask asked more) go plain then = λ reply. plain_upon (more reply) go (plain reply) then
plain_upon (Grow rest) go plain then = plain

-- the first call came to something, and the second went on from there
pub follows_plain : {S Q R A B : Type 0} (carries : S → Q → R → S → Type 0) (call : Dialogue Q R (Result A Refusal)) (go : Result A Refusal → Dialogue Q R (Result B Refusal))
    (old mid new : S) (first : Result A Refusal) (result : Result B Refusal)
    → Plain call → FollowsDialogue carries call old first mid → FollowsDialogue carries (go first) mid result new → FollowsDialogue carries (upon call go) old result new
follows_plain carries (Say said) go old mid new first result plain (is, same) after =
    subst (λ s. FollowsDialogue carries (go said) s result new) same (subst (λ r. FollowsDialogue carries (go r) mid result new) is after)
follows_plain carries (Ask asked more) go old mid new first result plain (reply, next, carried, rest) after =
    (reply, next, carried, follows_plain carries (more reply) go next mid new first result (plain reply) rest after)
follows_plain carries (Grow rest) go old mid new first result plain follows after = absurd plain

plain_next : (l : Located) (asked : Asked) (rest : List ℕ) → ((last : Refusal) → Plain (members_call l asked rest last)) → (r : Result Given Refusal) → Plain (otherwise (members_call l asked rest) r)
plain_next l asked rest plain (Ok x) = tt
plain_next l asked rest plain (Err refusal) = plain refusal

plain_members : (l : Located) (asked : Asked) (members : List ℕ) (last : Refusal) → Plain (members_call l asked members last)
plain_members l asked [] last = tt
plain_members l asked (member ∷ rest) last = λ reply. plain_next l asked rest (plain_members l asked rest) (given last reply)

plain_onward : {Q R A B : Type 0} (go : A → Dialogue Q R (Result B Refusal)) → ((x : A) → Plain (go x)) → (r : Result A Refusal) → Plain (onward go r)
plain_onward go plain (Ok x) = plain x
plain_onward go plain (Err refusal) = tt

plain_round : (l : Located) (asked : Asked) → Plain (round_call l asked)
plain_round l asked = plain_upon (members_call l asked l.view.members _) (onward (λ g. Say (Ok (g, l)))) (plain_members l asked l.view.members _) (plain_onward (λ g. Say (Ok (g, l))) (λ g. tt))

module _ {S : Type 0} (carries : S → Request → Reply → S → Type 0) (path : Path) (l : Located) (index : ℕ) (asked : Asked) (old new : S) where
  -- the remembered location is of this chunk, and a member answered
  pub known_answers : (x : Given × Located) (known : Option Located) → known ≡ Some l → (l.index == index) ≡ true
      → FollowsDialogue carries (round_call l asked) old (Ok x) new → FollowsDialogue carries (fetch_call path known index asked) old (Ok x) new
  known_answers x known is same follows =
      subst (λ k. FollowsDialogue carries (fetch_call path k index asked) old (Ok x) new) (sym is)
      (subst (λ b. FollowsDialogue carries (cond b (upon (round_call l asked) (otherwise (λ refusal. anew_call path index asked))) (anew_call path index asked)) old (Ok x) new) (sym same)
      (follows_upon carries (round_call l asked) (otherwise (λ refusal. anew_call path index asked)) old new new (Ok x) (Ok x) (λ e. cc) follows (refl, refl)))

  -- it is, and none did
  pub known_refuses : (mid : S) (refusal : Refusal) (result : Result (Given × Located) Refusal) (known : Option Located) → known ≡ Some l → (l.index == index) ≡ true
      → FollowsDialogue carries (round_call l asked) old (Err refusal) mid → FollowsDialogue carries (anew_call path index asked) mid result new
      → FollowsDialogue carries (fetch_call path known index asked) old result new
  known_refuses mid refusal result known is same follows after =
      subst (λ k. FollowsDialogue carries (fetch_call path k index asked) old result new) (sym is)
      (subst (λ b. FollowsDialogue carries (cond b (upon (round_call l asked) (otherwise (λ refusal. anew_call path index asked))) (anew_call path index asked)) old result new) (sym same)
      (follows_plain carries (round_call l asked) (otherwise (λ refusal. anew_call path index asked)) old mid new (Err refusal) result (plain_round l asked) follows after))
