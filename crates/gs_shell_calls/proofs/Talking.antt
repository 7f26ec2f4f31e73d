-- Lines, as calls one after another.
use Rattle.std.proofs.Common.{◌≡◌, ℕ, Option, Result, Ok, Err, refl, sym, ap, subst, ◌∙◌, inl, inr}
use Rattle.gs_base.specs.declared.numbers.ReqId.{ReqId}
use Rattle.gs_base.specs.declared.refusal.Refusal.{Refusal}
use Rattle.gs_base.specs.declared.refusal.Refusal.TheVariants as refusals
use Rattle.gs_client.specs.Edits.{Edits}
use Rattle.gs_client.specs.Files.{open_call, with_location}
use Rattle.gs_client.specs.Opened.{File}
use Rattle.gs_client.specs.Sends.{Sends}
use Rattle.gs_client_part.specs.declared.located.Located.{Located}
use Rattle.gs_client.specs.Trees.{Call}
use Rattle.gs_client.specs.declared.client.Client.{Client}
use Rattle.gs_client.specs.declared.link.Reply.{Reply}
use Rattle.gs_client_dialogue.proofs.Talks.{follows_both, follows_none, follows_said}
use Rattle.gs_client_dialogue.specs.Dialogues.{Ask, FollowsDialogue, Grow, Say, upon}
use Rattle.gs_msg.specs.declared.event.Request.{Request}
use Rattle.gs_path.specs.Path.{Path}
use Rattle.gs_path.specs.Rules.{ReadsAs}
use Rattle.gs_shell_calls.specs.Asked.{answered, done, on, on_two, path_in, plain, with_file}
use Rattle.gs_shell_calls.specs.declared.answer.Answer.{Answer}

module _ {S : Type 0} (carries : S → Request → Reply → S → Type 0) where
  -- a path is read, for which memory may be wanted
  pub reads : (path given : Result Path Refusal) (s : S) → ReadsAs path given → FollowsDialogue carries (path_in path) s given s
  reads path (Ok p) s gives = inl (sym gives, refl)
  reads path (Err e) s gives = elim gives [
    | inl is ↦ inl (sym is, refl)
    | inr memory ↦ inr (ap (λ f. Err f) memory, refl)
  ]

  -- one call, and its answer
  pub plain_answered : {A : Type 0} (call : Call A) (answer : A → Answer) (s t : S) (came : Result A Refusal)
      → FollowsDialogue carries call s came t → FollowsDialogue carries (plain call answer) s (answered answer came) t
  plain_answered call answer s t (Ok x) asked =
      follows_both carries call (λ y. Say (Ok (answer y))) s t t x (Ok (answer x)) asked (follows_said carries (Ok (answer x)) t)
  plain_answered call answer s t (Err e) asked = follows_none carries call (λ y. Say (Ok (answer y))) s t e asked

  -- a call on a path, and its answer
  pub on_answered : {A : Type 0} (path : Result Path Refusal) (call : Path → Call A) (answer : A → Answer) (s t : S) (p : Path) (came : Result A Refusal)
      → ReadsAs path (Ok p) → FollowsDialogue carries (call p) s came t → FollowsDialogue carries (on path call answer) s (answered answer came) t
  on_answered path call answer s t p came gives asked =
      follows_both carries (path_in path) (λ q. plain (call q) answer) s s t p (answered answer came) (reads path (Ok p) s gives) (plain_answered (call p) answer s t came asked)

  pub on_none : {A : Type 0} (path : Result Path Refusal) (call : Path → Call A) (answer : A → Answer) (s : S) (e : Refusal)
      → ReadsAs path (Err e) → FollowsDialogue carries (on path call answer) s (Err e) s
  on_none path call answer s e gives = follows_none carries (path_in path) (λ q. plain (call q) answer) s s e (reads path (Err e) s gives)

  -- the same of a file's call that remembers a location
  pub on_located : {A : Type 0} (path : Result Path Refusal) (call : Path → Call (A × Option Located)) (answer : A → Answer) (s t : S) (p : Path) (came : Result A Refusal) (file : File)
      → ReadsAs path (Ok p) → FollowsDialogue carries (call p) s (with_location came file) t → FollowsDialogue carries (on path call (λ found. answer found.0)) s (answered answer came) t
  on_located path call answer s t p (Ok x) file gives asked = on_answered path call (λ found. answer found.0) s t p (Ok (x, file.located)) gives asked
  on_located path call answer s t p (Err e) file gives asked = on_answered path call (λ found. answer found.0) s t p (Err e) gives asked

  -- a request, and what is asked behind its answer
  pub asks_upon : {A B : Type 0} (asked : Request) (says : Reply → Result A Refusal) (go : Result A Refusal → Call B) (old mid new : S) (came : Result A Refusal) (result : Result B Refusal)
      → FollowsDialogue carries (Ask asked (λ reply. Say (says reply))) old came mid → FollowsDialogue carries (go came) mid result new
      → FollowsDialogue carries (upon (Ask asked (λ reply. Say (says reply))) go) old result new
  asks_upon asked says go old mid new came result (reply, next, sent, (is, same)) after =
      (reply, next, sent, subst (λ s. FollowsDialogue carries (go (says reply)) s result new) same (subst (λ r. FollowsDialogue carries (go r) mid result new) is after))

  -- a call on two paths
  pub two_answered : (from to : Result Path Refusal) (call : Path → Path → Call (Unit {0})) (s t : S) (p q : Path) (came : Result (Unit {0}) Refusal)
      → ReadsAs from (Ok p) → ReadsAs to (Ok q) → FollowsDialogue carries (call p q) s came t → FollowsDialogue carries (on_two from to call) s (answered done came) t
  two_answered from to call s t p q came reads_from reads_to asked =
      follows_both carries (path_in from) (λ x. on to (call x) done) s s t p (answered done came) (reads from (Ok p) s reads_from) (on_answered to (call p) done s t q came reads_to asked)

  pub two_none : (from to : Result Path Refusal) (call : Path → Path → Call (Unit {0})) (s : S) (p : Path) (e : Refusal)
      → ReadsAs from (Ok p) → ReadsAs to (Err e) → FollowsDialogue carries (on_two from to call) s (Err e) s
  two_none from to call s p e reads_from reads_to =
      follows_both carries (path_in from) (λ x. on to (call x) done) s s s p (Err e) (reads from (Ok p) s reads_from) (on_none to (call p) done s e reads_to)

  pub two_bad : (from to : Result Path Refusal) (call : Path → Path → Call (Unit {0})) (s : S) (e : Refusal)
      → ReadsAs from (Err e) → FollowsDialogue carries (on_two from to call) s (Err e) s
  two_bad from to call s e reads_from = follows_none carries (path_in from) (λ x. on to (call x) done) s s e (reads from (Err e) s reads_from)

-- a file's calls are those of its client, with its edits counted beside
pub forgets_edits : {L A : Type 0} (carries : L → ReqId → Request → Reply → L → Type 0) (call : Call A) (old : Client × ℕ × L) (result : Result A Refusal) (new : Client × ℕ × L)
    → FollowsDialogue (Edits carries) call old result new → FollowsDialogue (Sends carries) call (old.0, old.2) result (new.0, new.2)
forgets_edits carries (Say said) old result new (is, same) = (is, λ i. ((same i).0, (same i).2))
forgets_edits carries (Ask asked more) old result new (reply, mid, sent, rest) =
    (reply, (mid.0, mid.2), sent.0, forgets_edits carries (more reply) mid result new rest)
forgets_edits carries (Grow rest) old result new follows = elim follows [
  | inl h ↦ inl (forgets_edits carries rest old result new h)
  | inr (e, same) ↦ inr (e, λ i. ((same i).0, (same i).2))
]

-- ---- a client keeps the size of a chunk

sent_keeps : {L : Type 0} (carries : L → ReqId → Request → Reply → L → Type 0) (old : Client × L) (request : Request) (reply : Reply) (new : Client × L)
    → Sends carries old request reply new → new.0.chunk ≡ old.0.chunk
sent_keeps carries old request reply new sends = elim sends [
  | inl h ↦ ap (λ (c : Client). c.chunk) h.1
  | inr h ↦ ap (λ s. s.0.chunk) h.2
]

pub keeps_chunk : {L A : Type 0} (carries : L → ReqId → Request → Reply → L → Type 0) (call : Call A) (old : Client × L) (result : Result A Refusal) (new : Client × L)
    → FollowsDialogue (Sends carries) call old result new → new.0.chunk ≡ old.0.chunk
keeps_chunk carries (Say said) old result new (is, same) = ap (λ s. s.0.chunk) same
keeps_chunk carries (Ask asked more) old result new (reply, mid, sent, rest) =
    keeps_chunk carries (more reply) mid result new rest ∙ sent_keeps carries old asked reply mid sent
keeps_chunk carries (Grow rest) old result new follows = elim follows [
  | inl h ↦ keeps_chunk carries rest old result new h
  | inr h ↦ ap (λ s. s.0.chunk) h.1
]

-- a file is opened, and used by what the size of a chunk is
pub uses_file : {L A : Type 0} (carries : L → ReqId → Request → Reply → L → Type 0) (call : ℕ → File → Call A) (path : Path) (old mid new : Client × L) (file : File) (came : Result A Refusal)
    → FollowsDialogue (Sends carries) (open_call path) old (Ok file) mid → FollowsDialogue (Sends carries) (call mid.0.chunk file) mid came new
    → FollowsDialogue (Sends carries) (with_file (call old.0.chunk) path) old came new
uses_file carries call path old mid new file came opened used =
    follows_both (Sends carries) (open_call path) (call old.0.chunk) old mid new file came opened
    (subst (λ size. FollowsDialogue (Sends carries) (call size file) mid came new) (keeps_chunk carries (open_call path) old (Ok file) mid opened) used)

pub opens_none : {L A : Type 0} (carries : L → ReqId → Request → Reply → L → Type 0) (call : File → Call A) (path : Path) (old new : Client × L) (e : Refusal)
    → FollowsDialogue (Sends carries) (open_call path) old (Err e) new → FollowsDialogue (Sends carries) (with_file call path) old (Err e) new
opens_none carries call path old new e opened = follows_none (Sends carries) (open_call path) call old new e opened
