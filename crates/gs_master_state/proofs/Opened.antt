-- What a checkpoint comes to.
use Rattle.std.proofs.Common.{◌≡◌, inl, inr, ◌&&◌, Bool, true, false, List, Option, refl, sym, ap, ◌∙◌}
use Rattle.std.specs.Prelude.{Some, None, Err, if◌then◌else◌, option_map, option_and_then}
use Rattle.std.specs.FinMap as fin
use Rattle.std.specs.Ordering.{nat_cmp}
use Rattle.gs_base.specs.declared.refusal.Refusal.{Refusal}
use Rattle.gs_base.specs.declared.epoch.EpochEnd.{EpochEnd}
use Rattle.gs_base.specs.declared.numbers.ClientId.{ClientId}
use Rattle.gs_edit.specs.View.{NamesView}
use Rattle.gs_master_record.specs.Plain.{PlainCheckpoint, PlainInverse}
use Rattle.gs_tree.specs.Build.{is_tree}
use Rattle.gs_tree.specs.Chunks.{all_chunks}
use Rattle.gs_master_state.specs.Checkpoints.{Reads, TellsNames, are_names, are_sound, read_with, told_chunks, told_prepared, told_with}
use Rattle.gs_master_spec.specs.Durable.{Durable, Settled}
use Rattle.gs_master_spec.specs.Replies.{client_cmp}
use Rattle.gs_master_spec.specs.Undoing.{all_undone, rows_of_nodes}
use Rattle.gs_master_spec.specs.Whole.{are_counts, are_settled, can_go_back, durable_with, if_it_can, is_whole, names_in, told_replies, whole_of}
use Rattle.gs_master_spec.specs.declared.asking.Prepared.{Prepared}
use Rattle.gs_master_spec.specs.declared.reply.KeptReply.{KeptReply}

abbrev Replies : Type 0
Replies = fin.FinMap client_cmp KeptReply

four : (a b c d : Bool) → a && (b && (c && d)) ≡ (a && b) && (c && d)
four true b c d = refl
four false b c d = refl

-- the tests, by what they are made by
whole_tests : (c : PlainCheckpoint) → is_whole c ≡ are_names c && (are_settled c.references c.settled && are_sound c)
whole_tests c = four (is_tree (rows_of_nodes c.tree)) (are_counts (all_chunks (rows_of_nodes c.tree)) c.references) (are_settled c.references c.settled) (are_sound c)

first_fails : (a b c : Bool) → a ≡ false → a && (b && c) ≡ false
first_fails a b c h = ap (λ x. x && (b && c)) h

second_fails : (a b c : Bool) → b ≡ false → a && (b && c) ≡ false
second_fails true b c h = ap (λ x. x && c) h
second_fails false b c h = refl

third_fails : (a b c : Bool) → c ≡ false → a && (b && c) ≡ false
third_fails true true c h = h
third_fails true false c h = refl
third_fails false b c h = refl

unread : (c : PlainCheckpoint) (replies : Replies) → is_whole c ≡ false → read_with c replies ≡ None
unfolding read_with
unread c replies h = ap (λ b. if b then if_it_can (told_with c replies) else None) h

pub unsound : (c : PlainCheckpoint) (replies : Replies) → are_sound c ≡ false → read_with c replies ≡ None
unsound c replies h = unread c replies (whole_tests c ∙ third_fails (are_names c) (are_settled c.references c.settled) (are_sound c) h)

pub unsettled : (c : PlainCheckpoint) (replies : Replies) → are_settled c.references c.settled ≡ false → read_with c replies ≡ None
unsettled c replies h = unread c replies (whole_tests c ∙ second_fails (are_names c) (are_settled c.references c.settled) (are_sound c) h)

pub no_names : (c : PlainCheckpoint) (replies : Replies) (e : Refusal) → TellsNames c (Err e) → Reads c replies (Err e)
no_names c replies e (inl memory) = inl memory
no_names c replies e (inr b) = inr (b.0, unread c replies (whole_tests c ∙ first_fails (are_names c) (are_settled c.references c.settled) (are_sound c) b.1))

whole_read : (c : PlainCheckpoint) (replies : Replies) → are_names c ≡ true → are_settled c.references c.settled ≡ true → are_sound c ≡ true → read_with c replies ≡ if_it_can (told_with c replies)
unfolding read_with
whole_read c replies names settled sound =
    ap (λ b. if b then if_it_can (told_with c replies) else None) (whole_tests c ∙ (λ i. names i && (settled i && sound i)))

pub read_all : (c : PlainCheckpoint) (replies : Replies) (d : Durable) → are_names c ≡ true → are_settled c.references c.settled ≡ true → are_sound c ≡ true → d ≡ told_with c replies → can_go_back d (all_undone d.inverses d.names) ≡ true → read_with c replies ≡ Some d
read_all c replies d names settled sound is can = whole_read c replies names settled sound ∙ ap if_it_can (sym is) ∙ ap (λ b. if b then Some d else None) can

pub read_none : (c : PlainCheckpoint) (replies : Replies) (d : Durable) → are_names c ≡ true → are_settled c.references c.settled ≡ true → are_sound c ≡ true → d ≡ told_with c replies → can_go_back d (all_undone d.inverses d.names) ≡ false → read_with c replies ≡ None
read_none c replies d names settled sound is can = whole_read c replies names settled sound ∙ ap if_it_can (sym is) ∙ ap (λ b. if b then Some d else None) can

-- what is recorded of these parts
abbrev pub made_of : PlainCheckpoint → Replies → NamesView → fin.FinMap nat_cmp Settled → List EpochEnd → List PlainInverse → fin.FinMap nat_cmp Prepared → Durable
made_of c replies names chunks past inverses prepared = record {
  names = names;
  chunks = chunks;
  next_handle = c.next_handle;
  next_version = c.next_version;
  next_hidden = c.next_hidden;
  epoch = c.epoch;
  phase = c.phase;
  ends = past;
  replies = replies;
  inverses = inverses;
  prepared = prepared;
}

-- the parts are those that the checkpoint tells
pub record AreParts (c : PlainCheckpoint) (names : NamesView) (chunks : fin.FinMap nat_cmp Settled) (past : List EpochEnd) (inverses : List PlainInverse) (prepared : fin.FinMap nat_cmp Prepared) : Type 0 where
  pub the_names : names ≡ names_in c
  pub the_chunks : chunks ≡ told_chunks c.settled
  pub the_ends : past ≡ c.ends
  pub the_inverses : inverses ≡ c.inverses
  pub the_prepared : prepared ≡ told_prepared c.prepared

pub made_is : (c : PlainCheckpoint) (replies : Replies) (names : NamesView) (chunks : fin.FinMap nat_cmp Settled) (past : List EpochEnd) (inverses : List PlainInverse) (prepared : fin.FinMap nat_cmp Prepared) → AreParts c names chunks past inverses prepared
    → made_of c replies names chunks past inverses prepared ≡ told_with c replies
made_is c replies names chunks past inverses prepared parts = λ i. made_of c replies (parts.the_names i) (parts.the_chunks i) (parts.the_ends i) (parts.the_inverses i) (parts.the_prepared i)

-- ---- with the replies that it tells

pub with_replies : (c : PlainCheckpoint) (replies : List (ClientId × KeptReply)) → told_replies c.replies ≡ Some replies → whole_of c ≡ read_with c (fin.from_entries replies)
unfolding whole_of read_with
with_replies c replies told = ap (λ o. if is_whole c then option_and_then if_it_can (option_map (durable_with c) o) else None) told

either_way : {A : Type 0} (b : Bool) (o : Option A) → (if b then o else o) ≡ o
either_way true o = refl
either_way false o = refl

pub without_replies : (c : PlainCheckpoint) → told_replies c.replies ≡ None → whole_of c ≡ None
unfolding whole_of
without_replies c told = ap (λ o. if is_whole c then option_and_then if_it_can (option_map (durable_with c) o) else None) told ∙ either_way (is_whole c) None
