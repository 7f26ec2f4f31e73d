-- What a run has come to at some moment.
use Rattle.std.proofs.Common.{◌≡◌, ◌+◌, ◌++◌, [], ℕ, List, Bool, Option, Some, None, IfSome, Result, Ok, Err, IfOk, IfErr, length, take, drop, inl, inr, sym, ap, subst, ◌∙◌, arith, append_assoc, take_all, length-append}
use Rattle.std.proofs.Math.Seq.{take-append-add}
use Rattle.std.proofs.lemmas.List.{take-append-drop}
use Rattle.std.specs.Io.KnownBytes.{Appends}
use Rattle.gs_keep_log.specs.Log.{Held}
use Rattle.gs_shell_script.specs.Run.{AppendsBeginning, lines_of, unlines}
use Rattle.gs_keep_mark.specs.Marks.{Entry, Totals, begins_from, totals_behind}
use Rattle.gs_keep_mark.specs.declared.Ledger.{Ledger}
use Rattle.gs_keep.specs.Keeping.{KeepsOn, LeavesAll, LeavesFront, StoreFails, StopsOn}
use Rattle.gs_keep.specs.Lines.{entries, joined, kept_behind, lines_asked, texts_of}
use Rattle.gs_keep.specs.declared.fault.KeepFault.{KeepFault}
use Rattle.gs_keep.specs.declared.fault.KeepFault.TheVariants as keep
use Rattle.gs_keep.specs.declared.fault.StoreFault.{StoreFault}
use Rattle.gs_keep.specs.declared.fault.StoreFault.TheVariants as fault
use Rattle.gs_keep.proofs.Batches.{all_join, answers_join, entries_join, joined_join, lines_join, totals_join, unlines_join}
use Rattle.gs_keep.proofs.Logs.{alone, alone_behind, alone_joined, alone_plain, rest_leaves}
use Rattle.gs_keep_moments.specs.Moments.{Answered, AtMoment}

-- ---- what is written

whole_beginning : (old new : Option (List ℕ)) (bytes : List ℕ) → Appends old new bytes → AppendsBeginning old new bytes
whole_beginning old new bytes h = (length bytes, subst (Appends old new) (sym (take_all (length bytes) bytes (omega arith))) h)

appends_join : (old mid new : Option (List ℕ)) (xs ys : List ℕ) → Appends old mid xs → Appends mid new ys → Appends old new (xs ++ ys)
appends_join None mid new xs ys one two = tt
appends_join (Some a) None new xs ys one two = absurd one
appends_join (Some a) (Some b) None xs ys one two = absurd two
appends_join (Some a) (Some b) (Some c) xs ys one two = two ∙ ap (λ (l : List ℕ). l ++ ys) one ∙ append_assoc a xs ys

begun_join : (old mid new : Option (List ℕ)) (xs ys : List ℕ) → Appends old mid xs → AppendsBeginning mid new ys → AppendsBeginning old new (xs ++ ys)
begun_join old mid new xs ys one (n, two) = (length xs + n, subst (Appends old new) (sym (take-append-add xs ys n)) (appends_join old mid new xs (take n ys) one two))

-- ---- a log that isn't changed

untouched : (len : ℕ) (h : Held) (log' : Option Held) → log' ≡ Some h → LeavesFront len (Some h) log'
untouched len h log' same = subst (LeavesFront len (Some h)) (sym same) left
  where
    left : LeavesFront len (Some h) (Some h)
    left c (behind, few, is) =
        let parts : h.durable ≡ take len h.durable ++ drop len h.durable = sym (take-append-drop len h.durable) in (
          drop len h.durable ++ behind,
          omega (arith, few, length-append (drop len h.durable) behind, length-append h.durable h.pending, length-append (take len h.durable) (drop len h.durable), ap length parts),
          is ∙ ap (λ (l : List ℕ). l ++ behind) parts ∙ append_assoc (take len h.durable) (drop len h.durable) behind,
        )

-- ---- where a run ends

module _ {S : Type 0} (A : S → List ℕ → List ℕ → S → Type 0) (is_kept : List ℕ → Bool) (turns_away : S → List ℕ → Bool) (due : S → Option (List ℕ)) where
  at_end : (head : List ℕ) (before : ℕ) (script input : List ℕ) (len : ℕ) (h : Held) (log' : Option Held) (out out' : Option (List ℕ)) (ledger : Ledger) (start end : S)
      → KeepsOn A is_kept turns_away due start head before script input len (Some h) log' out out' ledger end → Answered A is_kept turns_away due start head before script input log' out out'
  at_end head before script input len h log' out out' ledger start end k = record {
    batches = k.begins.batches;
    last = k.begins.last;
    turns = k.serves.turns;
    more = k.serves.batches;
    rest = [];
    mid = k.mid;
    now = end;
    is = k.begins.is;
    again = k.begins.again;
    parts = k.serves.parts;
    answers = k.serves.answers;
    gone_out = whole_beginning out out' (unlines (texts_of k.serves.turns)) k.serves.written;
    logged = k.serves.logged;
    plain = k.serves.plain;
    left = rest_leaves log' _ k.holds;
  }

  -- nothing more has gone out than the answers to what was done
  at_done : (f : KeepFault) (head : List ℕ) (before : ℕ) (script input : List ℕ) (left : Option (List ℕ)) (len : ℕ) (h : Held) (log' : Option Held) (out out' : Option (List ℕ)) (start end : S)
      → (s : StopsOn A is_kept turns_away due f start head before script input left len (Some h) log' out out' end) → out' ≡ s.fails.written → Answered A is_kept turns_away due start head before script input log' out out'
  at_done f head before script input left len h log' out out' start end s same = record {
    batches = s.begins.batches;
    last = s.begins.last;
    turns = s.fails.done.turns;
    more = s.fails.done.batches;
    rest = s.fails.rest;
    mid = s.mid;
    now = s.fails.now;
    is = s.begins.is;
    again = s.begins.again;
    parts = s.fails.done.parts;
    answers = s.fails.done.answers;
    gone_out = subst (λ (o : Option (List ℕ)). AppendsBeginning out o (unlines (texts_of s.fails.done.turns))) (sym same) (whole_beginning out s.fails.written (unlines (texts_of s.fails.done.turns)) s.fails.done.written);
    logged = s.fails.done.logged;
    plain = s.fails.done.plain;
    left = s.crashes;
  }

  -- of the answers to the lines that waited a beginning has gone out, and the log has these lines for good
  at_write : (head : List ℕ) (before : ℕ) (script input : List ℕ) (left : Option (List ℕ)) (len : ℕ) (h : Held) (log' : Option Held) (out out' : Option (List ℕ)) (start end : S)
      → StopsOn A is_kept turns_away due keep.Write start head before script input left len (Some h) log' out out' end → Answered A is_kept turns_away due start head before script input log' out out'
  at_write head before script input left len h log' out out' start end s =
      let (w, kept, sent) = s.fails.last in
      let done = s.fails.done in
      let t = kept_behind (totals_behind (begins_from head before) s.begins.batches) s.begins.last in
      let u = totals_behind t done.batches in
      let es = entries w.turns in
      let (told, rested) = done.kept t s.begins.told in
      let text : (kept_behind u es).text ≡ (totals_behind t (done.batches ++ alone es)).text =
      ap (λ (v : Totals). v.text) (alone_behind u es ∙ sym (totals_join t done.batches (alone es))) in
      record {
        batches = s.begins.batches;
        last = s.begins.last;
        turns = done.turns ++ w.turns;
        more = done.batches ++ alone es;
        rest = w.back;
        mid = s.mid;
        now = end;
        is = s.begins.is;
        again = s.begins.again;
        parts = done.parts ∙ ap (λ (l : List (List ℕ)). lines_asked done.turns ++ l) w.parts ∙ sym (append_assoc (lines_asked done.turns) (lines_asked w.turns) (lines_of w.back))
            ∙ ap (λ (l : List (List ℕ)). l ++ lines_of w.back) (sym (lines_join done.turns w.turns));
        answers = answers_join A is_kept turns_away due s.mid s.fails.now end done.turns w.turns done.answers w.answers;
        gone_out = subst (AppendsBeginning out out') (sym (unlines_join done.turns w.turns)) (begun_join out s.fails.written out' (unlines (texts_of done.turns)) (unlines (texts_of w.turns)) done.written sent);
        logged = entries_join done.turns w.turns ∙ ap (λ (l : List Entry). l ++ es) done.logged ∙ ap (λ (l : List Entry). joined done.batches ++ l) (alone_joined es) ∙ sym (joined_join done.batches (alone es));
        plain = all_join _ done.batches (alone es) done.plain (alone_plain es w.plain);
        left = subst (λ (l : List ℕ). LeavesAll l log') text (rest_leaves log' (kept_behind u es).text (kept u told (rested s.begins.rests)));
      }

  at_stop : (f : KeepFault) (head : List ℕ) (before : ℕ) (script input : List ℕ) (left : Option (List ℕ)) (len : ℕ) (h : Held) (log' : Option Held) (out out' : Option (List ℕ)) (start end : S)
      → StopsOn A is_kept turns_away due f start head before script input left len (Some h) log' out out' end → Answered A is_kept turns_away due start head before script input log' out out'
  at_stop keep.Memory head before script input left len h log' out out' start end s = at_done keep.Memory head before script input left len h log' out out' start end s s.fails.last.1
  at_stop keep.Read head before script input left len h log' out out' start end s = at_done keep.Read head before script input left len h log' out out' start end s s.fails.last.2
  at_stop keep.Unended head before script input left len h log' out out' start end s = at_done keep.Unended head before script input left len h log' out out' start end s s.fails.last.3
  at_stop keep.TooMany head before script input left len h log' out out' start end s = at_done keep.TooMany head before script input left len h log' out out' start end s s.fails.last.3
  at_stop keep.Log head before script input left len h log' out out' start end s = at_done keep.Log head before script input left len h log' out out' start end s s.fails.last.2
  at_stop keep.Write head before script input left len h log' out out' start end s = at_write head before script input left len h log' out out' start end s

  at_fault : (f : StoreFault) (head : List ℕ) (before : ℕ) (script input : List ℕ) (left : Option (List ℕ)) (len : ℕ) (h : Held) (log' : Option Held) (out out' : Option (List ℕ)) (start end : S)
      → StoreFails A is_kept turns_away due f start head before script input left len (Some h) log' out out' end → AtMoment A is_kept turns_away due start head before script input len (Some h) log' out out'
  at_fault (fault.Replay f) head before script input left len h log' out out' start end (ledger, told, fails, unread, same, unsent) = inl (unsent, inl (untouched len h log' same))
  at_fault fault.Aside head before script input left len h log' out out' start end (same, unread, unsent) = inl (unsent, inl (untouched len h log' same))
  at_fault fault.Cut head before script input left len h log' out out' start end (leaves, unread, unsent) = inl (unsent, inl leaves)
  at_fault (fault.Begin f) head before script input left len h log' out out' start end (leaves, unread, unsent) = inl (unsent, inr leaves)
  at_fault (fault.Serve f) head before script input left len h log' out out' start end s = inr (at_stop f head before script input left len h log' out out' start end s)

  pub at_moment : (r : Result Ledger StoreFault) (log log' : Option Held) (o p left : Option (List ℕ)) (head : List ℕ) (before : ℕ) (len : ℕ) (out out' : Option (List ℕ)) (start end : S)
      → IfOk r (λ ledger. IfSome o (λ script. IfSome p (λ input. KeepsOn A is_kept turns_away due start head before script input len log log' out out' ledger end)))
      → IfErr r (λ f. IfSome o (λ script. IfSome p (λ input. StoreFails A is_kept turns_away due f start head before script input left len log log' out out' end)))
      → IfSome log (λ h. IfSome o (λ script. IfSome p (λ input. AtMoment A is_kept turns_away due start head before script input len log log' out out')))
  at_moment r None log' o p left head before len out out' start end ok err = tt
  at_moment r (Some h) log' None p left head before len out out' start end ok err = tt
  at_moment r (Some h) log' (Some script) None left head before len out out' start end ok err = tt
  at_moment (Ok ledger) (Some h) log' (Some script) (Some input) left head before len out out' start end ok err = inr (at_end head before script input len h log' out out' ledger start end ok)
  at_moment (Err f) (Some h) log' (Some script) (Some input) left head before len out out' start end ok err = at_fault f head before script input left len h log' out out' start end err
