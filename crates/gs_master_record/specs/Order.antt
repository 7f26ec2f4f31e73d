-- The order of a checkpoint's lists.
use Rattle.std.specs.Prelude.{◌≡◌, ◌&&◌, nat_lt, Bool, true, false, List, [], ◌∷◌, codes, None, refl}
use Rattle.std.specs.declared.cmp.Ordering.{Ordering}
use Rattle.std.specs.declared.cmp.Ordering.TheVariants.{Less, Equal, Greater}
use Rattle.gs_path.specs.Path.{text_cmp}
use Rattle.gs_master_record.specs.declared.checkpoint.PreparedView.{PreparedView}
use Rattle.gs_master_record.specs.declared.checkpoint.Reference.{Reference}
use Rattle.gs_master_record.specs.declared.checkpoint.SettledEntry.{SettledEntry}
use Rattle.gs_master_record.specs.Plain.{PlainNode, PlainReply, PlainCheckpoint}

-- each item stands before the next, so none stands twice
abbrev pub rises_from : {A : Type 0} → (A → A → Bool) → A → List A → Bool
rises_from before x [] = true
rises_from before x (y ∷ ys) = before x y && rises_from before y ys

abbrev pub rises : {A : Type 0} → (A → A → Bool) → List A → Bool
rises before [] = true
rises before (x ∷ xs) = rises_from before x xs

abbrev pub is_less : Ordering → Bool
is_less Less = true
is_less Equal = false
is_less Greater = false

-- entries of the tree by the bytes of their paths' texts
abbrev pub entry_before : PlainNode → PlainNode → Bool
entry_before a b = is_less (text_cmp a.0 b.0)

abbrev pub reference_before : Reference → Reference → Bool
reference_before a b = nat_lt a.handle b.handle

abbrev pub settled_before : SettledEntry → SettledEntry → Bool
settled_before a b = nat_lt a.settled.handle b.settled.handle

-- one reply a client
abbrev pub reply_before : PlainReply → PlainReply → Bool
reply_before a b = nat_lt a.to.client.0 b.to.client.0

abbrev pub prepared_before : PreparedView → PreparedView → Bool
prepared_before a b = nat_lt a.settled.handle b.settled.handle

abbrev pub is_in_order : PlainCheckpoint → Bool
is_in_order c =
    rises entry_before c.tree && (rises reference_before c.references && (rises settled_before c.settled
    && (rises reply_before c.replies && rises prepared_before c.prepared)))

-- by handle, and no handle twice
references_rise : rises reference_before (record { handle = 2; count = 1 } ∷ record { handle = 10; count = 1 } ∷ []) ≡ true
references_rise = refl

reference_twice : rises reference_before (record { handle = 2; count = 1 } ∷ record { handle = 2; count = 3 } ∷ []) ≡ false
reference_twice = refl

-- /a.b comes before /a/b
point_first : rises entry_before ((codes "a" ∷ [], None) ∷ (codes "a.b" ∷ [], None) ∷ (codes "a" ∷ codes "b" ∷ [], None) ∷ []) ≡ true
point_first = refl

slash_first : rises entry_before ((codes "a" ∷ codes "b" ∷ [], None) ∷ (codes "a.b" ∷ [], None) ∷ []) ≡ false
slash_first = refl
