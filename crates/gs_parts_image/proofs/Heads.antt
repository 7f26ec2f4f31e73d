-- The head of an image is read as it is written.
use Rattle.std.proofs.Common.{◌≡◌, ℕ, Bool, true, false, List, [], Option, Some, None, Result, Ok, Err, refl, sym, ap, subst, ◌∙◌}
use Rattle.std.specs.Prelude.{⊤}
use Rattle.gs_base.specs.Configs.{is_config}
use Rattle.gs_base.specs.Configured.{Configured}
use Rattle.gs_base.specs.Told.{IsNumber}
use Rattle.gs_base.specs.declared.config.Config.{Config}
use Rattle.gs_base.specs.declared.refusal.Refusal.{Refusal}
use Rattle.gs_parts_image.specs.Encoding.{sizes, head}
use Rattle.gs_parts_image.specs.Reading.{SizesFields, sizes_with, sizes_of, sizes_at, HeadFields, head_of, head_at}
use Rattle.gs_parts_image.specs.Stores.{Head}
use Rattle.gs_parts_image.specs.Writable.{AreSizesTold, IsHeadTold}
use Rattle.std.specs.Int.{w64}
use Rattle.gs_fields.specs.Reading.{◌>>=◌, both, number_at}
use Rattle.gs_fields.specs.Laws.{Reads, reads_both, reads_made, reads_flag, n64, if_some, some_is}
use Rattle.gs_keep_head.specs.Head.{Sizes, AreSizes}
use Rattle.gs_keep_head.specs.Head as lines

abbrev sizes_fields : Sizes → SizesFields
sizes_fields s = (s.servers, (s.racks, (s.replicas, (s.chunk, s.block))))

-- sizes of which there is a store
abbrev pub IsSizes : Sizes → Type 0
IsSizes s = AreSizesTold s × AreSizes s

pub reads_sizes : Reads IsSizes sizes sizes_at
unfolding sizes_at
reads_sizes = reads_made {fields = sizes_fields} (reads_both n64 (reads_both n64 (reads_both n64 (reads_both n64 n64)))) (record { back = back; forth = forth }) where
  back : (s : Sizes) → IsSizes s → AreSizesTold s × (sizes_of (sizes_fields s) ≡ Some s)
  back s is = (is.0, rw is.1 refl)

  forth : (x : SizesFields) (s : Sizes) → AreSizesTold (sizes_with x) → sizes_of x ≡ Some s → (sizes_fields s ≡ x) × IsSizes s
  forth x s is e =
      let k = if_some (is_config x.0 x.1.0 x.1.1.0 x.1.1.1.1 x.1.1.1.0) (sizes_with x) s e in
      subst (λ (z : Sizes). (sizes_fields z ≡ x) × IsSizes z) k.1 (refl, (is, k.0))

abbrev head_fields : Head → HeadFields
head_fields h = (h.sizes, (h.moment, (h.last, (h.is_short, h.drops))))

abbrev pub IsHead : Head → Type 0
IsHead h = IsSizes h.sizes × (IsNumber h.moment × (IsNumber h.last × (⊤ × IsNumber h.drops)))

pub reads_head : Reads IsHead head head_at
unfolding head_at
reads_head = reads_made {fields = head_fields} (reads_both reads_sizes (reads_both n64 (reads_both n64 (reads_both reads_flag n64)))) (record { back = λ y is. (is, refl); forth = forth }) where
  forth : (x : HeadFields) (h : Head) → IsSizes x.0 × (IsNumber x.1.0 × (IsNumber x.1.1.0 × (⊤ × IsNumber x.1.1.1.1))) → head_of x ≡ Some h → (head_fields h ≡ x) × IsHead h
  forth x h is e = subst (λ (z : Head). (head_fields z ≡ x) × IsHead z) (some_is (record { sizes = x.0; moment = x.1.0; last = x.1.1.0; is_short = x.1.1.1.0; drops = x.1.1.1.1 }) h e) (refl, is)

-- ---- sizes that were read

valid_by : (x : SizesFields) (c : Config) → Configured x.0 x.1.0 x.1.1.0 x.1.1.1.1 x.1.1.1.0 (Ok c) → is_config x.0 x.1.0 x.1.1.0 x.1.1.1.1 x.1.1.1.0 ≡ true
valid_by x c h = rw (← h.0, ← h.1, ← h.2, ← h.3, ← h.4) c.valid

same_sizes : (x : SizesFields) (c : Config) → Configured x.0 x.1.0 x.1.1.0 x.1.1.1.1 x.1.1.1.0 (Ok c) → sizes_with x ≡ lines.sizes_of c
same_sizes x c h = λ i. record { servers = sym h.0 i; racks = sym h.1 i; replicas = sym h.2 i; chunk = sym h.4 i; block = sym h.3 i }

abbrev Fields : List ℕ → Option (SizesFields × List ℕ)
Fields bytes = both (number_at w64) (both (number_at w64) (both (number_at w64) (both (number_at w64) (number_at w64)))) bytes

pub sizes_read : (bytes rest : List ℕ) (x : SizesFields) (c : Config) → Fields bytes ≡ Some (x, rest) → Configured x.0 x.1.0 x.1.1.0 x.1.1.1.1 x.1.1.1.0 (Ok c) → sizes_at bytes ≡ Some (lines.sizes_of c, rest)
unfolding sizes_at
sizes_read bytes rest x c e h =
    let made : sizes_of x ≡ Some (lines.sizes_of c) = rw (valid_by x c h) (ap (λ (s : Sizes). Some s) (same_sizes x c h)) in
    ap (λ (o : Option (SizesFields × List ℕ)). o >>= λ y. sizes_of y.0 >>= λ s. Some (s, y.1)) e ∙ ap (λ (o : Option Sizes). o >>= λ s. Some (s, rest)) made

pub sizes_unread : (bytes rest : List ℕ) (x : SizesFields) (f : Refusal) → Fields bytes ≡ Some (x, rest) → Configured x.0 x.1.0 x.1.1.0 x.1.1.1.1 x.1.1.1.0 (Err f) → sizes_at bytes ≡ None
unfolding sizes_at
sizes_unread bytes rest x f e h =
    let none : sizes_of x ≡ None = rw h.1 refl in
    ap (λ (o : Option (SizesFields × List ℕ)). o >>= λ y. sizes_of y.0 >>= λ s. Some (s, y.1)) e ∙ ap (λ (o : Option Sizes). o >>= λ s. Some (s, rest)) none
