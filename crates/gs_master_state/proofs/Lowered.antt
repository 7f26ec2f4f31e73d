-- The lowest of several paths, by their texts.
use Rattle.std.proofs.Common.{◌≡◌, ◌∙◌, ℕ, ◌≤◌, List, [], ◌∷◌, drop, refl, ap, arith}
use Rattle.std.specs.Prelude.{Option, Some, None, option_map}
use Rattle.std.specs.declared.cmp.Ordering.{Ordering}
use Rattle.std.specs.declared.cmp.Ordering.TheVariants.{Less, Equal, Greater}
use Rattle.gs_path.specs.Path.{Path, path_text, text_cmp}
use Rattle.gs_master_state.specs.inner.Judging.{lower_each, lower_text}
use Rattle.gs_master_spec.specs.Upgrades.{lower_path, lowest_path, pending_paths}
use Rattle.gs_master_spec.specs.declared.pending.Pending.{Pending}

one_lower : (path other : Path) (r : Ordering) → text_cmp path other ≡ r → Some (lower_text (path_text path) (Some (path_text other))) ≡ option_map path_text (lower_path path (Some other))
one_lower path other Less e = rw e refl
one_lower path other Equal e = rw e refl
one_lower path other Greater e = rw e refl

next_lower : (path : Path) (lowest : Option Path) → Some (lower_text (path_text path) (option_map path_text lowest)) ≡ option_map path_text (lower_path path lowest)
next_lower path None = refl
next_lower path (Some other) = one_lower path other (text_cmp path other) refl

each_is_lowest : (paths : List Path) → lower_each paths None ≡ option_map path_text (lowest_path paths)
each_is_lowest [] = refl
each_is_lowest (path ∷ paths) = ap (λ o. Some (lower_text (path_text path) o)) (each_is_lowest paths) ∙ next_lower path (lowest_path paths)

pub none_left : (pending : List Pending) (left : ℕ) (lowest : Option (List ℕ)) → left ≤ 0 → lowest ≡ lower_each (pending_paths (drop left pending)) None → lowest ≡ option_map path_text (lowest_path (pending_paths pending))
none_left pending left lowest done is =
    let zero : left ≡ 0 = omega arith in
    is ∙ ap (λ k. lower_each (pending_paths (drop k pending)) None) zero ∙ each_is_lowest (pending_paths pending)
