-- Paths and names are the same exactly where their order says so.
use Rattle.std.proofs.Common.{◌≡◌, ◌&&◌, ◌∙◌, true, refl, ap, subst}
use Rattle.std.specs.Bool.{Decides}
use Rattle.std.specs.Cmp.{eq_by_cmp_equiv, booleans_Decides}
use Rattle.std.specs.Cmp.Derive.{both_true}
use Rattle.std.specs.Cmp.Lexicographic.{nat_list_cmp_total}
use Rattle.std.specs.FinMap.{slice_cmp-IsAntisymmetric, nat_cmp-IsAntisymmetric}
use Rattle.std.specs.Ordering.{eq_by_cmp}
use Rattle.std.specs.Bool.{beq}
use Rattle.std.proofs.lemmas.Bool.{and_parts}
use Rattle.std.proofs.lemmas.Map.Views.{tells_apart}
use Rattle.gs_path.specs.Path.{Name, Path, name_cmp, path_cmp, path_total}
use Rattle.gs_msg.specs.declared.lists.ListedName.{ListedName}

pub name_decides : (x y : Name) → Decides (eq_by_cmp name_cmp x y) (x ≡ y)
name_decides x y = (
  tells_apart (slice_cmp-IsAntisymmetric nat_cmp-IsAntisymmetric) x y,
  λ e. subst (λ z. eq_by_cmp name_cmp x z ≡ true) e ((eq_by_cmp_equiv nat_list_cmp_total).refl x),
)

pub path_decides : (p q : Path) → Decides (eq_by_cmp path_cmp p q) (p ≡ q)
path_decides p q = (
  tells_apart (slice_cmp-IsAntisymmetric (slice_cmp-IsAntisymmetric nat_cmp-IsAntisymmetric)) p q,
  λ e. subst (λ z. eq_by_cmp path_cmp p z ≡ true) e ((eq_by_cmp_equiv path_total).refl p),
)

-- a name, and whether a directory stands there
pub listed_decides : (x y : ListedName) → Decides (eq_by_cmp name_cmp x.name y.name && beq x.is_directory y.is_directory) (x ≡ y)
listed_decides x y = (
  λ h. let p = and_parts (eq_by_cmp name_cmp x.name y.name) (beq x.is_directory y.is_directory) h in
      ap (λ n. record { name = n; is_directory = x.is_directory }) ((name_decides x.name y.name).0 p.0)
      ∙ ap (λ b. record { name = y.name; is_directory = b }) ((booleans_Decides x.is_directory y.is_directory).0 p.1),
  λ e. subst (λ (z : ListedName). (eq_by_cmp name_cmp x.name z.name && beq x.is_directory z.is_directory) ≡ true) e
      (both_true ((name_decides x.name x.name).1 refl) ((booleans_Decides x.is_directory x.is_directory).1 refl)),
)
