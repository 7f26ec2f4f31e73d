-- Handles that are named, and how many more can be without memory.
use Rattle.std.specs.Prelude.{ℕ, List, refl}
use Rattle.std.specs.Coded.{Coded, code_by, coded×, coded_ℕ, coded_list}

pub record Room : Type 0 where
  pub handles : List ℕ
  pub room : ℕ

abbrev pub coded_room : Coded Room
coded_room =
    code_by (List ℕ × ℕ) (coded× (coded_list coded_ℕ) coded_ℕ)
    (λ r. (r.handles, r.room)) (λ p. record { handles = p.0; room = p.1 }) (λ _. refl)
