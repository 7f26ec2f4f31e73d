-- A part read many times.
use Rattle.std.proofs.Common.{◌≡◌, ℕ, suc, ◌+◌, ◌-◌, ◌<◌, List, Option, Some, None, sym, ◌∙◌, ap, arith}
use Rattle.gs_journal.specs.Reading.{Part, ◌>>=◌, times}

times_next : (part : Part) (n counter : ℕ) (rest : List ℕ) → counter < n → times part (n - counter) rest ≡ part rest >>= times part (n - (counter + 1))
times_next part n counter rest below =
    let one_more : n - counter ≡ suc (n - (counter + 1)) = omega arith in ap (λ (k : ℕ). times part k rest) one_more

-- one more was read
pub times_goes_on : (part : Part) (n counter : ℕ) (rest next : List ℕ) → counter < n → part rest ≡ Some next → times part (n - (counter + 1)) next ≡ times part (n - counter) rest
times_goes_on part n counter rest next below read =
    ap (λ (r : Option (List ℕ)). r >>= times part (n - (counter + 1))) (sym read) ∙ sym (times_next part n counter rest below)

-- one isn't of its form
pub times_stops : (part : Part) (n counter : ℕ) (rest : List ℕ) → counter < n → part rest ≡ None → times part (n - counter) rest ≡ None
times_stops part n counter rest below none =
    times_next part n counter rest below ∙ ap (λ (r : Option (List ℕ)). r >>= times part (n - (counter + 1))) none
