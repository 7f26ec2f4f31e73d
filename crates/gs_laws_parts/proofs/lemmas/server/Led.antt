-- Views in which a server may number.
use Rattle.std.proofs.Common.{◌≡◌, ◌∙◌, ◌≤◌, ℕ, Some, true, arith, inl, inr, subst}
use Rattle.std.proofs.lemmas.Bool.{cases_eq}
use Rattle.gs_laws_chunk.specs.machine.Machine.{Known, ChunkWorld}
use Rattle.gs_laws_chunk.proofs.lemmas.machine.Known.{Later, false_true}
use Rattle.gs_laws_chunk.proofs.lemmas.machine.Worlds.{WorldOk}
use Rattle.gs_laws_parts.specs.server.Answering.{IsLed}

-- such a view was settled, behind that of the birth
pub led_view : (w : ChunkWorld) → WorldOk w → (t me : ℕ) → t ≤ w.known.view → w.known.holder t ≡ Some me → IsLed w.known t
led_view w ok t me within holder =
    let member : w.known.members t me ≡ true = (ok.known).held t me within holder in
    let stood : w.known.stood t ≡ true = (ok.known).peopled t me within member in
    let low = (ok.known).early t stood in record {
      by = me;
      holder = holder;
      stood = stood;
      late = elim (cases_eq t w.known.born) [
        | inl same ↦ absurd (false_true (w.known.members w.known.born me) ((ok.known).first me) (subst (λ n. w.known.members n me ≡ true) same member))
        | inr differs ↦ omega arith
      ];
    }

-- and so it stays
pub led_on : (a b : Known) → Later a b → (t : ℕ) → t ≤ a.view → IsLed a t → IsLed b t
led_on a b later t within led = record { by = led.by; holder = later.holder t within ∙ led.holder; stood = later.stood t within ∙ led.stood; late = (let l = led.late in let same = later.born in omega arith) }
