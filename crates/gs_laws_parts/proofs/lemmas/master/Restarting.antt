-- A restart: nobody is asked any more, and a chunk that stands in no file is forgotten.
use Rattle.std.proofs.Common.{◌≡◌, ℕ, Bool, true, false, ◌||◌, None, refl, sym, ap, ◌∙◌}
use Rattle.std.specs.Prelude.{is_some}
use Rattle.std.specs.FinMap as fin
use Rattle.std.specs.Ordering.{nat_cmp}
use Rattle.std.proofs.lemmas.Bool.{false≢true}
use Rattle.gs_master_spec.specs.Chunks.{is_any_in}
use Rattle.gs_master_spec.specs.Durable.{Durable, is_listed}
use Rattle.gs_master_spec.specs.Handling.{restarted}
use Rattle.gs_master_spec.specs.State.{State, Log}
use Rattle.gs_laws_chunk.specs.machine.Machine.{Entry, ChunkWorld}
use Rattle.gs_laws_chunk.specs.machine.Events.{GivesUp, Goes, Rests, Retires, given_up, nobody, retired}
use Rattle.gs_laws_parts.specs.master.Laws.{Reaches, RestartsReach}
use Rattle.gs_laws_parts.specs.master.Showing.{ShowsDurable}

given_up_shows : (chunk : ℕ) (d : Durable) (e : Entry) → ShowsDurable chunk d e → ShowsDurable chunk d (record e { asked = nobody })
given_up_shows chunk d e k = record {
  epoch = k.epoch;
  how = k.how;
  upgrade = k.upgrade;
  rolling = k.rolling;
  given = k.given;
  counter = k.counter;
  behind = k.behind;
  past = k.past;
  settled = λ x has. (let s = k.settled x has in record { view = s.view; moving = s.moving; still = s.still });
  bare = k.bare;
  listed = k.listed;
  was = k.was;
  prepared = λ p is was. (let s = k.prepared p is was in record { view = s.view; holders = s.holders });
  restores = k.restores;
}

retired_shows : (chunk : ℕ) (d : Durable) (e : Entry) → is_listed d chunk ≡ false → ShowsDurable chunk d e → ShowsDurable chunk d (record e { asked = nobody; is_known = false })
retired_shows chunk d e out k = record {
  epoch = k.epoch;
  how = k.how;
  upgrade = k.upgrade;
  rolling = k.rolling;
  given = k.given;
  counter = k.counter;
  behind = k.behind;
  past = k.past;
  settled = λ x has. (let s = k.settled x has in record { view = s.view; moving = s.moving; still = s.still });
  bare = λ known none. absurd (false≢true known);
  listed = λ is. absurd (false≢true (sym out ∙ is));
  was = λ p is known. absurd (false≢true known);
  prepared = λ p is was. (let s = k.prepared p is was in record { view = s.view; holders = s.holders });
  restores = k.restores;
}

-- What is durable is shown; so is the master that is started on it. A chunk in a file is settled.
pub restart_reaches : (chunk : ℕ) (d : Durable) (log : Log) (w : ChunkWorld) → (is_listed d chunk ≡ true → is_some (fin.get d.chunks chunk) ≡ true) → ShowsDurable chunk d w.entry → Reaches chunk w (restarted d log)
restart_reaches chunk d log w settled k = by_listed (is_listed d chunk) refl
  where
    u : State
    u = restarted d log

    none_asked : fin.get u.volatile.moving chunk ≡ None
    none_asked = fin.get-empty nat_cmp chunk

    by_listed : (b : Bool) → is_listed d chunk ≡ b → Reaches chunk w u
    by_listed true is = record {
      world = given_up w;
      leads = Goes w GivesUp Rests tt;
      masters = (tt, refl);
      members = refl;
      epoch = refl;
      view = refl;
      known = record { born = refl; view = refl; top = refl; current = refl; stood = refl; came = λ known. known };
      sent = refl;
      shows = record {
        durable = given_up_shows chunk d w.entry k;
        memory = record {
          known = k.listed is ∙ sym (ap (λ b. b || false) is);
          asked = λ j. sym (ap (is_any_in j) none_asked);
          asking = λ a has. absurd (false≢true (sym (ap is_some none_asked) ∙ ap is_some has));
          sought = λ entry none. absurd (false≢true (sym (ap is_some none) ∙ settled is));
        };
      };
    }
    by_listed false is = record {
      world = retired w;
      leads = Goes w Retires Rests tt;
      masters = (tt, refl);
      members = refl;
      epoch = refl;
      view = refl;
      known = record { born = refl; view = refl; top = refl; current = refl; stood = refl; came = λ known. absurd (false≢true known) };
      sent = refl;
      shows = record {
        durable = retired_shows chunk d w.entry is k;
        memory = record {
          known = sym (ap (λ b. b || false) is);
          asked = λ j. sym (ap (is_any_in j) none_asked);
          asking = λ a has. absurd (false≢true (sym (ap is_some none_asked) ∙ ap is_some has));
          sought = λ entry none. absurd (false≢true (sym (ap (λ b. b || false) is) ∙ entry));
        };
      };
    }

pub restarts_reach : RestartsReach
restarts_reach chunk d log w kept k = restart_reaches chunk d log w (kept.settled chunk) k
