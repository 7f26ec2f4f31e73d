-- A new store stands as the plain machine that has done nothing.
use Rattle.std.proofs.Common.{arith, ◌≡◌, ◌∙◌, ◌++◌, ℕ, zero, suc, List, [], ◌∷◌, length, inl, refl, sym, ap, subst}
use Rattle.std.specs.Prelude.{None}
use Rattle.std.specs.FinMap as fin
use Rattle.std.specs.FinMap.Entries.{same_entries}
use Rattle.std.specs.List.{AllByRecursion}
use Rattle.std.specs.Ordering.{nat_cmp}
use Rattle.gs_base.specs.Told.{IsNumber}
use Rattle.gs_base.specs.declared.config.Config.{Config}
use Rattle.gs_edit.proofs.Tables.{paths_antisymmetric}
use Rattle.gs_edit.specs.Machine.{first}
use Rattle.gs_edit.specs.Mapped.{mapped_rows}
use Rattle.gs_edit.specs.Names.{blank}
use Rattle.gs_edit.specs.Table.{root_rows}
use Rattle.gs_laws_plain.specs.calm.Calm.{IsUpTo, bare}
use Rattle.gs_laws_master.proofs.lemmas.standing.StandingRuns.{starts_firm}
use Rattle.gs_laws_plain.specs.commands.Records.{machine_of}
use Rattle.gs_master_spec.specs.Durable.{start}
use Rattle.gs_master_spec.specs.Handling.{restarted}
use Rattle.gs_master_spec.specs.Replies.{client_cmp}
use Rattle.gs_master_spec.specs.declared.reply.KeptReply.{KeptReply}
use Rattle.gs_nodes.specs.Nodes.{silent_servers}
use Rattle.gs_path.specs.Path.{path_cmp, path_total}
use Rattle.gs_server.specs.Servers as servers
use Rattle.gs_server.specs.Servers.{Server}
use Rattle.gs_store.specs.Slots.{Slot}
use Rattle.gs_tree.specs.Find.{Rows}
use Rattle.gs_laws_scripts.specs.answers.Plain.{begins, new_log}
use Rattle.gs_laws_scripts.proofs.lemmas.plain.Delivering.{at_rest, node}
use Rattle.gs_laws_scripts.proofs.lemmas.plain.Lines.{Standing}
use Rattle.gs_laws_scripts.proofs.lemmas.plain.Serving.{client_at}
use Rattle.gs_laws_scripts.proofs.lemmas.plain.Telling.{IsAt}
use Rattle.gs_laws_scripts.specs.plain.Machines.{new_machine}

pub rows_of_blank : fin.entries blank.tree ≡ root_rows
rows_of_blank =
    same_entries path_cmp path_total paths_antisymmetric (fin.entries blank.tree) root_rows (fin.entries_sorted blank.tree) tt
    (λ q. sym (fin.get-entries blank.tree q) ∙ fin.get-from_entries path_total root_rows q)

shows_first : machine_of bare start ≡ first
shows_first = ap (λ (rows : Rows ℕ). record { tree = mapped_rows bare.now rows; kept = None }) rows_of_blank

no_length : {A : Type 0} (xs : List A) → length xs ≡ 0 → xs ≡ []
no_length [] h = refl
no_length (x ∷ xs) h = absurd (omega arith)

blank_slots : fin.entries (fin.empty {X = Slot} {R = nat_cmp}) ≡ []
blank_slots = no_length (fin.entries (fin.empty {X = Slot} {R = nat_cmp})) (sym (fin.len-entries (fin.empty {X = Slot} {R = nat_cmp})) ∙ fin.len-empty nat_cmp Slot)

-- ---- servers

all_with : {A : Type 0} (P : A → Type 0) (xs : List A) (x : A) → AllByRecursion P xs → P x → AllByRecursion P (xs ++ x ∷ [])
all_with P [] x all one = (one, tt)
all_with P (y ∷ ys) x all one = (all.0, all_with P ys x all.1 one)

one_more : {A : Type 0} (xs : List A) (x : A) → length (xs ++ x ∷ []) ≡ suc (length xs)
one_more [] x = refl
one_more (y ∷ ys) x = ap suc (one_more ys x)

all_new : (config : Config) (many : ℕ) → AllByRecursion (IsAt 0) (silent_servers config many)
all_new config zero = tt
all_new config (suc many) = all_with (IsAt 0) (silent_servers config many) (servers.new many config.block config.chunk) (all_new config many) (record { now = refl; blank = blank_slots })

so_many : (config : Config) (many : ℕ) → length (silent_servers config many) ≡ many
so_many config zero = refl
so_many config (suc many) = one_more (silent_servers config many) (servers.new many config.block config.chunk) ∙ ap suc (so_many config many)

nothing_answered : IsUpTo 0 (fin.get (fin.empty {X = KeptReply} {R = client_cmp}) (record { 0 = 1 }))
nothing_answered = subst (IsUpTo 0) (sym (fin.get-empty client_cmp (record { 0 = 1 }))) tt

pub begins_standing : (config : Config) → Standing config new_machine (begins config)
begins_standing config = record {
  at = record {
    s = restarted start new_log;
    all = silent_servers config config.servers;
    last = 0;
    used = 0;
    held = [];
    drops = 0;
    is = ap (λ p. (client_at config 0, p)) (at_rest config (record { 0 = 0 }) [] (restarted start new_log) (silent_servers config config.servers) (node 0 None None) 0 Rattle.gs_shell_desk.specs.Ways.last_count);
    less = omega arith;
    still = record { sound = refl; moving = refl; pending = refl; locks = refl; chunks = refl; prepared = refl; firm = starts_firm new_log };
    begun = refl;
    rolled = refl;
    shows = record { plain = shows_first; epoch = refl; hidden = inl refl };
    answered = record { recorded = nothing_answered; remembered = nothing_answered };
    many = so_many config config.servers;
    at = all_new config config.servers;
  };
  moment = zero_is_a_number;
}
  where
    zero_is_a_number : IsNumber 0
    zero_is_a_number = omega arith
