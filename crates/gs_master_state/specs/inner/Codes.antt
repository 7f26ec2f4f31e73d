-- That what is kept in memory can be compared by its parts.
use Rattle.std.specs.Prelude.{ℕ, Bool, List, refl}
use Rattle.std.specs.Coded.{Coded, code_by, coded×, coded_ℕ, coded_bool, coded_list}
use Rattle.std.specs.Ordering.{nat_cmp}
use Rattle.std.specs.FinMap as fin
use Rattle.gs_base.specs.contracts.numbers.ClientId as clients
use Rattle.gs_lock.specs.contracts.lock.Lock as locks
use Rattle.gs_lock.specs.declared.lock.Lock.{Lock}
use Rattle.gs_master_spec.specs.Replies.{client_cmp}
use Rattle.gs_master_spec.specs.Volatile.{Volatile}
use Rattle.gs_master_spec.specs.contracts.asking.Asking as asking
use Rattle.gs_master_spec.specs.contracts.pending.Pending as pending
use Rattle.gs_master_spec.specs.contracts.reply.KeptReply as replies
use Rattle.gs_master_spec.specs.declared.asking.Asking.{Asking}
use Rattle.gs_master_spec.specs.declared.pending.Pending.{Pending}
use Rattle.gs_master_spec.specs.declared.reply.KeptReply.{KeptReply}

abbrev pub coded_volatile : Coded Volatile
coded_volatile =
    code_by (Bool × (fin.FinMap nat_cmp Asking × (List ℕ × (List Pending × (List Lock × (fin.FinMap nat_cmp (List ℕ) × (fin.FinMap client_cmp KeptReply × List ℕ)))))))
    (coded× coded_bool (coded× (fin.code coded_ℕ asking.the_row.coded) (coded× (coded_list coded_ℕ) (coded× (coded_list pending.the_row.coded) (coded× (coded_list locks.the_row.coded)
    (coded× (fin.code coded_ℕ (coded_list coded_ℕ)) (coded× (fin.code clients.the_row.coded replies.the_row.coded) (coded_list coded_ℕ))))))))
    (λ v. (v.is_preparing, (v.moving, (v.unplaced, (v.pending, (v.locks, (v.restored, (v.replies, v.taken_out))))))))
    (λ p. record { is_preparing = p.0; moving = p.1.0; unplaced = p.1.1.0; pending = p.1.1.1.0; locks = p.1.1.1.1.0; restored = p.1.1.1.1.1.0; replies = p.1.1.1.1.1.1.0; taken_out = p.1.1.1.1.1.1.1 }) (λ _. refl)
