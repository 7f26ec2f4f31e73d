-- A call that names a deep path is refused alike, whatever is locked.
use Rattle.std.specs.Prelude.{◌≡◌, Bool, true, refl}
use Rattle.gs_msg.specs.declared.call.Call.{Call}
use Rattle.gs_master_spec.specs.Calls.{is_any_deep, ordered}
use Rattle.gs_master_spec.specs.State.{first_of}

pub whatever_is_locked : (failed rolling preparing one other : Bool) (call : Call) → is_any_deep call ≡ true → first_of (ordered failed rolling preparing one call) ≡ first_of (ordered failed rolling preparing other call)
whatever_is_locked failed rolling preparing one other call deep = rw deep refl
