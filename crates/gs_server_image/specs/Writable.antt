-- Which servers can be written: those that as many bytes tell as a field has.
use Rattle.std.specs.Prelude.{◌≡◌, ◌<◌, ◌^◌, ℕ}
use Rattle.std.specs.FinMap as fin
use Rattle.gs_base.specs.Told.{IsNumber, IsRefusal, detail_text}
use Rattle.gs_base.specs.declared.refusal.Refusal.{Refusal}
use Rattle.gs_fields.specs.Writable.{IsText, AreLongItems}
use Rattle.gs_server.specs.declared.turn.KeptRefusal.{KeptRefusal}
use Rattle.gs_server.specs.Servers.{Server, store_of}
use Rattle.gs_server_image.specs.Encoding.{Refused, entries}
use Rattle.gs_store_image.specs.StoreWritable.{IsStoreTold, IsStore}

-- a length of two bytes can tell of its detail
abbrev pub IsTold : Refusal → Type 0
IsTold r = IsRefusal r × IsText (detail_text r)

abbrev pub IsKept : KeptRefusal → Type 0
IsKept k = IsNumber k.number × IsTold k.refusal

abbrev pub IsEntry : ℕ × KeptRefusal → Type 0
IsEntry e = (e.0 < 2 ^ 32) × IsKept e.1

abbrev pub AreRefused : Refused → Type 0
AreRefused m = AreLongItems IsEntry (entries m)

abbrev pub IsServerTold : Server → Type 0
IsServerTold s = IsStoreTold (store_of s) × AreRefused s.kept.refused

-- A server of this number and these sizes, of which all that a restart drops is empty.
pub record IsServer (me block chunk : ℕ) (s : Server) : Type 0 where
  pub me_is : s.me ≡ me
  pub store : IsStore block chunk (store_of s)
  pub no_lease : s.dropped.leases ≡ fin.empty
  pub refused : AreRefused s.kept.refused
