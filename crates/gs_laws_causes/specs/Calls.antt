-- The calls of a client.
use Rattle.std.specs.Prelude.{ℕ, List, Bool, Option}
use Rattle.gs_path.specs.Path.{Path}
use Rattle.gs_msg.specs.declared.answer.Copied.{Copied}
use Rattle.gs_msg.specs.declared.answer.Phase.{Phase}
use Rattle.gs_msg.specs.declared.answer.Status.{Status}
use Rattle.gs_msg.specs.declared.lists.ListedName.{ListedName}
use Rattle.gs_client_part.specs.declared.located.Located.{Located}
use Rattle.gs_client.specs.declared.reading.Stat.{Stat}
use Rattle.gs_client.specs.Files.{open_call}
use Rattle.gs_client.specs.Opened.{File}
use Rattle.gs_client.specs.Reading.{read_call, digest_call, stat_call}
use Rattle.gs_client.specs.Trees as trees
use Rattle.gs_client.specs.Trees.{Call}
use Rattle.gs_client.specs.Writing.{write_call, append_call}

-- something of each of them
pub record OfEachCall (P : (A : Type 0) → Call A → Type 0) : Type 0 where
  pub mkdirs : (path : Path) → P (Unit {0}) (trees.mkdirs_call path)
  pub create : (path : Path) → P (Unit {0}) (trees.create_call path)
  pub rename : (from to : Path) → P (Unit {0}) (trees.rename_call from to)
  pub delete : (path : Path) (recursive : Bool) → P (Option Path) (trees.delete_call path recursive)
  pub undelete : (path : Path) → P Path (trees.undelete_call path)
  pub snapshot : (from to : Path) → P (Unit {0}) (trees.snapshot_call from to)
  pub list : (path : Path) → P (List ListedName) (trees.list_call path)
  pub status : (path : Path) → P Status (trees.status_call path)
  pub scan : P (ℕ × ℕ) trees.scan_call
  pub replicate : P (Option Copied) trees.replicate_call
  pub query : P (Phase × ℕ) trees.query_call
  pub prepare_begin : P ℕ trees.prepare_begin_call
  pub prepare_commit : P ℕ trees.prepare_commit_call
  pub prepare_abort : P ℕ trees.prepare_abort_call
  pub finalize : P ℕ trees.finalize_call
  pub rollback_begin : P ℕ trees.rollback_begin_call
  pub rollback_commit : P ℕ trees.rollback_commit_call
  pub open_file : (path : Path) → P File (open_call path)
  pub stat : (size : ℕ) (path : Path) → P Stat (stat_call size path)
  pub read : (size : ℕ) (path : Path) (opened : Option ℕ) (located : Option Located) (offset many : ℕ) → P (List ℕ × Option Located) (read_call size path opened located offset many)
  pub digest : (path : Path) (opened : Option ℕ) (located : Option Located) (index block : ℕ) → P (List ℕ × Option Located) (digest_call path opened located index block)
  pub write : (size : ℕ) (path : Path) (opened : Option ℕ) (offset : ℕ) (bytes : List ℕ) → P (Unit {0}) (write_call size path opened offset bytes)
  pub append : (size : ℕ) (path : Path) (opened : Option ℕ) (bytes : List ℕ) → P ℕ (append_call size path opened bytes)
