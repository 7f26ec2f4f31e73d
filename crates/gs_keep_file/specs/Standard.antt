-- Files that are none of standard input, output and error.
use Rattle.std.specs.Prelude.{ℤ, pos, ◌<ℤ◌}
use Rattle.std.specs.Fd.{file_raw_fd}
use Rattle.std.specs.declared.fs.File.{File}

-- its descriptor is above 2
abbrev pub IsBeyond : File → Type 0
IsBeyond file = pos 2 <ℤ file_raw_fd file
