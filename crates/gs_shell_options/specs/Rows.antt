-- Command lines, and what they say.
use Rattle.std.specs.Prelude.{◌≡◌, ◌∷◌, ℕ, Bool, true, false, Option, [], codes, Some, None, refl}
use Rattle.std.specs.Char.{encode_utf8}
use Rattle.std.specs.Str.{chars}
use Rattle.clap.specs.Faults.{defaults_fault, flags_fault, walk_fault}
use Rattle.clap.specs.Takes.{flags_pass, walk_passes}
use Rattle.clap.specs.Walk.{bundle_met, walked}
use Rattle.gs_shell_options.specs.Options.{Asked, app, rows_sizes, words_options}

unfoldable in_threads : Bool → ℕ → ℕ → ℕ → ℕ → ℕ → Option Asked
in_threads threads servers racks replicas block chunk =
    Some (record { servers = servers; racks = racks; replicas = replicas; block = block; chunk = chunk }, threads)

unfoldable sizes : ℕ → ℕ → ℕ → ℕ → ℕ → Option Asked
sizes = in_threads false

none_given : words_options (codes "chunkstore" ∷ []) ≡ sizes 3 1 3 65536 67108864
unfolding sizes in_threads app rows_sizes walked bundle_met chars encode_utf8 flags_pass walk_passes flags_fault walk_fault defaults_fault
none_given = refl

all_given : words_options (codes "chunkstore" ∷ codes "--servers" ∷ codes "5" ∷ codes "--racks=2" ∷ codes "--replicas" ∷ codes "+2" ∷ codes "--chunk" ∷ codes "16" ∷ codes "--block=4" ∷ codes "--" ∷ []) ≡ sizes 5 2 2 4 16
unfolding sizes in_threads app rows_sizes walked bundle_met chars encode_utf8 flags_pass walk_passes flags_fault walk_fault defaults_fault
all_given = refl

given_twice : words_options (codes "chunkstore" ∷ codes "--racks" ∷ codes "2" ∷ codes "--racks" ∷ codes "2" ∷ []) ≡ None
unfolding app rows_sizes walked bundle_met chars encode_utf8 flags_pass walk_passes flags_fault walk_fault defaults_fault
given_twice = refl

threads : words_options (codes "chunkstore" ∷ codes "--threads" ∷ []) ≡ in_threads true 3 1 3 65536 67108864
unfolding in_threads app rows_sizes walked bundle_met chars encode_utf8 flags_pass walk_passes flags_fault walk_fault defaults_fault
threads = refl

help : words_options (codes "chunkstore" ∷ codes "--help" ∷ []) ≡ None
unfolding app rows_sizes walked bundle_met chars encode_utf8 flags_pass walk_passes flags_fault walk_fault defaults_fault
help = refl

other_option : words_options (codes "chunkstore" ∷ codes "--server" ∷ codes "3" ∷ []) ≡ None
unfolding app rows_sizes walked bundle_met chars encode_utf8 flags_pass walk_passes flags_fault walk_fault defaults_fault
other_option = refl

other_word : words_options (codes "chunkstore" ∷ codes "servers" ∷ []) ≡ None
unfolding app rows_sizes walked bundle_met chars encode_utf8 flags_pass walk_passes flags_fault walk_fault defaults_fault
other_word = refl

value-missing : words_options (codes "chunkstore" ∷ codes "--servers" ∷ []) ≡ None
unfolding app rows_sizes walked bundle_met chars encode_utf8 flags_pass walk_passes flags_fault walk_fault defaults_fault
value-missing = refl

value-no_number : words_options (codes "chunkstore" ∷ codes "--racks" ∷ codes "two" ∷ []) ≡ None
unfolding app rows_sizes walked bundle_met chars encode_utf8 flags_pass walk_passes flags_fault walk_fault defaults_fault
value-no_number = refl

value-signed : words_options (codes "chunkstore" ∷ codes "--racks=-1" ∷ []) ≡ None
unfolding app rows_sizes walked bundle_met chars encode_utf8 flags_pass walk_passes flags_fault walk_fault defaults_fault
value-signed = refl

value-too_great : words_options (codes "chunkstore" ∷ codes "--racks" ∷ codes "18446744073709551616" ∷ []) ≡ None
unfolding app rows_sizes walked bundle_met chars encode_utf8 flags_pass walk_passes flags_fault walk_fault defaults_fault
value-too_great = refl

replicas-above_servers : words_options (codes "chunkstore" ∷ codes "--servers" ∷ codes "2" ∷ []) ≡ None
unfolding app rows_sizes walked bundle_met chars encode_utf8 flags_pass walk_passes flags_fault walk_fault defaults_fault
replicas-above_servers = refl

chunk-no_whole_blocks : words_options (codes "chunkstore" ∷ codes "--chunk" ∷ codes "10" ∷ codes "--block" ∷ codes "4" ∷ []) ≡ None
unfolding app rows_sizes walked bundle_met chars encode_utf8 flags_pass walk_passes flags_fault walk_fault defaults_fault
chunk-no_whole_blocks = refl

chunk-above_1024_blocks : words_options (codes "chunkstore" ∷ codes "--chunk" ∷ codes "1025" ∷ codes "--block" ∷ codes "1" ∷ []) ≡ None
unfolding app rows_sizes walked bundle_met chars encode_utf8 flags_pass walk_passes flags_fault walk_fault defaults_fault
chunk-above_1024_blocks = refl

block-zero : words_options (codes "chunkstore" ∷ codes "--block" ∷ codes "0" ∷ []) ≡ None
unfolding app rows_sizes walked bundle_met chars encode_utf8 flags_pass walk_passes flags_fault walk_fault defaults_fault
block-zero = refl
