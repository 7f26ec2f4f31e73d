-- Command lines, and what they ask for.
use Rattle.std.specs.Prelude.{◌≡◌, ◌∷◌, [], true, false, codes, Some, None, refl}
use Rattle.std.specs.Char.{encode_utf8}
use Rattle.std.specs.Str.{chars}
use Rattle.clap.specs.Faults.{defaults_fault, fault_of, flags_fault, walk_fault}
use Rattle.clap.specs.Takes.{flags_pass, walk_passes}
use Rattle.clap.specs.Walk.{bundle_met, walked}
use Rattle.clap.specs.declared.error.kind.ErrorKind.TheVariants as kind
use Rattle.gs_keep_options.specs.Words.{app, looking_app, mode_app, sized_app, words_asked}

none_given : words_asked (codes "chunkkeep" ∷ codes "kept" ∷ [])
    ≡ Some (record { path = codes "kept"; sizes = record { servers = None; racks = None; replicas = None; chunk = None; block = None }; is_existing = false; mode = record { is_check = false; is_read_only = false; is_names = false; is_try = false; is_lab = false; upto = None; is_image = false; image_at = None } })
unfolding app mode_app looking_app sized_app walked bundle_met chars encode_utf8 flags_pass walk_passes flags_fault walk_fault defaults_fault
none_given = refl

some_given : words_asked (codes "chunkkeep" ∷ codes "--servers" ∷ codes "5" ∷ codes "kept" ∷ codes "--block=4" ∷ [])
    ≡ Some (record { path = codes "kept"; sizes = record { servers = Some 5; racks = None; replicas = None; chunk = None; block = Some 4 }; is_existing = false; mode = record { is_check = false; is_read_only = false; is_names = false; is_try = false; is_lab = false; upto = None; is_image = false; image_at = None } })
unfolding app mode_app looking_app sized_app walked bundle_met chars encode_utf8 flags_pass walk_passes flags_fault walk_fault defaults_fault
some_given = refl

no_file : words_asked (codes "chunkkeep" ∷ codes "--servers" ∷ codes "5" ∷ []) ≡ None
unfolding app mode_app looking_app sized_app walked bundle_met chars encode_utf8 flags_pass walk_passes flags_fault walk_fault defaults_fault
no_file = refl

two_files : words_asked (codes "chunkkeep" ∷ codes "one" ∷ codes "two" ∷ []) ≡ None
unfolding app mode_app looking_app sized_app walked bundle_met chars encode_utf8 flags_pass walk_passes flags_fault walk_fault defaults_fault
two_files = refl

given_twice : words_asked (codes "chunkkeep" ∷ codes "kept" ∷ codes "--racks" ∷ codes "2" ∷ codes "--racks" ∷ codes "2" ∷ []) ≡ None
unfolding app mode_app looking_app sized_app walked bundle_met chars encode_utf8 flags_pass walk_passes flags_fault walk_fault defaults_fault
given_twice = refl

help : words_asked (codes "chunkkeep" ∷ codes "--help" ∷ []) ≡ None
unfolding app mode_app looking_app sized_app walked bundle_met chars encode_utf8 flags_pass walk_passes flags_fault walk_fault defaults_fault
help = refl

other_option : words_asked (codes "chunkkeep" ∷ codes "kept" ∷ codes "--threads" ∷ []) ≡ None
unfolding app mode_app looking_app sized_app walked bundle_met chars encode_utf8 flags_pass walk_passes flags_fault walk_fault defaults_fault
other_option = refl

value-no_number : words_asked (codes "chunkkeep" ∷ codes "kept" ∷ codes "--racks" ∷ codes "two" ∷ []) ≡ None
unfolding app mode_app looking_app sized_app walked bundle_met chars encode_utf8 flags_pass walk_passes flags_fault walk_fault defaults_fault
value-no_number = refl

existing : words_asked (codes "chunkkeep" ∷ codes "--existing" ∷ codes "kept" ∷ [])
    ≡ Some (record { path = codes "kept"; sizes = record { servers = None; racks = None; replicas = None; chunk = None; block = None }; is_existing = true; mode = record { is_check = false; is_read_only = false; is_names = false; is_try = false; is_lab = false; upto = None; is_image = false; image_at = None } })
unfolding app mode_app looking_app sized_app walked bundle_met chars encode_utf8 flags_pass walk_passes flags_fault walk_fault defaults_fault
existing = refl

read_only_upto : words_asked (codes "chunkkeep" ∷ codes "kept" ∷ codes "--read-only" ∷ codes "--upto" ∷ codes "7" ∷ [])
    ≡ Some (record { path = codes "kept"; sizes = record { servers = None; racks = None; replicas = None; chunk = None; block = None }; is_existing = false; mode = record { is_check = false; is_read_only = true; is_names = false; is_try = false; is_lab = false; upto = Some 7; is_image = false; image_at = None } })
unfolding app mode_app looking_app sized_app walked bundle_met chars encode_utf8 flags_pass walk_passes flags_fault walk_fault defaults_fault
read_only_upto = refl

names_behind_a_line : words_asked (codes "chunkkeep" ∷ codes "kept" ∷ codes "--names" ∷ codes "--upto" ∷ codes "7" ∷ [])
    ≡ Some (record { path = codes "kept"; sizes = record { servers = None; racks = None; replicas = None; chunk = None; block = None }; is_existing = false; mode = record { is_check = false; is_read_only = false; is_names = true; is_try = false; is_lab = false; upto = Some 7; is_image = false; image_at = None } })
unfolding app mode_app looking_app sized_app walked bundle_met chars encode_utf8 flags_pass walk_passes flags_fault walk_fault defaults_fault
names_behind_a_line = refl

tried : words_asked (codes "chunkkeep" ∷ codes "kept" ∷ codes "--try" ∷ [])
    ≡ Some (record { path = codes "kept"; sizes = record { servers = None; racks = None; replicas = None; chunk = None; block = None }; is_existing = false; mode = record { is_check = false; is_read_only = false; is_names = false; is_try = true; is_lab = false; upto = None; is_image = false; image_at = None } })
unfolding app mode_app looking_app sized_app walked bundle_met chars encode_utf8 flags_pass walk_passes flags_fault walk_fault defaults_fault
tried = refl

an_image : words_asked (codes "chunkkeep" ∷ codes "kept" ∷ codes "--image" ∷ [])
    ≡ Some (record { path = codes "kept"; sizes = record { servers = None; racks = None; replicas = None; chunk = None; block = None }; is_existing = false; mode = record { is_check = false; is_read_only = false; is_names = false; is_try = false; is_lab = false; upto = None; is_image = true; image_at = None } })
unfolding app mode_app looking_app sized_app walked bundle_met chars encode_utf8 flags_pass walk_passes flags_fault walk_fault defaults_fault
an_image = refl

an_image_at : words_asked (codes "chunkkeep" ∷ codes "kept" ∷ codes "--image-at=10" ∷ [])
    ≡ Some (record { path = codes "kept"; sizes = record { servers = None; racks = None; replicas = None; chunk = None; block = None }; is_existing = false; mode = record { is_check = false; is_read_only = false; is_names = false; is_try = false; is_lab = false; upto = None; is_image = false; image_at = Some 10 } })
unfolding app mode_app looking_app sized_app walked bundle_met chars encode_utf8 flags_pass walk_passes flags_fault walk_fault defaults_fault
an_image_at = refl

help_is_shown : fault_of app (codes "chunkkeep" ∷ codes "--help" ∷ []) ≡ kind.DisplayHelp ∷ []
unfolding app mode_app looking_app sized_app walked bundle_met chars encode_utf8 flags_pass walk_passes flags_fault walk_fault defaults_fault
help_is_shown = refl

version_is_shown : fault_of app (codes "chunkkeep" ∷ codes "--version" ∷ []) ≡ kind.DisplayVersion ∷ []
unfolding app mode_app looking_app sized_app walked bundle_met chars encode_utf8 flags_pass walk_passes flags_fault walk_fault defaults_fault
version_is_shown = refl

version_beside_a_file : words_asked (codes "chunkkeep" ∷ codes "kept" ∷ codes "--version" ∷ []) ≡ None
unfolding app mode_app looking_app sized_app walked bundle_met chars encode_utf8 flags_pass walk_passes flags_fault walk_fault defaults_fault
version_beside_a_file = refl
