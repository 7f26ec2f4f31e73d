-- What the definitions promise, of each image.
use Rattle.std.specs.Prelude.{◌≡◌, ◌≢◌, ℕ, List, Result, Ok, Err}
use Rattle.std.specs.Borrow.{Bor}
use Rattle.std.specs.Global.{Vec}
use Rattle.gs_image.specs.Images.{AreParts, written}
use Rattle.gs_image.specs.Refused.{IsNoImage, Reads, Refuses, pointed}
use Rattle.gs_image.specs.declared.fault.ImageFault.{ImageFault}
use Rattle.gs_image.specs.declared.fault.ImageFault.TheVariants as fault

-- two images with the same bytes have the same parts
abbrev pub ImagesTellParts : Type 0
ImagesTellParts = (parts others : List (List ℕ)) → AreParts parts → AreParts others → written parts ≡ written others → parts ≡ others

-- these parts were read, or memory ran out
abbrev pub Gives : Result (Vec (Bor (List ℕ))) ImageFault → List (List ℕ) → Type 0
Gives (Ok read) parts = pointed read.items ≡ parts
Gives (Err f) parts = f ≡ fault.Memory

-- what is read of what was written is the same
abbrev pub WhatWasWrittenIsRead : Type 0
WhatWasWrittenIsRead = (result : Result (Vec (Bor (List ℕ))) ImageFault) (parts : List (List ℕ)) → AreParts parts → Reads result (written parts) → Gives result parts

-- bytes that are refused are no image, but where memory ran out
abbrev pub RefusedBytesAreNoImage : Type 0
RefusedBytesAreNoImage = (f : ImageFault) (bytes : List ℕ) → f ≢ fault.Memory → Refuses f bytes → IsNoImage bytes
