use Rattle.std.proofs.Common.{refl}
use Rattle.gs_laws_server.proofs.lemmas.servers.Sealing.{run_seals, run_images, copied_stands, copied_lives}
use Rattle.gs_laws_server.proofs.servers.sealed_images_stay_on_a_server.Goals as goal

pub returns-clause-stood : goal.returns-clause-stood
returns-clause-stood c = λ handle events s edits stood keep. run_seals s.block s.chunk handle events s edits refl refl keep stood

pub returns-clause-spared : goal.returns-clause-spared
returns-clause-spared c = λ handle events s keep spare. run_images handle events s keep spare

pub returns-clause-copied : goal.returns-clause-copied
returns-clause-copied c = λ handle edits events s next takes keep live. copied_stands handle edits events s next takes keep live

pub returns-clause-live : goal.returns-clause-live
returns-clause-live c = λ handle edits events s next takes keep spare. copied_lives handle edits events s next takes keep spare
