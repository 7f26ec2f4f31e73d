use Rattle.gs_desk_image.proofs.Alike.{alike}
use Rattle.gs_desk_image.proofs.promises.an_image_tells_its_desk.Goals as goal

pub returns : goal.returns
returns c = alike
