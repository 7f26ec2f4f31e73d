-- What nodes and messages are made of may go into another thread.
use denote.Param.Send.{IsSend, sendable}
use Rattle.std.proofs.Crossing.{crosses}
use Rattle.std.proofs.MapsCrossing as maps
use Rattle.gs_base.specs.contracts.config.Config as Config
use Rattle.gs_base.specs.contracts.epoch.EpochEnd as EpochEnd
use Rattle.gs_base.specs.contracts.members.Members as Members
use Rattle.gs_base.specs.contracts.numbers.Handle as Handle
use Rattle.gs_base.specs.contracts.numbers.Moment as Moment
use Rattle.gs_base.specs.contracts.numbers.ReqId as ReqId
use Rattle.gs_base.specs.contracts.numbers.Stamp as Stamp
use Rattle.gs_base.specs.contracts.refusal.PathText as PathText
use Rattle.gs_base.specs.contracts.refusal.Refusal as Refusal
use Rattle.gs_lease.specs.contracts.held.Grant as Grant
use Rattle.gs_lease.specs.contracts.view.View as View
use Rattle.gs_path.specs.contracts.name.Name as Name
use Rattle.gs_path.specs.contracts.path.Path as Path
use Rattle.gs_replica.specs.contracts.done.DoneTable as DoneTable
use Rattle.gs_replica.specs.contracts.image.Image as Image
use Rattle.gs_replica.specs.contracts.image.SealedImage as SealedImage
use Rattle.gs_replica.specs.contracts.op.EditOutcome as EditOutcome
use Rattle.gs_replica.specs.contracts.op.Op as Op

pub stamp : IsSend (Stamp.the_field).row
stamp = search (sendable, crosses) depth 200 fits 100000

pub moment : IsSend (Moment.the_field).row
moment = search (sendable, crosses) depth 200 fits 100000

pub members : IsSend (Members.the_field).row
members = search (sendable, crosses) depth 200 fits 100000

pub req_id : IsSend (ReqId.the_field).row
req_id = search (sendable, crosses) depth 200 fits 100000

pub handle : IsSend (Handle.the_field).row
handle = search (sendable, crosses) depth 200 fits 100000

pub path_text : IsSend (PathText.the_field).row
path_text = search (sendable, crosses) depth 200 fits 100000

pub refusal : IsSend (Refusal.the_field).row
refusal = search (sendable, crosses, path_text) depth 200 fits 100000

pub config : IsSend (Config.the_field).row
config = search (sendable, crosses) depth 200 fits 100000

pub epoch_end : IsSend (EpochEnd.the_field).row
epoch_end = search (sendable, crosses) depth 200 fits 100000

pub name : IsSend (Name.the_field).row
name = search (sendable, crosses) depth 200 fits 100000

pub path : IsSend (Path.the_field).row
path = search (sendable, crosses, name) depth 200 fits 100000

pub grant : IsSend (Grant.the_field).row
grant = search (sendable, crosses, stamp, members, moment) depth 200 fits 100000

pub view : IsSend (View.the_field).row
view = search (sendable, crosses, stamp, members, moment) depth 200 fits 100000

pub done_table : IsSend (DoneTable.the_field).row
done_table = search (sendable, crosses, maps.BTreeMap-send) depth 200 fits 100000

pub image : IsSend (Image.the_field).row
image = search (sendable, crosses, done_table) depth 200 fits 100000

pub sealed_image : IsSend (SealedImage.the_field).row
sealed_image = search (sendable, crosses, image) depth 200 fits 100000

pub edit_op : IsSend (Op.the_field).row
edit_op = search (sendable, crosses) depth 200 fits 100000

pub edit_outcome : IsSend (EditOutcome.the_field).row
edit_outcome = search (sendable, crosses) depth 200 fits 100000
