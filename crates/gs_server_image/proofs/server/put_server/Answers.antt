use Rattle.std.proofs.Common.{◌≡◌, ◌++◌, subst}
use Rattle.gs_fields.proofs.Steps.{puts_two}
use Rattle.gs_server.specs.Servers.{store_of}
use Rattle.gs_server_image.specs.Encoding.{refused}
use Rattle.gs_server_image.specs.Writable.{AreRefused}
use Rattle.gs_server_image.proofs.server.put_server.Goals as goal
use Rattle.gs_store.specs.Stores.{Store}
use Rattle.gs_store_image.specs.StoreEncoding.{store}
use Rattle.gs_store_image.specs.StoreWritable.{IsStoreTold}

pub returns : goal.returns
returns c =
    let s = c.args.server.now in
    puts_two (IsStoreTold (store_of s)) (AreRefused s.kept.refused) (store (store_of s)) (refused s.kept.refused) c.args.out.now.items c.put_store.new.out.items c.put_refused.new.out.items c.put_refused.result
    (subst (λ (t : Store). IsStoreTold t × (c.put_store.new.out.items ≡ c.args.out.now.items ++ store t)) c.store.ensures c.in_ok-put_store.ensures) c.put_refused.ensures
