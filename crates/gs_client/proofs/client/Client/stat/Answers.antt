use Rattle.std.proofs.Common.{◌≡◌, rules, Ok, Err, None, refl}
use Rattle.gs_client_dialogue.specs.Dialogues.{Say, Grow, both}
use Rattle.gs_client_dialogue.proofs.Talks.{follows_both, follows_none}
use Rattle.gs_msg.specs.declared.call.Call.TheVariants as calls
use Rattle.gs_client.specs.declared.reading.Stat.TheVariants as stats
use Rattle.gs_client.proofs.Steps.{says_err, says_ok}
use Rattle.gs_client.specs.Sends.{Sends}
use Rattle.gs_client.specs.Replies.{status_in}
use Rattle.gs_client.specs.Trees.{look}
use Rattle.gs_client.specs.Looking.{count_in}
use Rattle.gs_client.specs.Reading.{length_call, stat_of}
use Rattle.gs_client.proofs.client.Client.stat.Goals as goal

pub returns-in_err-look : goal.returns-in_err-look
returns-in_err-look g c =
    let e : c.from_residual.result ≡ Err c.in_err-look.field-0.0 = search rules in
    rw e (follows_none (Sends g.L.Link.Carries) (Grow (look (calls.Status c.args.path.now) status_in)) (stat_of c.args.self.now.chunk c.args.path.now) _ _ _ c.in_err-look.ensures)

pub returns-in-Directory : goal.returns-in-Directory
returns-in-Directory g c =
    follows_both (Sends g.L.Link.Carries) (Grow (look (calls.Status c.args.path.now) status_in)) (stat_of c.args.self.now.chunk c.args.path.now) _ _ _ _ _ (rw c.in-Directory.is at c.in_ok-look.ensures) (refl, refl)

pub returns-in_err-count_in : goal.returns-in_err-count_in
returns-in_err-count_in g c =
    let e : c.from_residual-in_err-count_in.result ≡ Err c.in_err-count_in.field-0.0 = search rules in
    rw e (follows_both (Sends g.L.Link.Carries) (Grow (look (calls.Status c.args.path.now) status_in)) (stat_of c.args.self.now.chunk c.args.path.now) _ _ _ _ _ (rw c.in-File.is at c.in_ok-look.ensures)
    (says_err (Sends g.L.Link.Carries) (count_in c.in-File.chunks) (λ count. both (length_call c.args.self.now.chunk c.args.path.now None count) (λ l. Say (Ok (stats.File l.0 c.in-File.chunks)))) _ _
    (rw c.as_slice.ensures at c.in_err-count_in.ensures.is)))

pub returns-in_err-length : goal.returns-in_err-length
returns-in_err-length g c =
    let e : c.from_residual-in_err-length.result ≡ Err c.in_err-length.field-0.0 = search rules in
    let ended = rw c.chunk-size.ensures.is at c.in_err-length.ensures.is in
    rw e (follows_both (Sends g.L.Link.Carries) (Grow (look (calls.Status c.args.path.now) status_in)) (stat_of c.args.self.now.chunk c.args.path.now) _ _ _ _ _ (rw c.in-File.is at c.in_ok-look.ensures)
    (says_ok (Sends g.L.Link.Carries) (count_in c.in-File.chunks) (λ count. both (length_call c.args.self.now.chunk c.args.path.now None count) (λ l. Say (Ok (stats.File l.0 c.in-File.chunks)))) _ _ _ _
    (rw c.as_slice.ensures at c.in_ok-count_in.ensures.is)
    (follows_none (Sends g.L.Link.Carries) (length_call c.args.self.now.chunk c.args.path.now None c.in_ok-count_in.field-0) _ _ _ _ ended)))

pub returns : goal.returns
returns g c =
    let ended = rw c.chunk-size.ensures.is at c.in_ok-length.ensures.is in
    follows_both (Sends g.L.Link.Carries) (Grow (look (calls.Status c.args.path.now) status_in)) (stat_of c.args.self.now.chunk c.args.path.now) _ _ _ _ _ (rw c.in-File.is at c.in_ok-look.ensures)
    (says_ok (Sends g.L.Link.Carries) (count_in c.in-File.chunks) (λ count. both (length_call c.args.self.now.chunk c.args.path.now None count) (λ l. Say (Ok (stats.File l.0 c.in-File.chunks)))) _ _ _ _
    (rw c.as_slice.ensures at c.in_ok-count_in.ensures.is)
    (follows_both (Sends g.L.Link.Carries) (length_call c.args.self.now.chunk c.args.path.now None c.in_ok-count_in.field-0) _ _ _ _ _ _ ended (refl, refl)))
