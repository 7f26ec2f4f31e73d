use Rattle.std.proofs.Common.{subst}
use Rattle.gs_client.specs.Sends.{Sends}
use Rattle.gs_client_dialogue.specs.Dialogues.{FollowsDialogue}
use Rattle.gs_path.specs.Rules.{parse}
use Rattle.gs_shell_calls.specs.Asked.{append_to, done, on, with_file, write_to}
use Rattle.gs_shell_calls.specs.declared.answer.Answer.TheVariants as answers
use Rattle.gs_shell_calls.proofs.caller.Caller.ask.Goals as goal

pub returns-in-Write : goal.returns-in-Write
returns-in-Write g c =
    rw c.in-Write.is (subst (λ bytes. FollowsDialogue (Sends g.L.Link.Carries)
    (on (parse c.in-Write.path.now) (with_file (write_to c.args.self.now.client.chunk c.in-Write.offset bytes)) done)
    (c.args.self.now.client, c.args.link.now) c.write.result (c.write.new.self.client, c.write.new.link)) c.deref.ensures.value c.write.ensures)

pub returns-in-Append : goal.returns-in-Append
returns-in-Append g c =
    rw c.in-Append.is (subst (λ bytes. FollowsDialogue (Sends g.L.Link.Carries)
    (on (parse c.in-Append.path.now) (with_file (append_to c.args.self.now.client.chunk bytes)) answers.Number)
    (c.args.self.now.client, c.args.link.now) c.append.result (c.append.new.self.client, c.append.new.link)) c.deref-in-Append.ensures.value c.append.ensures)
