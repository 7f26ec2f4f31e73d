use Rattle.gs_client.proofs.file.OpenFile+Writing.append.Goals as goal

pub returns-clause-asks : goal.returns-clause-asks
returns-clause-asks g c = rw (← c.self.view_is) (rw c.chunk.ensures.is at c.append-result.ensures)
