use Rattle.gs_replica.proofs.Listing.{count_of_list}
use Rattle.gs_replica.proofs.Requests.{first_taken, more_edits, taken_once, listed}
use Rattle.gs_replica.proofs.promises.lists_are_taken_once.Goals as goal

pub returns-clause-count : goal.returns-clause-count
returns-clause-count c chunk edits = count_of_list chunk edits

pub returns-clause-more : goal.returns-clause-more
returns-clause-more c chunk edits more = more_edits chunk edits more

pub returns-clause-beginning : goal.returns-clause-beginning
returns-clause-beginning c chunk edits more all = first_taken chunk edits more all

pub returns-clause-once : goal.returns-clause-once
returns-clause-once c chunk before behind e all = taken_once chunk before behind e all

pub returns-clause-listed : goal.returns-clause-listed
returns-clause-listed c chunk edits client d got = listed chunk edits client d got
