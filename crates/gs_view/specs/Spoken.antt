-- Who has answered a proposal, with a yes or a no.
use Rattle.std.specs.Prelude.{◌≡◌, ◌||◌, ℕ, Bool, true, false, [], ◌∷◌, None, Some, is_some, if◌then◌else◌, replicate, slice_set, refl}
use Rattle.std.specs.List.{list_all}
use Rattle.gs_base.specs.Members.{servers_where, is_member, with_member, without_member}
use Rattle.gs_view.specs.Choice.{answer_of}
use Rattle.gs_view.specs.declared.poll.Poll.{Poll}

abbrev pub no_answers : Poll
no_answers = record { counts = replicate 16 None; refused = [] }

abbrev pub has_spoken : Poll → ℕ → Bool
has_spoken answers server = is_some (answer_of answers.counts server) || is_member answers.refused server

-- a yes stands in the place of a no
abbrev pub with_yes : Poll → ℕ → ℕ → Poll
with_yes answers server count = record { counts = slice_set answers.counts server (Some count); refused = without_member answers.refused server }

-- a no after a yes changes nothing
abbrev pub with_no : Poll → ℕ → Poll
with_no answers server =
    if is_some (answer_of answers.counts server) then answers else (record { counts = answers.counts; refused = with_member answers.refused server })

-- one says no and then yes, another no; a third hasn't spoken
abbrev some_spoken : Poll
some_spoken = with_no (with_yes (with_no no_answers 0) 0 7) 2

spoken : list_all (has_spoken some_spoken) (0 ∷ 2 ∷ []) ≡ true
unfolding servers_where
spoken = refl

not_all : list_all (has_spoken some_spoken) (0 ∷ 1 ∷ 2 ∷ []) ≡ false
unfolding servers_where
not_all = refl
