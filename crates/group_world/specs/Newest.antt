-- The newest answer to a number of a client, among answers as the world keeps them, and as a group does.
use Rattle.std.specs.Prelude.{ℕ, ◌+◌, ◌==◌, ◌&&◌, if◌then◌else◌, List, drop, fold, Option, Some, None, option_map}
use Rattle.std.specs.List.{enumerate_from}
use Rattle.values.specs.declared.ids.ClientId.{ClientId}
use Rattle.values.specs.declared.message.Answer.{Answer}
use Rattle.group_model.specs.Group.{is_client}
use Rattle.group_model.specs.Group as group
use Rattle.trace_model.specs.Driven.{last_answer}
use Rattle.group_world.specs.declared.answered.Answered.{Answered}

-- the answer found so far, after one more
abbrev pub found_after : ClientId → ℕ → Option (ℕ × Answer) → ℕ × Answered → Option (ℕ × Answer)
found_after c number found x = if is_client x.1.client c && (x.1.number == number) then Some (x.0, x.1.answer) else found

-- the last of these that is one to this number of the client, with its own number
abbrev pub last_kept : ClientId → ℕ → List (ℕ × Answered) → Option (ℕ × Answer)
last_kept c number answers = fold (found_after c number) None answers

-- without who gave it
abbrev pub without_giver : ℕ × group.Answered → ℕ × Answer
without_giver x = (x.0, x.1.answer)

-- the newest one to this number of the client among the answers of a group after the first n
abbrev pub newest_after : ClientId → ℕ → ℕ → List group.Answered → Option (ℕ × Answer)
newest_after c number n answers = option_map without_giver (last_answer c number (enumerate_from (n + 1) (drop n answers)))
