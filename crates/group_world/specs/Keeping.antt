-- What the world keeps of a batch, as it stands in code.
use Rattle.std.specs.Prelude.{ℕ, List, [], ◌∷◌}
use Rattle.values.specs.declared.ids.ClientId.{ClientId}
use Rattle.values.specs.declared.message.Answer.{Answer}
use Rattle.values.specs.declared.peer.PeerMsg.{PeerMsg}
use Rattle.group_world.specs.declared.answered.Answered.{Answered}
use Rattle.group_world.specs.declared.post.Fate.TheVariants.{Waiting}
use Rattle.group_world.specs.declared.post.Letter.{Letter}
use Rattle.group_world.specs.declared.told.Told.{Told}

-- the letters of these messages, each with its frame
abbrev pub letters_of : ℕ → List (ℕ × PeerMsg) → List (List ℕ) → List Letter
letters_of from [] frames = []
letters_of from (s ∷ ss) [] = []
letters_of from (s ∷ ss) (frame ∷ frames) = record { from = from; to = s.0; frame = frame; fate = Waiting } ∷ letters_of from ss frames

abbrev pub kept_answer : ClientId × ℕ × Answer → Answered
kept_answer (client, number, answer) = record { client = client; number = number; answer = answer }

abbrev pub kept_conf : ℕ × ℕ × List ℕ → Told
kept_conf (index, margin, voters) = record { margin = margin; voters = voters }
