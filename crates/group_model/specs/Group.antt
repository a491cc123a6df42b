-- A group: what its world keeps of the replicas that run, of all that they sent and answered, and of the clients.
use Rattle.std.specs.Prelude.{ℕ, zero, suc, ◌+◌, ◌*◌, ◌==◌, nat_le, not, max, Bool, false, if◌then◌else◌, List, [], ◌∷◌, ◌++◌, map, length, fold, filter, find, count_by, slice_get, bytes_eq, Option, None, option_map, option_to_list, unwrap_or}
use Rattle.std.specs.List.{range_with_len, list_all}
use Rattle.group_quorum.specs.Conf.{Conf}
use Rattle.group_quorum.specs.Voters.{is_in}
use Rattle.values.specs.declared.batch.Batch.{Batch}
use Rattle.values.specs.declared.entry.LogEntry.{LogEntry}
use Rattle.values.specs.declared.entry.Point.{Point}
use Rattle.values.specs.declared.event.Event.{Event}
use Rattle.values.specs.declared.ids.ClientId.{ClientId}
use Rattle.values.specs.declared.message.Answer.{Answer}
use Rattle.values.specs.declared.want.Report.{Report}
use Rattle.schedule_model.specs.Client.{Core, Flight}

-- a message as it was sent
pub record Sent (M : Type 0) : Type 0 where
  pub from : ℕ
  pub to : ℕ
  pub message : M

-- an answer as it was given
pub record Answered : Type 0 where
  pub replica : ℕ
  pub client : ClientId
  pub number : ℕ
  pub answer : Answer

-- an answer that a client heard: what it had in flight, and what it then reported
pub record Hearing : Type 0 where
  pub client : ClientId
  pub flight : Option Flight
  pub answered : Answered
  pub report : Option Report

-- what the begin event says: the greatest number of clients that are known, and the first configuration
pub record Setup : Type 0 where
  pub limit : ℕ
  pub first : Conf

pub record Group (M F : Type 0) : Type 0 where
  -- once the group has begun
  pub setup : Option Setup
  -- in rising order
  pub running : List ℕ
  -- every id that was ever used
  pub started : List ℕ
  -- all that was ever sent, the first with number 1
  pub messages : List (Sent M)
  -- the numbers of the messages that are lost, and of those that are not and were never delivered
  pub lost : List ℕ
  pub waiting : List ℕ
  -- all that was ever answered, the first with number 1
  pub answers : List Answered
  pub cores : List (ClientId × Core)
  -- all that clients heard, the newest first
  pub hearings : List Hearing
  -- the replica of each saved state, and of each accepted roll
  pub saves : List ℕ
  pub rolled : List ℕ
  -- the first configuration, and that of each Members entry that a batch tells
  pub confs : List Conf
  -- the greatest committed index that a batch tells
  pub committed : ℕ
  -- all events, the newest first
  pub past : List Event
  pub field : F

-- nothing has started
abbrev pub nothing_started : {M F : Type 0} → F → Group M F
nothing_started field =
    record {
      setup = None;
      running = [];
      started = [];
      messages = [];
      lost = [];
      waiting = [];
      answers = [];
      cores = [];
      hearings = [];
      saves = [];
      rolled = [];
      confs = [];
      committed = 0;
      past = [];
      field = field;
    }

-- what has this number, from 1
abbrev pub numbered : {A : Type 0} → List A → ℕ → Option A
numbered xs zero = None
numbered xs (suc k) = slice_get xs k

abbrev pub is_client : ClientId → ClientId → Bool
is_client a b = bytes_eq a.0 b.0

-- the core of a client, where it has one
abbrev pub core_of : List (ClientId × Core) → ClientId → Option Core
core_of cores c = option_map (λ x. x.1) (find (λ x. is_client x.0 c) cores)

abbrev pub put_core : List (ClientId × Core) → ClientId → Core → List (ClientId × Core)
put_core [] c core = (c, core) ∷ []
put_core (x ∷ xs) c core = if is_client x.0 c then (c, core) ∷ xs else x ∷ put_core xs c core

-- how many states of a replica were saved
abbrev pub saves_of : List ℕ → ℕ → ℕ
saves_of saves r = count_by (λ v. v == r) saves

-- whether the addressee of the message of this number runs
abbrev pub is_addressed : {M F : Type 0} → Group M F → ℕ → Bool
is_addressed g k = unwrap_or (option_map (λ m. is_in g.running m.to) (numbered g.messages k)) false

-- the least number of a message that was never delivered, is not lost and whose addressee runs
abbrev pub next_message : {M F : Type 0} → Group M F → Option ℕ
next_message g = find (is_addressed g) g.waiting

-- numbers without this one
abbrev pub but : ℕ → List ℕ → List ℕ
but k ks = filter (λ n. not (n == k)) ks

-- at most twice its margin of a configuration's voters were rolled back
abbrev pub bears : List ℕ → Conf → Bool
bears rolled c = nat_le (count_by (is_in rolled) c.voters) (2 * c.margin)

-- the same of each configuration that was told
abbrev pub is_within : {M F : Type 0} → Group M F → Bool
is_within g = list_all (bears g.rolled) g.confs

-- the greatest committed index that a batch tells: of its commits, or of the table that it took
abbrev pub taken_index : Option Point → ℕ
taken_index taken = unwrap_or (option_map (λ (p : Point). p.index) taken) 0

abbrev pub committed_in : Batch → ℕ
committed_in b = fold (λ (n : ℕ) (c : ℕ × LogEntry). max n c.0) (taken_index b.taken) b.commits

abbrev pub conf_told : ℕ × ℕ × List ℕ → Conf
conf_told (index, margin, voters) = record { margin = margin; voters = voters }

abbrev pub sent_by : {M : Type 0} → ℕ → ℕ × M → Sent M
sent_by r (to, message) = record { from = r; to = to; message = message }

abbrev pub answered_by : ℕ → ClientId × ℕ × Answer → Answered
answered_by r (client, number, answer) = record { replica = r; client = client; number = number; answer = answer }

-- what the group keeps of a batch of the replica r, whose messages in full are `sent`
abbrev pub keeps : {M F : Type 0} → Group M F → ℕ → Batch → List (ℕ × M) → F → Group M F
keeps g r b sent field =
    record g {
      messages = g.messages ++ map (sent_by r) sent;
      waiting = g.waiting ++ range_with_len (length g.messages + 1) (length sent);
      answers = g.answers ++ map (answered_by r) b.answers;
      saves = map (λ k. r) (option_to_list b.saved) ++ g.saves;
      confs = map conf_told b.members ++ g.confs;
      committed = max g.committed (committed_in b);
      field = field;
    }
