-- A batch as its items, one behind the other.
use Rattle.std.specs.Prelude.{ℕ, zero, suc, ◌+◌, ◌-◌, ◌==◌, ◌||◌, ◌&&◌, nat_lt, Bool, true, List, [], ◌∷◌, ◌++◌, length, Option, Some, None, Result, Ok, Err, if◌then◌else◌}
use Rattle.std.specs.Int.{w8, w32}
use Rattle.fixed_fields.specs.Fields.{number_bytes, number_at, block_at}
use Rattle.fixed_fields.specs.Formats.{◌>>=◌, Field}
use Rattle.values.specs.declared.batch.Batch.{Batch}
use Rattle.host_msgs.specs.declared.gathered.Gathered.{Gathered}
use Rattle.host_msgs.specs.declared.item.Item.{Item}
use Rattle.host_msgs.specs.declared.item.Item.TheVariants as item
use Rattle.host_msgs.specs.Items.{only_if, item_in}

-- an item: its kind, its length in four bytes, and its content
abbrev pub item_bytes : ℕ → List ℕ → List ℕ
item_bytes kind content = number_bytes w8 kind ++ (number_bytes w32 (length content) ++ content)

-- the kind and the content of the item at the front, and the bytes behind it
unfoldable pub item_at : List ℕ → Option ((ℕ × List ℕ) × List ℕ)
item_at bytes =
    number_at w8 bytes >>= λ kind. number_at w32 kind.1 >>= λ size. block_at size.0 size.1 >>= λ content. Some ((kind.0, content.0), content.1)

-- the kinds of which several items may stand
abbrev pub may_repeat : ℕ → Bool
may_repeat kind = (kind == 2) || ((kind == 5) || ((kind == 6) || (kind == 7)))

-- whether an item of this kind may stand behind one of another; 0 where none stands before it
abbrev pub is_in_place : (last kind : ℕ) → Bool
is_in_place last kind = nat_lt last kind || ((last == kind) && may_repeat kind)

-- the sender that an item names
abbrev pub sender_of : Item → Option ℕ
sender_of (item.Lead term) = None
sender_of (item.Members index margin voters) = None
sender_of (item.Halt index kept offered) = None
sender_of (item.Taken point) = None
sender_of (item.Commit index entry) = None
sender_of (item.Answer client number answer) = None
sender_of (item.Sent from to message frame) = Some from
sender_of (item.Saved k) = None
sender_of (item.Refused refusal) = None

-- an item of this kind and this sender may stand here: a message is from the sender of those before it
abbrev pub passed : Gathered → ℕ → Option ℕ → Option Gathered
passed g kind None = Some (record g { last = kind })
passed g kind (Some from) = only_if ((g.sender == 0) || (g.sender == from)) (record g { last = kind; sender = from })

-- what was gathered, with what one item more says
abbrev pub with_item : Gathered → Item → Gathered
with_item g (item.Lead term) = record g { batch = record g.batch { lead = Some term } }
with_item g (item.Members index margin voters) = record g { batch = record g.batch { members = g.batch.members ++ (index, margin, voters) ∷ [] } }
with_item g (item.Halt index kept offered) = record g { batch = record g.batch { halt = Some (index, kept, offered) } }
with_item g (item.Taken point) = record g { batch = record g.batch { taken = Some point } }
with_item g (item.Commit index entry) = record g { batch = record g.batch { commits = g.batch.commits ++ (index, entry) ∷ [] } }
with_item g (item.Answer client number answer) = record g { batch = record g.batch { answers = g.batch.answers ++ (client, number, answer) ∷ [] } }
with_item g (item.Sent from to message frame) = record g { batch = record g.batch { sent = g.batch.sent ++ (to, message) ∷ [] }; frames = g.frames ++ frame ∷ [] }
with_item g (item.Saved k) = record g { batch = record g.batch { saved = Some k } }
with_item g (item.Refused refusal) = record g { batch = record g.batch { refused = Some refusal } }

-- what was gathered, with one item more
abbrev pub placed : Gathered → ℕ → Item → Option Gathered
placed g kind item = passed g kind (sender_of item) >>= λ g'. Some (with_item g' item)

-- the item at the front taken in, and the bytes behind it; nothing where it is not in the grammar
abbrev pub next_in : Gathered → List ℕ → Option (Gathered × List ℕ)
next_in g bytes =
    item_at bytes >>= λ p.
    (if is_in_place g.last p.0.0 then item_in p.0.0 p.0.1 else None) >>= λ item.
    placed g p.0.0 item >>= λ g'.
    Some (g', p.1)

-- nothing was gathered yet
abbrev pub none_yet : Gathered
none_yet =
    record {
      last = 0;
      sender = 0;
      batch = record { lead = None; members = []; halt = None; taken = None; commits = []; answers = []; sent = []; saved = None; refused = None };
      frames = [];
    }

-- what a step makes of what the one before it gave, or the offset where it gave nothing
abbrev pub or_at : {X : Type 0} → (at : ℕ) → Option X → (X → Result Gathered ℕ) → Result Gathered ℕ
or_at at None f = Err at
or_at at (Some x) f = f x

-- what is gathered of bytes that stand at an offset, in at most n items, or the offset of the first that is not in the grammar
unfoldable pub gathered_from : (n at : ℕ) → Gathered → List ℕ → Result Gathered ℕ
gathered_from n at g [] = Ok g
gathered_from zero at g (b ∷ bytes) = Err at
gathered_from (suc n) at g (b ∷ bytes) = or_at at (next_in g (b ∷ bytes)) (λ p. gathered_from n (at + (length (b ∷ bytes) - length p.1)) p.0 p.1)

abbrev pub batch_in : List ℕ → Result Gathered ℕ
batch_in content = gathered_from (length content) 0 none_yet content
