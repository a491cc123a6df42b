-- The grammar of batches: items of the grammar, one behind the other.
use Rattle.std.specs.Prelude.{◌≡◌, ℕ, true, List, [], ◌∷◌, Option, Some}
use Rattle.std.specs.List.{flat_map}
use Rattle.fixed_fields.specs.Formats.{◌>>=◌}
use Rattle.values.specs.declared.batch.Batch.{Batch}
use Rattle.host_msgs.specs.declared.gathered.Gathered.{Gathered}
use Rattle.host_msgs.specs.declared.item.Item.{Item}
use Rattle.host_msgs.specs.Items.{item_in}
use Rattle.host_msgs.specs.Batches.{item_bytes, is_in_place, placed, none_yet}
use Rattle.host_msgs.specs.Needs.{IsShort}

-- an item with its kind and its content
pub record Listed : Type 0 where
  pub kind : ℕ
  pub content : List ℕ
  pub said : Item

-- each content is in the grammar, and the kinds are in order behind this one
abbrev pub AreInOrder : (last : ℕ) → List Listed → Type 0
AreInOrder last [] = Unit {0}
AreInOrder last (i ∷ items) = (is_in_place last i.kind ≡ true) × (IsShort i.content × ((item_in i.kind i.content ≡ Some i.said) × AreInOrder i.kind items))

-- what was gathered, with all of these items more
abbrev pub all_placed : Gathered → List Listed → Option Gathered
all_placed g [] = Some g
all_placed g (i ∷ items) = placed g i.kind i.said >>= λ g'. all_placed g' items

-- the bytes are those of items in order behind what was gathered before, and with them this was gathered
pub record AreListed (before : Gathered) (bytes : List ℕ) (gathered : Gathered) : Type 0 where
  pub items : List Listed
  pub spelled : bytes ≡ flat_map (λ i. item_bytes i.kind i.content) items
  pub order : AreInOrder before.last items
  pub says : all_placed before items ≡ Some gathered

-- a content is the bytes of items in order, and they say the sender, the batch and the frames
pub record IsListed (content : List ℕ) (sender : ℕ) (batch : Batch) (frames : List (List ℕ)) : Type 0 where
  pub last : ℕ
  pub listed : AreListed none_yet content (record { last = last; sender = sender; batch = batch; frames = frames })
