-- What the reader gathered of a message, beside what its fields make of it.
use Rattle.std.specs.Prelude.{◌≡◌, ℕ, ◌≤◌, false, List, map, length, take, Option, None, Some}
use Rattle.std.specs.Result.{result_err}
use Rattle.proto_wire.specs.Fields.{Field}
use Rattle.group_msgs.specs.declared.scalars.Scalars.{Scalars}
use Rattle.group_msgs.specs.declared.listed.Listed.{Listed}
use Rattle.group_msgs.specs.declared.gather.Member.{Member}
use Rattle.values.specs.declared.limits.TheConstants.{ROWS_PER_PART}
use Rattle.group_msgs.specs.Known.{Known, known_of}
use Rattle.group_msgs.specs.Reading.{listed_in}
use Rattle.group_msgs.specs.Rules.{items_fault}

-- the scalars, without where they lie in memory
abbrev pub seen : Scalars → Known
seen s = record { varints = s.varints; blocks = map (λ block. block.now) s.blocks }

-- What a member of this number lists: all are counted and checked, and the first of them are kept, unless memory for them
-- was wanted.
pub record IsList (member : ℕ) (listed : Listed) (all : List Known) : Type 0 where
  pub count : listed.count ≡ length all
  pub checked : result_err listed.checked ≡ items_fault member all
  pub first : listed.lost ≡ false → map seen listed.first.items ≡ take ROWS_PER_PART all

-- the member has the scalars of these fields and what they list
pub record IsOf (member : Member) (fs : List Field) : Type 0 where
  pub low : 2 ≤ member.number
  pub high : member.number ≤ 8
  pub scalars : seen member.scalars ≡ known_of fs
  pub listed : IsList member.number member.listed (map known_of (listed_in member.number fs))

-- the member is of this number and has read these fields
abbrev pub IsRun : Member → ℕ → List Field → Type 0
IsRun member number fs = (member.number ≡ number) × IsOf member fs

-- the member is the one of this number and these fields, or has no number yet
abbrev pub IsLast : Member → Option (ℕ × List Field) → Type 0
IsLast member None = member.number ≡ 0
IsLast member (Some (number, fs)) = IsRun member number fs
