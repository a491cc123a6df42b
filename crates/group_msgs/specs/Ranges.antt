-- The ranges of a message's numbers and sizes.
use Rattle.std.specs.Prelude.{◌≡◌, ℕ, ◌+◌, ◌<◌, ◌≤◌, ◌^◌, ⊤, true, List, length, All, Option, None, Some}
use Rattle.group_quorum.specs.Voters.{IsSound}
use Rattle.client_msgs.specs.Strict.{is_canonical}
use Rattle.values.specs.declared.entry.Hash.{Hash}
use Rattle.values.specs.declared.entry.Point.{Point}
use Rattle.values.specs.declared.entry.Body.{Body}
use Rattle.values.specs.declared.entry.Body.TheVariants.{Noop, Ask, Members}
use Rattle.values.specs.declared.entry.LogEntry.{LogEntry}
use Rattle.values.specs.declared.row.Row.{Row}
use Rattle.values.specs.declared.row.Kept.{Kept}
use Rattle.values.specs.declared.peer.TablePart.{TablePart}
use Rattle.values.specs.declared.peer.PeerMsg.{PeerMsg}
use Rattle.values.specs.declared.peer.PeerMsg.TheVariants.{AskVote, Vote, Append, Accepted, Rejected, Part, PartTaken}
use Rattle.values.specs.Sizes.{IsSecret, AreTries}
use Rattle.values.specs.declared.limits.TheConstants.{MAX_ENTRIES, ROWS_PER_PART, TOP, MAX_PARTS, MOST_ROWS}
use Rattle.values.specs.Terms.{term_of}

-- an index, or a term
abbrev pub IsIndex : ℕ → Type 0
IsIndex n = n ≤ TOP

-- an Ask has the canonical bytes of a valid request, and the voters and margin of a Members entry make a configuration
abbrev pub IsBodyInRange : Body → Type 0
IsBodyInRange Noop = ⊤
IsBodyInRange (Ask client number request) = is_canonical request ≡ true
IsBodyInRange (Members margin voters) = IsSound (record { margin = margin; voters = voters })

abbrev pub IsEntryInRange : LogEntry → Type 0
IsEntryInRange e = IsIndex e.term × IsBodyInRange e.body

-- a row's record has the sizes of a backup
abbrev pub IsKeptInRange : Option Kept → Type 0
IsKeptInRange None = ⊤
IsKeptInRange (Some kept) = IsSecret kept.secret × AreTries kept.left

abbrev pub IsRowInRange : Row → Type 0
IsRowInRange row = IsKeptInRange row.kept

-- what an append carries fits behind its previous point
pub record IsAppendInRange (prev : Point) (carried : List LogEntry) (promised committed : ℕ) : Type 0 where
  pub end : prev.index + length carried ≤ TOP
  pub few : length carried ≤ MAX_ENTRIES
  pub entries : All IsEntryInRange carried
  pub promise : IsIndex promised
  pub commit : IsIndex committed

pub record IsPartInRange (p : TablePart) : Type 0 where
  pub index : IsIndex p.point.index
  pub last_term : IsIndex p.last_term
  pub conf_index : p.conf_index ≤ p.point.index
  pub conf : IsSound (record { margin = p.margin; voters = p.voters })
  pub limit_from : 1 ≤ p.limit
  pub limit_to : p.limit ≤ MOST_ROWS
  pub part : p.part < p.parts
  pub parts : p.parts ≤ MAX_PARTS
  pub few : length p.rows ≤ ROWS_PER_PART
  pub rows : All IsRowInRange p.rows

abbrev pub IsMemberInRange : PeerMsg → Type 0
IsMemberInRange (AskVote term last_index last_term) = IsIndex last_index × IsIndex last_term
IsMemberInRange (Vote term granted) = ⊤
IsMemberInRange (Append term prev entries promise commit) = IsAppendInRange prev entries promise commit
IsMemberInRange (Accepted term end promised) = IsIndex end.index × IsIndex promised
IsMemberInRange (Rejected term asked hint) = IsIndex asked × IsIndex hint
IsMemberInRange (Part term part) = IsPartInRange part
IsMemberInRange (PartTaken term point next) = IsIndex point.index

-- the ranges that a message which is written needs, and that one which was read has
abbrev pub IsInRange : PeerMsg → Type 0
IsInRange msg = IsIndex (term_of msg) × IsMemberInRange msg

-- What the types say of each value that a program holds, for laws that range over all lists and numbers: clients of 16 bytes,
-- hashes of 32, and numbers of 32 and 64 bits.
abbrev pub IsHash : Hash → Type 0
IsHash hash = length hash.0 ≡ 32

abbrev pub FitsBody : Body → Type 0
FitsBody Noop = ⊤
FitsBody (Ask client number request) = (length client.0 ≡ 16) × (number < 2 ^ 64)
FitsBody (Members margin voters) = ⊤

abbrev pub FitsKept : Option Kept → Type 0
FitsKept None = ⊤
FitsKept (Some kept) = IsHash kept.pin

abbrev pub FitsRow : Row → Type 0
FitsRow row = (length row.client.0 ≡ 16) × (row.last < 2 ^ 64) × FitsKept row.kept

abbrev pub FitsPart : TablePart → Type 0
FitsPart part = IsHash part.point.hash × All FitsRow part.rows

abbrev pub FitsPeer : PeerMsg → Type 0
FitsPeer (AskVote term last_index last_term) = ⊤
FitsPeer (Vote term granted) = ⊤
FitsPeer (Append term prev entries promise commit) = IsHash prev.hash × All (λ e. FitsBody e.body) entries
FitsPeer (Accepted term end promised) = IsHash end.hash
FitsPeer (Rejected term asked hint) = ⊤
FitsPeer (Part term part) = FitsPart part
FitsPeer (PartTaken term point next) = IsHash point.hash × (next < 2 ^ 32)
