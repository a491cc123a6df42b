-- What the words of the command line mean.
use Rattle.std.specs.Prelude.{ℕ, ◌≤◌, ⊤, if◌then◌else◌, List, [], ◌∷◌, Option, Some, None, option_map, option_and_then, Result, Ok, Err, codes, bytes_eq}
use Rattle.clap.specs.Words.{App, Row, fault_of, first_of, matches_of, new_app, new_rule, with_rule}
use Rattle.hex.specs.Hex.{decode_sized}
use Rattle.hex.specs.declared.error.FromHexError.{FromHexError}
use Rattle.values.specs.declared.limits.TheConstants.{MOST_ROWS}
use Rattle.trace_model.specs.Session.{Tagging, untagged, tagged_by}
use Rattle.link_tags.specs.Hmac.{hmac_of}
use Rattle.schedule_model.specs.Reading.{number_of, RecordFault}
use Rattle.drill_laws.specs.Laws.{most_clients}
use Rattle.svr2_run.specs.declared.words.Command.{Command}
use Rattle.svr2_run.specs.declared.words.Command.TheVariants.{Audit, Drill, Group, Play, Serve, Tagged}
use Rattle.svr2_run.specs.declared.words.Play as what
use Rattle.svr2_run.specs.declared.words.Play.TheVariants.{Drive, Replay, Table}
use Rattle.svr2_run.specs.declared.words.Streams.{Streams}
use Rattle.svr2_run.specs.declared.words.Streams.TheVariants.{Standard, Connected}

-- the simple command of a name with one option of this name, which takes a value
abbrev pub with_option : App → List ℕ → App
with_option app name = with_rule app (record (new_rule name) { long = Some name })

-- the matches, where nothing is wrong with the words
abbrev pub if_taken : {K : Type 0} → List K → List Row → Option (List Row)
if_taken [] rows = Some rows
if_taken (kind ∷ kinds) rows = None

-- what the words match, where the simple command takes them: the parser's own definitions decide
abbrev pub matched : App → List (List ℕ) → Option (List Row)
matched app words = if_taken (fault_of app words) (matches_of app words)

-- the command of this name, which has no option
abbrev pub plain_of : List ℕ → Command → List (List ℕ) → Option Command
plain_of name command words = option_map (λ rows. command) (matched (new_app name) words)

abbrev pub replay_of : List (List ℕ) → Option Command
replay_of words = plain_of (codes "replay") (Play Replay) words

abbrev pub drive_of : List (List ℕ) → Option Command
drive_of words = plain_of (codes "drive") (Play Drive) words

-- `table`, with the option `rows`
abbrev pub table_app : App
table_app = with_option (new_app (codes "table")) (codes "rows")

-- how many rows the table may hold where the words do not say
abbrev pub usual_rows : ℕ
usual_rows = 10000

abbrev pub number_in : Result ℕ RecordFault → Option ℕ
number_in (Ok n) = Some n
number_in (Err fault) = None

-- the limit that the option's value says: a decimal number from 1 to 20,000
abbrev pub limit_of : Option (List ℕ) → Option ℕ
limit_of None = Some usual_rows
limit_of (Some text) = number_in (number_of text 0 1 MOST_ROWS)

abbrev pub table_of : List (List ℕ) → Option Command
table_of words = option_map (λ limit. Play (Table limit)) (option_and_then (λ rows. limit_of (first_of (codes "rows") rows)) (matched table_app words))

-- `serve`, with the option `connect`
abbrev pub serve_app : App
serve_app = with_option (new_app (codes "serve")) (codes "connect")

-- the greatest number of a port
abbrev pub most_port : ℕ
most_port = 65535

-- the streams of a session: the standard ones, or connections to the port that the option's value says, a decimal number from
-- 1 to 65,535
abbrev pub streams_of : Option (List ℕ) → Option Streams
streams_of None = Some Standard
streams_of (Some text) = option_map Connected (number_in (number_of text 0 1 most_port))

-- the streams of `serve`, where these are its words
abbrev pub served_by : List (List ℕ) → Option Streams
served_by words = option_and_then (λ rows. streams_of (first_of (codes "connect") rows)) (matched serve_app words)

-- the command is the same over any streams
abbrev pub serve_of : List (List ℕ) → Option Command
serve_of words = option_map (λ streams. Serve) (served_by words)

-- `group`, with the option `program`
abbrev pub group_app : App
group_app = with_option (new_app (codes "group")) (codes "program")

-- the path of `group`, where these are its words
abbrev pub grouped_by : List (List ℕ) → Option (List ℕ)
grouped_by words = option_and_then (λ rows. first_of (codes "program") rows) (matched group_app words)

-- the command is the same over any program
abbrev pub group_of : List (List ℕ) → Option Command
group_of words = option_map (λ path. Group) (grouped_by words)

-- `tagged`, with the option `key`
abbrev pub tagged_app : App
tagged_app = with_option (new_app (codes "tagged")) (codes "key")

abbrev pub bytes_in : Result (List ℕ) FromHexError → Option (List ℕ)
bytes_in (Ok bytes) = Some bytes
bytes_in (Err fault) = None

-- the key that the option's value says: 64 hexadecimal digits
abbrev pub key_of : Option (List ℕ) → Option (List ℕ)
key_of None = None
key_of (Some text) = bytes_in (decode_sized text 32)

abbrev pub tagged_of : List (List ℕ) → Option Command
tagged_of words = option_map Tagged (option_and_then (λ rows. key_of (first_of (codes "key") rows)) (matched tagged_app words))

abbrev pub audit_of : List (List ℕ) → Option Command
audit_of words = plain_of (codes "audit") Audit words

-- `drill`, with the options `seed` and `clients`
abbrev pub drill_app : App
drill_app = with_option (with_option (new_app (codes "drill")) (codes "seed")) (codes "clients")

-- the decimal number in a range that an option's value says, where it has one
abbrev pub number_within : ℕ → ℕ → Option (List ℕ) → Option ℕ
number_within least most None = None
number_within least most (Some text) = number_in (number_of text 0 least most)

-- the greatest seed
abbrev pub most_seed : ℕ
most_seed = 18446744073709551615

-- the drill that the values of the two options say: a seed of 64 bits, and 1 to 2,000 clients
abbrev pub drill_by : Option (List ℕ) → Option (List ℕ) → Option Command
drill_by seed clients =
    option_and_then (λ s. option_map (Drill s) (number_within 1 most_clients clients)) (number_within 0 most_seed seed)

abbrev pub drill_of : List (List ℕ) → Option Command
drill_of words = option_and_then (λ rows. drill_by (first_of (codes "seed") rows) (first_of (codes "clients") rows)) (matched drill_app words)

-- the command, by the first word
abbrev pub command_of : List (List ℕ) → Option Command
command_of [] = None
command_of (name ∷ words) =
    if bytes_eq name (codes "replay") then replay_of (name ∷ words)
    else if bytes_eq name (codes "drive") then drive_of (name ∷ words)
    else if bytes_eq name (codes "table") then table_of (name ∷ words)
    else if bytes_eq name (codes "serve") then serve_of (name ∷ words)
    else if bytes_eq name (codes "tagged") then tagged_of (name ∷ words)
    else if bytes_eq name (codes "audit") then audit_of (name ∷ words)
    else if bytes_eq name (codes "group") then group_of (name ∷ words)
    else if bytes_eq name (codes "drill") then drill_of (name ∷ words)
    else None

-- what the words play from the source, where they do
abbrev pub play_in : Option Command → Option what.Play
play_in (Some (Play play)) = Some play
play_in (Some Group) = None
play_in (Some Serve) = None
play_in (Some (Tagged key)) = None
play_in (Some Audit) = None
play_in (Some (Drill seed clients)) = None
play_in None = None

abbrev pub play_of : List (List ℕ) → Option what.Play
play_of words = play_in (command_of words)

-- how the frames of the session are tagged that the words serve, where they do
abbrev pub tagging_in : Option Command → Option Tagging
tagging_in (Some (Play play)) = None
tagging_in (Some Group) = None
tagging_in (Some Serve) = Some untagged
tagging_in (Some (Tagged key)) = Some (tagged_by (hmac_of key))
tagging_in (Some Audit) = None
tagging_in (Some (Drill seed clients)) = None
tagging_in None = None

abbrev pub tagging_of : List (List ℕ) → Option Tagging
tagging_of words = tagging_in (command_of words)

-- the limit of a table is one that it can have
abbrev pub HasLimit : what.Play → Type 0
HasLimit Replay = ⊤
HasLimit Drive = ⊤
HasLimit (Table limit) = (1 ≤ limit) × (limit ≤ MOST_ROWS)

abbrev pub HasLimits : Command → Type 0
HasLimits (Play play) = HasLimit play
HasLimits Group = ⊤
HasLimits Serve = ⊤
HasLimits (Tagged key) = ⊤
HasLimits Audit = ⊤
HasLimits (Drill seed clients) = (1 ≤ clients) × (clients ≤ most_clients)
