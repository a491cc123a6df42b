-- Five replicas in a round of one entry: what each of them holds, and what is said of it.
use Rattle.std.proofs.Common.{◌≡◌, ℕ, ◌+◌, ◌-◌, ◌≤◌, ◌&&◌, ◌||◌, not, Bool, true, false, None, List, [], ◌∷◌, length, max, min, arith}
use Rattle.std.proofs.lemmas.Bool.{le-leb, le-ltb, lt-leb, lt-ltb}
use Rattle.std.specs.Prelude.{nat_le, nat_lt, cond}
use Rattle.values.specs.declared.entry.Point.{Point}
use Rattle.values.specs.declared.limits.TheConstants.{MOST_ROWS}
use Rattle.values.specs.declared.peer.PeerMsg.TheVariants.{Append, Accepted}
use Rattle.group_quorum.specs.Conf.{Conf}
use Rattle.replica_model.specs.declared.Progress.{Progress}
use Rattle.replica_model.specs.declared.TheConstants.{KEPT_BELOW}
use Rattle.replica_model.specs.Path.{Path, Link, chain}
use Rattle.replica_model.specs.Message.{Message, plain}
use Rattle.replica_model.specs.Replica.{Ticket, Follower, Leader, Leading, Replica}

abbrev pub five : List ℕ
five = 1 ∷ 2 ∷ 3 ∷ 4 ∷ 5 ∷ []

abbrev pub conf_of_five : Conf
conf_of_five = record { margin = 1; voters = five }

-- a follower of replica 1, with what it promised and committed
abbrev pub follower : ℕ → ℕ → Path → ℕ → ℕ → Replica
follower me known path promised committed =
    record {
      me = me;
      limit = MOST_ROWS;
      first = conf_of_five;
      path = path;
      base = committed - KEPT_BELOW;
      promised = promised;
      committed = committed;
      term = 1;
      vote = 1;
      known = known;
      role = Follower;
      tickets = [];
      halted = None;
    }

-- something of each follower
pub record Each (A : Type 0) : Type 0 where
  pub two : A
  pub three : A
  pub four : A
  pub five : A

abbrev pub all : {A : Type 0} → A → Each A
all a = record { two = a; three = a; four = a; five = a }

-- the followers
pub data Who : Type 0 where
  Two : Who
  Three : Who
  Four : Who
  Five : Who

-- what holds of each of the four
pub each : (P : Who → Type 0) → P Two → P Three → P Four → P Five → (v : Who) → P v
each P a b c d Two = a
each P a b c d Three = b
each P a b c d Four = c
each P a b c d Five = d

abbrev pub id_of : Who → ℕ
id_of Two = 2
id_of Three = 3
id_of Four = 4
id_of Five = 5

module _ {A : Type 0} where
  abbrev pub of : Who → Each A → A
  of Two e = e.two
  of Three e = e.three
  of Four e = e.four
  of Five e = e.five

  abbrev pub set : Who → A → Each A → Each A
  set Two a e = record e { two = a }
  set Three a e = record e { three = a }
  set Four a e = record e { four = a }
  set Five a e = record e { five = a }

abbrev pub progress : ℕ → ℕ → ℕ → Progress
progress next mark promised = record { next = next; mark = mark; promised = promised }

-- what the leader knows of its followers: what it sends next, what they have and what they promised
abbrev pub leading : Each ℕ → Each ℕ → Each ℕ → Leading
leading next marks promises =
    record {
      progress =
          (2, progress next.two marks.two promises.two)
          ∷ (3, progress next.three marks.three promises.three)
          ∷ (4, progress next.four marks.four promises.four)
          ∷ (5, progress next.five marks.five promises.five)
          ∷ [];
      learners = [];
      sendings = [];
    }

abbrev pub leader : Path → ℕ → ℕ → ℕ → List Ticket → Leading → Replica
leader path base promised committed tickets l =
    record {
      me = 1;
      limit = MOST_ROWS;
      first = conf_of_five;
      path = path;
      base = base;
      promised = promised;
      committed = committed;
      term = 1;
      vote = 1;
      known = 1;
      role = Leader l;
      tickets = tickets;
      halted = None;
    }

-- the whole path, as a point
abbrev pub whole : Link → Path → Point
whole link p = record { index = length p; hash = chain link p }

-- an append after this point
abbrev pub offer : Point → Path → ℕ → ℕ → Message
offer prev entries promise commit = plain (Append 1 prev entries promise commit)

-- the same to each of the four
abbrev pub four_of : Message → List (ℕ × Message)
four_of m = (2, m) ∷ (3, m) ∷ (4, m) ∷ (5, m) ∷ []

-- that all was accepted up to this point, and what is promised
abbrev pub acceptance : Point → ℕ → Message
acceptance end promised = plain (Accepted 1 end promised)

-- the whole path is reached, or n
abbrev pub at : Path → ℕ → Bool → ℕ
at q n b = cond b (length q) n

-- in a round the path is one entry longer than n
module _ (q : Path) (n : ℕ) (long : length q ≡ n + 1) where
  pub le_at : (b : Bool) → nat_le (length q) (at q n b) ≡ b
  le_at true = le-leb (length q) (length q) (omega arith)
  le_at false = lt-leb (length q) n (omega (arith, long))

  pub lt_at : (a b : Bool) → nat_lt (at q n a) (at q n b) ≡ (not a && b)
  lt_at true true = le-ltb (length q) (length q) (omega arith)
  lt_at true false = le-ltb (length q) n (omega (arith, long))
  lt_at false true = lt-ltb n (length q) (omega (arith, long))
  lt_at false false = le-ltb n n (omega arith)

  pub max_at : (a b : Bool) → max (at q n a) (at q n b) ≡ at q n (a || b)
  max_at true true = omega arith
  max_at true false = omega (arith, long)
  max_at false true = omega (arith, long)
  max_at false false = omega arith

  pub min_whole : (a : Bool) → min (at q n a) (length q) ≡ at q n a
  min_whole true = omega arith
  min_whole false = omega (arith, long)

  pub min_at : (a b : Bool) → min (at q n a) (at q n b) ≡ at q n (a && b)
  min_at true true = omega arith
  min_at true false = omega (arith, long)
  min_at false true = omega (arith, long)
  min_at false false = omega arith

  pub below_whole : (a : Bool) → at q n a ≤ length q
  below_whole true = omega arith
  below_whole false = omega (arith, long)

  pub above_n : (a : Bool) → n ≤ at q n a
  above_n true = omega (arith, long)
  above_n false = omega arith
