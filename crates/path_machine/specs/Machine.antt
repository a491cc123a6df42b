-- The generous machine: nodes over a network that loses, repeats and reorders, with crashes and no rollback. A call of
-- a replica is a list of its moves.
use Rattle.std.specs.Prelude.{◌≡◌, ℕ, zero, suc, Bool, cond, ◌&&◌, ◌==◌, nat_lt, nat_le, Option, Some, None, List, [], ◌∷◌, ◌++◌, length, take, slice_get, ◌⊎◌}
use Rattle.values.specs.declared.entry.Body.{Body}
use Rattle.values.specs.declared.entry.LogEntry.{LogEntry}
use Rattle.group_quorum.specs.Conf.{Conf}
use Rattle.replica_model.specs.Path.{Path}
use Rattle.path_machine.specs.Node.{Learner, Follower, Node, Message, Accepted, Outcome, with_value, is_leader, is_candidate, term_of, empty, quiet, risen, followed, stand, elects, led, pushed, may_push, may_choose, promising, commit, send, hand, takes}

-- the reign of a term: who led, its path when it was elected, what it pushed since, and whose votes it had heard
pub record Reign : Type 0 where
  pub leader : ℕ
  pub base : Path
  pub own : Path
  pub who : ℕ → Bool

-- a path for whose last entry a leader of the term had enough accepted marks
pub record Choice : Type 0 where
  pub term : ℕ
  pub path : Path

-- a replica that led in a term, with a path that it then had
pub record Lead : Type 0 where
  pub term : ℕ
  pub leader : ℕ
  pub path : Path

-- what ever happened
pub record History : Type 0 where
  -- all that was ever sent, the newest first
  pub messages : List Message
  pub reigns : ℕ → Option Reign
  pub chosen : List Choice

-- the whole machine
pub record Machine : Type 0 where
  -- none where it crashed
  pub nodes : ℕ → Option Node
  pub history : History
  -- all that ever led, after any move
  pub leads : List Lead
  -- all paths ever held, after any move
  pub held : List Path

-- what a node may do by itself
pub data Act : Type 0 where
  Rise : (term : ℕ) → Act
  Follow : Act
  Stand : Act
  Win : Act
  Push : (body : Body) → Act
  -- it is noted which of these indices have enough accepted marks
  Note : (wanted : ℕ → Bool) → Act
  Raise : (index : ℕ) → Act
  Commit : (index : ℕ) → Act
  Send : (index : ℕ) → Act
  Hand : (index : ℕ) → Act
  Crash : Act

-- an act of a node, or the delivery of a message, counted from the newest one; what it offers may be refused
pub data Move : Type 0 where
  Do : (node : ℕ) (act : Act) → Move
  Deliver : (node message : ℕ) (refuses : Bool) → Move

-- all nodes from the first: those that begin hold an empty log, the others nothing
abbrev pub start : (ℕ → Bool) → Machine
start begins =
    record {
      nodes = λ v. Some (empty (cond (begins v) Follower Learner));
      history = record { messages = []; reigns = λ t. None; chosen = [] };
      leads = [];
      held = [] ∷ [];
    }

-- more messages
abbrev pub sends : History → List Message → History
sends h sent = record { messages = sent ++ h.messages; reigns = h.reigns; chosen = h.chosen }

-- the node v goes on and sends messages
abbrev pub moved : Machine → ℕ → Outcome → Machine
moved w v out =
    record { nodes = with_value w.nodes v (Some out.node); history = sends w.history out.sent; leads = w.leads; held = w.held }

-- a reign begins, and the leader accepts its own path
abbrev pub won : History → ℕ → Node → History
won h v s =
    record {
      messages = Accepted s.term v s.path ∷ h.messages;
      reigns = with_value h.reigns s.term (Some (record { leader = v; base = s.path; own = []; who = s.votes }));
      chosen = h.chosen;
    }

-- a candidate with enough votes leads
abbrev pub win : Conf → Machine → ℕ → Node → Machine
win first w v s =
    cond (is_candidate s.role && elects first s)
    (record { nodes = with_value w.nodes v (Some (led s)); history = won w.history v s; leads = w.leads; held = w.held })
    w

-- a reign with one more entry
abbrev pub grown : Option Reign → LogEntry → Option Reign
grown None e = None
grown (Some r) e = Some (record r { own = r.own ++ e ∷ [] })

-- the reign of the node's term grows, and the leader accepts its own entry
abbrev pub extended : History → ℕ → Node → Body → History
extended h v s b =
    record {
      messages = Accepted s.term v (pushed s b).path ∷ h.messages;
      reigns = with_value h.reigns s.term (grown (h.reigns s.term) (record { term = s.term; body = b }));
      chosen = h.chosen;
    }

-- a leader pushes an entry
abbrev pub push : Conf → (Conf → Conf → Bool) → Machine → ℕ → Node → Body → Machine
push first near w v s b =
    cond (may_push first near s b)
    (record { nodes = with_value w.nodes v (Some (pushed s b)); history = extended w.history v s b; leads = w.leads; held = w.held })
    w

-- a node stops for good
abbrev pub crash : Machine → ℕ → Machine
crash w v = record { nodes = with_value w.nodes v None; history = w.history; leads = w.leads; held = w.held }

-- a term rises
abbrev pub rise : Machine → ℕ → ℕ → Node → Machine
rise w v t s = cond (nat_lt s.term t) (moved w v (quiet (risen s t))) w

-- the fronts of a leader's path, up to an index, that have enough accepted marks
abbrev pub choices : Conf → ℕ → Node → (ℕ → Bool) → ℕ → List Choice
choices first v s wanted zero = []
choices first v s wanted (suc i) =
    cond (wanted (suc i) && may_choose first v s (suc i))
    (record { term = s.term; path = take (suc i) s.path } ∷ choices first v s wanted i)
    (choices first v s wanted i)

-- more choices
abbrev pub choosing : History → List Choice → History
choosing h more = record { messages = h.messages; reigns = h.reigns; chosen = more ++ h.chosen }

-- what is wanted of these is noted
abbrev pub noted : Conf → Machine → ℕ → Node → (ℕ → Bool) → Machine
noted first w v s wanted =
    record {
      nodes = w.nodes;
      history = choosing w.history (choices first v s wanted (length s.path));
      leads = w.leads;
      held = w.held;
    }

-- a leader promises what has enough accepted marks, and that is noted
abbrev pub raise : Conf → Machine → ℕ → Node → ℕ → Machine
raise first w v s i =
    cond (nat_le s.promised i && may_choose first v s i)
    (moved (noted first w v s (λ j. j == i)) v (quiet (promising s i)))
    w

-- an act of the node v
abbrev pub acts : Conf → (Conf → Conf → Bool) → Machine → ℕ → Act → Node → Machine
acts first near w v (Rise t) s = rise w v t s
acts first near w v Follow s = moved w v (quiet (followed s))
acts first near w v Stand s = moved w v (stand v s)
acts first near w v Win s = win first w v s
acts first near w v (Push b) s = push first near w v s b
acts first near w v (Note wanted) s = noted first w v s wanted
acts first near w v (Raise i) s = raise first w v s i
acts first near w v (Commit i) s = moved w v (commit s i)
acts first near w v (Send i) s = moved w v (send s i)
acts first near w v (Hand i) s = moved w v (hand s i)
acts first near w v Crash s = crash w v

-- a crashed or halted node does nothing
abbrev pub by : Option Node → Machine → (Node → Machine) → Machine
by None w f = w
by (Some s) w f = cond s.halted w (f s)

-- a message comes to the node v
abbrev pub come : Machine → ℕ → Bool → Message → Machine
come w v refuses m = by (w.nodes v) w (λ s. moved w v (takes v s refuses m))

-- a message of a higher term first sets the term
abbrev pub deliver : Machine → ℕ → Bool → Option Message → Machine
deliver w v refuses None = w
deliver w v refuses (Some m) = come (by (w.nodes v) w (rise w v (term_of m))) v refuses m

-- what a move does
abbrev pub happens : Conf → (Conf → Conf → Bool) → Machine → Move → Machine
happens first near w (Do v act) = by (w.nodes v) w (acts first near w v act)
happens first near w (Deliver v k refuses) = deliver w v refuses (slice_get w.history.messages k)

-- the node that moves
abbrev pub mover : Move → ℕ
mover (Do v act) = v
mover (Deliver v k refuses) = v

-- a leader with its path, among all that ever led
abbrev pub with_lead : ℕ → Node → List Lead → List Lead
with_lead v s leads = cond (is_leader s.role) (record { term = s.term; leader = v; path = s.path } ∷ leads) leads

-- who leads after a move, and the path then held, are recorded
abbrev pub seen : Machine → ℕ → Option Node → Machine
seen w v None = w
seen w v (Some s) =
    record { nodes = w.nodes; history = w.history; leads = with_lead v s w.leads; held = s.path ∷ w.held }

-- one move, and what is recorded of it
abbrev pub next : Conf → (Conf → Conf → Bool) → Machine → Move → Machine
next first near w e = let x = happens first near w e in seen x (mover e) (x.nodes (mover e))

-- the machine after a list of moves
abbrev pub run : Conf → (Conf → Conf → Bool) → Machine → List Move → Machine
run first near w [] = w
run first near w (e ∷ moves) = run first near (next first near w e) moves

-- it stands in the list
abbrev pub In : {A : Type 0} → A → List A → Type 0
In x [] = ⊥
In x (y ∷ ys) = (y ≡ x) ⊎ In x ys

-- a leader of term t had enough accepted marks for the last entry of p
abbrev pub Chosen : History → ℕ → Path → Type 0
Chosen h t p = In (record { term = t; path = p }) h.chosen
