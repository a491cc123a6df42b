-- What is kept: of paths, of reigns, of what was chosen, of messages and of replicas.
use Rattle.std.proofs.Common.{◌≡◌, ℕ, ◌+◌, ◌<◌, ◌≤◌, Bool, true, false, cond, ◌⊎◌, Some, [], ◌∷◌, ◌++◌, length, take, min}
use Rattle.values.specs.declared.entry.LogEntry.{LogEntry}
use Rattle.replica_model.specs.Path.{Path, last_term}
use Rattle.group_quorum.specs.Conf.{Conf, Met}
use Rattle.replica_model.specs.Configs.{is_members, changed_by, conf, conf_index}
use Rattle.group_model.specs.Log.{IsFrontOf}
use Rattle.path_machine.specs.Node.{Node, Message, AskVote, Vote, Append, Accepted, Part, is_learner, is_leader, is_candidate}
use Rattle.path_machine.specs.Machine.{Reign, Lead, History, Machine, In, Chosen}
use Rattle.path_machine.specs.Changes.{Overlap}

abbrev pub ledger : Reign → Path
ledger r = r.base ++ r.own

-- the first entries of something chosen in a term below b
pub record Settled (h : History) (b : ℕ) (p : Path) : Type 0 where
  pub term : ℕ
  pub path : Path
  pub below : term < b
  pub chosen : Chosen h term path
  pub front : IsFrontOf p path

-- nothing, or settled
abbrev pub Sealed : History → ℕ → Path → Type 0
Sealed h b p = (p ≡ []) ⊎ Settled h b p

-- the entry a stands after c where its term's leader put it
pub record Place (first : Conf) (h : History) (c : Path) (a : LogEntry) : Type 0 where
  pub reign : Reign
  pub is : h.reigns a.term ≡ Some reign
  pub after : IsFrontOf reign.base c
  pub upto : IsFrontOf (c ++ a ∷ []) (ledger reign)
  pub rises : (x : Path) (b : LogEntry) (y : Path) → x ++ b ∷ y ≡ c → b.term ≤ a.term
  pub near : Overlap (conf first c) (changed_by (conf first c) a.body)
  pub older : is_members a.body ≡ true → Sealed h (a.term + 1) (take (conf_index c) c)

abbrev pub Known : Conf → History → ℕ → Path → Type 0
Known first h b p = (c : Path) (a : LogEntry) (r : Path) → c ++ a ∷ r ≡ p → (a.term < b) × Place first h c a

-- v accepted p from the leader of term t
abbrev pub HasAccepted : History → ℕ → ℕ → Path → Type 0
HasAccepted h v t p = (r : Path) × In (Accepted t v r) h.messages × IsFrontOf p r

-- each leader of a term above t and below b began with p
abbrev pub Safe : History → ℕ → Path → ℕ → Type 0
Safe h t p b = (u : ℕ) (r : Reign) → t < u → u < b → h.reigns u ≡ Some r → IsFrontOf p r.base

-- at each place of q a quorum of the configuration there is in who, or the next entry was settled before
abbrev pub Elected : Conf → History → ℕ → Path → (ℕ → Bool) → Type 0
Elected first h t q who =
    (c d : Path)
    → c ++ d ≡ q
    → (Met (conf first c) who) ⊎ ((b : LogEntry) × (r : Path) × (d ≡ b ∷ r) × Settled h t (c ++ b ∷ []))

-- a quorum that meets each quorum of the configuration at c accepted something chosen that goes on with a
pub record Fixed (first : Conf) (h : History) (t : ℕ) (c : Path) (a : LogEntry) : Type 0 where
  pub settled : Settled h (t + 1) (c ++ a ∷ [])
  pub config : Conf
  pub near : Overlap (conf first c) config
  pub who : ℕ → Bool
  pub each : (v : ℕ) → who v ≡ true → HasAccepted h v settled.term settled.path
  pub enough : Met config who

-- what v accepted before, it has voted for, if the leaders between had it
abbrev pub Newer : History → ℕ → ℕ → ℕ → Path → Type 0
Newer h v t b q = (t1 : ℕ) (p : Path) → HasAccepted h v t1 p → last_term p ≡ t1 → t1 < t → Safe h t1 p b → IsFrontOf p q

pub record GoodReign (first : Conf) (h : History) (t : ℕ) (r : Reign) : Type 0 where
  pub known : Known first h (t + 1) (ledger r)
  pub elected : Elected first h t r.base r.who
  pub voted : (v : ℕ) → r.who v ≡ true → (q : Path) × In (Vote t v r.leader q) h.messages
  pub newer : (v : ℕ) → r.who v ≡ true → Newer h v t t r.base
  pub began : In (Accepted t r.leader r.base) h.messages

pub record GoodChoice (first : Conf) (h : History) (t : ℕ) (p : Path) : Type 0 where
  pub reign : Reign
  pub is : h.reigns t ≡ Some reign
  pub front : IsFrontOf p (ledger reign)
  pub last : last_term p ≡ t
  pub fixed : (c : Path) (a : LogEntry) (r : Path) → c ++ a ∷ r ≡ p → Fixed first h t c a

-- a path of the leader of a term
abbrev pub OfLeader : History → ℕ → Path → Type 0
OfLeader h t p = (r : Reign) × (h.reigns t ≡ Some r) × IsFrontOf p (ledger r)

abbrev pub GoodMessage : Conf → History → Message → Type 0
GoodMessage first h (AskVote t u q) = Known first h t q
GoodMessage first h (Vote t v u q) = Newer h v t (t + 1) q
GoodMessage first h (Append t p promise commit) = OfLeader h t p × Sealed h (t + 1) (take (min promise (length p)) p)
GoodMessage first h (Accepted t v p) = OfLeader h t p
GoodMessage first h (Part t p) = Known first h (t + 1) p × Sealed h (t + 1) p

pub record GoodHistory (first : Conf) (h : History) : Type 0 where
  pub reigns : (t : ℕ) (r : Reign) → h.reigns t ≡ Some r → GoodReign first h t r
  pub chosen : (t : ℕ) (p : Path) → Chosen h t p → GoodChoice first h t p
  pub messages : (m : Message) → In m h.messages → GoodMessage first h m
  pub once : (t v c d : ℕ) (p q : Path) → In (Vote t v c p) h.messages → In (Vote t v d q) h.messages → c ≡ d

-- the terms of what a replica holds are below this
abbrev pub below : Node → ℕ
below s = cond (is_candidate s.role) s.term (s.term + 1)

-- what a leader keeps
pub record Leads (h : History) (v : ℕ) (s : Node) : Type 0 where
  pub reign : Reign
  pub is : h.reigns s.term ≡ Some reign
  pub leader : reign.leader ≡ v
  pub path : ledger reign ≡ s.path
  pub own : In (Accepted s.term v s.path) h.messages
  pub marks : (u k : ℕ) → k ≤ s.marks u → 0 < k → HasAccepted h u s.term (take k s.path)
  pub short : (u : ℕ) → s.marks u ≤ length s.path

-- what a candidate keeps
pub record Stands (h : History) (v : ℕ) (s : Node) : Type 0 where
  pub votes : (u : ℕ) → s.votes u ≡ true → In (Vote s.term u v s.path) h.messages
  pub apart : (r : Reign) → h.reigns s.term ≡ Some r → r.leader ≡ v → ⊥

-- what the messages of and to v say of it
abbrev pub Fits : History → ℕ → Node → Message → Type 0
Fits h v s (AskVote t u q) = u ≡ v → (t ≤ s.term) × (t ≡ s.term → is_candidate s.role ≡ true → s.path ≡ q)
Fits h v s (Vote t u c q) = (u ≡ v → (t ≤ s.term) × (t ≡ s.term → s.vote ≡ Some c)) × (c ≡ v → (t ≤ s.term) × (t ≡ s.term → is_candidate s.role ≡ true → s.path ≡ q))
Fits h v s (Append t p promise commit) = Unit
Fits h v s (Accepted t u p) = u ≡ v → (t ≤ s.term) × ((x : Path) → IsFrontOf x p → Safe h t x (s.term + 1) → IsFrontOf x s.path)
Fits h v s (Part t p) = Unit

pub record GoodNode (first : Conf) (h : History) (v : ℕ) (s : Node) : Type 0 where
  pub alive : s.halted ≡ false
  pub known : Known first h (below s) s.path
  pub fits : s.promised ≤ length s.path
  pub within : s.committed ≤ s.promised
  pub settled : Sealed h (below s) (take s.promised s.path)
  pub leads : is_leader s.role ≡ true → Leads h v s
  pub stands : is_candidate s.role ≡ true → Stands h v s
  pub nothing : is_learner s.role ≡ true → s.path ≡ []
  pub says : (m : Message) → In m h.messages → Fits h v s m

-- who led is the leader of the term's reign, and had its base
abbrev pub OfReign : History → Lead → Type 0
OfReign h l = (r : Reign) × (h.reigns l.term ≡ Some r) × (r.leader ≡ l.leader) × IsFrontOf r.base l.path

pub record Kept (first : Conf) (w : Machine) : Type 0 where
  pub history : GoodHistory first w.history
  pub nodes : (v : ℕ) (s : Node) → w.nodes v ≡ Some s → GoodNode first w.history v s
  pub leads : (l : Lead) → In l w.leads → OfReign w.history l
  pub held : (p : Path) → In p w.held → (b : ℕ) × Known first w.history b p
