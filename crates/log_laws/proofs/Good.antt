-- What every state, every saved state and every message keeps, over what was ever promised and ever held.
use Rattle.std.proofs.Common.{◌≡◌, ℕ, ◌+◌, ◌<◌, ◌≤◌, Some, List, [], ◌∷◌, ◌++◌, length, take, drop}
use Rattle.std.proofs.lemmas.List.{append-nil}
use Rattle.std.specs.List.{AllByRecursion}
use Rattle.values.specs.declared.entry.Point.{Point}
use Rattle.values.specs.declared.peer.PeerMsg.{PeerMsg}
use Rattle.values.specs.declared.peer.PeerMsg.TheVariants.{Append, Accepted, Part}
use Rattle.group_quorum.specs.Conf.{Conf}
use Rattle.replica_model.specs.declared.Progress.{Progress}
use Rattle.replica_model.specs.Path.{Path, Link, chain}
use Rattle.replica_model.specs.Keyed.{value_at}
use Rattle.replica_model.specs.Message.{Message}
use Rattle.replica_model.specs.Replica.{Named, Sending, Role, Learner, Follower, Candidate, Leader, Leading, Replica}
use Rattle.replica_model.specs.Peers.{progress_of}
use Rattle.replica_model.specs.Call.{Call}
use Rattle.group_model.specs.Log.{IsFrontOf}
use Rattle.agreement.specs.Promised.{EachPlacePromised}
use Rattle.agreement.proofs.Promised.{each_more}
use Rattle.agreement.proofs.Committing.{OldPromised}

-- each place up to committed was promised, and each place up to a Members entry but the last
pub record GoodPath (first : Conf) (Ever : ℕ → Path → Type 0) (committed : ℕ) (path : Path) : Type 0 where
  pub safe : EachPlacePromised first Ever (take committed path)
  pub older : OldPromised first Ever path

-- what a leader knows of a peer fits its path, and the peer promised as much of it
pub record GoodProgress (Ever : ℕ → Path → Type 0) (path : Path) (peer : ℕ) (progress : Progress) : Type 0 where
  pub next_fits : progress.next ≤ length path + 1
  pub mark_fits : progress.mark ≤ length path
  pub promised_fits : progress.promised ≤ length path
  pub promised : 0 < progress.promised → Ever peer (take progress.promised path)

-- the path of a table was held, and each place of it was promised
pub record GoodTable (first : Conf) (Ever : ℕ → Path → Type 0) (Held : Path → Type 0) (path : Path) : Type 0 where
  pub held : Held path
  pub good : GoodPath first Ever (length path) path

pub record GoodSending (first : Conf) (Ever : ℕ → Path → Type 0) (Held : Path → Type 0) (path : Path) (sending : Sending) : Type 0 where
  pub table : GoodTable first Ever Held sending.path
  pub fits : length sending.path ≤ length path

pub record GoodLeading (first : Conf) (Ever : ℕ → Path → Type 0) (Held : Path → Type 0) (path : Path) (l : Leading) : Type 0 where
  pub progress : (u : ℕ) → GoodProgress Ever path u (progress_of l u)
  pub sendings : (u : ℕ) (sending : Sending) → value_at l.sendings u ≡ Some sending → GoodSending first Ever Held path sending

-- a learner holds nothing; who holds a log reads it by the first configuration of the run
abbrev pub GoodRole : Conf → (ℕ → Path → Type 0) → (Path → Type 0) → Conf → Path → Role → Type 0
GoodRole first Ever Held theirs path (Learner taking) = path ≡ []
GoodRole first Ever Held theirs path Follower = theirs ≡ first
GoodRole first Ever Held theirs path (Candidate votes) = theirs ≡ first
GoodRole first Ever Held theirs path (Leader l) = (theirs ≡ first) × GoodLeading first Ever Held path l

-- what a state keeps: its base, committed and promised index, first configuration, path and role
pub record GoodShape (first : Conf) (Ever : ℕ → Path → Type 0) (Held : Path → Type 0) (base committed promised : ℕ) (theirs : Conf) (path : Path) (role : Role) : Type 0 where
  pub within : committed ≤ promised
  pub based : base ≤ committed
  pub fits : promised ≤ length path
  pub good : GoodPath first Ever committed path
  pub acts : GoodRole first Ever Held theirs path role

abbrev pub GoodState : Conf → (ℕ → Path → Type 0) → (Path → Type 0) → Replica → Type 0
GoodState first Ever Held s = GoodShape first Ever Held s.base s.committed s.promised s.first s.path s.role

-- a replica between its calls: its path was held, and it promised what it promises
pub record GoodBetween (first : Conf) (Ever : ℕ → Path → Type 0) (Held : Path → Type 0) (v me base committed promised : ℕ) (theirs : Conf) (path : Path) (role : Role) : Type 0 where
  pub mine : me ≡ v
  pub state : GoodShape first Ever Held base committed promised theirs path role
  pub held : Held path
  pub own : Ever v (take promised path)

abbrev pub GoodReplica : Conf → (ℕ → Path → Type 0) → (Path → Type 0) → ℕ → Replica → Type 0
GoodReplica first Ever Held v s = GoodBetween first Ever Held v s.me s.base s.committed s.promised s.first s.path s.role

-- an append offers a part of a good path that was held
pub record GoodAppend (link : Link) (first : Conf) (Ever : ℕ → Path → Type 0) (Held : Path → Type 0) (prev : Point) (entries : Path) (commit : ℕ) : Type 0 where
  pub path : Path
  pub held : Held path
  pub good : GoodPath first Ever commit path
  pub prev_fits : prev.index ≤ length path
  pub hash_is : prev.hash ≡ chain link (take prev.index path)
  pub entries_are : entries ≡ drop prev.index path

-- an acceptance names the end of a path that was held, and what its sender promised on it
pub record GoodAccepted (link : Link) (Ever : ℕ → Path → Type 0) (Held : Path → Type 0) (from : ℕ) (end : Point) (promised : ℕ) : Type 0 where
  pub path : Path
  pub held : Held path
  pub end_is : length path ≡ end.index
  pub hash_is : chain link path ≡ end.hash
  pub promise : Ever from (take promised path)

-- a part names a good table, with the first configuration of the run
pub record GoodNames (first : Conf) (Ever : ℕ → Path → Type 0) (Held : Path → Type 0) (names : Named) : Type 0 where
  pub table : GoodTable first Ever Held names.path
  pub first_is : names.first ≡ first

abbrev pub GoodMsg : Link → Conf → (ℕ → Path → Type 0) → (Path → Type 0) → ℕ → Named → PeerMsg → Type 0
GoodMsg link first Ever Held from names (Append term prev entries promise commit) = GoodAppend link first Ever Held prev entries commit
GoodMsg link first Ever Held from names (Accepted term end promised) = GoodAccepted link Ever Held from end promised
GoodMsg link first Ever Held from names (Part term part) = GoodNames first Ever Held names
GoodMsg link first Ever Held from names other = Unit {0}

abbrev pub GoodMessage : Link → Conf → (ℕ → Path → Type 0) → (Path → Type 0) → ℕ → Message → Type 0
GoodMessage link first Ever Held from m = GoodMsg link first Ever Held from m.names m.msg

abbrev pub GoodSent : Link → Conf → (ℕ → Path → Type 0) → (Path → Type 0) → ℕ → List (ℕ × Message) → Type 0
GoodSent link first Ever Held from sent = AllByRecursion (λ m. GoodMessage link first Ever Held from m.1) sent

-- what holds of a call of v that found the promised path `before`. Its state is good, and so is what it sent, once its path was held and its promise made
pub record GoodParts (link : Link) (first : Conf) (Ever : ℕ → Path → Type 0) (Held : Path → Type 0) (v : ℕ) (before : Path) (me base committed promised : ℕ) (theirs : Conf) (path : Path) (role : Role) (sent : List (ℕ × Message)) : Type 0 where
  pub mine : me ≡ v
  pub keeps : IsFrontOf before (take promised path)
  pub after : Held path → Ever v (take promised path) → GoodShape first Ever Held base committed promised theirs path role × GoodSent link first Ever Held v sent

abbrev pub GoodCall : Link → Conf → (ℕ → Path → Type 0) → (Path → Type 0) → ℕ → Path → Call → Type 0
GoodCall link first Ever Held v before c =
    GoodParts link first Ever Held v before c.state.me c.state.base c.state.committed c.state.promised c.state.first c.state.path c.state.role c.sent

module _ (first : Conf) (Ever More : ℕ → Path → Type 0) (more : (v : ℕ) (q : Path) → Ever v q → More v q) where
  pub path_more : (committed : ℕ) (path : Path) → GoodPath first Ever committed path → GoodPath first More committed path
  path_more committed path g = record {
    safe = each_more first Ever More (take committed path) more g.safe;
    older = λ u e z is m h. each_more first Ever More (u ++ e ∷ []) more (g.older u e z is m h);
  }

  pub progress_more : (path : Path) (u : ℕ) (p : Progress) → GoodProgress Ever path u p → GoodProgress More path u p
  progress_more path u p g = record {
    next_fits = g.next_fits;
    mark_fits = g.mark_fits;
    promised_fits = g.promised_fits;
    promised = λ some. more u (take p.promised path) (g.promised some);
  }

  module _ (Held Larger : Path → Type 0) (larger : (p : Path) → Held p → Larger p) where
    pub table_more : (path : Path) → GoodTable first Ever Held path → GoodTable first More Larger path
    table_more path g = record { held = larger path g.held; good = path_more (length path) path g.good }

    pub leading_more : (path : Path) (l : Leading) → GoodLeading first Ever Held path l → GoodLeading first More Larger path l
    leading_more path l g = record {
      progress = λ u. progress_more path u (progress_of l u) (g.progress u);
      sendings = λ u sending is. let x = g.sendings u sending is in record { table = table_more sending.path x.table; fits = x.fits };
    }

    pub role_more : (theirs : Conf) (path : Path) (role : Role) → GoodRole first Ever Held theirs path role → GoodRole first More Larger theirs path role
    role_more theirs path (Leader l) g = (g.0, leading_more path l g.1)
    role_more theirs path other g = g

    pub state_more : (s : Replica) → GoodState first Ever Held s → GoodState first More Larger s
    state_more s g = record {
      within = g.within;
      based = g.based;
      fits = g.fits;
      good = path_more s.committed s.path g.good;
      acts = role_more s.first s.path s.role g.acts;
    }

    pub replica_more : (v : ℕ) (s : Replica) → GoodReplica first Ever Held v s → GoodReplica first More Larger v s
    replica_more v s g = record { mine = g.mine; state = state_more s g.state; held = larger s.path g.held; own = more v (take s.promised s.path) g.own }

    pub msg_more : (link : Link) (from : ℕ) (names : Named) (m : PeerMsg) → GoodMsg link first Ever Held from names m → GoodMsg link first More Larger from names m
    msg_more link from names (Append term prev entries promise commit) g = record { path = g.path; held = larger g.path g.held; good = path_more commit g.path g.good; prev_fits = g.prev_fits; hash_is = g.hash_is; entries_are = g.entries_are }
    msg_more link from names (Accepted term end promised) g = record { path = g.path; held = larger g.path g.held; end_is = g.end_is; hash_is = g.hash_is; promise = more from (take promised g.path) g.promise }
    msg_more link from names (Part term part) g = record { table = table_more names.path g.table; first_is = g.first_is }
    msg_more link from names other g = g

pub front_refl : (p : Path) → IsFrontOf p p
front_refl p = ([], append-nil p)
