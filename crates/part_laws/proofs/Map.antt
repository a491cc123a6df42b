-- Without a collision the parts of a run have one map from points to the paths that they name.
use Rattle.std.proofs.Common.{◌≡◌, ℕ, ◌==◌, ◌&&◌, Bool, true, false, inl, inr, Option, Some, None, List, [], ◌∷◌, length, refl, sym, ap, ◌∙◌, subst}
use Rattle.std.specs.Prelude.{if◌then◌else◌}
use Rattle.std.specs.List.{AllByRecursion}
use Rattle.std.proofs.lemmas.Bool.{cond_both, and_parts, eqb-true, eq-eqb}
use Rattle.std.proofs.lemmas.Slice.Eq.{bytes_eq-Decides}
use Rattle.values.specs.declared.entry.Point.{Point}
use Rattle.values.specs.declared.event.Event.{Event}
use Rattle.values.specs.declared.peer.TablePart.{TablePart}
use Rattle.values.specs.declared.peer.PeerMsg.{PeerMsg}
use Rattle.values.specs.declared.peer.PeerMsg.TheVariants.{Part}
use Rattle.replica_model.specs.Path.{Link, chain, end_point, same_hash, same_point}
use Rattle.replica_model.specs.Message.{Message}
use Rattle.replica_model.specs.Replica.{Named, nothing_named, Role, Learner, Follower, Candidate, Leader}
use Rattle.replica_model.specs.Tables.{IsTruePart}
use Rattle.group_model.specs.Enclave.{HostInput, Tick, Peer, Client, Join, Admit, Remove, Save, Roll, Connect, Margin}
use Rattle.group_model.specs.Group.{Sent}
use Rattle.group_model.specs.Log.{AnyByRecursion, setup_of, NoCollision}
use Rattle.group_model.specs.Laws.{limit_of}
use Rattle.group_model.specs.Run.{Recorded, World, run}
use Rattle.trace_model.specs.PartMap.{IsNamed, IsNamedAt}
use Rattle.trace_model.specs.Claims.{PartsHaveAMap}
use Rattle.log_laws.proofs.Chain.{same_points}
use Rattle.log_laws.proofs.Good.{GoodMsg}
use Rattle.log_laws.proofs.History.{EverIn, HeldIn, held_shorter, all_more}
use Rattle.log_laws.proofs.Kept.{run_kept}
use Rattle.log_laws.proofs.Moving.{GoodMail}
use Rattle.outcome_laws.proofs.Events.{run_fair}
use Rattle.outcome_laws.proofs.Recorded.{all_from, all_at}
use Rattle.outcome_laws.proofs.Tickets.{NamesLimit, LimitTold}
use Rattle.part_laws.proofs.True.{IsTrueMsg, IsTrue}
use Rattle.part_laws.proofs.Runs.{HandedSent, run_true}

-- ---- points
pub same_point_is : (a b : Point) → same_point a b ≡ true → a ≡ b
same_point_is a b same =
    let parts = and_parts (a.index == b.index) (same_hash a.hash b.hash) same in
    let index : a.index ≡ b.index = eqb-true a.index b.index parts.0 in
    let bytes : a.hash.0 ≡ b.hash.0 = (bytes_eq-Decides a.hash.0 b.hash.0).0 parts.1 in
    λ i. record { index = index i; hash = record { 0 = bytes i } }

point_is_same : (a : Point) → same_point a a ≡ true
point_is_same a = subst (λ (b : Bool). (b && same_hash a.hash a.hash) ≡ true) (sym (eq-eqb a.index a.index refl)) ((bytes_eq-Decides a.hash.0 a.hash.0).1 refl)

no_way : false ≡ true → ⊥
no_way is = cc

-- ---- the map: the first part that was sent of a table at this point says whose it is
abbrev is_at : PeerMsg → Point → Bool
is_at (Part term part) p = same_point part.point p
is_at other p = false

abbrev pub names_in : List (Sent Message) → Point → Named
names_in [] p = nothing_named
names_in (m ∷ messages) p = if is_at m.message.msg p then m.message.names else names_in messages p

module _ (link : Link) (w : World) (none : NoCollision link w) where
  -- what is known of a part that was sent: it is true, its path was held, and it reads it as the run does
  pub record KnownPart (names : Named) (part : TablePart) : Type 0 where
    pub true_part : IsTruePart link part names
    held : HeldIn w.field.history names.path
    limit_is : names.limit ≡ limit_of w
    first_is : names.first ≡ (setup_of w).first

  abbrev pub Known : Named → PeerMsg → Type 0
  Known names (Part term part) = KnownPart names part
  Known names other = Unit {0}

  abbrev pub KnownMail : Sent Message → Type 0
  KnownMail m = Known m.message.names m.message.msg

  known_msg : (from : ℕ) (names : Named) (msg : PeerMsg) → IsTrueMsg link names msg → GoodMsg link (setup_of w).first (EverIn w.field.history) (HeldIn w.field.history) from names msg → NamesLimit (limit_of w) names msg → Known names msg
  known_msg from names (Part term part) part_is good told = record { true_part = part_is; held = good.table.held; limit_is = told; first_is = good.first_is }
  known_msg from names other part_is good told = tt

  -- two parts of tables at one point name the same
  pub one_name : (n m : Named) (a b : TablePart) → KnownPart n a → KnownPart m b → a.point ≡ b.point → n ≡ m
  one_name n m a b k h at =
      let ends : end_point link n.path ≡ end_point link m.path = sym (ap (λ (x : TablePart). x.point) k.true_part.is_part) ∙ (at ∙ ap (λ (x : TablePart). x.point) h.true_part.is_part) in
      let lengths : length n.path ≡ length m.path = ap (λ (p : Point). p.index) ends in
      let chains : chain link n.path ≡ chain link m.path = ap (λ (p : Point). p.hash) ends in
      let paths : n.path ≡ m.path = same_points link (HeldIn w.field.history) none (held_shorter w.field.history) (length m.path) n.path m.path lengths refl k.held h.held chains in
      let limits : n.limit ≡ m.limit = k.limit_is ∙ sym h.limit_is in
      let firsts : n.first ≡ m.first = k.first_is ∙ sym h.first_is in
      λ i. record { path = paths i; limit = limits i; first = firsts i }

  -- the map has what a part names at its point
  module _ (names : Named) (part : TablePart) (k : KnownPart names part) where
    found : (other : Named) (msg : PeerMsg) → Known other msg → is_at msg part.point ≡ true → other ≡ names
    found other (Part term p) known at = one_name other names p part known k (same_point_is p.point part.point at)
    found other rest known at = absurd (no_way at)

    abbrev IsPartOf : ℕ → ℕ → ℕ → Sent Message → Type 0
    IsPartOf term from to s = s ≡ record { from = from; to = to; message = record { msg = Part term part; names = names } }

    at_its_point : (term : ℕ) (messages : List (Sent Message)) → AllByRecursion KnownMail messages → (from to : ℕ) → AnyByRecursion (λ (s : Sent Message). s ≡ record { from = from; to = to; message = record { msg = Part term part; names = names } }) messages → names_in messages part.point ≡ names
    at_its_point term [] known from to any = absurd any
    at_its_point term (m ∷ messages) known from to any =
        cond_both (is_at m.message.msg part.point) m.message.names (names_in messages part.point) (λ (n : Named). n ≡ names)
        (λ here. found m.message.names m.message.msg known.0 here)
        (λ other. later (λ there. at_its_point term messages known.1 from to there) other any)
      where
        later : (AnyByRecursion (IsPartOf term from to) messages → names_in messages part.point ≡ names) → is_at m.message.msg part.point ≡ false → AnyByRecursion (IsPartOf term from to) (m ∷ messages) → names_in messages part.point ≡ names
        later rest other (inl same) = absurd (no_way (sym other ∙ (ap (λ (s : Sent Message). is_at s.message.msg part.point) same ∙ point_is_same part.point)))
        later rest other (inr there) = rest there

  module _ (known : AllByRecursion KnownMail w.messages) where
    abbrev the_map : Point → Named
    the_map = names_in w.messages

    named_msg : (from to : ℕ) (names : Named) (msg : PeerMsg) → AnyByRecursion (λ (s : Sent Message). s ≡ record { from = from; to = to; message = record { msg = msg; names = names } }) w.messages → Known names msg → IsNamed link the_map msg names
    named_msg from to names (Part term part) sent k = (k.true_part, at_its_point names part k term w.messages known from to sent)
    named_msg from to names other sent k = tt

    -- whatever was sent is named by the map
    pub sent_named : (from to : ℕ) (m : Message) → AnyByRecursion (λ (s : Sent Message). s ≡ record { from = from; to = to; message = m }) w.messages → IsNamed link the_map m.msg m.names
    sent_named from to m sent = named_msg from to m.names m.msg sent (all_at KnownMail w.messages (record { from = from; to = to; message = m }) sent known)

    handed_named : (role : Role) (input : Option (HostInput Message)) → HandedSent w.messages input → IsNamedAt link the_map role input
    handed_named (Learner taking) None sent = tt
    handed_named (Learner taking) (Some Tick) sent = tt
    handed_named (Learner taking) (Some (Peer from to m)) sent = sent_named from to m sent
    handed_named (Learner taking) (Some (Client client number request)) sent = tt
    handed_named (Learner taking) (Some (Join id)) sent = tt
    handed_named (Learner taking) (Some (Admit id)) sent = tt
    handed_named (Learner taking) (Some (Remove id)) sent = tt
    handed_named (Learner taking) (Some Save) sent = tt
    handed_named (Learner taking) (Some (Roll state)) sent = tt
    handed_named (Learner taking) (Some (Connect id)) sent = tt
    handed_named (Learner taking) (Some (Margin margin)) sent = tt
    handed_named Follower input sent = tt
    handed_named (Candidate votes) input sent = tt
    handed_named (Leader l) input sent = tt

-- what is known of the mail of a run
pub mail_known : (link : Link) (events : List Event) (none : NoCollision link (run link events)) → AllByRecursion (KnownMail link (run link events) none) (run link events).messages
mail_known link events none =
    let w : World = run link events in
    let good = (run_kept link events none).standing.mail in
    let told = (run_fair link events).standing.mail in
    let parts = (run_true link events).standing.mail in
    all_from (KnownMail link w none) w.messages
    (λ m among. known_msg link w none m.from m.message.names m.message.msg
    (all_at (λ (m : Sent Message). IsTrue link m.message) w.messages m among parts)
    (all_at (GoodMail link (setup_of w).first w.field.history) w.messages m among good)
    (all_at (λ (m : Sent Message). LimitTold (limit_of w) m.message) w.messages m among told))

pub parts_have_a_map : PartsHaveAMap
parts_have_a_map link events none =
    let w : World = run link events in
    (names_in w.messages, all_more (λ (r : Recorded). HandedSent w.messages r.input) (λ (r : Recorded). IsNamedAt link (names_in w.messages) r.before.role r.input) (λ r sent. handed_named link w none (mail_known link events none) r.before.role r.input sent) w.field.history (run_true link events).handed)
