-- What a call of a field means, on each understanding of its answers. Only here is it asked which one it is.
use Rattle.std.proofs.Common.{arith, refl, sym, ap, subst, ◌∙◌, ◌≡◌, ℕ, suc, ◌||◌, Bool, true, false, List, [], ◌∷◌, length, map, inl, inr, Option, Some, None, Result, Ok, Err}
use Rattle.std.specs.Prelude.{IfSome, IsSomeAnd}
use Rattle.std.specs.List.{AllByRecursion}
use Rattle.std.proofs.lemmas.Bool.{cases_eq}
use Rattle.values.specs.declared.batch.Batch.{Batch}
use Rattle.values.specs.declared.peer.PeerMsg.{PeerMsg}
use Rattle.group_quorum.specs.Conf.{Conf}
use Rattle.replica_model.specs.Keyed.{value_at}
use Rattle.replica_model.specs.Linked.{sha_link}
use Rattle.replica_model.specs.Message.{Message}
use Rattle.replica_model.specs.Replica.{Replica}
use Rattle.host_msgs.specs.Batches.{batch_in}
use Rattle.host_msgs.specs.declared.gathered.Gathered.{Gathered}
use Rattle.group_model.specs.Enclave.{Begin, Hello, Learn, HostInput, Connect, Enclave, called, hello_id, started}
use Rattle.group_model.specs.Field.{Reply, Answers, Unreadable, Nothing}
use Rattle.group_model.specs.Happens.{starts_all}
use Rattle.group_model.specs.Run.{Enclaves, call_enclave, moves}
use Rattle.trace_model.specs.Contents.{next_reply, reply_by}
use Rattle.trace_model.specs.Session.{Starts}
use Rattle.enclave_host.specs.declared.running.Running.{Running}
use Rattle.enclave_host.specs.Answers.{StartedBy}
use Rattle.enclave_host.specs.Fields.{Calling, Map, SameBut, Starting, Steps, WhereTold}
use Rattle.enclave_host.specs.Standing.{StandsFor}
use Rattle.enclave_host.specs.Words.{wording}
use Rattle.group_world.specs.Failing.{one_call, one_taken, through}
use Rattle.group_world.specs.Given.{Given, Taken, Content, contents_in}
use Rattle.group_world.specs.Meanings.{Meaning, OfEnclaves, OfContents, Until, MessageOf, StateOf, model_of, AreNamed, Fits, IsNamedTo, SaysInput, SaysMessage, StandsAt, batch_if, batch_of}
use Rattle.group_world.specs.Plays.{AreSent, IsBatch, SayEach}
use Rattle.group_world.proofs.Framed.{batch_framed, frames_length}
use Rattle.group_world.proofs.Handed.{batch_as, batch_read, called_sent, steps_as}
use Rattle.group_world.proofs.Lookups.{none_without, same_without, value_at-other, value_at-put}
use Rattle.group_world.proofs.Own.{called-own}

-- the call was answered by this batch, and the model's field stands as the real one does
pub record IsAnswered (m : Meaning) (later : List Given) (f : StateOf m) (map' : Option Map) (id : ℕ) (input : HostInput (MessageOf m)) (batch : Batch) (frames : List (List ℕ)) : Type 0 where
  pub sent : List (ℕ × MessageOf m)
  pub after : StateOf m
  pub answers : (model_of m).call f id input ≡ Answers batch sent after
  pub are : AreSent m id batch frames sent
  pub fits : Fits m map' later after

-- or by what is none
pub record IsRefused (m : Meaning) (later : List Given) (f : StateOf m) (map' : Option Map) (id : ℕ) (input : HostInput (MessageOf m)) (at : ℕ) : Type 0 where
  pub after : StateOf m
  pub answers : (model_of m).call f id input ≡ Unreadable at after
  pub fits : Fits m map' later after

-- what the call hands over is named as it is without a collision
unfoldable pub IsNamedAsk : (m : Meaning) → StateOf m → ℕ → HostInput (MessageOf m) → Type 0
IsNamedAsk OfEnclaves f id input = IfSome (value_at f.running id) (λ e. IsNamedTo e.replica.role (Some input))
IsNamedAsk OfContents f id input = Unit {0}
IsNamedAsk (Until m) f id input = IsNamedAsk m f.inner id input

-- all that was handed over up to an answer is
abbrev pub IsNamedReply : (m : Meaning) → Reply (MessageOf m) (StateOf m) → Type 0
IsNamedReply m (Answers batch sent f) = AreNamed m f
IsNamedReply m (Unreadable at f) = AreNamed m f
IsNamedReply m Nothing = Unit {0}

-- ---- what was named

ask_by : (f : Enclaves) (id : ℕ) (input : HostInput Message) (o : Option Enclave) → IsNamedReply OfEnclaves (call_enclave sha_link f id input o) → IfSome o (λ e. IsNamedTo e.replica.role (Some input))
unfolding AreNamed
ask_by f id input None named = tt
ask_by f id input (Some e) named = named.0

asked_through : (m : Meaning) (n : ℕ) (s : StateOf (Until m)) (reply : Reply (MessageOf m) (StateOf m)) → IsNamedReply (Until m) (through (model_of m) n s reply) → IsNamedReply m reply
unfolding AreNamed
asked_through m n s (Answers batch sent f) named = named
asked_through m n s (Unreadable at f) named = named
asked_through m n s Nothing named = named

-- a call that is answered is named so where its answer is
pub named_ask : (m : Meaning) (map : Option Map) (d : Given) (later : List Given) (f : StateOf m) (id : ℕ) (input : HostInput (MessageOf m)) → Fits m map (d ∷ later) f
    → IsNamedReply m ((model_of m).call f id input) → IsNamedAsk m f id input
unfolding model_of Fits IsNamedAsk
named_ask OfEnclaves map d later f id input fits named = ask_by f id input (value_at f.running id) named
named_ask OfContents map d later f id input fits named = tt
named_ask (Until m) map d later f id input (fits, (left, sound)) named =
    let one : f.left ≡ suc (length later) = omega (arith, left) in
    named_ask m map d later f.inner id input fits
    (asked_through m (length later) f ((model_of m).call f.inner id input) (subst (λ (n : ℕ). IsNamedReply (Until m) (one_call (model_of m) n f id input)) one named))

connect_by : (o : Option Enclave) (x : ℕ) → IfSome o (λ e. IsNamedTo e.replica.role (Some (Connect x)))
connect_by None x = tt
connect_by (Some e) x = tt

-- a link names nothing
pub connect_named : (m : Meaning) (f : StateOf m) (id x : ℕ) → IsNamedAsk m f id (Connect x)
unfolding IsNamedAsk
connect_named OfEnclaves f id x = connect_by (value_at f.running id) x
connect_named OfContents f id x = tt
connect_named (Until m) f id x = connect_named m f.inner id x

-- ---- given contents

any_frames : (r : ℕ) (frames : List (List ℕ)) (sent : List (ℕ × PeerMsg)) → length frames ≡ length sent → SayEach OfContents r frames sent
unfolding SaysMessage
any_frames r [] [] same = tt
any_frames r [] (s ∷ sent) same = cc same
any_frames r (f ∷ frames) [] same = cc same
any_frames r (f ∷ frames) (s ∷ sent) same = (tt, any_frames r frames sent (let e : length frames ≡ length sent = omega (arith, same) in e))

module _ (content : List ℕ) (batch : Batch) (frames : List (List ℕ)) (read : IsBatch content batch frames) where
  batch_is : batch_of content ≡ Ok batch
  batch_is = ap batch_if read.read

  as_many : length frames ≡ length batch.sent
  as_many = frames_length read.sender frames batch.sent (batch_framed content (record { last = read.last; sender = read.sender; batch = batch; frames = frames }) read.read)

  contents_answer : (later : List Given) (f : StateOf OfContents) (map' : Option Map) (id : ℕ) (input : HostInput (MessageOf OfContents)) → f ≡ content ∷ contents_in later
      → IsAnswered OfContents later f map' id input batch frames
  unfolding model_of Fits
  contents_answer later f map' id input fits = record {
    sent = batch.sent;
    after = contents_in later;
    answers = ap (next_reply batch_of) fits ∙ ap (reply_by (contents_in later)) batch_is;
    are = record { to = refl; says = any_frames id frames batch.sent as_many };
    fits = refl;
  }

-- ---- enclaves

firsts : (sent : List (ℕ × Message)) → map (λ (s : ℕ × PeerMsg). s.0) (map (λ (m : ℕ × Message). (m.0, m.1.msg)) sent) ≡ map (λ (s : ℕ × Message). s.0) sent
firsts [] = refl
firsts (m ∷ sent) = ap (λ (ids : List ℕ). m.0 ∷ ids) (firsts sent)

-- the real map and the model's, where an id was called
module _ (f : Enclaves) (was now : Map) (id : ℕ) (bytes out : List ℕ) (input : HostInput Message) (others : SameBut was now id) (stand : (other : ℕ) → StandsAt other (was other) (value_at f.running other)) (says : SaysInput OfEnclaves bytes input) where
  enclave_answers : (later : List Given) (batch : Batch) (frames : List (List ℕ)) (c : Option (Option Running)) (o : Option Enclave) (d : Option (Option Running)) → value_at f.running id ≡ o → now id ≡ d → StandsAt id c o
      → IfSome o (λ e. IsNamedTo e.replica.role (Some input)) → IsSomeAnd c (λ e. IsSomeAnd d (λ g. Steps e bytes g out)) → IsBatch out batch frames → IsAnswered OfEnclaves later f (Some now) id input batch frames
  unfolding model_of Fits
  enclave_answers later batch frames None o d at to both named steps read = absurd steps
  enclave_answers later batch frames (Some c) None d at to both named steps read = absurd both
  enclave_answers later batch frames (Some c) (Some e) None at to both named steps read = absurd steps
  enclave_answers later batch frames (Some c) (Some e) (Some d) at to both named steps read =
      let called_now = called sha_link e input in
      let (stands, content) = steps_as c d bytes out e input steps both.stands says named in
      let own = called-own sha_link id e (both.me, both.saved) input in
      let sent = called_sent e input in
      let (same, each) = batch_as called_now id out batch frames own.0 sent content read in
      record {
        sent = called_now.call.sent;
        after = moves f id e.replica (Some input) called_now;
        answers = ap (call_enclave sha_link f id input) at ∙ ap (λ (b : Batch). Answers b called_now.call.sent (moves f id e.replica (Some input) called_now)) (sym same);
        are = record {
          to = ap (λ (b : Batch). map (λ (s : ℕ × PeerMsg). s.0) b.sent) same ∙ ap (map (λ (s : ℕ × PeerMsg). s.0)) sent ∙ firsts called_now.call.sent;
          says = each;
        };
        fits = λ other. elim (cases_eq other id) [
          | inl here ↦ rw (here, to, value_at-put f.running id called_now.enclave) (record { stands = stands; me = own.0; saved = own.1 })
          | inr apart ↦ rw (others other apart, value_at-other f.running id other called_now.enclave apart) (stand other)
        ];
      }

  enclave_reads : (at : ℕ) (c : Option (Option Running)) (o : Option Enclave) (d : Option (Option Running)) → StandsAt id c o → IfSome o (λ e. IsNamedTo e.replica.role (Some input))
      → IsSomeAnd c (λ e. IsSomeAnd d (λ g. Steps e bytes g out)) → batch_in out ≡ Err at → ⊥
  enclave_reads at None o d both named steps is = absurd steps
  enclave_reads at (Some c) None d both named steps is = absurd both
  enclave_reads at (Some c) (Some e) None both named steps is = absurd steps
  enclave_reads at (Some c) (Some e) (Some d) both named steps is = batch_read (called sha_link e input) out at (steps_as c d bytes out e input steps both.stands says named).1 is

enclaves_answer : (later : List Given) (f : Enclaves) (map map' : Option Map) (id : ℕ) (bytes out : List ℕ) (input : HostInput Message) (batch : Batch) (frames : List (List ℕ))
    → Fits OfEnclaves map (Content out ∷ later) f → SaysInput OfEnclaves bytes input → IsNamedAsk OfEnclaves f id input → WhereTold map map' (λ was now. Calling was now id bytes out × SameBut was now id)
    → IsBatch out batch frames → IsAnswered OfEnclaves later f map' id input batch frames
unfolding Fits IsNamedAsk
enclaves_answer later f None map' id bytes out input batch frames fits says named stepped read = absurd fits
enclaves_answer later f (Some was) None id bytes out input batch frames fits says named stepped read = absurd stepped
enclaves_answer later f (Some was) (Some now) id bytes out input batch frames fits says named (steps, others) read =
    enclave_answers f was now id bytes out input others fits says later batch frames (was id) (value_at f.running id) (now id) refl refl (fits id) named steps read

enclaves_read : (later : List Given) (f : Enclaves) (map map' : Option Map) (id : ℕ) (bytes out : List ℕ) (input : HostInput Message) (at : ℕ)
    → Fits OfEnclaves map (Content out ∷ later) f → SaysInput OfEnclaves bytes input → IsNamedAsk OfEnclaves f id input → WhereTold map map' (λ was now. Calling was now id bytes out × SameBut was now id)
    → batch_in out ≡ Err at → ⊥
unfolding Fits IsNamedAsk
enclaves_read later f None map' id bytes out input at fits says named stepped is = absurd fits
enclaves_read later f (Some was) None id bytes out input at fits says named stepped is = absurd stepped
enclaves_read later f (Some was) (Some now) id bytes out input at fits says named (steps, others) is =
    enclave_reads f was now id bytes out input others fits says at (was id) (value_at f.running id) (now id) (fits id) named steps is

refused_at : (r : Result Gathered ℕ) (at : ℕ) → batch_if r ≡ Err at → r ≡ Err at
refused_at (Ok g) at is = cc is
refused_at (Err at') at is = let same : at' ≡ at = cc is in ap Err same

-- ---- a call that was answered

pub call_answers : (m : Meaning) (later : List Given) (f : StateOf m) (map map' : Option Map) (id : ℕ) (bytes out : List ℕ) (input : HostInput (MessageOf m)) (batch : Batch) (frames : List (List ℕ))
    → Fits m map (Content out ∷ later) f → SaysInput m bytes input → IsNamedAsk m f id input → WhereTold map map' (λ was now. Calling was now id bytes out × SameBut was now id) → IsBatch out batch frames
    → IsAnswered m later f map' id input batch frames
unfolding model_of Fits SaysInput SaysMessage IsNamedAsk
call_answers OfEnclaves later f map map' id bytes out input batch frames fits says named stepped read = enclaves_answer later f map map' id bytes out input batch frames fits says named stepped read
call_answers OfContents later f map map' id bytes out input batch frames fits says named stepped read = contents_answer out batch frames read later f map' id input fits
call_answers (Until m) later f map map' id bytes out input batch frames (fits, (left, sound)) says named stepped read =
    let h = call_answers m later f.inner map map' id bytes out input batch frames fits says named stepped read in
    let one : f.left ≡ suc (length later) = omega (arith, left) in
    record {
      sent = h.sent;
      after = record f { inner = h.after; left = length later };
      answers = ap (λ (n : ℕ). one_call (model_of m) n f id input) one ∙ ap (through (model_of m) (length later) f) h.answers;
      are = record { to = h.are.to; says = until_says m id frames h.sent h.are.says };
      fits = (h.fits, (refl, sound));
    }
  where
    until_says : (m : Meaning) (r : ℕ) (fs : List (List ℕ)) (sent : List (ℕ × MessageOf m)) → SayEach m r fs sent → SayEach (Until m) r fs sent
    until_says m r [] [] h = tt
    until_says m r [] (s ∷ sent) h = absurd h
    until_says m r (f ∷ fs) [] h = absurd h
    until_says m r (f ∷ fs) (s ∷ sent) (here, h) = (here, until_says m r fs sent h)

pub call_refuses : (m : Meaning) (later : List Given) (f : StateOf m) (map map' : Option Map) (id : ℕ) (bytes out : List ℕ) (input : HostInput (MessageOf m)) (at : ℕ)
    → Fits m map (Content out ∷ later) f → SaysInput m bytes input → IsNamedAsk m f id input → WhereTold map map' (λ was now. Calling was now id bytes out × SameBut was now id) → batch_of out ≡ Err at
    → IsRefused m later f map' id input at
unfolding model_of Fits SaysInput IsNamedAsk
call_refuses OfEnclaves later f map map' id bytes out input at fits says named stepped is = absurd (enclaves_read later f map map' id bytes out input at fits says named stepped (refused_at (batch_in out) at is))
call_refuses OfContents later f map map' id bytes out input at fits says named stepped is = record {
  after = contents_in later;
  answers = ap (next_reply batch_of) fits ∙ ap (reply_by (contents_in later)) is;
  fits = refl;
}
call_refuses (Until m) later f map map' id bytes out input at (fits, (left, sound)) says named stepped is =
    let h = call_refuses m later f.inner map map' id bytes out input at fits says named stepped is in
    let one : f.left ≡ suc (length later) = omega (arith, left) in
    record {
      after = record f { inner = h.after; left = length later };
      answers = ap (λ (n : ℕ). one_call (model_of m) n f id input) one ∙ ap (through (model_of m) (length later) f) h.answers;
      fits = (h.fits, (refl, sound));
    }

-- no ask is answered any more
pub call_fails : (m : Meaning) (f : StateOf (Until m)) (map : Option Map) (id : ℕ) (input : HostInput (MessageOf (Until m))) → Fits (Until m) map [] f → (model_of (Until m)).call f id input ≡ Nothing
unfolding model_of Fits
call_fails m f map id input (fits, (left, sound)) = ap (λ (n : ℕ). one_call (model_of m) n f id input) left

-- no start and no stop failed
pub nothing_failed : (m : Meaning) (map : Option Map) (given : List Given) (f : StateOf m) → Fits m map given f → (model_of m).has_failed f ≡ false
unfolding model_of Fits
nothing_failed OfEnclaves map given f fits = refl
nothing_failed OfContents map given f fits = refl
nothing_failed (Until m) map given f (fits, (left, sound)) = ap (λ (b : Bool). b || (model_of m).has_failed f.inner) sound ∙ nothing_failed m map given f.inner fits

-- ---- a stop

stands_none : (id : ℕ) (o : Option (Option Running)) → o ≡ None → StandsAt id o None
stands_none id None is = tt
stands_none id (Some e) is = cc is

abbrev pub Stopping : Map → Map → ℕ → Type 0
Stopping was now id = (now id ≡ None) × SameBut was now id

enclaves_stop : (later : List Given) (f : Enclaves) (map map' : Option Map) (id : ℕ) → Fits OfEnclaves map (Taken ∷ later) f → WhereTold map map' (λ was now. Stopping was now id) → Fits OfEnclaves map' later ((model_of OfEnclaves).stop f id)
unfolding Fits model_of
enclaves_stop later f None map' id fits stopped = absurd fits
enclaves_stop later f (Some was) None id fits stopped = absurd stopped
enclaves_stop later f (Some was) (Some now) id fits (gone, others) = λ other. elim (cases_eq other id) [
  | inl same ↦ rw (same, none_without f.running id) (stands_none id (now id) gone)
  | inr apart ↦ rw (others other apart, same_without f.running id other apart) (fits other)
]

pub stop_answers : (m : Meaning) (later : List Given) (f : StateOf m) (map map' : Option Map) (id : ℕ) → Fits m map (Taken ∷ later) f → WhereTold map map' (λ was now. Stopping was now id) → Fits m map' later ((model_of m).stop f id)
unfolding Fits model_of
stop_answers OfEnclaves later f map map' id fits stopped = enclaves_stop later f map map' id fits stopped
stop_answers OfContents later f map map' id fits stopped = fits
stop_answers (Until m) later f map map' id (fits, (left, sound)) stopped =
    let one : f.left ≡ suc (length later) = omega (arith, left) in
    rw one (stop_answers m later f.inner map map' id fits stopped, (refl, sound))

pub stop_fails : (m : Meaning) (f : StateOf (Until m)) (map : Option Map) (id : ℕ) → Fits (Until m) map [] f → (model_of (Until m)).has_failed ((model_of (Until m)).stop f id) ≡ true
unfolding Fits model_of
stop_fails m f map id (fits, (left, sound)) =
    ap (λ (n : ℕ). (one_taken (model_of m) n f ((model_of m).stop f.inner id)).failed || (model_of m).has_failed (one_taken (model_of m) n f ((model_of m).stop f.inner id)).inner) left

-- ---- a start

started_own : (hello : Hello) → (started hello).replica.me ≡ hello_id hello
started_own (Begin id margin limit voters) = refl
started_own (Learn id linked) = refl

started_saved : (hello : Hello) → AllByRecursion (λ (s : Replica). s.me ≡ hello_id hello) (started hello).saved
started_saved (Begin id margin limit voters) = (refl, tt)
started_saved (Learn id linked) = (refl, tt)

start_stands : (hello : Hello) (bytes : List ℕ) (d : Option (Option Running)) → IsSomeAnd d (λ e. StartedBy e (wording.content_of bytes)) → wording.content_of bytes ≡ Ok (Starts hello) → StandsAt (hello_id hello) d (Some (started hello))
start_stands hello bytes None is says = absurd is
start_stands hello bytes (Some d) is says =
    let both : Ok (Starts is.hello) ≡ Ok (Starts hello) = sym is.said ∙ says in
    let same : is.hello ≡ hello = cc both in
    record { stands = subst (λ (h : Hello). StandsFor d (started h)) same is.stands; me = started_own hello; saved = started_saved hello }

enclaves_start : (later : List Given) (f : Enclaves) (map map' : Option Map) (hello : Hello) (bytes : List ℕ) → Fits OfEnclaves map (Taken ∷ later) f → wording.content_of bytes ≡ Ok (Starts hello)
    → WhereTold map map' (λ was now. Starting now (hello_id hello) bytes × SameBut was now (hello_id hello)) → Fits OfEnclaves map' later ((model_of OfEnclaves).start f hello)
unfolding Fits model_of
enclaves_start later f None map' hello bytes fits says stepped = absurd fits
enclaves_start later f (Some was) None hello bytes fits says stepped = absurd stepped
enclaves_start later f (Some was) (Some now) hello bytes fits says (here, others) = λ other. elim (cases_eq other (hello_id hello)) [
  | inl same ↦ rw (same, value_at-put f.running (hello_id hello) (started hello)) (start_stands hello bytes (now (hello_id hello)) here says)
  | inr apart ↦ rw (others other apart, value_at-other f.running (hello_id hello) other (started hello) apart) (fits other)
]

pub start_answers : (m : Meaning) (later : List Given) (f : StateOf m) (map map' : Option Map) (hello : Hello) (bytes : List ℕ) → Fits m map (Taken ∷ later) f → wording.content_of bytes ≡ Ok (Starts hello)
    → WhereTold map map' (λ was now. Starting now (hello_id hello) bytes × SameBut was now (hello_id hello)) → Fits m map' later ((model_of m).start f hello)
unfolding Fits model_of
start_answers OfEnclaves later f map map' hello bytes fits says stepped = enclaves_start later f map map' hello bytes fits says stepped
start_answers OfContents later f map map' hello bytes fits says stepped = fits
start_answers (Until m) later f map map' hello bytes (fits, (left, sound)) says stepped =
    let one : f.left ≡ suc (length later) = omega (arith, left) in
    rw one (start_answers m later f.inner map map' hello bytes fits says stepped, (refl, sound))

-- one start that is not answered
pub one_start_fails : (m : Meaning) (hello : Hello) (f : StateOf (Until m)) (map : Option Map) → Fits (Until m) map [] f → (model_of (Until m)).has_failed ((model_of (Until m)).start f hello) ≡ true
unfolding Fits model_of
one_start_fails m hello f map (fits, (left, sound)) =
    let x = (model_of m).start f.inner hello in
    ap (λ (n : ℕ). (one_taken (model_of m) n f x).failed || (model_of m).has_failed (one_taken (model_of m) n f x).inner) left

-- once a start was not answered, the starts after it change nothing of that
pub failed_stays : (m : Meaning) (c : Conf) (limit : ℕ) (vs : List ℕ) (f : StateOf (Until m)) → f.left ≡ 0 → f.failed ≡ true → (model_of (Until m)).has_failed (starts_all (model_of (Until m)) f c limit vs) ≡ true
unfolding model_of
failed_stays m c limit [] f left failed = ap (λ (b : Bool). b || (model_of m).has_failed f.inner) failed
failed_stays m c limit (v ∷ vs) f left failed =
    let x = (model_of m).start f.inner (Begin v c.margin limit c.voters) in
    failed_stays m c limit vs (one_taken (model_of m) f.left f x) (ap (λ (n : ℕ). (one_taken (model_of m) n f x).left) left ∙ left) (ap (λ (n : ℕ). (one_taken (model_of m) n f x).failed) left)

pub start_fails : (m : Meaning) (c : Conf) (limit : ℕ) (v : ℕ) (vs : List ℕ) (f : StateOf (Until m)) (map : Option Map) → Fits (Until m) map [] f
    → (model_of (Until m)).has_failed (starts_all (model_of (Until m)) f c limit (v ∷ vs)) ≡ true
unfolding Fits model_of
start_fails m c limit v vs f map (fits, (left, sound)) =
    let x = (model_of m).start f.inner (Begin v c.margin limit c.voters) in
    failed_stays m c limit vs (one_taken (model_of m) f.left f x) (ap (λ (n : ℕ). (one_taken (model_of m) n f x).left) left ∙ left) (ap (λ (n : ℕ). (one_taken (model_of m) n f x).failed) left)
