-- What is handed over of a message, and what delivering or losing it makes of the world.
use Rattle.std.proofs.Common.{arith, refl, sym, ap, ap₂, subst, ◌∙◌, ◌≡◌, ℕ, zero, suc, ◌+◌, ◌-◌, ◌<◌, ◌==◌, ◌||◌, cond, not, Bool, true, false, List, [], ◌∷◌, length, find, slice_get, option_map, unwrap_or, Option, Some, None, Result, Ok, Err, IsSomeAnd, inl, inr}
use Rattle.std.proofs.lemmas.Bool.{cases_eq, eq-eqb, ne_eqb}
use Rattle.std.proofs.lemmas.Option.{slice_get_within}
use Rattle.std.specs.Result.{IsOkAnd}
use Rattle.group_quorum.specs.Voters.{is_in}
use Rattle.values.specs.declared.event.Event.TheVariants as event
use Rattle.schedule_model.specs.Refusals as refusals
use Rattle.trace_text.specs.Refused.{meant}
use Rattle.trace_text.specs.declared.refused.GroupRefusal.{GroupRefusal}
use Rattle.trace_text.specs.declared.refused.GroupRefusal.TheVariants as refusal
use Rattle.host_inputs.specs.declared.input.HostFault.{HostFault}
use Rattle.group_model.specs.Enclave.{Peer}
use Rattle.group_model.specs.Field.{Field}
use Rattle.group_model.specs.Group.{Group, Sent, but, is_addressed, next_message, numbered}
use Rattle.group_model.specs.Happens as happening
use Rattle.group_model.specs.Happens.{Refused, Passed, Happening, Happened}
use Rattle.trace_model.specs.PartMap.{SaysInput as InContent}
use Rattle.trace_model.specs.Session.{Content, Frames, untagged}
use Rattle.enclave_host.specs.Answers.{IsNoStart}
use Rattle.enclave_host.specs.Fields.{IsInput, Map}
use Rattle.enclave_host.specs.Words.{wording}
use Rattle.group_world.specs.declared.came.Came as code
use Rattle.group_world.specs.declared.came.Came.TheVariants as came
use Rattle.group_world.specs.declared.came.Unplayed.{Unplayed}
use Rattle.group_world.specs.declared.post.Fate.{Fate}
use Rattle.group_world.specs.declared.post.Fate.TheVariants.{Delivered, Lost}
use Rattle.group_world.specs.declared.post.Letter.{Letter}
use Rattle.group_world.specs.declared.world.World.{World}
use Rattle.group_world.specs.Given.{Given}
use Rattle.group_world.specs.Meanings.{Meaning, OfEnclaves, OfContents, Until, MessageOf, model_of, SaysInput, SaysMessage}
use Rattle.group_world.specs.Missing.{IsMissing, IsThere}
use Rattle.group_world.specs.Plays.{Acts, Does, Hands, Tells}
use Rattle.group_world.specs.Posted.{fated, is_for, is_lost, is_lost_in, is_waiting, next_in, waiting_in}
use Rattle.group_world.specs.Roster.{IsRoster}
use Rattle.group_world.specs.Standing.{AreLetters, IsLetter, IsWorld}
use Rattle.group_world.proofs.Happening.{does_from}
use Rattle.group_world.proofs.Queued.{find_agree}
use Rattle.group_world.proofs.Waiting.{fate_fated, waiting_fated}

-- ---- the content that hands over a frame

ok_and : {T E : Type 0} (r : Result T E) (P : T → Type 0) (x : T) → r ≡ Ok x → P x → IsOkAnd r P
ok_and {T = T} {E = E} r P x is h = subst (λ (r : Result T E). IsOkAnd r P) (sym is) h

-- the content hands over this frame
abbrev pub read_frame : List ℕ → Result Content HostFault
read_frame frame = Ok (Frames frame)

abbrev pub IsHanding : List ℕ → List ℕ → Type 0
IsHanding bytes frame = wording.content_of bytes ≡ read_frame frame

pub frame_input : (bytes frame : List ℕ) → IsHanding bytes frame → IsInput bytes
frame_input bytes frame is = ok_and (wording.content_of bytes) IsNoStart (Frames frame) is (λ h. h)

pub says_peer : (m : Meaning) (bytes frame : List ℕ) (from to : ℕ) (message : MessageOf m) → IsHanding bytes frame → SaysMessage m from to frame message → SaysInput m bytes (Peer from to message)
unfolding SaysMessage SaysInput
says_peer OfEnclaves bytes frame from to message is says = ok_and (wording.content_of bytes) (InContent wording untagged (Some (Peer from to message))) (Frames frame) is says
says_peer OfContents bytes frame from to message is says = tt
says_peer (Until m) bytes frame from to message is says = says_peer m bytes frame from to message is says

-- ---- the letter of a number

-- what stands at a place of both lists
abbrev AtBoth : {M : Type 0} → ((from to : ℕ) → List ℕ → M → Type 0) → Option Letter → Option (Sent M) → Type 0
AtBoth says None None = Unit {0}
AtBoth says None (Some s) = ⊥
AtBoth says (Some l) None = ⊥
AtBoth says (Some l) (Some s) = IsLetter says l s

module _ {M : Type 0} (says : (from to : ℕ) → List ℕ → M → Type 0) where
  both_at : (ls : List Letter) (ss : List (Sent M)) → AreLetters says ls ss → (i : ℕ) → AtBoth says (slice_get ls i) (slice_get ss i)
  both_at [] [] h i = tt
  both_at [] (s ∷ ss) h i = absurd h
  both_at (l ∷ ls) [] h i = absurd h
  both_at (l ∷ ls) (s ∷ ss) h zero = h.0
  both_at (l ∷ ls) (s ∷ ss) h (suc i) = both_at ls ss h.1 i

  both_numbered : (ls : List Letter) (ss : List (Sent M)) → AreLetters says ls ss → (k : ℕ) → AtBoth says (numbered ls k) (numbered ss k)
  both_numbered ls ss h zero = tt
  both_numbered ls ss h (suc k) = both_at ls ss h k

  none_both : (o : Option Letter) (p : Option (Sent M)) → o ≡ None → AtBoth says o p → p ≡ None
  none_both None None is h = refl
  none_both None (Some s) is h = absurd h
  none_both (Some l) p is h = absurd cc

  some_both : (l : Letter) (o : Option Letter) (p : Option (Sent M)) → o ≡ Some l → AtBoth says o p → (s : Sent M) × (p ≡ Some s) × IsLetter says l s
  some_both l None p is h = absurd cc
  some_both l (Some o) None is h = absurd h
  some_both l (Some o) (Some s) is h = let same : o ≡ l = cc in (s, refl, subst (λ (l : Letter). IsLetter says l s) same h)

  fated_letters : (f : Fate) (ls : List Letter) (ss : List (Sent M)) (i : ℕ) → AreLetters says ls ss → AreLetters says (fated ls i f) ss
  fated_letters f [] [] i h = tt
  fated_letters f [] (s ∷ ss) i h = absurd h
  fated_letters f (l ∷ ls) [] i h = absurd h
  fated_letters f (l ∷ ls) (s ∷ ss) zero h = (record { from = h.0.from; to = h.0.to; says_it = h.0.says_it }, h.1)
  fated_letters f (l ∷ ls) (s ∷ ss) (suc i) h = (h.0, fated_letters f ls ss i h.1)

-- ---- a message that is there

some_and : {A : Type 0} (o : Option A) (P : A → Type 0) → IsSomeAnd o P → (a : A) × (o ≡ Some a) × P a
some_and None P h = absurd h
some_and (Some a) P h = (a, refl, h)

pub and_some : {A : Type 0} (o : Option A) (P : A → Type 0) (a : A) → o ≡ Some a → P a → IsSomeAnd o P
and_some {A = A} o P a is h = subst (λ (o : Option A). IsSomeAnd o P) (sym is) h

pub there_from : (ls : List Letter) (k : ℕ) → IsThere ls k → (0 < k) × (k - 1 < length ls)
there_from ls zero h = absurd h
there_from ls (suc k) h =
    let (l, at, kept) = some_and (slice_get ls k) (λ l. is_lost l.fate ≡ false) h in
    let lt = slice_get_within ls k l at in
    (omega arith, omega (arith, lt))

lost_is : (ls : List Letter) (k : ℕ) (l : Letter) (b : Bool) → numbered ls k ≡ Some l → is_lost l.fate ≡ b → is_lost_in ls k ≡ b
lost_is ls k l b at is = ap (λ (o : Option Letter). unwrap_or (option_map (λ l. is_lost l.fate) o) false) at ∙ is

there_kept : (ls : List Letter) (k : ℕ) → IsThere ls k → is_lost_in ls k ≡ false
there_kept ls k h = let (l, at, kept) = some_and (numbered ls k) (λ l. is_lost l.fate ≡ false) h in lost_is ls k l false at kept

module _ (ls : List Letter) (k : ℕ) (there : IsThere ls k) where
  place : k - 1 + 1 ≡ k
  place = let h = there_from ls k there in omega (arith, h.0)

  lost_fated : (f : Fate) (j : ℕ) → is_lost_in (fated ls (k - 1) f) j ≡ cond (j == k) (is_lost f) (is_lost_in ls j)
  lost_fated f j = fate_fated is_lost f ls (k - 1) j (there_from ls k there).1 ∙ ap (λ (n : ℕ). cond (j == n) (is_lost f) (is_lost_in ls j)) place

  lost_delivered : (j : ℕ) → is_lost_in (fated ls (k - 1) Delivered) j ≡ is_lost_in ls j
  lost_delivered j = lost_fated Delivered j ∙ elim (cases_eq j k) [
    | inl same ↦ ap (λ (b : Bool). cond b false (is_lost_in ls j)) (eq-eqb j k same) ∙ sym (ap (is_lost_in ls) same ∙ there_kept ls k there)
    | inr apart ↦ ap (λ (b : Bool). cond b false (is_lost_in ls j)) (ne_eqb j k apart)
  ]

  lost_lost : (j : ℕ) → is_lost_in (fated ls (k - 1) Lost) j ≡ ((k == j) || is_lost_in ls j)
  lost_lost j = lost_fated Lost j ∙ elim (cases_eq j k) [
    | inl same ↦ ap (λ (b : Bool). cond b true (is_lost_in ls j)) (eq-eqb j k same) ∙ sym (ap (λ (b : Bool). b || is_lost_in ls j) (eq-eqb k j (sym same)))
    | inr apart ↦ ap (λ (b : Bool). cond b true (is_lost_in ls j)) (ne_eqb j k apart) ∙ sym (ap (λ (b : Bool). b || is_lost_in ls j) (ne_eqb k j (λ same. apart (sym same))))
  ]

  waiting_marked : (f : Fate) → is_waiting f ≡ false → waiting_in (fated ls (k - 1) f) ≡ but k (waiting_in ls)
  waiting_marked f idle = let h = there_from ls k there in let e : 1 + (k - 1) ≡ k = omega (arith, h.0) in waiting_fated f idle 1 (k - 1) ls ∙ ap (λ (n : ℕ). but n (waiting_in ls)) e

module _ {M F : Type 0} (says : (from to : ℕ) → List ℕ → M → Type 0) (w : World) (g : Group M F) (post : List Letter) (k : ℕ) (there : IsThere w.post k) (roster : IsRoster w.begun w.running.items w.started.items) (h : IsWorld says w g) where
  -- it is delivered
  delivered_world : post ≡ fated w.post (k - 1) Delivered → IsWorld says (record w { post = post; roster = roster }) (record g { waiting = but k g.waiting })
  delivered_world is = record {
    begun = h.begun;
    running = h.running;
    started = h.started;
    started_count = h.started_count;
    letters = subst (λ (ls : List Letter). AreLetters says ls g.messages) (sym is) (fated_letters says Delivered w.post g.messages (k - 1) h.letters);
    lost = λ j. ap (λ (ls : List Letter). is_lost_in ls j) is ∙ lost_delivered w.post k there j ∙ h.lost j;
    waiting = ap waiting_in is ∙ waiting_marked w.post k there Delivered refl ∙ ap (but k) h.waiting;
    answers = h.answers;
    cores = h.cores;
    core_count = h.core_count;
    saves = h.saves;
    save_count = h.save_count;
    rolled = h.rolled;
    confs = h.confs;
    committed = h.committed;
    events = h.events;
  }

  -- it is lost
  lost_world : post ≡ fated w.post (k - 1) Lost → IsWorld says (record w { post = post; roster = roster }) (record g { lost = k ∷ g.lost; waiting = but k g.waiting })
  lost_world is = record {
    begun = h.begun;
    running = h.running;
    started = h.started;
    started_count = h.started_count;
    letters = subst (λ (ls : List Letter). AreLetters says ls g.messages) (sym is) (fated_letters says Lost w.post g.messages (k - 1) h.letters);
    lost = λ j. ap (λ (ls : List Letter). is_lost_in ls j) is ∙ lost_lost w.post k there j ∙ ap (λ (b : Bool). (k == j) || b) (h.lost j);
    waiting = ap waiting_in is ∙ waiting_marked w.post k there Lost refl ∙ ap (but k) h.waiting;
    answers = h.answers;
    cores = h.cores;
    core_count = h.core_count;
    saves = h.saves;
    save_count = h.save_count;
    rolled = h.rolled;
    confs = h.confs;
    committed = h.committed;
    events = h.events;
  }

-- ---- what the model does with the message

module _ {M F : Type 0} (field : Field M F) (says : (from to : ℕ) → List ℕ → M → Type 0) (w : World) (g : Group M F) (k : ℕ) (h : IsWorld says w g) where
  none_sent : numbered w.post k ≡ None → numbered g.messages k ≡ None
  none_sent at = none_both says (numbered w.post k) (numbered g.messages k) at (both_numbered says w.post g.messages h.letters k)

  found_sent : (l : Letter) → numbered w.post k ≡ Some l → (s : Sent M) × (numbered g.messages k ≡ Some s) × IsLetter says l s
  found_sent l at = some_both says l (numbered w.post k) (numbered g.messages k) at (both_numbered says w.post g.messages h.letters k)

  delivers_missing : (r : GroupRefusal) → IsMissing w.post k r → happening.delivers field k (numbered g.messages k) g ≡ Happened (Refused (meant r)) g
  delivers_missing (refusal.NoMessage n) (same, none) =
      ap (λ (o : Option (Sent M)). happening.delivers field k o g) (none_sent none) ∙ ap (λ (n : ℕ). Happened (Refused (refusals.NoMessage n)) g) (sym same)
  delivers_missing (refusal.Lost n) (same, some) =
      let (l, at, gone) = some_and (numbered w.post k) (λ l. is_lost l.fate ≡ true) some in
      let (s, is, letter) = found_sent l at in
      ap (λ (o : Option (Sent M)). happening.delivers field k o g) is
      ∙ ap (λ (b : Bool). happening.refused_if field b (refusals.Lost k) g (λ g. happening.running field s.to g (happening.hands field k s))) (sym (h.lost k) ∙ lost_is w.post k l true at gone)
      ∙ ap (λ (n : ℕ). Happened (Refused (refusals.Lost n)) g) (sym same)
  delivers_missing (refusal.NotRunning r) missing = absurd missing
  delivers_missing (refusal.AlreadyStarted r) missing = absurd missing
  delivers_missing (refusal.NoSuchState n) missing = absurd missing
  delivers_missing refusal.ClientBusy missing = absurd missing
  delivers_missing (refusal.WrongSize part n) missing = absurd missing
  delivers_missing (refusal.NumbersOut n) missing = absurd missing
  delivers_missing refusal.NothingInFlight missing = absurd missing
  delivers_missing (refusal.NoAnswer n) missing = absurd missing
  delivers_missing (refusal.NotYours n) missing = absurd missing

  loses_missing : (r : GroupRefusal) → IsMissing w.post k r → happening.loses field k (numbered g.messages k) g ≡ Happened (Refused (meant r)) g
  loses_missing (refusal.NoMessage n) (same, none) =
      ap (λ (o : Option (Sent M)). happening.loses field k o g) (none_sent none) ∙ ap (λ (n : ℕ). Happened (Refused (refusals.NoMessage n)) g) (sym same)
  loses_missing (refusal.Lost n) (same, some) =
      let (l, at, gone) = some_and (numbered w.post k) (λ l. is_lost l.fate ≡ true) some in
      let (s, is, letter) = found_sent l at in
      ap (λ (o : Option (Sent M)). happening.loses field k o g) is
      ∙ ap (λ (b : Bool). happening.refused_if field b (refusals.Lost k) g (λ g. Happened Passed (record g { lost = k ∷ g.lost; waiting = but k g.waiting }))) (sym (h.lost k) ∙ lost_is w.post k l true at gone)
      ∙ ap (λ (n : ℕ). Happened (Refused (refusals.Lost n)) g) (sym same)
  loses_missing (refusal.NotRunning r) missing = absurd missing
  loses_missing (refusal.AlreadyStarted r) missing = absurd missing
  loses_missing (refusal.NoSuchState n) missing = absurd missing
  loses_missing refusal.ClientBusy missing = absurd missing
  loses_missing (refusal.WrongSize part n) missing = absurd missing
  loses_missing (refusal.NumbersOut n) missing = absurd missing
  loses_missing refusal.NothingInFlight missing = absurd missing
  loses_missing (refusal.NoAnswer n) missing = absurd missing
  loses_missing (refusal.NotYours n) missing = absurd missing

  loses_there : IsThere w.post k → happening.loses field k (numbered g.messages k) g ≡ Happened Passed (record g { lost = k ∷ g.lost; waiting = but k g.waiting })
  loses_there there =
      let (l, at, kept) = some_and (numbered w.post k) (λ l. is_lost l.fate ≡ false) there in
      let (s, is, letter) = found_sent l at in
      ap (λ (o : Option (Sent M)). happening.loses field k o g) is
      ∙ ap (λ (b : Bool). happening.refused_if field b (refusals.Lost k) g (λ g. Happened Passed (record g { lost = k ∷ g.lost; waiting = but k g.waiting }))) (sym (h.lost k) ∙ there_kept w.post k there)

  module _ (l : Letter) (at : numbered w.post k ≡ Some l) (kept : is_lost l.fate ≡ false) where
    -- up to whether its addressee runs
    runs_is : (b : Bool) → is_in w.running.items l.to ≡ b
        → (s : Sent M) × (happening.delivers field k (numbered g.messages k) g ≡ happening.refused_if field (not b) (refusals.NotRunning l.to) g (happening.hands field k s)) × IsLetter says l s
    runs_is b running =
        let (s, is, letter) = found_sent l at in (
          s,
          ap (λ (o : Option (Sent M)). happening.delivers field k o g) is
              ∙ ap (λ (b : Bool). happening.refused_if field b (refusals.Lost k) g (λ g. happening.running field s.to g (happening.hands field k s))) (sym (h.lost k) ∙ lost_is w.post k l false at kept)
              ∙ (λ i. happening.refused_if field (not (is_in (sym h.running i) (sym letter.to i))) (refusals.NotRunning (sym letter.to i)) g (happening.hands field k s))
              ∙ ap (λ (b : Bool). happening.refused_if field (not b) (refusals.NotRunning l.to) g (happening.hands field k s)) running,
          letter,
        )

-- ---- the next message

addressed_same : {M : Type 0} (says : (from to : ℕ) → List ℕ → M → Type 0) (ids all : List ℕ) (o : Option Letter) (p : Option (Sent M)) → ids ≡ all → AtBoth says o p
    → unwrap_or (option_map (λ (l : Letter). is_in ids l.to) o) false ≡ unwrap_or (option_map (λ (s : Sent M). is_in all s.to) p) false
addressed_same says ids all None None same h = refl
addressed_same says ids all None (Some s) same h = absurd h
addressed_same says ids all (Some l) None same h = absurd h
addressed_same says ids all (Some l) (Some s) same h = ap₂ is_in same h.to

pub next_same : {M F : Type 0} (says : (from to : ℕ) → List ℕ → M → Type 0) (w : World) (g : Group M F) → IsWorld says w g → next_in w.running.items w.post ≡ next_message g
next_same says w g h =
    find_agree (is_for w.running.items w.post) (is_addressed g)
    (λ k. addressed_same says w.running.items g.running (numbered w.post k) (numbered g.messages k) h.running (both_numbered says w.post g.messages h.letters k)) (waiting_in w.post)
    ∙ ap (find (is_addressed g)) h.waiting

-- ---- what is handed over

module _ (w : World) (k : ℕ) where
  pub hands_missing : (r : GroupRefusal) → IsMissing w.post k r → Hands w k (Err r)
  hands_missing r missing = λ m g h. delivers_missing (model_of m) (SaysMessage m) w g k h r missing

  module _ (l : Letter) (at : numbered w.post k ≡ Some l) (kept : is_lost l.fate ≡ false) where
    pub hands_idle : is_in w.running.items l.to ≡ false → Hands w k (Err (refusal.NotRunning l.to))
    hands_idle idle = λ m g h. let (s, it, letter) = runs_is (model_of m) (SaysMessage m) w g k h l at kept false idle in it

    pub hands_on : (bytes : List ℕ) → is_in w.running.items l.to ≡ true → IsHanding bytes l.frame → Hands w k (Ok (l.to, bytes))
    hands_on bytes runs is = (
      runs,
      λ m g h.
          let (s, it, letter) = runs_is (model_of m) (SaysMessage m) w g k h l at kept true runs in (
            Peer l.from l.to s.message,
            says_peer m bytes l.frame l.from l.to s.message is (subst (λ (to : ℕ). SaysMessage m l.from to l.frame s.message) (sym letter.to) (subst (λ (from : ℕ). SaysMessage m from s.to l.frame s.message) (sym letter.from) letter.says_it)),
            it ∙ (λ i. happening.calls (model_of m) (sym letter.to i) (Peer (sym letter.from i) (sym letter.to i) s.message) (record g { waiting = but k g.waiting })),
          ),
    )

-- ---- what happens

pub deliver_refused : (w : World) (map : Option Map) (k : ℕ) (r : GroupRefusal) → Hands w k (Err r) → Does (Acts (event.Deliver k)) w w map map [] (Ok (came.Refused r))
deliver_refused w map k r hands = λ m later g x sees it named. (g, it ∙ hands m g sees.world, sees)

pub deliver_told : (w w' : World) (post : List Letter) (roster : IsRoster w.begun w.running.items w.started.items) (map map' : Option Map) (given : List Given) (k to : ℕ) (bytes : List ℕ) (result : Result code.Came Unplayed) → Hands w k (Ok (to, bytes)) → IsThere w.post k
    → post ≡ fated w.post (k - 1) Delivered → Does (Tells to bytes) (record w { post = post; roster = roster }) w' map map' given result → Does (Acts (event.Deliver k)) w w' map map' given result
deliver_told w w' post roster map map' given k to bytes result (runs, hands) there is h =
    does_from (Acts (event.Deliver k)) (Tells to bytes) w (record w { post = post; roster = roster }) w' map map' given result
    (λ m ds g x sees it.
    let (input, says, same) = hands m g sees.world in (
      record g { waiting = but k g.waiting },
      record { world = delivered_world (SaysMessage m) w g post k there roster sees.world is; field = sees.field },
      (
        input,
        says,
        it ∙ same
            ∙ ap (λ (b : Bool). happening.refused_if (model_of m) (not b) (refusals.NotRunning to) (record g { waiting = but k g.waiting }) (happening.calls (model_of m) to input))
            (sym (ap (λ (ids : List ℕ). is_in ids to) (sym sees.world.running) ∙ runs)),
      ),
    ))
    h

pub lose_refused : (w : World) (map : Option Map) (k : ℕ) (r : GroupRefusal) → IsMissing w.post k r → Does (Acts (event.Lose k)) w w map map [] (Ok (came.Refused r))
lose_refused w map k r missing = λ m later g x sees it named. (g, it ∙ loses_missing (model_of m) (SaysMessage m) w g k sees.world r missing, sees)

pub lose_passes : (w : World) (post : List Letter) (roster : IsRoster w.begun w.running.items w.started.items) (map : Option Map) (k : ℕ) → IsThere w.post k → post ≡ fated w.post (k - 1) Lost → Does (Acts (event.Lose k)) w (record w { post = post; roster = roster }) map map [] (Ok came.Passed)
lose_passes w post roster map k there is = λ m later g x sees it named. (
  record g { lost = k ∷ g.lost; waiting = but k g.waiting },
  it ∙ loses_there (model_of m) (SaysMessage m) w g k sees.world there,
  record { world = lost_world (SaysMessage m) w g post k there roster sees.world is; field = sees.field },
)
