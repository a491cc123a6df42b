-- What came of an event, and what the group has of it.
use Rattle.std.proofs.Common.{arith, refl, sym, ap, subst, ◌∙◌, ◌≡◌, ℕ, zero, suc, ◌+◌, cond, not, Bool, true, false, List, [], ◌∷◌, ◌++◌, map, length, Option, Some, None, Result, Ok, Err, append-nil}
use Rattle.std.specs.Prelude.{nat_le, unwrap_or, option_and_then, option_to_list, if◌then◌else◌, is_none, is_some, count_by}
use Rattle.std.proofs.lemmas.Bool.{cond_both}
use Rattle.std.proofs.lemmas.List.Sums.{sum_by-cons}
use Rattle.group_quorum.specs.Conf.{Conf}
use Rattle.group_quorum.specs.Voters.{conf_of, insert_rising, is_in}
use Rattle.group_quorum.specs.declared.ConfigFault.{ConfigFault}
use Rattle.values.specs.declared.batch.Batch.{Batch}
use Rattle.values.specs.declared.event.Event.{Event}
use Rattle.values.specs.declared.event.Event.TheVariants as event
use Rattle.values.specs.declared.ids.ClientId.{ClientId}
use Rattle.values.specs.declared.message.Answer.{Answer}
use Rattle.values.specs.declared.want.Report.{Report}
use Rattle.values.specs.declared.want.WantFault.{WantFault}
use Rattle.schedule_model.specs.Client.{Core, new_core, wanted, heard}
use Rattle.schedule_model.specs.Refusals.{GroupRefusal}
use Rattle.replica_model.specs.Keyed.{value_at}
use Rattle.replica_model.specs.Linked.{sha_link}
use Rattle.replica_model.specs.Message.{Message}
use Rattle.replica_model.specs.Call.{still}
use Rattle.group_model.specs.Enclave.{called as called_as}
use Rattle.group_model.specs.Enclave.{started, hello_id, Begin, Learn, Hello, HostInput, Tick, Peer, Client, Join, Admit, Remove, Save, Roll, Connect, Margin, Enclave}
use Rattle.group_model.specs.Field.{Field, Reply, Answers, Unreadable, Nothing}
use Rattle.group_model.specs.Group.{Answered, Group, Hearing, Sent, Setup, answered_by, but, core_of, is_client, keeps, numbered, put_core, saves_of}
use Rattle.group_model.specs.Happens as happening
use Rattle.group_model.specs.Happens.{Came, Refused, Replied, Reported, Passed, Happening, Happened, Broken, Unanswered, happens}
use Rattle.group_model.specs.Run.{Recorded, Enclaves, call_enclave, enclaves}
use Rattle.group_world.specs.declared.happened.Happened.{Happened as Telling}
use Rattle.group_world.specs.Happened.{answers_in, has_halted, report_in, HaltsMore, TellsCame, TellsEvent}
use Rattle.group_world.specs.Meanings.{Meaning, OfEnclaves, OfContents, Until, MessageOf, StateOf, model_of}

-- what an answered call says of the field before it and after it
abbrev AnswersBy : {M F : Type 0} → (Batch → F → Type 0) → Reply M F → Type 0
AnswersBy P (Answers batch sent g) = P batch g
AnswersBy P (Unreadable at g) = Unit {0}
AnswersBy P Nothing = Unit {0}

-- how a field goes on in a call that ended with a halt, or in one that did not
pub record HaltsBy {M F : Type 0} (field : Field M F) (R : Bool → F → F → Type 0) : Type 0 where
  pub none : (f : F) → R false f f
  pub onward : (f g h : F) → R false f g → R false g h → R false f h
  pub start : (f : F) (hello : Hello) → R false f (field.start f hello)
  pub stop : (f : F) (r : ℕ) → R false f (field.stop f r)
  pub call : (f : F) (r : ℕ) (input : HostInput M) → AnswersBy (λ batch g. R (is_some batch.halt) f g) (field.call f r input)
  pub link : (f : F) (r x : ℕ) → AnswersBy (λ batch g. R false f g) (field.call f r (Connect x))

module _ {M F : Type 0} (field : Field M F) (R : Bool → F → F → Type 0) (by : HaltsBy field R) where
  -- what came of an event stands in the group after it
  pub record Leaves (g : Group M F) (came : Came) (h : Group M F) : Type 0 where
    pub past : h.past ≡ g.past
    pub replica : ℕ
    pub answers : h.answers ≡ g.answers ++ map (answered_by replica) (answers_in came)
    pub heard : Option Hearing
    pub hearings : h.hearings ≡ option_to_list heard ++ g.hearings
    pub reports : report_in came ≡ option_and_then (λ (x : Hearing). x.report) heard
    pub halts : R (has_halted came) g.field h.field

  abbrev pub LeavesIn : Group M F → Happening M F → Type 0
  LeavesIn g (Happened came h) = Leaves g came h
  LeavesIn g (Broken at f) = Unit {0}
  LeavesIn g Unanswered = Unit {0}

  module _ (g : Group M F) where
    -- nothing was answered and nothing heard
    silent : (came : Came) (h : Group M F) → answers_in came ≡ [] → report_in came ≡ None → has_halted came ≡ false → h.past ≡ g.past → h.answers ≡ g.answers → h.hearings ≡ g.hearings → R false g.field h.field → Leaves g came h
    silent came h none unsaid calm past answers hearings halts = record {
      past = past;
      replica = 0;
      answers = answers ∙ (sym (append-nil g.answers) ∙ ap (λ (xs : List (ClientId × ℕ × Answer)). g.answers ++ map (answered_by 0) xs) (sym none));
      heard = None;
      hearings = hearings;
      reports = unsaid;
      halts = subst (λ (b : Bool). R b g.field h.field) (sym calm) halts;
    }

    refuses : (refusal : GroupRefusal) → LeavesIn g (happening.refused field refusal g)
    refuses refusal = silent (Refused refusal) g refl refl refl refl refl refl (by.none g.field)

    passes : LeavesIn g (Happened Passed g)
    passes = silent Passed g refl refl refl refl refl refl (by.none g.field)

    refused_if_leaves : (b : Bool) (refusal : GroupRefusal) (next : Group M F → Happening M F) → LeavesIn g (next g) → LeavesIn g (happening.refused_if field b refusal g next)
    refused_if_leaves true refusal next x = refuses refusal
    refused_if_leaves false refusal next x = x

    abbrev Called : Reply M F → Type 0
    Called o = AnswersBy (λ batch f. R (is_some batch.halt) g.field f) o

    replied_leaves : (r : ℕ) (o : Reply M F) → Called o → LeavesIn g (happening.replied field r g o)
    replied_leaves r (Answers batch sent f) x = record { past = refl; replica = r; answers = refl; heard = None; hearings = refl; reports = refl; halts = x }
    replied_leaves r (Unreadable at f) x = tt
    replied_leaves r Nothing x = tt

    calls_leaves : (r : ℕ) (input : HostInput M) → LeavesIn g (happening.calls field r input g)
    calls_leaves r input = replied_leaves r (field.call g.field r input) (by.call g.field r input)

    tells_leaves : (r : ℕ) (input : HostInput M) → LeavesIn g (happening.tells field r input g)
    tells_leaves r input = refused_if_leaves (not (is_in g.running r)) _ (happening.calls field r input) (calls_leaves r input)

    rolled_leaves : (r : ℕ) (o : Reply M F) → Called o → LeavesIn g (happening.rolled field r g o)
    rolled_leaves r (Answers batch sent f) x =
        let after : Group M F = keeps g r batch sent f in
        cond_both (is_none batch.refused) (record after { rolled = r ∷ after.rolled }) after (λ h. Leaves g (Replied r batch) h)
        (λ b. record { past = refl; replica = r; answers = refl; heard = None; hearings = refl; reports = refl; halts = x })
        (λ b. record { past = refl; replica = r; answers = refl; heard = None; hearings = refl; reports = refl; halts = x })
    rolled_leaves r (Unreadable at f) x = tt
    rolled_leaves r Nothing x = tt

    rolls_leaves : (r k : ℕ) → LeavesIn g (happening.rolls field r k g)
    rolls_leaves r k = refused_if_leaves (not (nat_le k (saves_of g.saves r))) _ (λ g. happening.rolled field r g (field.call g.field r (Roll k))) (rolled_leaves r (field.call g.field r (Roll k)) (by.call g.field r (Roll k)))

    -- links are made, one after another
    linked_next : (x r : ℕ) (rs : List ℕ) (f : F) (next : F → Happening M F) → R false g.field f → ((h : F) → R false g.field h → LeavesIn g (happening.connected field x rs h next)) → (o : Reply M F) → AnswersBy (λ batch h. R false f h) o
        → LeavesIn g (elim o [ Answers batch sent h ↦ happening.connected field x rs h next | Unreadable at h ↦ Broken at h | Nothing ↦ Unanswered ])
    linked_next x r rs f next before rest (Answers batch sent h) on = rest h (by.onward g.field f h before on)
    linked_next x r rs f next before rest (Unreadable at h) on = tt
    linked_next x r rs f next before rest Nothing on = tt

    connected_leaves : (x : ℕ) (rs : List ℕ) (f : F) (next : F → Happening M F) → R false g.field f → ((h : F) → R false g.field h → LeavesIn g (next h)) → LeavesIn g (happening.connected field x rs f next)
    connected_leaves x [] f next before ends = ends f before
    connected_leaves x (r ∷ rs) f next before ends = linked_next x r rs f next before (λ h on. connected_leaves x rs h next on ends) (field.call f r (Connect x)) (by.link f r x)

    starts_leaves : (x : ℕ) → LeavesIn g (happening.starts field x g)
    starts_leaves x = connected_leaves x g.running (field.start g.field (Learn x g.running)) _ (by.start g.field (Learn x g.running))
        (λ f on. silent Passed (record g { running = insert_rising x g.running; started = x ∷ g.started; field = f }) refl refl refl refl refl refl on)

    loses_leaves : (k : ℕ) (o : Option (Sent M)) → LeavesIn g (happening.loses field k o g)
    loses_leaves k None = refuses _
    loses_leaves k (Some m) = refused_if_leaves (is_in g.lost k) _ (λ g. Happened Passed (record g { lost = k ∷ g.lost; waiting = but k g.waiting })) (silent Passed (record g { lost = k ∷ g.lost; waiting = but k g.waiting }) refl refl refl refl refl refl (by.none g.field))

    crashes_leaves : (r : ℕ) → LeavesIn g (happening.crashes field r g)
    crashes_leaves r = silent Passed (record g { running = but r g.running; field = field.stop g.field r }) refl refl refl refl refl refl (by.stop g.field r)

    wants_leaves : (c : ClientId) (o : Result Core WantFault) → LeavesIn g (happening.wants field c o g)
    wants_leaves c (Err fault) = refuses _
    wants_leaves c (Ok core) = silent Passed (record g { cores = put_core g.cores c core }) refl refl refl refl refl refl (by.none g.field)

    says_leaves : (c : ClientId) (r : ℕ) (o : Option (ℕ × List ℕ)) → LeavesIn g (happening.says field c r o g)
    says_leaves c r None = refuses _
    says_leaves c r (Some (number, request)) = tells_leaves r (Client c number request)

    came_says : (c : ClientId) (o : Option Report) → report_in (happening.came_of field c o) ≡ o
    came_says c None = refl
    came_says c (Some report) = refl

    came_unanswered : (c : ClientId) (o : Option Report) → answers_in (happening.came_of field c o) ≡ []
    came_unanswered c None = refl
    came_unanswered c (Some report) = refl

    came_calm : (c : ClientId) (o : Option Report) → has_halted (happening.came_of field c o) ≡ false
    came_calm c None = refl
    came_calm c (Some report) = refl

    told_leaves : (c : ClientId) (core : Core) (a : Answered) (after : Core) (o : Option Report) → LeavesIn g (happening.hears_report field c core a (after, o) g)
    told_leaves c core a after o = record {
      past = refl;
      replica = 0;
      answers = sym (append-nil g.answers) ∙ ap (λ (xs : List (ClientId × ℕ × Answer)). g.answers ++ map (answered_by 0) xs) (sym (came_unanswered c o));
      heard = Some (happening.hearing field c core a o);
      hearings = refl;
      reports = came_says c o;
      halts = subst (λ (b : Bool). R b g.field g.field) (sym (came_calm c o)) (by.none g.field);
    }

    hears_with_leaves : (c : ClientId) (a : Answered) (o : Option Core) → LeavesIn g (happening.hears_with field c a o g)
    hears_with_leaves c a None = passes
    hears_with_leaves c a (Some core) = told_leaves c core a (heard core a.number a.answer).0 (heard core a.number a.answer).1

    hears_leaves : (c : ClientId) (k : ℕ) (o : Option Answered) → LeavesIn g (happening.hears field c k o g)
    hears_leaves c k None = refuses _
    hears_leaves c k (Some a) = refused_if_leaves (not (is_client a.client c)) _ (happening.hears_with field c a (core_of g.cores c)) (hears_with_leaves c a (core_of g.cores c))

    starts_all_goes : (c : Conf) (limit : ℕ) (vs : List ℕ) (f : F) → R false g.field f → R false g.field (happening.starts_all field f c limit vs)
    starts_all_goes c limit [] f on = on
    starts_all_goes c limit (v ∷ vs) f on = starts_all_goes c limit vs (field.start f (Begin v c.margin limit c.voters)) (by.onward g.field f _ on (by.start f (Begin v c.margin limit c.voters)))

    begins_leaves : (limit : ℕ) (o : Result Conf ConfigFault) → LeavesIn g (happening.begins field limit o g)
    begins_leaves limit (Err fault) = passes
    begins_leaves limit (Ok c) = silent Passed _ refl refl refl refl refl refl (starts_all_goes c limit c.voters g.field (by.none g.field))

  delivers_leaves : (g : Group M F) (k : ℕ) (o : Option (Sent M)) → LeavesIn g (happening.delivers field k o g)
  delivers_leaves g k None = refuses g _
  delivers_leaves g k (Some m) = refused_if_leaves g (is_in g.lost k) _ (λ g. happening.running field m.to g (happening.hands field k m))
      (refused_if_leaves g (not (is_in g.running m.to)) _ (happening.hands field k m) (handed (happening.calls field m.to (Peer m.from m.to m.message) h) (calls_leaves h m.to (Peer m.from m.to m.message))))
    where
      h : Group M F
      h = record g { waiting = but k g.waiting }

      handed : (x : Happening M F) → LeavesIn (record g { waiting = but k g.waiting }) x → LeavesIn g x
      handed (Happened came after) l = record { past = l.past; replica = l.replica; answers = l.answers; heard = l.heard; hearings = l.hearings; reports = l.reports; halts = l.halts }
      handed (Broken at f) l = tt
      handed Unanswered l = tt

  acts_leaves : (g : Group M F) (e : Event) → LeavesIn g (happening.acts field e g)
  acts_leaves g (event.Begin margin limit voters) = passes g
  acts_leaves g (event.Start zero) = passes g
  acts_leaves g (event.Start (suc x)) = refused_if_leaves g (is_in g.started (suc x)) _ (happening.starts field (suc x)) (starts_leaves g (suc x))
  acts_leaves g (event.Tick r) = tells_leaves g r Tick
  acts_leaves g (event.Deliver k) = delivers_leaves g k (numbered g.messages k)
  acts_leaves g (event.Lose k) = loses_leaves g k (numbered g.messages k)
  acts_leaves g (event.Settle n) = passes g
  acts_leaves g (event.Crash r) = refused_if_leaves g (not (is_in g.running r)) _ (happening.crashes field r) (crashes_leaves g r)
  acts_leaves g (event.Save r) = tells_leaves g r Save
  acts_leaves g (event.Roll r k) = refused_if_leaves g (not (is_in g.running r)) _ (happening.rolls field r k) (rolls_leaves g r k)
  acts_leaves g (event.Join r x) = tells_leaves g r (Join x)
  acts_leaves g (event.Admit r x) = tells_leaves g r (Admit x)
  acts_leaves g (event.Remove r x) = tells_leaves g r (Remove x)
  acts_leaves g (event.Ask r c n request) = tells_leaves g r (Client c n request)
  acts_leaves g (event.Want c want) = wants_leaves g c (wanted (unwrap_or (core_of g.cores c) new_core) want)
  acts_leaves g (event.Say c r) = says_leaves g c r (happening.said_if_any field (core_of g.cores c))
  acts_leaves g (event.Hear c k) = hears_leaves g c k (numbered g.answers k)
  acts_leaves g (event.Margin r n) = tells_leaves g r (Margin n)
  acts_leaves g (event.Again c) = passes g

  first_leaves : (g : Group M F) (e : Event) → LeavesIn g (happening.acts_first field e g)
  first_leaves g (event.Begin margin limit voters) = begins_leaves g limit (conf_of margin voters)
  first_leaves g e = passes g

  acts_in_leaves : (g : Group M F) (o : Option Setup) (e : Event) → LeavesIn g (happening.acts_in field o e g)
  acts_in_leaves g None e = first_leaves g e
  acts_in_leaves g (Some setup) e = acts_leaves g e

  -- an event, counted
  pub happens_leaves : (g : Group M F) (e : Event) → LeavesIn (record g { past = e ∷ g.past }) (happens field e g)
  happens_leaves g e = acts_in_leaves (record g { past = e ∷ g.past }) g.setup e

-- ---- the field of the model's enclaves

nothing_said : {M F : Type 0} (P : Batch → F → Type 0) → ((b : Batch) (g : F) → P b g) → (o : Reply M F) → AnswersBy P o
nothing_said P all (Answers batch sent g) = all batch g
nothing_said P all (Unreadable at g) = tt
nothing_said P all Nothing = tt

-- one call more is counted
one_more : (r : Recorded) (rs : List Recorded) → count_by (λ (r : Recorded). is_some r.call.batch.halt) (r ∷ rs) ≡ count_by (λ (r : Recorded). is_some r.call.batch.halt) rs + (if is_some r.call.batch.halt then 1 else 0)
one_more r rs = let sum = sum_by-cons (λ (r : Recorded). cond (is_some r.call.batch.halt) 1 0) r rs in omega (arith, sum)

abbrev HaltsIn : Bool → Enclaves → Enclaves → Type 0
HaltsIn halted f g = HaltsMore OfEnclaves halted f g

enclaves_halt : HaltsBy (enclaves sha_link) HaltsIn
enclaves_halt = record {
  none = λ f. omega arith;
  onward = λ f g h a b. omega (arith, a, b);
  start = λ f hello. started_calm f hello;
  stop = λ f r. omega arith;
  call = λ f r input. called f r input (value_at f.running r);
  link = λ f r x. linked f r x (value_at f.running r);
}
  where
    started_calm : (f : Enclaves) (hello : Hello) → HaltsIn false f ((enclaves sha_link).start f hello)
    started_calm f hello = one_more (record { replica = hello_id hello; before = (started hello).replica; input = None; call = still (started hello).replica }) f.history

    called : (f : Enclaves) (r : ℕ) (input : HostInput Message) (o : Option Enclave) → AnswersBy (λ batch g. HaltsIn (is_some batch.halt) f g) (call_enclave sha_link f r input o)
    called f r input None = tt
    called f r input (Some e) = one_more (record { replica = r; before = e.replica; input = Some input; call = (called_as sha_link e input).call }) f.history

    linked : (f : Enclaves) (r x : ℕ) (o : Option Enclave) → AnswersBy (λ batch g. HaltsIn false f g) (call_enclave sha_link f r (Connect x) o)
    linked f r x None = tt
    linked f r x (Some e) = one_more (record { replica = r; before = e.replica; input = Some (Connect x); call = still e.replica }) f.history

-- on every understanding
halts_more : (m : Meaning) → HaltsBy (model_of m) (HaltsMore m)
unfolding model_of
halts_more OfEnclaves = enclaves_halt
halts_more OfContents = record { none = λ f. tt; onward = λ f g h a b. tt; start = λ f hello. tt; stop = λ f r. tt; call = λ f r input. nothing_said (λ b g. Unit {0}) (λ b g. tt) ((model_of OfContents).call f r input); link = λ f r x. nothing_said (λ b g. Unit {0}) (λ b g. tt) ((model_of OfContents).call f r (Connect x)) }
halts_more (Until m) = record { none = λ f. tt; onward = λ f g h a b. tt; start = λ f hello. tt; stop = λ f r. tt; call = λ f r input. nothing_said (λ b g. Unit {0}) (λ b g. tt) ((model_of (Until m)).call f r input); link = λ f r x. nothing_said (λ b g. Unit {0}) (λ b g. tt) ((model_of (Until m)).call f r (Connect x)) }

-- so what is told of what came is told of the event
pub tells_event : (m : Meaning) (e : Event) (h : Telling) (g g' : Group (MessageOf m) (StateOf m)) (came : Came) → happens (model_of m) e g ≡ Happened came g' → TellsCame came (length g.answers + 1) h → TellsEvent m e h g g'
tells_event m e h g g' came is told =
    let left : Leaves (model_of m) (HaltsMore m) (halts_more m) (record g { past = e ∷ g.past }) came g' = subst (LeavesIn (model_of m) (HaltsMore m) (halts_more m) (record g { past = e ∷ g.past })) is (happens_leaves (model_of m) (HaltsMore m) (halts_more m) g e) in
    record {
      came = came;
      happens_so = is;
      told = told;
      past = left.past;
      replica = left.replica;
      answers = left.answers ∙ ap (λ (xs : List (ClientId × ℕ × Answer)). g.answers ++ map (answered_by left.replica) xs) (sym told.answers);
      heard = left.heard;
      hearings = left.hearings;
      reports = told.report ∙ left.reports;
      halts_more = subst (λ (b : Bool). HaltsMore m b g.field g'.field) (sym told.halted) left.halts;
    }
