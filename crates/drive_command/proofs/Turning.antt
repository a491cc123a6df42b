-- What the player looks up for a turn is what the driven schedule looks up.
use Rattle.std.proofs.Common.{refl, sym, ap, ◌∙◌, ◌≡◌, ℕ, Bool, true, false, is_some, is_none, not, if◌then◌else◌, [], Option, Some, None, option_map, length}
use Rattle.std.specs.Prelude.{option_and_then}
use Rattle.values.specs.declared.event.Event.TheVariants as event
use Rattle.values.specs.declared.ids.ClientId.{ClientId}
use Rattle.values.specs.declared.message.Answer.{Answer}
use Rattle.schedule_model.specs.Client.{Core, Flight}
use Rattle.schedule_model.specs.Written.{On}
use Rattle.group_model.specs.Group.{Answered, core_of}
use Rattle.trace_model.specs.Driven.{answer_in, flight_of, hears_answer, sees, drives_settled, seen_in, wakes_target}
use Rattle.trace_model.specs.Driver.{Report, Seen, Turn}
use Rattle.group_world.specs.Cores as cores
use Rattle.group_world.specs.Newest.{newest_after, without_giver}
use Rattle.drive_command.specs.Course.{Drives, field}
use Rattle.drive_command.specs.Standing.{Stands}
use Rattle.drive_command.specs.Turns.{hears_shown, newest_shown, sees_heard, shown}
use Rattle.group_world.proofs.ClosingLines.{as_many_answers}
use Rattle.drive_command.proofs.Tame.{IsTame, tame_driver}
use Rattle.drive_command.specs.declared.player.DrivePlayer.{DrivePlayer}

abbrev pub number_in : Option Flight → Option ℕ
number_in o = option_map (λ (f : Flight). f.number) o

in_core : (o : Option Core) → option_and_then (λ (core : Core). number_in core.flight) o ≡ number_in (option_and_then (λ (core : Core). core.flight) o)
in_core None = refl
in_core (Some core) = refl

-- the number in flight
pub flight_same : (p : DrivePlayer) (d : Drives) (c : ClientId) → Stands p d → cores.flight_of p.group.world.clients c ≡ number_in (flight_of d c)
flight_same p d c st =
    let sees = st.sees.0 in
    ap (λ (o : Option Core). option_and_then (λ (core : Core). number_in core.flight) o) (sees.world.cores c) ∙ in_core (core_of d.playing.group.cores c)

some_same : (o : Option Flight) → is_some (number_in o) ≡ is_some o
some_same None = refl
some_same (Some f) = refl

none_same : (o : Option Flight) → is_none (number_in o) ≡ is_none o
none_same None = refl
none_same (Some f) = refl

pub busy_same : (p : DrivePlayer) (d : Drives) (c : ClientId) (found : Option ℕ) → found ≡ cores.flight_of p.group.world.clients c → Stands p d → is_some found ≡ is_some (flight_of d c)
busy_same p d c found is st = ap is_some (is ∙ flight_same p d c st) ∙ some_same (flight_of d c)

pub idle_same : (p : DrivePlayer) (d : Drives) (c : ClientId) (found : Option ℕ) → found ≡ cores.flight_of p.group.world.clients c → Stands p d → is_none found ≡ is_none (flight_of d c)
idle_same p d c found is st = ap is_none (is ∙ flight_same p d c st) ∙ none_same (flight_of d c)

-- ---- the newest answer

abbrev pub shows : ℕ × Answer → ℕ × Seen
shows x = (x.0, seen_in x.1)

shown_told : (o : Option (ℕ × Answered)) → option_map shows (option_map without_giver o) ≡ option_map shown o
shown_told None = refl
shown_told (Some x) = refl

none_by : (d : Drives) (c : ClientId) (n : ℕ) (o : Option Flight) → None ≡ number_in o → None ≡ option_map shown (answer_in d c n o)
none_by d c n None is = refl
none_by d c n (Some f) is = absurd (cc is)

some_by : (d : Drives) (c : ClientId) (n number : ℕ) (o : Option Flight) (r : Option (ℕ × Answer)) → Some number ≡ number_in o → r ≡ newest_after c number n d.playing.group.answers → option_map shows r ≡ option_map shown (answer_in d c n o)
some_by d c n number None r is newest = absurd (cc is)
some_by d c n number (Some f) r is newest =
    let same : number ≡ f.number = cc in
    ap (option_map shows) (newest ∙ ap (λ (k : ℕ). newest_after c k n d.playing.group.answers) same) ∙ shown_told _

-- where nothing is in flight, and where something is
pub newest_none : (p : DrivePlayer) (d : Drives) (c : ClientId) (n : ℕ) → None ≡ cores.flight_of p.group.world.clients c → Stands p d → None ≡ newest_shown d c n
newest_none p d c n is st = none_by d c n (flight_of d c) (is ∙ flight_same p d c st)

pub newest_some : (p : DrivePlayer) (d : Drives) (c : ClientId) (n number : ℕ) (r : Option (ℕ × Answer)) → Some number ≡ cores.flight_of p.group.world.clients c → r ≡ newest_after c number n d.playing.group.answers → Stands p d
    → option_map shows r ≡ newest_shown d c n
newest_some p d c n number r is newest st = some_by d c n number (flight_of d c) r (is ∙ flight_same p d c st) newest

-- where the driver wakes the target
pub wakes_so : (t : Turn) → not t.wakes ≡ false → (d : Drives) → wakes_target field t d ≡ drives_settled field d (event.Tick t.target)
wakes_so t woken d = by t.wakes woken
  where
    by : (b : Bool) → not b ≡ false → elim b [ true ↦ drives_settled field d (event.Tick t.target) | false ↦ On [] d ] ≡ drives_settled field d (event.Tick t.target)
    by true is = refl
    by false is = absurd (cc is)

pub tame_shown : (c : ClientId) (what : Seen) → IsTame (sees_heard c what)
tame_shown c what = tame_driver (λ e. (sees (if is_none (flight_of e c) then Report else what) e).driver)

-- an answer is heard by what it shows
hears_by : (c : ClientId) (o : Option (ℕ × Answered)) (e : Drives) → hears_answer field c o e ≡ hears_shown c (option_map shown o) e
hears_by c None e = refl
hears_by c (Some (k, a)) e = refl

pub hears_same : (p : DrivePlayer) (d : Drives) (c : ClientId) (n : ℕ) → n ≡ length p.group.world.answers.items → Stands p d → (e : Drives) (o : Option (ℕ × Seen)) → o ≡ newest_shown e c n
    → hears_answer field c (answer_in e c (length d.playing.group.answers) (flight_of e c)) e ≡ hears_shown c o e
hears_same p d c n is st e o shows =
    let same : length d.playing.group.answers ≡ n = sym (is ∙ as_many_answers p.group.world.answers.items d.playing.group.answers st.sees.0.world.answers) in
    hears_by c (answer_in e c (length d.playing.group.answers) (flight_of e c)) e
    ∙ ap (λ (o : Option (ℕ × Seen)). hears_shown c o e) (ap (λ (k : ℕ). newest_shown e c k) same ∙ sym shows)
