-- A round of one entry among five replicas, by what each of them has come to.
use Rattle.std.proofs.Common.{◌≡◌, ℕ, zero, suc, ◌+◌, ◌&&◌, ◌||◌, not, Bool, true, false, List, [], ◌∷◌, ◌++◌, refl}
use Rattle.std.specs.Prelude.{nat_lt, cond}
use Rattle.drill_laws.proofs.Setting.{Each, all, Who, Two, Three, Four, Five, of, set}
use Rattle.drill_laws.proofs.Leads.{Led, led_all, taken, rises, rose}

-- whether a follower has the entry, has promised it, and has committed it
pub record Has : Type 0 where
  pub entry : Bool
  pub promised : Bool
  pub committed : Bool

-- a message of the round: the entry, how far all is promised and committed, and that the entry was taken
pub data Note : Type 0 where
  Entry : (to : Who) → Note
  Raised : (to : Who) (promise commit : Bool) → Note
  Taken : (from : Who) (promised : Bool) → Note

pub record Course : Type 0 where
  pub leader : Led
  pub followers : Each Has
  -- the messages that wait
  pub queue : List Note
  -- how many were delivered and sent since the round began
  pub steps : ℕ
  pub sent : ℕ

abbrev pub raised_to_all : Bool → Bool → List Note
raised_to_all x y = Raised Two x y ∷ Raised Three x y ∷ Raised Four x y ∷ Raised Five x y ∷ []

-- a follower after a message
abbrev pub follows_on : Course → Who → List Note → Has → Course
follows_on c v rest h =
    record c {
      followers = set v h c.followers;
      queue = rest ++ Taken v h.promised ∷ [];
      steps = c.steps + 1;
      sent = c.sent + 1;
    }

abbrev pub raised_has : Has → Bool → Bool → Has
raised_has h x y = record { entry = true; promised = h.promised || x; committed = h.committed || (y && x) }

-- the leader after a message, by which it knows this much
abbrev pub leads_on : Course → List Note → Led → Course
leads_on c rest led =
    record {
      leader = rises led;
      followers = c.followers;
      queue = rest ++ cond (rose led) (raised_to_all (rises led).promised (rises led).committed) [];
      steps = c.steps + 1;
      sent = c.sent + cond (rose led) 4 0;
    }

-- the course after its first message is delivered
abbrev pub goes_by : Course → List Note → Course
goes_by c [] = c
goes_by c (Entry v ∷ rest) = follows_on c v rest (record { entry = true; promised = false; committed = false })
goes_by c (Raised v x y ∷ rest) = follows_on c v rest (raised_has (of v c.followers) x y)
goes_by c (Taken v x ∷ rest) = leads_on c rest (taken v x c.leader)

abbrev pub goes : Course → Course
goes c = goes_by c c.queue

-- the message fits where it goes
abbrev pub fits : Course → List Note → Bool
fits c [] = false
fits c (Entry v ∷ rest) = let h : Has = of v c.followers in not (h.entry || (h.promised || h.committed))
fits c (Raised v x y ∷ rest) = (of v c.followers).entry
fits c (Taken v x ∷ rest) = true

-- so many messages fit, one after another
abbrev pub all_fit : ℕ → Course → Bool
all_fit zero c = true
all_fit (suc n) c = (fits c c.queue && (nat_lt c.steps 32 && nat_lt c.sent 40)) && all_fit n (goes c)

abbrev pub after_steps : ℕ → Course → Course
after_steps zero c = c
after_steps (suc n) c = after_steps n (goes c)

-- the round of an entry when it is sent, and that of a tick
abbrev pub begins : Course
begins =
    record {
      leader = led_all false;
      followers = all (record { entry = false; promised = false; committed = false });
      queue = Entry Two ∷ Entry Three ∷ Entry Four ∷ Entry Five ∷ [];
      steps = 0;
      sent = 0;
    }

abbrev pub settles : ℕ → ℕ → Course
settles steps sent =
    record {
      leader = led_all true;
      followers = all (record { entry = true; promised = true; committed = true });
      queue = [];
      steps = steps;
      sent = sent;
    }

abbrev pub ticked : Course
ticked = record (settles 0 0) { queue = raised_to_all true true }

pub entry_fits : all_fit 24 begins ≡ true
entry_fits = refl

pub entry_ends : after_steps 24 begins ≡ settles 24 20
entry_ends = refl

pub tick_fits : all_fit 8 ticked ≡ true
tick_fits = refl

pub tick_ends : after_steps 8 ticked ≡ settles 8 4
tick_ends = refl
