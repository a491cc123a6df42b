-- The laws on guesses and on data.
use Rattle.std.proofs.Common.{◌≡◌, ℕ, zero, suc, ◌<◌, ◌≤◌, Bool, true, false, cond, List, [], ◌∷◌, take, refl, sym, ap, subst, ◌∙◌, arith}
use Rattle.std.specs.Prelude.{Option, Some, None, IsSome, IsSomeAnd, IfSome, unwrap_or, option_map, nat_lt, bytes_eq, is_some}
use Rattle.std.proofs.lemmas.Slice.Eq.{bytes_eq-Decides}
use Rattle.std.proofs.lemmas.Bool.{ltb-true, ltb-false}
use Rattle.values.specs.declared.entry.Hash.{Hash}
use Rattle.values.specs.declared.ids.ClientId.{ClientId}
use Rattle.values.specs.declared.row.Row.{Row}
use Rattle.values.specs.declared.row.Kept.{Kept}
use Rattle.values.specs.declared.message.Request.{Request}
use Rattle.values.specs.declared.message.Request.TheVariants.{Backup, Restore, Delete, Expose}
use Rattle.values.specs.declared.message.Response.{Response}
use Rattle.values.specs.declared.message.Response.TheVariants.{Restore as Restored, Expose as Exposed}
use Rattle.values.specs.declared.message.Reply.{Reply}
use Rattle.values.specs.declared.message.Reply.TheVariants.{Applied, Stale, TableFull}
use Rattle.record_rules.specs.declared.status.TheConstants.{OK, MISSING, ERROR}
use Rattle.record_rules.specs.Rules.{act, after_guess, after_wrong_guess}
use Rattle.values.specs.Sizes.{IsValid}
use Rattle.record_rules.specs.Places.{ClientAsk, Places, fold_places, ask_at, reply_at, is_ask_of, is_mismatch, IsApplied, ActsAs, wrong_guesses}
use Rattle.record_rules.specs.Laws.{AreValid, NoBackup, NoDelete, Earned, GuessesEnd, DataIsEarned, record_of, row_after}
use Rattle.record_rules.proofs.Clients.{client_eq-self}
use Rattle.record_rules.specs.Table.{kept_in}
use Rattle.record_rules.proofs.Turns.{Turn, others, refused, unknown, acts, turn_at}
use Rattle.record_rules.proofs.Guesses.{Stands, Standing}
use Rattle.record_rules.proofs.Backups.{ShownBy, stands, none_wrong, request_in, one_more, none_more, missed, missed-quiet, not_own}

later_valid : (place : Option ClientAsk) (places : Places) → AreValid (place ∷ places) → AreValid places
later_valid place places valid k d h = valid (suc k) d (omega arith)

-- each ask of a valid list is valid
valid_at : (places : Places) (k : ℕ) (ask : ClientAsk) → AreValid places → ask_at places (suc k) ≡ Some ask → IsValid ask.request
valid_at [] k ask valid e = cc
valid_at (place ∷ places) zero ask valid e =
    subst (λ p. IfSome p (λ a. IsValid a.request)) e (valid 0 None (omega arith))
valid_at (place ∷ places) (suc k) ask valid e = valid_at places k ask (later_valid place places valid) e

-- a backup of a valid list is of some tries
some_tries : (limit : ℕ) (places : Places) (client : ClientId) (b : ℕ) (secret : List ℕ) (pin : Hash) (tries : ℕ)
    → AreValid places → ActsAs limit places b client (Backup secret pin tries) → 1 ≤ tries
some_tries limit places client zero secret pin tries valid acted = absurd acted.0
some_tries limit places client (suc b) secret pin tries valid acted =
    (valid_at places b (record { client = client; number = acted.1.0; request = Backup secret pin tries }) valid acted.1.1).1.0

within : (secret : List ℕ) (pin : Hash) (tries wrong : ℕ) (Shown Undeleted : Type 0) (kept : Option Kept) → Standing secret pin tries wrong Shown Undeleted kept
    → (wrong ≤ tries) × (wrong ≡ tries → kept ≡ None)
within secret pin tries wrong Shown Undeleted None stood = (stood, λ e. refl)
within secret pin tries wrong Shown Undeleted (Some kept) stood =
    let c = stood.counted in let p = stood.positive in (omega arith, λ e. absurd (omega arith))

pub guesses_end : (limit : ℕ) (places : Places) → AreValid places → GuessesEnd limit places
guesses_end limit places valid client b k secret pin tries acted none =
    by_order (nat_lt k b) refl
  where
    by_order : (t : Bool) → nat_lt k b ≡ t
        → (wrong_guesses limit places client b k ≤ tries) × (wrong_guesses limit places client b k ≡ tries → record_of (fold_places limit (take k places)) client ≡ None)
    by_order true e =
        let early : k < b = ltb-true k b e in
        let zero_wrong = none_wrong limit places client b k (omega arith) in
        let some = some_tries limit places client b secret pin tries valid acted in
        (omega arith, λ all. absurd (omega arith))
    by_order false e =
        within secret pin tries (wrong_guesses limit places client b k) _ _ (kept_in (row_after limit places client k))
        (stands limit places client secret pin tries b k (ltb-false k b e) acted (some_tries limit places client b secret pin tries valid acted) none)

-- the client's last backup that acted up to place k
record Latest (limit : ℕ) (places : Places) (client : ClientId) (k : ℕ) : Type 0 where
  place : ℕ
  secret : List ℕ
  pin : Hash
  tries : ℕ
  within : place ≤ k
  acted : ActsAs limit places place client (Backup secret pin tries)
  newest : NoBackup limit places client place k

module _ (limit : ℕ) (places : Places) (client : ClientId) (k : ℕ) where
  longer : ((s : List ℕ) (p : Hash) (n : ℕ) → ¬ (ActsAs limit places (suc k) client (Backup s p n)))
      → Latest limit places client k → Latest limit places client (suc k)
  longer new b = record {
    place = b.place;
    secret = b.secret;
    pin = b.pin;
    tries = b.tries;
    within = let w = b.within in omega arith;
    acted = b.acted;
    newest = λ j s p n. none_more limit places client b.place k (Backup s p n) (new s p n) (λ i low high. b.newest i s p n low high) j;
  }

  -- where a record stands after a request that acts, the request was a backup or a record stood
  from_act : (request : Request) (kept : Option Kept) → ActsAs limit places (suc k) client request → IsSome (act request kept).0
      → (IsSome kept → Latest limit places client k) → ((wanted : Request) → ActsAs limit places (suc k) client wanted → request ≡ wanted)
      → Latest limit places client (suc k)
  from_act (Backup s p n) kept acted some before only = record {
    place = suc k;
    secret = s;
    pin = p;
    tries = n;
    within = omega arith;
    acted = acted;
    newest = λ j s' p' n' low high. absurd (omega arith);
  }
  from_act (Restore p) None acted some before only = absurd (cc)
  from_act (Restore p) (Some kept) acted some before only = longer (λ s p' n h. let e = only (Backup s p' n) h in cc) (before refl)
  from_act Delete kept acted some before only = absurd (cc)
  from_act (Expose s) None acted some before only = absurd (cc)
  from_act (Expose s) (Some kept) acted some before only = longer (λ s' p n h. let e = only (Backup s' p n) h in cc) (before refl)

  from_turn : (before after : Option Row) → Turn client before after (ask_at places (suc k)) (reply_at limit places (suc k))
      → (IsSome (kept_in before) → Latest limit places client k) → IsSome (kept_in after) → Latest limit places client (suc k)
  from_turn before after (others e same) earlier some =
      longer (λ s p n. not_own client (ask_at places (suc k)) (reply_at limit places (suc k)) (Backup s p n) e) (earlier (subst (λ r. IsSome (kept_in r)) same some))
  from_turn before after (refused same e) earlier some = longer (λ s p n h. e h.0) (earlier (subst (λ r. IsSome (kept_in r)) same some))
  from_turn before after (unknown number request is only none e done) earlier some = absurd (let t = subst (λ r. IsSome (kept_in r)) e some in cc)
  from_turn before after (acts number request is puts above e done) earlier some =
      from_act request (kept_in before)
      (subst (λ r. IsSomeAnd r IsApplied) (sym done) tt, (number, is))
      (subst (λ r. IsSome (kept_in r)) e some) earlier (λ wanted h. ap request_in (sym is ∙ h.1.1))

latest : (limit : ℕ) (places : Places) (client : ClientId) (k : ℕ) → IsSome (kept_in (row_after limit places client k)) → Latest limit places client k
latest limit places client zero some = absurd (cc)
latest limit places client (suc k) some =
    from_turn limit places client k (row_after limit places client k) (row_after limit places client (suc k)) (turn_at limit places client k)
    (latest limit places client k) some

-- what a record was that gave its secret
record Gave (kept : Option Kept) (request : Request) (secret : List ℕ) (left : ℕ) : Type 0 where
  pin : Hash
  record_was : Kept
  asked : request ≡ Restore pin
  stood : kept ≡ Some record_was
  exposed : record_was.exposed ≡ true
  right : record_was.pin ≡ pin
  secret_was : record_was.secret ≡ secret
  left_was : record_was.left ≡ left

module _ (pin : Hash) (kept : Kept) (secret : List ℕ) (left : ℕ) where
  by_pin : (b : Bool) → bytes_eq kept.pin.0 pin.0 ≡ b → kept.exposed ≡ true
      → (cond {A = Option Kept × Response} b (Some kept, Restored OK kept.secret kept.left) (after_wrong_guess kept)).1 ≡ Restored OK secret left
      → Gave (Some kept) (Restore pin) secret left
  by_pin true test shown e = record {
    pin = pin;
    record_was = kept;
    asked = refl;
    stood = refl;
    exposed = shown;
    right = λ i. record { 0 = (bytes_eq-Decides kept.pin.0 pin.0).0 test i };
    secret_was = cc;
    left_was = cc;
  }
  by_pin false test shown e = cc

  by_exposed : (b : Bool) → kept.exposed ≡ b
      → (cond {A = Option Kept × Response} b (after_guess pin kept) (Some kept, Restored MISSING [] 0)).1 ≡ Restored OK secret left
      → Gave (Some kept) (Restore pin) secret left
  by_exposed true shown e = by_pin (bytes_eq kept.pin.0 pin.0) refl shown e
  by_exposed false shown e = cc

expose_gives_none : (secret : List ℕ) (left : ℕ) (kept : Kept) (s : List ℕ) (b : Bool)
    → ¬ ((cond {A = Option Kept × Response} b (Some (record kept { exposed = true }), Exposed OK) (Some kept, Exposed ERROR)).1 ≡ Restored OK secret left)
expose_gives_none secret left kept s true e = cc
expose_gives_none secret left kept s false e = cc

gave : (request : Request) (kept : Option Kept) (secret : List ℕ) (left : ℕ) → (act request kept).1 ≡ Restored OK secret left → Gave kept request secret left
gave (Backup s p n) kept secret left e = cc
gave (Restore p) None secret left e = cc
gave (Restore p) (Some kept) secret left e = by_exposed p kept secret left kept.exposed refl e
gave Delete kept secret left e = cc
gave (Expose s) None secret left e = cc
gave (Expose s) (Some kept) secret left e = absurd (expose_gives_none secret left kept s (bytes_eq kept.secret s) e)

-- the turn at which a secret was given
record Giving (client : ClientId) (before : Option Row) (place : Option ClientAsk) (secret : List ℕ) (left : ℕ) : Type 0 where
  number : ℕ
  request : Request
  place_is : place ≡ Some (record { client = client; number = number; request = request })
  gave_by : Gave (kept_in before) request secret left

abbrev reply_in : Option Reply → Response
reply_in (Some (Applied response)) = response
reply_in (Some (Stale last)) = Response.Delete
reply_in (Some (TableFull rows)) = Response.Delete
reply_in None = Response.Delete

giving : {client : ClientId} {before after : Option Row} {place : Option ClientAsk} {reply : Option Reply} (secret : List ℕ) (left : ℕ)
    → Turn client before after place reply → is_ask_of client place ≡ true → reply ≡ Some (Applied (Restored OK secret left)) → Giving client before place secret left
giving secret left (others e same) mine r = absurd (cc)
giving secret left (refused same e) mine r = absurd (e (subst (λ x. IsSomeAnd x IsApplied) (sym r) tt))
giving secret left (unknown number request is only none e done) mine r = absurd (nothing request (ap reply_in (sym done ∙ r)))
  where
    nothing : (request : Request) → ¬ ((act request None).1 ≡ Restored OK secret left)
    nothing (Backup s p n) e = cc
    nothing (Restore p) e = cc
    nothing Delete e = cc
    nothing (Expose s) e = cc
giving {before = before} secret left (acts number request is puts above e done) mine r = record {
  number = number;
  request = request;
  place_is = is;
  gave_by = gave request (kept_in before) secret left (ap reply_in (sym done ∙ r));
}

module _ (limit : ℕ) (places : Places) (valid : AreValid places) (k : ℕ) (client : ClientId) (secret : List ℕ) (left : ℕ)
    (replied : reply_at limit places (suc k) ≡ Some (Applied (Restored OK secret left)))
    (given : Giving client (row_after limit places client k) (ask_at places (suc k)) secret left) where
  -- what stands of a record that is there
  stands_of : (b : ℕ) (s : List ℕ) (p : Hash) (n : ℕ) → b ≤ k → ActsAs limit places b client (Backup s p n) → NoBackup limit places client b k
      → Stands s p n (wrong_guesses limit places client b k) (ShownBy limit places client s b k) (NoDelete limit places client b k) given.gave_by.record_was
  stands_of b s p n h acted none =
      subst (Standing s p n (wrong_guesses limit places client b k) (ShownBy limit places client s b k) (NoDelete limit places client b k)) given.gave_by.stood
      (stands limit places client s p n b k h acted (some_tries limit places client b s p n valid acted) none)

  not_now : (wanted : Request) → ¬ (Restore given.gave_by.pin ≡ wanted) → ¬ (ActsAs limit places (suc k) client wanted)
  not_now wanted other h = other (sym given.gave_by.asked ∙ ap request_in (sym given.place_is ∙ h.1.1))

  no_miss : (b : ℕ) → b ≤ k → wrong_guesses limit places client b (suc k) ≡ wrong_guesses limit places client b k
  no_miss b h =
      let quiet : missed client (ask_at places (suc k)) (reply_at limit places (suc k)) ≡ 0 =
      missed-quiet client (ask_at places (suc k)) (reply_at limit places (suc k)) (ap (λ r. unwrap_or (option_map is_mismatch r) false) replied) in
      let more = one_more limit places client b k h in omega arith

  earned_by : (b n : ℕ) → b ≤ k → ActsAs limit places b client (Backup secret given.gave_by.pin n) → NoBackup limit places client b k
      → Earned limit places client (suc k) secret given.gave_by.pin left
  earned_by b n h acted none =
      let stood = stands_of b secret given.gave_by.pin n h acted none in
      let shown = stood.shown given.gave_by.exposed in
      let same = no_miss b h in
      let c = stood.counted in
      let p = stood.positive in
      let l = given.gave_by.left_was in
      record {
        backup = b;
        tries = n;
        expose = shown.0;
        before = omega arith;
        backed_up = acted;
        newest = λ j s p n. none_more limit places client b k (Backup s p n) (not_now (Backup s p n) (λ e. cc)) (λ i low high. none i s p n low high) j;
        after_backup = shown.1;
        before_given = let last = shown.2 in omega arith;
        exposed = shown.3;
        expose_done = shown.4;
        undeleted = none_more limit places client b k Delete (not_now Delete (λ e. cc)) stood.undeleted;
        guesses = omega arith;
        left_over = omega arith;
      }

  earned_after : Latest limit places client k → Earned limit places client (suc k) secret given.gave_by.pin left
  earned_after b =
      let stood = stands_of b.place b.secret b.pin b.tries b.within b.acted b.newest in
      let secret_is : b.secret ≡ secret = sym stood.secret_same ∙ given.gave_by.secret_was in
      let pin_is : b.pin ≡ given.gave_by.pin = sym stood.pin_same ∙ given.gave_by.right in
      earned_by b.place b.tries b.within
      (subst (λ s. ActsAs limit places b.place client (Backup s given.gave_by.pin b.tries)) secret_is
      (subst (λ p. ActsAs limit places b.place client (Backup b.secret p b.tries)) pin_is b.acted)) b.newest

  earned : Earned limit places client (suc k) secret given.gave_by.pin left
  earned = earned_after (latest limit places client k (ap is_some given.gave_by.stood))

pub data_is_earned : (limit : ℕ) (places : Places) → AreValid places → DataIsEarned limit places
data_is_earned limit places valid zero ask secret left e r = cc
data_is_earned limit places valid (suc k) ask secret left e r =
    let given = giving secret left (turn_at limit places ask.client k) (ap (is_ask_of ask.client) e ∙ client_eq-self ask.client) r in
    (given.gave_by.pin, ap request_in (sym e ∙ given.place_is) ∙ given.gave_by.asked, earned limit places valid k ask.client secret left r given)
