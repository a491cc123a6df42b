-- What is known of a client's last backup that acted, place by place.
use Rattle.std.proofs.Common.{◌≡◌, ℕ, zero, suc, ◌+◌, ◌<◌, ◌≤◌, true, false, cond, ◌&&◌, List, refl, sym, ap, subst, ◌∙◌, arith, ◌⊎◌, inl, inr}
use Rattle.std.specs.Prelude.{Option, Some, None, IsSomeAnd, unwrap_or, option_map, nat_lt, if◌then◌else◌}
use Rattle.std.proofs.Math.Bool.{and-false}
use Rattle.std.proofs.lemmas.Bool.{lt-ltb, le-ltb, ltb-true, ltb-false}
use Rattle.values.specs.declared.entry.Hash.{Hash}
use Rattle.values.specs.declared.ids.ClientId.{ClientId}
use Rattle.values.specs.declared.row.Row.{Row}
use Rattle.values.specs.declared.row.Kept.{Kept}
use Rattle.values.specs.declared.message.Request.{Request}
use Rattle.values.specs.declared.message.Request.TheVariants.{Backup, Restore, Delete, Expose}
use Rattle.values.specs.declared.message.Response.TheVariants.{Expose as Exposed}
use Rattle.values.specs.declared.message.Reply.{Reply}
use Rattle.values.specs.declared.message.Reply.TheVariants.{Applied, Stale, TableFull}
use Rattle.record_rules.specs.declared.status.TheConstants.{OK}
use Rattle.record_rules.specs.Rules.{act}
use Rattle.record_rules.specs.Places.{ClientAsk, Places, ask_at, reply_at, is_ask_of, is_mismatch, is_wrong_guess, wrong_guesses, IsApplied, ActsAs}
use Rattle.record_rules.specs.Laws.{NoBackup, NoDelete, row_after}
use Rattle.record_rules.proofs.Clients.{client_eq-self}
use Rattle.record_rules.specs.Table.{kept_in}
use Rattle.record_rules.proofs.Turns.{Turn, others, refused, unknown, acts, turn_at}
use Rattle.record_rules.proofs.Guesses.{Standing, miss, after_request}

-- a place is an ask of the client for this, and acts
abbrev pub ActsNow : ClientId → Option ClientAsk → Option Reply → Request → Type 0
ActsNow client place reply request =
    IsSomeAnd reply IsApplied × ((number : ℕ) × (place ≡ Some (record { client = client; number = number; request = request })))

-- a place is a wrong guess of the client
abbrev pub missed : ClientId → Option ClientAsk → Option Reply → ℕ
missed client place reply = if is_ask_of client place && unwrap_or (option_map is_mismatch reply) false then 1 else 0

is_own : (client : ClientId) (place : Option ClientAsk) (number : ℕ) (request : Request)
    → place ≡ Some (record { client = client; number = number; request = request }) → is_ask_of client place ≡ true
is_own client place number request e = ap (is_ask_of client) e ∙ client_eq-self client

-- the request of an ask
abbrev pub request_in : Option ClientAsk → Request
request_in None = Delete
request_in (Some ask) = ask.request

-- an ask of no other acts as the client's
pub not_own : (client : ClientId) (place : Option ClientAsk) (reply : Option Reply) (request : Request) → is_ask_of client place ≡ false → ¬ (ActsNow client place reply request)
not_own client place reply request e (applied, (number, is)) = let t : is_ask_of client place ≡ true = is_own client place number request is in cc

missed-other : (client : ClientId) (place : Option ClientAsk) (reply : Option Reply) → is_ask_of client place ≡ false → missed client place reply ≡ 0
missed-other client place reply e = ap (λ b. cond (b && unwrap_or (option_map is_mismatch reply) false) 1 0) e

no_mismatch : (reply : Option Reply) → ¬ (IsSomeAnd reply IsApplied) → unwrap_or (option_map is_mismatch reply) false ≡ false
no_mismatch None e = refl
no_mismatch (Some (Applied response)) e = absurd (e tt)
no_mismatch (Some (Stale last)) e = refl
no_mismatch (Some (TableFull rows)) e = refl

pub missed-quiet : (client : ClientId) (place : Option ClientAsk) (reply : Option Reply) → unwrap_or (option_map is_mismatch reply) false ≡ false → missed client place reply ≡ 0
missed-quiet client place reply e =
    ap (λ b. cond (is_ask_of client place && b) 1 0) e ∙ ap (λ b. cond b 1 0) (and-false (is_ask_of client place))

-- no request without a record is a wrong guess
quiet : (request : Request) → is_mismatch (Applied (act request None).1) ≡ false
quiet (Backup secret pin tries) = refl
quiet (Restore pin) = refl
quiet Delete = refl
quiet (Expose secret) = refl

missed-own : (client : ClientId) (place : Option ClientAsk) (reply : Option Reply) (done : Reply) → is_ask_of client place ≡ true → reply ≡ Some done
    → missed client place reply ≡ miss done
missed-own client place reply done mine e =
    ap (λ b. cond (b && unwrap_or (option_map is_mismatch reply) false) 1 0) mine ∙ ap (λ r. cond (unwrap_or (option_map is_mismatch r) false) 1 0) e

module _ (secret : List ℕ) (pin : Hash) (tries wrong : ℕ) (Shown Undeleted Shown' Undeleted' : Type 0) (more : Shown → Shown') where
  -- nothing changes but what holds of longer lists
  stays : (missed_now : ℕ) → missed_now ≡ 0 → (Undeleted → Undeleted') → (kept : Option Kept)
      → Standing secret pin tries wrong Shown Undeleted kept → Standing secret pin tries (wrong + missed_now) Shown' Undeleted' kept
  stays n none still None stood = omega arith
  stays n none still (Some kept) stood = record {
    secret_same = stood.secret_same;
    pin_same = stood.pin_same;
    counted = let c = stood.counted in omega arith;
    positive = stood.positive;
    shown = λ h. more (stood.shown h);
    undeleted = still stood.undeleted;
  }

  -- a turn that is no backup
  pub after_turn : (client : ClientId) (before after : Option Row) (place : Option ClientAsk) (reply : Option Reply) → Turn client before after place reply
      → ((s : List ℕ) (p : Hash) (n : ℕ) → ¬ (ActsNow client place reply (Backup s p n)))
      → (ActsNow client place reply (Expose secret) → reply ≡ Some (Applied (Exposed OK)) → Shown')
      → (¬ (ActsNow client place reply Delete) → Undeleted → Undeleted')
      → Standing secret pin tries wrong Shown Undeleted (kept_in before)
      → Standing secret pin tries (wrong + missed client place reply) Shown' Undeleted' (kept_in after)
  after_turn client before after place reply (others e same) new shows still stood =
      subst (λ row. Standing secret pin tries (wrong + missed client place reply) Shown' Undeleted' (kept_in row)) (sym same)
      (stays (missed client place reply) (missed-other client place reply e) (still (not_own client place reply Delete e)) (kept_in before) stood)
  after_turn client before after place reply (refused same e) new shows still stood =
      subst (λ row. Standing secret pin tries (wrong + missed client place reply) Shown' Undeleted' (kept_in row)) (sym same)
      (stays (missed client place reply) (missed-quiet client place reply (no_mismatch reply e)) (still (λ h. e h.0)) (kept_in before) stood)
  after_turn client before after place reply (unknown number request is only_backups none e done) new shows still stood =
      subst (λ row. Standing secret pin tries (wrong + missed client place reply) Shown' Undeleted' (kept_in row)) (sym e)
      (let was : wrong ≤ tries = subst (λ row. Standing secret pin tries wrong Shown Undeleted (kept_in row)) none stood in
      let zero_missed : missed client place reply ≡ 0 =
      missed-quiet client place reply (ap (λ r. unwrap_or (option_map is_mismatch r) false) done ∙ quiet request) in
      omega arith)
  after_turn client before after place reply (acts number request is puts above e done) new shows still stood =
      subst (λ row. Standing secret pin tries (wrong + missed client place reply) Shown' Undeleted' (kept_in row)) (sym e)
      (subst (λ n. Standing secret pin tries (wrong + n) Shown' Undeleted' (act request (kept_in before)).0)
      (sym (missed-own client place reply (Applied (act request (kept_in before)).1) (is_own client place number request is) done))
      (after_request secret pin tries wrong Shown Undeleted Shown' Undeleted' more request (kept_in before)
      (λ s p n h. new s p n (acting (Backup s p n) h))
      (λ h r. shows (acting (Expose secret) h) (done ∙ ap (λ response. Some (Applied response)) r))
      (λ other was. still (λ h. other (ap request_in (sym is ∙ h.1.1))) was)
      stood))
    where
      acting : (wanted : Request) → request ≡ wanted → ActsNow client place reply wanted
      acting wanted h = (
        subst (λ r. IsSomeAnd r IsApplied) (sym done) tt,
        (number, is ∙ ap (λ r. Some (record { client = client; number = number; request = r })) h),
      )

module _ (limit : ℕ) (places : Places) (client : ClientId) where
  pub none_wrong : (b k : ℕ) → k ≤ b → wrong_guesses limit places client b k ≡ 0
  none_wrong b zero h = refl
  none_wrong b (suc k) h =
      ap (λ t. wrong_guesses limit places client b k + cond {A = ℕ} (t && is_wrong_guess limit places client (suc k)) 1 0) (le-ltb b (suc k) h)
      ∙ (let below = none_wrong b k (omega arith) in omega arith)

  pub one_more : (b k : ℕ) → b ≤ k
      → wrong_guesses limit places client b k + missed client (ask_at places (suc k)) (reply_at limit places (suc k)) ≡ wrong_guesses limit places client b (suc k)
  one_more b k h =
      ap (λ t. wrong_guesses limit places client b k + cond (t && is_wrong_guess limit places client (suc k)) 1 0) (sym (lt-ltb b (suc k) (omega arith)))

  -- the client's backup at place b was exposed up to place k
  abbrev pub ShownBy : List ℕ → ℕ → ℕ → Type 0
  ShownBy secret b k =
      (e : ℕ) × (b < e) × (e ≤ k) × ActsAs limit places e client (Expose secret) × (reply_at limit places e ≡ Some (Applied (Exposed OK)))

  -- what is known of the record, after place k, of the backup at place b
  abbrev pub StandsAt : List ℕ → Hash → ℕ → ℕ → ℕ → Type 0
  StandsAt secret pin tries b k =
      Standing secret pin tries (wrong_guesses limit places client b k) (ShownBy secret b k) (NoDelete limit places client b k) (kept_in (row_after limit places client k))

  step_cases : (j k : ℕ) → j ≤ suc k → (j ≤ k) ⊎ (j ≡ suc k)
  step_cases j k h = elim (nat_lt k j) as (λ t. nat_lt k j ≡ t → (j ≤ k) ⊎ (j ≡ suc k)) [
    | true ↦ λ e. inr (let l : k < j = ltb-true k j e in omega arith)
    | false ↦ λ e. inl (ltb-false k j e)
  ] refl

  pub none_more : (b k : ℕ) (request : Request) → ¬ (ActsAs limit places (suc k) client request)
      → ((j : ℕ) → b < j → j ≤ k → ¬ (ActsAs limit places j client request)) → (j : ℕ) → b < j → j ≤ suc k → ¬ (ActsAs limit places j client request)
  none_more b k request last before j low high = by_last (step_cases j k high)
    where
      by_last : (j ≤ k) ⊎ (j ≡ suc k) → ¬ (ActsAs limit places j client request)
      by_last (inl h) = before j low h
      by_last (inr e) = subst (λ i. ¬ (ActsAs limit places i client request)) (sym e) last

  module _ (secret : List ℕ) (pin : Hash) (tries : ℕ) where
    stands_next : (b k : ℕ) → b ≤ k → ((s : List ℕ) (p : Hash) (n : ℕ) → ¬ (ActsAs limit places (suc k) client (Backup s p n)))
        → StandsAt secret pin tries b k → StandsAt secret pin tries b (suc k)
    stands_next b k h new stood =
        subst (λ wrong. Standing secret pin tries wrong (ShownBy secret b (suc k)) (NoDelete limit places client b (suc k)) (kept_in (row_after limit places client (suc k))))
        (one_more b k h)
        (after_turn secret pin tries (wrong_guesses limit places client b k) (ShownBy secret b k) (NoDelete limit places client b k)
        (ShownBy secret b (suc k)) (NoDelete limit places client b (suc k))
        (λ (e, low, high, acted, r). (e, low, omega arith, acted, r))
        client (row_after limit places client k) (row_after limit places client (suc k)) (ask_at places (suc k)) (reply_at limit places (suc k))
        (turn_at limit places client k) new
        (λ acted r. (suc k, omega arith, omega arith, acted, r))
        (none_more b k Delete)
        stood)

    stands_later : (b k : ℕ) → b ≤ k → NoBackup limit places client b k → StandsAt secret pin tries b b → StandsAt secret pin tries b k
    stands_later b zero h none stood = let same : b ≡ 0 = omega arith in subst (StandsAt secret pin tries b) same stood
    stands_later b (suc k) h none stood =
        by_last (λ e. stands_next b k e (λ s p n. none (suc k) s p n (omega arith) (omega arith))
        (stands_later b k e (λ j s p n low high. none j s p n low (omega arith)) stood)) (step_cases b k h)
      where
        by_last : (b ≤ k → StandsAt secret pin tries b (suc k)) → (b ≤ k) ⊎ (b ≡ suc k) → StandsAt secret pin tries b (suc k)
        by_last next (inl e) = next e
        by_last next (inr e) = subst (StandsAt secret pin tries b) e stood

    -- a backup that acts stands with all its tries
    just_backed : {before after : Option Row} {place : Option ClientAsk} {reply : Option Reply} (Shown Undeleted : Type 0) → Turn client before after place reply
        → ActsNow client place reply (Backup secret pin tries) → 1 ≤ tries → Undeleted → Standing secret pin tries 0 Shown Undeleted (kept_in after)
    just_backed {place = place} {reply = reply} Shown Undeleted (others e same) acted some kept = absurd (not_own client place reply (Backup secret pin tries) e acted)
    just_backed Shown Undeleted (refused same e) acted some kept = absurd (e acted.0)
    just_backed Shown Undeleted (unknown number request is only_backups none e done) acted some kept =
        absurd (only_backups secret pin tries (ap request_in (sym is ∙ acted.1.1)))
    just_backed {before = before} Shown Undeleted (acts number request is puts above e done) acted some kept =
        subst (λ row. Standing secret pin tries 0 Shown Undeleted (kept_in row)) (sym e)
        (subst (λ r. Standing secret pin tries 0 Shown Undeleted (act r (kept_in before)).0) (sym (ap request_in (sym is ∙ acted.1.1)))
        (record { secret_same = refl; pin_same = refl; counted = omega arith; positive = some; shown = λ h. cc; undeleted = kept }))

    stands_at_first : (b : ℕ) → ActsAs limit places b client (Backup secret pin tries) → 1 ≤ tries → StandsAt secret pin tries b b
    stands_at_first zero acted some = absurd acted.0
    stands_at_first (suc b) acted some =
        subst (λ wrong. Standing secret pin tries wrong (ShownBy secret (suc b) (suc b)) (NoDelete limit places client (suc b) (suc b)) (kept_in (row_after limit places client (suc b))))
        (sym (none_wrong (suc b) (suc b) (omega arith)))
        (just_backed (ShownBy secret (suc b) (suc b)) (NoDelete limit places client (suc b) (suc b)) (turn_at limit places client b) acted some
        (λ j low high. absurd (omega arith)))

    -- after a backup that acted, as long as none acts again
    pub stands : (b k : ℕ) → b ≤ k → ActsAs limit places b client (Backup secret pin tries) → 1 ≤ tries → NoBackup limit places client b k → StandsAt secret pin tries b k
    stands b k h acted some none = stands_later b k h none (stands_at_first b acted some)
