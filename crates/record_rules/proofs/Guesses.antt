-- How one request that acts changes what is known of a backup.
use Rattle.std.proofs.Common.{◌≡◌, ℕ, ◌+◌, ◌-◌, ◌≤◌, Bool, true, false, cond, List, [], refl, sym, ap, ◌∙◌, arith}
use Rattle.std.specs.Prelude.{Option, Some, None, ◌==◌, bytes_eq, if◌then◌else◌}
use Rattle.std.proofs.lemmas.Slice.Eq.{bytes_eq-Decides}
use Rattle.std.proofs.lemmas.Bool.{eqb-false}
use Rattle.values.specs.declared.entry.Hash.{Hash}
use Rattle.values.specs.declared.row.Kept.{Kept}
use Rattle.values.specs.declared.message.Request.{Request}
use Rattle.values.specs.declared.message.Request.TheVariants.{Backup, Restore, Delete, Expose}
use Rattle.values.specs.declared.message.Response.{Response}
use Rattle.values.specs.declared.message.Response.TheVariants.{Restore as Restored, Expose as Exposed}
use Rattle.values.specs.declared.message.Reply.{Reply}
use Rattle.values.specs.declared.message.Reply.TheVariants.{Applied}
use Rattle.record_rules.specs.declared.status.TheConstants.{OK, MISSING, PIN_MISMATCH, ERROR}
use Rattle.record_rules.specs.Rules.{act, after_guess, after_wrong_guess}
use Rattle.record_rules.specs.Places.{is_mismatch}

-- of a backup of these contents, after so many wrong guesses: what its record is
pub record Stands (secret : List ℕ) (pin : Hash) (tries wrong : ℕ) (Shown Undeleted : Type 0) (kept : Kept) : Type 0 where
  pub secret_same : kept.secret ≡ secret
  pub pin_same : kept.pin ≡ pin
  pub counted : wrong + kept.left ≡ tries
  pub positive : 1 ≤ kept.left
  pub shown : kept.exposed ≡ true → Shown
  pub undeleted : Undeleted

-- the same, or the record is gone
abbrev pub Standing : List ℕ → Hash → ℕ → ℕ → Type 0 → Type 0 → Option Kept → Type 0
Standing secret pin tries wrong Shown Undeleted None = wrong ≤ tries
Standing secret pin tries wrong Shown Undeleted (Some kept) = Stands secret pin tries wrong Shown Undeleted kept

-- the guess that a response counts as
abbrev pub miss : Reply → ℕ
miss reply = if is_mismatch reply then 1 else 0

module _ (secret : List ℕ) (pin : Hash) (tries wrong : ℕ) (Shown Undeleted Shown' Undeleted' : Type 0) where
  -- after a request, from what it leaves and answers
  abbrev Becomes : Option Kept × Response → Type 0
  Becomes done = Standing secret pin tries (wrong + miss (Applied done.1)) Shown' Undeleted' done.0

  module _ (more : Shown → Shown') (still : Undeleted → Undeleted') (kept : Kept) (stood : Stands secret pin tries wrong Shown Undeleted kept) where
    unchanged : (response : Response) → is_mismatch (Applied response) ≡ false → Becomes (Some kept, response)
    unchanged response e = record {
      secret_same = stood.secret_same;
      pin_same = stood.pin_same;
      counted = let none : miss (Applied response) ≡ 0 = ap (λ b. cond b 1 0) e in let c = stood.counted in omega arith;
      positive = stood.positive;
      shown = λ h. more (stood.shown h);
      undeleted = still stood.undeleted;
    }

    one_less : (b : Bool) → (kept.left - 1 == 0) ≡ b
        → Becomes (cond b None (Some (record kept { left = kept.left - 1 })), Restored PIN_MISMATCH [] (kept.left - 1))
    one_less true e = let c = stood.counted in let p = stood.positive in omega arith
    one_less false e = record {
      secret_same = stood.secret_same;
      pin_same = stood.pin_same;
      counted = let c = stood.counted in let p = stood.positive in omega arith;
      positive = let nonzero = eqb-false (kept.left - 1) 0 e in let p = stood.positive in omega arith;
      shown = λ h. more (stood.shown h);
      undeleted = still stood.undeleted;
    }

    guessed : (p : Hash) (b : Bool) → Becomes (cond b (Some kept, Restored OK kept.secret kept.left) (after_wrong_guess kept))
    guessed p true = unchanged (Restored OK kept.secret kept.left) refl
    guessed p false = one_less (kept.left - 1 == 0) refl

    restored : (p : Hash) (b : Bool) → Becomes (cond b (after_guess p kept) (Some kept, Restored MISSING [] 0))
    restored p true = guessed p (bytes_eq kept.pin.0 p.0)
    restored p false = unchanged (Restored MISSING [] 0) refl

    exposed : (s : List ℕ) (b : Bool) → bytes_eq kept.secret s ≡ b → (b ≡ true → s ≡ secret → Shown')
        → Becomes (cond b (Some (record kept { exposed = true }), Exposed OK) (Some kept, Exposed ERROR))
    exposed s true e now = record {
      secret_same = stood.secret_same;
      pin_same = stood.pin_same;
      counted = let c = stood.counted in omega arith;
      positive = stood.positive;
      shown = λ h. now refl (sym ((bytes_eq-Decides kept.secret s).0 e) ∙ stood.secret_same);
      undeleted = still stood.undeleted;
    }
    exposed s false e now = unchanged (Exposed ERROR) refl

  -- a record that is gone stays so
  gone : (response : Response) → is_mismatch (Applied response) ≡ false → wrong ≤ tries → Becomes (None, response)
  gone response e h = let none : miss (Applied response) ≡ 0 = ap (λ b. cond b 1 0) e in omega arith

  pub after_request : (more : Shown → Shown') (request : Request) (kept : Option Kept)
      → ((s : List ℕ) (p : Hash) (n : ℕ) → ¬ (request ≡ Backup s p n))
      → (request ≡ Expose secret → (act request kept).1 ≡ Exposed OK → Shown')
      → (¬ (request ≡ Delete) → Undeleted → Undeleted')
      → Standing secret pin tries wrong Shown Undeleted kept → Becomes (act request kept)
  after_request more (Backup s p n) kept new shows still stood = absurd (new s p n refl)
  after_request more (Restore p) None new shows still stood = gone (Restored MISSING [] 0) refl stood
  after_request more (Restore p) (Some kept) new shows still stood = restored more (still (λ h. cc)) kept stood p kept.exposed
  after_request more Delete None new shows still stood = gone Response.Delete refl stood
  after_request more Delete (Some kept) new shows still stood = let c = stood.counted in omega arith
  after_request more (Expose s) None new shows still stood = gone (Exposed ERROR) refl stood
  after_request more (Expose s) (Some kept) new shows still stood =
      exposed more (still (λ h. cc)) kept stood s (bytes_eq kept.secret s) refl
      (λ test same. shows (ap Expose same) (ap (λ b. (cond {A = Option Kept × Response} b (Some (record kept { exposed = true }), Exposed OK) (Some kept, Exposed ERROR)).1) test))
