-- A field that answers so many asks and then fails.
use Rattle.std.specs.Prelude.{ℕ, zero, suc, ◌||◌, Bool, true}
use Rattle.group_model.specs.Enclave.{HostInput}
use Rattle.group_model.specs.Field.{Field, Reply, Answers, Unreadable, Nothing}

pub record Failing (F : Type 0) : Type 0 where
  pub inner : F
  -- how many asks it still answers
  pub left : ℕ
  -- whether a start or a stop was not answered
  pub failed : Bool

module _ {M F : Type 0} (field : Field M F) where
  -- a start or a stop
  abbrev pub one_taken : ℕ → Failing F → F → Failing F
  one_taken zero s f = record s { failed = true }
  one_taken (suc n) s f = record s { inner = f; left = n }

  abbrev pub through : ℕ → Failing F → Reply M F → Reply M (Failing F)
  through n s (Answers batch sent f) = Answers batch sent (record s { inner = f; left = n })
  through n s (Unreadable at f) = Unreadable at (record s { inner = f; left = n })
  through n s Nothing = Nothing

  abbrev pub one_call : ℕ → Failing F → ℕ → HostInput M → Reply M (Failing F)
  one_call zero s r input = Nothing
  one_call (suc n) s r input = through n s (field.call s.inner r input)

  abbrev pub failing : Field M (Failing F)
  failing =
      record {
        start = λ s hello. one_taken s.left s (field.start s.inner hello);
        call = λ s r input. one_call s.left s r input;
        stop = λ s r. one_taken s.left s (field.stop s.inner r);
        has_failed = λ s. s.failed || field.has_failed s.inner;
      }
