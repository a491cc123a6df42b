-- Messages that wait stand at the end of all that was sent, in their order.
use Rattle.std.proofs.Common.{◌≡◌, ℕ, zero, suc, ◌+◌, ◌<◌, ◌==◌, not, false, Some, List, [], ◌∷◌, ◌++◌, length, refl, sym, ◌∙◌, arith}
use Rattle.std.specs.Prelude.{cond, slice_get}
use Rattle.std.specs.List.{range_with_len}
use Rattle.std.proofs.lemmas.Bool.{ne_eqb}
use Rattle.std.proofs.lemmas.List.{length-append, append_assoc}
use Rattle.group_model.specs.Group.{numbered, but}
use Rattle.drill_laws.proofs.Numbers.{same_number}

-- those above a number are kept without it
kept_above : (k a n : ℕ) → k < a → but k (range_with_len a n) ≡ range_with_len a n
kept_above k a zero above = refl
kept_above k a (suc n) above =
    (λ i. cond (not (other i)) (a ∷ but k (range_with_len (a + 1) n)) (but k (range_with_len (a + 1) n)))
    ∙ (λ i. a ∷ kept_above k (a + 1) n (omega (arith, above)) i)
  where
    other : (a == k) ≡ false
    other = ne_eqb a k (λ e. omega (arith, e, above))

without_first : (k n : ℕ) → but k (range_with_len k (suc n)) ≡ range_with_len (k + 1) n
without_first k n =
    (λ i. cond (not (same_number k i)) (k ∷ but k (range_with_len (k + 1) n)) (but k (range_with_len (k + 1) n)))
    ∙ kept_above k (k + 1) n (omega arith)

range_append : (a m n : ℕ) → range_with_len a m ++ range_with_len (a + m) n ≡ range_with_len a (m + n)
range_append a zero n = (λ i. range_with_len (none i) n) ∙ (λ i. range_with_len a (also i))
  where
    none : a + zero ≡ a
    none = omega arith

    also : n ≡ zero + n
    also = omega arith
range_append a (suc m) n = (λ i. a ∷ (range_with_len (a + 1) m ++ range_with_len (more i) n)) ∙ (λ i. a ∷ range_append (a + 1) m n i) ∙ (λ i. range_with_len a (count i))
  where
    more : a + suc m ≡ (a + 1) + m
    more = omega arith

    count : suc (m + n) ≡ suc m + n
    count = omega arith

module _ {A : Type 0} where
  pub at_first : (done : List A) (m : A) (ms : List A) → slice_get (done ++ m ∷ ms) (length done) ≡ Some m
  at_first [] m ms = refl
  at_first (x ∷ done) m ms = at_first done m ms

  -- those that wait are the last ones of all
  pub record Queued (waiting : List ℕ) (messages queue : List A) : Type 0 where
    pub done : List A
    pub all : messages ≡ done ++ queue
    pub numbers : waiting ≡ range_with_len (length done + 1) (length queue)

  -- the number of the first that waits
  abbrev pub first_number : (waiting : List ℕ) (messages queue : List A) → Queued waiting messages queue → ℕ
  first_number waiting messages queue q = length q.done + 1

  module _ (waiting : List ℕ) (messages : List A) (m : A) (ms : List A) (q : Queued waiting messages (m ∷ ms)) where
    pub first_is : numbered messages (first_number waiting messages (m ∷ ms) q) ≡ Some m
    first_is = (λ i. numbered (q.all i) (more i)) ∙ at_first q.done m ms
      where
        more : length q.done + 1 ≡ suc (length q.done)
        more = omega arith

    pub first_waits : waiting ≡ first_number waiting messages (m ∷ ms) q ∷ range_with_len (length q.done + 1 + 1) (length ms)
    first_waits = q.numbers

    -- it is delivered
    pub popped : Queued (but (first_number waiting messages (m ∷ ms) q) waiting) messages ms
    popped =
        record {
          done = q.done ++ m ∷ [];
          all = q.all ∙ sym (append_assoc q.done (m ∷ []) ms);
          numbers = (λ i. but (length q.done + 1) (q.numbers i)) ∙ without_first (length q.done + 1) (length ms) ∙ (λ i. range_with_len (one_more i) (length ms));
        }
      where
        one_more : length q.done + 1 + 1 ≡ length (q.done ++ m ∷ []) + 1
        one_more = omega (arith, length-append q.done (m ∷ []))

  -- and these are sent
  pub queued_more : (waiting : List ℕ) (messages queue new : List A) (q : Queued waiting messages queue) → Queued (waiting ++ range_with_len (length messages + 1) (length new)) (messages ++ new) (queue ++ new)
  queued_more waiting messages queue new q =
      record {
        done = q.done;
        all = (λ i. q.all i ++ new) ∙ append_assoc q.done queue new;
        numbers =
            (λ i. q.numbers i ++ range_with_len (length (q.all i) + 1) (length new))
            ∙ (λ i. range_with_len (length q.done + 1) (length queue) ++ range_with_len (sum i) (length new))
            ∙ range_append (length q.done + 1) (length queue) (length new)
            ∙ (λ i. range_with_len (length q.done + 1) (sym (length-append queue new) i));
      }
    where
      sum : length (q.done ++ queue) + 1 ≡ length q.done + 1 + length queue
      sum = omega (arith, length-append q.done queue)
