-- What a follower makes of an append in a round.
use Rattle.std.proofs.Common.{◌≡◌, ℕ, ◌+◌, ◌-◌, ◌≤◌, ◌<◌, ◌&&◌, ◌||◌, Bool, Option, Some, None, List, [], ◌∷◌, ◌++◌, length, take, drop, max, min, refl, ap, sym, ◌∙◌, arith}
use Rattle.std.specs.Prelude.{nat_le, cond}
use Rattle.std.proofs.lemmas.List.{take_all, append-nil, length-append}
use Rattle.std.proofs.lemmas.Bool.{and_right, le-leb, le-ltb, lt-leb}
use Rattle.values.specs.declared.entry.Hash.{Hash}
use Rattle.values.specs.declared.entry.LogEntry.{LogEntry}
use Rattle.values.specs.declared.ids.ClientId.{ClientId}
use Rattle.values.specs.declared.message.Answer.{Answer}
use Rattle.replica_model.specs.declared.TheConstants.{KEPT_BELOW}
use Rattle.replica_model.specs.Path.{Path, Link, chain}
use Rattle.replica_model.specs.Message.{Message}
use Rattle.replica_model.specs.Replica.{Replica}
use Rattle.replica_model.specs.Call.{Call, Peer}
use Rattle.replica_model.specs.Graft.{Offer, hash_at, points_from, differing, first_difference, Difference, append_heard, conflict_or_graft, refusal_hint, answered, following, accepts, grafted}
use Rattle.replica_model.specs.Send.{with_sent}
use Rattle.replica_model.specs.Step.{step, with_end}
use Rattle.drill_laws.proofs.Numbers.{hash_same}
use Rattle.drill_laws.proofs.Setting.{follower, whole, offer, acceptance, at, max_at, min_whole, min_at, below_whole}

-- what a call came to, as far as the group keeps it
pub record Did (c : Call) (now : Replica) (messages : List (ℕ × Message)) (outcomes : List (ClientId × ℕ × Answer)) : Type 0 where
  pub state : c.state ≡ now
  pub sent : c.sent ≡ messages
  pub answers : c.batch.answers ≡ outcomes
  pub saved : c.batch.saved ≡ None
  pub halt : c.batch.halt ≡ None

pub did : (c d : Call) (state : Replica) (sent : List (ℕ × Message)) (answers : List (ClientId × ℕ × Answer)) → c ≡ d → Did d state sent answers → Did c state sent answers
did c d state sent answers e done =
    record {
      state = (λ i. (e i).state) ∙ done.state;
      sent = (λ i. (e i).sent) ∙ done.sent;
      answers = (λ i. (e i).batch.answers) ∙ done.answers;
      saved = (λ i. (e i).batch.saved) ∙ done.saved;
      halt = (λ i. (e i).batch.halt) ∙ done.halt;
    }

module _ (link : Link) (me known : ℕ) where
  -- points above the end of the log differ nowhere from it
  none_above : (r : Path) (a c k : ℕ) (h : Hash) (es : Path) → length r < k → first_difference link (follower me known r a c) (points_from link k h es) ≡ None
  none_above r a c k h [] above =
      λ i. differing (cond (and_right (nat_le (c - KEPT_BELOW) k) (nat_le k (length r)) (lt-leb k (length r) above) i) (Some (chain link (take k r))) None) (record { index = k; hash = h }) None
  none_above r a c k h (e ∷ es) above =
      (λ i. differing (cond (and_right (nat_le (c - KEPT_BELOW) k) (nat_le k (length r)) (lt-leb k (length r) above) i) (Some (chain link (take k r))) None) (record { index = k; hash = h }) (first_difference link (follower me known r a c) (points_from link (k + 1) (link h (k + 1) e) es)))
      ∙ none_above r a c (k + 1) (link h (k + 1) e) es (omega (arith, above))

  -- the log of a follower has the hash of its end
  end_kept : (r : Path) (a c : ℕ) → c ≤ length r → hash_at link (follower me known r a c) (length r) ≡ Some (chain link r)
  end_kept r a c within =
      (λ i. cond (le-leb (c - KEPT_BELOW) (length r) (omega (arith, within)) i && le-leb (length r) (length r) (omega arith) i) (Some (chain link (take (length r) r))) None)
      ∙ (λ i. Some (chain link (take_all (length r) r (omega arith) i)))

  end_same : (r : Path) (a c : ℕ) (later : Option Difference) → c ≤ length r → later ≡ None → differing (hash_at link (follower me known r a c) (length r)) (whole link r) later ≡ None
  end_same r a c later within none =
      (λ i. differing (end_kept r a c within i) (whole link r) later)
      ∙ (λ i. cond (hash_same (chain link r) i) (none i) (Some (length r, chain link r, chain link r)))

  -- an offer after the end of the log differs nowhere from it
  same : (r es : Path) (a c x y : ℕ) → c ≤ length r → first_difference link (follower me known r a c) (points_from link (length r) (chain link r) es) ≡ None
  same r [] a c x y within = end_same r a c None within refl
  same r (e ∷ es) a c x y within = end_same r a c _ within (none_above r a c (length r + 1) (link (chain link r) (length r + 1) e) es (omega arith))

  -- a follower hears what follows its log
  module _ (r es q : Path) (joined : r ++ es ≡ q) (a c x y promised committed : ℕ) (within : c ≤ length r)
      (promised_is : max a (min x (length q)) ≡ promised) (committed_is : max c (min y (min x (length q))) ≡ committed)
      (within_is : min promised (length q) ≡ promised) where
    abbrev s : Replica
    s = follower me known r a c

    abbrev o : Offer
    o = record { from = 1; prev = whole link r; entries = es; promise = x; commit = y }

    ends : length r + length es ≡ length q
    ends = sym (length-append r es) ∙ ap (λ (w : Path). length w) joined

    hint : refusal_hint (following s 1) None o ≡ None
    hint = λ i. cond (le-ltb (length r) (length r) (omega arith) i) (Some (length r)) (cond (le-ltb (length r + length es) (c - KEPT_BELOW) (omega (arith, within)) i) (Some a) None)

    heard : append_heard link s o ≡ accepts link (grafted (following s 1) None o) o
    heard =
        (λ i. conflict_or_graft link s (same r es a c x y within i) o)
        ∙ (λ i. answered link (following s 1) None o (hint i))

    path_is : take (length r) r ++ drop (length r - length r) es ≡ q
    path_is = (λ i. take_all (length r) r (omega arith) i ++ drop (nothing i) es) ∙ joined
      where
        nothing : length r - length r ≡ 0
        nothing = omega arith

    promise_is : max a (min x (length r + length es)) ≡ promised
    promise_is = (λ i. max a (min x (ends i))) ∙ promised_is

    commit_is : max c (min y (min x (length r + length es))) ≡ committed
    commit_is = (λ i. max c (min y (min x (ends i)))) ∙ committed_is

    base_is : max (c - KEPT_BELOW) (max c (min y (min x (length r + length es))) - KEPT_BELOW) ≡ committed - KEPT_BELOW
    base_is = (λ i. max (c - KEPT_BELOW) (commit_is i - KEPT_BELOW)) ∙ omega (arith, committed_is)

    front_is : take (length r + length es) (take (length r) r ++ drop (length r - length r) es) ≡ q
    front_is = (λ i. take (ends i) (path_is i)) ∙ take_all (length q) q (omega arith)

    told_is : min (max a (min x (length r + length es))) (length r + length es) ≡ promised
    told_is = (λ i. min (promise_is i) (ends i)) ∙ within_is

    pub grafts : Did (step link s (Peer 1 (offer (whole link r) es x y))) (follower me 1 q promised committed) ((1, acceptance (whole link q) promised) ∷ []) []
    grafts =
        did _ (with_sent (with_end link (accepts link (grafted (following s 1) None o) o))) _ _ _ (λ i. with_sent (with_end link (heard i)))
        (record {
          state = λ i. record (follower me 1 (path_is i) (promise_is i) (commit_is i)) { base = base_is i };
          sent = λ i. (1, acceptance (record { index = ends i; hash = chain link (front_is i) }) (told_is i)) ∷ [];
          answers = refl;
          saved = refl;
          halt = refl;
        })

  -- an entry more, of which nothing is promised yet
  pub hears_entry : (p : Path) (e : LogEntry) → Did (step link (follower me known p (length p) (length p)) (Peer 1 (offer (whole link p) (e ∷ []) (length p) (length p)))) (follower me 1 (p ++ e ∷ []) (length p) (length p)) ((1, acceptance (whole link (p ++ e ∷ [])) (length p)) ∷ []) []
  hears_entry p e =
      grafts p (e ∷ []) (p ++ e ∷ []) refl (length p) (length p) (length p) (length p) (length p) (length p) (omega arith)
      (omega (arith, length-append p (e ∷ []))) (omega (arith, length-append p (e ∷ []))) (omega (arith, length-append p (e ∷ [])))

  -- what is promised and committed, where it has the whole path
  pub hears_more : (q : Path) (n : ℕ) (long : length q ≡ n + 1) (pr cm x y : Bool)
      → Did (step link (follower me known q (at q n pr) (at q n cm)) (Peer 1 (offer (whole link q) [] (at q n x) (at q n y))))
      (follower me 1 q (at q n (pr || x)) (at q n (cm || (y && x))))
      ((1, acceptance (whole link q) (at q n (pr || x))) ∷ []) []
  hears_more q n long pr cm x y =
      grafts q [] q (append-nil q) (at q n pr) (at q n cm) (at q n x) (at q n y) (at q n (pr || x)) (at q n (cm || (y && x))) (below_whole q n long cm)
      ((λ i. max (at q n pr) (min_whole q n long x i)) ∙ max_at q n long pr x)
      ((λ i. max (at q n cm) (min (at q n y) (min_whole q n long x i))) ∙ (λ i. max (at q n cm) (min_at q n long y x i)) ∙ max_at q n long cm (y && x))
      (min_whole q n long (pr || x))
