-- A world that keeps a batch goes on standing for the group that does.
use Rattle.std.proofs.Common.{arith, refl, sym, ap, ap₂, ◌∙◌, ◌≡◌, ℕ, zero, suc, ◌+◌, ◌==◌, max, Bool, true, false, cond, ◌&&◌, List, [], ◌∷◌, ◌++◌, length, map, slice_get, option_map, option_to_list, unwrap_or, Vec, Global, length-append}
use Rattle.std.specs.List.{list_all, range_with_len}
use Rattle.std.proofs.lemmas.List.{map-append}
use Rattle.std.proofs.lemmas.List.Folds.{list_all-append}
use Rattle.std.proofs.lemmas.List.Sums.{sum_by-append}
use Rattle.values.specs.declared.batch.Batch.{Batch}
use Rattle.values.specs.declared.ids.ClientId.{ClientId}
use Rattle.values.specs.declared.message.Answer.{Answer}
use Rattle.values.specs.declared.peer.PeerMsg.{PeerMsg}
use Rattle.group_quorum.specs.Conf.{Conf}
use Rattle.group_model.specs.Group.{Answered, Sent, answered_by, bears, committed_in, conf_told, saves_of, sent_by}
use Rattle.group_world.specs.declared.answered.Answered.{Answered as Kept}
use Rattle.group_world.specs.declared.post.Letter.{Letter}
use Rattle.group_world.specs.declared.told.Told.{Told}
use Rattle.group_world.specs.declared.world.World.{World}
use Rattle.group_world.specs.Keeping.{kept_answer, kept_conf, letters_of}
use Rattle.group_world.specs.Meanings.{Meaning, MessageOf, SaysMessage}
use Rattle.group_world.specs.Plays.{Keeps, SayEach}
use Rattle.group_world.specs.Posted.{is_lost, is_lost_in, waiting_from, waiting_in}
use Rattle.group_world.specs.Roster.{IsRoster}
use Rattle.group_world.specs.Standing.{AreKept, AreLetters, conf_in}
use Rattle.group_world.proofs.Waiting.{waiting-append}

-- ---- letters

-- these frames say these messages
abbrev SayAll : {M : Type 0} → ((from to : ℕ) → List ℕ → M → Type 0) → ℕ → List (List ℕ) → List (ℕ × M) → Type 0
SayAll says from [] [] = Unit {0}
SayAll says from [] (s ∷ ss) = ⊥
SayAll says from (f ∷ fs) [] = ⊥
SayAll says from (f ∷ fs) (s ∷ ss) = says from s.0 f s.1 × SayAll says from fs ss

say_all : (m : Meaning) (from : ℕ) (fs : List (List ℕ)) (ss : List (ℕ × MessageOf m)) → SayEach m from fs ss → SayAll (SaysMessage m) from fs ss
say_all m from [] [] h = tt
say_all m from [] (s ∷ ss) h = absurd h
say_all m from (f ∷ fs) [] h = absurd h
say_all m from (f ∷ fs) (s ∷ ss) h = (h.0, say_all m from fs ss h.1)

pub letters_length : {M : Type 0} (says : (from to : ℕ) → List ℕ → M → Type 0) (ls : List Letter) (ss : List (Sent M)) → AreLetters says ls ss → length ls ≡ length ss
letters_length says [] [] h = refl
letters_length says [] (s ∷ ss) h = absurd h
letters_length says (l ∷ ls) [] h = absurd h
letters_length says (l ∷ ls) (s ∷ ss) h = ap suc (letters_length says ls ss h.1)

head_same : (x y : ℕ) (xs ys : List ℕ) → x ∷ xs ≡ y ∷ ys → x ≡ y
head_same x y xs ys is = cc is

tail_same : (x y : ℕ) (xs ys : List ℕ) → x ∷ xs ≡ y ∷ ys → xs ≡ ys
tail_same x y xs ys is = cc is

module _ {M : Type 0} (says : (from to : ℕ) → List ℕ → M → Type 0) where
  letters-append : (ls ms : List Letter) (ss ts : List (Sent M)) → AreLetters says ls ss → AreLetters says ms ts → AreLetters says (ls ++ ms) (ss ++ ts)
  letters-append [] ms [] ts h later = later
  letters-append [] ms (s ∷ ss) ts h later = absurd h
  letters-append (l ∷ ls) ms [] ts h later = absurd h
  letters-append (l ∷ ls) ms (s ∷ ss) ts h later = (h.0, letters-append ls ms ss ts h.1 later)

  module _ (r : ℕ) where
    letters_are : (bs : List (ℕ × PeerMsg)) (fs : List (List ℕ)) (ss : List (ℕ × M)) → map (λ (s : ℕ × PeerMsg). s.0) bs ≡ map (λ (s : ℕ × M). s.0) ss → SayAll says r fs ss
        → AreLetters says (letters_of r bs fs) (map (sent_by r) ss)
    letters_are [] fs [] to h = tt
    letters_are [] fs (s ∷ ss) to h = absurd cc
    letters_are (b ∷ bs) fs [] to h = absurd cc
    letters_are (b ∷ bs) [] (s ∷ ss) to h = absurd h
    letters_are (b ∷ bs) (f ∷ fs) (s ∷ ss) to h = (record { from = refl; to = head_same b.0 s.0 (map (λ (s : ℕ × PeerMsg). s.0) bs) (map (λ (s : ℕ × M). s.0) ss) to; says_it = h.0 }, letters_are bs fs ss (tail_same b.0 s.0 (map (λ (s : ℕ × PeerMsg). s.0) bs) (map (λ (s : ℕ × M). s.0) ss) to) h.1)

    -- they all wait
    letters_wait : (n : ℕ) (bs : List (ℕ × PeerMsg)) (fs : List (List ℕ)) (ss : List (ℕ × M)) → map (λ (s : ℕ × PeerMsg). s.0) bs ≡ map (λ (s : ℕ × M). s.0) ss → SayAll says r fs ss
        → waiting_from n (letters_of r bs fs) ≡ range_with_len n (length ss)
    letters_wait n [] fs [] to h = refl
    letters_wait n [] fs (s ∷ ss) to h = absurd cc
    letters_wait n (b ∷ bs) fs [] to h = absurd cc
    letters_wait n (b ∷ bs) [] (s ∷ ss) to h = absurd h
    letters_wait n (b ∷ bs) (f ∷ fs) (s ∷ ss) to h = ap (λ (ks : List ℕ). n ∷ ks) (letters_wait (n + 1) bs fs ss (tail_same b.0 s.0 (map (λ (s : ℕ × PeerMsg). s.0) bs) (map (λ (s : ℕ × M). s.0) ss) to) h.1)

lost_at : (r i : ℕ) (bs : List (ℕ × PeerMsg)) (fs : List (List ℕ)) → unwrap_or (option_map (λ (l : Letter). is_lost l.fate) (slice_get (letters_of r bs fs) i)) false ≡ false
lost_at r i [] fs = refl
lost_at r i (b ∷ bs) [] = refl
lost_at r zero (b ∷ bs) (f ∷ fs) = refl
lost_at r (suc i) (b ∷ bs) (f ∷ fs) = lost_at r i bs fs

-- none of them is lost
lost_same : (r i : ℕ) (ls : List Letter) (bs : List (ℕ × PeerMsg)) (fs : List (List ℕ))
    → unwrap_or (option_map (λ (l : Letter). is_lost l.fate) (slice_get (ls ++ letters_of r bs fs) i)) false ≡ unwrap_or (option_map (λ (l : Letter). is_lost l.fate) (slice_get ls i)) false
lost_same r i [] bs fs = lost_at r i bs fs
lost_same r zero (l ∷ ls) bs fs = refl
lost_same r (suc i) (l ∷ ls) bs fs = lost_same r i ls bs fs

still_lost : (r k : ℕ) (ls : List Letter) (bs : List (ℕ × PeerMsg)) (fs : List (List ℕ)) → is_lost_in (ls ++ letters_of r bs fs) k ≡ is_lost_in ls k
still_lost r zero ls bs fs = refl
still_lost r (suc k) ls bs fs = lost_same r k ls bs fs

-- ---- answers, configurations and saved states

kept-append : (ks : List Kept) (all : List Answered) (r : ℕ) (given : List (ClientId × ℕ × Answer)) → AreKept ks all → AreKept (ks ++ map kept_answer given) (all ++ map (answered_by r) given)
kept-append [] [] r [] h = tt
kept-append [] [] r (a ∷ given) h = (record { client = refl; number = refl; answer = refl }, kept-append [] [] r given tt)
kept-append [] (a ∷ all) r given h = absurd h
kept-append (k ∷ ks) [] r given h = absurd h
kept-append (k ∷ ks) (a ∷ all) r given h = (h.0, kept-append ks all r given h.1)

told_same : (members : List (ℕ × ℕ × List ℕ)) → map conf_in (map kept_conf members) ≡ map conf_told members
told_same [] = refl
told_same (m ∷ members) = ap (λ (r : List Conf). conf_told m ∷ r) (told_same members)

and_swap : (a b : Bool) → (a && b) ≡ (b && a)
and_swap true true = refl
and_swap true false = refl
and_swap false true = refl
and_swap false false = refl

confs-append : (p : Conf → Bool) (told : List Told) (confs : List Conf) (members : List (ℕ × ℕ × List ℕ)) → list_all p (map conf_in told) ≡ list_all p confs
    → list_all p (map conf_in (told ++ map kept_conf members)) ≡ list_all p (map conf_told members ++ confs)
confs-append p told confs members same =
    ap (list_all p) (map-append conf_in told (map kept_conf members) ∙ ap (λ (r : List Conf). map conf_in told ++ r) (told_same members))
    ∙ list_all-append p (map conf_in told) (map conf_told members) ∙ ap (λ (b : Bool). b && list_all p (map conf_told members)) same
    ∙ and_swap (list_all p confs) (list_all p (map conf_told members)) ∙ sym (list_all-append p (map conf_told members) confs)

saves-append : (v : ℕ) (saves all more : List ℕ) → saves_of saves v ≡ saves_of all v → saves_of (saves ++ more) v ≡ saves_of (more ++ all) v
saves-append v saves all more same =
    let one : ℕ → ℕ = λ x. cond (x == v) 1 0 in
    sum_by-append one saves more ∙ omega (arith, same) ∙ sym (sum_by-append one more all)

count-append : (saves all more : List ℕ) → length saves ≡ length all → length (saves ++ more) ≡ length (more ++ all)
count-append saves all more same = length-append saves more ∙ omega (arith, same) ∙ sym (length-append more all)

-- ---- the world

module _ (w : World) (r : ℕ) (batch : Batch) (frames : List (List ℕ)) (post : List Letter) (answers : Vec Kept Global) (saves : Vec ℕ Global) (confs : Vec Told Global) (committed : ℕ) (roster : IsRoster w.begun w.running.items w.started.items) where
  pub batch_kept : post ≡ w.post ++ letters_of r batch.sent frames → answers.items ≡ w.answers.items ++ map kept_answer batch.answers
      → saves.items ≡ w.saves.items ++ map (λ (k : ℕ). r) (option_to_list batch.saved) → confs.items ≡ w.confs.items ++ map kept_conf batch.members
      → committed ≡ max w.committed (committed_in batch) → Keeps w (record w { post = post; answers = answers; saves = saves; confs = confs; committed = committed; roster = roster }) r batch frames
  batch_kept posted answered saved told most = λ m g sent f h are.
      let says = SaysMessage m in
      let each = say_all m r frames sent are.says in
      let long = letters_length says w.post g.messages h.letters in
      record {
        begun = h.begun;
        running = h.running;
        started = h.started;
        started_count = h.started_count;
        letters = rw posted (letters-append says w.post (letters_of r batch.sent frames) g.messages (map (sent_by r) sent) h.letters (letters_are says r batch.sent frames sent are.to each));
        lost = λ k. ap (λ (ls : List Letter). is_lost_in ls k) posted ∙ still_lost r k w.post batch.sent frames ∙ h.lost k;
        waiting = ap waiting_in posted ∙ waiting-append 1 w.post (letters_of r batch.sent frames)
            ∙ ap₂ (λ (a b : List ℕ). a ++ b) h.waiting
            (letters_wait says r (1 + length w.post) batch.sent frames sent are.to each ∙ ap (λ (n : ℕ). range_with_len n (length sent)) (omega (arith, long)));
        answers = rw answered (kept-append w.answers.items g.answers r batch.answers h.answers);
        cores = h.cores;
        core_count = h.core_count;
        saves = λ v. ap (λ (s : List ℕ). saves_of s v) saved ∙ saves-append v w.saves.items g.saves (map (λ (k : ℕ). r) (option_to_list batch.saved)) (h.saves v);
        save_count = ap length saved ∙ count-append w.saves.items g.saves (map (λ (k : ℕ). r) (option_to_list batch.saved)) h.save_count;
        rolled = h.rolled;
        confs = λ rolled. ap (λ (c : List Told). list_all (bears rolled) (map conf_in c)) told ∙ confs-append (bears rolled) w.confs.items g.confs batch.members (h.confs rolled);
        committed = most ∙ ap (λ (n : ℕ). max n (committed_in batch)) h.committed;
        events = h.events;
      }
