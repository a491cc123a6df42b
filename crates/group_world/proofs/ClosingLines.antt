-- The closing lines of a world are those of each group that it stands for.
use Rattle.std.proofs.Common.{refl, sym, ap, ◌∙◌, ◌≡◌, ℕ, suc, ◌*◌, Bool, List, [], ◌∷◌, ◌++◌, length}
use Rattle.std.specs.Prelude.{count_by, nat_le}
use Rattle.std.specs.List.{list_all}
use Rattle.std.proofs.lemmas.List.Folds.{list_all-map}
use Rattle.group_quorum.specs.Conf.{Conf}
use Rattle.group_quorum.specs.Voters.{is_in}
use Rattle.schedule_model.specs.Lines.{closing_lines, lines_text}
use Rattle.group_model.specs.Group.{Group, Answered, Sent, bears, is_within}
use Rattle.trace_model.specs.Trace.{Playing, closing}
use Rattle.group_world.specs.declared.answered.Answered.{Answered as Kept}
use Rattle.group_world.specs.declared.post.Letter.{Letter}
use Rattle.group_world.specs.declared.told.Told.{Told}
use Rattle.group_world.specs.declared.world.World.{World}
use Rattle.group_world.specs.Closing.{closing_of}
use Rattle.group_world.specs.Standing.{AreKept, AreLetters, IsWorld, conf_in}

pub as_many_letters : {M : Type 0} (says : (from to : ℕ) → List ℕ → M → Type 0) (ls : List Letter) (ss : List (Sent M)) → AreLetters says ls ss → length ls ≡ length ss
as_many_letters says [] [] are = refl
as_many_letters says [] (s ∷ ss) are = absurd are
as_many_letters says (l ∷ ls) [] are = absurd are
as_many_letters says (l ∷ ls) (s ∷ ss) are = ap suc (as_many_letters says ls ss are.1)

pub as_many_answers : (ks : List Kept) (gs : List Answered) → AreKept ks gs → length ks ≡ length gs
as_many_answers [] [] are = refl
as_many_answers [] (g ∷ gs) are = absurd are
as_many_answers (k ∷ ks) [] are = absurd are
as_many_answers (k ∷ ks) (g ∷ gs) are = ap suc (as_many_answers ks gs are.1)

bears_alike : (xs ys : List ℕ) → ((v : ℕ) → is_in xs v ≡ is_in ys v) → (cs : List Conf) → list_all (bears xs) cs ≡ list_all (bears ys) cs
bears_alike xs ys alike cs = λ i. list_all (λ (c : Conf). nat_le (count_by (λ (v : ℕ). alike v i) c.voters) (2 * c.margin)) cs

pub within_same : {M F : Type 0} (says : (from to : ℕ) → List ℕ → M → Type 0) (w : World) (g : Group M F) → IsWorld says w g → list_all (λ (told : Told). bears w.rolled.items (conf_in told)) w.confs.items ≡ is_within g
within_same says w g stands = sym (list_all-map (bears w.rolled.items) conf_in w.confs.items) ∙ stands.confs w.rolled.items ∙ bears_alike w.rolled.items g.rolled stands.rolled g.confs

module _ {M F : Type 0} (says : (from to : ℕ) → List ℕ → M → Type 0) (w : World) (p : Playing M F) (stands : IsWorld says w p.group) where
  -- the closing lines of the world are those of the playing
  pub closing_same : closing p ≡ closing_of w
  closing_same = λ i.
      lines_text (closing_lines (sym stands.committed i) (sym (within_same says w p.group stands) i) (sym stands.events i) (sym (as_many_letters says w.post p.group.messages stands.letters) i) (sym (as_many_answers w.answers.items p.group.answers stands.answers) i))

-- a text that ends with lines by what the world has
pub closing_text : (w : World) (text before : List ℕ) (b : Bool) (messages answers : ℕ) → text ≡ before ++ lines_text (closing_lines w.committed b w.events messages answers)
    → b ≡ list_all (λ (told : Told). bears w.rolled.items (conf_in told)) w.confs.items → messages ≡ length w.post → answers ≡ length w.answers.items → text ≡ before ++ closing_of w
closing_text w text before b messages answers is by_bounds by_post by_answers = is ∙ (λ i. before ++ lines_text (closing_lines w.committed (by_bounds i) w.events (by_post i) (by_answers i)))
