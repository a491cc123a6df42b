-- Players that ask for nothing themselves: their state alone says which course they take.
use Rattle.std.specs.Prelude.{ℕ, ◌≡◌, refl, ⊤, true, List, [], ◌++◌, fold, Result, Err}
use Rattle.std.proofs.Common.{ap, ap₂, append-nil, subst, sym, ◌∙◌}
use Rattle.record_cutting.specs.Lines.{Record}
use Rattle.record_stream.specs.Course.{Advances, Closes, Course, Cuts, Goes, Halts, IsHistory, Outlook, PlaysTo, Stops}
use Rattle.record_stream.specs.declared.player.Stop.{Stop}
use Rattle.record_stream.specs.declared.player.Stop.TheVariants as stop

-- their state is the one way that they take
abbrev pub one_way : {S : Type 0} → S → Outlook S ⊤
one_way p fails given w = w ≡ p

-- and are answered nothing
abbrev pub none_asked : {S : Type 0} → S → S → List ⊤ → Type 0
none_asked p q given = given ≡ []

pub none_asked_history : {S : Type 0} → IsHistory (none_asked {S = S})
none_asked_history = record { none = λ p. refl; then = λ p q r gs hs g h. ap₂ (λ (gs hs : List ⊤). gs ++ hs) g h }

-- what became of records on that way
module _ {S R : Type 0} (course : S → Course R) (step : S → Record → S) where
  pub advances_alone : (p q : S) (rs : List Record) (t : List ℕ) → Goes (course p) rs (course q) t → q ≡ fold step p rs → Advances none_asked one_way course step p rs q t
  advances_alone p q rs t g to = record {
    given = [];
    gained = refl;
    goes = λ fails later w is. (subst (λ (w : S). Goes (course w) rs (course (fold step w rs)) t) (sym is) (subst (λ (v : S). Goes (course p) rs (course v) t) to g), ap (λ (w : S). fold step w rs) is ∙ sym to);
  }

  pub halts_alone : (p q : S) (rs : List Record) (why : R) (t : List ℕ) → Stops (course p) rs why t → Halts none_asked one_way course step p rs q why t
  halts_alone p q rs why t h = record { given = []; gained = refl; stops = λ w is. subst (λ (w : S). Stops (course w) rs why t) (sym is) h }

  pub cuts_alone : (p q : S) (rs : List Record) → Cuts none_asked one_way course step p rs q []
  cuts_alone p q rs = record { given = []; gained = refl; begins = λ w is. record { text = λ closed more here. ((course w).text closed (rs ++ more), refl) } }

  -- want of memory, with the lines as they were
  pub kept_alone : {T : Type 0} (p q : S) (rs : List Record) (old new : List ℕ) (r : Result T (Stop R)) → r ≡ Err stop.Memory → new ≡ old → PlaysTo none_asked one_way course step p rs q old new r
  kept_alone {T = T} p q rs old new r is same =
      subst (λ (r : Result T (Stop R)). PlaysTo none_asked one_way course step p rs q old new r) (sym is) ([], cuts_alone p q rs, same ∙ sym (append-nil old))

  pub closes_alone : (p : S) → Closes none_asked one_way course step p ((course p).text true [])
  closes_alone p = record { text_is = λ fails w is here. ap (λ (w : S). (course w).text true []) is }
