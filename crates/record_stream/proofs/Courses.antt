-- Courses over records in two parts, and players over them.
use Rattle.std.proofs.Common.{refl, sym, ap, subst, ◌∙◌, ◌≡◌, ℕ, List, [], ◌∷◌, ◌++◌, length, take, drop, fold, Bool, true, false, Result, Ok, Err, append_assoc, append-nil, take-append-drop}
use Rattle.std.proofs.lemmas.List.Sums.{fold-append}
use Rattle.record_cutting.specs.Lines.{Record}
use Rattle.record_stream.specs.Course.{Course, Goes, Stops, Begins, Breaks, Outlook, IsHistory, Advances, Cuts, Grows, PlaysTo}
use Rattle.record_stream.specs.declared.player.Stop.{Stop}
use Rattle.record_stream.specs.declared.player.Stop.TheVariants as stop

-- ---- lines that grow

pub grows_none : (x : List ℕ) → Grows x x []
grows_none x = sym (append-nil x)

pub grows_then : (x y z s t : List ℕ) → Grows x y s → Grows y z t → Grows x z (s ++ t)
grows_then x y z s t h k = k ∙ ap (λ (l : List ℕ). l ++ t) h ∙ append_assoc x s t

-- ---- courses

-- a course that holds of records in two parts and then others
apart : {R : Type 0} (a : Course R) (rs qs more : List Record) → a.holds ((rs ++ qs) ++ more) → a.holds (rs ++ (qs ++ more))
apart a rs qs more here = subst a.holds (append_assoc rs qs more) here

pub goes_none : {R : Type 0} (a : Course R) → Goes a [] a []
goes_none a = record { holds = λ more here. here; text = λ closed more here. refl; reason = λ more here. refl; failed = λ more here. refl; takes_all = λ more here. refl }

pub goes_then : {R : Type 0} (a b c : Course R) (rs qs : List Record) (s t : List ℕ) → Goes a rs b s → Goes b qs c t → Goes a (rs ++ qs) c (s ++ t)
goes_then a b c rs qs s t g h = record {
  holds = λ more here. h.holds more (g.holds (qs ++ more) (apart a rs qs more here));
  text = λ closed more here.
      let first = apart a rs qs more here in
      rw (append_assoc rs qs more, g.text closed (qs ++ more) first, h.text closed more (g.holds (qs ++ more) first)) (sym (append_assoc s t (c.text closed more)));
  reason = λ more here.
      let first = apart a rs qs more here in
      rw (append_assoc rs qs more, g.reason (qs ++ more) first) (h.reason more (g.holds (qs ++ more) first));
  failed = λ more here.
      let first = apart a rs qs more here in
      rw (append_assoc rs qs more, g.failed (qs ++ more) first) (h.failed more (g.holds (qs ++ more) first));
  takes_all = λ more here.
      let first = apart a rs qs more here in
      rw (append_assoc rs qs more, g.takes_all (qs ++ more) first) (h.takes_all more (g.holds (qs ++ more) first));
}

pub stops_then : {R : Type 0} (a b : Course R) (rs qs : List Record) (why : R) (s t : List ℕ) → Goes a rs b s → Stops b qs why t → Stops a (rs ++ qs) why (s ++ t)
stops_then a b rs qs why s t g h = record {
  text = λ closed more here.
      let first = apart a rs qs more here in
      rw (append_assoc rs qs more, g.text closed (qs ++ more) first, h.text closed more (g.holds (qs ++ more) first)) refl;
  reason = λ more here.
      let first = apart a rs qs more here in
      rw (append_assoc rs qs more, g.reason (qs ++ more) first) (h.reason more (g.holds (qs ++ more) first));
  takes_all = λ more here.
      let first = apart a rs qs more here in
      rw (append_assoc rs qs more, g.takes_all (qs ++ more) first) (h.takes_all more (g.holds (qs ++ more) first));
}

pub begins_then : {R : Type 0} (a b : Course R) (rs qs : List Record) (s t : List ℕ) → Goes a rs b s → Begins b qs t → Begins a (rs ++ qs) (s ++ t)
begins_then a b rs qs s t g h = record {
  text = λ closed more here.
      let first = apart a rs qs more here in
      let (rest, e) = h.text closed more (g.holds (qs ++ more) first) in
      (rest, rw (append_assoc rs qs more, g.text closed (qs ++ more) first, e) (sym (append_assoc s t rest)));
}

stops_more : {R : Type 0} (a : Course R) (rs qs : List Record) (why : R) (t : List ℕ) → Stops a rs why t → Stops a (rs ++ qs) why t
stops_more a rs qs why t h = record {
  text = λ closed more here. rw (append_assoc rs qs more) (h.text closed (qs ++ more) (apart a rs qs more here));
  reason = λ more here. rw (append_assoc rs qs more) (h.reason (qs ++ more) (apart a rs qs more here));
  takes_all = λ more here. rw (append_assoc rs qs more) (h.takes_all (qs ++ more) (apart a rs qs more here));
}

begins_more : {R : Type 0} (a : Course R) (rs qs : List Record) (t : List ℕ) → Begins a rs t → Begins a (rs ++ qs) t
begins_more a rs qs t h = record { text = λ closed more here. rw (append_assoc rs qs more) (h.text closed (qs ++ more) (apart a rs qs more here)) }

breaks_more : {R : Type 0} (a : Course R) (rs qs : List Record) (t : List ℕ) → Breaks a rs t → Breaks a (rs ++ qs) t
breaks_more a rs qs t h = record {
  text = λ closed more here. rw (append_assoc rs qs more) (h.text closed (qs ++ more) (apart a rs qs more here));
  failed = λ more here. rw (append_assoc rs qs more) (h.failed (qs ++ more) (apart a rs qs more here));
}

-- first bytes of a text with which another begins
pub begins_take : {R : Type 0} (a : Course R) (rs : List Record) (t : List ℕ) (n : ℕ) → Begins a rs t → Begins a rs (take n t)
begins_take a rs t n h = record {
  text = λ closed more here.
      let (rest, e) = h.text closed more here in
      (drop n t ++ rest, e ∙ ap (λ (l : List ℕ). l ++ rest) (sym (take-append-drop n t)) ∙ append_assoc (take n t) (drop n t) rest);
}

pub breaks_then : {R : Type 0} (a b : Course R) (rs qs : List Record) (s t : List ℕ) → Goes a rs b s → Breaks b qs t → Breaks a (rs ++ qs) (s ++ t)
breaks_then a b rs qs s t g h = record {
  text = λ closed more here.
      let first = apart a rs qs more here in
      rw (append_assoc rs qs more, g.text closed (qs ++ more) first, h.text closed more (g.holds (qs ++ more) first)) refl;
  failed = λ more here.
      let first = apart a rs qs more here in
      rw (append_assoc rs qs more, g.failed (qs ++ more) first) (h.failed more (g.holds (qs ++ more) first));
}

-- what was written for the first records, before any others
begins_with : {R : Type 0} (a b : Course R) (rs qs : List Record) (t : List ℕ) → Goes a rs b t → Begins a (rs ++ qs) t
begins_with a b rs qs t g = record {
  text = λ closed more here. (b.text closed (qs ++ more), rw (append_assoc rs qs more) (g.text closed (qs ++ more) (apart a rs qs more here)));
}

begins_all : {R : Type 0} (a b : Course R) (rs : List Record) (t : List ℕ) → Goes a rs b t → Begins a rs t
begins_all a b rs t g = record { text = λ closed more here. (b.text closed more, g.text closed more here) }

pub empty_is : (xs : List ℕ) → length xs ≡ 0 → xs ≡ []
empty_is [] e = refl
empty_is (x ∷ xs) e = cc e

-- ---- a player, by what it got between two states and which ways it may take

module _ {S R W G : Type 0} (gains : S → S → List G → Type 0) (takes : S → Outlook W G) (course : W → Course R) (step : W → Record → W) where
  -- no more answers come than these
  pub taken_all : (p : S) (fails : Bool) (given : List G) (w : W) → takes p fails given w → takes p fails (given ++ []) w
  taken_all p fails given w taken = subst (λ (gs : List G). takes p fails gs w) (sym (append-nil given)) taken

  pub cuts_with : (p q : S) (rs qs : List Record) (t : List ℕ) → Advances gains takes course step p rs q t → Cuts gains takes course step p (rs ++ qs) q t
  cuts_with p q rs qs t g = record {
    given = g.given;
    gained = g.gained;
    begins = λ w taken. let v = fold step w rs in let (goes, next) = g.goes false [] w (taken_all p false g.given w taken) in begins_with (course w) (course v) rs qs t goes;
  }

  pub cuts_all : (p q : S) (rs : List Record) (t : List ℕ) → Advances gains takes course step p rs q t → Cuts gains takes course step p rs q t
  cuts_all p q rs t g = record {
    given = g.given;
    gained = g.gained;
    begins = λ w taken. let v = fold step w rs in let (goes, next) = g.goes false [] w (taken_all p false g.given w taken) in begins_all (course w) (course v) rs t goes;
  }

  -- whatever became of records, the lines are first bytes of their text
  pub lines_begin : {T : Type 0} (p q : S) (rs : List Record) (lines : List ℕ) (o : Result T (Stop R)) → PlaysTo gains takes course step p rs q [] lines o → Cuts gains takes course step p rs q lines
  lines_begin p q rs lines (Ok done) (t, k, l) = rw l (cuts_all p q rs t k)
  lines_begin p q rs lines (Err (stop.Stopped why)) (t, k, l) = rw l (record {
    given = k.given;
    gained = k.gained;
    begins = λ w taken. record { text = λ closed more here. let stops = k.stops w taken in ([], stops.text closed more here ∙ sym (append-nil t)) };
  })
  lines_begin p q rs lines (Err stop.Memory) (t, k, l) = rw l k
  lines_begin p q rs lines (Err stop.Failed) (t, k, l) = rw l (record { given = k.given; gained = k.gained; begins = k.begins })

  stopped_in : {U : Type 0} (T : Type 0) (p q : S) (rs qs : List Record) (x y : List ℕ) (e : Stop R) (r : Result U (Stop R)) → r ≡ Err e
      → PlaysTo gains takes course step {T = T} p rs q x y (Err e) → PlaysTo gains takes course step p (rs ++ qs) q x y r
  stopped_in T p q rs qs x y (stop.Stopped why) r is (t, k, l) =
      rw is (t, record { given = k.given; gained = k.gained; stops = λ w taken. stops_more (course w) rs qs why t (k.stops w taken) }, l)
  stopped_in T p q rs qs x y stop.Memory r is (t, k, l) =
      rw is (t, record { given = k.given; gained = k.gained; begins = λ w taken. begins_more (course w) rs qs t (k.begins w taken) }, l)
  stopped_in T p q rs qs x y stop.Failed r is (t, k, l) =
      rw is (
        t,
        record {
          given = k.given;
          gained = k.gained;
          breaks = λ w taken. breaks_more (course w) rs qs t (k.breaks w taken);
          begins = λ w taken. begins_more (course w) rs qs t (k.begins w taken);
        },
        l,
      )

  -- what stopped in some records stops in more
  pub stops_in : {T U : Type 0} (p q : S) (rs qs : List Record) (x y : List ℕ) (e : Stop R) (o : Result T (Stop R)) (r : Result U (Stop R))
      → o ≡ Err e → r ≡ Err e → PlaysTo gains takes course step p rs q x y o → PlaysTo gains takes course step p (rs ++ qs) q x y r
  stops_in {T = T} p q rs qs x y e o r was is h = stopped_in T p q rs qs x y e r is (rw was at h)

  module _ (history : IsHistory gains) where
    -- nothing was written
    pub nothing_plays : (p : S) (rs : List Record) (x : List ℕ) → (written : List ℕ) × Cuts gains takes course step p rs p written × Grows x x written
    nothing_plays p rs x = (
      [],
      record {
        given = [];
        gained = history.none p;
        begins = λ w taken. record { text = λ closed more here. ((course w).text closed (rs ++ more), refl) };
      },
      grows_none x,
    )

    -- no records
    pub none_plays : (p : S) (rs : List Record) (x : List ℕ) → rs ≡ [] → (written : List ℕ) × Advances gains takes course step p rs p written × Grows x x written
    none_plays p rs x none =
        ([], rw none (record { given = []; gained = history.none p; goes = λ fails later w taken. (goes_none (course w), taken) }), grows_none x)

    pub advances_none : (p : S) → Advances gains takes course step p [] p []
    advances_none p = record { given = []; gained = history.none p; goes = λ fails later w taken. (goes_none (course w), taken) }

    pub advances_then : (p q r : S) (rs qs : List Record) (s t : List ℕ) → Advances gains takes course step p rs q s → Advances gains takes course step q qs r t → Advances gains takes course step p (rs ++ qs) r (s ++ t)
    advances_then p q r rs qs s t g h = record {
      given = g.given ++ h.given;
      gained = history.then p q r g.given h.given g.gained h.gained;
      goes = λ fails later w taken.
          let v = fold step w rs in
          let (first, next) = g.goes fails (h.given ++ later) w (subst (λ (gs : List G). takes p fails gs w) (append_assoc g.given h.given later) taken) in
          let (second, last) = h.goes fails later v next in
          let same = sym (fold-append step w rs qs) in (
            subst (λ (u : W). Goes (course w) (rs ++ qs) (course u) (s ++ t)) same (goes_then (course w) (course v) (course (fold step v qs)) rs qs s t first second),
            subst (takes r fails later) same last,
          );
    }

    -- records after some that were played
    pub plays_then : {T : Type 0} (p q r : S) (rs qs : List Record) (s : List ℕ) (x y z : List ℕ) (o : Result T (Stop R))
        → Advances gains takes course step p rs q s → Grows x y s → PlaysTo gains takes course step q qs r y z o → PlaysTo gains takes course step p (rs ++ qs) r x z o
    plays_then p q r rs qs s x y z (Ok done) g h (t, k, l) = (s ++ t, advances_then p q r rs qs s t g k, grows_then x y z s t h l)
    plays_then p q r rs qs s x y z (Err (stop.Stopped why)) g h (t, k, l) = (
      s ++ t,
      record {
        given = g.given ++ k.given;
        gained = history.then p q r g.given k.given g.gained k.gained;
        stops = λ w taken. let v = fold step w rs in let (goes, next) = g.goes false k.given w taken in stops_then (course w) (course v) rs qs why s t goes (k.stops v next);
      },
      grows_then x y z s t h l,
    )
    plays_then p q r rs qs s x y z (Err stop.Memory) g h (t, k, l) = (
      s ++ t,
      record {
        given = g.given ++ k.given;
        gained = history.then p q r g.given k.given g.gained k.gained;
        begins = λ w taken. let v = fold step w rs in let (goes, next) = g.goes false k.given w taken in begins_then (course w) (course v) rs qs s t goes (k.begins v next);
      },
      grows_then x y z s t h l,
    )
    plays_then p q r rs qs s x y z (Err stop.Failed) g h (t, k, l) = (
      s ++ t,
      record {
        given = g.given ++ k.given;
        gained = history.then p q r g.given k.given g.gained k.gained;
        breaks = λ w taken. let v = fold step w rs in let (goes, next) = g.goes true k.given w taken in breaks_then (course w) (course v) rs qs s t goes (k.breaks v next);
        begins = λ w taken. let v = fold step w rs in let (goes, next) = g.goes false k.given w taken in begins_then (course w) (course v) rs qs s t goes (k.begins v next);
      },
      grows_then x y z s t h l,
    )
