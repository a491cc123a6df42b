use Rattle.std.proofs.Common.{◌≡◌, ℕ, ◌+◌, true, false, Option, Some, None, inl, inr, ◌∷◌, drop, refl, sym, ap, ◌∙◌, arith}
use Rattle.std.proofs.lemmas.List.{drop_more}
use Rattle.std.specs.Option.{is_some}
use Rattle.values.specs.declared.entry.LogEntry.{LogEntry}
use Rattle.values.specs.declared.entry.Point.{Point}
use Rattle.replica_model.specs.Path.{Path}
use Rattle.replica_model.specs.Linked.{sha_link}
use Rattle.replica_model.specs.Graft.{differing, points_from}
use Rattle.replica_log.specs.Window.{Window, hash_at, last_index}
use Rattle.replica_log.specs.Grafting.{first_differing}
use Rattle.replica_log.proofs.Grafts.{turn, stop, at_last}
use Rattle.replica_log.proofs.log.Log.find_difference.Goals as goal

none_left : {A : Type 0} (o : Option A) → is_some o ≡ false → o ≡ None
none_left None is = refl
none_left (Some x) is = absurd (let no : true ≡ false = is in cc)

some_there : {A : Type 0} (o : Option A) → is_some o ≡ true → (x : A) × (o ≡ Some x)
some_there None is = absurd (let no : false ≡ true = is in cc)
some_there (Some x) is = (x, refl)

pub loop-entry-preserved : goal.loop-entry-preserved
loop-entry-preserved c =
    let w : Window = c.args.self.now in
    let p : Path = c.args.entries.now in
    let i : ℕ = c.loop-entry.entry-index in
    let before : Point = c.loop-entry.offered in
    let e : LogEntry = c.entry-item.result in
    let next : c.next_offered-offered.result ≡ record { index = before.index + 1; hash = sha_link before.hash (before.index + 1) e } = c.next_offered-offered.ensures in
    let none : differing (hash_at sha_link w before.index) before None ≡ None =
    sym c.loop-entry.invariant.found ∙ none_left c.loop-entry.found (sym c.is_some.ensures ∙ c.if-is_some.false) in
    let more : drop i p ≡ e ∷ drop (i + 1) p = drop_more p i e c.loop-entry-test.true ∙ ap (λ x. x ∷ drop (i + 1) p) (sym c.entry-item.is) in
    record {
      place = ap (λ (q : Point). q.index) next ∙ (let place = c.loop-entry.invariant.place in omega arith);
      found = c.differing-found-in-loop-entry.ensures;
      rest =
          c.loop-entry.invariant.rest
          ∙ (ap (λ q. first_differing (hash_at sha_link w) (points_from sha_link before.index before.hash q)) more
          ∙ (turn sha_link w before.index before.hash e (drop (i + 1) p) none
          ∙ ap (λ (q : Point). first_differing (hash_at sha_link w) (points_from sha_link q.index q.hash (drop (i + 1) p))) (sym next)));
    }

pub returns-then-is_some : goal.returns-then-is_some
returns-then-is_some c =
    let w : Window = c.args.self.now in
    let p : Path = drop c.loop-entry.entry-index c.args.entries.now in
    let before : Point = c.loop-entry.offered in
    let is : c.loop-entry.found ≡ differing (hash_at sha_link w before.index) before None = c.loop-entry.invariant.found in
    elim c.then-is_some.either [
      | inl found ↦
          let it = some_there c.loop-entry.found (sym c.is_some.ensures ∙ found) in
          it.1 ∙ sym (c.loop-entry.invariant.rest ∙ stop sha_link w before.index before.hash p it.0 (sym is ∙ it.1))
      | inr past ↦
          let last : c.last-last.result.index ≡ last_index w = ap (λ (q : Point). q.index) c.last-last.ensures.last in
          is ∙ sym (c.loop-entry.invariant.rest ∙ at_last sha_link w before.index before.hash p (omega (arith, past.1)))
    ]
