-- Parts of a path's table make that table whole.
use Rattle.std.proofs.Common.{◌≡◌, ℕ, ◌+◌, ◌*◌, ◌≤◌, Bool, true, false, cond, List, ◌++◌, length, take, drop, refl, sym, ap, subst, ◌∙◌, arith}
use Rattle.std.specs.Prelude.{Option, Some, None, ◌==◌, fold}
use Rattle.std.proofs.lemmas.Bool.{eqb-true, eqb-false}
use Rattle.std.proofs.lemmas.List.{take_all}
use Rattle.std.proofs.Math.Seq.{take-add}
use Rattle.values.specs.declared.row.Row.{Row}
use Rattle.values.specs.declared.peer.TablePart.{TablePart}
use Rattle.record_rules.specs.Table.{empty_table, row_added}
use Rattle.replica_model.specs.Path.{Link, Path, same_point}
use Rattle.replica_model.specs.Folds.{fold_of}
use Rattle.replica_model.specs.Replica.{Named, Taking}
use Rattle.replica_model.specs.Tables.{rows_of, parts_of, rows_in_part, IsTruePart, point_taken, is_taken, taken_with}
use Rattle.table_transfer.specs.declared.taking.TakePart.{TakePart}
use Rattle.table_transfer.specs.declared.taking.TakePart.TheVariants.{Taken, Whole, Other}
use Rattle.table_transfer.specs.TakenParts.{TakenParts, expected_point, expected_next, is_expected, begun_by, before_part, with_part, table_of, take_part}
use Rattle.table_transfer.specs.Taken.{TakesPartsOf, GoesOn, TakesAs}
use Rattle.table_transfer.proofs.Counts.{rows_fit}

-- what is taken on goes on with the parts before it
abbrev joined : TablePart → TakenParts → TakenParts
joined part before = record { point = before.point; next = part.part + 1; limit = before.limit; rows = before.rows ++ part.rows }

module _ (again : (limit : ℕ) (path : Path) → fold row_added (empty_table limit) (fold_of limit path).rows ≡ fold_of limit path)
    (link : Link) (t : Taking) (names : Named) (part : TablePart) (is_true : IsTruePart link part names) where
  rows_are : part.rows ≡ rows_in_part (rows_of names) part.part
  rows_are = ap (λ q. q.rows) is_true.is_part

  -- number 0 begins the table anew
  begins : (p : Option TakenParts) → (part.part == 0) ≡ true → before_part p part ≡ begun_by part
  begins None zero_is = refl
  begins (Some q) zero_is = ap (λ b. cond b (begun_by part) q) zero_is

  first_taken : (p : Option TakenParts) → (part.part == 0) ≡ true
      → TakesPartsOf link (Some (with_part p part)) (record { names = names; next = part.part + 1 })
  first_taken p zero_is =
      let zeroth : part.part ≡ 0 = eqb-true part.part 0 zero_is in
      let t_new : Taking = record { names = names; next = part.part + 1 } in
      let R : List Row = rows_of names in
      let first_rows : part.rows ≡ take (32 * (part.part + 1)) R =
      rows_are ∙ ap (λ n. rows_in_part R n) zeroth ∙ sym (ap (λ n. take (32 * (n + 1)) R) zeroth) in
      subst (λ before. TakesPartsOf link (Some (joined part before)) t_new) (sym (begins p zero_is)) (record {
        point = ap (λ q. q.point) is_true.is_part;
        next = refl;
        limit = ap (λ q. q.limit) is_true.is_part;
        rows = first_rows;
      })

  -- the next number of the same table
  later_taken : (p : Option TakenParts) → TakesPartsOf link p t → (part.part == 0) ≡ false → part.part ≡ t.next → names ≡ t.names
      → TakesPartsOf link (Some (with_part p part)) (record { names = t.names; next = part.part + 1 })
  later_taken None was zero_not next_is names_is =
      absurd (eqb-false part.part 0 zero_not (next_is ∙ sym was.next))
  later_taken (Some q) was zero_not next_is names_is =
      let t_new : Taking = record { names = t.names; next = part.part + 1 } in
      let R : List Row = rows_of t.names in
      let n : ℕ = part.part in
      let before_rows : q.rows ≡ take (32 * n) R = was.rows ∙ sym (ap (λ k. take (32 * k) R) next_is) in
      let more_rows : part.rows ≡ take 32 (drop (32 * n) R) = rows_are ∙ ap (λ m. rows_in_part (rows_of m) n) names_is in
      let further : 32 * n + 32 ≡ 32 * (n + 1) = omega arith in
      let all_rows : q.rows ++ part.rows ≡ take (32 * (n + 1)) R =
      ap (λ rows. rows ++ part.rows) before_rows ∙ ap (λ rows. take (32 * n) R ++ rows) more_rows
      ∙ sym (take-add (32 * n) 32 R) ∙ ap (λ k. take k R) further in
      subst (λ before. TakesPartsOf link (Some (joined part before)) t_new) (sym (ap (λ b. cond b (begun_by part) q) zero_not)) (record {
        point = was.point;
        next = refl;
        limit = was.limit;
        rows = all_rows;
      })

  -- a part that is taken and is not number 0 is the next one of the same table
  record IsNext : Type 0 where
    next_is : part.part ≡ t.next
    names_is : names ≡ t.names

  goes_on : GoesOn link t part names → (part.part == 0) ≡ false → (b : Bool) → same_point part.point (point_taken link t) ≡ b
      → cond b (part.part == t.next) (part.part == 0) ≡ true → IsNext
  goes_on on zero_not true same is =
      record { next_is = eqb-true part.part t.next is; names_is = on (let ne = eqb-false part.part 0 zero_not in omega (arith, ne)) same }
  goes_on on zero_not false same is = absurd (eqb-false part.part 0 zero_not (eqb-true part.part 0 is))

  record IsGoingOn (p : Option TakenParts) : Type 0 where
    takes : TakesPartsOf link (Some (with_part p part)) (taken_with t part names)
    names_are : (taken_with t part names).names ≡ names

  going_on : (p : Option TakenParts) → TakesPartsOf link p t → GoesOn link t part names → is_taken link t part ≡ true
      → (b : Bool) → (part.part == 0) ≡ b → IsGoingOn p
  going_on p was on is true zero_is =
      record {
        takes = subst (λ b. TakesPartsOf link (Some (with_part p part)) (record { names = cond b names t.names; next = part.part + 1 })) (sym zero_is) (first_taken p zero_is);
        names_are = ap (λ b. cond b names t.names) zero_is;
      }
  going_on p was on is false zero_not =
      let n = goes_on on zero_not (same_point part.point (point_taken link t)) refl is in
      record {
        takes = subst (λ b. TakesPartsOf link (Some (with_part p part)) (record { names = cond b names t.names; next = part.part + 1 })) (sym zero_not) (later_taken p was zero_not n.next_is n.names_is);
        names_are = ap (λ b. cond b names t.names) zero_not ∙ sym n.names_is;
      }

  -- all parts together are the table
  made_whole : (p : Option TakenParts) → IsGoingOn p → (part.part + 1 == part.parts) ≡ true
      → table_of (with_part p part) ≡ fold_of (taken_with t part names).names.limit names.path
  made_whole p on is_last =
      let w : TakenParts = with_part p part in
      let m : Named = (taken_with t part names).names in
      let R : List Row = rows_of m in
      let all : part.part + 1 ≡ parts_of R =
      eqb-true (part.part + 1) part.parts is_last ∙ ap (λ q. q.parts) is_true.is_part ∙ sym (ap (λ k. parts_of (rows_of k)) on.names_are) in
      let fits : length R ≤ 32 * (part.part + 1) = subst (λ k. length R ≤ 32 * k) (sym all) (rows_fit R) in
      let rows_whole : w.rows ≡ R = on.takes.rows ∙ take_all (32 * (part.part + 1)) R fits in
      ap (λ k. fold row_added (empty_table k) w.rows) on.takes.limit ∙ ap (λ rows. fold row_added (empty_table m.limit) rows) rows_whole
      ∙ again m.limit m.path ∙ ap (λ k. fold_of m.limit k.path) on.names_are

  -- the part is expected where the model takes it
  as_expected : (p : Option TakenParts) → TakesPartsOf link p t → is_expected p part ≡ is_taken link t part
  as_expected p was =
      ap (λ point. cond (same_point part.point point) (part.part == expected_next p) (part.part == 0)) was.point
      ∙ ap (λ n. cond (same_point part.point (point_taken link t)) (part.part == n) (part.part == 0)) was.next

  abbrev after : Option TakenParts → Bool → Bool → Option TakenParts × TakePart
  after p b last =
      cond b (cond last (None, Whole (table_of (with_part p part))) (Some (with_part p part), Taken (part.part + 1)))
      (p, Other (expected_point p) (expected_next p))

  -- what came of the part is what the model says
  pub takes_as : (p : Option TakenParts) → TakesPartsOf link p t → GoesOn link t part names
      → TakesAs link t part names (take_part p part).0 (take_part p part).1
  takes_as p was on =
      let last : Bool = part.part + 1 == part.parts in
      let e : is_expected p part ≡ is_taken link t part = as_expected p was in
      record {
        other = λ no.
            let here : after p (is_expected p part) last ≡ (p, Other (expected_point p) (expected_next p)) = ap (λ b. after p b last) (e ∙ no) in (
              ap (λ r. r.1) here ∙ ap (λ point. Other point (expected_next p)) was.point ∙ ap (λ n. Other (point_taken link t) n) was.next,
              subst (λ q. TakesPartsOf link q t) (sym (ap (λ r. r.0) here)) was,
            );
        taken = λ yes more.
            let here : after p (is_expected p part) last ≡ (Some (with_part p part), Taken (part.part + 1)) =
            ap (λ b. after p b last) (e ∙ yes) ∙ ap (λ b. after p true b) more in (
              ap (λ r. r.1) here,
              subst (λ q. TakesPartsOf link q (taken_with t part names)) (sym (ap (λ r. r.0) here)) (going_on p was on yes (part.part == 0) refl).takes,
            );
        whole = λ yes is_last.
            let here : after p (is_expected p part) last ≡ (None, Whole (table_of (with_part p part))) =
            ap (λ b. after p b last) (e ∙ yes) ∙ ap (λ b. after p true b) is_last in (
              ap (λ r. r.1) here ∙ ap Whole (made_whole p (going_on p was on yes (part.part == 0) refl) is_last),
              ap (λ r. r.0) here,
            );
      }
